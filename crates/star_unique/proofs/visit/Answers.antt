-- `visit` meets its contract: the token's sort, hash and scope say where it is looked for.
use mathlib.Core.Path.{◌≡◌, sym, ◌∙◌, ap}
use Prim.Native.Nat.{◌+◌, ◌*◌, ◌/◌, ◌%◌, ◌≤◌, ◌<◌}
use native.Mathlib.Omega.{arith}
use lib.ListN.{get_or}
use Rattle.star_unique.specs.Chain.{sort_at, floor_of, kinds_in, token_by}
use Rattle.star_lex.proofs.Held.{count_small}
use Rattle.star_unique.proofs.Marking.{sort-here, visit-plain, visit-taken, visit-new, follows-from, last-small, sign_small}
use Rattle.star_unique.specs.Sorts.{number, number_of}
use Rattle.star_unique.specs.declared.Sort.{Sort}
use Rattle.star_unique.specs.declared.Sort.TheVariants.{BlockCode, FrameCode, Name, FrameName}
use Rattle.star_unique.proofs.visit.Goals.{After-hash-h}
use Rattle.star_unique.proofs.visit.Goals as goal

pub returns-in_default : goal.returns-in_default
returns-in_default c =
    visit-plain _ _ _ _ _ c.requires.marked c.requires.heads c.requires.n_lt_count (sym (c.sort_of.ensures ∙ sort-here _ _ _ _ _ c.requires.marked c.requires.n_lt_count _ c.requires.scope_value) ∙ ap number_of c.in_default.is)

-- the number of a sort is none of 0
some_sort : (sort : Sort) → number sort ≡ 0 → ⊥
some_sort BlockCode e = omega arith
some_sort FrameCode e = omega arith
some_sort Name e = omega arith
some_sort FrameName e = omega arith

-- the sort is that of the token; its sign is small, and so is the last row of its bucket
sort-right : (c : After-hash-h) → c.number-number.result ≡ sort_at (token_by c.args.file.now (kinds_in c.args.tokens.now)) c.args.n
sort-right c =
    c.number-number.ensures ∙ sym (ap number_of c.in-Some.is) ∙ c.sort_of.ensures ∙ sort-here _ _ _ _ _ c.requires.marked c.requires.n_lt_count _ c.requires.scope_value

sort-some : (c : After-hash-h) → c.number-number.result ≡ 0 → ⊥
sort-some c e = some_sort c.in-Some.sort (sym c.number-number.ensures ∙ e)

sign-right : (c : After-hash-h) → c.number-number.result + c.hash-h.result / 4096 * 16 < 4096
sign-right c =
    sign_small _ _ _ _ _ c.requires.marked c.requires.heads c.requires.n_lt_count _ (sort-right c) (sort-some c) _ c.span-bytes.ensures _ c.hash-h.ensures

last-right : (c : After-hash-h) → get_or c.args.heads.now (c.hash-h.result % 4096) 0 ≤ c.args.n
last-right c =
    last-small _ _ _ _ _ c.requires.marked c.requires.heads c.requires.n_lt_count _ (sort-right c) (sort-some c) _ c.span-bytes.ensures _ c.hash-h.ensures

pub overflow_add-sign : goal.overflow_add-sign
overflow_add-sign c = omega (arith, sign-right c)

pub bounds-heads-b : goal.bounds-heads-b
bounds-heads-b c = omega (arith, c.requires.heads.size)

pub follow-requires : goal.follow-requires
follow-requires c =
    let asks = follows-from _ _ _ _ _ c.requires.marked c.requires.heads c.requires.n_lt_count _ (sort-right (goal.at.follow-requires c).After-hash-h) (sort-some (goal.at.follow-requires c).After-hash-h) _ c.span-bytes.ensures _ c.hash-h.ensures in
    record { marked = c.requires.marked; n_le_count = omega (arith, c.requires.n_lt_count); fact = asks.0; sign_value = asks.1; last_value = asks.2 }

pub returns-then-follow : goal.returns-then-follow
returns-then-follow c =
    let floor = c.floor_of.ensures ∙ ap (floor_of c.args.scope) (sym c.number-number.ensures) ∙ ap (λ u. floor_of u c.number-number.result) c.requires.scope_value in
    visit-taken _ _ _ _ _ c.requires.marked c.requires.heads c.requires.n_lt_count _ (sort-right (goal.at.returns-then-follow c).After-hash-h) (sort-some (goal.at.returns-then-follow c).After-hash-h) _ c.span-bytes.ensures _ c.hash-h.ensures _ floor
    (sym c.if-follow.true ∙ c.follow.ensures)

pub overflow_mul-tokens : goal.overflow_mul-tokens
overflow_mul-tokens c =
    omega (arith, last-right (goal.at.overflow_mul-tokens c).After-hash-h, sign-right (goal.at.overflow_mul-tokens c).After-hash-h, c.requires.n_lt_count, count_small _ _ _ c.requires.marked.spans.table)

pub overflow_add-tokens : goal.overflow_add-tokens
overflow_add-tokens c =
    omega (arith, last-right (goal.at.overflow_add-tokens c).After-hash-h, sign-right (goal.at.overflow_add-tokens c).After-hash-h, c.requires.n_lt_count, count_small _ _ _ c.requires.marked.spans.table)

pub overflow_cast-heads : goal.overflow_cast-heads
overflow_cast-heads c =
    omega (arith, c.requires.n_lt_count, count_small _ _ _ c.requires.marked.spans.table)

pub overflow_add-heads : goal.overflow_add-heads
overflow_add-heads c =
    omega (arith, c.requires.n_lt_count, count_small _ _ _ c.requires.marked.spans.table)

pub bounds-heads-b-2 : goal.bounds-heads-b-2
bounds-heads-b-2 c = omega (arith, c.requires.heads.size)

pub returns : goal.returns
returns c =
    let floor = c.floor_of.ensures ∙ ap (floor_of c.args.scope) (sym c.number-number.ensures) ∙ ap (λ u. floor_of u c.number-number.result) c.requires.scope_value in
    visit-new _ _ _ _ _ c.requires.marked c.requires.heads c.requires.n_lt_count _ (sort-right (goal.at.returns c).After-hash-h) (sort-some (goal.at.returns c).After-hash-h) _ c.span-bytes.ensures _ c.hash-h.ensures _ floor
    (sym c.if-follow.false ∙ c.follow.ensures)
