-- `unmark` meets its contract: the kinds up to the present row are put back.
use mathlib.Core.Path.{◌≡◌, refl, ◌∙◌, ap}
use Prim.Native.Nat.{◌*◌, ◌≤◌, ◌<◌}
use native.Mathlib.Omega.{arith}
use lib.ListN.{length}
use Rattle.star_text.specs.Bytes.{most_bytes}
use Rattle.star_unique.specs.Chain.{unmarked}
use Rattle.star_lex.proofs.Held.{count_small}
use Rattle.star_unique.proofs.Marking.{spans-room}
use Rattle.star_unique.proofs.Unmarking.{length-unmarked, unmarked-next}
use Rattle.star_unique.proofs.unmark.Goals.{At-loop-n}
use Rattle.star_unique.proofs.unmark.Goals as goal

pub loop-n-init : goal.loop-n-init
unfolding unmarked
loop-n-init c = refl

kept : (c : At-loop-n) → length c.loop-n.tokens ≡ length c.args.tokens.now
kept c = ap length c.loop-n.invariant ∙ length-unmarked c.loop-n.n c.args.tokens.now

-- the row has its place in the table
room : (c : At-loop-n) → c.loop-n.n < c.args.rows → c.loop-n.n * 3 < length c.loop-n.tokens
room c below = rw (kept c) (spans-room _ _ _ c.requires.spans _ (omega (arith, c.requires.rows_le_count)))

small : (c : At-loop-n) → c.loop-n.n < c.args.rows → c.loop-n.n ≤ most_bytes
small c below = omega (arith, count_small _ _ _ c.requires.spans.table, c.requires.rows_le_count)

pub overflow_mul-n : goal.overflow_mul-n
overflow_mul-n c = omega (arith, small (goal.at.overflow_mul-n c).At-loop-n (omega arith))

pub offset_bounds-tokens-n : goal.offset_bounds-tokens-n
offset_bounds-tokens-n c = omega (arith, small (goal.at.offset_bounds-tokens-n c).At-loop-n (omega arith))

pub bounds-tokens-n : goal.bounds-tokens-n
bounds-tokens-n c = room (goal.at.bounds-tokens-n c).At-loop-n (omega arith)

pub overflow_mul-tokens : goal.overflow_mul-tokens
overflow_mul-tokens c = omega (arith, small (goal.at.overflow_mul-tokens c).At-loop-n (omega arith))

pub offset_bounds-tokens-n-in-loop-n : goal.offset_bounds-tokens-n-in-loop-n
offset_bounds-tokens-n-in-loop-n c = omega (arith, small (goal.at.offset_bounds-tokens-n-in-loop-n c).At-loop-n (omega arith))

pub bounds-tokens-n-in-loop-n : goal.bounds-tokens-n-in-loop-n
bounds-tokens-n-in-loop-n c = room (goal.at.bounds-tokens-n-in-loop-n c).At-loop-n (omega arith)

pub loop-n-preserved : goal.loop-n-preserved
loop-n-preserved c = rw c.kind_of.ensures (unmarked-next _ _ _ c.loop-n.invariant)

pub returns : goal.returns
returns c =
    let end : c.loop-n.n ≡ c.args.rows = omega arith in
    c.loop-n.invariant ∙ ap (λ n. unmarked n c.args.tokens.now) end
