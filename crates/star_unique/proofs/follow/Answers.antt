-- `follow` meets its contract: what is left of the bucket's rows says whether an equal one stands there.
use mathlib.Core.Path.{sym, ◌∙◌, subst}
use Prim.Native.Nat.{◌-◌, ◌%◌}
use native.Mathlib.Omega.{arith}
use Rattle.star_unique.specs.Chain.{kinds_in, token_by}
use Rattle.star_unique.proofs.Marks.{Span, Follows, follow-start, follow-end, turn-hit, turn-miss, turn-less, turn-span}
use Rattle.star_unique.proofs.follow.Goals as goal

pub loop-row-init : goal.loop-row-init
loop-row-init c =
    subst (λ r. Follows (token_by c.args.file.now (kinds_in c.args.tokens.now)) (c.args.sign % 16) c.args.bytes.now c.args.floor c.args.n r)
    (sym c.requires.last_value) (follow-start (token_by c.args.file.now (kinds_in c.args.tokens.now)) _ _ _ _ c.requires.fact)

pub overflow_sub-row : goal.overflow_sub-row
overflow_sub-row c = omega arith

pub is_equal-requires : goal.is_equal-requires
is_equal-requires c =
    record { spans = c.requires.marked.spans; m_lt_count = omega (arith, c.loop-row.invariant.within, c.requires.n_le_count) }

pub returns-then-is_equal : goal.returns-then-is_equal
returns-then-is_equal c =
    let at = c.loop-row in
    turn-hit _ _ _ _ _ _ _ _ at.row c.requires.marked c.requires.fact c.requires.sign_value at.invariant (omega arith) (sym c.is_equal.ensures ∙ c.if-is_equal.true)

pub overflow_sub-row-in-loop-row : goal.overflow_sub-row-in-loop-row
overflow_sub-row-in-loop-row c = omega arith

pub overflow_mul-row : goal.overflow_mul-row
overflow_mul-row c =
    let at = c.loop-row in
    let s : Span c.args.file.now c.args.tokens.now (at.row - 1) = turn-span _ _ _ _ _ _ _ _ at.row c.requires.marked c.requires.fact c.requires.sign_value at.invariant (omega arith) c.requires.n_le_count in
    omega (arith, s.room, s.small, c.requires.n_le_count)

pub offset_bounds-tokens-row : goal.offset_bounds-tokens-row
offset_bounds-tokens-row c =
    let at = c.loop-row in
    let s : Span c.args.file.now c.args.tokens.now (at.row - 1) = turn-span _ _ _ _ _ _ _ _ at.row c.requires.marked c.requires.fact c.requires.sign_value at.invariant (omega arith) c.requires.n_le_count in
    omega (arith, s.room, s.small, c.requires.n_le_count)

pub bounds-tokens-row : goal.bounds-tokens-row
bounds-tokens-row c =
    let at = c.loop-row in
    let s : Span c.args.file.now c.args.tokens.now (at.row - 1) = turn-span _ _ _ _ _ _ _ _ at.row c.requires.marked c.requires.fact c.requires.sign_value at.invariant (omega arith) c.requires.n_le_count in
    omega (arith, s.room)

pub overflow_cast-row-in-loop-row : goal.overflow_cast-row-in-loop-row
overflow_cast-row-in-loop-row c =
    let at = c.loop-row in
    omega (arith, turn-less _ _ _ _ _ _ _ _ at.row c.requires.marked c.requires.fact c.requires.sign_value at.invariant (omega arith), at.invariant.within, c.requires.n_le_count, c.requires.marked.spans.table.count_is)

pub loop-row-smaller : goal.loop-row-smaller
loop-row-smaller c =
    let at = c.loop-row in
    turn-less _ _ _ _ _ _ _ _ at.row c.requires.marked c.requires.fact c.requires.sign_value at.invariant (omega arith)

pub loop-row-preserved : goal.loop-row-preserved
loop-row-preserved c =
    let at = c.loop-row in
    turn-miss _ _ _ _ _ _ _ _ at.row c.requires.marked c.requires.fact c.requires.sign_value at.invariant (omega arith) (sym c.is_equal.ensures ∙ c.if-is_equal.false)

pub returns : goal.returns
returns c =
    follow-end (token_by c.args.file.now (kinds_in c.args.tokens.now)) _ _ _ _ c.requires.fact c.loop-row.row c.loop-row.invariant (omega arith)
