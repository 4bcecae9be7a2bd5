-- `close_frames` meets its contract: the rows before the present one have the kinds of today's layout.
use mathlib.Core.Path.{◌≡◌, sym, ◌∙◌}
use mathlib.Core.Bool.{true}
use Prim.Native.Nat.{◌*◌, ◌<◌}
use native.Mathlib.Omega.{arith}
use lib.ListN.{length}
use Rattle.star_text.specs.Bytes.{most_bytes}
use Rattle.star_lex.specs.Room.{has_rows}
use Rattle.star_frames.proofs.Closing.{rows_in, closing-start, closing-size, closing-ready, closing-turn, closing_end, closed_none}
use Rattle.star_frames.proofs.close_frames.Goals.{At-loop-n, In-loop-n}
use Rattle.star_frames.proofs.close_frames.Goals as goal

pub loop-n-init : goal.loop-n-init
loop-n-init c = closing-start _ _ c.outside-p.ensures

known : (c : At-loop-n) → has_rows c.args.count (length c.args.tokens.now) ≡ true
known c = sym c.has_rows.ensures ∙ c.if-has_rows.true

-- in the loop it has this one
row_in : (c : In-loop-n) → (c.loop-n.n * 3 < length c.loop-n.tokens) × (c.loop-n.n < most_bytes)
row_in c =
    let rows = rows_in c.args.count (length c.args.tokens.now) (known (goal.at.overflow_mul-at c).At-loop-n) in
    let size = closing-size _ _ _ _ c.loop-n.invariant in
    (omega (arith, c.loop-n-test.true, rows.0, size), omega (arith, c.loop-n-test.true, rows.1))

pub overflow_mul-at : goal.overflow_mul-at
overflow_mul-at c = omega (arith, row_in c)

pub offset_bounds-tokens-at : goal.offset_bounds-tokens-at
offset_bounds-tokens-at c = omega (arith, row_in c)

pub bounds-tokens-at : goal.bounds-tokens-at
bounds-tokens-at c = omega (arith, row_in (goal.at.bounds-tokens-at c).In-loop-n)

pub offset_bounds-tokens-at-in-loop-n : goal.offset_bounds-tokens-at-in-loop-n
offset_bounds-tokens-at-in-loop-n c = omega (arith, row_in (goal.at.offset_bounds-tokens-at-in-loop-n c).In-loop-n)

pub bounds-tokens-at-in-loop-n : goal.bounds-tokens-at-in-loop-n
bounds-tokens-at-in-loop-n c = omega (arith, row_in (goal.at.bounds-tokens-at-in-loop-n c).In-loop-n)

pub pass-p-requires : goal.pass-p-requires
pass-p-requires c = closing-ready _ _ _ _ c.loop-n.invariant (omega (arith, row_in (goal.at.pass-p-requires c).In-loop-n))

pub loop-n-preserved : goal.loop-n-preserved
loop-n-preserved c =
    closing-turn _ _ _ _ c.loop-n.invariant _ c.today_kind-kind.ensures _ c.pass-p.ensures

pub returns-after-loop-n : goal.returns-after-loop-n
returns-after-loop-n c =
    let end : c.loop-n.n ≡ c.args.count = omega (arith, c.loop-n-test.false) in
    closing_end _ _ _ _ (rw end at c.loop-n.invariant) (known (goal.at.returns-after-loop-n c).At-loop-n)

pub returns-else-has_rows : goal.returns-else-has_rows
returns-else-has_rows c = sym (closed_none _ _ (sym c.has_rows.ensures ∙ c.if-has_rows.false))
