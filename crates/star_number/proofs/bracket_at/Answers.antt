-- `bracket_at` meets its contract.
use mathlib.Core.Path.{◌≡◌, sym, ◌∙◌, ap}
use mathlib.Core.Bool.{Bool, true, false, cond}
use Prim.Native.Nat.{◌+◌}
use native.Mathlib.Omega.{arith}
use lib.ListN.{drop}
use Rattle.star_number.specs.Taken.{is_single, bracket_at}
use Rattle.star_number.specs.Held.{Digits, Bad, bracket_held}
use Rattle.star_number.proofs.Closing.{bracket-absent, bracket-other, bracket-empty, bracket-closed}
use Rattle.star_number.proofs.Digits.{digits-within}
use Rattle.star_number.proofs.Places.{rest_all, single-told}
use Rattle.star_number.proofs.bracket_at.Goals.{After-digits-run, After-eq}
use Rattle.star_number.proofs.bracket_at.Goals as goal

pub returns-then-content-at : goal.returns-then-content-at
returns-then-content-at c = sym (bracket-absent _ _ c.if-content-at.true)

pub returns-then-content-at-ne40 : goal.returns-then-content-at-ne40
returns-then-content-at-ne40 c = sym (bracket-other _ _ c.if-content-at.false c.if-content-at-ne40.true)

pub returns-then-run-at : goal.returns-then-run-at
returns-then-run-at c =
    sym (bracket-empty _ _ c.if-content-at.false c.if-content-at-ne40.false c.digits-run.result c.digits-run.ensures c.if-run-at.true)

pub slice_bounds-eq-count : goal.slice_bounds-eq-count
slice_bounds-eq-count c = (digits-within c.args.content.now 0 (c.args.at + 1) c.digits-run.result c.digits-run.ensures (omega arith)).1

pub slice_bounds-eq-start : goal.slice_bounds-eq-start
slice_bounds-eq-start c = (digits-within c.args.content.now 0 (c.args.at + 1) c.digits-run.result c.digits-run.ensures (omega arith)).1

-- by whether the closing one ends the content
closed : (c : After-eq) (t : Bool) → c.eq.result ≡ t
    → cond t (Digits c.digits-run.result.value) Bad ≡ bracket_held (bracket_at (drop c.args.at c.args.content.now))
closed c t e =
    sym (bracket-closed _ _ c.if-content-at.false c.if-content-at-ne40.false c.digits-run.result c.digits-run.ensures c.if-run-at.false t
    (ap (is_single 41) (sym (rest_all c.args.content.now c.digits-run.result.end)) ∙ (single-told 41 _ _ _ c.as_slice.ensures c.eq.ensures ∙ e)))

pub returns-then-eq : goal.returns-then-eq
returns-then-eq c = closed (goal.at.returns-then-eq c).After-eq true c.if-eq.true

pub returns-else-eq : goal.returns-else-eq
returns-else-eq c = closed (goal.at.returns-else-eq c).After-eq false c.if-eq.false
