-- `is_indexed` meets its contract: more slots than rows, every slot fits, and each row is in just one.
use mathlib.Core.Path.{◌∙◌, sym}
use Prim.Native.Nat.{ℕ, ◌≤◌, ◌<◌}
use native.Mathlib.Omega.{arith}
use borrow.Author.Tests.{not-true, not-false}
use lib.ListN.{length}
use Rattle.star_text.proofs.Cases.{impossible}
use Rattle.star_slots.specs.Inner.{table_home}
use Rattle.star_slots.proofs.Slots.{table-home}
use Rattle.star_index.proofs.Runs.{fits-no-other, index-few, index-unfit, index-once}
use Rattle.star_index.proofs.is_indexed.Goals.{Start}
use Rattle.star_index.proofs.is_indexed.Goals as goal

-- homes are among the slots
homes : (c : Start) → 0 < length c.args.slots.now → (row : ℕ)
    → table_home c.args.file.now c.args.tokens.now c.args.count c.args.names.now (length c.args.slots.now) row < length c.args.slots.now
homes c h row = table-home c.args.file.now c.args.tokens.now c.args.count c.args.names.now (length c.args.slots.now) row h

pub returns-then-slots-rows : goal.returns-then-slots-rows
returns-then-slots-rows c =
    let few : length c.args.slots.now ≤ c.args.rows = omega (arith, c.if-slots-rows.true) in
    record { value = index-few _ _ _ few; names_unchanged = λ e. impossible cc }

pub returns-then-not-slots_fit : goal.returns-then-not-slots_fit
returns-then-not-slots_fit c =
    record { value = index-unfit _ _ _ (homes (goal.at.returns-then-not-slots_fit c).Start (omega (arith, c.if-slots-rows.false))) (sym c.slots_fit.ensures ∙ not-true c.slots_fit.result c.if-not-slots_fit.true-raw); names_unchanged = λ e. impossible cc }

pub once_each-requires : goal.once_each-requires
once_each-requires c =
    record { unmarked = c.requires; by_index = fits-no-other _ _ _ (homes (goal.at.once_each-requires c).Start (omega (arith, c.if-slots-rows.false))) (sym c.slots_fit.ensures ∙ not-false c.slots_fit.result c.if-not-slots_fit.false-raw) }

pub returns : goal.returns
returns c =
    let once = c.once_each in
    let more : c.args.rows < length c.args.slots.now = omega (arith, c.if-slots-rows.false) in record {
      value = index-once _ _ _ (homes (goal.at.returns c).Start (omega arith)) more (sym c.slots_fit.ensures ∙ not-false c.slots_fit.result c.if-not-slots_fit.false-raw) once.result
          (λ e. (once.ensures.by_index_2 e).0) once.ensures.fact;
      names_unchanged = λ e. (once.ensures.by_index_2 e).1;
    }
