-- `uncertain` meets its contract.
use mathlib.Core.Path.{sym, ◌∙◌}
use Rattle.star_number.specs.Held.{uncertain_held}
use Rattle.star_number.proofs.Ranges.{whole_in_range}
use Rattle.star_number.proofs.decimal.Decimal.uncertain.Goals.{else-takes-via-then-takes+else-takes-2, else-takes-via-else-takes}
use Rattle.star_number.proofs.decimal.Decimal.uncertain.Goals as goal

pub float-requires : goal.float-requires
float-requires c = whole_in_range _ _ (sym c.takes.ensures ∙ c.if-takes.true)

pub scale-requires : goal.scale-requires
scale-requires c = whole_in_range _ _ (sym c.takes-then-takes.ensures ∙ c.if-takes-2.true)

pub returns-then-takes-2 : goal.returns-then-takes-2
unfolding uncertain_held
returns-then-takes-2 c =
    rw (c.float.ensures, c.scale.ensures, sym c.takes.ensures ∙ c.if-takes.true, sym c.takes-then-takes.ensures ∙ c.if-takes-2.true)

pub returns-else-takes : goal.returns-else-takes
unfolding uncertain_held
returns-else-takes c =
    elim c.else-takes.branch [
      | else-takes-via-then-takes+else-takes-2 w ↦ rw (sym c.takes.ensures ∙ w.if-takes.true, sym w.takes-then-takes.ensures ∙ w.if-takes-2.false)
      | else-takes-via-else-takes w ↦ rw (sym c.takes.ensures ∙ w.if-takes.false)
    ]
