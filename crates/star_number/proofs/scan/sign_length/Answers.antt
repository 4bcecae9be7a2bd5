-- `sign_length` meets its contract.
use mathlib.Core.Path.{sym, ◌∙◌}
use Rattle.star_text.proofs.Run.{never}
use Rattle.star_number.specs.Pieces.{sign_bytes}
use Rattle.star_number.specs.Taken.{sign_at}
use Rattle.star_number.proofs.scan.sign_length.Goals.{then-byte_at, else-byte_at}
use Rattle.star_number.proofs.scan.sign_length.Goals as goal

pub returns-then-byte_at-2 : goal.returns-then-byte_at-2
unfolding sign_at sign_bytes
returns-then-byte_at-2 c =
    elim c.if-byte_at.branch [
      | then-byte_at w ↦ rw (sym c.byte_at.ensures ∙ w.if-byte_at.true)
      | else-byte_at w ↦ rw (sym c.byte_at.ensures ∙ w.if-byte_at.false, sym w.byte_at-else-byte_at.ensures ∙ sym w.value-is ∙ c.if-byte_at-2.true)
    ]

pub returns-else-byte_at-2 : goal.returns-else-byte_at-2
unfolding sign_at sign_bytes
returns-else-byte_at-2 c =
    elim c.if-byte_at.branch [
      | then-byte_at w ↦ absurd (never (sym c.if-byte_at-2.false ∙ w.value-is ∙ w.if-byte_at.true))
      | else-byte_at w ↦ rw (sym c.byte_at.ensures ∙ w.if-byte_at.false, sym w.byte_at-else-byte_at.ensures ∙ sym w.value-is ∙ c.if-byte_at-2.false)
    ]
