-- `indent` meets its contract, by the tests on the kind and the first byte.
use mathlib.Core.Path.{sym, ◌∙◌}
use borrow.Author.Tests.{eq-eqb, ne_eqb}
use Rattle.star_lex.specs.Plain.{indent}
use Rattle.star_plain.proofs.token.indent.Goals.{else-kind-number-via-then-kind-number+else-byte_at, else-kind-number-via-else-kind-number}
use Rattle.star_plain.proofs.token.indent.Goals as goal

pub returns-then-byte_at : goal.returns-then-byte_at
unfolding indent
returns-then-byte_at c = rw (eq-eqb _ 7 (c.if-kind-number.true ∙ c.number.ensures), sym c.byte_at.ensures ∙ c.if-byte_at.true)

pub returns-else-kind-number : goal.returns-else-kind-number
unfolding indent
returns-else-kind-number c =
    elim c.else-kind-number.branch [
      | else-kind-number-via-then-kind-number+else-byte_at w ↦ rw (eq-eqb _ 7 (w.if-kind-number.true ∙ c.number.ensures), sym w.byte_at.ensures ∙ w.if-byte_at.false)
      | else-kind-number-via-else-kind-number w ↦ rw (ne_eqb _ 7 (λ q. w.if-kind-number.false (q ∙ sym c.number.ensures)))
    ]
