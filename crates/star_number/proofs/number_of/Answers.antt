-- `number_of` meets its contract.
use mathlib.Core.Path.{sym, ◌∙◌}
use borrow.Author.Tests.{eq-eqb, ne_eqb}
use Rattle.star_number.specs.Taken.{number_in}
use Rattle.star_number.proofs.Places.{single-told}
use Rattle.star_number.proofs.number_of.Goals.{Else-kind-number}
use Rattle.star_number.proofs.number_of.Goals as goal

pub returns-then-kind-number : goal.returns-then-kind-number
unfolding number_in
returns-then-kind-number c = rw (ne_eqb c.args.kind 7 (λ q. c.if-kind-number.true (q ∙ sym c.number.ensures)))

pub returns-then-eq : goal.returns-then-eq
unfolding number_in
returns-then-eq c =
    rw (
      eq-eqb _ 7 (c.if-kind-number.false ∙ c.number.ensures),
      single-told 63 c.args.content.now _ _ c.as_slice.ensures c.eq.ensures ∙ c.if-eq.true,
    )

pub returns-then-eq-2 : goal.returns-then-eq-2
unfolding number_in
returns-then-eq-2 c =
    rw (
      eq-eqb _ 7 (c.if-kind-number.false ∙ c.number.ensures),
      single-told 63 c.args.content.now _ _ c.as_slice.ensures c.eq.ensures ∙ c.if-eq.false,
      single-told 46 c.args.content.now _ _ c.as_slice-2.ensures c.eq-2.ensures ∙ c.if-eq-2.true,
    )

pub returns : goal.returns
unfolding number_in
returns c =
    rw (
      eq-eqb _ 7 (c.if-kind-number.false ∙ c.number.ensures),
      single-told 63 c.args.content.now _ _ c.as_slice.ensures c.eq.ensures ∙ c.if-eq.false,
      single-told 46 c.args.content.now _ _ c.as_slice-2.ensures c.eq-2.ensures ∙ c.if-eq-2.false,
    )
    (c.unwrap_or.ensures ∙ c.word_number.ensures)
