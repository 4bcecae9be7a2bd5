-- `value_row` meets its contract: the first row, and the links from there.
use Rattle.std.proofs.Common.{sym, ◌∙◌, arith, eq-eqb, ne_eqb}
use Rattle.star_find.specs.Find.{refused}
use Rattle.star_value.proofs.Locating.{value-zero, value-first, first-given, first-none}
use Rattle.star_value.proofs.value_row.Goals as goal

pub returns-then-k-eq0 : goal.returns-then-k-eq0
unfolding refused
returns-then-k-eq0 c = sym (value-zero _ _ _ c.args.k (omega (arith, c.if-k-eq0.true)))

pub returns-in-Some : goal.returns-in-Some
returns-in-Some c =
    let p = first-given _ (sym c.in-Some.is ∙ c.first_value.ensures) in
    rw p.0 at c.follow.ensures ∙ sym (value-first _ _ _ c.args.k (omega arith) ∙ (rw (ne_eqb _ 0 p.1)))

pub returns-in-None : goal.returns-in-None
unfolding refused
returns-in-None c =
    let e = first-none _ (sym c.in-None.is ∙ c.first_value.ensures) in
    sym (value-first _ _ _ c.args.k (omega arith) ∙ (rw (eq-eqb _ 0 e)))
