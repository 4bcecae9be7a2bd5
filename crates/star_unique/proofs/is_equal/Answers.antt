-- `is_equal` meets its contract, by the test on the sign and the comparison of the bytes.
use mathlib.Core.Path.{◌∙◌, ap}
use borrow.Author.Tests.{eq-eqb, ne_eqb}
use native.Mathlib.Omega.{arith}
use Rattle.star_text.specs.Compare.{compare_of}
use Rattle.star_unique.proofs.Marks.{Span, spans-at}
use Rattle.star_unique.proofs.is_equal.Goals.{Start}
use Rattle.star_unique.proofs.is_equal.Goals as goal

held : (c : Start) → Span c.args.file.now c.args.tokens.now c.args.m
held c = spans-at _ _ _ c.requires.spans _ c.requires.m_lt_count

pub overflow_mul-m : goal.overflow_mul-m
overflow_mul-m c = omega (arith, (held (goal.at.overflow_mul-m c).Start).room)

pub offset_bounds-tokens-m : goal.offset_bounds-tokens-m
offset_bounds-tokens-m c = omega (arith, (held (goal.at.offset_bounds-tokens-m c).Start).room)

pub bounds-tokens-m : goal.bounds-tokens-m
bounds-tokens-m c = omega (arith, (held (goal.at.bounds-tokens-m c).Start).room)

pub returns-else-tokens-m : goal.returns-else-tokens-m
returns-else-tokens-m c = rw (ne_eqb _ _ c.if-tokens-m.false)

pub returns-then-tokens-m : goal.returns-then-tokens-m
unfolding compare_of
returns-then-tokens-m c =
    ap (λ r. r.equal) c.compare.ensures ∙ rw (eq-eqb _ _ c.if-tokens-m.true, c.span.ensures)
