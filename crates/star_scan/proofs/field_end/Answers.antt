-- `field_end` meets its contract: a field closes at a line end or not before the next.
use mathlib.Core.Path.{sym, ◌∙◌}
use native.Mathlib.Omega.{arith}
use Rattle.star_lex.specs.Rules.{today}
use Rattle.star_lex.proofs.Closing.{field-line, field-over}
use Rattle.star_scan.proofs.field_end.Goals as goal

pub returns-then-at-file : goal.returns-then-at-file
returns-then-at-file c = λ classes.
    sym (field-over _ _ c.line_end-at.result today c.if-at-file.true) ∙ (c.line_end-at.ensures.line_end classes).closes ∙ c.loop-next.invariant classes

pub overflow_add-next : goal.overflow_add-next
overflow_add-next c = omega (arith, c.line_end_length.ensures.lower_bound.1)

pub returns-then-byte_at : goal.returns-then-byte_at
returns-then-byte_at c = λ classes.
    let ends = (c.line_end-at.ensures.line_end classes).ends c.if-at-file.false in
    sym (field-line today _ _ c.line_end-at.result c.if-at-file.false ends
    ∙ rw (sym (c.line_end_length.ensures.value c.if-at-file.false ends), sym c.byte_at.ensures ∙ c.if-byte_at.true))
    ∙ (c.line_end-at.ensures.line_end classes).closes
    ∙ c.loop-next.invariant classes

pub loop-next-smaller : goal.loop-next-smaller
loop-next-smaller c = omega (arith, c.line_end-at.ensures.lower_bound, c.line_end_length.ensures.lower_bound.0)

pub loop-next-preserved : goal.loop-next-preserved
loop-next-preserved c = λ classes.
    let ends = (c.line_end-at.ensures.line_end classes).ends c.if-at-file.false in
    sym (field-line today _ _ c.line_end-at.result c.if-at-file.false ends
    ∙ rw (sym (c.line_end_length.ensures.value c.if-at-file.false ends), sym c.byte_at.ensures ∙ c.if-byte_at.false))
    ∙ (c.line_end-at.ensures.line_end classes).closes
    ∙ c.loop-next.invariant classes

pub returns : goal.returns
returns c = λ classes. sym (field-over _ _ c.loop-next.next today c.loop-next-test.false) ∙ c.loop-next.invariant classes
