-- `text_field` meets its contract: the field ends within the file exactly where it closes.
use mathlib.Core.Path.{◌≡◌, sym, ◌∙◌}
use mathlib.Core.Bool.{true, false}
use Prim.Native.Nat.{◌+◌, ◌≤◌}
use native.Mathlib.Omega.{arith}
use lib.ListN.{length, get_or, drop}
use Rattle.star_text.specs.Bytes.{is_terminate}
use Rattle.star_lex.specs.Rules.{today}
use Rattle.star_lex.specs.Split.{close_length, line_end, field}
use Rattle.star_lex.specs.Answer.{end_of}
use Rattle.star_lex.proofs.Lexing.{field_open, field-within, field_found}
use Rattle.star_split.proofs.text_field.Goals.{After-line_end_length, Else-end-file}
use Rattle.star_split.proofs.text_field.Goals as goal

-- where the field ends
end_is : (c : Else-end-file)
    → c.field_end-end.result ≡ end_of (length c.args.file.now) (c.args.at + 1) (field today (drop (c.args.at + 1) c.args.file.now))
end_is c = c.field_end-end.ensures c.requires.classes

-- a field that ends within the file: a line end begins there, and what closes the field is of the file
within : (c : Else-end-file)
    → (is_terminate (get_or c.args.file.now c.field_end-end.result 0) ≡ true)
    × (c.field_end-end.result + close_length today (drop c.field_end-end.result c.args.file.now) ≤ length c.args.file.now)
within c =
    field-within c.args.file.now c.args.at c.requires.at_in_bounds c.field_end-end.result (end_is c) c.if-end-file.false

-- how long that line end is
length-is : (c : After-line_end_length) → c.line_end_length.result ≡ line_end today (drop c.field_end-end.result c.args.file.now)
unfolding close_length
length-is c = c.line_end_length.ensures.value (omega (arith, (within (goal.at.overflow_add-next c).Else-end-file).1)) (within (goal.at.overflow_add-next c).Else-end-file).0

pub returns-then-end-file : goal.returns-then-end-file
returns-then-end-file c =
    sym (field_open c.args.file.now c.args.at c.requires.at_in_bounds c.field_end-end.result (c.field_end-end.ensures c.requires.classes) c.if-end-file.true)

pub overflow_add-next : goal.overflow_add-next
unfolding close_length
overflow_add-next c = omega (arith, (within (goal.at.overflow_add-next c).Else-end-file).1, length-is c)

pub overflow_add-next-2 : goal.overflow_add-next-2
unfolding close_length
overflow_add-next-2 c = omega (arith, (within (goal.at.overflow_add-next-2 c).Else-end-file).1, length-is c)

pub overflow_add-result : goal.overflow_add-result
overflow_add-result c = omega arith

pub returns-then-white_at : goal.returns-then-white_at
returns-then-white_at c =
    sym (field_found c.args.file.now c.args.at c.requires.at_in_bounds true c.field_end-end.result c.line_end_length.result
    (end_is (goal.at.returns-then-white_at c).Else-end-file) c.if-end-file.false (length-is (goal.at.returns-then-white_at c).After-line_end_length) (sym (c.white_at.ensures c.requires.classes) ∙ c.if-white_at.true))

pub returns-else-white_at : goal.returns-else-white_at
returns-else-white_at c =
    sym (field_found c.args.file.now c.args.at c.requires.at_in_bounds false c.field_end-end.result c.line_end_length.result
    (end_is (goal.at.returns-else-white_at c).Else-end-file) c.if-end-file.false (length-is (goal.at.returns-else-white_at c).After-line_end_length) (sym (c.white_at.ensures c.requires.classes) ∙ c.if-white_at.false))
