-- `part` meets its contract: a token row has the content of its row of table 1.
use mathlib.Core.Path.{sym, ◌∙◌}
use Rattle.star_lex.specs.Answer.{is_some}
use Rattle.star_lex.specs.Table.{or_empty, start_in}
use Rattle.star_rows.proofs.Words.{word_row}
use Rattle.star_find.specs.Find.{content_at}
use Rattle.star_find.proofs.Looking.{row-bounds}
use Rattle.star_find.proofs.Contents.part.Goals as goal

pub returns-then-not-is_row : goal.returns-then-not-is_row
unfolding content_at is_some or_empty
returns-then-not-is_row c = let z = sym c.is_row.ensures ∙ c.if-not-is_row.true in record { result_value = rw z; ref_ptr_value = rw z }

pub overflow_sub-row : goal.overflow_sub-row
overflow_sub-row c = (row-bounds _ _ (sym c.is_row.ensures ∙ c.if-not-is_row.false)).0

pub returns : goal.returns
unfolding content_at start_in
returns c = let z = sym c.is_row.ensures ∙ c.if-not-is_row.false in record { result_value = rw z c.content.ensures.result_value; ref_ptr_value = rw (z, word_row _ 3 _ 1 (row-bounds _ _ z).0) c.content.ensures.ref_ptr_value }
