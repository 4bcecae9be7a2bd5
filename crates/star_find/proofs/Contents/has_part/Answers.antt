-- `has_part` meets its contract: a row that is none has no content.
use Rattle.std.proofs.Common.{sym, ◌∙◌}
use Rattle.star_find.specs.Find.{content_at}
use Rattle.star_lex.specs.Answer.{is_some}
use Rattle.star_find.proofs.Contents.has_part.Goals as goal

pub returns-else-is_row : goal.returns-else-is_row
unfolding content_at is_some
returns-else-is_row c = rw (sym c.is_row.ensures ∙ c.if-is_row.false) c.if-is_row.false
