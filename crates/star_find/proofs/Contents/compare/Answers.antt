-- `compare` meets its contract: a part that is inside is compared.
use mathlib.Core.Path.{sym, ◌∙◌, ap}
use mathlib.Core.Option.{some}
use Rattle.std.proofs.Common.{Ok}
use Rattle.star_text.specs.Compare.{compare_of}
use Rattle.star_lex.proofs.Table.{some_of}
use Rattle.star_find.specs.Find.{match_of}
use Rattle.star_find.proofs.Looking.{is_none, compared-same}
use Rattle.star_find.proofs.Contents.compare.Goals as goal

pub returns-then-not-has_part : goal.returns-then-not-has_part
unfolding match_of
returns-then-not-has_part c = rw (is_none _ (sym c.has_part.ensures ∙ c.if-not-has_part.true))

pub returns : goal.returns
unfolding match_of compare_of
returns c =
    rw (some_of _ (sym c.has_part.ensures ∙ c.if-not-has_part.false) ∙ ap some (sym c.part.ensures.result_value))
    (ap Ok (ap (λ r. r.equal) c.compare.ensures) ∙ compared-same _)
