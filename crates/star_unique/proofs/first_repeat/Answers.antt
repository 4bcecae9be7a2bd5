-- `first_repeat` meets its contract: it marks the tokens before the first repeat, and puts their kinds back.
use mathlib.Core.Path.{◌∙◌}
use native.Mathlib.Omega.{arith}
use Rattle.star_unique.specs.Repeat.{nothing}
use Rattle.star_unique.specs.Chain.{kinds_in, with_kinds}
use Rattle.star_lex.specs.Holds.{file_tokens}
use Rattle.star_lex.proofs.Held.{count-tokens}
use Rattle.star_unique.proofs.KindWords.{length-kinds}
use Rattle.star_unique.proofs.Clean.{repeat-within}
use Rattle.star_unique.proofs.Marking.{heads-start}
use Rattle.star_unique.proofs.first_repeat.Goals as goal

pub mark-n-requires : goal.mark-n-requires
mark-n-requires c = record { plain = c.requires; heads = heads-start c.args.file.now _ }

pub unmark-requires : goal.unmark-requires
unmark-requires c =
    let file = c.args.file.now in
    let kinds = kinds_in c.args.tokens.now in
    record { spans = c.mark-n.ensures.spans; rows_le_count = omega (arith, c.mark-n.ensures.value, repeat-within nothing (with_kinds kinds 0 (file_tokens file)), length-kinds kinds 0 (file_tokens file), count-tokens _ _ _ c.requires.spans.table) }

pub returns : goal.returns
returns c =
    record { value = c.mark-n.ensures.value; tokens_unchanged = c.unmark.ensures ∙ c.mark-n.ensures.tokens_after }
