-- `word` meets its contract: the place of the word does not wrap, and behind the table there is none.
use Rattle.std.proofs.Common.{◌-◌, ◌*◌, ◌≤◌, ap, sym, ◌∙◌, arith}
use Rattle.std.specs.Option.{unwrap_or}
use Rattle.star_rows.proofs.Words.{small_product, word_none, word_row}
use Rattle.star_rows.proofs.word.Goals.{Else-row-eq0}
use Rattle.star_rows.proofs.word.Goals as goal

small : (c : Else-row-eq0) → (c.args.row - 1) * c.args.width ≤ 18446744065119617025
small c = small_product (c.args.row - 1) c.args.width (omega (arith, c.ranges.row)) (omega (arith, c.ranges.width))

pub returns-then-row-eq0 : goal.returns-then-row-eq0
returns-then-row-eq0 c = sym (word_none _ _ _ _ c.if-row-eq0.true)

pub returns : goal.returns
returns c =
    c.unwrap_or.ensures
    ∙ ap (λ o. unwrap_or o 0) c.copied.ensures
    ∙ c.get.ensures.lookup.4 (omega arith) 0
    ∙ sym (word_row _ _ _ _ (omega arith))
