-- `next_is` meets its contract: the row at the place begins with the token's kind, and past the last row no token stands.
use mathlib.Core.Path.{sym, ◌∙◌}
use borrow.Author.Tests.{le-ltb}
use denote.Enum.Bare.{same_true, same_false}
use Rattle.std.proofs.Common.{rules}
use Rattle.star_grammar.specs.contracts.sort.Sort.{the_type}
use Rattle.std.proofs.lemmas.Bool.{false≢true}
use Rattle.star_parse.proofs.Coded.{ahead-own, ahead-other, ahead-none}
use Rattle.star_parse.proofs.progress.next_is.Goals as goal

pub returns-then-row-count : goal.returns-then-row-count
returns-then-row-count c =
    let own = c.from.ensures in
    record {
      is = λ e. ahead-own _ _ _ c.from.result c.if-row-count.true own c.args.sort (same_true the_type (search rules) _ _ (sym c.eq.ensures ∙ e));
      not = λ e. ahead-other _ _ _ c.from.result c.if-row-count.true own c.args.sort (same_false the_type _ _ (sym c.eq.ensures ∙ e));
    }

pub returns-else-row-count : goal.returns-else-row-count
returns-else-row-count c =
    record {
      is = λ e. absurd (false≢true (sym (le-ltb _ _ c.if-row-count.false) ∙ e));
      not = λ _. ahead-none _ _ _ c.args.sort c.if-row-count.false;
    }
