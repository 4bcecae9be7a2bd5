-- `read_as` meets its contract: on a refusal the tables are cleared.
use mathlib.Core.Path.{sym, ◌∙◌, subst}
use Rattle.star_text.specs.Outcome.{refused}
use Rattle.star_read.specs.Answer.{held, sizes, Leaves}
use Rattle.star_read.proofs.Lent.{same-sizes, leaves-refused}
use Rattle.star_read.proofs.read_as.Goals as goal

pub returns-then-is_err-clause-gives : goal.returns-then-is_err-clause-gives
returns-then-is_err-clause-gives c =
    let tried = c.try_read-read in
    let k = same-sizes _ _ tried.ensures.same in
    let t = held c.clear_tables.new.tables in
    record {
      answer = tried.ensures.tries.answer;
      leaves = leaves-refused _ tried.result (sizes (held c.args.tables.now)) t (sym c.is_err.ensures.value ∙ c.if-is_err.true) tried.ensures.tries.answer
          (λ n place. subst (λ w. Leaves (refused n place) w t) k (c.clear_tables.ensures.leaves n place));
    }
