-- `clear_tables` meets its contract: each table is filled with 0.
use Rattle.star_read.specs.Answer.{tables_of}
use Rattle.star_read.proofs.clear_tables.Goals as goal

pub returns-clause-leaves : goal.returns-clause-leaves
unfolding tables_of
returns-clause-leaves c =
    λ n place. record {
      tokens = c.fill.ensures.after (λ y e. e);
      sets = c.fill-2.ensures.after (λ y e. e);
      names = c.fill-3.ensures.after (λ y e. e);
      packets = c.fill-4.ensures.after (λ y e. e);
      values = c.fill-5.ensures.after (λ y e. e);
    }
