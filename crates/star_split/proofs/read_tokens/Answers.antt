-- `read_tokens` meets its contract: the table is cleared behind the tokens that are counted.
use mathlib.Core.Path.{◌≡◌, refl, ◌∙◌}
use Prim.Native.Nat.{ℕ}
use lib.ListN.{length}
use Rattle.std.specs.Prelude.{Result, Ok, Err}
use Rattle.std.specs.Result.{result_unwrap_or}
use Rattle.star_text.specs.declared.refusal.Refusal.{Refusal}
use Rattle.star_lex.specs.Rules.{today}
use Rattle.star_lex.specs.Answer.{tokens_answer, tokens_in}
use Rattle.star_lex.proofs.Answers.{answer-counts, in-fits, cleared-table}
use Rattle.star_split.proofs.read_tokens.Goals as goal

counted : (r : Result ℕ Refusal) → result_unwrap_or r 0 ≡ (tokens_answer r).count
counted (Ok n) = refl
counted (Err r) = refl

pub returns : goal.returns
returns c =
    let split = c.split_in-found in
    let outcome = tokens_in c.args.file.now (length c.args.table.now) in
    record {
      answer = split.ensures.value;
      table = c.clear_from.ensures 0 (λ _ e. e)
          ∙ cleared-table outcome c.args.table.now _ _ (c.unwrap_or-count.ensures ∙ counted split.result ∙ answer-counts outcome _ split.ensures.value) split.auto.table
          (λ ps e. (split.ensures.table_after ps e, (in-fits today c.args.file.now (length c.args.table.now) ps e).2));
    }
