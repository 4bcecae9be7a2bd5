-- `read_rows` meets its contract: what `read_blocks` counts is the answer of an accepted file, and a refused one has no rows.
use mathlib.Core.Path.{◌≡◌, refl, sym, ◌∙◌}
use mathlib.Core.Bool.{true, true≢false}
use lib.ListN.{length}
use Rattle.std.proofs.lemmas.Result.{err_from_is_err_and}
use Rattle.star_lex.specs.Room.{has_rows}
use Rattle.star_grammar.specs.Tables.{linked}
use Rattle.star_grammar.proofs.Linking.{length-linked}
use Rattle.star_parse.specs.Parsed.{rows_run}
use Rattle.star_parse.proofs.Coded.{number-some}
use Rattle.star_parse.proofs.RunKinds.{has-rows-fits}
use Rattle.star_parse.proofs.read_rows.Goals.{Else-not-has_rows}
use Rattle.star_parse.proofs.read_rows.Goals as goal

pub returns-then-not-has_rows : goal.returns-then-not-has_rows
unfolding rows_run
returns-then-not-has_rows c = rw (sym c.has_rows.ensures ∙ c.if-not-has_rows.true) record { answers = record { refusal = refl; tokens = refl; sets = refl; names = refl; packets = refl; values = refl }; values_unchanged = λ _. refl }

-- the table has the rows
has : (c : Else-not-has_rows) → has_rows c.args.count (length c.args.tokens.now) ≡ true
has c = sym c.has_rows.ensures ∙ c.if-not-has_rows.false

pub read_blocks-requires : goal.read_blocks-requires
read_blocks-requires c =
    let fits = has-rows-fits _ _ (has (goal.at.read_blocks-requires c).Else-not-has_rows) in
    record { token_width_in_bounds = fits.0; count_le_most_bytes = fits.1 }

pub returns-in_err-p : goal.returns-in_err-p
unfolding rows_run
returns-in_err-p c =
    let own = c.in_err-p.ensures in
    let e = err_from_is_err_and c.from_residual.result c.from_residual.ensures.1 in
    let all = has (goal.at.returns-in_err-p c).Else-not-has_rows in
    rw (e.1, e.2) record {
      answers = rw (all, own.refuses (number-some c.in_err-p.field-0.0.reason)) record { refusal = refl; tokens = refl; sets = refl; names = refl; packets = refl; values = refl };
      values_unchanged = λ none. absurd (true≢false (sym all ∙ none));
    }

pub returns : goal.returns
unfolding rows_run linked
returns c =
    let k = c.in_ok-p.ensures.accepts refl in
    let all = has (goal.at.returns c).Else-not-has_rows in record {
      answers = rw (all, k.is) (record {
        refusal = refl;
        tokens = k.all;
        sets = k.matches.sets;
        names = k.matches.names;
        packets = k.matches.packets;
        values = k.matches.values ∙ sym (length-linked 1 k.rows.values);
        tables = k.matches.tables;
      });
      values_unchanged = λ none. absurd (true≢false (sym all ∙ none));
    }
