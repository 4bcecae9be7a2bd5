-- `split` meets its contract: what the turns have found and the split of what is left are the split of the file.
use Rattle.std.specs.Prelude.{Ok}
use mathlib.Core.Path.{◌≡◌, sym, ◌∙◌, ap}
use native.Mathlib.Omega.{arith}
use lib.ListN.{get_or}
use Rattle.std.proofs.lemmas.Result.{err_from_is_err_and}
use Rattle.star_text.specs.Bytes.{is_terminate}
use Rattle.star_text.proofs.Classes.{terminate-is}
use Rattle.star_rows.specs.Widths.{token_width}
use Rattle.star_rows.specs.Rows.{stored}
use Rattle.star_lex.specs.Tokens.{token_row}
use Rattle.star_lex.specs.Answer.{tokens_answer, split_answer}
use Rattle.star_lex.specs.Split.{placed}
use Rattle.star_text.specs.Outcome.{refusal_of, place_of}
use Rattle.star_split.specs.Found.{scanned}
use Rattle.star_lex.specs.Answer.{Fault}
use Rattle.star_text.specs.Refusal.{number as reason_number}
use Rattle.star_lex.proofs.Cases.{impossible}
use Rattle.star_lex.proofs.Splitting.{progress_start, turn_gap, turn-token, turn-fault, finished}
use Rattle.star_split.proofs.split.Goals.{After-is_terminate-line, In_ok-found}
use Rattle.star_split.proofs.split.Goals as goal

pub loop-at-init : goal.loop-at-init
loop-at-init c = progress_start c.args.file.now c.args.table.now

pub lexeme-requires : goal.lexeme-requires
lexeme-requires c = record { at_in_bounds = omega arith; classes = c.requires.classes }

pub bounds-file-at : goal.bounds-file-at
bounds-file-at c = omega arith

-- a line starts after the byte
line-starts : (c : After-is_terminate-line)
    → c.is_terminate-line.result ≡ is_terminate (get_or c.args.file.now c.loop-at.at 0)
line-starts c =
    c.is_terminate-line.ensures
    ∙ terminate-is c.requires.classes _ (omega (arith, c.shared_slice_known-in-loop-at-1.given c.loop-at.at))

-- what `lexeme` has found
found-is : (c : In_ok-found) → c.lexeme.result ≡ Ok c.in_ok-found.found
found-is c = grind arith

pub loop-at-smaller-in-Gap : goal.loop-at-smaller-in-Gap
loop-at-smaller-in-Gap c =
    let e = sym c.lexeme.ensures ∙ ap scanned (found-is (goal.at.loop-at-smaller-in-Gap c).In_ok-found ∙ ap Ok c.in-Gap.is) in
    omega (arith, (turn_gap c.loop-at.invariant (omega arith) e).1)

pub loop-at-preserved-in-Gap : goal.loop-at-preserved-in-Gap
loop-at-preserved-in-Gap c =
    let e = sym c.lexeme.ensures ∙ ap scanned (found-is (goal.at.loop-at-preserved-in-Gap c).In_ok-found ∙ ap Ok c.in-Gap.is) in
    rw (line-starts (goal.at.loop-at-preserved-in-Gap c).After-is_terminate-line) (turn_gap c.loop-at.invariant (omega arith) e).0

pub overflow_cast-start : goal.overflow_cast-start
overflow_cast-start c =
    let e = sym c.lexeme.ensures ∙ ap scanned (found-is (goal.at.overflow_cast-start c).In_ok-found ∙ ap Ok c.in-Token.is) in
    omega (arith, (turn-token c.loop-at.invariant (omega arith) e).2, c.requires.file_len_bound)

pub overflow_cast-end : goal.overflow_cast-end
overflow_cast-end c =
    let e = sym c.lexeme.ensures ∙ ap scanned (found-is (goal.at.overflow_cast-end c).In_ok-found ∙ ap Ok c.in-Token.is) in
    omega (arith, (turn-token c.loop-at.invariant (omega arith) e).3, c.requires.file_len_bound)

pub overflow_add-count : goal.overflow_add-count
overflow_add-count c = omega (arith, c.loop-at.invariant.few)

pub loop-at-smaller : goal.loop-at-smaller
loop-at-smaller c =
    let e = sym c.lexeme.ensures ∙ ap scanned (found-is (goal.at.loop-at-smaller c).In_ok-found ∙ ap Ok c.in-Token.is) in
    omega (arith, (turn-token c.loop-at.invariant (omega arith) e).1)

pub loop-at-preserved : goal.loop-at-preserved
loop-at-preserved c =
    let e = sym c.lexeme.ensures ∙ ap scanned (found-is (goal.at.loop-at-preserved c).In_ok-found ∙ ap Ok c.in-Token.is) in
    rw (c.put_row.ensures, c.number.ensures, line-starts (goal.at.loop-at-preserved c).After-is_terminate-line) (turn-token c.loop-at.invariant (omega arith) e).0

pub returns-in_err-found : goal.returns-in_err-found
unfolding split_answer refusal_of place_of placed
returns-in_err-found c =
    let e : scanned c.lexeme.result ≡ Fault (reason_number c.in_err-found.field-0.0.reason) = grind arith in
    let at-is : c.in_err-found.field-0.0.place ≡ c.loop-at.at = grind arith in
    let f = turn-fault c.loop-at.invariant (omega arith) (sym c.lexeme.ensures ∙ e) in
    let r = err_from_is_err_and c.from_residual.result c.from_residual.ensures.1 in
    record { value = rw (r.1, r.2, at-is) (sym (ap split_answer f)); table_after = λ ps h. impossible cc }

pub overflow_cast-result : goal.overflow_cast-result
overflow_cast-result c = omega (arith, c.loop-at.invariant.few, c.loop-at.invariant.inside, c.requires.file_len_bound)

pub returns : goal.returns
unfolding split_answer refusal_of place_of placed
returns c =
    let p = c.loop-at.invariant in
    let f = finished p (omega arith) in
    record {
      value = ap (λ n. tokens_answer (Ok n)) p.counted ∙ sym (ap split_answer f);
      table_after = λ ps e.
          let q : p.done ≡ ps = cc in
          p.rows ∙ ap (λ d. stored token_width token_row d c.args.table.now) q;
    }
