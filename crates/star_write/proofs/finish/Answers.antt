-- `finish` meets its contract: the answer and the output are the outcome's, by reading's answer and the plain form; a refusal clears the tables, and else they are as reading left them.
use mathlib.Core.Path.{◌≡◌, sym, ◌∙◌, ap, subst}
use lib.ListN.{length}
use Rattle.star_lex.specs.Plain.{plain_of}
use Rattle.star_lex.specs.Holds.{file_tokens}
use Rattle.star_plain.specs.Kept.{kept_row, room_with, plain_in}
use Rattle.star_plain.proofs.Held.{held_plain}
use Rattle.star_read.specs.Read.{Sizes, Way, read_via}
use Rattle.star_read.specs.Answer.{read_answer, held, answer_of, Leaves}
use Rattle.star_read.proofs.Accepted.{number-via}
use Rattle.star_write.specs.Write.{writing_of}
use Rattle.star_write.specs.Answer.{write_answer, written_of}
use Rattle.star_write.proofs.Outcomes.{kept-via, writing-refused, success-by, refused-tables, tables-by, via-output, told-err, told-ok}
use Rattle.star_write.proofs.finish.Goals.{After-answer-written}
use Rattle.star_write.proofs.finish.Goals as goal

-- the plain form is that of the rows that were read
form : (c : After-answer-written) → c.put_plain-size.result ≡ length (plain_in c.args.without c.args.file.now c.args.tables.now.tokens.now (answer_of c.args.read).tokens)
form c =
    let args = c.args in
    c.put_plain-size.ensures.value ∙ ap (λ n. length (plain_in args.without args.file.now args.tables.now.tokens.now n)) c.token_count.ensures

-- the answer is the outcome's
answered : (c : After-answer-written) (way : Way) (words : Sizes) → answer_of c.args.read ≡ read_answer (read_via way c.args.file.now words)
    → written_of c.answer-written.result ≡ write_answer (writing_of (read_via way c.args.file.now words) c.args.without (length c.args.out.now))
answered c way words e =
    let args = c.args in
    c.answer-written.ensures way args.file.now words args.without e (λ z. form c ∙ ap length (held_plain _ _ _ (c.requires z) args.without))
    ∙ ap (λ room. write_answer (writing_of (read_via way args.file.now words) args.without room)) c.put_plain-size.auto.out

-- and so is the output
put : (c : After-answer-written) → c.put_plain-size.new.out ≡ room_with (length c.args.out.now) (plain_in c.args.without c.args.file.now c.args.tables.now.tokens.now (answer_of c.args.read).tokens)
put c =
    let args = c.args in
    c.put_plain-size.ensures.out_after ∙ ap (λ n. room_with (length args.out.now) (plain_in args.without args.file.now args.tables.now.tokens.now n)) c.token_count.ensures

pub returns-then-is_err-clause-writes : goal.returns-then-is_err-clause-writes
returns-then-is_err-clause-writes c =
    let args = c.args in
    let s : After-answer-written = (goal.at.returns-then-is_err-clause-writes c).After-answer-written in
    λ way words e same l.
    let o = answered s way words e in
    record {
      answer = o;
      leaves = refused-tables (writing-refused _ _ o (told-err c.answer-written.result (sym c.is_err.ensures.value ∙ c.if-is_err.true))) (c.clear_tables.ensures.leaves _ _);
      output = put s ∙ via-output way args.file.now words args.without (answer_of args.read) e (length args.out.now) args.tables.now.tokens.now c.requires;
    }

pub returns-else-is_err-clause-writes : goal.returns-else-is_err-clause-writes
returns-else-is_err-clause-writes c =
    let args = c.args in
    let file = args.file.now in
    let s : After-answer-written = (goal.at.returns-else-is_err-clause-writes c).After-answer-written in
    λ way words e same l.
    let o = answered s way words e in
    let d = success-by (read_via way file words) (kept_row args.without) (plain_of (kept_row args.without (file_tokens file))) (kept-via way file words args.without)
    (number-via file words way) (length args.out.now) _ o (told-ok c.answer-written.result (sym c.is_err.ensures.value ∙ c.if-is_err.false)) in
    record {
      answer = o;
      leaves = tables-by d.reads d.outcome (subst (λ w. Leaves (read_via way file words) w (held args.tables.now)) same l);
      output = put s ∙ via-output way file words args.without (answer_of args.read) e (length args.out.now) args.tables.now.tokens.now c.requires;
    }
