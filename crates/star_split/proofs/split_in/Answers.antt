-- `split_in` meets its contract: the checks stand in the order of the definition, and a split that refuses counts no tokens.
use mathlib.Core.Bool.{true}
use mathlib.Core.Path.{◌≡◌, sym, ◌∙◌, ap}
use native.Mathlib.Omega.{arith}
use lib.ListN.{length}
use Rattle.std.proofs.lemmas.Result.{err_from_is_err_and}
use Rattle.star_text.specs.Outcome.{then, refusal_of, place_of}
use Rattle.star_text.proofs.Outcome.{refused≢accepted}
use Rattle.star_lex.specs.Rules.{today}
use Rattle.star_lex.specs.Split.{split, placed}
use Rattle.star_lex.specs.Answer.{tokens_fit, tokens_in, split_answer}
use Rattle.star_lex.proofs.Answers.{tokens-too-long, tokens-refused-byte, tokens-split, answer-counts, split-full, split-room}
use Rattle.star_split.proofs.split_in.Goals.{After-split}
use Rattle.star_split.proofs.split_in.Goals as goal

pub returns-then-file-gt-MOST_BYTES : goal.returns-then-file-gt-MOST_BYTES
unfolding split_answer refusal_of place_of placed
returns-then-file-gt-MOST_BYTES c =
    let t = tokens-too-long c.args.file.now (length c.args.table.now) c.if-file-gt-MOST_BYTES.true in
    record { value = sym (ap split_answer t); table_after = λ ps e. absurd (refused≢accepted _ _ ps (sym t ∙ e)) }

pub returns-then-at-file : goal.returns-then-at-file
unfolding split_answer refusal_of place_of placed
returns-then-at-file c =
    let first = c.first_refused-at.ensures in
    let t = tokens-refused-byte c.args.file.now (length c.args.table.now) c.if-file-gt-MOST_BYTES.false (rw first at c.if-at-file.true) in
    record { value = rw first (sym (ap split_answer t)); table_after = λ ps e. absurd (refused≢accepted _ _ ps (sym t ∙ e)) }

-- refusals 1 and 2 do not hold, and the split has answered
decided : (c : After-split)
    → tokens_in c.args.file.now (length c.args.table.now) ≡ then (split today 0 true 0 c.args.file.now) (tokens_fit (length c.args.table.now))
decided c = tokens-split c.args.file.now (length c.args.table.now) c.if-file-gt-MOST_BYTES.false (rw c.first_refused-at.ensures at c.if-at-file.false)

pub returns-in_err-count : goal.returns-in_err-count
returns-in_err-count c =
    let s = split today 0 true 0 c.args.file.now in
    let counts = answer-counts s _ c.in_err-count.ensures.value in
    let t = decided (goal.at.returns-in_err-count c).After-split ∙ split-room (length c.args.table.now) s (omega (arith, counts)) in
    let r = err_from_is_err_and c.from_residual.result c.from_residual.ensures.1 in
    record { value = rw (r.1, r.2) (c.in_err-count.ensures.value ∙ sym (ap split_answer t)); table_after = λ ps e. c.in_err-count.ensures.table_after ps (sym t ∙ e) }

pub returns-then-table-count : goal.returns-then-table-count
unfolding split_answer refusal_of place_of placed
returns-then-table-count c =
    let s = split today 0 true 0 c.args.file.now in
    let counts = answer-counts s _ c.in_ok-count.ensures.value in
    let words : length c.split.new.table ≡ length c.args.table.now = c.split.auto.table in
    let t = decided (goal.at.returns-then-table-count c).After-split ∙ split-full (length c.args.table.now) s (omega (arith, c.if-table-count.true, counts, words)) in
    record { value = sym (ap split_answer t); table_after = λ ps e. absurd (refused≢accepted _ _ ps (sym t ∙ e)) }

pub returns : goal.returns
returns c =
    let s = split today 0 true 0 c.args.file.now in
    let counts = answer-counts s _ c.in_ok-count.ensures.value in
    let words : length c.split.new.table ≡ length c.args.table.now = c.split.auto.table in
    let t = decided (goal.at.returns c).After-split ∙ split-room (length c.args.table.now) s (omega (arith, c.if-table-count.false, counts, words)) in
    record { value = c.in_ok-count.ensures.value ∙ sym (ap split_answer t); table_after = λ ps e. c.in_ok-count.ensures.table_after ps (sym t ∙ e) }
