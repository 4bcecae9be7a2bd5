-- `read_tokens` meets its contract: table 1 of an accepted file holds its tokens, so that `first_repeat` compares them by the kinds of today's layout.
use mathlib.Core.Path.{◌≡◌, refl, sym, ◌∙◌, ap, subst}
use mathlib.Core.List.{List}
use Rattle.std.proofs.lemmas.Result.{err_from_is_err_and}
use Prim.Native.Nat.{ℕ}
use native.Mathlib.Omega.{arith}
use lib.ListN.{length}
use Rattle.std.specs.Prelude.{Ok, Err}
use Rattle.star_text.proofs.Reasons.{reason-numbered}
use Rattle.star_lex.specs.Rules.{layout_rules}
use Rattle.star_lex.specs.Tokens.{Placed}
use Rattle.star_text.specs.Outcome.{accepted, refusal_of, place_of}
use Rattle.star_lex.specs.Split.{placed}
use Rattle.star_lex.specs.Answer.{tokens_answer, tokens_in, table_of}
use Rattle.star_lex.specs.Holds.{Holds, file_tokens}
use Rattle.star_lex.proofs.Answers.{answer-refused, in-accepted}
use Rattle.star_grammar.specs.Layout.{today_row}
use Rattle.star_unique.specs.Repeat.{nothing, first_repeat}
use Rattle.star_frames.specs.Frames.{as_today}
use Rattle.star_frames.proofs.Layouts.{as_none}
use Rattle.star_unique.specs.Chain.{kinds_in, with_kinds}
use Rattle.star_unique.specs.Marked.{Plain}
use Rattle.star_unique.specs.Compared.{Compared, compared_of}
use Rattle.star_lex.proofs.Held.{accepted-tokens, table-holds}
use Rattle.star_unique.proofs.Today.{today-plain, today-repeat}
use Rattle.star_unique.proofs.Comparing.{none-taken}
use Rattle.star_unique.proofs.read_tokens.Goals.{In_ok-count}
use Rattle.star_unique.proofs.read_tokens.Goals as goal

pub returns-in_err-count : goal.returns-in_err-count
unfolding placed
returns-in_err-count c =
    let refusal = c.in_err-count.field-0.0 in
    let split = c.in_err-count.ensures in
    let e = err_from_is_err_and c.from_residual.result c.from_residual.ensures.1 in
    let o = answer-refused (tokens_in c.args.file.now (length c.args.table.now)) (tokens_answer (Err refusal)) split.answer (λ z. omega (arith, reason-numbered refusal.reason)) in
    rw (e.1, e.2) record {
      answer = sym (ap (compared_of c.args.layout) o ∙ none-taken c.args.layout _ _);
      table = split.table
          ∙ sym (ap (λ n. as_today c.args.layout n (table_of (tokens_in c.args.file.now (length c.args.table.now)) (length c.args.table.now))) (ap (λ x. length (placed x)) o)
          ∙ as_none c.args.layout _);
    }

-- the tokens
tokens : (c : In_ok-count)
    → (ps : List Placed) × (tokens_in c.args.file.now (length c.args.table.now) ≡ accepted ps)
    × (c.in_ok-count.count ≡ length ps)
tokens c = in-accepted _ _ (tokens_answer (Ok c.in_ok-count.count)) c.in_ok-count.ensures.answer refl

-- table 1 holds them
held : (c : In_ok-count) → Holds c.args.file.now c.read_tokens.new.table c.in_ok-count.count
held c =
    let t = tokens c in
    table-holds _ _ t.0 t.1 _ _ t.2 c.read_tokens.auto.table c.in_ok-count.ensures.table

pub first_repeat-taken-requires : goal.first_repeat-taken-requires
first_repeat-taken-requires c =
    let turned = c.to_today in
    subst (λ (ws : List ℕ). Plain c.args.file.now ws c.in_ok-count.count) (sym turned.ensures) (today-plain _ _ _ (held (goal.at.first_repeat-taken-requires c).In_ok-count) c.args.layout)

abbrev compared : ℕ → ℕ → Compared
compared n taken = record { refusal = 0; place = 0; count = n; taken = taken }

pub returns : goal.returns
unfolding compared_of refusal_of place_of placed
returns c =
    let layout = c.args.layout in
    let file = c.args.file.now in
    let t = tokens (goal.at.returns c).In_ok-count in
    let turned = c.to_today in
    let first = c.first_repeat-taken in
    record {
      answer = ap (λ n. compared n first.result) t.2
          ∙ ap (λ n. compared (length t.0) n) (first.ensures.value ∙ ap (λ (ws : List ℕ). first_repeat nothing (with_kinds (kinds_in ws) 0 (file_tokens file))) turned.ensures
          ∙ today-repeat _ _ _ (held (goal.at.returns c).In_ok-count) layout ∙ ap (λ ts. first_repeat nothing (today_row (layout_rules layout) ts)) (accepted-tokens _ _ t.0 t.1))
          ∙ sym (ap (compared_of layout) t.1);
      table = first.ensures.tokens_unchanged ∙ turned.ensures
          ∙ (λ i. as_today layout ((t.2 ∙ sym (ap (λ x. length (placed x)) t.1)) i) (c.in_ok-count.ensures.table i));
    }
