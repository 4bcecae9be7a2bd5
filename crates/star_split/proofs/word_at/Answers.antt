-- `word_at` meets its contract: the word runs up to white space, and its kind tells its token.
use mathlib.Core.Path.{◌≡◌, refl, sym, ◌∙◌, ap}
use mathlib.Core.Bool.{not}
use mathlib.Core.List.{List, ◌∷◌}
use Prim.Native.Nat.{ℕ, ◌+◌, ◌-◌}
use native.Mathlib.Omega.{arith}
use lib.ListN.{length, get_or, take, drop, length-drop}
use Rattle.std.proofs.lemmas.Result.{err_from_is_err_and}
use Rattle.star_text.specs.Bytes.{leading, is_white}
use Rattle.star_text.specs.Classes.{below_in}
use Rattle.star_text.specs.Refusal.{number as reason_number}
use Rattle.star_text.proofs.Run.{run_length}
use Rattle.star_lex.specs.Kinds.{number}
use Rattle.star_lex.specs.Rules.{today}
use Rattle.star_lex.specs.Split.{word_from, word_lexeme}
use Rattle.star_lex.specs.Answer.{word_answer}
use Rattle.star_lex.proofs.Lexing.{word-part, word-found, word-ill, word-lead}
use Rattle.star_split.proofs.word_at.Goals.{After-run_end-end}
use Rattle.star_split.proofs.word_at.Goals as goal

pub slice_bounds-word_kind-end : goal.slice_bounds-word_kind-end
slice_bounds-word_kind-end c = omega (arith, c.run_end-end.ensures, run_length (below_in c.args.classes.now 2) (drop (c.args.at + 1) c.args.file.now), length-drop (c.args.at + 1) c.args.file.now)

-- what follows the word's first byte
others : (c : After-run_end-end) → List ℕ
others c = leading (λ x. not (is_white x)) (drop (c.args.at + 1) c.args.file.now)

-- the word ends after these, and is this part of the file
part : (c : After-run_end-end)
    → (c.run_end-end.result ≡ c.args.at + 1 + length (others c))
    × (take (c.run_end-end.result - c.args.at) (drop c.args.at c.args.file.now) ≡ get_or c.args.file.now c.args.at 0 ∷ others c)
unfolding others
part c = word-part c.requires.classes c.args.file.now c.args.at c.run_end-end.result c.requires.at_in_bounds (λ i. omega (arith, c.type_inv.file i)) c.run_end-end.ensures

pub returns-in_err-kind : goal.returns-in_err-kind
unfolding word_from others
returns-in_err-kind c =
    let p = (goal.at.returns-in_err-kind c).After-run_end-end in
    let r = err_from_is_err_and c.from_residual.result c.from_residual.ensures.1 in
    rw (r.1, r.2) (sym (word-ill today c.args.at (length (others p)) (reason_number c.in_err-kind.field-0.0) (get_or c.args.file.now c.args.at 0 ∷ others p)
    (c.in_err-kind.ensures (length (others p)) ∙ ap (λ l. word_answer (word_lexeme today (length (others p)) l)) (part p).1)))

pub overflow_add-result : goal.overflow_add-result
unfolding others
overflow_add-result c =
    let p = (goal.at.overflow_add-result c).After-run_end-end in
    omega (
      arith,
      c.lead.ensures,
      word-lead today (length (others p)) (number c.in_ok-kind.kind) (get_or c.args.file.now c.args.at 0 ∷ others p)
          (c.in_ok-kind.ensures (length (others p)) ∙ ap (λ l. word_answer (word_lexeme today (length (others p)) l)) (part p).1),
      run_length (λ x. not (is_white x)) (drop (c.args.at + 1) c.args.file.now),
      length-drop (c.args.at + 1) c.args.file.now,
    )

pub returns : goal.returns
unfolding word_from others
returns c =
    let p = (goal.at.returns c).After-run_end-end in
    rw (c.lead.ensures, (part p).0) (sym (word-found today c.args.at (length (others p)) (number c.in_ok-kind.kind) (get_or c.args.file.now c.args.at 0 ∷ others p) refl
    (c.in_ok-kind.ensures (length (others p)) ∙ ap (λ l. word_answer (word_lexeme today (length (others p)) l)) (part p).1)))
