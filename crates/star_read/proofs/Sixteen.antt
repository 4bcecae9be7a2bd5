-- Reading without header stops against reading with them: the tokens are the same, and a run that is refused with 16 is refused before the other ends.
use mathlib.Core.Path.{◌≡◌, refl, sym, ap, ◌∙◌}
use mathlib.Core.Bool.{Bool, true, false}
use mathlib.Core.Logic.{◌⊎◌, inl, inr}
use mathlib.Core.List.{List}
use Prim.Native.Nat.{ℕ, ◌≤◌, ◌<◌}
use native.Mathlib.Omega.{arith}
use borrow.Author.Tests.{ltb-true, lt-ltb}
use lib.Dec.{ltb}
use lib.ListN.{length, length-map}
use Rattle.star_text.specs.Outcome.{refused, accepted, then}
use Rattle.star_lex.specs.Rules.{Rules, at_stops}
use Rattle.star_lex.specs.Tokens.{Placed}
use Rattle.star_lex.specs.Split.{Split}
use Rattle.star_lex.specs.Answer.{tokens_in_by}
use Rattle.star_lex.proofs.SameRules.{tokens-same}
use Rattle.star_grammar.specs.Tables.{no_rows}
use Rattle.star_grammar.specs.Machine.{Run, bad, good, start, run}
use Rattle.star_grammar.specs.Layout.{today_row}
use Rattle.star_grammar.proofs.Images.{row-length, row-stops}
use Rattle.star_grammar.proofs.Sixteen.{Least, SameRun, run-sixteen}
use Rattle.star_unique.specs.Repeat.{nothing, first_repeat}
use Rattle.star_read.specs.Read.{ReadOutcome, Sizes, tokens_only, token_place, decide, grammar_of, rows_fit, read_by}
use Rattle.star_read.specs.Demands.{SameOrSixteen}

-- the same, or 16
abbrev Alike : ReadOutcome → ReadOutcome → Type 0
Alike o u = (o ≡ u) ⊎ ((place : ℕ) × (o ≡ refused 16 place))

-- a name or code that is taken before a token comes before whatever the run refuses later
earlier : (size : ℕ) (ps : List Placed) (taken i : ℕ) (x : Run) → taken < i → i ≤ length ps → Least i x → decide size ps taken x ≡ refused 9 (token_place size ps taken)
unfolding decide
earlier size ps taken i (bad n j) l m h = rw (lt-ltb taken j (omega (arith, l, h)))
earlier size ps taken i (good rows) l m h = rw (lt-ltb taken (length ps) (omega (arith, l, m)))

decided : (size : ℕ) (ps : List Placed) (taken : ℕ) (x y : Run) → (x ≡ y) ⊎ ((i : ℕ) × (x ≡ bad 16 i) × Least i y × (i ≤ length ps))
    → Alike (decide size ps taken x) (decide size ps taken y)
unfolding decide
decided size ps taken x y (inl e) = inl (ap (decide size ps taken) e)
decided size ps taken x y (inr (i, e, h, m)) = by (ltb taken i) refl
  where
    by : (b : Bool) → ltb taken i ≡ b → Alike (decide size ps taken x) (decide size ps taken y)
    by true q =
        let l : taken < i = ltb-true taken i q in
        inl (ap (decide size ps taken) e ∙ rw q (sym (earlier size ps taken i y l m h)))
    by false q = inr (token_place size ps i, ap (decide size ps taken) e ∙ rw q refl)

module _ (rules : Rules) (file : List ℕ) (words : Sizes) where
  grammar-alike : (ps : List Placed) → Alike (grammar_of (at_stops rules false) (length file) ps) (grammar_of (at_stops rules true) (length file) ps)
  unfolding grammar_of no_rows
  grammar-alike ps =
      rw (row-stops rules false (tokens_only ps), row-stops rules true (tokens_only ps))
      (decided (length file) ps (first_repeat nothing (today_row rules (tokens_only ps))) _ _ (at (run-sixteen rules start (today_row rules (tokens_only ps)) no_rows)))
    where
      at : SameRun rules start (today_row rules (tokens_only ps)) no_rows
          → (run (at_stops rules false) start (today_row rules (tokens_only ps)) no_rows ≡ run (at_stops rules true) start (today_row rules (tokens_only ps)) no_rows)
          ⊎ ((i : ℕ) × (run (at_stops rules false) start (today_row rules (tokens_only ps)) no_rows ≡ bad 16 i)
          × Least i (run (at_stops rules true) start (today_row rules (tokens_only ps)) no_rows) × (i ≤ length ps))
      at (inl e) = inl e
      at (inr (i, e, l, m)) = inr (i, e, l, omega (arith, m, row-length rules (tokens_only ps), length-map ps (λ p. p.token)))

  rooms : (o u : ReadOutcome) → Alike o u → Alike (then o (rows_fit words)) (then u (rows_fit words))
  unfolding then
  rooms o u (inl e) = inl (ap (λ x. then x (rows_fit words)) e)
  rooms o u (inr (place, e)) = inr (place, ap (λ x. then x (rows_fit words)) e)

  after : (s : Split) → Alike (then s (λ ps. then (grammar_of (at_stops rules false) (length file) ps) (rows_fit words))) (then s (λ ps. then (grammar_of (at_stops rules true) (length file) ps) (rows_fit words)))
  unfolding then
  after (refused n place) = inl refl
  after (accepted ps) = rooms _ _ (grammar-alike ps)

  tokens : tokens_in_by (at_stops rules false) file words.tokens ≡ tokens_in_by (at_stops rules true) file words.tokens
  unfolding tokens_in_by
  tokens = rw (tokens-same (at_stops rules false) (at_stops rules true) refl refl file)

  read_alike : Alike (read_by (at_stops rules false) file words) (read_by (at_stops rules true) file words)
  unfolding read_by
  read_alike = rw tokens (after (tokens_in_by (at_stops rules true) file words.tokens))

pub same-or-sixteen : SameOrSixteen
same-or-sixteen = read_alike
