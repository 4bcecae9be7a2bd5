-- A file within the limits: every first part of its tokens that the machine takes and that repeats nothing begins a file, and its tables have room
-- for what the grammar accepts. With a token that is taken or refused a part begins none.
use mathlib.Core.Path.{◌≡◌, ap, ◌∙◌, subst}
use mathlib.Core.Bool.{true}
use mathlib.Core.List.{List, [], ◌∷◌, ◌++◌, map-append}
use Prim.Native.Nat.{ℕ, ◌≤◌}
use native.Mathlib.Omega.{arith}
use lib.ListN.{length, length-append, length-map}
use Rattle.star_text.specs.Outcome.{accepted}
use Rattle.star_text.specs.Bytes.{most_bytes}
use Rattle.star_lex.specs.Rules.{Rules}
use Rattle.star_lex.specs.Tokens.{Placed, Each}
use Rattle.star_lex.proofs.Formed.{FormedBy}
use Rattle.star_lex.proofs.Each.{each_append}
use Rattle.star_lex.proofs.Parts.{count_by}
use Rattle.star_lex.proofs.WellFormed.{well-formed-by}
use Rattle.star_grammar.specs.Tables.{Rows, no_rows, rows_of}
use Rattle.star_grammar.specs.Reading.{ReadingBy}
use Rattle.star_grammar.specs.Machine.{State, start, go, refuse, step_at, good, run, walk}
use Rattle.star_grammar.specs.Layout.{today_row}
use Rattle.star_grammar.proofs.Images.{row_image, row_snoc}
use Rattle.star_grammar.proofs.Walking.{Walks, halted}
use Rattle.star_unique.specs.Repeat.{nothing, is_taken}
use Rattle.star_unique.proofs.Seen.{takes_all}
use Rattle.star_unique.proofs.Clean.{Clean}
use Rattle.star_unique.proofs.First.{taken-unclean}
use Rattle.star_read.specs.Read.{Sizes, tokens_only, rows_fit}
use Rattle.star_read.specs.Demands.{Usable, Begins, Tokenized, Fair}
use Rattle.star_read.proofs.Readings.{run-reading}
use Rattle.star_read.proofs.Begin.{begins-walks, begins-clean, walks-begins}
use Rattle.star_read.proofs.Fitting.{room_fits}

module _ (rules : Rules) where
  -- one token more, as today's layout has it
  pub row_next : (p : List Placed) (t : Placed) → today_row rules (tokens_only (p ++ (t ∷ []))) ≡ today_row rules (tokens_only p) ++ (row_image rules (tokens_only p) t.token ∷ [])
  row_next p t = ap (today_row rules) (map-append (λ x. x.token) p (t ∷ [])) ∙ row_snoc rules (tokens_only p) t.token

  -- with a token that is taken, or that a step refuses, no file begins
  pub taken-begins : (p : List Placed) (t : Placed) → is_taken (takes_all nothing (today_row rules (tokens_only p))) (row_image rules (tokens_only p) t.token) ≡ true
      → Begins rules (tokens_only (p ++ (t ∷ []))) → ⊥
  taken-begins p t e b =
      taken-unclean nothing (today_row rules (tokens_only p)) (row_image rules (tokens_only p) t.token) [] e (subst (Clean nothing) (row_next p t) (begins-clean rules (tokens_only (p ++ (t ∷ []))) b))

  pub halted-begins : (n : ℕ) (p : List Placed) (t : Placed) (st : State) (r : Rows) → walk rules start (today_row rules (tokens_only p)) no_rows ≡ go st r
      → step_at rules st (row_image rules (tokens_only p) t.token).kind r ≡ refuse n → Begins rules (tokens_only (p ++ (t ∷ []))) → ⊥
  halted-begins n p t st r w k b =
      halted rules start st (today_row rules (tokens_only p)) (row_image rules (tokens_only p) t.token) no_rows r n w k
      (subst (λ xs. Walks rules start xs no_rows) (row_next p t) (begins-walks rules (tokens_only (p ++ (t ∷ []))) b))

  -- a first part of the tokens of a file
  module _ (usable : Usable rules) (file : List ℕ) (words : Sizes) (ps : List Placed) (f : Tokenized rules file words ps) where
    pub part-formed : (p q : List Placed) → ps ≡ p ++ q → Each (FormedBy rules) (tokens_only p)
    part-formed p q e =
        ((each_append (FormedBy rules) (tokens_only p) (tokens_only q)).0 (rw (e, map-append) at (well-formed-by rules file ps f.splits))).0

    part_small : (p q : List Placed) → ps ≡ p ++ q → length (tokens_only p) ≤ most_bytes
    part_small p q e =
        rw length-map (omega (arith, f.small, count_by rules file ps f.splits, ap length e, length-append p q))

    pub part-begins : (p q : List Placed) → ps ≡ p ++ q → Walks rules start (today_row rules (tokens_only p)) no_rows → Clean nothing (today_row rules (tokens_only p)) → Begins rules (tokens_only p)
    part-begins p q e = walks-begins rules usable (tokens_only p) (part-formed p q e) (part_small p q e)

  -- what the grammar accepts has a reading, with its rows
  pub accepted-reading : Usable rules → (file : List ℕ) (words : Sizes) (ps : List Placed) → Tokenized rules file words ps → (rows : Rows)
      → run rules start (today_row rules (tokens_only ps)) no_rows ≡ good rows → Clean nothing (today_row rules (tokens_only ps)) → (r : ReadingBy rules (tokens_only ps)) × (rows ≡ rows_of r.tree)
  accepted-reading usable file words ps f rows = run-reading rules usable.some_level (tokens_only ps) rows (well-formed-by rules file ps f.splits)

  -- and, in a fair file, room
  pub accepted-fits : Usable rules → (file : List ℕ) (words : Sizes) (ps : List Placed) → Fair rules file words ps → (rows : Rows)
      → run rules start (today_row rules (tokens_only ps)) no_rows ≡ good rows → Clean nothing (today_row rules (tokens_only ps)) → rows_fit words (ps, rows) ≡ accepted (ps, rows)
  accepted-fits usable file words ps f rows e c =
      let r : (r : ReadingBy rules (tokens_only ps)) × (rows ≡ rows_of r.tree) = accepted-reading usable file words ps f.tokenized rows e c in
      room_fits words ps rows (rw r.1 (f.rooms r.0))
