-- What the grammar decides, with what the machine did: it accepts a row, or stops at the first token that repeats, at one that a step refuses,
-- or at the end. Of a repeat and a refused step the one that comes first decides.
use mathlib.Core.Path.{◌≡◌, refl, sym, ap, ◌∙◌, subst}
use mathlib.Core.Bool.{Bool, true, false, cond}
use mathlib.Core.List.{List, [], ◌∷◌, ◌++◌, append-nil, append_assoc}
use Prim.Native.Nat.{ℕ, ◌≤◌, ◌<◌}
use native.Mathlib.Omega.{arith}
use borrow.Author.Tests.{ltb-true, ltb-false}
use lib.Dec.{ltb}
use lib.ListN.{length, length-map}
use lib.Seq.{append_snoc}
use Rattle.star_text.specs.Outcome.{refused, accepted}
use Rattle.star_lex.specs.Rules.{Rules}
use Rattle.star_lex.specs.Tokens.{Token, Placed}
use Rattle.star_lex.proofs.Cases.{impossible}
use Rattle.star_grammar.specs.Tables.{Rows, no_rows}
use Rattle.star_grammar.specs.Machine.{State, start, go, refuse, step_at, Run, bad, good, end_run, run, walk}
use Rattle.star_grammar.specs.Layout.{Track, outside, pass_kind, today_row}
use Rattle.star_grammar.proofs.Images.{image, image_from, track_after, row_image, row-image, row_snoc, row-length}
use Rattle.star_grammar.proofs.Passing.{walk-length, end-passes}
use Rattle.star_grammar.proofs.Walking.{Walks, walks-first, good-walks, Halts, bad-halts}
use Rattle.star_unique.specs.Repeat.{nothing, is_taken, first_repeat}
use Rattle.star_unique.proofs.Seen.{takes_all}
use Rattle.star_unique.proofs.Clean.{Clean, repeat-after, unclean-repeat, repeat-before}
use Rattle.star_unique.proofs.First.{FirstTaken, first_taken, clean-before}
use Rattle.star_read.specs.Read.{ReadOutcome, tokens_only, token_place, decide, grammar_of}

pub data Verdict (rules : Rules) (ps : List Placed) (size : ℕ) : ReadOutcome → Type 0 where
  reads : (rows : Rows) → run rules start (today_row rules (tokens_only ps)) no_rows ≡ good rows → Clean nothing (today_row rules (tokens_only ps)) → Verdict rules ps size (accepted (ps, rows))
  repeats : (place : ℕ) (p : List Placed) (t : Placed) (q : List Placed) → ps ≡ p ++ (t ∷ q) → place ≡ t.at → Clean nothing (today_row rules (tokens_only p))
      → Walks rules start (today_row rules (tokens_only p ++ (t.token ∷ []))) no_rows
      → is_taken (takes_all nothing (today_row rules (tokens_only p))) (row_image rules (tokens_only p) t.token) ≡ true → Verdict rules ps size (refused 9 place)
  halts : (n place : ℕ) (p : List Placed) (t : Placed) (q : List Placed) → ps ≡ p ++ (t ∷ q) → place ≡ t.at → Clean nothing (today_row rules (tokens_only p))
      → (st : State) (r : Rows) → walk rules start (today_row rules (tokens_only p)) no_rows ≡ go st r → step_at rules st (row_image rules (tokens_only p) t.token).kind r ≡ refuse n
      → Verdict rules ps size (refused n place)
  ends : (n place i : ℕ) → place ≡ size → Clean nothing (today_row rules (tokens_only ps))
      → (st : State) (r : Rows) → walk rules start (today_row rules (tokens_only ps)) no_rows ≡ go st r → end_run st r ≡ bad n i → Verdict rules ps size (refused n place)

place_at : (size : ℕ) (p : List Placed) (t : Placed) (q : List Placed) → token_place size (p ++ (t ∷ q)) (length p) ≡ t.at
unfolding token_place
place_at size [] t q = refl
place_at size (x ∷ p) t q = place_at size p t q

place_end : (size : ℕ) (ps : List Placed) → token_place size ps (length ps) ≡ size
unfolding token_place
place_end size [] = refl
place_end size (x ∷ ps) = place_end size ps

-- the token at a place of a row as today's layout has it, with its offset
record AtFrom (old : Bool) (most : ℕ) (k : Track) (ps : List Placed) (a : List Token) (b : Token) : Type 0 where
  before : List Placed
  here : Placed
  after : List Placed
  is : ps ≡ before ++ (here ∷ after)
  tokens : a ≡ image_from old most k (tokens_only before)
  token : b ≡ image old (track_after old most k (tokens_only before)) here.token

module _ (old : Bool) (most : ℕ) where
  at-later : (k : Track) (p : Placed) (ps : List Placed) (x : Token) (a : List Token) (b : Token) → x ≡ image old k p.token
      → AtFrom old most (pass_kind most k (image old k p.token).kind) ps a b → AtFrom old most k (p ∷ ps) (x ∷ a) b
  unfolding image_from track_after
  at-later k p ps x a b e h = record {
    before = p ∷ h.before;
    here = h.here;
    after = h.after;
    is = ap (λ xs. p ∷ xs) h.is;
    tokens = λ i. e i ∷ h.tokens i;
    token = h.token;
  }

  at_from : (k : Track) (ps : List Placed) (a : List Token) (b : Token) (c : List Token) → image_from old most k (tokens_only ps) ≡ a ++ (b ∷ c) → AtFrom old most k ps a b
  unfolding image_from track_after
  at_from k [] [] b c e = impossible cc
  at_from k [] (x ∷ a) b c e = impossible cc
  at_from k (p ∷ ps) [] b c e = record { before = []; here = p; after = ps; is = refl; tokens = refl; token = cc }
  at_from k (p ∷ ps) (x ∷ a) b c e = at-later k p ps x a b (cc) (at_from (pass_kind most k (image old k p.token).kind) ps a b c (cc))

record At (rules : Rules) (ps : List Placed) (a : List Token) (b : Token) : Type 0 where
  before : List Placed
  here : Placed
  after : List Placed
  is : ps ≡ before ++ (here ∷ after)
  tokens : a ≡ today_row rules (tokens_only before)
  token : b ≡ row_image rules (tokens_only before) here.token

token-at : (rules : Rules) (ps : List Placed) (a : List Token) (b : Token) (c : List Token) → today_row rules (tokens_only ps) ≡ a ++ (b ∷ c) → At rules ps a b
unfolding row_image
token-at rules ps a b c e =
    let h : AtFrom rules.stop_closes rules.levels (outside false) ps a b
    = at_from rules.stop_closes rules.levels (outside false) ps a b c (sym (row-image rules (tokens_only ps)) ∙ e) in
    record { before = h.before; here = h.here; after = h.after; is = h.is; tokens = h.tokens ∙ sym (row-image rules (tokens_only h.before)); token = h.token }

module _ (rules : Rules) (ps : List Placed) (size : ℕ) where
  -- the tokens as today's layout has them
  row : List Token
  row = today_row rules (tokens_only ps)

  whole_row : length row ≡ length ps
  unfolding row
  whole_row = row-length rules (tokens_only ps) ∙ length-map ps (λ p. p.token)

  at_place : (a : List Token) (b : Token) (k : At rules ps a b) (i : ℕ) → i ≡ length a → token_place size ps i ≡ k.here.at
  at_place a b k i e =
      let n : i ≡ length k.before = e ∙ ap length k.tokens ∙ row-length rules (tokens_only k.before) ∙ length-map k.before (λ p. p.token) in
      rw (n, k.is) (place_at size k.before k.here k.after)

  -- the first token of a walk that repeats
  verdict-taken : (p : List Token) → Walks rules start p no_rows → (f : FirstTaken nothing p) → At rules ps f.before f.token → (i : ℕ)
      → i ≡ length f.before → Verdict rules ps size (refused 9 (token_place size ps i))
  verdict-taken p w f k i e =
      let next : f.before ++ (f.token ∷ []) ≡ today_row rules (tokens_only k.before ++ (k.here.token ∷ []))
      = (λ j. k.tokens j ++ (k.token j ∷ [])) ∙ sym (row_snoc rules (tokens_only k.before) k.here.token) in
      Verdict.repeats (token_place size ps i) k.before k.here k.after k.is (at_place f.before f.token k i e) (subst (Clean nothing) k.tokens f.clean)
      (subst (λ xs. Walks rules start xs no_rows) next (walks-first rules (f.before ++ (f.token ∷ [])) f.after start no_rows
      (subst (λ xs. Walks rules start xs no_rows) (f.is ∙ sym (append_snoc f.before f.token f.after)) w)))
      ((λ j. is_taken (takes_all nothing (sym k.tokens j)) (sym k.token j)) ∙ f.taken)

  verdict-repeats : (p q : List Token) → row ≡ p ++ q → Walks rules start p no_rows → first_repeat nothing row < length p
      → Verdict rules ps size (refused 9 (token_place size ps (first_repeat nothing row)))
  unfolding row
  verdict-repeats p q e w h =
      let same : first_repeat nothing row ≡ first_repeat nothing (p ++ q) = ap (first_repeat nothing) e in
      let early : first_repeat nothing p < length p = unclean-repeat nothing p (λ c. omega (arith, repeat-after nothing p q c)) in
      let f : FirstTaken nothing p = first_taken nothing p early in
      verdict-taken p w f
      (token-at rules ps f.before f.token (f.after ++ q) (e ∙ ap (λ xs. xs ++ q) f.is ∙ append_assoc f.before (f.token ∷ f.after) q))
      (first_repeat nothing row) (same ∙ repeat-before nothing p q early ∙ f.place)

  verdict-clean : (p q : List Token) → row ≡ p ++ q → length p ≤ first_repeat nothing row → Clean nothing p
  verdict-clean p q e h = clean-before nothing p q (rw e at h)

  verdict-good : (rows : Rows) → run rules start row no_rows ≡ good rows → Verdict rules ps size (decide size ps (first_repeat nothing row) (good rows))
  unfolding decide row
  verdict-good rows e = by (ltb (first_repeat nothing row) (length ps)) refl
    where
      by : (b : Bool) → ltb (first_repeat nothing row) (length ps) ≡ b
          → Verdict rules ps size (cond b (refused 9 (token_place size ps (first_repeat nothing row))) (accepted (ps, rows)))
      by true d = verdict-repeats row [] (sym (append-nil row)) (good-walks rules row start no_rows rows e) (omega (arith, whole_row, ltb-true (first_repeat nothing row) (length ps) d))
      by false d = Verdict.reads rows e (verdict-clean row [] (sym (append-nil row)) (omega (arith, whole_row, ltb-false (first_repeat nothing row) (length ps) d)))

  verdict-bad : (n i : ℕ) → Halts rules start row no_rows n i → Verdict rules ps size (decide size ps (first_repeat nothing row) (bad n i))
  unfolding decide row
  verdict-bad n i (Halts.token p t q s u e w f c) = by (ltb (first_repeat nothing row) i) refl (token-at rules ps p t q e)
    where
      by : (b : Bool) → ltb (first_repeat nothing row) i ≡ b → At rules ps p t
          → Verdict rules ps size (cond b (refused 9 (token_place size ps (first_repeat nothing row))) (refused n (token_place size ps i)))
      by true d k = verdict-repeats p (t ∷ q) e (s, u, w) (omega (arith, ltb-true, walk-length rules s p u w))
      by false d k =
          Verdict.halts n (token_place size ps i) k.before k.here k.after k.is (at_place p t k i (c ∙ walk-length rules s p u w))
          (subst (Clean nothing) k.tokens (verdict-clean p (t ∷ q) e (omega (arith, ltb-false, walk-length rules s p u w)))) s u
          (ap (λ xs. walk rules start xs no_rows) (sym k.tokens) ∙ w) (ap (λ x. step_at rules s x.kind u) (sym k.token) ∙ f)
  verdict-bad n i (Halts.end s u w f) = by (ltb (first_repeat nothing row) i) refl
    where
      whole : i ≡ length ps
      whole = end-passes s u n i f ∙ walk-length rules s row u w ∙ whole_row

      by : (b : Bool) → ltb (first_repeat nothing row) i ≡ b
          → Verdict rules ps size (cond b (refused 9 (token_place size ps (first_repeat nothing row))) (refused n (token_place size ps i)))
      by true d = verdict-repeats row [] (sym (append-nil row)) (s, u, w) (omega (arith, ltb-true, whole, whole_row))
      by false d =
          Verdict.ends n (token_place size ps i) i (rw whole (place_end size ps))
          (verdict-clean row [] (sym (append-nil row)) (omega (arith, ltb-false, whole, whole_row))) s u w f

  pub verdict : Verdict rules ps size (grammar_of rules size ps)
  unfolding grammar_of row
  verdict = by (run rules start row no_rows) refl
    where
      by : (x : Run) → run rules start row no_rows ≡ x → Verdict rules ps size (decide size ps (first_repeat nothing row) x)
      by (bad n i) e = verdict-bad n i (bad-halts rules row start no_rows n i e)
      by (good rows) e = verdict-good rows e
