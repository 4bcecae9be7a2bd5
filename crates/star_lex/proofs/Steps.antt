-- The steps of a split that accepts: at each place a byte of a lexeme already read, a gap, or a token. A law of all splits is a recursion
-- on the steps; that they are there follows by recursion on the bytes, since a faulty lexeme accepts nothing.
use mathlib.Core.Path.{◌≡◌, refl}
use mathlib.Core.Bool.{Bool, true, false}
use mathlib.Core.List.{List, [], ◌∷◌}
use Prim.Native.Nat.{ℕ, zero, suc}
use borrow.Author.Tests.{leb-true}
use lib.Dec.{leb}
use lib.ListN.{length}
use Rattle.star_text.specs.Bytes.{is_terminate, is_allowed, all, leading, first_refused}
use Rattle.star_lex.specs.Rules.{Rules}
use Rattle.star_lex.specs.Tokens.{Token, Placed}
use Rattle.star_text.specs.Outcome.{accepted, refused, then}
use Rattle.star_text.proofs.Outcome.{need-accepted}
use Rattle.star_lex.specs.Split.{Lexeme, gap, token, faulty, Split, lexeme, more_of, before, enter, split, tokens_by}
use Rattle.star_text.proofs.Bytes.{all-of-run}
use Rattle.star_lex.proofs.Cases.{impossible}

pub data Steps (rules : Rules) : ℕ → Bool → ℕ → List ℕ → List Placed → Type 0 where
  ends : {skip : ℕ} {line : Bool} {at : ℕ} → Steps rules skip line at [] []
  within : {skip : ℕ} {line : Bool} {at : ℕ} {b : ℕ} {bs : List ℕ} {ps : List Placed} → Steps rules skip false (suc at) bs ps → Steps rules (suc skip) line at (b ∷ bs) ps
  passes : {line : Bool} {at : ℕ} {b : ℕ} {bs : List ℕ} {ps : List Placed} (more : ℕ) → lexeme rules line b bs ≡ gap more
      → Steps rules more (is_terminate b) (suc at) bs ps → Steps rules zero line at (b ∷ bs) ps
  takes : {line : Bool} {at : ℕ} {b : ℕ} {bs : List ℕ} {ps : List Placed} (more : ℕ) (t : Token) → lexeme rules line b bs ≡ token more t
      → Steps rules more (is_terminate b) (suc at) bs ps → Steps rules zero line at (b ∷ bs) (record { at = at; token = t } ∷ ps)

pub before-accepted : (p : Placed) (s : Split) (ps : List Placed) → before p s ≡ accepted ps → (qs : List Placed) × (s ≡ accepted qs) × (ps ≡ p ∷ qs)
unfolding before then
before-accepted p (refused n place) ps e = impossible cc
before-accepted p (accepted qs) ps e = (qs, refl, cc)

pub steps : (rules : Rules) (skip : ℕ) (line : Bool) (at : ℕ) (bs : List ℕ) (ps : List Placed) → split rules skip line at bs ≡ accepted ps → Steps rules skip line at bs ps
unfolding split enter more_of
steps rules skip line at [] ps e = let q : ps ≡ [] = cc in rw q ends
steps rules zero line at (b ∷ bs) ps e = go (λ more qs. steps rules more (is_terminate b) (suc at) bs qs) (lexeme rules line b bs) refl e
  where
    go : ((more : ℕ) (qs : List Placed) → split rules more (is_terminate b) (suc at) bs ≡ accepted qs → Steps rules more (is_terminate b) (suc at) bs qs)
        → (l : Lexeme) → lexeme rules line b bs ≡ l → enter at l (split rules (more_of l) (is_terminate b) (suc at) bs) ≡ accepted ps → Steps rules zero line at (b ∷ bs) ps
    go rest (gap more) q h = passes more q (rest more ps h)
    go rest (token more t) q h =
        let (qs, f, g) = before-accepted (record { at = at; token = t }) (split rules more (is_terminate b) (suc at) bs) ps h in
        rw g (takes more t q (rest more qs f))
    go rest (faulty n) q h = impossible cc
steps rules (suc skip) line at (b ∷ bs) ps e = within (steps rules skip false (suc at) bs ps e)

-- a file that splits has only allowed bytes
pub accepted-allowed : (rules : Rules) (file : List ℕ) (ps : List Placed) → tokens_by rules file ≡ accepted ps → all is_allowed file ≡ true
unfolding tokens_by first_refused
accepted-allowed rules file ps e =
    all-of-run is_allowed file (leb-true _ _ (need-accepted (leb (length file) (length (leading is_allowed file))) 2 _ _ ps e).0)

pub accepted-steps : (rules : Rules) (file : List ℕ) (ps : List Placed) → tokens_by rules file ≡ accepted ps → Steps rules 0 true 0 file ps
unfolding tokens_by
accepted-steps rules file ps e = steps rules 0 true 0 file ps (need-accepted (leb (length file) (first_refused file)) 2 _ _ ps e).1
