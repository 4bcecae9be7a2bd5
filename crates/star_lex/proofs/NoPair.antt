-- A file in which no 13 is directly followed by 10 has the line ends that it had when each of 10, 12 and 13 was one by itself, and so the same tokens.
use mathlib.Core.Path.{◌≡◌, refl, ap}
use mathlib.Core.Bool.{Bool, true, false, not, ◌&&◌, and-false}
use mathlib.Core.List.{List, [], ◌∷◌}
use mathlib.Core.Option.{Option, none, some}
use Prim.Native.Nat.{ℕ, zero, suc}
use borrow.Author.Tests.{not-true}
use lib.Dec.{eqb, leb}
use lib.ListN.{length, drop}
use Rattle.star_text.specs.Outcome.{need}
use Rattle.star_text.specs.Bytes.{is_terminate, is_white, leading, first_refused}
use Rattle.star_text.proofs.Cases.{both}
use Rattle.star_lex.specs.Rules.{Rules, unpaired}
use Rattle.star_lex.specs.Tokens.{data_word, save_word, loop_word, stop_word, global_word}
use Rattle.star_lex.specs.Split.{Lexeme, after, either, starts, line_end, closes, close_length, field, limited, block_word, frame_word, name_word, word_lexeme, word_from, field_lexeme, lexeme, more_of, enter, split, tokens_by}
use Rattle.star_lex.specs.Demands.{no_pair, NoPairAsBefore}

either_same : (o : Option (List ℕ)) (f g : List ℕ → Lexeme) (x y : Lexeme) → ((c : List ℕ) → f c ≡ g c) → x ≡ y → either o f x ≡ either o g y
unfolding either
either_same none f g x y h e = e
either_same (some c) f g x y h e = h c

-- the first two bytes are no pair, and there is none among those after the first
pub no_pair-head : (b : ℕ) (bs : List ℕ) → no_pair (b ∷ bs) ≡ true → (eqb b 13 && starts 10 bs) ≡ false
unfolding no_pair
no_pair-head b bs e = not-true (eqb b 13 && starts 10 bs) (both (not (eqb b 13 && starts 10 bs)) (no_pair bs) e).0

pub no_pair-tail : (b : ℕ) (bs : List ℕ) → no_pair (b ∷ bs) ≡ true → no_pair bs ≡ true
unfolding no_pair
no_pair-tail b bs e = (both (not (eqb b 13 && starts 10 bs)) (no_pair bs) e).1

pub no_pair-drop : (n : ℕ) (bs : List ℕ) → no_pair bs ≡ true → no_pair (drop n bs) ≡ true
no_pair-drop zero bs e = e
no_pair-drop (suc n) [] e = e
no_pair-drop (suc n) (b ∷ bs) e = no_pair-drop n bs (no_pair-tail b bs e)

module _ (rules : Rules) where
  block_same : (more : ℕ) (bs : List ℕ) → block_word rules more bs ≡ block_word (unpaired rules) more bs
  unfolding block_word limited
  block_same more [] = refl
  block_same more (b ∷ bs) = refl

  frame_same : (more : ℕ) (bs : List ℕ) → frame_word rules more bs ≡ frame_word (unpaired rules) more bs
  unfolding frame_word limited
  frame_same more [] = refl
  frame_same more (b ∷ bs) = refl

  name-same : (more : ℕ) (bs : List ℕ) → name_word rules more bs ≡ name_word (unpaired rules) more bs
  unfolding name_word limited
  name-same more [] = refl
  name-same more (b ∷ bs) = refl

  -- words do not depend on line ends
  word_same : (more : ℕ) (w : List ℕ) → word_lexeme rules more w ≡ word_lexeme (unpaired rules) more w
  unfolding word_lexeme
  word_same more w =
      either_same (after data_word w) _ _ _ _ (block_same more)
      (either_same (after save_word w) _ _ _ _ (frame_same more)
      (either_same (after loop_word w) _ _ _ _ (λ c. refl)
      (either_same (after stop_word w) _ _ _ _ (λ c. refl)
      (either_same (after global_word w) _ _ _ _ (λ c. refl)
      (either_same (after (95 ∷ []) w) _ _ _ _ (name-same more) refl)))))

  line_end-same : (bs : List ℕ) → no_pair bs ≡ true → line_end rules bs ≡ line_end (unpaired rules) bs
  unfolding line_end
  line_end-same [] e = refl
  line_end-same (b ∷ bs) e = rw (no_pair-head b bs e, and-false rules.pairs)

  field-same : (bs : List ℕ) → no_pair bs ≡ true → field rules bs ≡ field (unpaired rules) bs
  unfolding field closes
  field-same [] e = refl
  field-same (b ∷ bs) e = rw (line_end-same (b ∷ bs) e, field-same bs (no_pair-tail b bs e))

  field_lexeme-same : (o : Option (List ℕ)) (bs : List ℕ) → no_pair bs ≡ true → field_lexeme rules o bs ≡ field_lexeme (unpaired rules) o bs
  unfolding field_lexeme close_length
  field_lexeme-same none bs e = refl
  field_lexeme-same (some c) bs e = rw (line_end-same (drop (length c) bs) (no_pair-drop (length c) bs e))

  lexeme-same : (line : Bool) (b : ℕ) (bs : List ℕ) → no_pair bs ≡ true → lexeme rules line b bs ≡ lexeme (unpaired rules) line b bs
  unfolding lexeme word_from
  lexeme-same line b bs e =
      rw (
        field-same bs e,
        field_lexeme-same (field (unpaired rules) bs) bs e,
        word_same (length (leading (λ c. not (is_white c)) bs)) (b ∷ leading (λ c. not (is_white c)) bs),
      )

  split-same : (skip : ℕ) (line : Bool) (at : ℕ) (bs : List ℕ) → no_pair bs ≡ true → split rules skip line at bs ≡ split (unpaired rules) skip line at bs
  unfolding split
  split-same skip line at [] e = refl
  split-same zero line at (b ∷ bs) e =
      rw (lexeme-same line b bs (no_pair-tail b bs e))
      (ap (enter at (lexeme (unpaired rules) line b bs)) (split-same (more_of (lexeme (unpaired rules) line b bs)) (is_terminate b) (suc at) bs (no_pair-tail b bs e)))
  split-same (suc skip) line at (b ∷ bs) e = split-same skip false (suc at) bs (no_pair-tail b bs e)

pub no-pair-as-before : NoPairAsBefore
unfolding tokens_by
no-pair-as-before rules file e = ap (need (leb (length file) (first_refused file)) 2 (first_refused file)) (split-same rules 0 true 0 file e)
