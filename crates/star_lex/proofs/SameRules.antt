-- The split sees line ends and how long names and codes may be, and no other rule.
use mathlib.Core.Path.{◌≡◌, refl, ◌∙◌, ap}
use mathlib.Core.Bool.{Bool, true, false, cond, not}
use mathlib.Core.List.{List, [], ◌∷◌}
use mathlib.Core.Option.{Option, none, some, map}
use Prim.Native.Nat.{ℕ, zero, suc}
use lib.ListN.{length, drop}
use Rattle.star_text.specs.Bytes.{is_terminate, is_white, leading}
use Rattle.star_lex.specs.Rules.{Rules, today, rules1991}
use Rattle.star_lex.specs.Tokens.{data_word, save_word, loop_word, stop_word, global_word}
use Rattle.star_lex.specs.Split.{Lexeme, after, line_end, closes, close_length, field, limited, block_word, frame_word, alone, name_word, either, word_lexeme, word_from, field_lexeme, lexeme, more_of, enter, split, tokens_by, tokens_of}

either_same : (o : Option (List ℕ)) (f g : List ℕ → Lexeme) (x y : Lexeme) → ((bs : List ℕ) → f bs ≡ g bs) → x ≡ y → either o f x ≡ either o g y
unfolding either
either_same none f g x y h e = e
either_same (some bs) f g x y h e = h bs

module _ (rules others : Rules) (p : rules.pairs ≡ others.pairs) (l : rules.longest ≡ others.longest) where
  end_same : (bs : List ℕ) → line_end rules bs ≡ line_end others bs
  unfolding line_end
  end_same [] = refl
  end_same (b ∷ bs) = rw p

  closes-same : (bs : List ℕ) → closes rules bs ≡ closes others bs
  unfolding closes
  closes-same bs = rw (end_same bs)

  field-same : (bs : List ℕ) → field rules bs ≡ field others bs
  unfolding field
  field-same [] = refl
  field-same (b ∷ bs) = rw (closes-same (b ∷ bs)) (ap (λ o. cond (closes others (b ∷ bs)) (some []) (map (λ c. b ∷ c) o)) (field-same bs))

  limited-same : (more kind : ℕ) (content : List ℕ) → limited rules more kind content ≡ limited others more kind content
  unfolding limited
  limited-same more kind content = rw l

  block_same : (more : ℕ) (bs : List ℕ) → block_word rules more bs ≡ block_word others more bs
  unfolding block_word
  block_same more [] = refl
  block_same more (b ∷ bs) = limited-same more 1 (b ∷ bs)

  frame_same : (more : ℕ) (bs : List ℕ) → frame_word rules more bs ≡ frame_word others more bs
  unfolding frame_word
  frame_same more [] = refl
  frame_same more (b ∷ bs) = limited-same more 2 (b ∷ bs)

  name-same : (more : ℕ) (bs : List ℕ) → name_word rules more bs ≡ name_word others more bs
  unfolding name_word
  name-same more [] = refl
  name-same more (b ∷ bs) = limited-same more 6 (95 ∷ b ∷ bs)

  word_same : (more : ℕ) (w : List ℕ) → word_lexeme rules more w ≡ word_lexeme others more w
  unfolding word_lexeme
  word_same more w =
      either_same (after data_word w) (block_word rules more) (block_word others more) _ _ (block_same more)
      (either_same (after save_word w) (frame_word rules more) (frame_word others more) _ _ (frame_same more)
      (either_same (after loop_word w) (alone more 4 loop_word) (alone more 4 loop_word) _ _ (λ bs. refl)
      (either_same (after stop_word w) (alone more 5 stop_word) (alone more 5 stop_word) _ _ (λ bs. refl)
      (either_same (after global_word w) (alone more 12 global_word) (alone more 12 global_word) _ _ (λ bs. refl)
      (either_same (after (95 ∷ []) w) (name_word rules more) (name_word others more) _ _ (name-same more) refl)))))

  text_same : (o : Option (List ℕ)) (bs : List ℕ) → field_lexeme rules o bs ≡ field_lexeme others o bs
  unfolding field_lexeme close_length
  text_same none bs = refl
  text_same (some c) bs = rw (end_same (drop (length c) bs))

  lexeme-same : (line : Bool) (b : ℕ) (bs : List ℕ) → lexeme rules line b bs ≡ lexeme others line b bs
  unfolding lexeme word_from
  lexeme-same line b bs =
      let w : List ℕ = leading (λ c. not (is_white c)) bs in
      rw (text_same (field rules bs) bs, field-same bs, word_same (length w) (b ∷ w))

  split-same : (skip : ℕ) (line : Bool) (at : ℕ) (bs : List ℕ) → split rules skip line at bs ≡ split others skip line at bs
  unfolding split
  split-same skip line at [] = refl
  split-same zero line at (b ∷ bs) =
      ap (λ x. enter at x (split rules (more_of x) (is_terminate b) (suc at) bs)) (lexeme-same line b bs)
      ∙ ap (enter at (lexeme others line b bs)) (split-same (more_of (lexeme others line b bs)) (is_terminate b) (suc at) bs)
  split-same (suc skip) line at (b ∷ bs) = split-same skip false (suc at) bs

  pub tokens-same : (file : List ℕ) → tokens_by rules file ≡ tokens_by others file
  unfolding tokens_by
  tokens-same file = rw (split-same 0 true 0 file)

pub tokens-1991 : (file : List ℕ) → tokens_by rules1991 file ≡ tokens_of file
tokens-1991 = tokens-same rules1991 today refl refl
