-- How many tokens a file can have: each has a byte, and white space or the end follows it, so that two tokens have a byte between them.
use mathlib.Core.Path.{◌≡◌, refl, sym, ◌∙◌}
use mathlib.Core.Bool.{Bool, true, false, cond, not, ◌&&◌, and-eq-true_iff}
use mathlib.Core.List.{List, [], ◌∷◌}
use mathlib.Core.Option.{Option, none, some, map}
use Prim.Native.Nat.{ℕ, suc, ◌+◌, ◌-◌, ◌*◌, ◌≤◌}
use native.Mathlib.Omega.{arith}
use lib.Dec.{eqb, leb}
use lib.ListN.{length, drop}
use Rattle.star_text.specs.Bytes.{is_terminate, is_white, leading}
use Rattle.star_lex.specs.Rules.{Rules, today}
use Rattle.star_lex.specs.Tokens.{Token, Placed, data_word, save_word, loop_word, stop_word, global_word}
use Rattle.star_text.specs.Outcome.{accepted}
use Rattle.star_lex.specs.Split.{Lexeme, gap, token, faulty, after, either, white_next, quoted, close_length, field, limited, block_word, frame_word, alone, name_word, reference_word, word_lexeme, word_from, quoted_lexeme, field_lexeme, lexeme, tokens_by, tokens_of}
use Rattle.star_lex.proofs.Cases.{impossible, cond_cases}
use Rattle.star_lex.proofs.Steps.{Steps, ends, within, passes, takes, accepted-steps}

-- a word's token has as many bytes after its first as the word, and is no text field
abbrev pub More : ℕ → Lexeme → Type 0
More m (gap n) = ⊥
More m (token n t) = (n ≡ m) × (eqb t.kind 11 ≡ false)
More m (faulty n) = Unit {0}

limited-more : (rules : Rules) (more kind : ℕ) (content : List ℕ) → eqb kind 11 ≡ false → More more (limited rules more kind content)
unfolding limited
limited-more rules more kind content k = by (leb (length content) rules.longest)
  where
    by : (b : Bool) → More more (cond b (token more (record { kind = kind; content = content })) (faulty 4))
    by true = (refl, k)
    by false = tt

block_more : (rules : Rules) (more : ℕ) (bs : List ℕ) → More more (block_word rules more bs)
unfolding block_word
block_more rules more [] = tt
block_more rules more (b ∷ bs) = limited-more rules more 1 (b ∷ bs) refl

frame-more : (rules : Rules) (more : ℕ) (bs : List ℕ) → More more (frame_word rules more bs)
unfolding frame_word
frame-more rules more [] = (refl, refl)
frame-more rules more (b ∷ bs) = limited-more rules more 2 (b ∷ bs) refl

alone-more : (more kind : ℕ) → eqb kind 11 ≡ false → (w bs : List ℕ) → More more (alone more kind w bs)
unfolding alone
alone-more more kind k w [] = (refl, k)
alone-more more kind k w (b ∷ bs) = tt

name-more : (rules : Rules) (more : ℕ) (bs : List ℕ) → More more (name_word rules more bs)
unfolding name_word
name-more rules more [] = tt
name-more rules more (b ∷ bs) = limited-more rules more 6 (95 ∷ b ∷ bs) refl

reference-more : (more : ℕ) (bs : List ℕ) → More more (reference_word more bs)
unfolding reference_word
reference-more more [] = (refl, refl)
reference-more more (b ∷ bs) = (refl, refl)

either-more : (m : ℕ) (o : Option (List ℕ)) (f : List ℕ → Lexeme) (other : Lexeme) → ((bs : List ℕ) → More m (f bs)) → More m other
    → More m (either o f other)
unfolding either
either-more m none f other p q = q
either-more m (some bs) f other p q = p bs

pub word_more : (rules : Rules) (more : ℕ) (w : List ℕ) → More more (word_lexeme rules more w)
unfolding word_lexeme
word_more rules more w =
    either-more more (after data_word w) _ _ (block_more rules more)
    (either-more more (after save_word w) _ _ (frame-more rules more)
    (either-more more (after loop_word w) _ _ (alone-more more 4 refl loop_word)
    (either-more more (after stop_word w) _ _ (alone-more more 5 refl stop_word)
    (either-more more (after global_word w) _ _ (alone-more more 12 refl global_word)
    (either-more more (after (95 ∷ []) w) _ _ (name-more rules more)
    (either-more more (after (36 ∷ []) w) _ _ (reference-more more) (refl, refl)))))))

more-token : {m n : ℕ} {t : Token} {l : Lexeme} → More m l → l ≡ token n t → n ≡ m
more-token {m} {n} {t} {l} p e = (rw e at p).0

-- white space or the end follows what a lexeme takes
word-white : (bs : List ℕ) → white_next (drop (length (leading (λ c. not (is_white c)) bs)) bs) ≡ true
unfolding leading white_next
word-white [] = refl
word-white (b ∷ bs) = by (word-white bs) (is_white b) refl
  where
    by : white_next (drop (length (leading (λ c. not (is_white c)) bs)) bs) ≡ true → (t : Bool) → is_white b ≡ t → white_next (drop (length (cond (not (is_white b)) (b ∷ leading (λ c. not (is_white c)) bs) [])) (b ∷ bs)) ≡ true
    by h true e = rw e e
    by h false e = rw e h

quoted-white : (q : ℕ) (bs c : List ℕ) → quoted q bs ≡ some c → white_next (drop (suc (length c)) bs) ≡ true
unfolding quoted
quoted-white q [] c e = impossible cc
quoted-white q (b ∷ bs) c e =
    cond_cases (eqb b q && white_next bs) _ _ (some c) e
    (λ k h. let z : [] ≡ c = cc in rw (← z) ((and-eq-true_iff (eqb b q) (white_next bs)).0 k).1)
    (λ k h. cond_cases (is_terminate b) _ _ (some c) h (λ l g. impossible cc) (λ l g. inside (λ x. quoted-white q bs x) (quoted q bs) refl g))
  where
    inside : ((x : List ℕ) → quoted q bs ≡ some x → white_next (drop (suc (length x)) bs) ≡ true) → (o : Option (List ℕ)) → quoted q bs ≡ o → map (λ d. b ∷ d) o ≡ some c → white_next (drop (suc (length c)) (b ∷ bs)) ≡ true
    inside h none d g = impossible cc
    inside h (some x) d g = let z : b ∷ x ≡ c = cc in rw (← z) (h x d)

field-white : (rules : Rules) (o : Option (List ℕ)) (bs : List ℕ) (more : ℕ) (t : Token) → field_lexeme rules o bs ≡ token more t
    → white_next (drop more bs) ≡ true
unfolding field_lexeme
field-white rules none bs more t e = impossible cc
field-white rules (some c) bs more t e =
    cond_cases (white_next (drop (length c + close_length rules (drop (length c) bs)) bs)) _ _ (token more t) e
    (λ k h. let z : length c + close_length rules (drop (length c) bs) ≡ more = cc in rw (← z) k) (λ k h. impossible cc)

string-white : (kind q : ℕ) (bs : List ℕ) (more : ℕ) (t : Token) → quoted_lexeme kind (quoted q bs) ≡ token more t → white_next (drop more bs) ≡ true
unfolding quoted_lexeme
string-white kind q bs more t e = by (quoted q bs) refl e
  where
    by : (o : Option (List ℕ)) → quoted q bs ≡ o → quoted_lexeme kind o ≡ token more t → white_next (drop more bs) ≡ true
    by none d h = impossible cc
    by (some c) d h = let z : suc (length c) ≡ more = cc in rw (← z) (quoted-white q bs c d)

from-white : (rules : Rules) (b : ℕ) (bs : List ℕ) (more : ℕ) (t : Token) → word_from rules b bs ≡ token more t → white_next (drop more bs) ≡ true
unfolding word_from
from-white rules b bs more t e =
    let z : more ≡ length (leading (λ c. not (is_white c)) bs) = more-token (word_more rules (length (leading (λ c. not (is_white c)) bs)) (b ∷ leading (λ c. not (is_white c)) bs)) e in
    rw z (word-white bs)

-- a token's first byte is no white space
lexeme-white : (rules : Rules) (line : Bool) (b : ℕ) (bs : List ℕ) (more : ℕ) (t : Token) → lexeme rules line b bs ≡ token more t
    → (white_next (drop more bs) ≡ true) × (is_white b ≡ false)
unfolding lexeme
lexeme-white rules line b bs more t e =
    cond_cases (is_white b) _ _ (token more t) e (λ k h. impossible cc)
    (λ w h₁. (
      cond_cases (eqb b 35) _ _ (token more t) h₁ (λ k h. impossible cc)
          (λ k h₂. cond_cases (line && eqb b 59) _ _ (token more t) h₂ (λ l h. field-white rules (field rules bs) bs more t h)
          (λ l h₃. cond_cases (eqb b 39) _ _ (token more t) h₃ (λ m h. string-white 9 39 bs more t h)
          (λ m h₄. cond_cases (eqb b 34) _ _ (token more t) h₄ (λ n h. string-white 10 34 bs more t h) (λ n h. from-white rules b bs more t h)))),
      w,
    ))

-- two bytes for each token, but for the last; and for it too where white space or the end comes first
abbrev Bound : ℕ → List ℕ → List Placed → Type 0
Bound skip bs ps = (length ps * 2 ≤ length bs - skip + 1) × (white_next (drop skip bs) ≡ true → length ps * 2 ≤ length bs - skip)

steps-bound : (rules : Rules) {skip : ℕ} {line : Bool} {at : ℕ} {bs : List ℕ} {ps : List Placed} → Steps rules skip line at bs ps → Bound skip bs ps
unfolding white_next
steps-bound rules ends = (omega arith, λ w. omega arith)
steps-bound rules (within {skip} {line} {at} {b} {bs} {ps} s) =
    let h : Bound skip bs ps = steps-bound rules s in
    (omega (arith, h.0), λ w. omega (arith, h.1 w))
steps-bound rules (passes {line} {at} {b} {bs} {ps} more e s) =
    let h : Bound more bs ps = steps-bound rules s in
    (omega (arith, h.0), λ w. omega (arith, h.0))
steps-bound rules (takes {line} {at} {b} {bs} {ps} more t e s) =
    let h : Bound more bs ps = steps-bound rules s in
    let k : (white_next (drop more bs) ≡ true) × (is_white b ≡ false) = lexeme-white rules line b bs more t e in
    (omega (arith, h.1 k.0), λ w. impossible (let z : true ≡ false = sym w ∙ k.1 in cc))

pub bound_by : (rules : Rules) (file : List ℕ) (ps : List Placed) → tokens_by rules file ≡ accepted ps → length ps * 2 ≤ length file + 1
bound_by rules file ps e = let h : Bound 0 file ps = steps-bound rules (accepted-steps rules file ps e) in omega (arith, h.0)

pub tokens-bound : (file : List ℕ) (ps : List Placed) → tokens_of file ≡ accepted ps → length ps * 2 ≤ length file + 1
tokens-bound = bound_by today
