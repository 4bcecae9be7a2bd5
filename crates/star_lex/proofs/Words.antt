-- Words by their first bytes: what `after` finds, and which rule holds.
use mathlib.Core.Path.{◌≡◌, refl, sym}
use mathlib.Core.Bool.{Bool, true, false, cond, ◌&&◌}
use mathlib.Core.List.{List, [], ◌∷◌, ◌++◌}
use mathlib.Core.Option.{Option, none, some}
use Prim.Native.Nat.{ℕ, ◌<◌}
use native.Mathlib.Nat.{not-suc-le-zero}
use native.Mathlib.Omega.{arith}
use borrow.Author.Tests.{eq-eqb, ne_eqb, eqb-true}
use lib.Dec.{eqb}
use lib.ListN.{length, get_or, take, drop}
use lib.Pointwise.{pointwise}
use Rattle.star_text.proofs.Bytes.{eqb_comm}
use Rattle.star_lex.specs.Rules.{Rules}
use Rattle.star_lex.specs.Tokens.{data_word, save_word, loop_word, stop_word, global_word}
use Rattle.star_lex.specs.Split.{token, faulty, after, either, alone, block_word, frame_word, name_word, reference_word, limited, word_lexeme}
use Rattle.star_lex.proofs.Cases.{impossible, cond_cases}

both : (s t : Bool) (found : Option (List ℕ)) → cond s (cond t found none) none ≡ cond (s && t) found none
both true t found = refl
both false t found = refl

-- a word begins with p where its first bytes are those of p
after-is : (p w : List ℕ) → after p w ≡ cond (pointwise eqb (take (length p) w) p) (some (drop (length p) w)) none
unfolding after
after-is [] w = refl
after-is (a ∷ p) [] = refl
after-is (a ∷ p) (b ∷ w) = rw (eqb_comm a b, after-is p w) (both (eqb b a) _ _)

pub after-some : (p w c : List ℕ) → pointwise eqb (take (length p) w) p ≡ true → c ≡ drop (length p) w → after p w ≡ some c
after-some p w c e q = rw (after-is p w, e, q)

pub after_none : (p w : List ℕ) → pointwise eqb (take (length p) w) p ≡ false → after p w ≡ none
after_none p w e = rw (after-is p w, e)

-- what is found follows the first part
pub after-append : (ps w cs : List ℕ) → after ps w ≡ some cs → w ≡ ps ++ cs
unfolding after
after-append [] w cs e = cc
after-append (a ∷ ps) [] cs e = impossible cc
after-append (a ∷ ps) (b ∷ bs) cs e =
    cond_cases (eqb a b) _ _ _ e (λ q h. cc (eqb-true a b q, after-append ps bs cs h)) (λ q h. impossible cc)

-- what follows a first part, if anything does
module _ (rules : Rules) (more : ℕ) where
  pub block-none : (code : List ℕ) → length code ≡ 0 → block_word rules more code ≡ faulty 3
  unfolding block_word
  block-none [] h = refl
  block-none (b ∷ code) h = absurd (omega arith)

  pub block-some : (code : List ℕ) → (length code ≡ 0 → ⊥) → block_word rules more code ≡ limited rules more 1 code
  unfolding block_word
  block-some [] h = absurd (h refl)
  block-some (b ∷ code) h = refl

  pub frame-none : (code : List ℕ) → length code ≡ 0 → frame_word rules more code ≡ token more (record { kind = 3; content = save_word })
  unfolding frame_word
  frame-none [] h = refl
  frame-none (b ∷ code) h = absurd (omega arith)

  pub frame-some : (code : List ℕ) → (length code ≡ 0 → ⊥) → frame_word rules more code ≡ limited rules more 2 code
  unfolding frame_word
  frame-some [] h = absurd (h refl)
  frame-some (b ∷ code) h = refl

  pub name-none : (letters : List ℕ) → length letters ≡ 0 → name_word rules more letters ≡ faulty 3
  unfolding name_word
  name-none [] h = refl
  name-none (b ∷ letters) h = absurd (omega arith)

  pub name-some : (letters : List ℕ) → (length letters ≡ 0 → ⊥) → name_word rules more letters ≡ limited rules more 6 (95 ∷ letters)
  unfolding name_word
  name-some [] h = absurd (h refl)
  name-some (b ∷ letters) h = refl

pub reference-none : (more : ℕ) (code : List ℕ) → length code ≡ 0 → reference_word more code ≡ token more (record { kind = 7; content = 36 ∷ [] })
unfolding reference_word
reference-none more [] h = refl
reference-none more (b ∷ code) h = absurd (omega arith)

pub reference-some : (more : ℕ) (code : List ℕ) → (length code ≡ 0 → ⊥) → reference_word more code ≡ token more (record { kind = 8; content = code })
unfolding reference_word
reference-some more [] h = absurd (h refl)
reference-some more (b ∷ code) h = refl

-- no keyword begins the word
pub record NoKeyword (w : List ℕ) : Type 0 where
  pub no-data : after data_word w ≡ none
  pub no-save : after save_word w ≡ none
  pub no_loop : after loop_word w ≡ none
  pub no_stop : after stop_word w ≡ none
  pub no-global : after global_word w ≡ none

-- the first byte decides that a word does not begin so
after_first : (a : ℕ) (p w : List ℕ) → (get_or w 0 0 ≡ a → ⊥) → after (a ∷ p) w ≡ none
unfolding after
after_first a p [] f = refl
after_first a p (b ∷ w) f = rw (ne_eqb a b (λ e. f (sym e)))

after-byte : (a : ℕ) (w : List ℕ) → 0 < length w → get_or w 0 0 ≡ a → after (a ∷ []) w ≡ some (drop 1 w)
unfolding after
after-byte a [] h e = absurd (not-suc-le-zero h)
after-byte a (b ∷ w) h e = rw (eq-eqb a b (sym e))

no-keyword : (w : List ℕ) → (get_or w 0 0 ≡ 100 → ⊥) → (get_or w 0 0 ≡ 115 → ⊥) → (get_or w 0 0 ≡ 108 → ⊥) → (get_or w 0 0 ≡ 103 → ⊥)
    → NoKeyword w
unfolding data_word save_word loop_word stop_word global_word
no-keyword w d s l g = record {
  no-data = after_first 100 _ w d;
  no-save = after_first 115 _ w s;
  no_loop = after_first 108 _ w l;
  no_stop = after_first 115 _ w s;
  no-global = after_first 103 _ w g;
}

-- the rules for words, by the first byte
module _ (rules : Rules) (more : ℕ) (w : List ℕ) where
  ordinary : NoKeyword w → (get_or w 0 0 ≡ 95 → ⊥) → (get_or w 0 0 ≡ 36 → ⊥) → word_lexeme rules more w ≡ token more (record { kind = 7; content = w })
  unfolding word_lexeme either
  ordinary k n r = rw (k.no-data, k.no-save, k.no_loop, k.no_stop, k.no-global, after_first 95 [] w n, after_first 36 [] w r)

  pub word-data : (c : List ℕ) → after data_word w ≡ some c → word_lexeme rules more w ≡ block_word rules more c
  unfolding word_lexeme either
  word-data c e = rw e

  pub word-d : get_or w 0 0 ≡ 100 → after data_word w ≡ none → word_lexeme rules more w ≡ token more (record { kind = 7; content = w })
  unfolding save_word loop_word stop_word global_word
  word-d h e =
      ordinary (record { no-data = e; no-save = after_first 115 _ w (λ q. omega arith); no_loop = after_first 108 _ w (λ q. omega arith); no_stop = after_first 115 _ w (λ q. omega arith); no-global = after_first 103 _ w (λ q. omega arith) })
      (λ q. omega arith) (λ q. omega arith)

  pub word-save : get_or w 0 0 ≡ 115 → (c : List ℕ) → after save_word w ≡ some c → word_lexeme rules more w ≡ frame_word rules more c
  unfolding word_lexeme either data_word
  word-save h c e = rw (after_first 100 (97 ∷ 116 ∷ 97 ∷ 95 ∷ []) w (λ q. omega arith), e)

  pub word-stop : get_or w 0 0 ≡ 115 → after save_word w ≡ none → (c : List ℕ) → after stop_word w ≡ some c → word_lexeme rules more w ≡ alone more 5 stop_word c
  unfolding word_lexeme either data_word loop_word
  word-stop h n c e = rw (after_first 100 (97 ∷ 116 ∷ 97 ∷ 95 ∷ []) w (λ q. omega arith), n, after_first 108 (111 ∷ 111 ∷ 112 ∷ 95 ∷ []) w (λ q. omega arith), e)

  pub word-s : get_or w 0 0 ≡ 115 → after save_word w ≡ none → after stop_word w ≡ none → word_lexeme rules more w ≡ token more (record { kind = 7; content = w })
  unfolding data_word loop_word global_word
  word-s h n e =
      ordinary (record { no-data = after_first 100 _ w (λ q. omega arith); no-save = n; no_loop = after_first 108 _ w (λ q. omega arith); no_stop = e; no-global = after_first 103 _ w (λ q. omega arith) })
      (λ q. omega arith) (λ q. omega arith)

  pub word-loop : get_or w 0 0 ≡ 108 → (c : List ℕ) → after loop_word w ≡ some c → word_lexeme rules more w ≡ alone more 4 loop_word c
  unfolding word_lexeme either data_word save_word
  word-loop h c e = rw (after_first 100 (97 ∷ 116 ∷ 97 ∷ 95 ∷ []) w (λ q. omega arith), after_first 115 (97 ∷ 118 ∷ 101 ∷ 95 ∷ []) w (λ q. omega arith), e)

  pub word-l : get_or w 0 0 ≡ 108 → after loop_word w ≡ none → word_lexeme rules more w ≡ token more (record { kind = 7; content = w })
  unfolding data_word save_word stop_word global_word
  word-l h e =
      ordinary (record { no-data = after_first 100 _ w (λ q. omega arith); no-save = after_first 115 _ w (λ q. omega arith); no_loop = e; no_stop = after_first 115 _ w (λ q. omega arith); no-global = after_first 103 _ w (λ q. omega arith) })
      (λ q. omega arith) (λ q. omega arith)

  pub word-global : get_or w 0 0 ≡ 103 → (c : List ℕ) → after global_word w ≡ some c → word_lexeme rules more w ≡ alone more 12 global_word c
  unfolding word_lexeme either data_word save_word loop_word stop_word
  word-global h c e =
      rw (after_first 100 (97 ∷ 116 ∷ 97 ∷ 95 ∷ []) w (λ q. omega arith), after_first 115 (97 ∷ 118 ∷ 101 ∷ 95 ∷ []) w (λ q. omega arith), after_first 108 (111 ∷ 111 ∷ 112 ∷ 95 ∷ []) w (λ q. omega arith), after_first 115 (116 ∷ 111 ∷ 112 ∷ 95 ∷ []) w (λ q. omega arith), e)

  pub word-g : get_or w 0 0 ≡ 103 → after global_word w ≡ none → word_lexeme rules more w ≡ token more (record { kind = 7; content = w })
  unfolding data_word save_word loop_word stop_word
  word-g h e =
      ordinary (record { no-data = after_first 100 _ w (λ q. omega arith); no-save = after_first 115 _ w (λ q. omega arith); no_loop = after_first 108 _ w (λ q. omega arith); no_stop = after_first 115 _ w (λ q. omega arith); no-global = e })
      (λ q. omega arith) (λ q. omega arith)

  pub word-name : 0 < length w → get_or w 0 0 ≡ 95 → word_lexeme rules more w ≡ name_word rules more (drop 1 w)
  unfolding word_lexeme either
  word-name h e =
      let k : NoKeyword w = no-keyword w (λ q. omega arith) (λ q. omega arith) (λ q. omega arith) (λ q. omega arith) in
      rw (k.no-data, k.no-save, k.no_loop, k.no_stop, k.no-global, after-byte 95 w h e)

  pub word-reference : 0 < length w → get_or w 0 0 ≡ 36 → word_lexeme rules more w ≡ reference_word more (drop 1 w)
  unfolding word_lexeme either
  word-reference h e =
      let k : NoKeyword w = no-keyword w (λ q. omega arith) (λ q. omega arith) (λ q. omega arith) (λ q. omega arith) in
      rw (k.no-data, k.no-save, k.no_loop, k.no_stop, k.no-global, after_first 95 [] w (λ q. omega arith), after-byte 36 w h e)

  pub word-other : (get_or w 0 0 ≡ 100 → ⊥) → (get_or w 0 0 ≡ 115 → ⊥) → (get_or w 0 0 ≡ 108 → ⊥) → (get_or w 0 0 ≡ 103 → ⊥) → (get_or w 0 0 ≡ 95 → ⊥) → (get_or w 0 0 ≡ 36 → ⊥)
      → word_lexeme rules more w ≡ token more (record { kind = 7; content = w })
  word-other d s l g n r = ordinary (no-keyword w d s l g) n r

pub word-empty : (rules : Rules) (more : ℕ) (w : List ℕ) → length w ≡ 0 → word_lexeme rules more w ≡ token more (record { kind = 7; content = w })
word-empty rules more [] e = word-other rules more [] (λ q. omega arith) (λ q. omega arith) (λ q. omega arith) (λ q. omega arith) (λ q. omega arith) (λ q. omega arith)
word-empty rules more (b ∷ w) e = absurd (omega arith)

-- a word that stands alone
pub alone-whole : (more kind : ℕ) (word rest : List ℕ) → length rest ≡ 0 → alone more kind word rest ≡ token more (record { kind = kind; content = word })
unfolding alone
alone-whole more kind word [] h = refl
alone-whole more kind word (b ∷ rest) h = absurd (omega arith)

pub alone-followed : (more kind : ℕ) (word rest : List ℕ) → (length rest ≡ 0 → ⊥) → alone more kind word rest ≡ faulty 3
unfolding alone
alone-followed more kind word [] h = absurd (h refl)
alone-followed more kind word (b ∷ rest) h = refl
