-- What the functions on strings, text fields and words find is what the rules of the split say: a content ends before the end of the file
-- exactly where it closes, and a word's content and what stands before it are the whole word.
use mathlib.Core.Path.{◌≡◌, refl, sym, ◌∙◌, ap, subst}
use mathlib.Core.Bool.{Bool, true, false, cond, not}
use mathlib.Core.List.{List, [], ◌∷◌}
use mathlib.Core.Option.{Option, none, some}
use Prim.Native.Nat.{ℕ, suc, ◌+◌, ◌-◌, ◌≤◌, ◌<◌}
use native.Mathlib.Nat.{zero-add}
use native.Mathlib.Numerals.{add-one}
use native.Mathlib.Omega.{arith}
use lib.Dec.{leb}
use lib.ListN.{length, get_or, take, drop, length-append, length-drop}
use lib.Seq.{drop-cons, drop-drop, drop-append_seam, get_or-drop}
use Rattle.star_text.specs.Bytes.{is_terminate, is_white, leading}
use Rattle.star_text.specs.Classes.{Classes, below_in}
use Rattle.star_text.proofs.Classes.{run-word}
use Rattle.star_text.proofs.Run.{run_take}
use Rattle.star_lex.specs.Rules.{Rules, today}
use Rattle.star_lex.specs.Tokens.{opening, data_word, save_word, loop_word, stop_word, global_word}
use Rattle.star_lex.specs.Split.{Lexeme, gap, token, faulty, after, either, quoted, line_end, closes, close_length, field, white_next, limited, block_word, frame_word, alone, name_word, reference_word, word_lexeme, quoted_lexeme, field_lexeme}
use Rattle.star_lex.specs.Answer.{Token as FoundToken, Fault, Kind, Ill, scanned_at, end_of, word_answer}
use Rattle.star_lex.proofs.Cases.{impossible}
use Rattle.star_lex.proofs.LineEnds.{closes-first, closes-within}
use Rattle.star_lex.proofs.Delimited.{quoted-some, field-some}
use Rattle.star_lex.proofs.Words.{after-append}

-- of a content that ends within the file
some_of : (size at : ℕ) (o : Option (List ℕ)) → (end_of size at o ≡ size → ⊥) → (c : List ℕ) × (o ≡ some c)
unfolding end_of
some_of size at none f = absurd (f refl)
some_of size at (some c) f = (c, refl)

none_of : (size at : ℕ) (o : Option (List ℕ)) → ((c : List ℕ) → o ≡ some c → at + length c < size) → end_of size at o ≡ size → o ≡ none
unfolding end_of
none_of size at none h e = refl
none_of size at (some c) h e = absurd (omega (arith, h c refl))

module _ (file : List ℕ) (at : ℕ) (inside : at < length file) where
  rest : List ℕ
  rest = drop (at + 1) file

  -- what closes a field, with how many bytes
  field-closing : (c : List ℕ) → field today rest ≡ some c
      → (is_terminate (get_or file (at + 1 + length c) 0) ≡ true) × (at + 1 + length c + close_length today (drop (at + 1 + length c) file) ≤ length file)
  unfolding rest closes line_end
  field-closing c e =
      let (r, s, t, u) = field-some today rest c e in
      let d : drop (at + 1 + length c) file ≡ r = sym (drop-drop (length c) (at + 1) file) ∙ ap (drop (length c)) s ∙ drop-append_seam c r in
      let w = closes-within today r t in
      let n : length r ≡ length file - (at + 1 + length c) = ap length (sym d) ∙ length-drop (at + 1 + length c) file in
      let i : at + 1 + length c < length file = omega arith in (
        closes-first today _ _ (ap (closes today) (sym (drop-cons file (at + 1 + length c) 0 i) ∙ d) ∙ t),
        rw d (omega arith),
      )

  field_fits : (c : List ℕ) → field today rest ≡ some c → at + 1 + length c < length file
  unfolding close_length
  field_fits c e = omega (arith, (field-closing c e).1)

  pub field_open : (end : ℕ) → end ≡ end_of (length file) (at + 1) (field today (drop (at + 1) file)) → end ≡ length file
      → scanned_at at (field_lexeme today (field today (drop (at + 1) file)) (drop (at + 1) file)) ≡ Fault 6
  unfolding scanned_at field_lexeme rest
  field_open end n e = rw (none_of (length file) (at + 1) (field today rest) field_fits (sym n ∙ e))

  -- the content of a field that ends within the file
  field-content : (end : ℕ) → end ≡ end_of (length file) (at + 1) (field today rest) → (end ≡ length file → ⊥)
      → (c : List ℕ) × (field today rest ≡ some c) × (end ≡ at + 1 + length c)
  unfolding end_of
  field-content end n f =
      let (c, q) = some_of (length file) (at + 1) (field today rest) (λ e. f (n ∙ e)) in
      (c, q, n ∙ ap (end_of (length file) (at + 1)) q)

  -- there a line end begins, and it and `;` are of the file
  pub field-within : (end : ℕ) → end ≡ end_of (length file) (at + 1) (field today (drop (at + 1) file)) → (end ≡ length file → ⊥)
      → (is_terminate (get_or file end 0) ≡ true) × (end + close_length today (drop end file) ≤ length file)
  unfolding rest
  field-within end n f =
      let (c, q, m) = field-content end n f in
      subst (λ e. (is_terminate (get_or file e 0) ≡ true) × (e + close_length today (drop e file) ≤ length file)) (sym m) (field-closing c q)

  field-closed : (c : List ℕ) (t : Bool) (end more : ℕ) → field today rest ≡ some c → end ≡ at + 1 + length c → more ≡ line_end today (drop end file)
      → white_next (drop (end + more + 1) file) ≡ t
      → scanned_at at (field_lexeme today (field today rest) rest) ≡ cond t (FoundToken 11 (at + 1) end (end + more + 1)) (Fault 6)
  unfolding scanned_at field_lexeme close_length rest opening
  field-closed c t end more q m n w =
      let e : at + 1 + (length c + (more + 1)) ≡ end + more + 1 = omega arith in
      rw (q, drop-drop (length c), ← m, ← n, drop-drop (length c + (more + 1)), e, w) (ends t e)
    where
      ends : (t : Bool) → at + 1 + (length c + (more + 1)) ≡ end + more + 1
          → scanned_at at (cond t (token (length c + (more + 1)) (record { kind = 11; content = c })) (faulty 6))
          ≡ cond t (FoundToken 11 (at + 1) end (end + more + 1)) (Fault 6)
      ends true f = rw (← m, f)
      ends false f = refl

  pub field_found : (t : Bool) (end more : ℕ) → end ≡ end_of (length file) (at + 1) (field today (drop (at + 1) file)) → (end ≡ length file → ⊥)
      → more ≡ line_end today (drop end file) → white_next (drop (end + more + 1) file) ≡ t
      → scanned_at at (field_lexeme today (field today (drop (at + 1) file)) (drop (at + 1) file))
      ≡ cond t (FoundToken 11 (at + 1) end (end + more + 1)) (Fault 6)
  unfolding rest
  field_found t end more n f l w =
      let (c, q, m) = field-content end n f in
      field-closed c t end more q m l w

  module _ (quote kind : ℕ) (graphic : is_white quote ≡ false) where
    quoted-fits : (c : List ℕ) → quoted quote rest ≡ some c → at + 1 + length c + 1 ≤ length file
    unfolding rest
    quoted-fits c e =
        let (r, s, t) = quoted-some quote rest c graphic e in
        omega (arith, length-drop (at + 1) file, simp length-append at (ap length s))

    pub quote-open : end_of (length file) (at + 1) (quoted quote (drop (at + 1) file)) ≡ length file
        → scanned_at at (quoted_lexeme kind (quoted quote (drop (at + 1) file))) ≡ Fault 5
    unfolding scanned_at quoted_lexeme rest
    quote-open e = rw (none_of (length file) (at + 1) (quoted quote rest) (λ c q. omega (arith, quoted-fits c q)) e)

    pub quote-within : (end_of (length file) (at + 1) (quoted quote (drop (at + 1) file)) ≡ length file → ⊥)
        → end_of (length file) (at + 1) (quoted quote (drop (at + 1) file)) + 1 ≤ length file
    unfolding end_of rest
    quote-within f =
        let (c, q) = some_of (length file) (at + 1) (quoted quote rest) f in
        rw q (quoted-fits c q)

    quote-closed : (c : List ℕ) → length (opening kind) ≡ 1 → quoted quote rest ≡ some c
        → scanned_at at (quoted_lexeme kind (quoted quote rest))
        ≡ FoundToken kind (at + 1) (end_of (length file) (at + 1) (quoted quote rest)) (end_of (length file) (at + 1) (quoted quote rest) + 1)
    unfolding scanned_at quoted_lexeme end_of rest
    quote-closed c o q =
        let f : at + 1 + suc (length c) ≡ at + 1 + length c + 1 = omega arith in
        rw (q, o, f)

    pub quote-token : length (opening kind) ≡ 1 → (end_of (length file) (at + 1) (quoted quote (drop (at + 1) file)) ≡ length file → ⊥)
        → scanned_at at (quoted_lexeme kind (quoted quote (drop (at + 1) file)))
        ≡ FoundToken kind (at + 1) (end_of (length file) (at + 1) (quoted quote (drop (at + 1) file)))
        (end_of (length file) (at + 1) (quoted quote (drop (at + 1) file)) + 1)
    unfolding rest
    quote-token o f =
        let (c, q) = some_of (length file) (at + 1) (quoted quote rest) f in
        quote-closed c o q

-- a word's token: so many bytes follow its first, and what stands before its content and the content are so many bytes
abbrev pub Shaped : (more size : ℕ) → Lexeme → Type 0
Shaped more size (gap m) = ⊥
Shaped more size (token m t) = (m ≡ more) × (length (opening t.kind) + length t.content ≡ size)
Shaped more size (faulty n) = (3 ≤ n) × (n ≤ 6)

either-shaped : (more size : ℕ) (o : Option (List ℕ)) (f : List ℕ → Lexeme) (other : Lexeme)
    → ((c : List ℕ) → o ≡ some c → Shaped more size (f c)) → Shaped more size other → Shaped more size (either o f other)
unfolding either
either-shaped more size none f other g h = h
either-shaped more size (some c) f other g h = g c refl

limited-shaped : (rules : Rules) (more size kind : ℕ) (c : List ℕ) → length (opening kind) + length c ≡ size → Shaped more size (limited rules more kind c)
unfolding limited
limited-shaped rules more size kind c e = go (leb (length c) rules.longest)
  where
    go : (t : Bool) → Shaped more size (cond t (token more (record { kind = kind; content = c })) (faulty 4))
    go true = (refl, e)
    go false = (omega arith, omega arith)

after-length : (p w c : List ℕ) → after p w ≡ some c → length p + length c ≡ length w
after-length p w c e = sym (ap length (after-append p w c e) ∙ length-append p c)

block-shaped : (rules : Rules) (more size : ℕ) (c : List ℕ) → 5 + length c ≡ size → Shaped more size (block_word rules more c)
unfolding block_word opening data_word
block-shaped rules more size [] e = (omega arith, omega arith)
block-shaped rules more size (b ∷ c) e = limited-shaped rules more size 1 (b ∷ c) e

frame-shaped : (rules : Rules) (more size : ℕ) (c : List ℕ) → 5 + length c ≡ size → Shaped more size (frame_word rules more c)
unfolding frame_word opening save_word
frame-shaped rules more size [] e = (refl, e)
frame-shaped rules more size (b ∷ c) e = limited-shaped rules more size 2 (b ∷ c) e

alone-shaped : (more size kind : ℕ) (w c : List ℕ) → length (opening kind) ≡ 0 → length w + length c ≡ size → Shaped more size (alone more kind w c)
unfolding alone
alone-shaped more size kind w [] o e = (refl, omega arith)
alone-shaped more size kind w (b ∷ c) o e = (omega arith, omega arith)

name-shaped : (rules : Rules) (more size : ℕ) (c : List ℕ) → 1 + length c ≡ size → Shaped more size (name_word rules more c)
unfolding name_word opening
name-shaped rules more size [] e = (omega arith, omega arith)
name-shaped rules more size (b ∷ c) e = limited-shaped rules more size 6 (95 ∷ b ∷ c) (omega (arith, e))

reference-shaped : (more size : ℕ) (c : List ℕ) → 1 + length c ≡ size → Shaped more size (reference_word more c)
unfolding reference_word opening
reference-shaped more size [] e = (refl, e)
reference-shaped more size (b ∷ c) e = (refl, e)

pub word-shaped : (rules : Rules) (more : ℕ) (w : List ℕ) → Shaped more (length w) (word_lexeme rules more w)
unfolding word_lexeme data_word save_word loop_word stop_word global_word opening
word-shaped rules more w =
    either-shaped more n (after data_word w) _ _ (λ c e. block-shaped rules more n c (after-length data_word w c e))
    (either-shaped more n (after save_word w) _ _ (λ c e. frame-shaped rules more n c (after-length save_word w c e))
    (either-shaped more n (after loop_word w) _ _ (λ c e. alone-shaped more n 4 loop_word c refl (after-length loop_word w c e))
    (either-shaped more n (after stop_word w) _ _ (λ c e. alone-shaped more n 5 stop_word c refl (after-length stop_word w c e))
    (either-shaped more n (after global_word w) _ _ (λ c e. alone-shaped more n 12 global_word c refl (after-length global_word w c e))
    (either-shaped more n (after (95 ∷ []) w) _ _ (λ c e. name-shaped rules more n c (after-length (95 ∷ []) w c e))
    (either-shaped more n (after (36 ∷ []) w) _ _ (λ c e. reference-shaped more n c (after-length (36 ∷ []) w c e)) (refl, zero-add n)))))))
  where
    n : ℕ
    n = length w

-- what a word's kind tells of its token at a place
pub word-found : (rules : Rules) (at more k : ℕ) (w : List ℕ) → suc more ≡ length w → Kind k ≡ word_answer (word_lexeme rules more w)
    → scanned_at at (word_lexeme rules more w) ≡ FoundToken k (at + length (opening k)) (at + 1 + more) (at + 1 + more)
unfolding scanned_at word_answer
word-found rules at more k w s e = go (word_lexeme rules more w) (word-shaped rules more w) e
  where
    go : (l : Lexeme) → Shaped more (length w) l → Kind k ≡ word_answer l
        → scanned_at at l ≡ FoundToken k (at + length (opening k)) (at + 1 + more) (at + 1 + more)
    go (gap m) h q = absurd h
    go (token m t) h q =
        let p : t.kind ≡ k = cc in
        let o : at + length (opening t.kind) + length t.content ≡ at + 1 + more = omega arith in
        cc
    go (faulty n) h q = impossible cc

-- what stands before a word's content is of the word
pub word-lead : (rules : Rules) (more k : ℕ) (w : List ℕ) → Kind k ≡ word_answer (word_lexeme rules more w) → length (opening k) ≤ length w
unfolding word_answer
word-lead rules more k w e = go (word_lexeme rules more w) (word-shaped rules more w) e
  where
    go : (l : Lexeme) → Shaped more (length w) l → Kind k ≡ word_answer l → length (opening k) ≤ length w
    go (gap m) h q = absurd h
    go (token m t) h q = let p : length (opening k) ≡ length (opening t.kind) = cc in omega arith
    go (faulty n) h q = impossible cc

pub word-ill : (rules : Rules) (at more n : ℕ) (w : List ℕ) → Ill n ≡ word_answer (word_lexeme rules more w) → scanned_at at (word_lexeme rules more w) ≡ Fault n
unfolding scanned_at word_answer
word-ill rules at more n w e = go (word_lexeme rules more w) (word-shaped rules more w) e
  where
    go : (l : Lexeme) → Shaped more (length w) l → Ill n ≡ word_answer l → scanned_at at l ≡ Fault n
    go (gap m) h q = absurd h
    go (token m t) h q = impossible cc
    go (faulty k) h q = let p : n ≡ k = cc in ap Fault (sym p)

-- the part of the file from a byte up to white space
pub word-part : {table : List ℕ} → Classes table → (file : List ℕ) (at end : ℕ) → at < length file → ((i : ℕ) → get_or file i 0 < 256)
    → end ≡ at + 1 + length (leading (below_in table 2) (drop (at + 1) file))
    → (end ≡ at + 1 + length (leading (λ c. not (is_white c)) (drop (at + 1) file)))
    × (take (end - at) (drop at file) ≡ get_or file at 0 ∷ leading (λ c. not (is_white c)) (drop (at + 1) file))
word-part c file at end h bytes e =
    let f : end ≡ at + 1 + length (leading (λ c. not (is_white c)) (drop (at + 1) file)) =
    e ∙ ap (λ r. at + 1 + length r) (run-word c (drop (at + 1) file) (λ i. rw get_or-drop (bytes (at + 1 + i)))) in
    let n : end - at ≡ suc (length (leading (λ c. not (is_white c)) (drop (at + 1) file))) = omega arith in
    (f, rw (n, drop-cons file at 0 h, ← add-one at) (ap (λ r. get_or file at 0 ∷ r) (run_take (λ c. not (is_white c)) (drop (at + 1) file))))
