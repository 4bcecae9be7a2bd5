-- Laws of rows in a table, with the row width as parameter: a row that is put goes behind those before it, and a table that has room for
-- its rows holds them all.
use mathlib.Core.Path.{◌≡◌, refl, sym, ◌∙◌, ap}
use mathlib.Core.Bool.{Bool, true, false}
use mathlib.Core.List.{List, [], ◌∷◌, ◌++◌, flat_map, append-nil, append_assoc}
use Prim.Native.Nat.{ℕ, ◌+◌, ◌-◌, ◌*◌, ◌/◌, ◌≤◌, ◌<◌}
use native.Mathlib.Nat.{le_trans, le_of_lt, le-div_iff_mul-le, div-lt_iff_lt-mul, div-mul-le_self, mul-le-mul_right, min-le_left, zero-mul, suc-mul}
use native.Mathlib.Omega.{arith}
use borrow.Author.Tests.{lt-ltb, le-ltb, le-leb, lt-leb, ltb-true, ltb-false, leb-true, leb-false}
use lib.Dec.{ltb, leb}
use lib.ListN.{length, take, drop, replicate, length-append, length-take, length-drop}
use lib.Seq.{sets, sets-eq, paste, take_all, take-nil, take-append_seam, take-append-le, drop-append-add, drop-drop}
use borrow.Rule.Slice.PartMut.{put_mid}
use Rattle.std.proofs.lemmas.List.Edits.{paste_all}
use Rattle.std.proofs.lemmas.Slice.{put_mid-paste}
use Rattle.star_rows.specs.Rows.{put_row, stored, cleared_from, holding}

-- a row that fits is written
pub put-fits : (row : List ℕ) (n : ℕ) (words : List ℕ) → n < length words / length row
    → put_row row n words ≡ sets words (n * length row) row
unfolding put_row
put-fits row n words h = rw (lt-ltb n (length words / length row) h)

-- a row that does not fit changes nothing
pub put_full : (row : List ℕ) (n : ℕ) (words : List ℕ) → length words / length row ≤ n → put_row row n words ≡ words
unfolding put_row
put_full row n words h = rw (le-ltb n (length words / length row) h)

-- each word of a row that fits lies within the table
pub row-inside : (n words width i : ℕ) → n < words / width → i < width → n * width + i < words
row-inside n words width i h k =
    let some : 0 < width = omega arith in omega (arith, (le-div_iff_mul-le some).0 h, suc-mul n width)

-- a row that is copied into the table, word by word
pub put-copied : (row : List ℕ) (n width : ℕ) (words : List ℕ) → length row ≡ width → 0 < width → n < length words / width
    → paste words (n * width) row width ≡ put_row row n words
put-copied row n width words w some h =
    let within : n * width + width ≤ length words = omega (arith, (le-div_iff_mul-le some).0 h, suc-mul n width) in
    paste_all words (n * width) row width (sym w)
    ∙ sym (append_assoc (take (n * width) words) row (drop (n * width + width) words))
    ∙ ap (λ k. take (n * width) words ++ row ++ drop (n * width + k) words) (sym w)
    ∙ sym (sets-eq row words (n * width) (omega arith))
    ∙ ap (λ k. sets words (n * k) row) (sym w)
    ∙ sym (put-fits row n words (rw w h))

-- a row that is written as a part of the table
pub put-part : (row : List ℕ) (n width : ℕ) (words part : List ℕ) → part ≡ row → length row ≡ width → 0 < width → n < length words / width
    → put_mid (n * width) (n * width + width - n * width) words part ≡ put_row row n words
put-part row n width words part e w some h =
    put_mid-paste (n * width) (n * width + width - n * width) words part row width e (omega arith) (sym w) ∙ put-copied row n width words w some h

pub flat_append {ℓ} : {A : Type ℓ} (row : A → List ℕ) (xs ys : List A) → flat_map row (xs ++ ys) ≡ flat_map row xs ++ flat_map row ys
unfolding flat_map
flat_append row [] ys = refl
flat_append row (x ∷ xs) ys = ap (λ r. row x ++ r) (flat_append row xs ys) ∙ sym (append_assoc (row x) (flat_map row xs) (flat_map row ys))

-- a row written where the rows before it end
over-sets : (a r words : List ℕ) → length a + length r ≤ length words
    → sets (a ++ drop (length a) words) (length a) r ≡ (a ++ r) ++ drop (length (a ++ r)) words
over-sets a r words h =
    sets-eq r (a ++ drop (length a) words) (length a) (simp (length-append, length-drop) (omega arith))
    ∙ ap (λ t. t ++ r ++ drop (length a + length r) (a ++ drop (length a) words)) (take-append_seam a (drop (length a) words))
    ∙ ap (λ t. a ++ r ++ t) (drop-append-add a (drop (length a) words) (length r) ∙ drop-drop (length r) (length a) words)
    ∙ ap (λ t. a ++ r ++ drop t words) (sym (length-append a r))

-- room, as it is asked of a count of rows
pub room : (width n words : ℕ) → 0 < width → leb (n * width) words ≡ leb n (words / width)
room width n words some = go (leb n (words / width)) refl
  where
    go : (b : Bool) → leb n (words / width) ≡ b → leb (n * width) words ≡ b
    go true e = le-leb _ _ ((le-div_iff_mul-le some).0 (leb-true _ _ e))
    go false e = lt-leb _ _ ((div-lt_iff_lt-mul some).0 (leb-false _ _ e))

module _ {ℓ} {A : Type ℓ} (width : ℕ) (row : A → List ℕ) (wide : (x : A) → length (row x) ≡ width) (some : 0 < width) where
  pub flat-length : (xs : List A) → length (flat_map row xs) ≡ length xs * width
  unfolding flat_map
  flat-length [] = sym (zero-mul width)
  flat-length (x ∷ xs) = length-append (row x) (flat_map row xs) ∙ (rw (wide x, flat-length xs, suc-mul) (omega arith))

  -- the rows stored are no more than fit
  fits_whole : (xs : List A) (words : List ℕ) → length (flat_map row (take (length words / width) xs)) ≤ length words
  fits_whole xs words =
      let k : ℕ = length words / width in
      rw (flat-length (take k xs), length-take)
      (le_trans (mul-le-mul_right width (min-le_left k (length xs))) (div-mul-le_self (length words) width))

  pub length-stored : (xs : List A) (words : List ℕ) → length (stored width row xs words) ≡ length words
  unfolding stored
  length-stored xs words = simp (length-append, length-drop) (omega (arith, fits_whole xs words))

  pub stored-none : (words : List ℕ) → words ≡ stored width row [] words
  unfolding stored flat_map
  stored-none words = rw take-nil

  -- all rows fit: they stand before what is left of the table
  pub stored-whole : (xs : List A) (words : List ℕ) → length xs ≤ length words / width
      → stored width row xs words ≡ flat_map row xs ++ drop (length (flat_map row xs)) words
  unfolding stored
  stored-whole xs words h = rw (take_all (length words / width) xs h)

  put-more : (xs : List A) (x : A) (words : List ℕ) (b : Bool) → ltb (length xs) (length words / width) ≡ b
      → stored width row (xs ++ (x ∷ [])) words ≡ put_row (row x) (length xs) (stored width row xs words)
  unfolding flat_map stored
  put-more xs x words true e =
      let h : length xs < length words / width = ltb-true _ _ e in
      let a : List ℕ = flat_map row xs in
      stored-whole (xs ++ (x ∷ [])) words (rw length-append (omega arith))
      ∙ ap (λ t. t ++ drop (length t) words) (flat_append row xs (x ∷ []) ∙ ap (λ t. a ++ t) (append-nil (row x)))
      ∙ sym (over-sets a (row x) words (rw (flat-length xs, wide x) (omega (arith, (le-div_iff_mul-le some).0 h))))
      ∙ ap (λ n. sets (a ++ drop (length a) words) n (row x)) (flat-length xs ∙ ap (λ w. length xs * w) (sym (wide x)))
      ∙ sym (put-fits (row x) (length xs) (a ++ drop (length a) words)
      (rw (wide x, ← stored-whole xs words (le_of_lt h), length-stored xs words) h))
      ∙ ap (put_row (row x) (length xs)) (sym (stored-whole xs words (le_of_lt h)))
  put-more xs x words false e =
      let h : length words / width ≤ length xs = ltb-false _ _ e in
      ap (λ t. flat_map row t ++ drop (length (flat_map row t)) words) (take-append-le (length words / width) xs (x ∷ []) h)
      ∙ sym (put_full (row x) (length xs) (stored width row xs words) (rw (wide x, length-stored xs words) h))

  -- one row more
  pub stored_more : (xs : List A) (x : A) (words : List ℕ)
      → stored width row (xs ++ (x ∷ [])) words ≡ put_row (row x) (length xs) (stored width row xs words)
  stored_more xs x words = put-more xs x words (ltb (length xs) (length words / width)) refl

  -- a table with room, cleared behind its rows, holds them
  pub stored-holding : (xs : List A) (words : List ℕ) → length xs * width ≤ length words
      → cleared_from (length xs * width) (stored width row xs words) ≡ holding row xs (length words)
  unfolding holding
  stored-holding xs words h =
      let a : List ℕ = flat_map row xs in
      rw (length-stored xs words, stored-whole xs words ((le-div_iff_mul-le some).1 h), ← flat-length xs)
      (ap (λ t. t ++ replicate (length words - length a) 0) (take-append_seam a (drop (length a) words)))
