-- Laws of writing one word of a row: a stored row that differs in the word is stored, and a row that is put after it covers it.
use mathlib.Core.Path.{◌≡◌, refl, sym, ◌∙◌, ap}
use mathlib.Core.Bool.{Bool, true, false}
use mathlib.Core.List.{List, [], ◌∷◌, ◌++◌, flat_map}
use Prim.Native.Nat.{ℕ, zero, suc, ◌+◌, ◌-◌, ◌*◌, ◌/◌, ◌≤◌, ◌<◌}
use native.Mathlib.Nat.{zero-mul, zero-add, suc-mul, mul-le-mul_right, le-div_iff_mul-le}
use native.Mathlib.Omega.{arith}
use borrow.Author.Tests.{lt-ltb, le-ltb, ltb-true, ltb-false}
use lib.Dec.{ltb}
use lib.ListN.{length, get_or, take, drop, set, length-set, length-take}
use lib.Seq.{sets-eq, set-append_left, take-set-le, take-set-lt, drop-set-lt, get_or-take}
use Rattle.star_rows.specs.Rows.{put_row, put_word, stored}
use Rattle.std.proofs.lemmas.List.{set-append_right}
use Rattle.star_rows.proofs.Stored.{put-fits, flat-length, length-stored}

-- a word of a row that fits is written
pub word_fits : (width n k v : ℕ) (words : List ℕ) → n < length words / width → put_word width n k v words ≡ set words (n * width + k) v
unfolding put_word
word_fits width n k v words h = rw (lt-ltb n (length words / width) h)

-- one of a row that does not fit changes nothing
pub word-full : (width n k v : ℕ) (words : List ℕ) → length words / width ≤ n → put_word width n k v words ≡ words
unfolding put_word
word-full width n k v words h = rw (le-ltb n (length words / width) h)

-- a row that is put covers a word of it that was written before
pub put-covers : (row : List ℕ) (n k v : ℕ) (words : List ℕ) → 0 < length row → k < length row
    → put_row row n (put_word (length row) n k v words) ≡ put_row row n words
put-covers row n k v words some h = go (ltb n (length words / length row)) refl
  where
    width : ℕ
    width = length row

    at : ℕ
    at = n * width

    go : (b : Bool) → ltb n (length words / width) ≡ b → put_row row n (put_word width n k v words) ≡ put_row row n words
    go true e =
        let f : n < length words / width = ltb-true _ _ e in
        let room : at + width ≤ length words = omega (arith, (le-div_iff_mul-le some).0 f, suc-mul n width) in
        ap (put_row row n) (word_fits width n k v words f)
        ∙ put-fits row n (set words (at + k) v) (rw length-set f)
        ∙ sets-eq row (set words (at + k) v) at (rw length-set room)
        ∙ rw (take-set-le at words (at + k) v (omega arith), drop-set-lt (at + width) words (at + k) v (omega arith))
        (sym (sets-eq row words at room) ∙ sym (put-fits row n words f))
    go false e = ap (put_row row n) (word-full width n k v words (ltb-false _ _ e))

module _ {ℓ} {A : Type ℓ} (width : ℕ) (row : A → List ℕ) (wide : (x : A) → length (row x) ≡ width) (some : 0 < width) (d : A) where
  flat-set : (xs : List A) (i k v : ℕ) (y : A) → i < length xs → k < width → row y ≡ set (row (get_or xs i d)) k v
      → flat_map row (set xs i y) ≡ set (flat_map row xs) (i * width + k) v
  unfolding flat_map
  flat-set [] i k v y h j e = absurd (omega arith)
  flat-set (x ∷ xs) zero k v y h j e =
      ap (λ r. r ++ flat_map row xs) e
      ∙ sym (set-append_left (row x) (flat_map row xs) k v (rw wide j))
      ∙ ap (λ n. set (row x ++ flat_map row xs) n v) (sym (ap (λ n. n + k) (zero-mul width) ∙ zero-add k))
  flat-set (x ∷ xs) (suc i) k v y h j e =
      ap (λ r. row x ++ r) (flat-set xs i k v y (omega arith) j e)
      ∙ ap (λ n. row x ++ set (flat_map row xs) n v) (let m : i * width + k ≡ suc i * width + k - width = omega (arith, suc-mul i width) in m)
      ∙ sym (set-append_right (row x) (flat_map row xs) width (suc i * width + k) v (wide x) (omega (arith, suc-mul i width)))

  -- a row that differs in one word
  pub stored-word : (xs : List A) (i k v : ℕ) (y : A) (words : List ℕ) → i < length xs → k < width → row y ≡ set (row (get_or xs i d)) k v
      → stored width row (set xs i y) words ≡ put_word width i k v (stored width row xs words)
  unfolding stored
  stored-word xs i k v y words h j e = go (ltb i (length words / width)) refl
    where
      most : ℕ
      most = length words / width

      go : (b : Bool) → ltb i most ≡ b → stored width row (set xs i y) words ≡ put_word width i k v (stored width row xs words)
      go true q =
          let f : i < most = ltb-true _ _ q in
          let first : List ℕ = flat_map row (take most xs) in
          let below : i < length (take most xs) = rw length-take (omega arith) in
          let within : i * width + k < length first
          = rw (flat-length width row wide some (take most xs)) (omega (arith, mul-le-mul_right width below, suc-mul i width)) in
          ap (λ t. flat_map row t ++ drop (length (flat_map row t)) words) (take-set-lt most xs i y f)
          ∙ ap (λ t. t ++ drop (length t) words)
          (flat-set (take most xs) i k v y below j (e ∙ ap (λ x. set (row x) k v) (sym (get_or-take most xs i d f))))
          ∙ ap (λ n. set first (i * width + k) v ++ drop n words) (length-set first (i * width + k) v)
          ∙ sym (set-append_left first (drop (length first) words) (i * width + k) v within)
          ∙ sym (word_fits width i k v (stored width row xs words) (rw (length-stored width row wide some xs words) f))
      go false q =
          let f : most ≤ i = ltb-false _ _ q in
          ap (λ t. flat_map row t ++ drop (length (flat_map row t)) words) (take-set-le most xs i y f)
          ∙ sym (word-full width i k v (stored width row xs words) (rw (length-stored width row wide some xs words) f))
