-- A word of a table that holds rows is the word of its row: the rows before it are all of one width, and it comes before the words after the
-- last row. Its words are no fewer than those of its rows.
use mathlib.Core.Path.{◌≡◌, ◌∙◌, ap}
use mathlib.Core.List.{List, [], ◌∷◌, ◌++◌, flat_map}
use Prim.Native.Nat.{ℕ, zero, suc, ◌+◌, ◌-◌, ◌*◌, ◌≤◌, ◌<◌}
use native.Mathlib.Nat.{zero-mul, suc-mul, mul-le-mul_right}
use native.Mathlib.Omega.{arith}
use lib.ListN.{length, get_or, replicate, length-append, length-replicate, get_or-append}
use lib.Seq.{get_or-append-add}
use Rattle.star_rows.specs.Rows.{holding}
use Rattle.star_rows.proofs.Stored.{flat-length}

module _ {ℓ} {A : Type ℓ} (width : ℕ) (row : A → List ℕ) (wide : (x : A) → length (row x) ≡ width) (d : A) where
  flat_word : (xs : List A) (n k : ℕ) → n < length xs → k < width → get_or (flat_map row xs) (n * width + k) 0 ≡ get_or (row (get_or xs n d)) k 0
  unfolding flat_map
  flat_word [] n k h j = absurd (omega arith)
  flat_word (x ∷ xs) zero k h j =
      ap (λ i. get_or (row x ++ flat_map row xs) i 0) (rw zero-mul (omega arith))
      ∙ get_or-append (row x) (flat_map row xs) 0 k (rw wide j)
  flat_word (x ∷ xs) (suc n) k h j =
      ap (λ i. get_or (row x ++ flat_map row xs) i 0) (rw (suc-mul, wide x) (omega arith))
      ∙ get_or-append-add (row x) (flat_map row xs) (n * width + k) 0
      ∙ flat_word xs n k (omega arith) j

  pub held_word : (xs : List A) (words n k : ℕ) → n < length xs → k < width
      → get_or (holding row xs words) (n * width + k) 0 ≡ get_or (row (get_or xs n d)) k 0
  unfolding holding
  held_word xs words n k h j =
      get_or-append (flat_map row xs) (replicate (words - length (flat_map row xs)) 0) 0 (n * width + k)
      (rw (flat-length width row wide (omega arith) xs) (omega (arith, mul-le-mul_right width h, suc-mul n width)))
      ∙ flat_word xs n k h j

module _ {ℓ} {A : Type ℓ} (width : ℕ) (row : A → List ℕ) (wide : (x : A) → length (row x) ≡ width) (some : 0 < width) (xs : List A) (words : ℕ) where
  pub length-holding : length xs * width ≤ words → length (holding row xs words) ≡ words
  unfolding holding
  length-holding h = simp (length-append, length-replicate, flat-length width row wide some) (omega arith)

  pub holding-room : length xs * width ≤ length (holding row xs words)
  unfolding holding
  holding-room = simp (length-append, flat-length width row wide some) (omega arith)
