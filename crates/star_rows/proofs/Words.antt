-- Laws of reading a word of a row: where it stands, that of a table that holds rows, and that no product of two 32-bit numbers wraps.
use mathlib.Core.Path.{◌≡◌, ◌∙◌, ap}
use mathlib.Core.List.{List}
use Prim.Native.Nat.{ℕ, zero, suc, ◌+◌, ◌-◌, ◌*◌, ◌≤◌, ◌<◌}
use native.Mathlib.Nat.{mul-le-mul_right}
use native.Mathlib.Omega.{arith}
use lib.ListN.{length, get_or, get_or-eq_default}
use Rattle.star_rows.specs.Rows.{word_of, holding}
use Rattle.star_rows.proofs.Held.{held_word}

module _ (table : List ℕ) (width : ℕ) where
  pub word_none : (row word : ℕ) → row ≡ 0 → word_of table width row word ≡ 0
  unfolding word_of
  word_none row word e = rw e

  pub word_row : (row word : ℕ) → 1 ≤ row → word_of table width row word ≡ get_or table ((row - 1) * width + word) 0
  unfolding word_of
  word_row zero word h = absurd (omega arith)
  word_row (suc n) word h = ap (λ m. get_or table (m * width + word) 0) (let e : n ≡ suc n - 1 = omega arith in e)

  pub word-behind : (row word : ℕ) → 1 ≤ row → length table ≤ (row - 1) * width + word → word_of table width row word ≡ 0
  word-behind row word h k = word_row row word h ∙ get_or-eq_default table 0 k

pub small_product : (a b : ℕ) → a ≤ 4294967295 → b ≤ 4294967295 → a * b ≤ 18446744065119617025
small_product a b h k = omega (arith, mul-le-mul_right b h)

-- a word of a table that holds rows is that of its row
pub word_held : {A : Type 0} (width : ℕ) (row : A → List ℕ) → ((x : A) → length (row x) ≡ width) → (d : A) (xs : List A) (words n k : ℕ)
    → n < length xs → k < width → word_of (holding row xs words) width (suc n) k ≡ get_or (row (get_or xs n d)) k 0
unfolding word_of
word_held width row wide d xs words n k h j = held_word width row wide d xs words n k h j
