-- Laws of four pairs, one after the other, and of bytes as one number: equal where the bytes are.
use Rattle.std.proofs.Common.{◌≡◌, ℕ, ◌+◌, ◌*◌, ◌<◌, ◌≤◌, false, List, length, get_or, subst, arith}
use Rattle.star_text.specs.Compare.{compare_of}
use Rattle.star_text.specs.Pairs.{Comparing, SameFour}
use Rattle.star_text.proofs.Comparing.{compare-next, compare-differs}

-- four pairs, of which the first are equal
module _ (x y : List ℕ) (i : ℕ) (c : Comparing x y i) (room : i + 4 ≤ length x) where
  differs_at : (n k : ℕ) → Comparing x y n → n < length x → (get_or x n 0 ≡ get_or y n 0 → ⊥) → n + 1 ≡ k → record { equal = false; pairs = k } ≡ compare_of x y
  differs_at n k d h e q = subst (λ m. record { equal = false; pairs = m } ≡ compare_of x y) q (compare-differs x y n d h e)

  pub first-differs : (get_or x i 0 ≡ get_or y i 0 → ⊥) → record { equal = false; pairs = i + 1 } ≡ compare_of x y
  first-differs d = compare-differs x y i c (omega arith) d

  module _ (e : get_or x i 0 ≡ get_or y i 0) where
    one : Comparing x y (i + 1)
    one = compare-next x y i c (omega arith) e

    pub second-differs : (get_or x (i + 1) 0 ≡ get_or y (i + 1) 0 → ⊥) → record { equal = false; pairs = i + 2 } ≡ compare_of x y
    second-differs d = differs_at (i + 1) (i + 2) one (omega arith) d (omega arith)

    module _ (f : get_or x (i + 1) 0 ≡ get_or y (i + 1) 0) where
      two : Comparing x y (i + 2)
      two = subst (Comparing x y) (omega arith) (compare-next x y (i + 1) one (omega arith) f)

      pub third-differs : (get_or x (i + 2) 0 ≡ get_or y (i + 2) 0 → ⊥) → record { equal = false; pairs = i + 3 } ≡ compare_of x y
      third-differs d = differs_at (i + 2) (i + 3) two (omega arith) d (omega arith)

      module _ (g : get_or x (i + 2) 0 ≡ get_or y (i + 2) 0) where
        three : Comparing x y (i + 3)
        three = subst (Comparing x y) (omega arith) (compare-next x y (i + 2) two (omega arith) g)

        pub fourth-differs : (SameFour x y i → ⊥) → record { equal = false; pairs = i + 4 } ≡ compare_of x y
        fourth-differs d = differs_at (i + 3) (i + 4) three (omega arith) (λ h. d (e, f, g, h)) (omega arith)

        all-equal : get_or x (i + 3) 0 ≡ get_or y (i + 3) 0 → Comparing x y (i + 4)
        all-equal h = subst (Comparing x y) (omega arith) (compare-next x y (i + 3) three (omega arith) h)

  pub compare-four : SameFour x y i → Comparing x y (i + 4)
  compare-four s = all-equal s.0 s.1 s.2 s.3

-- two bytes from a place on as one number
pub record Two (bytes : List ℕ) (at n : ℕ) : Type 0 where
  pub value : n ≡ get_or bytes at 0 + get_or bytes (at + 1) 0 * 256
  pub first : get_or bytes at 0 < 256
  pub second : get_or bytes (at + 1) 0 < 256

-- four bytes, as two of twos
pub record Four (bytes : List ℕ) (at n : ℕ) : Type 0 where
  pub low : ℕ
  pub high : ℕ
  pub front : Two bytes at low
  pub back : Two bytes (at + 2) high
  pub value : n ≡ low + high * 65536

-- bytes as one number: equal where the bytes are
two-equal : (x y : List ℕ) (i n : ℕ) → Two x i n → Two y i n → (get_or x i 0 ≡ get_or y i 0) × (get_or x (i + 1) 0 ≡ get_or y (i + 1) 0)
two-equal x y i n t u = (omega (arith, t.value, u.value, t.first, u.first), omega (arith, t.value, u.value, t.first, u.first))

two-small : (x : List ℕ) (i n : ℕ) → Two x i n → n < 65536
two-small x i n t = omega (arith, t.value, t.first, t.second)

module _ (x y : List ℕ) (i : ℕ) where
  pub four-equal : (n : ℕ) → Four x i n → Four y i n → SameFour x y i
  four-equal n f g =
      let low : f.low ≡ g.low = omega (arith, f.value, g.value, two-small x i f.low f.front, two-small y i g.low g.front) in
      let high : f.high ≡ g.high = omega (arith, f.value, g.value, two-small x i f.low f.front, two-small y i g.low g.front) in
      let front : (get_or x i 0 ≡ get_or y i 0) × (get_or x (i + 1) 0 ≡ get_or y (i + 1) 0) = two-equal x y i f.low f.front (rw low g.front) in
      let back : (get_or x (i + 2) 0 ≡ get_or y (i + 2) 0) × (get_or x (i + 2 + 1) 0 ≡ get_or y (i + 2 + 1) 0) = two-equal x y (i + 2) f.high f.back (rw high g.back) in
      (front.0, front.1, back.0, subst (λ k. get_or x k 0 ≡ get_or y k 0) (omega arith) back.1)

  pub four-differs : (m n : ℕ) → Four x i m → Four y i n → (m ≡ n → ⊥) → SameFour x y i → ⊥
  four-differs m n f g d s =
      let last : get_or x (i + 2 + 1) 0 ≡ get_or y (i + 2 + 1) 0 = subst (λ k. get_or x k 0 ≡ get_or y k 0) (omega arith) s.3 in
      d (omega (arith, f.value, g.value, f.front.value, g.front.value, f.back.value, g.back.value, s.0, s.1, s.2, last))
