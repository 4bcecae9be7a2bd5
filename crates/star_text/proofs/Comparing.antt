-- Laws of the comparison: how it goes on from a place of both, and what it answers.
use Rattle.std.proofs.Common.{◌≡◌, ℕ, zero, suc, ◌+◌, ◌<◌, ◌≤◌, Bool, true, false, eqb, List, [], ◌∷◌, length, get_or, take, drop, sym, refl, ◌∙◌, subst, add-zero, add-one, arith, drop_of_length-le, drop-cons, eq-eqb, ne_eqb}
use Rattle.star_text.specs.Names.{key, same}
use Rattle.star_text.specs.Compare.{pairs_of, compare_of}
use Rattle.std.specs.Int.{w32, from_le_bytes}
use Rattle.std.proofs.lemmas.Nat.{le_bytes_4}
use borrow.Author.Count.{below_more}
use Rattle.star_text.specs.Pairs.{Comparing, SameFour, four_at}
use Rattle.star_text.specs.Demands.{CompareEqual, ComparePairs, CompareStops}
use Rattle.star_text.proofs.Cases.{cond-by}
use Rattle.star_text.proofs.Names.{same_true, same-lengths, equal_is, equal_next, equal-differs, equal-end}

-- from a place of both on
module _ (xs ys : List ℕ) (i : ℕ) where
  pairs_next : i < length xs → i < length ys → get_or xs i 0 ≡ get_or ys i 0
      → pairs_of (drop i xs) (drop i ys) ≡ suc (pairs_of (drop (i + 1) xs) (drop (i + 1) ys))
  unfolding pairs_of
  pairs_next h k e = rw (drop-cons xs i 0 h, drop-cons ys i 0 k, e, eq-eqb (get_or ys i 0) (get_or ys i 0) refl, add-one)

  pairs-differ : i < length xs → i < length ys → (get_or xs i 0 ≡ get_or ys i 0 → ⊥) → pairs_of (drop i xs) (drop i ys) ≡ 1
  unfolding pairs_of
  pairs-differ h k e = rw (drop-cons xs i 0 h, drop-cons ys i 0 k, ne_eqb (get_or xs i 0) (get_or ys i 0) e)

  pairs_end : length xs ≤ i → pairs_of (drop i xs) (drop i ys) ≡ 0
  unfolding pairs_of
  pairs_end h = rw (drop_of_length-le xs h)

module _ (x y : List ℕ) where
  pub compare-lengths : (length x ≡ length y → ⊥) → record { equal = false; pairs = 0 } ≡ compare_of x y
  unfolding compare_of
  compare-lengths n = rw (same-lengths x y n, ne_eqb (length x) (length y) n)

  compare-is : length x ≡ length y → (t : Bool) (n : ℕ) → t ≡ same x y → n ≡ pairs_of (key x) (key y) → record { equal = t; pairs = n } ≡ compare_of x y
  unfolding compare_of
  compare-is l t n e d = rw (e, d, eq-eqb (length x) (length y) l)

  pub compare-starts : length x ≡ length y → Comparing x y 0
  unfolding same key
  compare-starts l = record { lengths = l; within = omega arith; says = refl; counts = omega arith }

  module _ (i : ℕ) (c : Comparing x y i) where
    pub compare-next : i < length x → get_or x i 0 ≡ get_or y i 0 → Comparing x y (i + 1)
    compare-next h e =
        let k : i < length y = omega (arith, c.lengths) in
        record {
          lengths = c.lengths;
          within = omega arith;
          says = sym (equal_next x y i h k e) ∙ c.says;
          counts = omega (arith, pairs_next x y i h k e, c.counts);
        }

    pub compare-differs : i < length x → (get_or x i 0 ≡ get_or y i 0 → ⊥) → record { equal = false; pairs = i + 1 } ≡ compare_of x y
    compare-differs h d =
        let k : i < length y = omega (arith, c.lengths) in
        compare-is c.lengths _ _ (sym (equal-differs x y i h k d) ∙ c.says) (omega (arith, pairs-differ x y i h k d, c.counts))

    pub compare-ends : length x ≤ i → record { equal = true; pairs = i } ≡ compare_of x y
    compare-ends h =
        compare-is c.lengths _ _ (sym (equal-end x y i h (omega (arith, c.lengths))) ∙ c.says) (omega (arith, pairs_end x y i h, c.counts))

-- pairs from a place on that are equal
pub record Passed (x y : List ℕ) (at i : ℕ) : Type 0 where
  pub comparing : Comparing x y (at + i)
  pub same : (k : ℕ) → k < i → get_or x (at + k) 0 ≡ get_or y (at + k) 0

module _ (x y : List ℕ) (at : ℕ) where
  pub passed-none : Comparing x y at → Passed x y at 0
  passed-none c = record { comparing = subst (Comparing x y) (omega arith) c; same = λ k h. absurd (omega (arith, h)) }

  module _ (i : ℕ) (p : Passed x y at i) where
    pub passed-more : at + i < length x → get_or x (at + i) 0 ≡ get_or y (at + i) 0 → Passed x y at (i + 1)
    passed-more h e = record {
      comparing = subst (Comparing x y) (omega arith) (compare-next x y (at + i) p.comparing h e);
      same = below_more _ _ p.same e;
    }

    pub passed-differs : at + i < length x → (get_or x (at + i) 0 ≡ get_or y (at + i) 0 → ⊥)
        → record { equal = false; pairs = at + (i + 1) } ≡ compare_of x y
    passed-differs h d =
        subst (λ n. record { equal = false; pairs = n } ≡ compare_of x y) (omega arith) (compare-differs x y (at + i) p.comparing h d)

  -- four of which the first three are equal
  pub passed-three : Passed x y at 3 → at + 3 < length x → (SameFour x y at → ⊥) → record { equal = false; pairs = at + 4 } ≡ compare_of x y
  passed-three p h d = passed-differs 3 p h (λ e. d (rw add-zero at (p.same 0 (omega arith)), p.same 1 (omega arith), p.same 2 (omega arith), e))

  -- four that are
  pub passed-four : Comparing x y at → at + 4 ≤ length x → SameFour x y at → Comparing x y (at + 4)
  passed-four c h s =
      let one : Passed x y at 1 = passed-more 0 (passed-none c) (omega arith) (rw add-zero s.0) in
      let two : Passed x y at 2 = passed-more 1 one (omega arith) s.1 in
      let three : Passed x y at 3 = passed-more 2 two (omega arith) s.2 in
      (passed-more 3 three (omega arith) s.3).comparing

-- four bytes as one number: equal where the bytes are
four-small : (x : List ℕ) (at : ℕ) → ((i : ℕ) → get_or x i 0 < 256) → (i : ℕ) → get_or (four_at x at) i 0 < 256
four-small x at h zero = h at
four-small x at h (suc zero) = h (at + 1)
four-small x at h (suc (suc zero)) = h (at + 2)
four-small x at h (suc (suc (suc zero))) = h (at + 3)
four-small x at h (suc (suc (suc (suc i)))) = omega arith

module _ (x y : List ℕ) (at m n : ℕ) (f : m ≡ from_le_bytes w32 (four_at x at)) (g : n ≡ from_le_bytes w32 (four_at y at)) where
  pub four-equal : ((i : ℕ) → get_or x i 0 < 256) → ((i : ℕ) → get_or y i 0 < 256) → m ≡ n → SameFour x y at
  four-equal h k e =
      let p : four_at x at ≡ four_at y at =
      sym (le_bytes_4 (four_at x at) m refl (four-small x at h) f) ∙ le_bytes_4 (four_at y at) m refl (four-small y at k) (e ∙ g) in
      (cc, cc, cc, cc)

pub compare-equal : CompareEqual
unfolding compare_of same key
compare-equal x y = (λ e. same_true x y e, λ e. equal_is x y e)

pairs-within : (xs ys : List ℕ) → (pairs_of xs ys ≤ length xs) × (pairs_of xs ys ≤ length ys)
unfolding pairs_of
pairs-within [] ys = (omega arith, omega arith)
pairs-within (a ∷ xs) [] = (omega arith, omega arith)
pairs-within (a ∷ xs) (b ∷ ys) =
    let rest : (pairs_of xs ys ≤ length xs) × (pairs_of xs ys ≤ length ys) = pairs-within xs ys in
    cond-by (λ n. (suc n ≤ suc (length xs)) × (suc n ≤ suc (length ys))) (eqb a b) _ _
    (λ e. (omega (arith, rest.0), omega (arith, rest.1))) (λ e. (omega arith, omega arith))

pub compare-pairs : ComparePairs
unfolding compare_of key
compare-pairs x y =
    cond-by (λ n. (n ≤ length x) × (n ≤ length y)) (eqb (length x) (length y)) _ _
    (λ e. pairs-within x y) (λ e. (omega arith, omega arith))

-- all pairs of equal bytes, and those up to the first place where they differ
pairs-all : (xs : List ℕ) → pairs_of xs xs ≡ length xs
unfolding pairs_of
pairs-all [] = refl
pairs-all (a ∷ xs) = rw (eq-eqb a a refl, pairs-all xs)

pairs_first : (xs ys : List ℕ) (i : ℕ) → i < length xs → i < length ys → take i xs ≡ take i ys → (get_or xs i 0 ≡ get_or ys i 0 → ⊥) → pairs_of xs ys ≡ i + 1
unfolding pairs_of
pairs_first [] ys i h k e d = absurd (omega arith)
pairs_first (a ∷ xs) [] i h k e d = absurd (omega arith)
pairs_first (a ∷ xs) (b ∷ ys) zero h k e d = rw (ne_eqb a b d)
pairs_first (a ∷ xs) (b ∷ ys) (suc i) h k e d =
    let q : a ≡ b = cc in
    let r : take i xs ≡ take i ys = cc in
    rw (eq-eqb a b q, pairs_first xs ys i (omega arith) (omega arith) r d) (omega arith)

pub compare-stops : CompareStops
unfolding compare_of key
compare-stops = (
  λ x y n. rw (ne_eqb (length x) (length y) n),
  λ x. rw (eq-eqb (length x) (length x) refl) (pairs-all x),
  λ x y i l h e d. rw (eq-eqb (length x) (length y) l) (pairs_first x y i h (omega arith) e d),
)
