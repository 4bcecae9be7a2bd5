-- Laws of equal names and codes: `same` decides whether keys are equal, and goes on from a place of both.
use Rattle.std.proofs.Common.{◌≡◌, ℕ, ◌+◌, ◌<◌, ◌≤◌, Bool, true, false, ◌&&◌, eqb, List, [], ◌∷◌, length, get_or, drop, refl, ap, add-one, arith, drop_of_length-le, drop-cons, eq-eqb, ne_eqb, eqb-true}
use Rattle.star_text.specs.Names.{key, equal, same}

impossible {ℓ} : {P : Type ℓ} → ◌≡◌ {A = ℕ} 0 1 → P
impossible z = absurd (omega arith)

pub equal-true : (xs ys : List ℕ) → equal xs ys ≡ true → xs ≡ ys
unfolding equal
equal-true [] [] e = refl
equal-true [] (b ∷ bs) e = impossible cc
equal-true (a ∷ xs) [] e = impossible cc
equal-true (a ∷ xs) (b ∷ bs) e = go (eqb a b) refl e (equal-true xs bs)
  where
    go : (t : Bool) → eqb a b ≡ t → (t && equal xs bs) ≡ true → (equal xs bs ≡ true → xs ≡ bs) → a ∷ xs ≡ b ∷ bs
    go true d h rest = cc (eqb-true a b d, rest h)
    go false d h rest = impossible cc

pub equal-refl : (xs : List ℕ) → equal xs xs ≡ true
unfolding equal
equal-refl [] = refl
equal-refl (a ∷ xs) = rw (eq-eqb a a refl, equal-refl xs)

pub equal_is : (xs ys : List ℕ) → xs ≡ ys → equal xs ys ≡ true
equal_is xs ys e = rw e (equal-refl ys)

pub equal-false : (xs ys : List ℕ) → equal xs ys ≡ false → xs ≡ ys → ⊥
equal-false xs ys e d = impossible (cc (equal_is xs ys d))

pub unequal : (xs ys : List ℕ) → (xs ≡ ys → ⊥) → equal xs ys ≡ false
unequal xs ys n = go (equal xs ys) refl
  where
    go : (t : Bool) → equal xs ys ≡ t → t ≡ false
    go true e = absurd (n (equal-true xs ys e))
    go false e = refl

pub same_true : (x y : List ℕ) → same x y ≡ true → key x ≡ key y
unfolding same
same_true x y e = equal-true (key x) (key y) e

pub same_false : (x y : List ℕ) → same x y ≡ false → key x ≡ key y → ⊥
unfolding same
same_false x y e d = equal-false (key x) (key y) e d

-- lengths that differ tell names apart
pub same-lengths : (x y : List ℕ) → (length x ≡ length y → ⊥) → same x y ≡ false
unfolding same key
same-lengths x y n = unequal (key x) (key y) (λ e. n (ap length e))

-- from a place of both on, where the bytes there are equal
module _ (xs ys : List ℕ) (i : ℕ) where
  pub equal_next : i < length xs → i < length ys → get_or xs i 0 ≡ get_or ys i 0
      → equal (drop i xs) (drop i ys) ≡ equal (drop (i + 1) xs) (drop (i + 1) ys)
  unfolding equal
  equal_next h k e = rw (drop-cons xs i 0 h, drop-cons ys i 0 k, e, eq-eqb (get_or ys i 0) (get_or ys i 0) refl, add-one)

  pub equal-differs : i < length xs → i < length ys → (get_or xs i 0 ≡ get_or ys i 0 → ⊥) → equal (drop i xs) (drop i ys) ≡ false
  unfolding equal
  equal-differs h k e = rw (drop-cons xs i 0 h, drop-cons ys i 0 k, ne_eqb (get_or xs i 0) (get_or ys i 0) e)

  pub equal-end : length xs ≤ i → length ys ≤ i → equal (drop i xs) (drop i ys) ≡ true
  unfolding equal
  equal-end h k = rw (drop_of_length-le xs h, drop_of_length-le ys k)
