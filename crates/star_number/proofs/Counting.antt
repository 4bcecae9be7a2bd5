-- Whole numbers from digits, and how they are counted: what is counted decides as the number itself.
use mathlib.Core.Path.{◌≡◌, refl, sym, ◌∙◌}
use mathlib.Core.Logic.{◌⊎◌, inl, inr}
use mathlib.Core.List.{List, [], ◌∷◌, ◌++◌}
use Prim.Native.Nat.{ℕ, ◌+◌, ◌-◌, ◌*◌, ◌≤◌, ◌<◌}
use native.Mathlib.Nat.{le_refl, le_trans, min-eq_left, min-eq_right, min-le_right}
use native.Mathlib.Omega.{arith}
use borrow.Author.Tests.{leb-true, leb-false}
use lib.Dec.{leb}
use mathlib.Core.Bool.{Bool, true, false}
use Rattle.star_number.specs.Number.{extended}
use Rattle.star_number.specs.Held.{most_counted, counted}

pub extended-append : (n : ℕ) (ds es : List ℕ) → extended n (ds ++ es) ≡ extended (extended n ds) es
unfolding extended
extended-append n [] es = refl
extended-append n (d ∷ ds) es = extended-append (n * 10 + (d - 48)) ds es

-- either of two numbers is at most the other
pub order : (m n : ℕ) → (m ≤ n) ⊎ (n < m)
order m n = by (leb m n) refl
  where
    by : (t : Bool) → leb m n ≡ t → (m ≤ n) ⊎ (n < m)
    by true e = inl (leb-true m n e)
    by false e = inr (leb-false m n e)

-- more digits make no number less
extended-ge : (n : ℕ) (ds : List ℕ) → n ≤ extended n ds
unfolding extended
extended-ge n [] = le_refl n
extended-ge n (d ∷ ds) = le_trans (omega arith) (extended-ge (n * 10 + (d - 48)) ds)

pub counted-small : (n : ℕ) → n ≤ most_counted → counted n ≡ n
unfolding counted
counted-small n h = min-eq_left h

pub counted-most : (n : ℕ) → most_counted ≤ n → counted n ≡ most_counted
unfolding counted
counted-most n h = min-eq_right h

pub counted-le : (n : ℕ) → counted n ≤ most_counted
unfolding counted
counted-le n = min-le_right n most_counted

-- digits after a counted number count as after the number
pub counted-first : (n : ℕ) (ds : List ℕ) → counted (extended (counted n) ds) ≡ counted (extended n ds)
counted-first n ds = by (order n most_counted)
  where
    by : (n ≤ most_counted) ⊎ (most_counted < n) → counted (extended (counted n) ds) ≡ counted (extended n ds)
    by (inl h) = rw (counted-small n h)
    by (inr h) =
        counted-most (extended (counted n) ds) (le_trans (omega (arith, counted-most n (omega arith))) (extended-ge (counted n) ds))
        ∙ sym (counted-most (extended n ds) (le_trans (omega arith) (extended-ge n ds)))
