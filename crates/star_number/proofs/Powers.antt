-- Laws of the power of ten, as the code holds it: of a difference of whole numbers, and of one that is counted.
use mathlib.Core.Path.{◌≡◌, refl, sym, ◌∙◌, ap}
use mathlib.Core.Bool.{Bool, true, false}
use mathlib.Core.Logic.{◌⊎◌, inl, inr}
use Prim.Native.Nat.{ℕ, zero, suc, ◌+◌, ◌-◌, ◌≤◌, ◌<◌, ◌^◌, min}
use native.Mathlib.Omega.{arith}
use borrow.Author.Tests.{lt-ltb, le-ltb}
use lib.Dec.{ltb}
use lib.IntN.{pos, negsuc, neg_ℤ, ◌-ℤ◌, neg_ℤ-+ℤ}
use Rattle.star_number.specs.Held.{most_counted, counted, signed_by, is_negative, power_held}
use Rattle.star_number.specs.declared.decimal.Power.{Power}
use Rattle.star_number.proofs.Counting.{order, counted-small, counted-most}

abbrev held_as : Bool → ℕ → Power
held_as over tens = record { over = over; tens = tens }

held_same : {s t : Bool} {a b : ℕ} → s ≡ t → a ≡ b → held_as s a ≡ held_as t b
held_same p q = rw (p, q)

-- ---- differences

minus-below : (a b : ℕ) → b ≤ a → pos a -ℤ pos b ≡ pos (a - b)
minus-below a zero h = ap pos (omega arith)
minus-below a (suc b) h = rw (le-ltb a (suc b) h)

minus-above : (a b : ℕ) → a < b → pos a -ℤ pos b ≡ negsuc (b - suc a)
minus-above a zero h = absurd (omega arith)
minus-above a (suc b) h = rw (lt-ltb a (suc b) h)

minus-both : (a b : ℕ) → neg_ℤ (pos a) -ℤ pos b ≡ neg_ℤ (pos (a + b))
minus-both a b = sym (neg_ℤ-+ℤ (pos a) (pos b))

held-negative : (n : ℕ) → power_held (neg_ℤ (pos n)) ≡ held_as (ltb 0 n) (min n 23)
unfolding power_held is_negative
held-negative zero = refl
held-negative (suc n) = held_same (sym (lt-ltb 0 (suc n) (omega arith))) refl

-- ---- what the code computes

module _ (value after : ℕ) where
  pub held_both : (k : ℕ) → k ≡ min (min value 23 + min after 23) 23 → held_as (ltb 0 k) k ≡ power_held (signed_by true value -ℤ pos after)
  unfolding signed_by
  held_both k e =
      let f : k ≡ min (value + after) 23 = omega arith in
      held_same (positive (value + after) f) f ∙ sym (held-negative (value + after)) ∙ ap power_held (sym (minus-both value after))
    where
      positive : (n : ℕ) → k ≡ min n 23 → ltb 0 k ≡ ltb 0 n
      positive zero f = rw f
      positive (suc n) f = lt-ltb 0 k (omega arith) ∙ sym (lt-ltb 0 (suc n) (omega arith))

  pub held_below : after ≤ value → held_as false (min (value - after) 23) ≡ power_held (signed_by false value -ℤ pos after)
  unfolding signed_by power_held is_negative
  held_below h = ap power_held (sym (minus-below value after h))

  pub held-above : value < after → held_as true (min (after - value) 23) ≡ power_held (signed_by false value -ℤ pos after)
  unfolding signed_by power_held is_negative
  held-above h =
      let e : after - value ≡ suc (after - suc value) = omega arith in
      rw e (ap power_held (sym (minus-above value after h)))

-- ---- of a counted exponent

far-negative : (n after : ℕ) → 23 ≤ n → power_held (signed_by true n -ℤ pos after) ≡ held_as true 23
unfolding signed_by
far-negative n after h =
    ap power_held (minus-both n after)
    ∙ held-negative (n + after)
    ∙ held_same (lt-ltb 0 (n + after) (omega arith)) (omega arith)

far-positive : (n after : ℕ) → after + 23 ≤ n → power_held (signed_by false n -ℤ pos after) ≡ held_as false 23
far-positive n after h = sym (held_below n after (omega arith)) ∙ held_same refl (omega arith)

pub held-counted : (negative : Bool) (n after : ℕ) → after < 2 ^ 63 → power_held (signed_by negative (counted n) -ℤ pos after) ≡ power_held (signed_by negative n -ℤ pos after)
held-counted negative n after h = by (order n most_counted) negative
  where
    by : (n ≤ most_counted) ⊎ (most_counted < n) → (negative : Bool)
        → power_held (signed_by negative (counted n) -ℤ pos after) ≡ power_held (signed_by negative n -ℤ pos after)
    by (inl l) s = rw (counted-small n l)
    by (inr l) true = rw (counted-most n (omega arith)) (far-negative most_counted after (omega arith) ∙ sym (far-negative n after (omega arith)))
    by (inr l) false = rw (counted-most n (omega arith)) (far-positive most_counted after (omega arith) ∙ sym (far-positive n after (omega arith)))
