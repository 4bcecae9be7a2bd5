-- What is counted is in range exactly as the number itself, and is the number where it is in range.
use mathlib.Core.Path.{◌≡◌, refl, sym, ◌∙◌}
use mathlib.Core.Bool.{true, cond}
use mathlib.Core.Logic.{◌⊎◌, inl, inr}
use Prim.Native.Nat.{ℕ, ◌≤◌, ◌<◌, ◌^◌, min}
use native.Mathlib.Omega.{arith}
use borrow.Author.Tests.{leb-true, le-leb, lt-leb}
use lib.Dec.{leb}
use lib.IntN.{ℤ, pos, negsuc, nat_abs}
use lib.Ieee.{Float as F64, neg}
use Rattle.star_text.proofs.Cases.{both}
use Rattle.star_number.specs.Pieces.{Sign, unsigned, plus, minus}
use Rattle.star_number.specs.Number.{most_whole, most_power, in_range, exact, scaled, signed}
use Rattle.star_number.specs.Held.{counted, beyond_power, scaled_by, ten_to, is_negative, is_minus}
use Rattle.star_number.proofs.Counting.{order, counted-small}

pub both-ranges : (m : ℕ) (e : ℤ) → in_range m e ≡ true → (m ≤ most_whole) × (nat_abs e ≤ most_power)
unfolding in_range
both-ranges m e h =
    let (a, b) = both (leb m most_whole) (leb (nat_abs e) most_power) h in
    (leb-true m most_whole a, leb-true (nat_abs e) most_power b)

pub whole_in_range : (m : ℕ) (e : ℤ) → in_range m e ≡ true → m ≤ most_whole
whole_in_range m e h = (both-ranges m e h).0

-- a limit decides alike
same-limit : (a b k : ℕ) → (a ≤ k → b ≤ k) → (k < a → k < b) → leb a k ≡ leb b k
same-limit a b k f g = by (order a k)
  where
    by : (a ≤ k) ⊎ (k < a) → leb a k ≡ leb b k
    by (inl h) = le-leb a k h ∙ sym (le-leb b k (f h))
    by (inr h) = lt-leb a k h ∙ sym (lt-leb b k (g h))

counted-limit : (m : ℕ) → leb (counted m) most_whole ≡ leb m most_whole
unfolding counted
counted-limit m = same-limit (counted m) m most_whole (λ h. omega arith) (λ h. omega arith)

pub range_same : (m : ℕ) (e : ℤ) → in_range (counted m) (pos (min (nat_abs e) beyond_power)) ≡ in_range m e
unfolding in_range
range_same m e = rw (counted-limit m, same-limit (min (nat_abs e) beyond_power) (nat_abs e) most_power (λ h. omega arith) (λ h. omega arith))

pub scaled-same : (m : ℕ) (e : ℤ) → in_range m e ≡ true → scaled_by (is_negative e) (counted m) (ten_to (min (nat_abs e) beyond_power)) ≡ scaled m e
unfolding scaled_by ten_to scaled is_negative
scaled-same m e h =
    let (l, k) = both-ranges m e h in
    let t : min (min (nat_abs e) beyond_power) most_power ≡ nat_abs e = omega arith in
    rw (counted-small m (omega arith), t) (by e)
  where
    by : (e : ℤ) → scaled_by (is_negative e) m (exact (10 ^ nat_abs e)) ≡ scaled m e
    by (pos k) = refl
    by (negsuc k) = refl

pub signed_same : (s : Sign) (x : F64) → cond (is_minus s) (neg x) x ≡ signed s x
unfolding is_minus signed
signed_same unsigned x = refl
signed_same plus x = refl
signed_same minus x = refl
