-- No float that is answered is infinite: the greatest of them is not.
use mathlib.Core.Path.{◌≡◌, refl}
use mathlib.Core.Bool.{Bool, true, false, cond, ◌&&◌}
use mathlib.Core.Logic.{◌⊎◌, inl, inr}
use mathlib.Core.List.{List}
use mathlib.Core.Option.{Option, none, some}
use Prim.Native.Nat.{ℕ, zero, suc, ◌+◌, ◌*◌, ◌^◌, ◌≤◌, ◌<◌}
use native.Mathlib.Nat.{mul-le-mul, pow-le-pow_right, le-mul_of_pos_right, le_refl, le_trans}
use native.Mathlib.Omega.{arith}
use lib.Dec.{T, ltb}
use lib.IntN.{ℤ, pos, negsuc}
use lib.Ieee.{Float as F64, nan, inf, fin, binary64, prec, emax, low, odd, units, round, le, lt, eq, neg}
use lib.Ieee.Fits.{round_is, and_i}
use lib.Ieee.Scale.{finite}
use lib.Ieee.Order.{round_mono}
use Rattle.star_number.specs.Pieces.{Sign, unsigned, plus, minus, digits_of}
use Rattle.star_number.specs.Number.{most_whole, most_power, whole_number, power, scaled, signed, in_range, number_over, number_of, Says, number, unknown, not_applicable, other_word, other_kind}
use Rattle.star_number.specs.Taken.{number_in}
use Rattle.star_number.specs.Demands.{finite_number, FloatsFinite}
use Rattle.star_number.specs.declared.Number.{Number}
use Rattle.star_number.specs.declared.Number.TheVariants.{Float, Uncertain, TooWide}
use Rattle.star_number.proofs.Ranges.{both-ranges}
use Rattle.star_number.proofs.Exactness.{rounded-once, ten-pos}
use Rattle.star_number.proofs.Exactly.{number-exact}

units-shape : (q k : ℕ) → (units binary64 false q k ≡ inf false) ⊎ T (finite (units binary64 false q k))
unfolding units odd
units-shape q k = by (ltb (q * 2 ^ k) (2 ^ (low binary64 + suc (emax binary64)))) (suc (prec binary64)) q
  where
    odd-finite : (d q : ℕ) → T (finite (odd d false q k (low binary64)))
    odd-finite d zero = tt
    odd-finite d (suc q) = tt

    by : (t : Bool) (d q : ℕ) → (cond t (odd d false q k (low binary64)) (inf false) ≡ inf false) ⊎ T (finite (cond t (odd d false q k (low binary64)) (inf false)))
    by true d q = inr (odd-finite d q)
    by false d q = inl refl

round-shape : (a b : ℕ) → (round binary64 false a b ≡ inf false) ⊎ T (finite (round binary64 false a b))
round-shape a b = rw (round_is binary64 false a b) (units-shape _ _)

-- an infinity is at most no finite float
below : (x : F64) → T (finite x) → T (le (inf false) x) → ⊥
unfolding le lt eq
below nan f g = f
below (inf s) f g = f
below (fin s m e) f g = g

-- what is at most a finite float is one
finite-below : (a b c d : ℕ) → 0 < b → 0 < d → a * d ≤ c * b → T (finite (round binary64 false c d)) → T (finite (round binary64 false a b))
finite-below a b c d p q h y = by (round-shape a b)
  where
    by : (round binary64 false a b ≡ inf false) ⊎ T (finite (round binary64 false a b)) → T (finite (round binary64 false a b))
    by (inl e) = absurd (below (round binary64 false c d) y (rw e at (round_mono binary64 a b c d p q h)))
    by (inr f) = f

greatest : T (finite (round binary64 false (most_whole * 10 ^ most_power) 1))
unfolding round
greatest = tt

ten-le : (k : ℕ) → k ≤ most_power → 10 ^ k ≤ 10 ^ most_power
ten-le k h = pow-le-pow_right {n = 10} (omega arith) h

small : (m d : ℕ) → m ≤ most_whole → 0 < d → m * 1 ≤ most_whole * 10 ^ most_power * d
small m d h p = le_trans (omega arith) (le-mul_of_pos_right (most_whole * 10 ^ most_power) p)

scaled-finite : (m : ℕ) (e : ℤ) → in_range m e ≡ true → T (finite (scaled m e))
scaled-finite m (pos k) h =
    let r = both-ranges m (pos k) h in
    rw ((rounded-once m k r.0).0 r.1)
    (finite-below (m * 10 ^ k) 1 (most_whole * 10 ^ most_power) 1 (omega arith) (omega arith) (mul-le-mul (mul-le-mul r.0 (ten-le k r.1)) (le_refl 1)) greatest)
scaled-finite m (negsuc k) h =
    let r = both-ranges m (negsuc k) h in
    rw ((rounded-once m k r.0).1 r.1)
    (finite-below m (10 ^ suc k) (most_whole * 10 ^ most_power) 1 (ten-pos (suc k)) (omega arith) (small m (10 ^ suc k) r.0 (ten-pos (suc k))) greatest)

signed-finite : (s : Sign) (x : F64) → T (finite x) → T (finite (signed s x))
unfolding signed neg
signed-finite unsigned x h = h
signed-finite plus x h = h
signed-finite minus nan h = h
signed-finite minus (inf s) h = h
signed-finite minus (fin s m e) h = h

number-finite : (s : Sign) (m : ℕ) (e : ℤ) (o : Option (List ℕ)) → T (finite_number (number_over s m e o))
unfolding number_over finite_number
number-finite s m e none = by (in_range m e) refl
  where
    by : (t : Bool) → in_range m e ≡ t → T (finite_number (cond t (Float (signed s (scaled m e))) TooWide))
    by true h = signed-finite s (scaled m e) (scaled-finite m e h)
    by false h = tt
number-finite s m e (some ds) = by (in_range m e) refl (in_range (whole_number ds) e) refl
  where
    by : (t : Bool) → in_range m e ≡ t → (u : Bool) → in_range (whole_number ds) e ≡ u
        → T (finite_number (cond (t && u) (Uncertain (signed s (scaled m e)) (scaled (whole_number ds) e)) TooWide))
    by true h true g = and_i (finite (signed s (scaled m e))) (finite (scaled (whole_number ds) e)) (signed-finite s (scaled m e) (scaled-finite m e h)) (scaled-finite (whole_number ds) e g)
    by true h false g = tt
    by false h u g = tt

says-finite : (kind : ℕ) (content : List ℕ) (n : Number) → Says kind content n → T (finite_number n)
unfolding number_of finite_number
says-finite _ _ _ (number content p w) = number-finite p.sign (whole_number (digits_of p)) (power p) p.bracket
says-finite _ _ _ unknown = tt
says-finite _ _ _ not_applicable = tt
says-finite _ _ _ (other_word content f g k) = tt
says-finite _ _ _ (other_kind kind content f) = tt

pub floats-finite : FloatsFinite
floats-finite kind content = says-finite kind content (number_in kind content) (((number-exact kind content).1.1 (number_in kind content)).0 refl)
