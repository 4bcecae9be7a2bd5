-- Digits and powers of ten become floats without loss, so that one operation on them rounds once.
use mathlib.Core.Path.{◌≡◌, refl, sym, ◌∙◌, ap}
use mathlib.Core.Bool.{Bool, true, false}
use Prim.Native.Nat.{ℕ, suc, ◌*◌, ◌^◌, ◌<◌}
use native.Mathlib.Nat.{mul-one, mul_assoc, mul_comm, mul-mul-mul_comm, mul-pos, one-le-pow}
use native.Mathlib.Omega.{arith}
use borrow.Author.Tests.{ne_eqb}
use lib.Dec.{T, eqb, eqb→eq}
use lib.Ieee.{Float as F64, nan, inf, fin, binary64, of_int, up, down, mul, div, round}
use lib.Ieee.Exact.{HasValue}
use lib.Ieee.Scale.{round_same}
use lib.Ieee.Fits.{down_pos}
use lib.Ieee.Positive.{first_pos}
use lib.Ieee.Back.{round_whole}
use Rattle.star_text.proofs.Classes.{below, below_at}
use Rattle.star_text.proofs.Run.{never}
use Rattle.star_number.specs.Number.{exact, scaled}
use Rattle.star_number.specs.Demands.{WholeExact, PowerExact, RoundedOnce}

pub whole-exact : WholeExact
unfolding exact of_int
whole-exact n h = round_whole binary64 false n h

-- whether a float is this whole number
is_whole : F64 → ℕ → Bool
is_whole nan n = false
is_whole (inf s) n = false
is_whole (fin true m e) n = false
is_whole (fin false m e) n = eqb (m * up e * 1) (n * down e)

is-whole : (x : F64) (n : ℕ) → T (is_whole x n) → HasValue x false n 1
unfolding is_whole
is-whole nan n t = absurd t
is-whole (inf s) n t = absurd t
is-whole (fin true m k) n t = absurd t
is-whole (fin false m k) n t = (refl, eqb→eq (m * up k * 1) (n * down k) t)

-- computed for each power
powers-whole : T (below (λ k. is_whole (exact (10 ^ k)) (10 ^ k)) 23)
unfolding below is_whole exact of_int
powers-whole = tt

pub power-exact : PowerExact
power-exact k h = is-whole (exact (10 ^ k)) (10 ^ k) (below_at (λ k. is_whole (exact (10 ^ k)) (10 ^ k)) 23 k powers-whole (omega arith))

-- ---- one operation on two whole numbers that are floats without loss

products : (x y a b d e : ℕ) → x * 1 ≡ a * d → y * 1 ≡ b * e → x * y * 1 ≡ a * b * (d * e)
products x y a b d e p q =
    mul-one (x * y)
    ∙ ap (λ n. n * y) (sym (mul-one x) ∙ p)
    ∙ ap (λ n. a * d * n) (sym (mul-one y) ∙ q)
    ∙ mul-mul-mul_comm a d b e

quotients : (x y a b d e : ℕ) → x * 1 ≡ a * d → y * 1 ≡ b * e → x * e * b ≡ a * (y * d)
quotients x y a b d e p q =
    ap (λ n. n * e * b) (sym (mul-one x) ∙ p)
    ∙ mul_assoc (a * d) e b
    ∙ ap (λ n. a * d * n) (mul_comm e b ∙ sym q ∙ mul-one y)
    ∙ mul_assoc a d y
    ∙ ap (λ n. a * n) (mul_comm d y)

mul-whole : (x y : F64) (a b : ℕ) → HasValue x false a 1 → HasValue y false b 1 → mul binary64 x y ≡ round binary64 false (a * b) 1
unfolding mul
mul-whole nan y a b v w = absurd v
mul-whole (inf s) y a b v w = absurd v
mul-whole (fin s m e) nan a b v w = absurd w
mul-whole (fin s m e) (inf t) a b v w = absurd w
mul-whole (fin true m e) (fin t n d) a b v w = never (sym v.0)
mul-whole (fin false m e) (fin true n d) a b v w = never (sym w.0)
mul-whole (fin false m e) (fin false n d) a b v w =
    round_same binary64 false (m * up e * (n * up d)) (down e * down d) (a * b) 1 (mul-pos (down_pos e) (down_pos d)) (omega arith)
    (products (m * up e) (n * up d) a b (down e) (down d) v.1 w.1)

div-whole : (x y : F64) (a b : ℕ) → 0 < b → HasValue x false a 1 → HasValue y false b 1 → div binary64 x y ≡ round binary64 false a b
unfolding div
div-whole nan y a b h v w = absurd v
div-whole (inf s) y a b h v w = absurd v
div-whole (fin s m e) nan a b h v w = absurd w
div-whole (fin s m e) (inf t) a b h v w = absurd w
div-whole (fin true m e) (fin t n d) a b h v w = never (sym v.0)
div-whole (fin false m e) (fin true n d) a b h v w = never (sym w.0)
div-whole (fin false m e) (fin false n d) a b h v w =
    let pos-n : 0 < n * up d = omega (arith, mul-pos h (down_pos d), w.1) in
    let some-n : n ≡ 0 → ⊥ = λ q. omega (arith, first_pos n (up d) pos-n) in
    rw (ne_eqb n 0 some-n)
    (round_same binary64 false (m * up e * down d) (n * up d * down e) a b (mul-pos pos-n (down_pos e)) h
    (quotients (m * up e) (n * up d) a b (down e) (down d) v.1 w.1))

pub ten-pos : (k : ℕ) → 0 < 10 ^ k
ten-pos k = one-le-pow k 10 (omega arith)

pub rounded-once : RoundedOnce
unfolding scaled
rounded-once m k h = (
  λ l. mul-whole (exact m) (exact (10 ^ k)) m (10 ^ k) (whole-exact m h) (power-exact k l),
  λ l. div-whole (exact m) (exact (10 ^ suc k)) m (10 ^ suc k) (ten-pos (suc k)) (whole-exact m h) (power-exact (suc k) l),
)
