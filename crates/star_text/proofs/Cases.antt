-- Cases of a computed choice, each with the equation that it leaves: by matching on what is tested.
use Rattle.std.proofs.Common.{◌≡◌, ℕ, Bool, true, false, cond, ◌&&◌, refl, arith}

-- for what `cc` refutes: `impossible cc`
pub impossible {ℓ} : {P : Type ℓ} → ◌≡◌ {A = ℕ} 0 1 → P
impossible z = absurd (omega arith)

pub cond_cases {ℓ κ} : {A : Type ℓ} {P : Type κ} (t : Bool) (x y z : A) → cond t x y ≡ z → (t ≡ true → x ≡ z → P) → (t ≡ false → y ≡ z → P) → P
cond_cases true x y z e f g = f refl e
cond_cases false x y z e f g = g refl e

-- what holds of either choice where it is made
pub cond-by {ℓ κ} : {A : Type ℓ} (P : A → Type κ) (t : Bool) (x y : A) → (t ≡ true → P x) → (t ≡ false → P y) → P (cond t x y)
cond-by P true x y f g = f refl
cond-by P false x y f g = g refl

-- both of two tests
pub both : (s t : Bool) → (s && t) ≡ true → (s ≡ true) × (t ≡ true)
both true true e = (refl, refl)
both true false e = impossible cc
both false t e = impossible cc
