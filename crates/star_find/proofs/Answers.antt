-- A search through rows answers exactly when some row makes the thing that is looked for: what a list holds has a place in it, and what has a
-- place the list holds.
use mathlib.Core.Path.{◌≡◌, refl, sym, ◌∙◌, ap}
use mathlib.Core.Bool.{Bool, true, false, cond}
use mathlib.Core.List.Memᴰ
use mathlib.Core.List.{List, [], ◌∷◌, map, Memᴰ}
use mathlib.Core.Logic.{◌↔◌}
use Prim.Native.Nat.{ℕ, zero, suc, ◌-◌, ◌<◌}
use native.Mathlib.Omega.{arith}
use lib.ListN.{length, get_or, length-map, get_or-map}
use Rattle.star_find.specs.Find.{refused}
use Rattle.star_find.specs.declared.Found.{Found}
use Rattle.star_find.proofs.Seeking.{Sought, sought-there, FirstOf, sought-first}

member-place {ℓ} : {A : Type ℓ} {x : A} {xs : List A} (d : A) → Memᴰ x xs → (i : ℕ) × (i < length xs) × (get_or xs i d ≡ x)
member-place d (Memᴰ.head e) = (0, omega arith, sym e)
member-place {x = x} d (Memᴰ.tail {xs = xs} m) =
    let k : (i : ℕ) × (i < length xs) × (get_or xs i d ≡ x) = member-place d m in
    (suc k.0, omega (arith, k.1), k.2)

pub place-member {ℓ} : {A : Type ℓ} (xs : List A) (i : ℕ) (d : A) → i < length xs → Memᴰ (get_or xs i d) xs
place-member [] i d h = absurd (omega arith)
place-member (x ∷ xs) zero d h = Memᴰ.head refl
place-member (x ∷ xs) (suc i) d h = Memᴰ.tail (place-member xs i d (omega arith))

made-place {ℓ κ} : {A : Type ℓ} {B : Type κ} (f : A → B) (xs : List A) (d : A) (y : B) → Memᴰ y (map f xs)
    → (i : ℕ) × (i < length xs) × (f (get_or xs i d) ≡ y)
made-place f xs d y m =
    let k : (i : ℕ) × (i < length (map f xs)) × (get_or (map f xs) i (f d) ≡ y) = member-place (f d) m in
    (k.0, rw (length-map xs f) at k.1, sym (get_or-map f xs k.0 d) ∙ k.2)

pub place-made {ℓ κ} : {A : Type ℓ} {B : Type κ} (f : A → B) (xs : List A) (i : ℕ) (d : A) (y : B) → i < length xs → f (get_or xs i d) ≡ y
    → Memᴰ y (map f xs)
place-made f xs i d y h e = Memᴰ.cast (sym e) (Memᴰ.map f (place-member xs i d h))

-- a lookup that succeeds has passed its check
past-check : (t : Bool) (o : Found) → (cond t o (refused 14)).refusal ≡ 0 → cond t o (refused 14) ≡ o
unfolding refused
past-check true o e = refl
past-check false o e = absurd (let z : ◌≡◌ {A = ℕ} 14 0 = e in omega arith)

-- an answer is given exactly when this holds, and is the first row with the property
abbrev pub Answers : (Held : Type 0) (P : ℕ → Type 0) (n : ℕ) → Found → Type 0
Answers Held P n o = ((o.refusal ≡ 0) ↔ Held) × (o.refusal ≡ 0 → FirstOf P n o.row)

-- a search through rows, after a check, for those from which a function makes one thing
module _ {A : Type 0} {B : Type 0} (make : A → B) (y : B) (T : A → Type 0) (makes : (x : A) → T x ↔ (make x ≡ y)) (xs : List A) (d : A) (t : Bool) (o : Found)
    (sought : Sought (λ i. T (get_or xs i d)) (length xs) o) where
  found_first : (cond t o (refused 14)).refusal ≡ 0 → FirstOf (λ i. T (get_or xs i d)) (length xs) (cond t o (refused 14)).row
  found_first h = let q : cond t o (refused 14) ≡ o = past-check t o h in rw q (sought-first sought (sym (ap (λ g. g.refusal) q) ∙ h))

  found-member : (cond t o (refused 14)).refusal ≡ 0 → Memᴰ y (map make xs)
  found-member h =
      let p : FirstOf (λ i. T (get_or xs i d)) (length xs) (cond t o (refused 14)).row = found_first h in
      let i : ℕ = (cond t o (refused 14)).row - 1 in
      place-made make xs i d y (omega (arith, p.low, p.high)) ((makes (get_or xs i d)).0 p.is)

  member-found : t ≡ true → Memᴰ y (map make xs) → (cond t o (refused 14)).refusal ≡ 0
  member-found q m =
      let p : (i : ℕ) × (i < length xs) × (make (get_or xs i d) ≡ y) = made-place make xs d y m in
      rw q (sought-there sought p.0 p.1 ((makes (get_or xs p.0 d)).1 p.2))

  pub answers : (Held : Type 0) → (Memᴰ y (map make xs) → Held) → (Held → (t ≡ true) × Memᴰ y (map make xs))
      → Answers Held (λ i. T (get_or xs i d)) (length xs) (cond t o (refused 14))
  answers Held to from = ((λ h. to (found-member h), λ h. member-found (from h).0 (from h).1), found_first)
