-- Laws of `Each`: a property of every one of a list goes to its parts and back, and to each place, one by one.
use mathlib.Core.List.{List, [], ◌∷◌, ◌++◌}
use mathlib.Core.Logic.{◌↔◌}
use Prim.Native.Nat.{ℕ, zero, suc, ◌<◌}
use native.Mathlib.Omega.{arith}
use lib.ListN.{length, get_or}
use Rattle.star_lex.specs.Tokens.{Each}

module _ {ℓ} {A : Type ℓ} (P : A → Type 0) where
  pub each_append : (xs ys : List A) → Each P (xs ++ ys) ↔ (Each P xs × Each P ys)
  each_append [] ys = (λ h. (tt, h), λ h. h.1)
  each_append (x ∷ xs) ys =
      let rest : Each P (xs ++ ys) ↔ (Each P xs × Each P ys) = each_append xs ys in
      (λ h. ((h.0, (rest.0 h.1).0), (rest.0 h.1).1), λ h. (h.0.0, rest.1 (h.0.1, h.1)))

  pub each-implies : (Q : A → Type 0) → ((x : A) → P x → Q x) → (xs : List A) → Each P xs → Each Q xs
  each-implies Q f [] h = tt
  each-implies Q f (x ∷ xs) h = (f x h.0, each-implies Q f xs h.1)

  pub each_at : (xs : List A) (n : ℕ) (d : A) → n < length xs → Each P xs → P (get_or xs n d)
  each_at [] n d h e = absurd (omega arith)
  each_at (x ∷ xs) zero d h e = e.0
  each_at (x ∷ xs) (suc n) d h e = each_at xs n d (omega arith) e.1
