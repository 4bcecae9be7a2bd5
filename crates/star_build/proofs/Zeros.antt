-- How many slots hold 0: all of those that building starts with, and one fewer after each row; where the number is not 0, one is there.
use mathlib.Core.Path.{◌≡◌, refl, ap}
use mathlib.Core.Bool.{Bool, true, false, cond}
use mathlib.Core.List.{List, [], ◌∷◌}
use Prim.Native.Nat.{ℕ, zero, suc, ◌≤◌, ◌<◌}
use native.Mathlib.Omega.{arith}
use borrow.Author.Tests.{eqb-true, ne_eqb}
use lib.Dec.{eqb}
use lib.ListN.{length, replicate, set}
use Rattle.star_slots.specs.Slots.{slot_at}
use Rattle.star_index.specs.Index.{occurrences}

-- the number of slots that hold 0
abbrev pub zeros : List ℕ → ℕ
zeros slots = occurrences 0 slots

-- slots that are all 0
pub zeros-replicate : (n : ℕ) → zeros (replicate n 0) ≡ n
unfolding occurrences
zeros-replicate zero = refl
zeros-replicate (suc n) = ap suc (zeros-replicate n)

-- a row in a slot that holds 0 makes one fewer
pub zeros-set : (slots : List ℕ) (at row : ℕ) → at < length slots → slot_at slots at ≡ 0 → 1 ≤ row → suc (zeros (set slots at row)) ≡ zeros slots
unfolding occurrences
zeros-set [] at row l e k = absurd (omega arith)
zeros-set (x ∷ xs) zero row l e k = rw (e, ne_eqb row 0 (omega arith))
zeros-set (x ∷ xs) (suc at) row l e k = go (eqb x 0) (zeros-set xs at row (omega arith) e k)
  where
    go : (t : Bool) → suc (zeros (set xs at row)) ≡ zeros xs
        → suc (cond t (suc (zeros (set xs at row))) (zeros (set xs at row))) ≡ cond t (suc (zeros xs)) (zeros xs)
    go true h = ap suc h
    go false h = h

-- where some slot holds 0, one is there
pub zero-there : (slots : List ℕ) → 1 ≤ zeros slots → (at : ℕ) × (at < length slots) × (slot_at slots at ≡ 0)
unfolding occurrences
zero-there [] l = absurd (omega arith)
zero-there (x ∷ xs) l = go (eqb x 0) refl (zero-there xs) l
  where
    go : (t : Bool) → eqb x 0 ≡ t → (1 ≤ zeros xs → (at : ℕ) × (at < length xs) × (slot_at xs at ≡ 0)) → 1 ≤ cond t (suc (zeros xs)) (zeros xs)
        → (at : ℕ) × (at < length (x ∷ xs)) × (slot_at (x ∷ xs) at ≡ 0)
    go true e later k = (0, omega arith, eqb-true x 0 e)
    go false e later k = let h : (at : ℕ) × (at < length xs) × (slot_at xs at ≡ 0) = later k in (suc h.0, omega (arith, h.1), h.2)
