-- The first free slot from one on: it is inside, and all slots passed on the way to it are full.
use mathlib.Core.Path.{◌≡◌, refl, ap}
use mathlib.Core.Bool.{Bool, true, false}
use mathlib.Core.List.{List}
use Prim.Native.Nat.{ℕ, zero, suc, ◌+◌, ◌-◌, ◌≤◌, ◌<◌}
use native.Mathlib.Omega.{arith}
use borrow.Author.Tests.{ltb-true, ltb-false, eqb-true, eqb-false, eq-eqb, ne_eqb}
use lib.Dec.{eqb, ltb}
use lib.ListN.{length}
use Rattle.star_text.proofs.Cases.{cond-by}
use Rattle.star_slots.specs.Slots.{slot_at, next_slot}
use Rattle.star_slots.proofs.Slots.{next-by, next-inside}
use Rattle.star_index.specs.Index.{FromTo}
use Rattle.star_index.proofs.Indexing.{by_equal}
use Rattle.star_build.specs.Build.{first_free}

-- the first free slot is inside
pub free-inside : (slots : List ℕ) (left at : ℕ) → at < length slots → first_free slots left at < length slots
unfolding first_free
free-inside slots zero at l = l
free-inside slots (suc left) at l =
    cond-by (λ n. n < length slots) (eqb (slot_at slots at) 0) at (first_free slots left (next_slot (length slots) at)) (λ e. l)
    (λ e. free-inside slots left (next_slot (length slots) at) (next-inside (length slots) at l))

-- a slot is among so many from one on, of n: before the end, or round it
data Ahead (n left at z : ℕ) : Type 0 where
  on : at ≤ z → z < at + left → Ahead n left at z
  round : z < at → z + n < at + left → Ahead n left at z

-- every slot is among all of them from one on
ahead-all : (n at z : ℕ) → z < n → Ahead n n at z
ahead-all n at z l = go (ltb z at) refl
  where
    go : (t : Bool) → ltb z at ≡ t → Ahead n n at z
    go true e = Ahead.round (ltb-true z at e) (omega (arith, ltb-true z at e))
    go false e = Ahead.on (ltb-false z at e) (omega (arith, ltb-false z at e))

-- another slot is among one fewer from the next on
ahead-next : (n left at z : ℕ) → at < n → z < n → (z ≡ at → ⊥) → Ahead n (suc left) at z → Ahead n left (next_slot n at) z
ahead-next n left at z k l d (Ahead.on a b) =
    next-by (λ m. Ahead n left m z) n at (λ j. Ahead.on (omega arith) (omega arith)) (λ j. absurd (omega arith))
ahead-next n left at z k l d (Ahead.round a b) =
    next-by (λ m. Ahead n left m z) n at (λ j. Ahead.round (omega arith) (omega arith)) (λ j. Ahead.on (omega arith) (omega arith))

-- another slot on the way is on the way from the next
from_next : (n at own slot : ℕ) → slot < n → (slot ≡ at → ⊥) → FromTo at own slot → FromTo (next_slot n at) own slot
from_next n at own _ l d (FromTo.between slot a b) =
    next-by (λ m. FromTo m own slot) n at (λ j. FromTo.between slot (omega arith) b) (λ j. absurd (omega arith))
from_next n at own _ l d (FromTo.to_end slot a b) =
    next-by (λ m. FromTo m own slot) n at (λ j. FromTo.to_end slot (omega arith) (omega arith)) (λ j. absurd (omega arith))
from_next n at own _ l d (FromTo.from_start slot a b) =
    next-by (λ m. FromTo m own slot) n at (λ j. FromTo.from_start slot (omega arith) b) (λ j. FromTo.between slot (omega arith) b)

-- a slot holds 0, and all others from one on to it are full
pub record FreeFrom (slots : List ℕ) (at free : ℕ) : Type 0 where
  pub inside : free < length slots
  pub holds : slot_at slots free ≡ 0
  pub full : (slot : ℕ) → slot < length slots → FromTo at free slot → (slot ≡ free → ⊥) → 1 ≤ slot_at slots slot

-- at a full slot the search goes on with the next
free-next : (slots : List ℕ) (at free : ℕ) → 1 ≤ slot_at slots at → FreeFrom slots (next_slot (length slots) at) free → FreeFrom slots at free
free-next slots at free k f = record {
  inside = f.inside;
  holds = f.holds;
  full = λ slot l on d. by_equal slot at (λ e. rw e k) (λ n. f.full slot l (from_next (length slots) at free slot l n on) d);
}

-- a slot that is free itself
free-here : (slots : List ℕ) (at : ℕ) → at < length slots → slot_at slots at ≡ 0 → FreeFrom slots at at
free-here slots at l e = record { inside = l; holds = e; full = only }
  where
    only : (slot : ℕ) → slot < length slots → FromTo at at slot → (slot ≡ at → ⊥) → 1 ≤ slot_at slots slot
    only _ k (FromTo.between slot a b) d = absurd (d (omega arith))
    only _ k (FromTo.to_end slot a b) d = absurd (omega arith)
    only _ k (FromTo.from_start slot a b) d = absurd (omega arith)

-- the search through so many slots, one of which holds 0
free-found : (slots : List ℕ) (left at z : ℕ) → at < length slots → z < length slots → slot_at slots z ≡ 0 → Ahead (length slots) left at z
    → FreeFrom slots at (first_free slots left at)
unfolding first_free
free-found slots zero at z l k e (Ahead.on a b) = absurd (omega arith)
free-found slots zero at z l k e (Ahead.round a b) = absurd (omega arith)
free-found slots (suc left) at z l k e a =
    cond-by (FreeFrom slots at) (eqb (slot_at slots at) 0) at (first_free slots left (next_slot (length slots) at))
    (λ d. free-here slots at l (eqb-true _ _ d))
    (λ d. free-next slots at _ (omega (arith, eqb-false (slot_at slots at) 0 d)) (free-found slots left (next_slot (length slots) at) z (next-inside (length slots) at l) k e
    (ahead-next (length slots) left at z l k (λ q. eqb-false (slot_at slots at) 0 d (rw (← q) e)) a)))

-- where some slot holds 0, the first free slot does, and all others on the way to it are full
pub first-free : (slots : List ℕ) (at z : ℕ) → at < length slots → z < length slots → slot_at slots z ≡ 0
    → FreeFrom slots at (first_free slots (length slots) at)
first-free slots at z l k e = free-found slots (length slots) at z l k e (ahead-all (length slots) at z k)

-- the first 0 of so many slots: here, or from the next slot on
pub free-at : (slots : List ℕ) (left at : ℕ) → 0 < left → slot_at slots at ≡ 0 → first_free slots left at ≡ at
unfolding first_free
free-at slots zero at h e = absurd (omega arith)
free-at slots (suc left) at h e = rw (eq-eqb (slot_at slots at) 0 e)

pub free_on : (slots : List ℕ) (left at : ℕ) → 0 < left → (slot_at slots at ≡ 0 → ⊥)
    → first_free slots left at ≡ first_free slots (left - 1) (next_slot (length slots) at)
unfolding first_free
free_on slots zero at h n = absurd (omega arith)
free_on slots (suc left) at h n =
    rw (ne_eqb (slot_at slots at) 0 n) (ap (λ k. first_free slots k (next_slot (length slots) at)) (let e : left ≡ suc left - 1 = omega arith in e))

pub free-none : (slots : List ℕ) (left at : ℕ) → left ≤ 0 → first_free slots left at ≡ at
unfolding first_free
free-none slots zero at h = refl
free-none slots (suc left) at h = absurd (omega arith)
