-- Rows go into slots one after another: after each, the slots are an index of the rows so far, and as many as are left hold 0.
use mathlib.Core.Path.{◌≡◌, refl, sym, ap, ◌∙◌}
use mathlib.Core.List.{List}
use Prim.Native.Nat.{ℕ, zero, suc, ◌+◌, ◌≤◌, ◌<◌}
use native.Mathlib.Numerals.{add-one}
use native.Mathlib.Omega.{arith}
use lib.ListN.{length, replicate, set, length-set, length-replicate, get_or-replicate}
use lib.Seq.{get_or-set_same, get_or-set_other}
use Rattle.star_slots.specs.Slots.{slot_at}
use Rattle.star_index.specs.Index.{FromTo, JustOne, Indexed}
use Rattle.star_index.proofs.Indexing.{by_equal}
use Rattle.star_build.specs.Build.{entered, filled}
use Rattle.star_build.proofs.Free.{FreeFrom, first-free}
use Rattle.star_build.proofs.Zeros.{zeros, zeros-replicate, zeros-set, zero-there}

-- filling keeps the number of slots
pub length-filled : (home : ℕ → ℕ) (slots : List ℕ) (rows : ℕ) → length (filled home slots rows) ≡ length slots
unfolding filled entered
length-filled home slots zero = refl
length-filled home slots (suc n) = rw length-set (length-filled home slots n)

-- one row more
pub filled_next : (home : ℕ → ℕ) (slots : List ℕ) (n : ℕ) → filled home slots (n + 1) ≡ entered home (n + 1) (filled home slots n)
unfolding filled
filled_next home slots n = rw (add-one n)

-- it reads the homes of its rows alone
pub filled-alike : (home home' : ℕ → ℕ) (slots : List ℕ) (rows : ℕ) → ((row : ℕ) → 1 ≤ row → row ≤ rows → home row ≡ home' row)
    → filled home slots rows ≡ filled home' slots rows
unfolding filled entered
filled-alike home home' slots zero h = refl
filled-alike home home' slots (suc n) h =
    rw (filled-alike home home' slots n (λ row l k. h row l (omega arith)), h (suc n) (omega arith) (omega arith))

-- the slots after the first k rows: an index of them, with as many 0s as are left
pub record Holding (k : ℕ) (home : ℕ → ℕ) (slots : List ℕ) : Type 0 where
  pub once : (row : ℕ) → 1 ≤ row → row ≤ k → JustOne slots row
  pub no_other : (at : ℕ) → at < length slots → slot_at slots at ≤ k
  pub full : (at slot : ℕ) → at < length slots → slot < length slots → 1 ≤ slot_at slots at → FromTo (home (slot_at slots at)) at slot → 1 ≤ slot_at slots slot
  pub left : k + zeros slots ≡ length slots

-- where a slot is left they are an index
pub holding-indexed : (k : ℕ) (home : ℕ → ℕ) (slots : List ℕ) → k < length slots → Holding k home slots → Indexed k home slots
holding-indexed k home slots l h = record { more = l; once = h.once; no_other = h.no_other; full = h.full }

-- before the first row all slots hold 0
pub holding-none : (n : ℕ) (home : ℕ → ℕ) → Holding 0 home (replicate n 0)
holding-none n home = record {
  once = λ row l k. absurd (omega arith);
  no_other = λ at l. omega (arith, empty at l);
  full = λ at slot l _ k _. absurd (omega (arith, empty at l));
  left = omega (arith, zeros-replicate n, length-replicate {A = ℕ} n 0);
}
  where
    empty : (at : ℕ) → at < length {A = ℕ} (replicate n 0) → slot_at (replicate n 0) at ≡ 0
    empty at l = get_or-replicate n at 0 0 (omega (arith, length-replicate {A = ℕ} n 0))

-- one row more, in a slot that is free from its home on
module _ (k : ℕ) (home : ℕ → ℕ) (slots : List ℕ) (q : ℕ) (h : Holding k home slots) (f : FreeFrom slots (home (suc k)) q) where
  -- the slots with the row
  abbrev next : List ℕ
  next = set slots q (suc k)

  -- as many slots as before
  next-length : length next ≡ length slots
  next-length = length-set slots q (suc k)

  -- the row is where it was put
  next-own : slot_at next q ≡ suc k
  next-own = get_or-set_same slots q (suc k) 0 f.inside

  -- other slots hold what they held
  next-other : (at : ℕ) → (at ≡ q → ⊥) → slot_at next at ≡ slot_at slots at
  next-other at d = get_or-set_other slots q at (suc k) 0 d

  -- the new row is in that slot alone
  new-once : JustOne next (suc k)
  new-once = record {
    at = q;
    inside = omega (arith, next-length, f.inside);
    holds = next-own;
    alone = λ o l e. by_equal o q (λ d. d) (λ d. absurd (omega (arith, e, next-other o d, h.no_other o (omega (arith, next-length)))));
  }

  -- a row that was in just one slot still is
  old-once : (row : ℕ) → 1 ≤ row → row ≤ k → JustOne next row
  old-once row a b =
      let j : JustOne slots row = h.once row a b in
      let apart : j.at ≡ q → ⊥ = λ e. omega (arith, sym j.holds ∙ ap (slot_at slots) e ∙ f.holds) in
      record {
        at = j.at;
        inside = omega (arith, next-length, j.inside);
        holds = next-other j.at apart ∙ j.holds;
        alone = λ o l e. by_equal o q (λ d. absurd (omega (arith, sym e ∙ ap (slot_at next) d ∙ next-own)))
            (λ d. j.alone o (omega (arith, next-length)) (sym (next-other o d) ∙ e));
      }

  -- every row is in just one slot
  next-once : (row : ℕ) → 1 ≤ row → row ≤ suc k → JustOne next row
  next-once row a b = by_equal row (suc k) (λ e. rw e new-once) (λ d. old-once row a (omega arith))

  -- no other number occurs
  next-most : (at : ℕ) → at < length next → slot_at next at ≤ suc k
  next-most at l =
      by_equal at q (λ e. omega (arith, ap (slot_at next) e ∙ next-own))
      (λ d. omega (arith, next-other at d, h.no_other at (omega (arith, next-length))))

  -- a slot that was full still is
  still_full : (slot : ℕ) → 1 ≤ slot_at slots slot → 1 ≤ slot_at next slot
  still_full slot l = by_equal slot q (λ e. omega (arith, ap (slot_at next) e ∙ next-own)) (λ d. omega (arith, next-other slot d))

  -- the slots from the new row's home to its own are full
  new-full : (slot : ℕ) → slot < length slots → FromTo (home (suc k)) q slot → 1 ≤ slot_at next slot
  new-full slot l on = by_equal slot q (λ e. omega (arith, ap (slot_at next) e ∙ next-own)) (λ d. still_full slot (f.full slot l on d))

  -- and those of every row
  next-full : (at slot : ℕ) → at < length next → slot < length next → 1 ≤ slot_at next at → FromTo (home (slot_at next at)) at slot → 1 ≤ slot_at next slot
  next-full at slot a b c on =
      let inside : slot < length slots = omega (arith, next-length) in
      by_equal at q (λ e. new-full slot inside (rw (ap (slot_at next) e ∙ next-own, e) at on))
      (λ d. still_full slot (h.full at slot (omega (arith, next-length)) inside (omega (arith, next-other at d)) (rw (next-other at d) at on)))

  -- so the slots hold one row more
  pub holding-next : Holding (suc k) home next
  holding-next = record {
    once = next-once;
    no_other = next-most;
    full = next-full;
    left = omega (arith, next-length, h.left, zeros-set slots q (suc k) f.inside f.holds (omega arith));
  }

-- so many rows in more slots than rows, with homes inside
pub holding-filled : (n : ℕ) (home : ℕ → ℕ) (k : ℕ) → k < n → ((row : ℕ) → 1 ≤ row → row ≤ k → home row < n)
    → Holding k home (filled home (replicate n 0) k)
unfolding filled entered
holding-filled n home zero l h = holding-none n home
holding-filled n home (suc k) l h =
    let slots : List ℕ = filled home (replicate n 0) k in
    let size : length slots ≡ n = length-filled home (replicate n 0) k ∙ length-replicate n 0 in
    let before : Holding k home slots = holding-filled n home k (omega arith) (λ row a b. h row a (omega arith)) in
    let (z, inside, holds) = zero-there slots (omega (arith, before.left, size)) in
    holding-next k home slots _ before (first-free slots (home (suc k)) z (omega (arith, size, h (suc k) (omega arith) (omega arith))) inside holds)

-- they are an index of them
pub indexed-filled : (n : ℕ) (home : ℕ → ℕ) (k : ℕ) → k < n → ((row : ℕ) → 1 ≤ row → row ≤ k → home row < n)
    → Indexed k home (filled home (replicate n 0) k)
indexed-filled n home k l h =
    holding-indexed k home (filled home (replicate n 0) k) (omega (arith, length-filled home (replicate n 0) k, length-replicate {A = ℕ} n 0)) (holding-filled n home k l h)
