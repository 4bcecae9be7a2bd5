-- Probing the slots of an index answers what a search through the rows does, where rows with the wanted bytes have the home that is probed from, and there is at most one: no slot from
-- there to that row's is 0, and every other row on the way is passed over.
use mathlib.Core.Path.{◌≡◌, refl, ◌∙◌, ap}
use mathlib.Core.Bool.{Bool, true, false, cond}
use mathlib.Core.List.{List}
use mathlib.Core.Option.{Option, some}
use Prim.Native.Nat.{ℕ, zero, suc, ◌+◌, ◌-◌, ◌≤◌, ◌<◌}
use native.Mathlib.Omega.{arith}
use borrow.Author.Tests.{le-ltb, leb-true, leb-false, eqb-true, eqb-false, eq-eqb, ne_eqb}
use lib.Dec.{eqb, leb}
use lib.ListN.{length}
use Rattle.star_text.specs.Names.{same}
use Rattle.star_text.proofs.Names.{same_true, same_false}
use Rattle.star_find.specs.Find.{seek, meet, found, refused}
use Rattle.star_find.specs.declared.Found.{Found}
use Rattle.star_find.proofs.Seeking.{Sought, Hit, seek-sought}
use Rattle.star_slots.specs.Slots.{slot_at, next_slot}
use Rattle.star_slots.specs.Lookup.{probe}
use Rattle.star_slots.proofs.Slots.{next-slot, next-first, next-inside}
use Rattle.star_index.specs.Index.{FromTo, JustOne, Indexed}

-- a slot that is not 0 holds a row
row-held : (slots : List ℕ) (at : ℕ) → 1 ≤ slot_at slots at → slot_at slots at ≡ suc (slot_at slots at - 1)
row-held slots at h = omega arith

module _ (slots : List ℕ) (is_one : ℕ → Bool) (content : ℕ → Option (List ℕ)) (wanted : List ℕ) (contents : ℕ → List ℕ) (n : ℕ)
    (inside : (i : ℕ) → i < n → content (suc i) ≡ some (contents i)) where
  -- what one slot decides: 0, a row that is passed over, and the row that is looked for
  probe-empty : (left at : ℕ) → slot_at slots at ≡ 0 → probe slots n is_one content wanted (suc left) at ≡ refused 13
  unfolding probe
  probe-empty left at e = rw (eq-eqb (slot_at slots at) 0 e)

  probe-past : (left at i : ℕ) → slot_at slots at ≡ suc i → i < n → (Hit is_one contents wanted i → ⊥)
      → probe slots n is_one content wanted (suc left) at ≡ probe slots n is_one content wanted left (next_slot (length slots) at)
  unfolding probe meet
  probe-past left at i e h b = rw (e, ne_eqb (suc i) 0 (λ z. omega arith), le-ltb n (suc i) h) (by_row (is_one (suc i)) refl (same (contents i) wanted) refl)
    where
      rest : Found
      rest = probe slots n is_one content wanted left (next_slot (length slots) at)

      by_row : (t : Bool) → is_one (suc i) ≡ t → (s : Bool) → same (contents i) wanted ≡ s → cond (is_one (suc i)) (meet wanted (suc i) (content (suc i)) rest) rest ≡ rest
      by_row true q true d = absurd (b (q, same_true _ _ d))
      by_row true q false d = rw (q, inside i h, d)
      by_row false q s d = rw q

  probe-here : (left at i : ℕ) → slot_at slots at ≡ suc i → i < n → Hit is_one contents wanted i → probe slots n is_one content wanted (suc left) at ≡ found (suc i)
  unfolding probe meet
  probe-here left at i e h p =
      rw (e, ne_eqb (suc i) 0 (λ z. omega arith), le-ltb n (suc i) h, p.0, inside i h) (by_same (same (contents i) wanted) refl)
    where
      by_same : (s : Bool) → same (contents i) wanted ≡ s
          → cond (same (contents i) wanted) (found (suc i)) (probe slots n is_one content wanted left (next_slot (length slots) at)) ≡ found (suc i)
      by_same true d = rw d
      by_same false d = absurd (same_false _ _ d p.1)

  -- where no slot holds another number than 0 and the rows'
  module _ (no_other : (at : ℕ) → at < length slots → slot_at slots at ≤ n) where
    -- where no row is the one, 13
    probe-none : ((i : ℕ) → i < n → Hit is_one contents wanted i → ⊥) → (left at : ℕ) → at < length slots → probe slots n is_one content wanted left at ≡ refused 13
    unfolding probe
    probe-none b zero at h = refl
    probe-none b (suc left) at h = go (eqb (slot_at slots at) 0) refl (probe-none b left (next_slot (length slots) at) (next-inside (length slots) at h))
      where
        go : (t : Bool) → eqb (slot_at slots at) 0 ≡ t → probe slots n is_one content wanted left (next_slot (length slots) at) ≡ refused 13
            → probe slots n is_one content wanted (suc left) at ≡ refused 13
        go true e later = probe-empty left at (eqb-true (slot_at slots at) 0 e)
        go false e later =
            let l : 1 ≤ slot_at slots at = omega (arith, eqb-false (slot_at slots at) 0 e) in
            let k : slot_at slots at - 1 < n = omega (arith, no_other at h) in
            probe-past left at (slot_at slots at - 1) (row-held slots at l) k (b (slot_at slots at - 1) k) ∙ later

    -- the row that is the one, and its slot
    module _ (own i : ℕ) (own-inside : own < length slots) (holds : slot_at slots own ≡ suc i) (is : Hit is_one contents wanted i)
        (alone : (at j : ℕ) → at < length slots → slot_at slots at ≡ suc j → Hit is_one contents wanted j → at ≡ own) where
      i-inside : i < n
      i-inside = omega (arith, no_other own own-inside)

      -- another slot that is not 0 is passed over
      probe-other : (left at : ℕ) → at < length slots → 1 ≤ slot_at slots at → (at ≡ own → ⊥)
          → probe slots n is_one content wanted (suc left) at ≡ probe slots n is_one content wanted left (next_slot (length slots) at)
      probe-other left at h l other =
          probe-past left at (slot_at slots at - 1) (row-held slots at l) (omega (arith, no_other at h))
          (λ p. other (alone at (slot_at slots at - 1) h (row-held slots at l) p))

      -- so many slots before its own
      probe-up : (before left at : ℕ) → at + before ≡ own → before < left → ((s : ℕ) → at ≤ s → s ≤ own → 1 ≤ slot_at slots s)
          → probe slots n is_one content wanted left at ≡ found (suc i)
      probe-up before zero at e l full = absurd (omega arith)
      probe-up zero (suc left) at e l full = probe-here left at i (ap (slot_at slots) (let q : at ≡ own = omega arith in q) ∙ holds) i-inside is
      probe-up (suc before) (suc left) at e l full =
          probe-other left at (omega arith) (full at (omega arith) (omega arith)) (λ q. omega arith)
          ∙ ap (probe slots n is_one content wanted left) (next-slot (length slots) at (omega arith))
          ∙ probe-up before left (suc at) (omega arith) (omega arith) (λ s a b. full s (omega arith) b)

      -- so many slots before the last, and its own from the first on
      probe-round : (before left at : ℕ) → suc (at + before) ≡ length slots → suc (before + own) < left → own < at → ((s : ℕ) → at ≤ s → s < length slots → 1 ≤ slot_at slots s)
          → ((s : ℕ) → s ≤ own → 1 ≤ slot_at slots s) → probe slots n is_one content wanted left at ≡ found (suc i)
      probe-round before zero at e l b full low = absurd (omega arith)
      probe-round zero (suc left) at e l b full low =
          probe-other left at (omega arith) (full at (omega arith) (omega arith)) (λ q. omega arith)
          ∙ ap (probe slots n is_one content wanted left) (next-first (length slots) at (omega arith))
          ∙ probe-up own left 0 (omega arith) (omega arith) (λ s a b. low s b)
      probe-round (suc before) (suc left) at e l b full low =
          probe-other left at (omega arith) (full at (omega arith) (omega arith)) (λ q. omega arith)
          ∙ ap (probe slots n is_one content wanted left) (next-slot (length slots) at (omega arith))
          ∙ probe-round before left (suc at) (omega arith) (omega arith) (omega arith) (λ s a b. full s (omega arith) b) low

      -- round once from its home
      probe-home : (home : ℕ) → home < length slots → ((s : ℕ) → s < length slots → FromTo home own s → 1 ≤ slot_at slots s)
          → probe slots n is_one content wanted (length slots) home ≡ found (suc i)
      probe-home home h full = go (leb home own) refl
        where
          go : (t : Bool) → leb home own ≡ t → probe slots n is_one content wanted (length slots) home ≡ found (suc i)
          go true q =
              let l : home ≤ own = leb-true home own q in
              probe-up (own - home) (length slots) home (omega arith) (omega arith) (λ s a b. full s (omega arith) (FromTo.between s a b))
          go false q =
              let l : own < home = leb-false home own q in
              probe-round (length slots - suc home) (length slots) home (omega arith) (omega arith) l
              (λ s a b. full s b (FromTo.to_end s l a)) (λ s a. full s (omega arith) (FromTo.from_start s l a))

  -- the slots are an index, rows that are the one have this home, and there is at most one
  module _ (home : ℕ → ℕ) (index : Indexed n home slots) (at : ℕ) (at-inside : at < length slots)
      (homes : (i : ℕ) → i < n → Hit is_one contents wanted i → home (suc i) ≡ at)
      (one : (i j : ℕ) → i < n → j < n → Hit is_one contents wanted i → Hit is_one contents wanted j → i ≡ j) where
    probe-sought : {f : Found} → Sought (Hit is_one contents wanted) n f → probe slots n is_one content wanted (length slots) at ≡ f
    probe-sought (Sought.there i l p b) =
        let k : JustOne slots (suc i) = index.once (suc i) (omega arith) l in
        probe-home index.no_other k.at i k.inside k.holds p
        (λ s j h e q. k.alone s h (e ∙ ap suc (one j i (omega (arith, index.no_other s h)) l q p)))
        at at-inside
        (λ s h r. index.full k.at s k.inside h (omega (arith, k.holds))
        (rw (k.holds, homes i l p) r))
    probe-sought (Sought.absent b) = probe-none index.no_other b (length slots) at at-inside

    -- the answer is that of the search through the rows
    pub probe-seek : probe slots n is_one content wanted (length slots) at ≡ seek is_one content wanted n 1
    probe-seek = probe-sought (seek-sought is_one content wanted contents n inside)
