-- Runs of full slots: all slots from a home to a full slot are full exactly when the home is in the run that ends there, round the end. So slots of which each fits, with each row in
-- just one, are an index, and no others are.
use mathlib.Core.Path.{◌≡◌, refl, sym}
use mathlib.Core.Bool.{Bool, true, false, cond, ◌&&◌}
use mathlib.Core.List.{List}
use Prim.Native.Nat.{ℕ, zero, suc, ◌≤◌, ◌<◌}
use native.Mathlib.Omega.{arith}
use borrow.Author.Tests.{leb-true, leb-false, le-leb, le-ltb, eqb-true, eqb-false, eq-eqb, ltb-false}
use lib.Dec.{eqb, leb, ltb}
use lib.ListN.{length}
use Rattle.star_text.proofs.Cases.{both, impossible}
use Rattle.star_slots.specs.Slots.{slot_at}
use Rattle.star_index.specs.Index.{FromTo, JustOne, Indexed, is_indexed}
use Rattle.star_index.specs.Inner.{run_start, in_run, slot_fits, slots_fit}
use Rattle.star_index.proofs.Indexing.{and_both, all_true, true-all, Full, indexed-true, true-indexed, by_equal}

module _ (slots : List ℕ) where
  -- the slots of a run are full
  run-full : (at slot : ℕ) → run_start slots at ≤ slot → slot < at → 1 ≤ slot_at slots slot
  unfolding run_start
  run-full zero slot h k = absurd (omega arith)
  run-full (suc at) slot h k = go (eqb (slot_at slots at) 0) refl h (λ l m. run-full at slot l m)
    where
      go : (t : Bool) → eqb (slot_at slots at) 0 ≡ t → cond t (suc at) (run_start slots at) ≤ slot
          → (run_start slots at ≤ slot → slot < at → 1 ≤ slot_at slots slot) → 1 ≤ slot_at slots slot
      go true e l earlier = absurd (omega arith)
      go false e l earlier = by_equal slot at (λ q. rw q (omega (arith, eqb-false (slot_at slots at) 0 e))) (λ q. earlier l (omega arith))

  -- and it begins no later than a place from which on all are
  run-begins : (at home : ℕ) → home ≤ at → ((slot : ℕ) → home ≤ slot → slot < at → 1 ≤ slot_at slots slot) → run_start slots at ≤ home
  unfolding run_start
  run-begins zero home h f = omega arith
  run-begins (suc at) home h f =
      go (eqb (slot_at slots at) 0) refl (run-begins at at (omega arith) (λ s a b. absurd (omega arith))) (λ l. run-begins at home l (λ s a b. f s a (omega arith)))
    where
      go : (t : Bool) → eqb (slot_at slots at) 0 ≡ t → run_start slots at ≤ at → (home ≤ at → run_start slots at ≤ home) → cond t (suc at) (run_start slots at) ≤ home
      go true e low earlier = by_equal home (suc at) (λ q. omega arith) (λ q. absurd (omega (arith, eqb-true (slot_at slots at) 0 e, f at (omega arith) (omega arith))))
      go false e low earlier = by_equal home (suc at) (λ q. omega arith) (λ q. earlier (omega arith))

  module _ (home at : ℕ) (below : home < length slots) (inside : at < length slots) (held : 1 ≤ slot_at slots at) where
    run-reaches : in_run (run_start slots at) (run_start slots (length slots)) home at ≡ true → Full home at slots
    unfolding in_run
    run-reaches e = go (leb home at) refl e
      where
        go : (t : Bool) → leb home at ≡ t → cond t (leb (run_start slots at) home) (eqb (run_start slots at) 0 && leb (run_start slots (length slots)) home) ≡ true → Full home at slots
        go true d k slot h (FromTo.between _ a b) =
            by_equal slot at (λ q. rw q held) (λ q. run-full at slot (omega (arith, leb-true (run_start slots at) home k)) (omega arith))
        go true d k slot h (FromTo.to_end _ a b) = absurd (omega (arith, leb-true home at d))
        go true d k slot h (FromTo.from_start _ a b) = absurd (omega (arith, leb-true home at d))
        go false d k slot h (FromTo.between _ a b) = absurd (omega (arith, leb-false home at d))
        go false d k slot h (FromTo.to_end _ a b) =
            run-full (length slots) slot (omega (arith, leb-true (run_start slots (length slots)) home (both (eqb (run_start slots at) 0) (leb (run_start slots (length slots)) home) k).1)) h
        go false d k slot h (FromTo.from_start _ a b) =
            by_equal slot at (λ q. rw q held)
            (λ q. run-full at slot (omega (arith, eqb-true (run_start slots at) 0 (both (eqb (run_start slots at) 0) (leb (run_start slots (length slots)) home) k).0)) (omega arith))

    full-reaches : Full home at slots → in_run (run_start slots at) (run_start slots (length slots)) home at ≡ true
    unfolding in_run
    full-reaches f = go (leb home at) refl
      where
        go : (t : Bool) → leb home at ≡ t → cond t (leb (run_start slots at) home) (eqb (run_start slots at) 0 && leb (run_start slots (length slots)) home) ≡ true
        go true d = le-leb _ _ (run-begins at home (leb-true home at d) (λ s a b. f s (omega arith) (FromTo.between s a (omega arith))))
        go false d =
            let past : at < home = leb-false home at d in
            let first : run_start slots at ≤ 0 = run-begins at 0 (omega arith) (λ s a b. f s (omega arith) (FromTo.from_start s past (omega arith))) in
            let none : run_start slots at ≡ 0 = omega arith in
            and_both (eq-eqb (run_start slots at) 0 none) (le-leb _ _ (run-begins (length slots) home (omega arith) (λ s a b. f s b (FromTo.to_end s past a))))

-- what is no index
not-index : (rows : ℕ) (home : ℕ → ℕ) (slots : List ℕ) → (Indexed rows home slots → ⊥) → false ≡ is_indexed rows home slots
not-index rows home slots n = go (is_indexed rows home slots) refl
  where
    go : (t : Bool) → is_indexed rows home slots ≡ t → false ≡ t
    go true e = absurd (n (indexed-true rows home slots e))
    go false e = refl

pub index-few : (rows : ℕ) (home : ℕ → ℕ) (slots : List ℕ) → length slots ≤ rows → false ≡ is_indexed rows home slots
index-few rows home slots h = not-index rows home slots (λ x. omega (arith, x.more))

module _ (rows : ℕ) (home : ℕ → ℕ) (slots : List ℕ) (below : (row : ℕ) → home row < length slots) where
  abbrev fits : ℕ → Bool
  fits at = slot_fits rows home (run_start slots (length slots)) (run_start slots at) (slot_at slots at) at

  -- a slot that fits: 0, or a row with its home in the run
  slot-fits : (at : ℕ) → at < length slots → fits at ≡ true → (slot_at slots at ≤ rows) × (1 ≤ slot_at slots at → Full (home (slot_at slots at)) at slots)
  unfolding slot_fits
  slot-fits at h e = go (eqb (slot_at slots at) 0) refl (ltb rows (slot_at slots at)) refl e
    where
      row : ℕ
      row = slot_at slots at

      go : (t : Bool) → eqb row 0 ≡ t → (u : Bool) → ltb rows row ≡ u
          → cond t true (cond u false (in_run (run_start slots at) (run_start slots (length slots)) (home row) at)) ≡ true
          → (row ≤ rows) × (1 ≤ row → Full (home row) at slots)
      go true d u v k = let z : row ≡ 0 = eqb-true row 0 d in (omega arith, λ l. absurd (omega arith))
      go false d true v k = impossible cc
      go false d false v k = (ltb-false rows row v, λ l. run-reaches slots (home row) at (below row) h l k)

  pub fits-no-other : slots_fit rows home slots (length slots) ≡ true → (at : ℕ) → at < length slots → slot_at slots at ≤ rows
  unfolding slots_fit
  fits-no-other e at h = (slot-fits at h (all_true (length slots) fits e at h)).0

  fits-full : slots_fit rows home slots (length slots) ≡ true → (at slot : ℕ) → at < length slots → slot < length slots → 1 ≤ slot_at slots at
      → FromTo (home (slot_at slots at)) at slot → 1 ≤ slot_at slots slot
  unfolding slots_fit
  fits-full e at slot h k l f = (slot-fits at h (all_true (length slots) fits e at h)).1 l slot k f

  -- the slots of an index fit
  index-fits : Indexed rows home slots → slots_fit rows home slots (length slots) ≡ true
  unfolding slots_fit slot_fits
  index-fits x = true-all (length slots) fits (λ at h. go at h (eqb (slot_at slots at) 0) refl)
    where
      go : (at : ℕ) → at < length slots → (t : Bool) → eqb (slot_at slots at) 0 ≡ t → fits at ≡ true
      go at h true d = rw d
      go at h false d =
          let l : 1 ≤ slot_at slots at = omega (arith, eqb-false (slot_at slots at) 0 d) in
          rw (d, le-ltb rows (slot_at slots at) (x.no_other at h))
          (full-reaches slots (home (slot_at slots at)) at (below (slot_at slots at)) h l (λ slot k f. x.full at slot h k l f))

  pub index-unfit : slots_fit rows home slots (length slots) ≡ false → false ≡ is_indexed rows home slots
  index-unfit e = not-index rows home slots (λ x. let k : slots_fit rows home slots (length slots) ≡ true = index-fits x in impossible cc)

  -- the slots fit: they are an index exactly where each row is in just one
  pub index-once : rows < length slots → slots_fit rows home slots (length slots) ≡ true → (t : Bool)
      → (t ≡ true → (row : ℕ) → 1 ≤ row → row ≤ rows → JustOne slots row) → (t ≡ false → ((row : ℕ) → 1 ≤ row → row ≤ rows → JustOne slots row) → ⊥)
      → t ≡ is_indexed rows home slots
  index-once h e true once never =
      sym (true-indexed rows home slots (record { more = h; once = once refl; no_other = fits-no-other e; full = fits-full e }))
  index-once h e false once never = not-index rows home slots (λ x. never refl x.once)
