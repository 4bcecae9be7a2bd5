-- What one slot decides where the slots are checked: where a run of full slots begins, and whether one slot more fits.
use mathlib.Core.Path.{◌≡◌, refl, sym, ◌∙◌}
use mathlib.Core.Bool.{Bool, true, false, cond}
use mathlib.Core.List.{List}
use Prim.Native.Nat.{ℕ, suc, ◌+◌, ◌<◌}
use native.Mathlib.Numerals.{add-one}
use lib.Dec.{eqb}
use lib.ListN.{length}
use Rattle.star_slots.specs.Slots.{slot_at}
use Rattle.star_index.specs.Index.{all_below}
use Rattle.star_index.specs.Inner.{run_start, slot_fits, slots_fit}
use Rattle.star_index.proofs.Indexing.{all_true}

-- where the run before the next slot begins
pub run-next : (slots : List ℕ) (at : ℕ) → run_start slots (at + 1) ≡ cond (eqb (slot_at slots at) 0) (suc at) (run_start slots at)
unfolding run_start
run-next slots at = rw add-one

-- one slot more fits, or does not
module _ (rows : ℕ) (home : ℕ → ℕ) (slots : List ℕ) where
  abbrev fits_at : ℕ → Bool
  fits_at n = slot_fits rows home (run_start slots (length slots)) (run_start slots n) (slot_at slots n) n

  pub fit-more : (n : ℕ) → slots_fit rows home slots n ≡ true → fits_at n ≡ true → slots_fit rows home slots (n + 1) ≡ true
  unfolding slots_fit all_below
  fit-more n e f = rw (add-one n, e, f)

  pub fit-less : (n : ℕ) → n < length slots → fits_at n ≡ false → slots_fit rows home slots (length slots) ≡ false
  unfolding slots_fit
  fit-less n h f = by (all_below (length slots) fits_at) refl
    where
      by : (t : Bool) → all_below (length slots) fits_at ≡ t → t ≡ false
      by true e = sym (all_true (length slots) fits_at e n h) ∙ f
      by false e = refl
