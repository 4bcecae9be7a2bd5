-- Putting kinds back: a word that stands for its row's kind leaves the kinds of a table as they are, and is put back to it.
use mathlib.Core.Path.{◌≡◌, refl, sym, ◌∙◌, ap}
use mathlib.Core.Bool.{Bool, true, false, cond}
use mathlib.Core.List.{List}
use Prim.Native.Nat.{ℕ, zero, suc, ◌+◌, ◌*◌, ◌%◌, ◌≤◌, ◌<◌}
use native.Mathlib.Numerals.{add-one}
use native.Mathlib.Omega.{arith}
use lib.Dec.{eqb, ltb}
use borrow.Author.Tests.{ltb-true, ltb-false, eqb-true, eqb-false}
use lib.ListN.{length, get_or, set, length-set}
use lib.Seq.{get_or-set_same, get_or-set_other, set-get_or, set-set, set_comm, set_out}
use Rattle.star_unique.specs.Chain.{unmarked_kind, kinds_in, unmarked}
use Rattle.star_unique.proofs.KindWords.{unmark-small}

-- a kind word that is written
module _ (words : List ℕ) (i v : ℕ) where
  pub word-here : i * 3 < length words → get_or (set words (i * 3) v) (i * 3) 0 ≡ v
  word-here h = get_or-set_same words (i * 3) v 0 h

  pub word-other : (m : ℕ) → (m ≡ i → ⊥) → get_or (set words (i * 3) v) (m * 3) 0 ≡ get_or words (m * 3) 0
  word-other m d = get_or-set_other words (i * 3) (m * 3) v 0 (λ e. d (omega arith))

  -- where it stands for the kind of its row, the kinds stay
  pub kinds-set : unmarked_kind v ≡ kinds_in words i → kinds_in (set words (i * 3) v) ≡ kinds_in words
  unfolding kinds_in
  kinds-set e = λ j m. each m (eqb m i) refl (ltb (i * 3) (length words)) refl j
    where
      each : (m : ℕ) (t : Bool) → eqb m i ≡ t → (r : Bool) → ltb (i * 3) (length words) ≡ r
          → unmarked_kind (get_or (set words (i * 3) v) (m * 3) 0) ≡ unmarked_kind (get_or words (m * 3) 0)
      each m false d r l = ap unmarked_kind (word-other m (eqb-false m i d))
      each m true d true l = rw (eqb-true m i d) (ap unmarked_kind (word-here (ltb-true _ _ l)) ∙ e)
      each m true d false l = rw (set_out words (i * 3) v (ltb-false _ _ l))

unmark-again : (w : ℕ) → unmarked_kind (unmarked_kind w) ≡ unmarked_kind w
unfolding unmarked_kind
unmark-again w = go (eqb (w % 16) 13) refl
  where
    go : (t : Bool) → eqb (w % 16) 13 ≡ t → unmarked_kind (cond t 6 (w % 16)) ≡ cond t 6 (w % 16)
    go true e = refl
    go false e =
        let same : w % 16 % 16 ≡ w % 16 = omega arith in
        rw (same, e)

-- putting kinds back
pub length-unmarked : (rows : ℕ) (words : List ℕ) → length (unmarked rows words) ≡ length words
unfolding unmarked
length-unmarked zero words = refl
length-unmarked (suc n) words = length-set (unmarked n words) (n * 3) _ ∙ length-unmarked n words

pub kinds-unmarked : (rows : ℕ) (words : List ℕ) → kinds_in (unmarked rows words) ≡ kinds_in words
unfolding unmarked kinds_in
kinds-unmarked zero words = refl
kinds-unmarked (suc n) words =
    kinds-set (unmarked n words) n (kinds_in (unmarked n words) n) (unmark-again (get_or (unmarked n words) (n * 3) 0)) ∙ kinds-unmarked n words

-- one row more
pub unmarked-next : (n : ℕ) (words now : List ℕ) → now ≡ unmarked n words → set now (n * 3) (unmarked_kind (get_or now (n * 3) 0)) ≡ unmarked (n + 1) words
unfolding unmarked kinds_in
unmarked-next n words now e = rw (add-one, e)

-- the rows that follow stay as they are
unmarked-ahead : (n : ℕ) (words : List ℕ) (m : ℕ) → n ≤ m → get_or (unmarked n words) (m * 3) 0 ≡ get_or words (m * 3) 0
unfolding unmarked
unmarked-ahead zero words m h = refl
unmarked-ahead (suc n) words m h =
    word-other (unmarked n words) n _ m (λ e. absurd (omega arith)) ∙ unmarked-ahead n words m (omega arith)

unmarked-set : (n : ℕ) (words : List ℕ) (m v : ℕ) → n ≤ m → unmarked n (set words (m * 3) v) ≡ set (unmarked n words) (m * 3) v
unfolding unmarked kinds_in
unmarked-set zero words m v h = refl
unmarked-set (suc n) words m v h =
    rw (unmarked-set n words m v (omega arith), word-other (unmarked n words) m v n (λ e. absurd (omega arith)))
    (set_comm (unmarked n words) (m * 3) (n * 3) v _ (λ e. absurd (omega arith)))

module _ (words : List ℕ) (n : ℕ) where
  -- a row that is not marked
  pub unmarked-plain : get_or words (n * 3) 0 ≤ 12 → unmarked (suc n) words ≡ unmarked n words
  unfolding unmarked kinds_in
  unmarked-plain h =
      let q : get_or (unmarked n words) (n * 3) 0 ≡ get_or words (n * 3) 0 = unmarked-ahead n words n (omega arith) in
      ap (set (unmarked n words) (n * 3)) (unmark-small (get_or (unmarked n words) (n * 3) 0) (omega arith)) ∙ set-get_or (unmarked n words) (n * 3) 0

  -- a row that is marked by a word that stands for its kind
  pub unmarked-mark : (v : ℕ) → n * 3 < length words → unmarked_kind v ≡ get_or words (n * 3) 0 → unmarked (suc n) (set words (n * 3) v) ≡ unmarked n words
  unfolding unmarked kinds_in
  unmarked-mark v h e =
      rw (unmarked-set n words n v (omega arith), word-here (unmarked n words) n v (omega (arith, length-unmarked n words)), set-set, e)
      (ap (set (unmarked n words) (n * 3)) (sym (unmarked-ahead n words n (omega arith))) ∙ set-get_or (unmarked n words) (n * 3) 0)
