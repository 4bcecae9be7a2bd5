-- Table 1 of a layout with the kinds of today's, and back: layout 1 is that of 1991, and any other table stays.
use mathlib.Core.Path.{◌≡◌, refl}
use mathlib.Core.Bool.{Bool, true, false, cond}
use mathlib.Core.List.{List}
use Prim.Native.Nat.{ℕ}
use borrow.Author.Tests.{eq-eqb, ne_eqb}
use lib.Dec.{eqb}
use lib.ListN.{length}
use Rattle.star_lex.specs.Room.{has_rows}
use Rattle.star_frames.specs.Frames.{retagged, closed_frames, opened_frames, as_today, from_today}
use Rattle.star_frames.proofs.Closing.{closed-length}

module _ (layout count : ℕ) (words : List ℕ) where
  pub as_old : layout ≡ 1 → as_today layout count words ≡ closed_frames count words
  unfolding as_today
  as_old e = rw (eq-eqb layout 1 e)

  pub as_same : (layout ≡ 1 → ⊥) → as_today layout count words ≡ words
  unfolding as_today
  as_same n = rw (ne_eqb layout 1 n)

  pub from_old : layout ≡ 1 → from_today layout count words ≡ opened_frames count words
  unfolding from_today
  from_old e = rw (eq-eqb layout 1 e)

  pub from-same : (layout ≡ 1 → ⊥) → from_today layout count words ≡ words
  unfolding from_today
  from-same n = rw (ne_eqb layout 1 n)

  pub as-length : length (as_today layout count words) ≡ length words
  unfolding as_today
  as-length = by (eqb layout 1)
    where
      by : (b : Bool) → length (cond b (closed_frames count words) words) ≡ length words
      by true = closed-length count words
      by false = refl

-- no rows
pub as_none : (layout : ℕ) (words : List ℕ) → as_today layout 0 words ≡ words
unfolding as_today closed_frames retagged
as_none layout words = by (eqb layout 1) (has_rows 0 (length words))
  where
    by : (b c : Bool) → cond b (cond c words words) words ≡ words
    by true true = refl
    by true false = refl
    by false c = refl
