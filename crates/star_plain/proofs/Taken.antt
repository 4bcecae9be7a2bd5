-- The rows of a table that are taken, and the room with their plain form.
use mathlib.Core.Path.{◌≡◌, sym, ◌∙◌, ap, subst}
use mathlib.Core.Bool.{true, false, ◌&&◌}
use mathlib.Core.List.{List, ◌++◌}
use Prim.Native.Nat.{ℕ, ◌-◌, ◌*◌, ◌≤◌}
use native.Mathlib.Nat.{sub-zero}
use native.Mathlib.Omega.{arith}
use borrow.Author.Tests.{leb-true}
use lib.Dec.{leb}
use lib.ListN.{length, replicate}
use Rattle.star_text.specs.Bytes.{most_bytes}
use Rattle.star_text.proofs.Cases.{cond-by, both}
use Rattle.star_rows.specs.Widths.{token_width}
use Rattle.star_rows.specs.Rows.{cleared_from}
use Rattle.star_plain.specs.Kept.{rows_taken, has_place, room_with}

-- so many rows are within the limits
pub record Within (file words : List ℕ) (rows : ℕ) : Type 0 where
  pub small : 1 ≤ rows → length file ≤ most_bytes
  pub few : rows ≤ most_bytes
  pub held : rows * token_width ≤ length words

pub taken-within : (file words : List ℕ) (count rows : ℕ) → rows ≡ rows_taken file words count → Within file words rows
unfolding rows_taken
taken-within file words count rows is =
    subst (λ (n : ℕ). Within file words n) (sym is)
    (cond-by (λ (n : ℕ). Within file words n) (leb (length file) most_bytes && (leb count most_bytes && leb (count * token_width) (length words))) _ _
    (λ e.
    let (s, r) = both (leb (length file) most_bytes) _ e in
    let (f, h) = both (leb count most_bytes) _ r in
    record { small = λ _. leb-true _ _ s; few = leb-true _ _ f; held = leb-true _ _ h })
    (λ e. record { small = λ h. omega arith; few = omega arith; held = omega arith }))

-- a room that is cleared whole
pub cleared-whole : (room : List ℕ) {cleared : List ℕ} → cleared ≡ cleared_from 0 room → cleared ≡ replicate (length room) 0
cleared-whole room e = e ∙ ap (λ n. replicate n 0) (sub-zero (length room))

-- the form has no place, or stands in the room
pub no_place : (room : ℕ) (plain : List ℕ) → has_place (length plain) room ≡ false → room_with room plain ≡ replicate room 0
unfolding room_with
no_place room plain e = rw e

pub has-place : (room : ℕ) (plain : List ℕ) → has_place (length plain) room ≡ true → (length plain ≤ room) × (room_with room plain ≡ plain ++ replicate (room - length plain) 0)
unfolding room_with
has-place room plain e = (leb-true _ _ (both (leb (length plain) most_bytes) _ e).1, rw e)
