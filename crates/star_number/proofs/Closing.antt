-- What the code holds of a bracket, by what stands at a place.
use mathlib.Core.Path.{◌≡◌, refl, sym, ◌∙◌, ap}
use mathlib.Core.Bool.{Bool, true, false, cond, ◌&&◌}
use mathlib.Core.List.{List}
use mathlib.Core.Option.{none, some}
use Prim.Native.Nat.{ℕ, ◌+◌, ◌≤◌, ◌<◌}
use native.Mathlib.Numerals.{add-one}
use native.Mathlib.Omega.{arith}
use borrow.Author.Tests.{eq-eqb, ne_eqb, le-leb, lt-leb}
use lib.Dec.{leb}
use lib.ListN.{length, get_or, drop, drop_of_length-le, length-drop}
use lib.Seq.{drop-cons, drop-drop}
use Rattle.star_text.specs.Bytes.{leading}
use Rattle.star_text.proofs.Run.{run_length}
use Rattle.star_number.specs.Pieces.{is_digit}
use Rattle.star_number.specs.Number.{whole_number}
use Rattle.star_number.specs.Taken.{is_single, bracket_at}
use Rattle.star_number.specs.Held.{Absent, Digits, Bad, bracket_held, digits_held}
use Rattle.star_number.specs.declared.scan.Run.{Run}

module _ (content : List ℕ) (at : ℕ) where
  pub bracket-absent : length content ≤ at → bracket_held (bracket_at (drop at content)) ≡ Absent
  unfolding bracket_at bracket_held
  bracket-absent h = rw (drop_of_length-le content h)

  pub bracket-other : at < length content → (get_or content at 0 ≡ 40 → ⊥) → bracket_held (bracket_at (drop at content)) ≡ Bad
  unfolding bracket_at bracket_held
  bracket-other h n = rw (drop-cons content at 0 h, ne_eqb (get_or content at 0) 40 n)

  -- after an opening bracket, by the digits there
  module _ (h : at < length content) (e : get_or content at 0 ≡ 40) (r : Run) (q : r ≡ digits_held 0 (at + 1) (drop (at + 1) content)) where
    bracket-by : bracket_held (bracket_at (drop at content))
        ≡ bracket_held (cond (leb 1 (length (leading is_digit (drop (at + 1) content))) && is_single 41 (drop r.end content)) (some (some (leading is_digit (drop (at + 1) content)))) none)
    unfolding bracket_at digits_held
    bracket-by =
        rw (drop-cons content at 0 h, eq-eqb (get_or content at 0) 40 e, ← add-one at, drop-drop (length (leading is_digit (drop (at + 1) content))) (at + 1) content, q)

    pub run-within : (at + 1 ≤ r.end) × (r.end ≤ length content)
    unfolding digits_held
    run-within = rw q (omega arith, omega (arith, run_length is_digit (drop (at + 1) content), length-drop (at + 1) content))

    pub bracket-empty : r.end ≡ at + 1 → bracket_held (bracket_at (drop at content)) ≡ Bad
    unfolding bracket_held digits_held
    bracket-empty f =
        let z : length (leading is_digit (drop (at + 1) content)) < 1 = omega (arith, sym (ap (λ x. x.end) q) ∙ f) in
        bracket-by ∙ rw (lt-leb 1 (length (leading is_digit (drop (at + 1) content))) z)

    pub bracket-closed : (r.end ≡ at + 1 → ⊥) → (t : Bool) → is_single 41 (drop r.end content) ≡ t
        → bracket_held (bracket_at (drop at content)) ≡ cond t (Digits r.value) Bad
    unfolding bracket_held digits_held whole_number
    bracket-closed f t g =
        let z : 1 ≤ length (leading is_digit (drop (at + 1) content)) = omega (arith, ap (λ x. x.end) q, f) in
        bracket-by ∙ rw (le-leb 1 (length (leading is_digit (drop (at + 1) content))) z, g) (by t)
      where
        by : (t : Bool) → bracket_held (cond (true && t) (some (some (leading is_digit (drop (at + 1) content)))) none) ≡ cond t (Digits r.value) Bad
        by true = rw q
        by false = refl
