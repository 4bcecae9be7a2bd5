-- Laws of `digits_held`: what one byte decides, and what the end gives.
use mathlib.Core.Path.{◌≡◌, sym}
use mathlib.Core.Bool.{true, false}
use mathlib.Core.List.{List}
use Prim.Native.Nat.{ℕ, suc, ◌+◌, ◌-◌, ◌*◌, ◌≤◌, ◌<◌}
use native.Mathlib.Nat.{add-zero}
use native.Mathlib.Numerals.{add-one}
use native.Mathlib.Omega.{arith}
use lib.ListN.{length, get_or, drop, drop_of_length-le, length-drop}
use lib.Seq.{drop-cons}
use Rattle.star_text.specs.Bytes.{leading}
use Rattle.star_text.proofs.Run.{run-goes, run_length}
use Rattle.star_number.specs.Pieces.{is_digit}
use Rattle.star_number.specs.Number.{extended}
use Rattle.star_number.specs.Held.{most_counted, counted, digits_held}
use Rattle.star_number.specs.declared.scan.Run.{Run}
use Rattle.star_number.proofs.Counting.{counted-small, counted-first}

run-same : {a b v w : ℕ} → a ≡ b → v ≡ w → ◌≡◌ {A = Run} (record { end = a; value = v }) (record { end = b; value = w })
run-same p q = rw (p, q)

module _ (content : List ℕ) (n at : ℕ) where
  pub digits-go : at < length content → is_digit (get_or content at 0) ≡ true
      → digits_held n at (drop at content) ≡ digits_held (counted (n * 10 + (get_or content at 0 - 48))) (at + 1) (drop (at + 1) content)
  unfolding digits_held leading extended
  digits-go h e =
      run-same (run-goes is_digit content at h e)
      (rw (drop-cons content at 0 h, e, add-one) (sym (counted-first (n * 10 + (get_or content at 0 - 48)) (leading is_digit (drop (suc at) content)))))

  pub digits-stop : at < length content → n ≤ most_counted → is_digit (get_or content at 0) ≡ false
      → digits_held n at (drop at content) ≡ record { end = at; value = n }
  unfolding digits_held leading extended
  digits-stop h l e = rw (drop-cons content at 0 h, e) (run-same (add-zero at) (counted-small n l))

  pub digits-end : length content ≤ at → n ≤ most_counted → digits_held n at (drop at content) ≡ record { end = at; value = n }
  unfolding digits_held leading extended
  digits-end h l = rw (drop_of_length-le content h) (run-same (add-zero at) (counted-small n l))

-- digits lie within the content
pub digits-within : (content : List ℕ) (value from : ℕ) (r : Run) → r ≡ digits_held value from (drop from content) → from ≤ length content
    → (from ≤ r.end) × (r.end ≤ length content)
unfolding digits_held
digits-within content value from r q h = rw q (omega arith, omega (arith, run_length is_digit (drop from content), length-drop from content))
