-- What the code finds place by place is what it is to hold of the pieces before the bracket.
use mathlib.Core.Path.{◌≡◌, refl, sym, ◌∙◌, ap}
use mathlib.Core.Bool.{Bool, true, false, cond, ◌&&◌, and-true}
use mathlib.Core.List.{List, ◌++◌}
use mathlib.Core.Option.{Option, none, some}
use Prim.Native.Nat.{ℕ, ◌+◌, ◌-◌, ◌≤◌, ◌<◌, ◌^◌}
use native.Mathlib.Omega.{arith}
use lib.Dec.{leb}
use lib.IntN.{pos, neg_ℤ, ◌-ℤ◌}
use lib.ListN.{length, drop, length-append, length-drop}
use lib.Seq.{drop-drop}
use Rattle.star_text.specs.Bytes.{all, leading}
use Rattle.star_text.proofs.Bytes.{all_append, run-passes}
use Rattle.star_text.proofs.Run.{run_length}
use Rattle.star_lex.specs.Split.{starts}
use Rattle.star_lex.specs.Table.{or_empty}
use Rattle.star_number.specs.Pieces.{Sign, unsigned, plus, minus, sign_bytes, Exponent, fraction_bytes, exponent_bytes, bracket_bytes, bytes_of, is_digit, some_digits, digits_of, exponent_formed, bracket_formed, formed}
use Rattle.star_number.specs.Number.{extended, whole_number, signed_whole, written, power}
use Rattle.star_number.specs.Taken.{sign_at, after_sign, fraction_at, exponent_at, front}
use Rattle.star_number.specs.Held.{ExponentRun, Front, counted, digits_held, fraction_held, is_minus, exponent_minus, exponent_whole, exponent_held, signed_by, power_held, front_held}
use Rattle.star_number.specs.declared.scan.Run.{Run}
use Rattle.star_number.specs.declared.scan.FractionRun.{FractionRun}
use Rattle.star_number.specs.declared.decimal.Power.{Power}
use Rattle.star_number.proofs.Counting.{extended-append, counted-first}
use Rattle.star_number.proofs.Powers.{held-counted}
use Rattle.star_number.proofs.Held.{minus-at}

-- digits after a point are digits
fraction-digits : (bs : List ℕ) → all is_digit (or_empty (fraction_at bs)) ≡ true
unfolding fraction_at or_empty all
fraction-digits bs = by (starts 46 bs)
  where
    by : (t : Bool) → all is_digit (or_empty (cond t (some (leading is_digit (drop 1 bs))) none)) ≡ true
    by true = run-passes is_digit (drop 1 bs)
    by false = refl

-- and no more than there are bytes
fraction-length : (bs : List ℕ) → length (or_empty (fraction_at bs)) ≤ length bs
unfolding fraction_at or_empty
fraction-length bs = by (starts 46 bs)
  where
    by : (t : Bool) → length (or_empty (cond t (some (leading is_digit (drop 1 bs))) none)) ≤ length bs
    by true = omega (arith, run_length is_digit (drop 1 bs), length-drop 1 bs)
    by false = omega arith

written-by : (x : Option Exponent) → signed_by (exponent_minus x) (exponent_whole x) ≡ written x
unfolding signed_by exponent_minus exponent_whole written is_minus signed_whole
written-by none = refl
written-by (some x) = by x.sign
  where
    by : (s : Sign) → cond (is_minus s) (neg_ℤ (pos (whole_number x.digits))) (pos (whole_number x.digits)) ≡ signed_whole s (whole_number x.digits)
    by unsigned = refl
    by plus = refl
    by minus = refl

-- some digits, by their count
digits-count : (a : ℕ) (w ds : List ℕ) (t : Bool) → all is_digit w ≡ true → all is_digit ds ≡ true
    → (leb 1 (a + length w - a + length ds) && t) ≡ (some_digits (w ++ ds) && (t && true))
unfolding some_digits
digits-count a w ds t p q =
    let k : a + length w - a + length ds ≡ length w + length ds = omega arith in
    rw (k, length-append w ds, all_append is_digit w ds, p, q, and-true (leb 1 (length w + length ds)), and-true t)

front_same : {s t m n o p : Bool} {a b v w j k : ℕ} → s ≡ t → m ≡ n → v ≡ w → o ≡ p → j ≡ k → a ≡ b
    → ◌≡◌ {A = Front} (record { ok = s; negative = m; digits = v; over = o; tens = j; end = a }) (record { ok = t; negative = n; digits = w; over = p; tens = k; end = b })
front_same p q r u v w = rw (p, q, r, u, v, w)

module _ (content : List ℕ) where
  signs : ℕ
  signs = length (sign_bytes (sign_at content))

  whole : List ℕ
  whole = leading is_digit (after_sign content)

  behind : List ℕ
  behind = drop (length whole) (after_sign content)

  fraction : Option (List ℕ)
  fraction = fraction_at behind

  exponent : Option Exponent
  exponent = exponent_at (drop (length (fraction_bytes fraction)) behind)

  after-length : length (after_sign content) ≤ length content
  unfolding after_sign
  after-length = omega (arith, length-drop (length (sign_bytes (sign_at content))) content)

  whole_is : digits_held 0 signs (drop signs content) ≡ record { end = signs + length whole; value = counted (whole_number whole) }
  unfolding digits_held whole_number signs whole after_sign
  whole_is = refl

  behind-at : drop (signs + length whole) content ≡ behind
  unfolding signs whole behind after_sign
  behind-at = sym (drop-drop (length whole) signs content)

  fraction-is : fraction_held (counted (whole_number whole)) (signs + length whole) (fraction_at (drop (signs + length whole) content))
      ≡ record { end = signs + length whole + length (fraction_bytes fraction); after = length (or_empty fraction); value = counted (whole_number (whole ++ or_empty fraction)) }
  unfolding fraction_held whole_number fraction
  fraction-is = rw (behind-at, counted-first (extended 0 whole) (or_empty (fraction_at behind)), extended-append 0 whole (or_empty (fraction_at behind)))

  exponent-is : exponent_held (signs + length whole + length (fraction_bytes fraction)) (exponent_at (drop (signs + length whole + length (fraction_bytes fraction)) content))
      ≡ exponent_held (signs + length whole + length (fraction_bytes fraction)) exponent
  unfolding exponent
  exponent-is = rw (← drop-drop (length (fraction_bytes fraction)) (signs + length whole) content, behind-at)

  -- the count of digits and the bytes
  ok-is : (leb 1 (signs + length whole - signs + length (or_empty fraction)) && exponent_formed exponent) ≡ formed (front content)
  unfolding formed front digits_of bracket_formed signs whole behind fraction exponent
  ok-is = digits-count signs whole (or_empty fraction) (exponent_formed exponent) (run-passes is_digit (after_sign content)) (fraction-digits behind)

  end_is : signs + length whole + length (fraction_bytes fraction) + length (exponent_bytes exponent) ≡ length (bytes_of (front content))
  unfolding front bytes_of bracket_bytes signs whole behind fraction exponent
  end_is = simp length-append (omega arith)

  pub front-held : length content < 2 ^ 63 → (n : ℕ) → n ≡ length (sign_bytes (sign_at (drop 0 content)))
      → (w : Run) → w ≡ digits_held 0 n (drop n content)
      → (f : FractionRun) → f ≡ fraction_held w.value w.end (fraction_at (drop w.end content))
      → (x : ExponentRun) → x ≡ exponent_held f.end (exponent_at (drop f.end content))
      → (b : Power) → b ≡ power_held (signed_by x.negative x.value -ℤ pos f.after)
      → (n ≤ w.end) × (w.end - n + f.after ≤ length content)
      × (◌≡◌ {A = Front}
      (record { ok = leb 1 (w.end - n + f.after) && x.ok; negative = starts 45 (drop 0 content); digits = f.value; over = b.over; tens = b.tens; end = x.end })
      (front_held content))
  unfolding signs front_held front power digits_of exponent_held fraction exponent whole behind
  front-held small n e w q f r x s b t =
      let w' : w ≡ record { end = signs + length whole; value = counted (whole_number whole) } = q ∙ (rw e whole_is) in
      let f' : f ≡ record { end = signs + length whole + length (fraction_bytes fraction); after = length (or_empty fraction); value = counted (whole_number (whole ++ or_empty fraction)) } =
      r ∙ (rw w' fraction-is) in
      let x' : x ≡ exponent_held (signs + length whole + length (fraction_bytes fraction)) exponent = s ∙ (rw f' exponent-is) in
      let l : length whole + length (or_empty fraction) ≤ length content =
      omega (arith, run_length is_digit (after_sign content), fraction-length behind, length-drop (length whole) (after_sign content), after-length) in
      let b' : b ≡ power_held (power (front content)) =
      t ∙ (rw (x', f') (held-counted (exponent_minus exponent) (exponent_whole exponent) (length (or_empty fraction)) (omega arith) ∙ ap (λ z. power_held (z -ℤ pos (length (or_empty fraction)))) (written-by exponent))) in
      rw (e, w', f', x', b') (omega arith, omega arith, front_same ok-is (minus-at content) refl refl refl end_is)
