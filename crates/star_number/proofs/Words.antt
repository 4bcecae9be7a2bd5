-- What the code answers of a word is what its pieces are.
use mathlib.Core.Path.{◌≡◌, refl, sym, ◌∙◌, ap}
use mathlib.Core.Bool.{Bool, true, false, cond, ◌&&◌}
use mathlib.Core.List.{List}
use mathlib.Core.Option.{Option, none, some}
use Prim.Native.Nat.{ℕ, min}
use Rattle.std.specs.Prelude.{Option as Answered, Some, None}
use lib.IntN.{ℤ, nat_abs}
use lib.ListN.{length, drop}
use Rattle.star_number.specs.Pieces.{Sign, bytes_of, digits_of, formed}
use Rattle.star_number.specs.Number.{whole_number, power, in_range, scaled, signed, number_over, number_of}
use Rattle.star_number.specs.Taken.{front, bracket_at, with_bracket, taken, word_number}
use Rattle.star_number.specs.Held.{Front, Bracket, Absent, Digits, Bad, front_found, front_with, bracket_as, counted, is_minus, is_negative, power_held, front_held, bracket_held, scaled_by, ten_to, beyond_power, float_held, bare_held, uncertain_held}
use Rattle.star_number.specs.declared.Number.{Number}
use Rattle.star_number.specs.declared.Number.TheVariants.{Float, Uncertain, TooWide, Text}
use Rattle.star_number.specs.declared.decimal.Decimal.{Decimal}
use Rattle.star_number.proofs.Answered.{missing, given}
use Rattle.star_number.proofs.Ranges.{range_same, scaled-same, signed_same}

-- the pieces before the bracket, held by their numbers
abbrev held : (ok : Bool) → Sign → (m : ℕ) → (e : ℤ) → (end : ℕ) → Front
held ok s m e end = record { ok = ok; negative = is_minus s; digits = counted m; over = (power_held e).over; tens = (power_held e).tens; end = end }

module _ (ok : Bool) (s : Sign) (m : ℕ) (e : ℤ) (end : ℕ) where
  float_same : in_range m e ≡ true → float_held (held ok s m e end) ≡ signed s (scaled m e)
  unfolding float_held power_held
  float_same h = rw (scaled-same m e h) (signed_same s (scaled m e))

  bare-same : bare_held (held ok s m e end) ≡ number_over s m e none
  unfolding bare_held number_over power_held
  bare-same = rw (range_same m e) (by (in_range m e) refl)
    where
      by : (t : Bool) → in_range m e ≡ t → cond t (Float (float_held (held ok s m e end))) TooWide ≡ cond t (Float (signed s (scaled m e))) TooWide
      by true h = ap Float (float_same h)
      by false h = refl

  uncertain-same : (ds : List ℕ) → uncertain_held (held ok s m e end) (counted (whole_number ds)) ≡ number_over s m e (some ds)
  unfolding uncertain_held number_over power_held
  uncertain-same ds = rw (range_same m e, range_same (whole_number ds) e) (by (in_range m e) refl (in_range (whole_number ds) e) refl)
    where
      by : (t : Bool) → in_range m e ≡ t → (u : Bool) → in_range (whole_number ds) e ≡ u
          → cond (t && u) (Uncertain (float_held (held ok s m e end)) (scaled_by (is_negative e) (counted (whole_number ds)) (ten_to (min (nat_abs e) beyond_power)))) TooWide
          ≡ cond (t && u) (Uncertain (signed s (scaled m e)) (scaled (whole_number ds) e)) TooWide
      by true h true g = rw (float_same h, scaled-same (whole_number ds) e g)
      by true h false g = refl
      by false h u g = refl

-- by what follows the other pieces
unfoldable pub held_number : Front → Bracket → Number
held_number f Absent = bare_held f
held_number f (Digits d) = uncertain_held f d
held_number f Bad = Text

module _ (content : List ℕ) where
  pub word-other : formed (front content) ≡ false → word_number (taken content) ≡ Text
  unfolding taken word_number
  word-other h = rw h

  taken-formed : formed (front content) ≡ true
      → taken content ≡ with_bracket (front content) (bracket_at (drop (length (bytes_of (front content))) content))
  unfolding taken
  taken-formed h = rw h

  pub word_held : formed (front content) ≡ true
      → word_number (taken content) ≡ held_number (front_held content) (bracket_held (bracket_at (drop (front_held content).end content)))
  unfolding front_held word_number with_bracket held_number bracket_held number_of digits_of power
  word_held h = ap word_number (taken-formed h) ∙ by (bracket_at (drop (length (bytes_of (front content))) content))
    where
      by : (o : Option (Option (List ℕ))) → word_number (with_bracket (front content) o) ≡ held_number (front_held content) (bracket_held o)
      by none = refl
      by (some none) = sym (bare-same _ (front content).sign (whole_number (digits_of (front content))) (power (front content)) _)
      by (some (some ds)) = sym (uncertain-same _ (front content).sign (whole_number (digits_of (front content))) (power (front content)) _ ds)

-- by what `front_of` and `bracket_at` answer
held-with : (f : Front) (d : Decimal) → record { negative = f.negative; digits = f.digits; power = record { over = f.over; tens = f.tens } } ≡ d
    → (b : Bracket) → held_number f b ≡ held_number (front_with d 0) b
unfolding held_number bare_held uncertain_held float_held
held-with f d e Absent = rw (← e)
held-with f d e (Digits digits) = rw (← e)
held-with f d e Bad = refl

module _ (content : List ℕ) where
  pub word-missing : front_found (front_held content) ≡ None → word_number (taken content) ≡ Text
  unfolding front_held
  word-missing e = word-other content (missing _ _ e)

  formed-as : (front_held content).ok ≡ true → formed (front content) ≡ true
  unfolding front_held
  formed-as e = e

  pub word_found : (d : Decimal) (end : ℕ) (b : Answered (Answered ℕ)) → front_found (front_held content) ≡ Some (d, end)
      → bracket_as b ≡ bracket_held (bracket_at (drop end content)) → word_number (taken content) ≡ held_number (front_with d 0) (bracket_as b)
  word_found d end b e q =
      let (formed, pair) = given _ _ (d, end) e in
      word_held content (formed-as formed)
      ∙ (ap (λ n. held_number (front_held content) (bracket_held (bracket_at (drop n content)))) (ap (λ p. p.1) pair)
      ∙ (ap (held_number (front_held content)) (sym q) ∙ held-with (front_held content) d (ap (λ p. p.0) pair) (bracket_as b)))
