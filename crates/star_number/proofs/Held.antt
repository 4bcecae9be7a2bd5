-- What the code holds of a point, an exponent and a sign, by what stands at a place.
use mathlib.Core.Path.{◌≡◌, refl, sym, ◌∙◌, ap}
use mathlib.Core.Bool.{Bool, true, false, cond, ◌&&◌, ◌||◌, and-true}
use mathlib.Core.List.{List, [], ◌∷◌}
use mathlib.Core.Option.{none, some}
use Prim.Native.Nat.{ℕ, zero, suc, ◌+◌, ◌-◌, ◌≤◌, ◌<◌}
use native.Mathlib.Nat.{add-zero}
use native.Mathlib.Omega.{arith}
use borrow.Author.Tests.{ltb-true, ltb-false, lt-ltb, le-ltb, le-leb, eqb-true, eqb-false, ne_eqb}
use lib.Dec.{eqb, leb, ltb}
use lib.ListN.{length, get_or, drop, length-append}
use lib.Seq.{drop-drop}
use Rattle.star_text.specs.Bytes.{leading}
use Rattle.star_text.proofs.Bytes.{run-passes}
use Rattle.star_text.proofs.Run.{never}
use Rattle.star_lex.specs.Split.{starts}
use Rattle.star_lex.specs.Table.{or_empty}
use Rattle.star_lex.proofs.Closing.{starts-end}
use Rattle.star_number.specs.Pieces.{Sign, unsigned, plus, minus, sign_bytes, fraction_bytes, exponent_bytes, is_digit, is_letter, some_digits, exponent_formed}
use Rattle.star_number.specs.Number.{extended, whole_number}
use Rattle.star_number.specs.Taken.{sign_at, after_sign, fraction_at, exponent_at}
use Rattle.star_number.specs.Held.{ExponentRun, most_counted, digits_held, fraction_held, is_minus, letter_next, exponent_minus, exponent_whole, exponent_held}
use Rattle.star_number.specs.declared.scan.Run.{Run}
use Rattle.star_number.specs.declared.scan.FractionRun.{FractionRun}
use Rattle.star_number.proofs.Counting.{counted-small}

-- a byte that stands at a place stands inside
pub inside : (b : ℕ) (content : List ℕ) (at : ℕ) → starts b (drop at content) ≡ true → at < length content
inside b content at e = by (ltb at (length content)) refl
  where
    by : (t : Bool) → ltb at (length content) ≡ t → at < length content
    by true q = ltb-true at (length content) q
    by false q = never (sym (starts-end content at b (ltb-false at (length content) q)) ∙ e)

fraction-same : {a b m n v w : ℕ} → a ≡ b → m ≡ n → v ≡ w
    → ◌≡◌ {A = FractionRun} (record { end = a; after = m; value = v }) (record { end = b; after = n; value = w })
fraction-same p q r = rw (p, q, r)

module _ (content : List ℕ) (at value : ℕ) where
  pub fraction-none : value ≤ most_counted → starts 46 (drop at content) ≡ false
      → fraction_held value at (fraction_at (drop at content)) ≡ record { end = at; after = 0; value = value }
  unfolding fraction_held fraction_at fraction_bytes or_empty extended
  fraction-none h e = rw e (fraction-same (add-zero at) refl (counted-small value h))

  -- with the digits after a point
  pub fraction-some : starts 46 (drop at content) ≡ true → (r : Run) → r ≡ digits_held value (at + 1) (drop (at + 1) content)
      → (at + 1 ≤ r.end)
      × (fraction_held value at (fraction_at (drop at content)) ≡ record { end = r.end; after = r.end - (at + 1); value = r.value })
  unfolding fraction_held fraction_at fraction_bytes or_empty digits_held
  fraction-some e r q =
      let ds : List ℕ = leading is_digit (drop (at + 1) content) in
      rw (q, e, drop-drop 1 at content)
      (omega arith, fraction-same (omega arith) (omega arith) refl)

exponent_same : {s t m n : Bool} {a b v w : ℕ} → s ≡ t → a ≡ b → m ≡ n → v ≡ w
    → ◌≡◌ {A = ExponentRun} (record { ok = s; end = a; negative = m; value = v }) (record { ok = t; end = b; negative = n; value = w })
exponent_same p q r u = rw (p, q, r, u)

pub minus-at : (bs : List ℕ) → starts 45 bs ≡ is_minus (sign_at bs)
unfolding starts sign_at is_minus
minus-at [] = refl
minus-at (b ∷ bs) = by (eqb b 43) refl
  where
    rest : (t : Bool) → t ≡ is_minus (cond t minus unsigned)
    rest true = refl
    rest false = refl

    by : (t : Bool) → eqb b 43 ≡ t → eqb b 45 ≡ is_minus (cond t plus (cond (eqb b 45) minus unsigned))
    by true e = ne_eqb b 45 (λ q. eqb-false 43 45 refl (sym (eqb-true b 43 e) ∙ q))
    by false e = rest (eqb b 45)

-- an exponent by its letter and what follows it
letter-none : (bs : List ℕ) → letter_next bs ≡ false → exponent_at bs ≡ none
unfolding letter_next exponent_at
letter-none [] e = refl
letter-none (b ∷ bs) e = rw e

letter-some : (bs : List ℕ) → letter_next bs ≡ true
    → exponent_at bs ≡ some (record { letter = get_or bs 0 0; sign = sign_at (drop 1 bs); digits = leading is_digit (after_sign (drop 1 bs)) })
unfolding letter_next exponent_at
letter-some [] e = never e
letter-some (b ∷ bs) e = rw e

letter-byte : (bs : List ℕ) → letter_next bs ≡ true → is_letter (get_or bs 0 0) ≡ true
unfolding letter_next
letter-byte [] e = never e
letter-byte (b ∷ bs) e = e

pub letter-next : (bs : List ℕ) → (starts 101 bs || starts 69 bs) ≡ letter_next bs
unfolding starts letter_next is_letter
letter-next [] = refl
letter-next (b ∷ bs) = refl

pub letter-inside : (content : List ℕ) (at : ℕ) → letter_next (drop at content) ≡ true → at < length content
letter-inside content at e = by (starts 101 (drop at content)) refl (letter-next (drop at content) ∙ e)
  where
    by : (t : Bool) → starts 101 (drop at content) ≡ t → (starts 101 (drop at content) || starts 69 (drop at content)) ≡ true → at < length content
    by true q f = inside 101 content at q
    by false q f = inside 69 content at (rw q at f)

pub sign-length-le : (bs : List ℕ) → length (sign_bytes (sign_at bs)) ≤ 1
unfolding sign_bytes
sign-length-le bs = by (sign_at bs)
  where
    by : (s : Sign) → length (sign_bytes s) ≤ 1
    by unsigned = omega arith
    by plus = omega arith
    by minus = omega arith

-- a sign at the front of bytes is within them
pub sign-within : (bs : List ℕ) → length (sign_bytes (sign_at bs)) ≤ length bs
unfolding sign_bytes sign_at starts
sign-within [] = omega arith
sign-within (b ∷ bs) = by (sign_at (b ∷ bs))
  where
    by : (s : Sign) → length (sign_bytes s) ≤ suc (length bs)
    by unsigned = omega arith
    by plus = omega arith
    by minus = omega arith

-- a run of some digits ends after where it begins
run-some : (from n : ℕ) → (leb 1 n && true) ≡ ltb from (from + n)
run-some from n = and-true (leb 1 n) ∙ by n
  where
    by : (n : ℕ) → leb 1 n ≡ ltb from (from + n)
    by zero = sym (le-ltb from (from + 0) (omega arith))
    by (suc n) = le-leb 1 (suc n) (omega arith) ∙ sym (lt-ltb from (from + suc n) (omega arith))

module _ (content : List ℕ) (at : ℕ) where
  pub exponent-none : letter_next (drop at content) ≡ false
      → exponent_held at (exponent_at (drop at content)) ≡ record { ok = true; end = at; negative = false; value = 0 }
  unfolding exponent_held exponent_formed exponent_bytes exponent_minus exponent_whole
  exponent-none e = rw (letter-none (drop at content) e) (exponent_same refl (add-zero at) refl (counted-small 0 (omega arith)))

  pub exponent-some : letter_next (drop at content) ≡ true → (from : ℕ) → from ≡ at + 1 + length (sign_bytes (sign_at (drop (at + 1) content)))
      → (r : Run) → r ≡ digits_held 0 from (drop from content)
      → exponent_held at (exponent_at (drop at content)) ≡ record { ok = ltb from r.end; end = r.end; negative = starts 45 (drop (at + 1) content); value = r.value }
  unfolding exponent_held exponent_formed exponent_bytes exponent_minus exponent_whole some_digits whole_number digits_held after_sign
  exponent-some e from f r q =
      let s : Sign = sign_at (drop (at + 1) content) in
      let ds : List ℕ = leading is_digit (drop from content) in
      let d : drop (length (sign_bytes s)) (drop (at + 1) content) ≡ drop from content = drop-drop (length (sign_bytes s)) (at + 1) content ∙ ap (λ n. drop n content) (sym f) in
      rw (letter-some (drop at content) e, drop-drop 1 at content, d, letter-byte (drop at content) e, q)
      (exponent_same
      (rw (run-passes is_digit (drop from content)) (run-some from (length ds)))
      (omega (arith, length-append (sign_bytes s) ds))
      (sym (minus-at (drop (at + 1) content)))
      refl)
