-- A value is a number exactly when its content is pieces of one: `number-exact` and `number-pieces`.
use mathlib.Core.Path.{◌≡◌, refl, sym, ◌∙◌, ap}
use mathlib.Core.Bool.{Bool, true, false, cond, ◌&&◌}
use mathlib.Core.List.{List, [], ◌∷◌}
use mathlib.Core.Option.{Option, none, some, some-injective}
use Prim.Native.Nat.{ℕ}
use borrow.Author.Tests.{eqb-true, eqb-false, eq-eqb, ne_eqb}
use lib.Dec.{eqb}
use lib.IntN.{ℤ}
use Rattle.star_text.proofs.Run.{never}
use Rattle.star_text.specs.Bytes.{leading}
use Rattle.star_lex.specs.Split.{starts}
use Rattle.star_lex.specs.Table.{or_empty}
use Rattle.star_number.specs.Pieces.{Sign, Pieces, sign_bytes, is_digit, some_digits, digits_of, formed, Written}
use Rattle.star_number.specs.Number.{whole_number, power, scaled, signed, in_range, number_over, number_of, Says, number, unknown, not_applicable, other_word, other_kind}
use Rattle.star_number.specs.Taken.{sign_at, after_sign, fraction_at, front, is_single, taken, word_number, number_in}
use Rattle.star_number.specs.Demands.{IsNumber, float, uncertain, too_wide, NumberExact, NumberPieces}
use Rattle.star_number.specs.declared.Number.{Number}
use Rattle.star_number.specs.declared.Number.TheVariants.{Float, Uncertain, Unknown, NotApplicable, TooWide, Text}
use Rattle.star_number.proofs.Apart.{single, taken_of, taken-written}

taken_as : (content : List ℕ) (p : Pieces) → Written content p → taken content ≡ some p
taken_as content p w = rw (← w.bytes) (taken_of p w.well_formed)

pub number-pieces : NumberPieces
number-pieces content p q w v = some-injective p q (sym (taken_as content p w) ∙ taken_as content q v)

-- ---- the answer is what the value says

not_written : (content : List ℕ) → taken content ≡ none → (p : Pieces) → Written content p → ⊥
not_written content e p w = never (ap is_none (sym (taken_as content p w) ∙ e))
  where
    is_none : Option Pieces → Bool
    is_none none = true
    is_none (some p) = false

-- `?` and `.` are no pieces
mark-apart : (b : ℕ) (content : List ℕ) (p : Pieces) → taken (b ∷ []) ≡ none → Written content p → is_single b content ≡ false
mark-apart b content p e w = by (is_single b content) refl
  where
    by : (t : Bool) → is_single b content ≡ t → t ≡ false
    by true q = absurd (not_written content (rw (single b content q) e) p w)
    by false q = refl

unknown-none : taken (63 ∷ []) ≡ none
unfolding taken formed some_digits digits_of front leading after_sign sign_bytes sign_at starts is_digit or_empty fraction_at
unknown-none = refl

inapplicable-none : taken (46 ∷ []) ≡ none
unfolding taken formed some_digits digits_of front leading after_sign sign_bytes sign_at starts is_digit or_empty fraction_at
inapplicable-none = refl

pub number-of-pieces : (content : List ℕ) (p : Pieces) → Written content p → number_in 7 content ≡ number_of p
unfolding number_in word_number
number-of-pieces content p w =
    rw (mark-apart 63 content p unknown-none w, mark-apart 46 content p inapplicable-none w, taken_as content p w)

other : (kind : ℕ) (content : List ℕ) → (kind ≡ 7 → ⊥) → number_in kind content ≡ Text
unfolding number_in
other kind content h = rw (ne_eqb kind 7 h)

single-not : (b : ℕ) (content : List ℕ) → is_single b content ≡ false → content ≡ b ∷ [] → ⊥
unfolding is_single
single-not b content e q = never (sym (rw q at e) ∙ eq-eqb b b refl)

says-word : (content : List ℕ) → Says 7 content (number_in 7 content)
unfolding number_in word_number
says-word content = marks (is_single 63 content) refl (is_single 46 content) refl
  where
    word : (o : Option Pieces) → taken content ≡ o → is_single 63 content ≡ false → is_single 46 content ≡ false → Says 7 content (word_number o)
    word none e f g = other_word content (not_written content e) (single-not 63 content f) (single-not 46 content g)
    word (some p) e f g = number content p (taken-written content p e)

    marks : (t : Bool) → is_single 63 content ≡ t → (u : Bool) → is_single 46 content ≡ u
        → Says 7 content (cond t Unknown (cond u NotApplicable (word_number (taken content))))
    marks true e u f = rw (single 63 content e) unknown
    marks false e true f = rw (single 46 content f) not_applicable
    marks false e false f = word (taken content) refl e f

says : (kind : ℕ) (content : List ℕ) → Says kind content (number_in kind content)
says kind content = by (eqb kind 7) refl
  where
    by : (t : Bool) → eqb kind 7 ≡ t → Says kind content (number_in kind content)
    by false e = rw (other kind content (eqb-false kind 7 e)) (other_kind kind content (eqb-false kind 7 e))
    by true e = rw (eqb-true kind 7 e) (says-word content)

other_text : (content : List ℕ) → ((p : Pieces) → Written content p → ⊥) → (content ≡ 63 ∷ [] → ⊥) → (content ≡ 46 ∷ [] → ⊥) → number_in 7 content ≡ Text
unfolding number_in word_number
other_text content f g h = marks (is_single 63 content) refl (is_single 46 content) refl
  where
    word : (o : Option Pieces) → taken content ≡ o → word_number o ≡ Text
    word none e = refl
    word (some p) e = absurd (f p (taken-written content p e))

    marks : (t : Bool) → is_single 63 content ≡ t → (u : Bool) → is_single 46 content ≡ u
        → cond t Unknown (cond u NotApplicable (word_number (taken content))) ≡ Text
    marks true e u q = absurd (g (single 63 content e))
    marks false e true q = absurd (h (single 46 content q))
    marks false e false q = word (taken content) refl

-- and it says nothing else
says-only : (kind : ℕ) (content : List ℕ) (n : Number) → Says kind content n → number_in kind content ≡ n
unfolding number_in is_single
says-only _ _ _ (number content p w) = number-of-pieces content p w
says-only _ _ _ unknown = refl
says-only _ _ _ not_applicable = refl
says-only _ _ _ (other_word content f g h) = other_text content f g h
says-only _ _ _ (other_kind kind content h) = other kind content h

-- ---- numbers

is-number : (p : Pieces) → IsNumber (number_of p)
unfolding number_of number_over
is-number p = by p.sign (whole_number (digits_of p)) (power p) p.bracket
  where
    chosen : (t : Bool) (n : Number) → IsNumber n → IsNumber (cond t n TooWide)
    chosen true n h = h
    chosen false n h = too_wide

    by : (s : Sign) (m : ℕ) (e : ℤ) (o : Option (List ℕ)) → IsNumber (number_over s m e o)
    by s m e none = chosen (in_range m e) (Float (signed s (scaled m e))) (float (signed s (scaled m e)))
    by s m e (some ds) =
        chosen (in_range m e && in_range (whole_number ds) e) (Uncertain (signed s (scaled m e)) (scaled (whole_number ds) e))
        (uncertain (signed s (scaled m e)) (scaled (whole_number ds) e))

-- the answers that are no numbers
abbrev is_number : Number → Bool
is_number (Float x) = true
is_number (Uncertain x u) = true
is_number Unknown = false
is_number NotApplicable = false
is_number TooWide = true
is_number Text = false

number-told : (n : Number) → IsNumber n → is_number n ≡ true
number-told _ (float x) = refl
number-told _ (uncertain x u) = refl
number-told _ too_wide = refl

has-pieces : (kind : ℕ) (content : List ℕ) (n : Number) → Says kind content n → IsNumber n → (kind ≡ 7) × ((p : Pieces) × Written content p)
has-pieces _ _ _ (number content p w) h = (refl, (p, w))
has-pieces _ _ _ unknown h = never (number-told Unknown h)
has-pieces _ _ _ not_applicable h = never (number-told NotApplicable h)
has-pieces _ _ _ (other_word content f g k) h = never (number-told Text h)
has-pieces _ _ _ (other_kind kind content f) h = never (number-told Text h)

pieces-number : (kind : ℕ) (content : List ℕ) (p : Pieces) → kind ≡ 7 → Written content p → number_in kind content ≡ number_of p
pieces-number kind content p e w = rw e (number-of-pieces content p w)

pub number-exact : NumberExact
number-exact kind content = (
  (
    λ h. has-pieces kind content (number_in kind content) (says kind content) h,
    λ w. rw (pieces-number kind content w.1.0 w.0 w.1.1) (is-number w.1.0),
  ),
  (
    λ p e w. pieces-number kind content p e w,
    λ n. (λ e. rw e at (says kind content), λ s. says-only kind content n s),
  ),
)
