-- A content that is pieces is taken apart into them, and what it is taken apart into is pieces of it.
use mathlib.Core.Path.{◌≡◌, refl, sym, ◌∙◌, ap}
use mathlib.Core.Bool.{Bool, true, false, cond, ◌&&◌, ◌||◌}
use mathlib.Core.Logic.{◌⊎◌, inl, inr}
use mathlib.Core.List.{List, [], ◌∷◌, ◌++◌, append_assoc, append-nil}
use mathlib.Core.Option.{Option, none, some, some-injective}
use Prim.Native.Nat.{ℕ, ◌≤◌}
use borrow.Author.Tests.{eqb-true, leb-true, ne_eqb}
use lib.Dec.{eqb, leb}
use lib.ListN.{length, drop, length-append}
use lib.Seq.{drop-append_seam, drop-drop}
use Rattle.star_text.specs.Bytes.{all, leading}
use Rattle.star_text.proofs.Bytes.{all_head, all_append, run-append, run-all, run-passes, run-append-drop}
use Rattle.star_text.proofs.Run.{never}
use Rattle.star_text.proofs.Cases.{impossible, cond_cases, both}
use Rattle.star_lex.specs.Split.{starts}
use Rattle.star_lex.specs.Table.{or_empty}
use Rattle.star_number.specs.Pieces.{Sign, unsigned, plus, minus, sign_bytes, Exponent, Pieces, fraction_bytes, exponent_bytes, bracket_bytes, bytes_of, is_digit, some_digits, is_letter, digits_of, exponent_formed, bracket_formed, formed, Written}
use Rattle.star_number.specs.Taken.{sign_at, after_sign, fraction_at, exponent_at, front, is_single, bracket_at, with_bracket, taken}

-- ---- what follows a piece does not go on with it

-- the first byte passes a test
unfoldable pub first : (ℕ → Bool) → List ℕ → Bool
first p [] = false
first p (b ∷ bs) = p b

digits-stop : (ds r : List ℕ) → all is_digit ds ≡ true → first is_digit r ≡ false → leading is_digit (ds ++ r) ≡ ds
unfolding first
digits-stop ds [] e f = rw (append-nil ds) (run-all is_digit ds e)
digits-stop ds (b ∷ bs) e f = run-append is_digit ds b bs e f

not_digit : (b k : ℕ) → is_digit b ≡ true → is_digit k ≡ false → eqb b k ≡ false
not_digit b k e f = ne_eqb b k (λ q. never (sym f ∙ (rw q at e)))

some-digits : (ds : List ℕ) → some_digits ds ≡ true → (1 ≤ length ds) × (all is_digit ds ≡ true)
unfolding some_digits
some-digits ds e =
    let (l, a) = both (leb 1 (length ds)) (all is_digit ds) e in
    (leb-true 1 (length ds) l, a)

-- digits do not begin with a byte that is none
digits-start : (k : ℕ) (ds r : List ℕ) → is_digit k ≡ false → some_digits ds ≡ true → starts k (ds ++ r) ≡ false
unfolding some_digits starts
digits-start k [] r f e = never e
digits-start k (d ∷ ds) r f e = not_digit d k (all_head is_digit d ds (some-digits (d ∷ ds) e).1) f

sign-stop : (s : Sign) (r : List ℕ) → starts 43 r ≡ false → starts 45 r ≡ false → sign_at (sign_bytes s ++ r) ≡ s
unfolding sign_at sign_bytes starts
sign-stop unsigned r p m = rw (p, m)
sign-stop plus r p m = refl
sign-stop minus r p m = refl

after-sign : (s : Sign) (r : List ℕ) → starts 43 r ≡ false → starts 45 r ≡ false → after_sign (sign_bytes s ++ r) ≡ r
unfolding after_sign
after-sign s r p m = rw (sign-stop s r p m) (drop-append_seam (sign_bytes s) r)

-- ---- pieces, each before what may follow it

-- what may follow an exponent: nothing, or a bracket
module _ (ds : Option (List ℕ)) where
  bracket-digit : first is_digit (bracket_bytes ds) ≡ false
  unfolding first bracket_bytes is_digit
  bracket-digit = by ds
    where
      by : (o : Option (List ℕ)) → first is_digit (bracket_bytes o) ≡ false
      by none = refl
      by (some ds) = refl

  bracket-point : starts 46 (bracket_bytes ds) ≡ false
  unfolding starts bracket_bytes
  bracket-point = by ds
    where
      by : (o : Option (List ℕ)) → starts 46 (bracket_bytes o) ≡ false
      by none = refl
      by (some ds) = refl

  bracket-letter : exponent_at (bracket_bytes ds) ≡ none
  unfolding exponent_at bracket_bytes is_letter
  bracket-letter = by ds
    where
      by : (o : Option (List ℕ)) → exponent_at (bracket_bytes o) ≡ none
      by none = refl
      by (some ds) = refl

letter-cases : (b : ℕ) → is_letter b ≡ true → (b ≡ 101) ⊎ (b ≡ 69)
unfolding is_letter
letter-cases b e = go (eqb b 101) refl e
  where
    go : (t : Bool) → eqb b 101 ≡ t → (t || eqb b 69) ≡ true → (b ≡ 101) ⊎ (b ≡ 69)
    go true q f = inl (eqb-true b 101 q)
    go false q f = inr (eqb-true b 69 f)

-- a letter of an exponent is no digit and no point
letter-apart : (b : ℕ) → is_letter b ≡ true → (p : ℕ → Bool) → p 101 ≡ false → p 69 ≡ false → p b ≡ false
letter-apart b e p f g = go (letter-cases b e)
  where
    go : (b ≡ 101) ⊎ (b ≡ 69) → p b ≡ false
    go (inl q) = rw q f
    go (inr q) = rw q g

exponent-parts : (x : Exponent) → exponent_formed (some x) ≡ true → (is_letter x.letter ≡ true) × (some_digits x.digits ≡ true)
unfolding exponent_formed
exponent-parts x e = both (is_letter x.letter) (some_digits x.digits) e

module _ (x : Option Exponent) (ds : Option (List ℕ)) (e : exponent_formed x ≡ true) where
  exponent-digit : first is_digit (exponent_bytes x ++ bracket_bytes ds) ≡ false
  unfolding first exponent_bytes exponent_formed is_digit
  exponent-digit = by x e
    where
      by : (x : Option Exponent) → exponent_formed x ≡ true → first is_digit (exponent_bytes x ++ bracket_bytes ds) ≡ false
      by none e = bracket-digit ds
      by (some x) e = letter-apart x.letter (exponent-parts x e).0 is_digit refl refl

  exponent-point : starts 46 (exponent_bytes x ++ bracket_bytes ds) ≡ false
  unfolding starts exponent_bytes exponent_formed
  exponent-point = by x e
    where
      by : (x : Option Exponent) → exponent_formed x ≡ true → starts 46 (exponent_bytes x ++ bracket_bytes ds) ≡ false
      by none e = bracket-point ds
      by (some x) e = letter-apart x.letter (exponent-parts x e).0 (λ b. eqb b 46) refl refl

  exponent-stop : exponent_at (exponent_bytes x ++ bracket_bytes ds) ≡ x
  unfolding exponent_at exponent_bytes exponent_formed is_digit
  exponent-stop = by x e
    where
      by : (x : Option Exponent) → exponent_formed x ≡ true → exponent_at (exponent_bytes x ++ bracket_bytes ds) ≡ x
      by none e = bracket-letter ds
      by (some x) e =
          let l : is_letter x.letter ≡ true = (exponent-parts x e).0 in
          let s : some_digits x.digits ≡ true = (exponent-parts x e).1 in
          let p : starts 43 (x.digits ++ bracket_bytes ds) ≡ false = digits-start 43 x.digits (bracket_bytes ds) refl s in
          let m : starts 45 (x.digits ++ bracket_bytes ds) ≡ false = digits-start 45 x.digits (bracket_bytes ds) refl s in
          rw (l, append_assoc (sign_bytes x.sign) x.digits (bracket_bytes ds), sign-stop x.sign (x.digits ++ bracket_bytes ds) p m, after-sign x.sign (x.digits ++ bracket_bytes ds) p m, digits-stop x.digits (bracket_bytes ds) (some-digits x.digits s).1 (bracket-digit ds))

-- digits, those after the point too
whole-digits : (w : List ℕ) (f : Option (List ℕ)) → some_digits (w ++ or_empty f) ≡ true → (all is_digit w ≡ true) × (all is_digit (or_empty f) ≡ true)
whole-digits w f e = both (all is_digit w) (all is_digit (or_empty f)) (sym (all_append is_digit w (or_empty f)) ∙ (some-digits (w ++ or_empty f) e).1)

module _ (w : List ℕ) (f : Option (List ℕ)) (x : Option Exponent) (ds : Option (List ℕ)) (d : some_digits (w ++ or_empty f) ≡ true)
    (e : exponent_formed x ≡ true) where
  fraction-digit : first is_digit (fraction_bytes f ++ (exponent_bytes x ++ bracket_bytes ds)) ≡ false
  unfolding first fraction_bytes is_digit
  fraction-digit = by f
    where
      by : (f : Option (List ℕ)) → first is_digit (fraction_bytes f ++ (exponent_bytes x ++ bracket_bytes ds)) ≡ false
      by none = exponent-digit x ds e
      by (some ds) = refl

  fraction-stop : fraction_at (fraction_bytes f ++ (exponent_bytes x ++ bracket_bytes ds)) ≡ f
  unfolding fraction_at fraction_bytes or_empty starts
  fraction-stop = by f (whole-digits w f d).1
    where
      by : (f : Option (List ℕ)) → all is_digit (or_empty f) ≡ true → fraction_at (fraction_bytes f ++ (exponent_bytes x ++ bracket_bytes ds)) ≡ f
      by none a = rw (exponent-point x ds e)
      by (some ds') a = rw (digits-stop ds' (exponent_bytes x ++ bracket_bytes ds) a (exponent-digit x ds e))

  whole-stop : leading is_digit (w ++ (fraction_bytes f ++ (exponent_bytes x ++ bracket_bytes ds))) ≡ w
  whole-stop = digits-stop w (fraction_bytes f ++ (exponent_bytes x ++ bracket_bytes ds)) (whole-digits w f d).0 fraction-digit

  -- digits with an optional point begin with a digit or the point
  number-start : (k : ℕ) → is_digit k ≡ false → eqb 46 k ≡ false → starts k (w ++ (fraction_bytes f ++ (exponent_bytes x ++ bracket_bytes ds))) ≡ false
  unfolding starts fraction_bytes or_empty some_digits
  number-start k n p = by w f d
    where
      by : (w : List ℕ) (f : Option (List ℕ)) → some_digits (w ++ or_empty f) ≡ true
          → starts k (w ++ (fraction_bytes f ++ (exponent_bytes x ++ bracket_bytes ds))) ≡ false
      by [] none d = never d
      by [] (some ds) d = p
      by (b ∷ bs) f d = not_digit b k (all_head is_digit b (bs ++ or_empty f) (some-digits (b ∷ (bs ++ or_empty f)) d).1) n

-- ---- taken apart

unbracketed : Pieces → Pieces
unbracketed p = record { sign = p.sign; whole = p.whole; fraction = p.fraction; exponent = p.exponent; bracket = none }

formed-parts : (p : Pieces) → formed p ≡ true → (some_digits (digits_of p) ≡ true) × ((exponent_formed p.exponent ≡ true) × (bracket_formed p.bracket ≡ true))
unfolding formed
formed-parts p e =
    let (d, r) = both (some_digits (digits_of p)) (exponent_formed p.exponent && bracket_formed p.bracket) e in
    (d, both (exponent_formed p.exponent) (bracket_formed p.bracket) r)

front_of : (p : Pieces) → formed p ≡ true → front (bytes_of p) ≡ unbracketed p
unfolding front bytes_of unbracketed digits_of is_digit
front_of p h =
    let d : some_digits (p.whole ++ or_empty p.fraction) ≡ true = (formed-parts p h).0 in
    let e : exponent_formed p.exponent ≡ true = (formed-parts p h).1.0 in
    let m : List ℕ = p.whole ++ (fraction_bytes p.fraction ++ (exponent_bytes p.exponent ++ bracket_bytes p.bracket)) in
    let a : starts 43 m ≡ false = number-start p.whole p.fraction p.exponent p.bracket d e 43 refl refl in
    let b : starts 45 m ≡ false = number-start p.whole p.fraction p.exponent p.bracket d e 45 refl refl in
    rw (
      sign-stop p.sign m a b,
      after-sign p.sign m a b,
      whole-stop p.whole p.fraction p.exponent p.bracket d e,
      drop-append_seam p.whole (fraction_bytes p.fraction ++ (exponent_bytes p.exponent ++ bracket_bytes p.bracket)),
      fraction-stop p.whole p.fraction p.exponent p.bracket d e,
      drop-append_seam (fraction_bytes p.fraction) (exponent_bytes p.exponent ++ bracket_bytes p.bracket),
      exponent-stop p.exponent p.bracket e,
    )

-- the bytes before the bracket, and those of it
bytes-split : (p : Pieces) → bytes_of p ≡ bytes_of (unbracketed p) ++ bracket_bytes p.bracket
unfolding bytes_of unbracketed bracket_bytes
bytes-split p = simp (append_assoc, append-nil)

pub single : (b : ℕ) (bs : List ℕ) → is_single b bs ≡ true → bs ≡ b ∷ []
unfolding is_single
single b [] e = never e
single b (c ∷ []) e = ap (λ x. x ∷ []) (eqb-true c b e)
single b (c ∷ d ∷ ds) e = never e

bracket-of : (ds : Option (List ℕ)) → bracket_formed ds ≡ true → bracket_at (bracket_bytes ds) ≡ some ds
unfolding bracket_at bracket_bytes bracket_formed some_digits first is_digit is_single
bracket-of none e = refl
bracket-of (some ds) e =
    let (l, a) = both (leb 1 (length ds)) (all is_digit ds) e in
    rw (digits-stop ds (41 ∷ []) a refl, l, drop-append_seam ds (41 ∷ []))

formed-unbracketed : (p : Pieces) → formed p ≡ true → formed (unbracketed p) ≡ true
unfolding formed unbracketed digits_of bracket_formed
formed-unbracketed p h = rw ((formed-parts p h).0, (formed-parts p h).1.0)

pub taken_of : (p : Pieces) → formed p ≡ true → taken (bytes_of p) ≡ some p
unfolding taken unbracketed with_bracket
taken_of p h =
    rw (front_of p h, formed-unbracketed p h, bytes-split p, drop-append_seam (bytes_of (unbracketed p)) (bracket_bytes p.bracket), bracket-of p.bracket (formed-parts p h).1.1)

-- ---- what is taken is there

-- a list begins with a part
abbrev Leads : List ℕ → List ℕ → Type 0
Leads xs bs = xs ++ drop (length xs) bs ≡ bs

leads-append : (xs ys bs : List ℕ) → Leads xs bs → Leads ys (drop (length xs) bs) → Leads (xs ++ ys) bs
leads-append xs ys bs e f =
    rw (length-append xs ys, ← drop-drop (length ys) (length xs) bs, append_assoc xs ys (drop (length ys) (drop (length xs) bs)), f) e

sign-leads : (bs : List ℕ) → Leads (sign_bytes (sign_at bs)) bs
unfolding sign_at sign_bytes starts
sign-leads [] = refl
sign-leads (b ∷ bs) = by (eqb b 43) refl (eqb b 45) refl
  where
    by : (t : Bool) → eqb b 43 ≡ t → (u : Bool) → eqb b 45 ≡ u → Leads (sign_bytes (cond t plus (cond u minus unsigned))) (b ∷ bs)
    by true e u f = ap (λ x. x ∷ bs) (sym (eqb-true b 43 e))
    by false e true f = ap (λ x. x ∷ bs) (sym (eqb-true b 45 f))
    by false e false f = refl

digits-lead : (bs : List ℕ) → Leads (leading is_digit bs) bs
digits-lead bs = sym (run-append-drop is_digit bs)

fraction-leads : (bs : List ℕ) → Leads (fraction_bytes (fraction_at bs)) bs
unfolding fraction_at fraction_bytes starts
fraction-leads [] = refl
fraction-leads (b ∷ bs) = by (eqb b 46) refl
  where
    by : (t : Bool) → eqb b 46 ≡ t → Leads (fraction_bytes (cond t (some (leading is_digit bs)) none)) (b ∷ bs)
    by true e = rw (eqb-true b 46 e) (ap (λ r. 46 ∷ r) (digits-lead bs))
    by false e = refl

exponent-leads : (bs : List ℕ) → Leads (exponent_bytes (exponent_at bs)) bs
unfolding exponent_at exponent_bytes after_sign
exponent-leads [] = refl
exponent-leads (b ∷ bs) = by (is_letter b)
  where
    by : (t : Bool)
        → Leads (exponent_bytes (cond t (some (record { letter = b; sign = sign_at bs; digits = leading is_digit (after_sign bs) })) none)) (b ∷ bs)
    by true =
        ap (λ r. b ∷ r) (leads-append (sign_bytes (sign_at bs)) (leading is_digit (after_sign bs)) bs (sign-leads bs) (digits-lead (after_sign bs)))
    by false = refl

front-leads : (content : List ℕ) → Leads (bytes_of (front content)) content
unfolding front bytes_of bracket_bytes after_sign
front-leads content =
    let r : List ℕ = after_sign content in
    let w : List ℕ = leading is_digit r in
    let f : List ℕ = fraction_bytes (fraction_at (drop (length w) r)) in
    let x : List ℕ = exponent_bytes (exponent_at (drop (length f) (drop (length w) r))) in
    leads-append (sign_bytes (sign_at content)) (w ++ (f ++ (x ++ []))) content (sign-leads content)
    (leads-append w (f ++ (x ++ [])) r (digits-lead r)
    (leads-append f (x ++ []) (drop (length w) r) (fraction-leads (drop (length w) r))
    (rw (append-nil x) (exponent-leads (drop (length f) (drop (length w) r))))))

bracket-there : (b : ℕ) (bs : List ℕ) → (eqb b 40 && (leb 1 (length (leading is_digit bs)) && is_single 41 (drop (length (leading is_digit bs)) bs))) ≡ true
    → (bracket_bytes (some (leading is_digit bs)) ≡ b ∷ bs) × (bracket_formed (some (leading is_digit bs)) ≡ true)
unfolding bracket_bytes bracket_formed some_digits
bracket-there b bs t =
    let ds : List ℕ = leading is_digit bs in
    let (p, r) = both (eqb b 40) (leb 1 (length ds) && is_single 41 (drop (length ds) bs)) t in
    let (l, q) = both (leb 1 (length ds)) (is_single 41 (drop (length ds) bs)) r in (
      rw (← single 41 (drop (length ds) bs) q, eqb-true b 40 p) (ap (λ x. 40 ∷ x) (digits-lead bs)),
      rw (l, run-passes is_digit bs),
    )

bracket-bytes : (bs : List ℕ) (ds : Option (List ℕ)) → bracket_at bs ≡ some ds → (bracket_bytes ds ≡ bs) × (bracket_formed ds ≡ true)
unfolding bracket_at bracket_bytes bracket_formed
bracket-bytes [] none e = (refl, refl)
bracket-bytes [] (some ds) e = impossible cc
bracket-bytes (b ∷ bs) o e =
    let ds : List ℕ = leading is_digit bs in
    cond_cases (eqb b 40 && (leb 1 (length ds) && is_single 41 (drop (length ds) bs))) (some (some ds)) none (some o) e
    (λ t q. let q' : o ≡ some ds = cc in rw q' (bracket-there b bs t))
    (λ t q. impossible cc)

formed-with : (p : Pieces) (ds : Option (List ℕ)) → formed p ≡ true → bracket_formed ds ≡ true
    → formed (record { sign = p.sign; whole = p.whole; fraction = p.fraction; exponent = p.exponent; bracket = ds }) ≡ true
unfolding formed digits_of
formed-with p ds h b = rw ((formed-parts p h).0, (formed-parts p h).1.0, b)

written-with : (content : List ℕ) (ds : Option (List ℕ)) → formed (front content) ≡ true
    → bracket_at (drop (length (bytes_of (front content))) content) ≡ some ds
    → Written content (record {
      sign = (front content).sign;
      whole = (front content).whole;
      fraction = (front content).fraction;
      exponent = (front content).exponent;
      bracket = ds;
    })
unfolding unbracketed front
written-with content ds t f =
    let p : Pieces = front content in
    let b = bracket-bytes (drop (length (bytes_of p)) content) ds f in
    record {
      well_formed = formed-with p ds t b.1;
      bytes =
          bytes-split (record { sign = p.sign; whole = p.whole; fraction = p.fraction; exponent = p.exponent; bracket = ds })
          ∙ ap (λ x. bytes_of p ++ x) b.0
          ∙ front-leads content;
    }

pub taken-written : (content : List ℕ) (p : Pieces) → taken content ≡ some p → Written content p
unfolding taken with_bracket
taken-written content p e =
    let q : Pieces = front content in
    cond_cases (formed q) (with_bracket q (bracket_at (drop (length (bytes_of q)) content))) none (some p) e
    (λ t r. by t (bracket_at (drop (length (bytes_of q)) content)) refl r)
    (λ t r. impossible cc)
  where
    by : formed (front content) ≡ true → (o : Option (Option (List ℕ))) → bracket_at (drop (length (bytes_of (front content))) content) ≡ o
        → with_bracket (front content) o ≡ some p → Written content p
    by t none f r = impossible cc
    by t (some ds) f r = rw (← some-injective _ _ r) (written-with content ds t f)
