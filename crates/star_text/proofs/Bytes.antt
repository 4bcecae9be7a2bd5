-- Laws of the byte classes and of `all` and `leading`: the classes compare a byte with numbers, so they follow by arithmetic; the others by
-- induction on the list.
use Rattle.std.proofs.Common.{◌≡◌, ℕ, suc, ◌≤◌, Bool, true, false, cond, not, ◌&&◌, eqb, leb, ◌≢◌, List, [], ◌∷◌, ◌++◌, length, drop, sym, refl, ap, ◌∙◌, true≢false, arith, eq-eqb, ne_eqb, eqb-true, le-leb, leb-true}
use mathlib.Core.Bool.{and-eq-true_iff, and_assoc}
use mathlib.Mathlib.Data.Bool.Basic.{or-eq-false-eq-eq-false-and-eq-false}
use borrow.Author.Tests.{eqb-false, lt-leb}
use Rattle.star_text.specs.Bytes.{is_blank, is_terminate, is_white, is_printable, is_allowed, all, leading}

pub eqb_comm : (a b : ℕ) → eqb a b ≡ eqb b a
eqb_comm a b = go (eqb a b) refl
  where
    go : (t : Bool) → eqb a b ≡ t → t ≡ eqb b a
    go true e = sym (eq-eqb b a (sym (eqb-true a b e)))
    go false e = sym (ne_eqb b a (λ q. eqb-false a b e (sym q)))

pub printable-not-white : (b : ℕ) → is_printable b ≡ true → is_white b ≡ false
unfolding is_printable is_white is_blank is_terminate
printable-not-white b e =
    let h : 33 ≤ b = leb-true 33 b ((and-eq-true_iff (leb 33 b) (leb b 126)).0 e).0 in
    rw (
      ne_eqb b 9 (λ q. omega arith),
      ne_eqb b 10 (λ q. omega arith),
      ne_eqb b 11 (λ q. omega arith),
      ne_eqb b 12 (λ q. omega arith),
      ne_eqb b 13 (λ q. omega arith),
      ne_eqb b 32 (λ q. omega arith),
    )

pub printable-allowed : (b : ℕ) → is_printable b ≡ true → is_allowed b ≡ true
unfolding is_printable is_allowed
printable-allowed b e =
    let (l, k) = (and-eq-true_iff (leb 33 b) (leb b 126)).0 e in
    let h : 33 ≤ b = leb-true 33 b l in
    rw (le-leb 9 b (omega arith), lt-leb b 13 (omega arith), le-leb 32 b (omega arith), k)

pub not-white-not-terminate : (b : ℕ) → is_white b ≡ false → is_terminate b ≡ false
unfolding is_white
not-white-not-terminate b e = ((or-eq-false-eq-eq-false-and-eq-false (is_blank b) (is_terminate b)).0 e).1

pub allowed-printable : (b : ℕ) → is_allowed b ≡ true → is_white b ≡ false → is_printable b ≡ true
unfolding is_printable is_allowed is_white is_blank is_terminate
allowed-printable b e w = go (leb 9 b && leb b 13) refl
  where
    off : (k : ℕ) → is_white k ≡ true → b ≢ k
    off k t q = true≢false (sym t ∙ (rw q at w))

    go : (t : Bool) → (leb 9 b && leb b 13) ≡ t → is_printable b ≡ true
    go true q =
        let (l, h) = (and-eq-true_iff (leb 9 b) (leb b 13)).0 q in
        absurd (omega (arith, leb-true 9 b l, leb-true b 13 h, off 9 refl, off 10 refl, off 11 refl, off 12 refl, off 13 refl))
    go false q =
        let (l, h) = (and-eq-true_iff (leb 32 b) (leb b 126)).0 (rw q at e) in
        rw (le-leb 33 b (omega (arith, leb-true 32 b l, off 32 refl)), h)

module _ (p : ℕ → Bool) where
  pub all_head : (x : ℕ) (xs : List ℕ) → all p (x ∷ xs) ≡ true → p x ≡ true
  unfolding all
  all_head x xs e = ((and-eq-true_iff (p x) (all p xs)).0 e).0

  pub all_tail : (x : ℕ) (xs : List ℕ) → all p (x ∷ xs) ≡ true → all p xs ≡ true
  unfolding all
  all_tail x xs e = ((and-eq-true_iff (p x) (all p xs)).0 e).1

  pub all_append : (xs ys : List ℕ) → all p (xs ++ ys) ≡ (all p xs && all p ys)
  unfolding all
  all_append [] ys = refl
  all_append (x ∷ xs) ys = rw (all_append xs ys) (sym (and_assoc (p x) (all p xs) (all p ys)))

  pub all-cond : (t : Bool) (xs ys : List ℕ) → all p xs ≡ true → all p ys ≡ true → all p (cond t xs ys) ≡ true
  all-cond true xs ys e f = e
  all-cond false xs ys e f = f

  pub all-implies : (q : ℕ → Bool) → ((b : ℕ) → p b ≡ true → q b ≡ true) → (xs : List ℕ) → all p xs ≡ true → all q xs ≡ true
  unfolding all
  all-implies q f [] e = refl
  all-implies q f (x ∷ xs) e = rw (f x (all_head x xs e), all-implies q f xs (all_tail x xs e))

  pub run-append : (xs : List ℕ) (b : ℕ) (ys : List ℕ) → all p xs ≡ true → p b ≡ false → leading p (xs ++ b ∷ ys) ≡ xs
  unfolding all leading
  run-append [] b ys e f = rw f
  run-append (x ∷ xs) b ys e f = rw (all_head x xs e, run-append xs b ys (all_tail x xs e) f)

  pub run-all : (xs : List ℕ) → all p xs ≡ true → leading p xs ≡ xs
  unfolding all leading
  run-all [] e = refl
  run-all (x ∷ xs) e = rw (all_head x xs e, run-all xs (all_tail x xs e))

  pub run-passes : (xs : List ℕ) → all p (leading p xs) ≡ true
  unfolding all leading
  run-passes [] = refl
  run-passes (x ∷ xs) = go (p x) refl (run-passes xs)
    where
      go : (t : Bool) → p x ≡ t → all p (leading p xs) ≡ true → all p (cond t (x ∷ leading p xs) []) ≡ true
      go true e h = rw (e, h)
      go false e h = refl

  pub run-append-drop : (xs : List ℕ) → xs ≡ leading p xs ++ drop (length (leading p xs)) xs
  unfolding leading
  run-append-drop [] = refl
  run-append-drop (x ∷ xs) = go (p x) (run-append-drop xs)
    where
      go : (t : Bool) → xs ≡ leading p xs ++ drop (length (leading p xs)) xs
          → x ∷ xs ≡ cond t (x ∷ leading p xs) [] ++ drop (length (cond t (x ∷ leading p xs) [])) (x ∷ xs)
      go true e = ap (λ r. x ∷ r) e
      go false e = refl

  pub all-of-run : (xs : List ℕ) → length xs ≤ length (leading p xs) → all p xs ≡ true
  unfolding all leading
  all-of-run [] h = refl
  all-of-run (x ∷ xs) h = go (all-of-run xs) (p x) h
    where
      go : (length xs ≤ length (leading p xs) → all p xs ≡ true) → (t : Bool) → suc (length xs) ≤ length (cond t (x ∷ leading p xs) [])
          → (t && all p xs) ≡ true
      go rest true h = rest (omega arith)
      go rest false h = absurd (omega arith)

-- the bytes of a word
pub all-printable-run : (xs : List ℕ) → all is_allowed xs ≡ true → all is_printable (leading (λ c. not (is_white c)) xs) ≡ true
unfolding all leading
all-printable-run [] e = refl
all-printable-run (x ∷ xs) e = go (is_white x) refl (all-printable-run xs (all_tail is_allowed x xs e))
  where
    go : (t : Bool) → is_white x ≡ t → all is_printable (leading (λ c. not (is_white c)) xs) ≡ true
        → all is_printable (cond (not t) (x ∷ leading (λ c. not (is_white c)) xs) []) ≡ true
    go true q h = refl
    go false q h = rw (allowed-printable x (all_head is_allowed x xs e) q, h)
