-- Laws of the decimal digits: how they go on, how many there are, and what they spell.
use mathlib.Core.Path.{◌≡◌, refl, ◌∙◌, ap}
use mathlib.Core.Bool.{Bool, true, false}
use mathlib.Core.List.{List, [], ◌∷◌, ◌++◌}
use Prim.Native.Nat.{ℕ, zero, suc, ◌+◌, ◌-◌, ◌*◌, ◌/◌, ◌%◌, ◌≤◌, ◌<◌}
use native.Mathlib.Omega.{arith}
use borrow.Author.Tests.{ltb-true, ltb-false, lt-ltb, le-ltb}
use lib.Dec.{ltb}
use lib.ListN.{length, get_or, length-append}
use Rattle.star_lex.proofs.Each.{each_append}
use Rattle.star_list.specs.Decimal.{digits, decimal, worth, Spells}

-- any bound that is large enough gives the same digits
digits-enough : (f g n : ℕ) → n < f → n < g → digits f n ≡ digits g n
unfolding digits
digits-enough zero g n h k = absurd (omega arith)
digits-enough (suc f) zero n h k = absurd (omega arith)
digits-enough (suc f) (suc g) n h k = by_test (λ l m. digits-enough f g (n / 10) l m) (ltb n 10) refl
  where
    by_test : (n / 10 < f → n / 10 < g → digits f (n / 10) ≡ digits g (n / 10)) → (t : Bool) → ltb n 10 ≡ t → digits (suc f) n ≡ digits (suc g) n
    by_test rest true q = rw q
    by_test rest false q =
        let ten : 10 ≤ n = ltb-false n 10 q in
        rw q (ap (λ l. l ++ ((48 + n % 10) ∷ [])) (rest (omega arith) (omega arith)))

pub decimal-low : (n : ℕ) → n < 10 → decimal n ≡ (48 + n) ∷ []
unfolding decimal digits
decimal-low n h = rw (lt-ltb n 10 h)

pub decimal-high : (n : ℕ) → 10 ≤ n → decimal n ≡ decimal (n / 10) ++ ((48 + n % 10) ∷ [])
unfolding decimal digits
decimal-high n h = rw (le-ltb n 10 h) (ap (λ l. l ++ ((48 + n % 10) ∷ [])) (digits-enough n (suc (n / 10)) (n / 10) (omega arith) (omega arith)))

-- below ten there is one digit, and each further one takes ten times as many
pub one-digit : (n : ℕ) → n < 10 → length (decimal n) ≤ 1
one-digit n h = omega (arith, ap length (decimal-low n h))

pub more-digits : (most k : ℕ) → ((m : ℕ) → m < most → length (decimal m) ≤ k) → (n : ℕ) → n < most * 10 → 0 < k → length (decimal n) ≤ k + 1
more-digits most k f n h z = by_test (ltb n 10) refl
  where
    by_test : (t : Bool) → ltb n 10 ≡ t → length (decimal n) ≤ k + 1
    by_test true q = omega (arith, one-digit n (ltb-true n 10 q))
    by_test false q =
        omega (arith, simp length-append at (ap length (decimal-high n (ltb-false n 10 q))), f (n / 10) (omega arith))

pub four-digits : (n : ℕ) → n < 10000 → length (decimal n) ≤ 4
four-digits n h =
    more-digits 1000 3 (λ m g. more-digits 100 2 (λ l f. more-digits 10 1 one-digit l f (omega arith)) m g (omega arith)) n h (omega arith)

-- the digits spell the number
worth-snoc : (so : ℕ) (ds : List ℕ) (d : ℕ) → worth so (ds ++ (d ∷ [])) ≡ worth so ds * 10 + (d - 48)
unfolding worth
worth-snoc so [] d = refl
worth-snoc so (e ∷ ds) d = worth-snoc (so * 10 + (e - 48)) ds d

first-digit : (ds es : List ℕ) → get_or (ds ++ es) 0 48 ≡ 48 → get_or ds 0 48 ≡ 48
first-digit [] es h = refl
first-digit (d ∷ ds) es h = h

low-spells : (n : ℕ) → n < 10 → Spells ((48 + n) ∷ []) n
unfolding worth
low-spells n h = record {
  each = ((omega arith, omega arith), tt);
  value = omega arith;
  first = λ e. let z : n ≡ 0 = omega arith in (z, rw z);
}

high-spells : (n : ℕ) → 10 ≤ n → (ds : List ℕ) → Spells ds (n / 10) → Spells (ds ++ ((48 + n % 10) ∷ [])) n
high-spells n h ds s = record {
  each = (each_append _ ds ((48 + n % 10) ∷ [])).1 (s.each, ((omega arith, omega arith), tt));
  value = worth-snoc 0 ds (48 + n % 10) ∙ omega (arith, s.value);
  first = λ e. absurd (omega (arith, (s.first (first-digit ds _ e)).0));
}

digits-spell : (f n : ℕ) → n < f → Spells (digits f n) n
unfolding digits
digits-spell zero n h = absurd (omega arith)
digits-spell (suc f) n h = by_test (λ l. digits-spell f (n / 10) l) (ltb n 10) refl
  where
    by_test : (n / 10 < f → Spells (digits f (n / 10)) (n / 10)) → (t : Bool) → ltb n 10 ≡ t → Spells (digits (suc f) n) n
    by_test rest true q = rw q (low-spells n (ltb-true n 10 q))
    by_test rest false q =
        let ten : 10 ≤ n = ltb-false n 10 q in
        rw q (high-spells n ten (digits f (n / 10)) (rest (omega arith)))

pub decimal-spells : (n : ℕ) → Spells (decimal n) n
unfolding decimal
decimal-spells n = digits-spell (suc n) n (omega arith)
