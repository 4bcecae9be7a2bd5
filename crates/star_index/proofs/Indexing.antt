-- The computed test of an index is the definition: every part of it, and all of them.
use mathlib.Core.Path.{◌≡◌, refl, ap, ◌∙◌}
use mathlib.Core.Bool.{Bool, true, false, cond, not, ◌&&◌, ◌||◌}
use mathlib.Core.List.{List, [], ◌∷◌}
use Prim.Native.Nat.{ℕ, zero, suc, ◌≤◌, ◌<◌}
use native.Mathlib.Omega.{arith}
use borrow.Author.Tests.{leb-true, leb-false, le-leb, lt-leb, ltb-true, lt-ltb, eqb-true, eqb-false, eq-eqb, ne_eqb}
use lib.Dec.{eqb, leb, ltb}
use lib.ListN.{length}
use Rattle.star_text.proofs.Cases.{both}
use Rattle.star_slots.specs.Slots.{slot_at}
use Rattle.star_index.specs.Index.{FromTo, JustOne, Indexed, all_below, is_from_to, occurrences, is_full, is_indexed}

-- two numbers are equal or not
pub by_equal {κ} : {P : Type κ} (a b : ℕ) → (a ≡ b → P) → ((a ≡ b → ⊥) → P) → P
by_equal {P = P} a b f g = go (eqb a b) refl
  where
    go : (t : Bool) → eqb a b ≡ t → P
    go true e = f (eqb-true a b e)
    go false e = g (eqb-false a b e)

-- tests that both hold
pub and_both : {s t : Bool} → s ≡ true → t ≡ true → (s && t) ≡ true
and_both e d = rw (e, d)

-- a test that holds of all numbers below one holds of each
pub all_true : (n : ℕ) (test : ℕ → Bool) → all_below n test ≡ true → (i : ℕ) → i < n → test i ≡ true
unfolding all_below
all_true zero test e i l = absurd (omega arith)
all_true (suc n) test e i l = go (eqb i n) refl (λ k. all_true n test (both (all_below n test) (test n) e).0 i k) (both (all_below n test) (test n) e).1
  where
    go : (t : Bool) → eqb i n ≡ t → (i < n → test i ≡ true) → test n ≡ true → test i ≡ true
    go true d earlier h = ap test (eqb-true i n d) ∙ h
    go false d earlier h = earlier (omega (arith, eqb-false i n d))

-- what holds of each holds of all
pub true-all : (n : ℕ) (test : ℕ → Bool) → ((i : ℕ) → i < n → test i ≡ true) → all_below n test ≡ true
unfolding all_below
true-all zero test h = refl
true-all (suc n) test h = and_both (true-all n test (λ i l. h i (omega arith))) (h n (omega arith))

-- equal tests below a number
pub all_alike : (n : ℕ) (test other : ℕ → Bool) → ((i : ℕ) → i < n → test i ≡ other i) → all_below n test ≡ all_below n other
unfolding all_below
all_alike zero test other h = refl
all_alike (suc n) test other h = rw (all_alike n test other (λ i l. h i (omega arith)), h n (omega arith))

-- a row in no slot does not occur
none-occur : (row : ℕ) (slots : List ℕ) → ((at : ℕ) → at < length slots → slot_at slots at ≡ row → ⊥) → occurrences row slots ≡ 0
unfolding occurrences
none-occur row [] h = refl
none-occur row (x ∷ xs) h = rw (ne_eqb x row (h 0 (omega arith))) (none-occur row xs (λ at l. h (suc at) (omega arith)))

-- and the other way
occur-none : (row : ℕ) (slots : List ℕ) → occurrences row slots ≡ 0 → (at : ℕ) → at < length slots → slot_at slots at ≡ row → ⊥
unfolding occurrences
occur-none row [] e at l h = omega arith
occur-none row (x ∷ xs) e zero l h = let z : suc (occurrences row xs) ≡ 0 = rw (eq-eqb x row h) at e in omega arith
occur-none row (x ∷ xs) e (suc at) l h = go (eqb x row) refl (λ d. occur-none row xs d at (omega arith) h) e
  where
    go : (t : Bool) → eqb x row ≡ t → (occurrences row xs ≡ 0 → ⊥) → cond t (suc (occurrences row xs)) (occurrences row xs) ≡ 0 → ⊥
    go true d later k = omega arith
    go false d later k = later k

-- in a list with one more slot in front
just-first : (row x : ℕ) (xs : List ℕ) → x ≡ row → occurrences row xs ≡ 0 → JustOne (x ∷ xs) row
just-first row x xs e d = record { at = 0; inside = omega arith; holds = e; alone = only }
  where
    only : (other : ℕ) → other < length (x ∷ xs) → slot_at (x ∷ xs) other ≡ row → other ≡ 0
    only zero l h = refl
    only (suc o) l h = absurd (occur-none row xs d o (omega arith) h)

just-later : (row x : ℕ) (xs : List ℕ) → (x ≡ row → ⊥) → JustOne xs row → JustOne (x ∷ xs) row
just-later row x xs n j = record { at = suc j.at; inside = omega arith; holds = j.holds; alone = only }
  where
    only : (other : ℕ) → other < length (x ∷ xs) → slot_at (x ∷ xs) other ≡ row → other ≡ suc j.at
    only zero l h = absurd (n h)
    only (suc o) l h = ap suc (j.alone o (omega arith) h)

-- and without that slot
later-just : (row x : ℕ) (xs : List ℕ) → (x ≡ row → ⊥) → JustOne (x ∷ xs) row → JustOne xs row
later-just row x xs n j = go j.at j.inside j.holds j.alone
  where
    go : (at : ℕ) → at < length (x ∷ xs) → slot_at (x ∷ xs) at ≡ row
        → ((other : ℕ) → other < length (x ∷ xs) → slot_at (x ∷ xs) other ≡ row → other ≡ at) → JustOne xs row
    go zero l h alone = absurd (n h)
    go (suc at) l h alone = record { at = at; inside = omega arith; holds = h; alone = λ o k e. omega (arith, alone (suc o) (omega arith) e) }

-- a row occurs once exactly when it is in just one slot
pub occurs-just : (row : ℕ) (slots : List ℕ) → occurrences row slots ≡ 1 → JustOne slots row
unfolding occurrences
occurs-just row [] e = absurd (omega arith)
occurs-just row (x ∷ xs) e = go (eqb x row) refl (occurs-just row xs) e
  where
    go : (t : Bool) → eqb x row ≡ t → (occurrences row xs ≡ 1 → JustOne xs row) → cond t (suc (occurrences row xs)) (occurrences row xs) ≡ 1
        → JustOne (x ∷ xs) row
    go true d later k = just-first row x xs (eqb-true x row d) (omega arith)
    go false d later k = just-later row x xs (eqb-false x row d) (later k)

-- and the other way
pub just-occurs : (row : ℕ) (slots : List ℕ) → JustOne slots row → occurrences row slots ≡ 1
unfolding occurrences
just-occurs row [] j = absurd (omega (arith, j.inside))
just-occurs row (x ∷ xs) j = go (eqb x row) refl (just-occurs row xs)
  where
    go : (t : Bool) → eqb x row ≡ t → (JustOne xs row → occurrences row xs ≡ 1) → cond t (suc (occurrences row xs)) (occurrences row xs) ≡ 1
    go true d later =
        ap suc (none-occur row xs (λ at l h. omega (arith, j.alone 0 (omega arith) (eqb-true x row d), j.alone (suc at) (omega arith) h)))
    go false d later = later (later-just row x xs (eqb-false x row d) j)

-- a slot passes the test exactly when it is from the home to the own slot
pub from-to-true : (home own slot : ℕ) → is_from_to home own slot ≡ true → FromTo home own slot
unfolding is_from_to
from-to-true home own slot e = go (leb home own) refl e
  where
    either : (s : Bool) → leb home slot ≡ s → own < home → (s || leb slot own) ≡ true → FromTo home own slot
    either true d l h = FromTo.to_end slot l (leb-true home slot d)
    either false d l h = FromTo.from_start slot l (leb-true slot own h)

    go : (t : Bool) → leb home own ≡ t → cond t (leb home slot && leb slot own) (leb home slot || leb slot own) ≡ true → FromTo home own slot
    go true d h = let b = both (leb home slot) (leb slot own) h in FromTo.between slot (leb-true home slot b.0) (leb-true slot own b.1)
    go false d h = either (leb home slot) refl (leb-false home own d) h

-- a second test that holds
or-true : (s : Bool) {t : Bool} → t ≡ true → (s || t) ≡ true
or-true true e = refl
or-true false e = e

-- and the other way
pub true-from-to : (home own slot : ℕ) → FromTo home own slot → is_from_to home own slot ≡ true
unfolding is_from_to
true-from-to home own _ (FromTo.between slot a b) = rw (le-leb home own (omega arith), le-leb home slot a, le-leb slot own b)
true-from-to home own _ (FromTo.to_end slot l a) = rw (lt-leb home own l, le-leb home slot a)
true-from-to home own _ (FromTo.from_start slot l b) = rw (lt-leb home own l) (or-true (leb home slot) (le-leb slot own b))

-- all slots from the home to the own slot are full
abbrev pub Full : (home own : ℕ) → List ℕ → Type 0
Full home own slots = (slot : ℕ) → slot < length slots → FromTo home own slot → 1 ≤ slot_at slots slot

-- the test of it is the definition
pub full-true : (home own : ℕ) (slots : List ℕ) → is_full home own slots ≡ true → Full home own slots
unfolding is_full
full-true home own slots e slot l f =
    leb-true 1 (slot_at slots slot) (rw (true-from-to home own slot f) at (all_true (length slots) (λ slot. not (is_from_to home own slot) || leb 1 (slot_at slots slot)) e slot l))

-- and the other way
pub true-full : (home own : ℕ) (slots : List ℕ) → Full home own slots → is_full home own slots ≡ true
unfolding is_full
true-full home own slots h = true-all (length slots) (λ slot. not (is_from_to home own slot) || leb 1 (slot_at slots slot)) (λ slot l. go slot l (is_from_to home own slot) refl)
  where
    go : (slot : ℕ) → slot < length slots → (t : Bool) → is_from_to home own slot ≡ t → (not t || leb 1 (slot_at slots slot)) ≡ true
    go slot l true d = le-leb 1 (slot_at slots slot) (h slot l (from-to-true home own slot d))
    go slot l false d = refl

-- a slot that is 0 or whose row has all slots from its home full
abbrev fits_at : (home : ℕ → ℕ) → List ℕ → ℕ → Bool
fits_at home slots at = eqb (slot_at slots at) 0 || is_full (home (slot_at slots at)) at slots

-- the test of that is the definition
fits-true : (home : ℕ → ℕ) (slots : List ℕ) (at : ℕ) → fits_at home slots at ≡ true → 1 ≤ slot_at slots at → Full (home (slot_at slots at)) at slots
fits-true home slots at e l = full-true (home (slot_at slots at)) at slots (rw (ne_eqb (slot_at slots at) 0 (omega arith)) at e)

-- and the other way
true-fits : (home : ℕ → ℕ) (slots : List ℕ) (at : ℕ) → (1 ≤ slot_at slots at → Full (home (slot_at slots at)) at slots) → fits_at home slots at ≡ true
true-fits home slots at h = go (eqb (slot_at slots at) 0) refl
  where
    go : (t : Bool) → eqb (slot_at slots at) 0 ≡ t → (t || is_full (home (slot_at slots at)) at slots) ≡ true
    go true e = refl
    go false e = true-full (home (slot_at slots at)) at slots (h (omega (arith, eqb-false (slot_at slots at) 0 e)))

-- the test of the rows
once-true : (rows : ℕ) (slots : List ℕ) → all_below rows (λ i. eqb (occurrences (suc i) slots) 1) ≡ true
    → (row : ℕ) → 1 ≤ row → row ≤ rows → JustOne slots row
once-true rows slots e zero l k = absurd (omega arith)
once-true rows slots e (suc i) l k = occurs-just (suc i) slots (eqb-true _ _ (all_true rows (λ i. eqb (occurrences (suc i) slots) 1) e i k))

-- the test is the definition
pub indexed-true : (rows : ℕ) (home : ℕ → ℕ) (slots : List ℕ) → is_indexed rows home slots ≡ true → Indexed rows home slots
unfolding is_indexed
indexed-true rows home slots e =
    let (a, rest) = both (ltb rows (length slots)) _ e in
    let (b, last) = both (all_below rows (λ i. eqb (occurrences (suc i) slots) 1)) _ rest in
    let (c, d) = both (all_below (length slots) (λ at. leb (slot_at slots at) rows)) _ last in
    record {
      more = ltb-true rows (length slots) a;
      once = once-true rows slots b;
      no_other = λ at l. leb-true (slot_at slots at) rows (all_true (length slots) (λ at. leb (slot_at slots at) rows) c at l);
      full = λ at slot l k h f. fits-true home slots at (all_true (length slots) (fits_at home slots) d at l) h slot k f;
    }

-- and the other way
pub true-indexed : (rows : ℕ) (home : ℕ → ℕ) (slots : List ℕ) → Indexed rows home slots → is_indexed rows home slots ≡ true
unfolding is_indexed
true-indexed rows home slots x =
    and_both (lt-ltb rows (length slots) x.more)
    (and_both (true-all rows (λ i. eqb (occurrences (suc i) slots) 1) (λ i l. eq-eqb _ _ (just-occurs (suc i) slots (x.once (suc i) (omega arith) l))))
    (and_both (true-all (length slots) (λ at. leb (slot_at slots at) rows) (λ at l. le-leb _ _ (x.no_other at l)))
    (true-all (length slots) (fits_at home slots) (λ at l. true-fits home slots at (λ h slot k f. x.full at slot l k h f)))))

-- a second test is of use only where the first holds
and_alike : (s : Bool) {t u : Bool} → (s ≡ true → t ≡ u) → (s && t) ≡ (s && u)
and_alike true h = h refl
and_alike false h = refl

-- the test of one slot reads the home of its row alone
fits-alike : (home home' : ℕ → ℕ) (slots : List ℕ) (at : ℕ) → (1 ≤ slot_at slots at → home (slot_at slots at) ≡ home' (slot_at slots at))
    → fits_at home slots at ≡ fits_at home' slots at
fits-alike home home' slots at h = go (eqb (slot_at slots at) 0) refl
  where
    go : (t : Bool) → eqb (slot_at slots at) 0 ≡ t → (t || is_full (home (slot_at slots at)) at slots) ≡ (t || is_full (home' (slot_at slots at)) at slots)
    go true e = refl
    go false e = ap (λ n. is_full n at slots) (h (omega (arith, eqb-false (slot_at slots at) 0 e)))

-- the test reads the homes of the rows alone
pub indexed-alike : (rows : ℕ) (home home' : ℕ → ℕ) (slots : List ℕ) → ((row : ℕ) → 1 ≤ row → row ≤ rows → home row ≡ home' row)
    → is_indexed rows home slots ≡ is_indexed rows home' slots
unfolding is_indexed
indexed-alike rows home home' slots h =
    and_alike (ltb rows (length slots)) (λ _.
    and_alike (all_below rows (λ i. eqb (occurrences (suc i) slots) 1)) (λ _.
    and_alike (all_below (length slots) (λ at. leb (slot_at slots at) rows)) (λ c.
    all_alike (length slots) (fits_at home slots) (fits_at home' slots) (λ at l.
    fits-alike home home' slots at (λ k. h (slot_at slots at) k (leb-true _ _ (all_true (length slots) (λ at. leb (slot_at slots at) rows) c at l)))))))
