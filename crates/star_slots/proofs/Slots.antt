-- The slot after one, and the home of a name row: both are inside.
use Rattle.std.proofs.Common.{◌≡◌, ℕ, suc, ◌+◌, ◌%◌, ◌<◌, ◌≤◌, Bool, true, false, ltb, List, sym, refl, ap, ◌∙◌, mod-eq_of_lt, add-one, arith, ltb-false, ltb-true, le-ltb, lt-ltb}
use Rattle.star_text.proofs.Cases.{cond-by}
use Rattle.star_hash.proofs.Hashing.{home-inside}
use Rattle.star_slots.specs.Slots.{next_slot}
use Rattle.star_slots.specs.Inner.{table_home}

-- what holds of the next slot: it is one further or, after the last, the first
pub next-by {κ} : (P : ℕ → Type κ) (slots at : ℕ) → (suc at < slots → P (suc at)) → (slots ≤ suc at → P 0) → P (next_slot slots at)
unfolding next_slot
next-by P slots at f g = cond-by P (ltb (suc at) slots) (suc at) 0 (λ e. f (ltb-true _ _ e)) (λ e. g (ltb-false _ _ e))

-- by where it stands
pub next-slot : (slots at : ℕ) → suc at < slots → next_slot slots at ≡ suc at
unfolding next_slot
next-slot slots at h = rw (lt-ltb (suc at) slots h)

pub next-first : (slots at : ℕ) → slots ≤ suc at → next_slot slots at ≡ 0
unfolding next_slot
next-first slots at h = rw (le-ltb (suc at) slots h)

-- the slot after one is inside
pub next-inside : (slots at : ℕ) → at < slots → next_slot slots at < slots
next-inside slots at l = next-by (λ n. n < slots) slots at (λ k. k) (λ k. omega arith)

-- where sums wrap
abbrev wrap : ℕ
wrap = 18446744073709551616

-- the next slot by a sum that wraps: what wraps is past every slot
module _ (slots at : ℕ) {next : ℕ} (few : slots < wrap) (inside : at < wrap) (e : next ≡ (at + 1) % wrap) where
  pub next-sum : next < slots → next ≡ next_slot slots at
  next-sum h = by (ltb (at + 1) wrap) refl
    where
      by : (t : Bool) → ltb (at + 1) wrap ≡ t → next ≡ next_slot slots at
      by true k = let sum : next ≡ at + 1 = e ∙ mod-eq_of_lt (ltb-true (at + 1) wrap k) in sum ∙ add-one at ∙ sym (next-slot slots at (omega arith))
      by false k =
          let last : at + 1 ≡ wrap = omega (arith, ltb-false (at + 1) wrap k) in
          e ∙ ap (λ n. n % wrap) last ∙ sym (next-first slots at (omega arith))

  pub next-round : slots ≤ next → 0 ≡ next_slot slots at
  next-round h = by (ltb (at + 1) wrap) refl
    where
      by : (t : Bool) → ltb (at + 1) wrap ≡ t → 0 ≡ next_slot slots at
      by true k = let sum : next ≡ at + 1 = e ∙ mod-eq_of_lt (ltb-true (at + 1) wrap k) in sym (next-first slots at (omega arith))
      by false k = sym (next-first slots at (omega (arith, ltb-false (at + 1) wrap k)))

-- a home is one of the slots
pub table-home : (file tokens : List ℕ) (count : ℕ) (names : List ℕ) (slots row : ℕ) → 0 < slots → table_home file tokens count names slots row < slots
unfolding table_home
table-home file tokens count names slots row h = home-inside slots _ _ h
