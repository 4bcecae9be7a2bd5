-- What one slot decides in a lookup, and what one set decides where sets are asked in turn.
use Rattle.std.proofs.Common.{◌≡◌, ℕ, zero, suc, ◌-◌, ◌<◌, ◌≤◌, Bool, true, false, cond, eqb, ltb, List, length, sym, refl, ap, ◌∙◌, arith, ltb-false, le-ltb, ne_eqb, Ok, Err}
use mathlib.Core.Option.{Option}
use borrow.Author.Tests.{eqb-false}
use Rattle.star_rows.specs.Widths.{set_width}
use Rattle.star_rows.specs.Rows.{word_of}
use Rattle.star_find.specs.Find.{Match, found, refused, meet, match_of, or_else, ask_globals}
use Rattle.star_find.specs.declared.Found.{Found}
use Rattle.star_find.proofs.Asking.{or-first, or-second}
use Rattle.star_find.proofs.Looking.{decided, meet-decides, number-not-0}
use Rattle.star_slots.specs.Slots.{slot_at, next_slot}
use Rattle.star_slots.specs.Lookup.{probe}
use Rattle.star_slots.specs.Inner.{refusal_of, held_of}
use Rattle.star_find.specs.Lending.{found_of}
use Rattle.star_find.specs.declared.Missing.{Missing}

-- a slot that is not refused holds a row
pub slot_held : (rows row : ℕ) → refusal_of rows row ≡ 0 → (row ≡ 0 → ⊥) × (row ≤ rows)
unfolding refusal_of
slot_held rows row e = by (eqb row 0) refl (ltb rows row) refl
  where
    by : (t : Bool) → eqb row 0 ≡ t → (u : Bool) → ltb rows row ≡ u → (row ≡ 0 → ⊥) × (row ≤ rows)
    by true d u k = absurd (let z : ◌≡◌ {A = ℕ} 13 0 = rw d at e in omega arith)
    by false d true k = absurd (let z : ◌≡◌ {A = ℕ} 14 0 = rw (d, k) at e in omega arith)
    by false d false k = (eqb-false row 0 d, ltb-false rows row k)

-- a slot that holds a row
pub held-row : (rows word row : ℕ) → found_of (Ok row) ≡ held_of rows word → (row ≡ word) × (word ≡ 0 → ⊥) × (word ≤ rows)
unfolding refusal_of found refused
held-row rows word row e = by (eqb word 0) refl (ltb rows word) refl
  where
    by : (t : Bool) → eqb word 0 ≡ t → (u : Bool) → ltb rows word ≡ u → (row ≡ word) × (word ≡ 0 → ⊥) × (word ≤ rows)
    by true d u k = absurd (let z : ◌≡◌ {A = ℕ} 0 13 = ap (λ f. f.refusal) (rw d at e) in omega arith)
    by false d true k = absurd (let z : ◌≡◌ {A = ℕ} 0 14 = ap (λ f. f.refusal) (rw (d, k) at e) in omega arith)
    by false d false k = (ap (λ f. f.row) (rw (d, k) at e), eqb-false word 0 d, ltb-false rows word k)

-- what a slot decides in a lookup
module _ (slots : List ℕ) (rows : ℕ) (is_one : ℕ → Bool) (content : ℕ → Option (List ℕ)) (wanted : List ℕ) where
  abbrev rest : (left at : ℕ) → Found
  rest left at = probe slots rows is_one content wanted (left - 1) (next_slot (length slots) at)

  pub probe-stop : (left at : ℕ) {m : ℕ} → 0 < left → m ≡ refusal_of rows (slot_at slots at) → (m ≡ 0 → ⊥) → probe slots rows is_one content wanted left at ≡ refused m
  unfolding probe refusal_of
  probe-stop zero at h e n = absurd (omega arith)
  probe-stop (suc left) at {m} h e n = by (eqb (slot_at slots at) 0) refl (ltb rows (slot_at slots at)) refl
    where
      by : (t : Bool) → eqb (slot_at slots at) 0 ≡ t → (u : Bool) → ltb rows (slot_at slots at) ≡ u → probe slots rows is_one content wanted (suc left) at ≡ refused m
      by true d u k = let q : m ≡ 13 = rw d at e in rw (d, q)
      by false d true k = let q : m ≡ 14 = rw (d, k) at e in rw (d, k, q)
      by false d false k = absurd (n (rw (d, k) at e))

  pub probe-missing : (left at : ℕ) (m : Missing) → 0 < left → found_of (Err m) ≡ held_of rows (slot_at slots at)
      → probe slots rows is_one content wanted left at ≡ found_of (Err m)
  unfolding probe refusal_of found refused
  probe-missing zero at m h e = absurd (omega arith)
  probe-missing (suc left) at m h e = by (eqb (slot_at slots at) 0) refl (ltb rows (slot_at slots at)) refl
    where
      by : (t : Bool) → eqb (slot_at slots at) 0 ≡ t → (u : Bool) → ltb rows (slot_at slots at) ≡ u
          → probe slots rows is_one content wanted (suc left) at ≡ found_of (Err m)
      by true d u k = rw d (sym (rw d at e))
      by false d true k = rw (d, k) (sym (rw (d, k) at e))
      by false d false k = absurd (number-not-0 m (ap (λ f. f.refusal) (rw (d, k) at e)))

  pub probe-row : (left at : ℕ) {m : Match} → 0 < left → (slot_at slots at ≡ 0 → ⊥) → slot_at slots at ≤ rows
      → cond (is_one (slot_at slots at)) (match_of wanted (content (slot_at slots at))) Match.Other ≡ m
      → probe slots rows is_one content wanted left at ≡ decided m (slot_at slots at) (rest left at)
  unfolding probe
  probe-row zero at h n k e = absurd (omega arith)
  probe-row (suc left) at {m} h n k e =
      rw (ne_eqb (slot_at slots at) 0 n, le-ltb rows (slot_at slots at) k)
      (met (is_one (slot_at slots at)) ∙ ap (λ d. decided d (slot_at slots at) others) e
      ∙ ap (λ j. decided m (slot_at slots at) (probe slots rows is_one content wanted j (next_slot (length slots) at))) (let q : left ≡ suc left - 1 = omega arith in q))
    where
      others : Found
      others = probe slots rows is_one content wanted left (next_slot (length slots) at)

      met : (t : Bool) → cond t (meet wanted (slot_at slots at) (content (slot_at slots at)) others) others
          ≡ decided (cond t (match_of wanted (content (slot_at slots at))) Match.Other) (slot_at slots at) others
      met true = meet-decides wanted (slot_at slots at) (content (slot_at slots at)) others
      met false = refl

  pub probe-none : (left at : ℕ) → left ≤ 0 → probe slots rows is_one content wanted left at ≡ refused 13
  unfolding probe
  probe-none zero at h = refl
  probe-none (suc left) at h = absurd (omega arith)

-- the last of the sets that are left answers, or is passed over
module _ (sets : List ℕ) (ask : ℕ → Found) where
  abbrev ask_one : ℕ → Found
  ask_one s = cond (eqb (word_of sets set_width s 0) 3) (ask s) (refused 13)

  pub globals-at : (s : ℕ) {f : Found} → 0 < s → f ≡ ask_one s → (f.refusal ≡ 13 → ⊥) → f ≡ ask_globals sets ask s
  unfolding ask_globals refused
  globals-at zero h e n = absurd (omega arith)
  globals-at (suc s) {f} h e n = by (eqb (word_of sets set_width (suc s) 0) 3) e
    where
      by : (t : Bool) → f ≡ cond t (ask (suc s)) (refused 13) → f ≡ cond t (or_else (ask (suc s)) (ask_globals sets ask s)) (ask_globals sets ask s)
      by true q = q ∙ sym (or-first (ask (suc s)) (ask_globals sets ask s) (λ r. n (ap (λ g. g.refusal) q ∙ r)))
      by false q = absurd (n (ap (λ g. g.refusal) q))

  pub globals-past : (s : ℕ) {f : Found} → 0 < s → f ≡ ask_one s → f.refusal ≡ 13 → ask_globals sets ask (s - 1) ≡ ask_globals sets ask s
  unfolding ask_globals
  globals-past zero h e z = absurd (omega arith)
  globals-past (suc s) {f} h e z = ap (ask_globals sets ask) (let q : suc s - 1 ≡ s = omega arith in q) ∙ by (eqb (word_of sets set_width (suc s) 0) 3) e
    where
      by : (t : Bool) → f ≡ cond t (ask (suc s)) (refused 13) → ask_globals sets ask s ≡ cond t (or_else (ask (suc s)) (ask_globals sets ask s)) (ask_globals sets ask s)
      by true q = sym (or-second (ask (suc s)) (ask_globals sets ask s) (sym (ap (λ g. g.refusal) q) ∙ z))
      by false q = refl

  pub globals-none : (s : ℕ) → s ≤ 0 → refused 13 ≡ ask_globals sets ask s
  unfolding ask_globals
  globals-none zero h = refl
  globals-none (suc s) h = absurd (omega arith)
