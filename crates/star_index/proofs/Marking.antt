-- Rows are marked while the slots are passed: a row that is marked was seen, and one that is not was not. Where each row is marked once, each is in just one slot, and taking the marks
-- away leaves the table as it was.
use mathlib.Core.Path.{◌≡◌, refl, sym, ◌∙◌, ap}
use mathlib.Core.Bool.{Bool, true, false}
use mathlib.Core.List.{List}
use mathlib.Core.Logic.{◌⊎◌, inl, inr, ⊎_elim}
use Prim.Native.Nat.{ℕ, zero, suc, ◌+◌, ◌-◌, ◌≤◌, ◌<◌}
use native.Mathlib.Omega.{arith}
use borrow.Author.Tests.{ltb-true, ltb-false}
use lib.Dec.{ltb}
use lib.ListN.{length, get_or, set, length-set}
use lib.Seq.{ext_get_or, get_or-set_same, get_or-set_other}
use Rattle.star_slots.specs.Slots.{slot_at}
use Rattle.star_index.specs.Index.{JustOne}
use Rattle.star_index.specs.Inner.{mark, place_of, Unmarked, Seen, Marked, Apart, Cleaned}
use Rattle.star_index.proofs.Indexing.{by_equal}

-- a row is in one of the first so many slots, or in none of them
seen-or : (slots : List ℕ) (n row : ℕ) → Seen slots n row ⊎ (Seen slots n row → ⊥)
seen-or slots zero row = inr (λ s. let k = s.1 in omega arith)
seen-or slots (suc n) row =
    by_equal (slot_at slots n) row (λ e. inl (n, omega arith, e))
    (λ d. ⊎_elim (λ s. inl (s.0, omega (arith, s.1), s.2)) (λ b. inr (λ s. by_equal s.0 n (λ q. d (ap (slot_at slots) (sym q) ∙ s.2)) (λ q. b (s.0, omega (arith, s.1, q), s.2))))
    (seen-or slots n row))

-- a word is that of a row that may be marked, or of none
place-or : (rows p : ℕ) → ((i : ℕ) × (i < rows) × (p ≡ place_of i)) ⊎ ((i : ℕ) → i < rows → p ≡ place_of i → ⊥)
place-or zero p = inr (λ i h e. omega arith)
place-or (suc n) p =
    by_equal p (place_of n) (λ e. inl (n, omega arith, e))
    (λ d. ⊎_elim (λ k. inl (k.0, omega (arith, k.1), k.2)) (λ b. inr (λ i h e. by_equal i n (λ q. d (e ∙ ap place_of q)) (λ q. b i (omega arith) e))) (place-or n p))

-- none yet
pub marked-none : (slots : List ℕ) (rows : ℕ) (names : List ℕ) → Marked slots 0 rows names names
marked-none slots rows names = record {
  size = refl;
  seen = λ i h s. let k = s.1 in absurd (omega arith);
  unseen = λ i h d. refl;
  others = λ p d. refl;
}

pub apart_none : (slots : List ℕ) → Apart slots 0
apart_none slots a b h k l e = omega arith

module _ (slots : List ℕ) (n rows : ℕ) (before after : List ℕ) (m : Marked slots n rows before after) where
  -- a slot that holds 0
  seen-zero : (row : ℕ) → slot_at slots n ≡ 0 → 1 ≤ row → Seen slots (n + 1) row → Seen slots n row
  seen-zero row z low s =
      by_equal s.0 n (λ q. absurd (let k : row ≡ 0 = sym s.2 ∙ ap (slot_at slots) q ∙ z in omega arith)) (λ q. (s.0, omega (arith, s.1, q), s.2))

  pub marked-zero : slot_at slots n ≡ 0 → Marked slots (n + 1) rows before after
  marked-zero z = record {
    size = m.size;
    seen = λ i h s. m.seen i h (seen-zero (suc i) z (omega arith) s);
    unseen = λ i h d. m.unseen i h (λ s. d (s.0, omega (arith, s.1), s.2));
    others = m.others;
  }

  -- a slot that holds a row
  module _ (u : Unmarked before rows) (low : 1 ≤ slot_at slots n) (high : slot_at slots n ≤ rows) where
    abbrev row : ℕ
    row = slot_at slots n

    abbrev word : ℕ
    word = get_or after (place_of (row - 1)) 0

    back : suc (row - 1) ≡ row
    back = omega arith

    -- one that is not marked was not seen
    pub fresh : word < mark → Seen slots n row → ⊥
    fresh h s =
        let k : word ≡ get_or before (place_of (row - 1)) 0 + mark = m.seen (row - 1) (omega arith) (s.0, s.1, s.2 ∙ sym back) in
        omega arith

    -- one that is marked was
    pub taken : mark ≤ word → (Seen slots n row → ⊥) → ⊥
    taken h d =
        let k : word ≡ get_or before (place_of (row - 1)) 0 = m.unseen (row - 1) (omega arith) (λ s. d (s.0, s.1, s.2 ∙ back)) in
        omega (arith, u.low (row - 1) (omega arith))

    pub marked_row : word < mark → Marked slots (n + 1) rows before (set after (place_of (row - 1)) (word + mark))
    marked_row h = record { size = length-set after _ _ ∙ m.size; seen = seen; unseen = unseen; others = others }
      where
        -- the word is one of the table
        inside : place_of (row - 1) < length after
        inside = omega (arith, u.room, m.size)

        plain : word ≡ get_or before (place_of (row - 1)) 0
        plain = m.unseen (row - 1) (omega arith) (λ s. fresh h (s.0, s.1, s.2 ∙ back))

        other : (p : ℕ) → (p ≡ place_of (row - 1) → ⊥) → get_or (set after (place_of (row - 1)) (word + mark)) p 0 ≡ get_or after p 0
        other p d = get_or-set_other after (place_of (row - 1)) p (word + mark) 0 d

        seen : (i : ℕ) → i < rows → Seen slots (n + 1) (suc i) → get_or (set after (place_of (row - 1)) (word + mark)) (place_of i) 0 ≡ get_or before (place_of i) 0 + mark
        seen i k s =
            by_equal i (row - 1)
            (λ q. ap (λ j. get_or (set after (place_of (row - 1)) (word + mark)) (place_of j) 0) q ∙ get_or-set_same after (place_of (row - 1)) (word + mark) 0 inside ∙ ap (λ w. w + mark) (plain ∙ ap (λ j. get_or before (place_of j) 0) (sym q)))
            (λ q. other (place_of i) (λ e. q (omega arith)) ∙ m.seen i k (s.0, by_equal s.0 n (λ o. absurd (q (let z : suc i ≡ row = sym s.2 ∙ ap (slot_at slots) o in omega arith))) (λ o. omega (arith, s.1, o)), s.2))

        unseen : (i : ℕ) → i < rows → (Seen slots (n + 1) (suc i) → ⊥) → get_or (set after (place_of (row - 1)) (word + mark)) (place_of i) 0 ≡ get_or before (place_of i) 0
        unseen i k d =
            other (place_of i) (λ e. d (n, omega arith, omega arith)) ∙ m.unseen i k (λ s. d (s.0, omega (arith, s.1), s.2))

        others : (p : ℕ) → ((i : ℕ) → i < rows → p ≡ place_of i → ⊥) → get_or (set after (place_of (row - 1)) (word + mark)) p 0 ≡ get_or before p 0
        others p d = other p (d (row - 1) (omega arith)) ∙ m.others p d

-- no row is in two of the slots passed: after a slot that holds 0, and after one that holds a row that was not seen
pub apart-zero : (slots : List ℕ) (n : ℕ) → Apart slots n → slot_at slots n ≡ 0 → Apart slots (n + 1)
apart-zero slots n p z a b h k l e =
    by_equal b n (λ q. let w : slot_at slots b ≡ 0 = ap (slot_at slots) q ∙ z in omega arith) (λ q. p a b h (omega (arith, q)) l e)

pub apart-row : (slots : List ℕ) (n : ℕ) → Apart slots n → (Seen slots n (slot_at slots n) → ⊥) → Apart slots (n + 1)
apart-row slots n p d a b h k l e = by_equal b n (λ q. d (a, omega (arith, q), e ∙ ap (slot_at slots) q)) (λ q. p a b h (omega (arith, q)) l e)

-- a row that is seen, and never in two slots, is in just one
just-one : (slots : List ℕ) (row : ℕ) → Apart slots (length slots) → 1 ≤ row → Seen slots (length slots) row → JustOne slots row
just-one slots row p low s = record { at = s.0; inside = s.1; holds = s.2; alone = alone }
  where
    alone : (other : ℕ) → other < length slots → slot_at slots other ≡ row → other ≡ s.0
    alone other h e = by_equal other s.0 (λ q. q) (λ q. absurd (go (ltb other s.0) refl q))
      where
        go : (t : Bool) → ltb other s.0 ≡ t → (other ≡ s.0 → ⊥) → ⊥
        go true d q = p other s.0 (ltb-true _ _ d) s.1 (omega (arith, s.2)) (e ∙ sym s.2)
        go false d q = p s.0 other (let k : s.0 ≤ other = ltb-false _ _ d in omega (arith, q)) h (omega (arith, e)) (s.2 ∙ sym e)

-- rows that are each in just one slot are never in two
pub once-apart : (slots : List ℕ) (rows : ℕ) → ((at : ℕ) → at < length slots → slot_at slots at ≤ rows)
    → ((row : ℕ) → 1 ≤ row → row ≤ rows → JustOne slots row) → Apart slots (length slots)
once-apart slots rows no_other once a b h k l e =
    let j : JustOne slots (slot_at slots b) = once (slot_at slots b) l (no_other b k) in
    let x : a ≡ j.at = j.alone a (omega arith) e in
    let y : b ≡ j.at = j.alone b k refl in
    omega arith

-- marks are taken away: none yet, one more, and a row that has none
pub cleaned-none : (names : List ℕ) → Cleaned 0 names names
cleaned-none names = record { size = refl; cleaned = λ i h. absurd (omega arith); others = λ p d. refl }

module _ (n : ℕ) (before after : List ℕ) (k : Cleaned n before after) where
  still : get_or after (place_of n) 0 ≡ get_or before (place_of n) 0
  still = k.others (place_of n) (λ i h e. omega arith)

  pub cleaned-next : place_of n < length after → mark ≤ get_or after (place_of n) 0 → Cleaned (n + 1) before (set after (place_of n) (get_or after (place_of n) 0 - mark))
  cleaned-next inside high = record { size = length-set after _ _ ∙ k.size; cleaned = cleaned; others = others }
    where
      word : ℕ
      word = get_or after (place_of n) 0 - mark

      cleaned : (i : ℕ) → i < n + 1 → get_or (set after (place_of n) word) (place_of i) 0 + mark ≡ get_or before (place_of i) 0
      cleaned i h =
          by_equal i n
          (λ q. ap (λ j. get_or (set after (place_of n) word) (place_of j) 0 + mark) q ∙ ap (λ w. w + mark) (get_or-set_same after (place_of n) word 0 inside)
          ∙ (let b : word + mark ≡ get_or after (place_of n) 0 = omega arith in b) ∙ still ∙ ap (λ j. get_or before (place_of j) 0) (sym q))
          (λ q. ap (λ w. w + mark) (get_or-set_other after (place_of n) (place_of i) word 0 (λ e. q (omega arith))) ∙ k.cleaned i (omega arith))

      others : (p : ℕ) → ((i : ℕ) → i < n + 1 → p ≡ place_of i → ⊥) → get_or (set after (place_of n) word) p 0 ≡ get_or before p 0
      others p d = get_or-set_other after (place_of n) p word 0 (d n (omega arith)) ∙ k.others p (λ i h. d i (omega arith))

  pub cleaned-missing : (rows : ℕ) → n < rows → get_or after (place_of n) 0 < mark → (i : ℕ) × (i < rows) × (get_or before (place_of i) 0 < mark)
  cleaned-missing rows h low = (n, h, rw (← still) low)

module _ (slots : List ℕ) (rows : ℕ) (before after : List ℕ) (u : Unmarked before rows) (m : Marked slots (length slots) rows before after) where
  -- every row had a mark: each is in just one slot, and the table is as it was
  pub once-all : (last : List ℕ) → Apart slots (length slots) → Cleaned rows after last
      → ((row : ℕ) → 1 ≤ row → row ≤ rows → JustOne slots row) × (last ≡ before)
  once-all last p k = (once, ext_get_or 0 last before (k.size ∙ m.size) (λ q h. same q))
    where
      marked : (i : ℕ) → i < rows → Seen slots (length slots) (suc i)
      marked i h =
          ⊎_elim (λ s. s)
          (λ d. let w : get_or after (place_of i) 0 ≡ get_or before (place_of i) 0 = m.unseen i h d in absurd (omega (arith, u.low i h, k.cleaned i h)))
          (seen-or slots (length slots) (suc i))

      once : (row : ℕ) → 1 ≤ row → row ≤ rows → JustOne slots row
      once row low high =
          let s : Seen slots (length slots) (suc (row - 1)) = marked (row - 1) (omega arith) in
          let b : suc (row - 1) ≡ row = omega arith in
          just-one slots row p low (s.0, s.1, s.2 ∙ b)

      same : (q : ℕ) → get_or last q 0 ≡ get_or before q 0
      same q =
          ⊎_elim
          (λ x. let i : ℕ = x.0 in
          let w : get_or last (place_of i) 0 ≡ get_or before (place_of i) 0 = omega (arith, k.cleaned i x.1, m.seen i x.1 (marked i x.1)) in
          ap (λ j. get_or last j 0) x.2 ∙ w ∙ ap (λ j. get_or before j 0) (sym x.2))
          (λ d. k.others q d ∙ m.others q d) (place-or rows q)

  -- a row without a mark is in no slot
  pub once-missing : (i : ℕ) × (i < rows) × (get_or after (place_of i) 0 < mark) → ((row : ℕ) → 1 ≤ row → row ≤ rows → JustOne slots row) → ⊥
  once-missing x once =
      let i : ℕ = x.0 in
      let j : JustOne slots (suc i) = once (suc i) (omega arith) x.1 in
      let w : get_or after (place_of i) 0 ≡ get_or before (place_of i) 0 + mark = m.seen i x.1 (j.at, j.inside, j.holds) in
      omega (arith, x.2)
