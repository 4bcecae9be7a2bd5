-- One pass over the name rows, which keeps the nearest global block so far that does not answer 13, with its answer: what is kept after the
-- last row is what the global blocks answer, asked one after the other.
use mathlib.Core.Path.{◌≡◌, refl, sym, ◌∙◌, ap}
use mathlib.Core.Bool.{Bool, true, false, cond, ◌&&◌, and-true, and-eq-true_iff}
use mathlib.Core.List.{List}
use mathlib.Core.Option.{Option, none, some}
use Prim.Native.Nat.{ℕ, zero, suc, ◌+◌, ◌-◌, ◌≤◌, ◌<◌}
use native.Mathlib.Nat.{add-zero}
use native.Mathlib.Numerals.{add-one}
use native.Mathlib.Omega.{arith}
use borrow.Author.Tests.{ltb-true, lt-ltb, eqb-true, eq-eqb}
use lib.Dec.{eqb, ltb}
use Rattle.star_rows.specs.Rows.{word_of}
use Rattle.star_lex.proofs.Cases.{impossible}
use Rattle.star_text.specs.Names.{same}
use Rattle.star_find.specs.Find.{found, refused, meet, seek, is_wanted, or_else, ask_globals}
use Rattle.star_find.specs.declared.Found.{Found}
use Rattle.star_find.proofs.Asking.{or-first, or-second, kind_of, ask-at, ask-down}

-- what a row answers alone
abbrev pub row_answer : (content : ℕ → Option (List ℕ)) (wanted : List ℕ) (row : ℕ) → Found
row_answer content wanted row = meet wanted row (content row) (refused 13)

meet-or : (wanted : List ℕ) (row : ℕ) (o : Option (List ℕ)) (a b : Found) → meet wanted row o (or_else a b) ≡ or_else (meet wanted row o a) b
unfolding meet or_else found refused
meet-or wanted row none a b = refl
meet-or wanted row (some c) a b = go (same c wanted)
  where
    go : (t : Bool) → cond t (found row) (or_else a b) ≡ or_else (cond t (found row) a) b
    go true = refl
    go false = refl

-- a search through one row more asks that row where the others answer 13
seek-end : (is_one : ℕ → Bool) (content : ℕ → Option (List ℕ)) (wanted : List ℕ) (left row : ℕ)
    → seek is_one content wanted (suc left) row
    ≡ or_else (seek is_one content wanted left row) (cond (is_one (row + left)) (row_answer content wanted (row + left)) (refused 13))
unfolding seek or_else refused
seek-end is_one content wanted zero row = ap (λ n. cond (is_one n) (row_answer content wanted n) (refused 13)) (sym (add-zero row))
seek-end is_one content wanted (suc left) row =
    go (is_one row)
    (seek-end is_one content wanted left (suc row) ∙ ap (λ n. or_else first (last n)) (let e : suc row + left ≡ row + suc left = omega arith in e))
  where
    first : Found
    first = seek is_one content wanted left (suc row)

    last : ℕ → Found
    last n = cond (is_one n) (row_answer content wanted n) (refused 13)

    go : (t : Bool) → seek is_one content wanted (suc left) (suc row) ≡ or_else first (last (row + suc left))
        → cond t (meet wanted row (content row) (seek is_one content wanted (suc left) (suc row))) (seek is_one content wanted (suc left) (suc row))
        ≡ or_else (cond t (meet wanted row (content row) first) first) (last (row + suc left))
    go true e = ap (meet wanted row (content row)) e ∙ meet-or wanted row (content row) first (last (row + suc left))
    go false e = e

-- the test that a set is a global block after one set and before another
nearer-true : (sets : List ℕ) (s near set : ℕ) → (ltb near s && (ltb s set && eqb (kind_of sets s) 3)) ≡ true
    → (near < s) × (s < set) × (kind_of sets s ≡ 3)
nearer-true sets s near set e =
    let a : (ltb near s ≡ true) × ((ltb s set && eqb (kind_of sets s) 3) ≡ true) = (and-eq-true_iff (ltb near s) (ltb s set && eqb (kind_of sets s) 3)).0 e in
    let b : (ltb s set ≡ true) × (eqb (kind_of sets s) 3 ≡ true) = (and-eq-true_iff (ltb s set) (eqb (kind_of sets s) 3)).0 a.1 in
    (ltb-true near s a.0, ltb-true s set b.0, eqb-true (kind_of sets s) 3 b.1)

nearer-false : (sets : List ℕ) (s near set : ℕ) → (ltb near s && (ltb s set && eqb (kind_of sets s) 3)) ≡ false → near < s → s < set
    → kind_of sets s ≡ 3 → ⊥
nearer-false sets s near set e a b k =
    let z : true ≡ false = rw (lt-ltb near s a, lt-ltb s set b, eq-eqb (kind_of sets s) 3 k) at e in impossible cc

module _ (sets names : List ℕ) (content : ℕ → Option (List ℕ)) (wanted : List ℕ) where
  -- what a set answers by the first n name rows
  abbrev pub own : (n set : ℕ) → Found
  own n set = seek (is_wanted names 4 set false 0) content wanted n 1

  -- the set of a name row
  abbrev pub set_of : (row : ℕ) → ℕ
  set_of row = word_of names 4 row 0

  own-next : (n k : ℕ) → own (n + 1) k ≡ or_else (own n k) (cond (eqb (set_of (n + 1)) k) (row_answer content wanted (n + 1)) (refused 13))
  unfolding is_wanted
  own-next n k =
      ap (λ m. own m k) (add-one n)
      ∙ seek-end (is_wanted names 4 k false 0) content wanted n 1
      ∙ ap (λ m. or_else (own n k) (cond (eqb (set_of m) k && true) (row_answer content wanted m) (refused 13))) (let e : 1 + n ≡ n + 1 = omega arith in e)
      ∙ ap (λ t. or_else (own n k) (cond t (row_answer content wanted (n + 1)) (refused 13))) (and-true (eqb (set_of (n + 1)) k))

  -- a set that has answered keeps its answer
  own-kept : (n k : ℕ) → ((own n k).refusal ≡ 13 → ⊥) → own (n + 1) k ≡ own n k
  own-kept n k h = own-next n k ∙ or-first (own n k) _ h

  own_row : (n : ℕ) → (own n (set_of (n + 1))).refusal ≡ 13 → own (n + 1) (set_of (n + 1)) ≡ row_answer content wanted (n + 1)
  own_row n e =
      own-next n (set_of (n + 1))
      ∙ or-second (own n (set_of (n + 1))) _ e
      ∙ ap (λ t. cond t (row_answer content wanted (n + 1)) (refused 13)) (eq-eqb (set_of (n + 1)) (set_of (n + 1)) refl)

  -- a set stays without an answer by a row that is not its own or answers 13
  own-none : (n k : ℕ) → (own n k).refusal ≡ 13 → (set_of (n + 1) ≡ k → (row_answer content wanted (n + 1)).refusal ≡ 13) → (own (n + 1) k).refusal ≡ 13
  unfolding refused
  own-none n k e h = ap (λ f. f.refusal) (own-next n k ∙ or-second (own n k) _ e) ∙ go (eqb (set_of (n + 1)) k) refl
    where
      go : (t : Bool) → eqb (set_of (n + 1)) k ≡ t → (cond t (row_answer content wanted (n + 1)) (refused 13)).refusal ≡ 13
      go true q = h (eqb-true (set_of (n + 1)) k q)
      go false q = refl

  -- after n name rows, of the global blocks up to set `end`: `near` is the last that does not answer 13, 0 for none, and what is kept its answer
  pub record Nearest (end n near : ℕ) (kept : Found) : Type 0 where
    pub within : near ≤ end
    pub after : (k : ℕ) → near < k → k ≤ end → kind_of sets k ≡ 3 → (own n k).refusal ≡ 13
    pub nothing : near ≡ 0 → kept ≡ refused 13
    pub block : 0 < near → kind_of sets near ≡ 3
    pub answers : 0 < near → own n near ≡ kept
    pub settled : 0 < near → kept.refusal ≡ 13 → ⊥

  pub nearest-first : (end : ℕ) → Nearest end 0 0 (refused 13)
  unfolding seek refused
  nearest-first end = record {
    within = omega arith;
    after = λ k _ _ _. refl;
    nothing = λ _. refl;
    block = λ h. absurd (omega arith);
    answers = λ h. absurd (omega arith);
    settled = λ h. absurd (omega arith);
  }

  -- a row that is of no nearer global block, or answers 13
  nearest-passed : {end n near : ℕ} {kept : Found} → Nearest end n near kept
      → (near < set_of (n + 1) → set_of (n + 1) ≤ end → kind_of sets (set_of (n + 1)) ≡ 3 → (row_answer content wanted (n + 1)).refusal ≡ 13)
      → Nearest end (n + 1) near kept
  nearest-passed {end} {n} {near} {kept} p h = record {
    within = p.within;
    after = λ k a b c. own-none n k (p.after k a b c) (λ q. h (rw q a) (rw q b) (rw q c));
    nothing = p.nothing;
    block = p.block;
    answers = λ l. own-kept n near (λ e. p.settled l (sym (ap (λ f. f.refusal) (p.answers l)) ∙ e)) ∙ p.answers l;
    settled = p.settled;
  }

  -- a row of a nearer global block that does not answer 13
  nearest-taken : {end n near : ℕ} {kept : Found} → Nearest end n near kept → near < set_of (n + 1) → set_of (n + 1) ≤ end
      → kind_of sets (set_of (n + 1)) ≡ 3 → ((row_answer content wanted (n + 1)).refusal ≡ 13 → ⊥)
      → Nearest end (n + 1) (set_of (n + 1)) (row_answer content wanted (n + 1))
  nearest-taken {end} {n} {near} {kept} p a b c h = record {
    within = b;
    after = λ k l m d. own-none n k (p.after k (omega arith) m d) (λ q. absurd (omega (arith, q)));
    nothing = λ q. absurd (omega (arith, q));
    block = λ _. c;
    answers = λ _. own_row n (p.after (set_of (n + 1)) a b c);
    settled = λ _. h;
  }

  -- what one row more leaves: one of no nearer global block before a set, one that answers 13, and one that answers
  other : (set : ℕ) {n near s : ℕ} {kept : Found} {nearer : Bool} → Nearest (set - 1) n near kept → s ≡ set_of (n + 1)
      → nearer ≡ (ltb near s && (ltb s set && eqb (kind_of sets s) 3)) → nearer ≡ false → Nearest (set - 1) (n + 1) near kept
  other set {n} {near} {s} p e t f =
      nearest-passed p (λ a b k. let l : near < s = rw e a in absurd (nearer-false sets s near set (sym t ∙ f) l (omega (arith, l, e, b)) (rw e k)))

  answers-none : {end n near : ℕ} {kept answer : Found} → Nearest end n near kept → answer ≡ row_answer content wanted (n + 1) → answer.refusal ≡ 13
      → Nearest end (n + 1) near kept
  answers-none p e h = nearest-passed p (λ _ _ _. sym (ap (λ f. f.refusal) e) ∙ h)

  answer : (set : ℕ) {n near s : ℕ} {kept answer : Found} {nearer : Bool} → Nearest (set - 1) n near kept → s ≡ set_of (n + 1)
      → nearer ≡ (ltb near s && (ltb s set && eqb (kind_of sets s) 3)) → nearer ≡ true → answer ≡ row_answer content wanted (n + 1)
      → (answer.refusal ≡ 13 → ⊥) → Nearest (set - 1) (n + 1) s answer
  answer set {n} {near} {s} p e t f q h =
      let k : (near < s) × (s < set) × (kind_of sets s ≡ 3) = nearer-true sets s near set (sym t ∙ f) in
      rw (e, q)
      (nearest-taken p (rw e at k.0) (omega (arith, e, k.0, k.1)) (rw e at k.2) (λ r. h (ap (λ f. f.refusal) q ∙ r)))

  -- a turn of the loop, which comes to the rows counted from 1
  back : (row : ℕ) → 1 ≤ row → row ≡ row - 1 + 1
  back row h = omega arith

  next : {end row near : ℕ} {kept : Found} → 1 ≤ row → Nearest end (row - 1 + 1) near kept → Nearest end (row + 1 - 1) near kept
  next {row = row} h p = rw (let e : row + 1 - 1 ≡ row - 1 + 1 = omega arith in e) p

  pub turn-other : (set : ℕ) {row near s : ℕ} {kept : Found} {nearer : Bool} → 1 ≤ row → Nearest (set - 1) (row - 1) near kept → s ≡ set_of row
      → nearer ≡ (ltb near s && (ltb s set && eqb (kind_of sets s) 3)) → nearer ≡ false → Nearest (set - 1) (row + 1 - 1) near kept
  turn-other set {row = row} h p e t f = next h (other set p (e ∙ ap set_of (back row h)) t f)

  pub turn-none : {end row near : ℕ} {kept answer : Found} → 1 ≤ row → Nearest end (row - 1) near kept → answer ≡ row_answer content wanted row
      → answer.refusal ≡ 13 → Nearest end (row + 1 - 1) near kept
  turn-none {row = row} h p e q = next h (answers-none p (e ∙ ap (row_answer content wanted) (back row h)) q)

  pub turn-answer : (set : ℕ) {row near s : ℕ} {kept answered : Found} {nearer : Bool} → 1 ≤ row → Nearest (set - 1) (row - 1) near kept → s ≡ set_of row
      → nearer ≡ (ltb near s && (ltb s set && eqb (kind_of sets s) 3)) → nearer ≡ true → answered ≡ row_answer content wanted row
      → (answered.refusal ≡ 13 → ⊥) → Nearest (set - 1) (row + 1 - 1) s answered
  turn-answer set {row = row} h p e t f q n =
      next h (answer set p (e ∙ ap set_of (back row h)) t f (q ∙ ap (row_answer content wanted) (back row h)) n)

  nearest-at : {end n near : ℕ} {kept : Found} → Nearest end n near kept → ask_globals sets (own n) near ≡ kept
  unfolding ask_globals
  nearest-at {near = zero} p = sym (p.nothing refl)
  nearest-at {end} {n} {near = suc m} p =
      ask-at sets (own n) (suc m) (omega arith) (p.block (omega arith))
      (λ e. p.settled (omega arith) (sym (ap (λ f. f.refusal) (p.answers (omega arith))) ∙ e))
      ∙ p.answers (omega arith)

  -- what is kept after the last row is what the global blocks answer, asked one after the other
  pub nearest-asked : {end n near : ℕ} {kept : Found} (rows : ℕ) → Nearest end n near kept → n ≡ rows → kept ≡ ask_globals sets (own rows) end
  nearest-asked {end} {n} {near} rows p e =
      sym (ap (λ m. ask_globals sets (own m) end) (sym e) ∙ ask-down sets (own n) near end p.within p.after ∙ nearest-at p)
