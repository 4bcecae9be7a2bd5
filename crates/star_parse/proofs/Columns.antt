-- The columns of a loop while its packets are read: a value of a packet is the last of its name, the levels' names lie apart, and a full packet is the last
-- of its level.
use mathlib.Core.Path.{◌≡◌, refl, sym, ap, ◌∙◌}
use mathlib.Core.Bool.{Bool, true, false}
use mathlib.Core.List.{List, [], ◌∷◌, ◌++◌}
use Prim.Native.Nat.{ℕ, zero, suc, ◌+◌, ◌-◌, ◌≤◌, ◌<◌}
use native.Mathlib.Nat.{add-zero, add-suc, suc-add}
use native.Mathlib.Omega.{arith}
use borrow.Author.Tests.{eqb-true, eqb-false, ltb-true, ltb-false}
use lib.Dec.{eqb, ltb}
use lib.ListN.{length, get_or, set, length-append}
use lib.Seq.{get_or-set_same, get_or-set_other}
use Rattle.star_grammar.specs.Tables.{ValueRow, Rows, no_rows, next, pass, put_name, put_packet, put_value}
use Rattle.star_grammar.specs.Machine.{last_row}
use Rattle.star_grammar.proofs.Linking.{last-same, last-other}
use Rattle.star_parse.specs.Reader.{Unvalued, Between, name_at, in_packet, back_to, Columns, Filling}

-- the same distance from each value of a packet
pub back-same : (began j rows : ℕ) → back_to (in_packet began j) rows ≡ back_to began (rows - j)
unfolding in_packet back_to
back-same zero j rows = refl
back-same (suc b) j rows = ap (λ n. back_to n rows) (suc-add b j) ∙ (let e : rows - (b + j) ≡ rows - j - b = omega arith in e)

-- by cases: no packet, one that began past the rows, and another
pub back_none : (began rows : ℕ) → began ≡ 0 → 0 ≡ back_to began rows
unfolding back_to
back_none began rows e = rw e

pub back-past : (began rows : ℕ) → rows < began → 0 ≡ back_to began rows
unfolding back_to
back-past zero rows h = absurd (omega arith)
back-past (suc b) rows h = omega arith

pub back_some : (began rows : ℕ) → (began ≡ 0 → ⊥) → rows - (began - 1) ≡ back_to began rows
unfolding back_to
back_some zero rows n = absurd (n refl)
back_some (suc b) rows n = let e : rows - (suc b - 1) ≡ rows - b = omega arith in e

-- a distance is no more than the rows
pub back-bound : (began rows : ℕ) → back_to began rows ≤ rows
unfolding back_to
back-bound zero rows = omega arith
back-bound (suc b) rows = omega arith

module _ (base : ℕ) (counts : List ℕ) where
  -- the names of a later level come after those of an earlier one
  name-after : (i k : ℕ) → name_at base counts i + get_or counts i 0 ≤ name_at base counts (suc i + k)
  unfolding name_at
  name-after i zero = rw add-zero (omega arith)
  name-after i (suc k) = rw add-suc (omega (arith, name-after i k))

  name-later : (i j : ℕ) → i < j → name_at base counts i + get_or counts i 0 ≤ name_at base counts j
  name-later i j h = rw (let e : suc i + (j - suc i) ≡ j = omega arith in e) at (name-after i (j - suc i))

  -- names of different levels are different rows
  apart : (i k j f : ℕ) → (i ≡ k → ⊥) → j < get_or counts i 0 → f < get_or counts k 0 → name_at base counts k + f ≡ name_at base counts i + j → ⊥
  apart i k j f n a b e = go (ltb i k) refl
    where
      go : (t : Bool) → ltb i k ≡ t → ⊥
      go true q = omega (arith, name-later i k (ltb-true i k q), a, b, e)
      go false q = let h : k < i = omega (arith, n, ltb-false i k q) in omega (arith, name-later k i h, a, b, e)

  name-base : (i : ℕ) → base ≤ name_at base counts i
  unfolding name_at
  name-base zero = omega arith
  name-base (suc i) = omega (arith, name-base i)

  -- before the first packet of a loop
  pub columns-none : (levels : ℕ) (began : List ℕ) (rows : Rows) → ((i : ℕ) → get_or began i 0 ≡ 0) → Unvalued base rows
      → name_at base counts levels ≡ next rows.names → Columns base counts levels began rows
  unfolding in_packet
  columns-none levels began rows none u e = record {
    column = λ i j h k. u (name_at base counts i + j) (omega (arith, name-base i)) ∙ sym (ap (λ n. in_packet n j) (none i));
    ends = e;
    unvalued = λ name h. u name (omega (arith, name-base levels, e, h));
  }

  -- what makes no value row leaves the columns as they are
  pub columns-pass : (levels : ℕ) (began : List ℕ) (rows : Rows) → Columns base counts levels began rows → Columns base counts levels began (pass rows)
  unfolding pass
  columns-pass levels began rows c = record { column = c.column; ends = c.ends; unvalued = c.unvalued }

  pub columns-packet : (levels : ℕ) (began : List ℕ) (loop level parent : ℕ) (rows : Rows) → Columns base counts levels began rows
      → Columns base counts levels began (put_packet loop level parent rows)
  unfolding put_packet
  columns-packet levels began loop level parent rows c = record { column = c.column; ends = c.ends; unvalued = c.unvalued }

  module _ (levels level : ℕ) where
    -- a packet that has no value yet
    pub filling-none : (began : List ℕ) (rows : Rows) → level < levels → Columns base counts levels began rows → Filling base counts levels level 0 began rows
    filling-none began rows l c = record {
      enough = omega arith;
      own = λ j h. absurd (omega arith);
      still = λ j h k. c.column level j l k;
      other = λ i j h n k. c.column i j h k;
      ends = c.ends;
      unvalued = c.unvalued;
    }

    -- a packet that has them all
    pub filling-all : (began : List ℕ) (row : ℕ) (rows : Rows) → level < length began → Filling base counts levels level (get_or counts level 0) began rows
        → row + get_or counts level 0 ≡ suc (length rows.values) → Columns base counts levels (set began level row) rows
    unfolding in_packet
    filling-all began row rows l f e = record {
      column = λ i j h k. go i j h k (eqb i level) refl;
      ends = f.ends;
      unvalued = f.unvalued;
    }
      where
        starts : row ≡ suc (length rows.values - get_or counts level 0)
        starts = omega (arith, e, f.enough)

        go : (i j : ℕ) → i < levels → j < get_or counts i 0 → (t : Bool) → eqb i level ≡ t
            → last_row (name_at base counts i + j) rows.values ≡ in_packet (get_or (set began level row) i 0) j
        go i j h k true q =
            rw (eqb-true i level q, get_or-set_same began level row 0 l, starts)
            (f.own j (rw (← eqb-true i level q) k) ∙ sym (suc-add (length rows.values - get_or counts level 0) j))
        go i j h k false q = f.other i j h (eqb-false i level q) k ∙ ap (λ n. in_packet n j) (sym (get_or-set_other began level i row 0 (eqb-false i level q)))

    -- the next value of a packet
    module _ (filled name packet : ℕ) (began : List ℕ) (rows : Rows) (l : level < levels) (room : filled < get_or counts level 0)
        (is : name ≡ name_at base counts level + filled) (f : Filling base counts levels level filled began rows) where
      -- the last value of the name is in the last packet
      pub filling-back : (back : ℕ) → back ≡ back_to (get_or began level 0) (length rows.values - filled)
          → back ≡ back_to (last_row name rows.values) (length rows.values)
      filling-back back e =
          e ∙ sym (rw (is, f.still filled (omega arith) room) (back-same (get_or began level 0) filled (length rows.values)))

      pub filling-more : Filling base counts levels level (filled + 1) began (put_value name packet rows)
      unfolding put_value
      filling-more = record {
        enough = rw length-append (omega (arith, f.enough));
        own = λ j h. rw length-append (mine j h (eqb j filled) refl);
        still = λ j h k. last-other (name_at base counts level + j) rows.values x (λ e. omega (arith, is, e, h)) ∙ f.still j (omega arith) k;
        other = λ i j h n k.
            last-other (name_at base counts i + j) rows.values x (λ e. apart i level j filled n k room (sym is ∙ e)) ∙ f.other i j h n k;
        ends = f.ends;
        unvalued = λ m h. last-other m rows.values x (λ e. omega (arith, is, e, h, name-later level levels l, f.ends)) ∙ f.unvalued m h;
      }
        where
          x : ValueRow
          x = record { name = name; packet = packet; value = suc rows.tokens; next = 0 }

          mine : (j : ℕ) → j < filled + 1 → (t : Bool) → eqb j filled ≡ t
              → last_row (name_at base counts level + j) (rows.values ++ (x ∷ [])) ≡ suc (length rows.values + 1 - (filled + 1) + j)
          mine j h true q =
              last-same (name_at base counts level + j) rows.values x (is ∙ ap (λ n. name_at base counts level + n) (sym (eqb-true j filled q)))
              ∙ (let e : suc (length rows.values) ≡ suc (length rows.values + 1 - (filled + 1) + j) = omega (arith, f.enough, eqb-true j filled q) in e)
          mine j h false q =
              let n : (j ≡ filled → ⊥) = eqb-false j filled q in
              last-other (name_at base counts level + j) rows.values x (λ e. omega (arith, is, e, n))
              ∙ f.own j (omega (arith, h, n))
              ∙ (let e : suc (length rows.values - filled + j) ≡ suc (length rows.values + 1 - (filled + 1) + j) = omega (arith, f.enough) in e)

-- before the first token
pub between_none : Between no_rows
unfolding no_rows last_row
between_none name h = refl

-- an item's value is the only one of its name
pub item_back : (rows : Rows) → Unvalued (length rows.names) rows → 0 ≡ back_to (last_row (length rows.names) rows.values) (length rows.values)
unfolding back_to
item_back rows u = rw (u (length rows.names) (omega arith))

pub item-more : (packet : ℕ) (rows : Rows) → Unvalued (length rows.names) rows → Between (put_value (length rows.names) packet rows)
unfolding put_value
item-more packet rows u name h = last-other name rows.values _ (λ e. omega (arith, e, h)) ∙ u name (omega (arith, h))

-- a name that is put is the last
pub named_more : (set loop level : ℕ) (rows : Rows) → Between rows → Unvalued (length (put_name set loop level rows).names) (put_name set loop level rows)
unfolding put_name
named_more set loop level rows u name h = u name (omega (arith, h, length-append rows.names (record { set = set; name = suc rows.tokens; loop = loop; level = level } ∷ [])))
