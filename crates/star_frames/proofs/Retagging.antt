-- Laws of a table whose kinds are changed: what each of its words is, and that those are all of them.
use mathlib.Core.Path.{◌≡◌, refl, sym, ◌∙◌, subst}
use mathlib.Core.Bool.{Bool, true, false}
use mathlib.Core.List.{List}
use Prim.Native.Nat.{ℕ, zero, suc, ◌+◌, ◌*◌, ◌≤◌, ◌<◌}
use native.Mathlib.Numerals.{add-one}
use native.Mathlib.Omega.{arith}
use lib.Dec.{eqb, ltb}
use borrow.Author.Tests.{eqb-true, eqb-false, ltb-true, ltb-false}
use lib.ListN.{length, get_or, set, length-set}
use lib.Seq.{ext_get_or, get_or-set_same, get_or-set_other}
use Rattle.star_rows.specs.Widths.{token_width}
use Rattle.star_frames.specs.Frames.{kind_of, retagged}

-- the first rows of a table, so many, have these kinds, and every other word is as it was: by the places
pub record Retagged (kinds : ℕ → ℕ) (count : ℕ) (before after : List ℕ) : Type 0 where
  pub size : length after ≡ length before
  pub rows : (m : ℕ) → m < count → kind_of after m ≡ kinds m
  pub later : (m : ℕ) → count ≤ m → kind_of after m ≡ kind_of before m
  pub starts : (m : ℕ) → get_or after (m * token_width + 1) 0 ≡ get_or before (m * token_width + 1) 0
  pub ends : (m : ℕ) → get_or after (m * token_width + 2) 0 ≡ get_or before (m * token_width + 2) 0

-- a kind that is written
kind-set : (kinds : ℕ → ℕ) (words : List ℕ) (n m : ℕ) → n * 3 < length words → (m < n → kind_of words m ≡ kinds m) → m < suc n
    → kind_of (set words (n * 3) (kinds n)) m ≡ kinds m
kind-set kinds words n m room before h = go (eqb m n) refl
  where
    go : (b : Bool) → eqb m n ≡ b → kind_of (set words (n * 3) (kinds n)) m ≡ kinds m
    go true e =
        let q : m ≡ n = eqb-true m n e in
        rw q (get_or-set_same words (n * 3) (kinds n) 0 room)
    go false e =
        let d : (m ≡ n → ⊥) = eqb-false m n e in
        get_or-set_other words (n * 3) (m * 3) (kinds n) 0 (λ q. omega arith) ∙ before (omega arith)

module _ (kinds : ℕ → ℕ) (words : List ℕ) where
  pub retagged-length : (count : ℕ) → length (retagged kinds count words) ≡ length words
  unfolding retagged
  retagged-length zero = refl
  retagged-length (suc n) = length-set (retagged kinds n words) (n * 3) (kinds n) ∙ retagged-length n

  pub retagged-row : (count m : ℕ) → count * 3 ≤ length words → m < count → kind_of (retagged kinds count words) m ≡ kinds m
  unfolding retagged
  retagged-row zero m h l = absurd (omega arith)
  retagged-row (suc n) m h l = kind-set kinds (retagged kinds n words) n m (omega (arith, retagged-length n)) (λ k. retagged-row n m (omega arith) k) l

  pub retagged-later : (count m : ℕ) → count ≤ m → kind_of (retagged kinds count words) m ≡ kind_of words m
  unfolding retagged
  retagged-later zero m h = refl
  retagged-later (suc n) m h = get_or-set_other (retagged kinds n words) (n * 3) (m * 3) (kinds n) 0 (λ e. omega arith) ∙ retagged-later n m (omega arith)

  -- a word that is no kind
  retagged-other : (count i : ℕ) → ((m : ℕ) → i ≡ m * 3 → ⊥) → get_or (retagged kinds count words) i 0 ≡ get_or words i 0
  unfolding retagged
  retagged-other zero i h = refl
  retagged-other (suc n) i h = get_or-set_other (retagged kinds n words) (n * 3) i (kinds n) 0 (h n) ∙ retagged-other n i h

  pub retagged-start : (count m : ℕ) → get_or (retagged kinds count words) (m * 3 + 1) 0 ≡ get_or words (m * 3 + 1) 0
  retagged-start count m = retagged-other count (m * 3 + 1) (λ k e. omega arith)

  pub retagged-end : (count m : ℕ) → get_or (retagged kinds count words) (m * 3 + 2) 0 ≡ get_or words (m * 3 + 2) 0
  retagged-end count m = retagged-other count (m * 3 + 2) (λ k e. omega arith)

  pub retagged-by : (count : ℕ) → count * 3 ≤ length words → Retagged kinds count words (retagged kinds count words)
  retagged-by count room = record {
    size = retagged-length count;
    rows = λ m h. retagged-row count m room h;
    later = λ m h. retagged-later count m h;
    starts = λ m. retagged-start count m;
    ends = λ m. retagged-end count m;
  }

  -- one row more, as a write of its kind
  pub retag-turn : (now : List ℕ) (n v : ℕ) → now ≡ retagged kinds n words → v ≡ kinds n → set now (n * 3) v ≡ retagged kinds (n + 1) words
  unfolding retagged
  retag-turn now n v e q = rw (add-one n, e, q)

-- every place is a kind word, or a word of a span
data Place : ℕ → Type 0 where
  kind : (m : ℕ) → Place (m * 3)
  start : (m : ℕ) → Place (m * 3 + 1)
  end : (m : ℕ) → Place (m * 3 + 2)

place : (i : ℕ) → Place i
place zero = subst Place (omega arith) (kind 0)
place (suc i) = next i (place i)
  where
    next : (i : ℕ) → Place i → Place (suc i)
    next j (kind m) = subst Place (omega arith) (start m)
    next j (start m) = subst Place (omega arith) (end m)
    next j (end m) = subst Place (omega arith) (kind (suc m))

-- two tables that are equal at each place are equal
pub same-table : (left right : List ℕ) → length left ≡ length right → ((m : ℕ) → kind_of left m ≡ kind_of right m)
    → ((m : ℕ) → get_or left (m * token_width + 1) 0 ≡ get_or right (m * token_width + 1) 0) → ((m : ℕ) → get_or left (m * token_width + 2) 0 ≡ get_or right (m * token_width + 2) 0)
    → left ≡ right
same-table left right size kinds starts ends = ext_get_or 0 left right size (λ i h. word i (place i))
  where
    word : (i : ℕ) → Place i → get_or left i 0 ≡ get_or right i 0
    word i (kind m) = kinds m
    word i (start m) = starts m
    word i (end m) = ends m

-- one table has these kinds over another
pub retagged-only : (kinds : ℕ → ℕ) (count : ℕ) (before after other : List ℕ) → Retagged kinds count before after → Retagged kinds count before other → after ≡ other
retagged-only kinds count before after other k j =
    same-table after other (k.size ∙ sym j.size) (λ m. row m (ltb m count) refl) (λ m. k.starts m ∙ sym (j.starts m)) (λ m. k.ends m ∙ sym (j.ends m))
  where
    row : (m : ℕ) (b : Bool) → ltb m count ≡ b → kind_of after m ≡ kind_of other m
    row m true e = k.rows m (ltb-true m count e) ∙ sym (j.rows m (ltb-true m count e))
    row m false e = k.later m (ltb-false m count e) ∙ sym (j.later m (ltb-false m count e))

pub retagged-is : (kinds : ℕ → ℕ) (count : ℕ) (before after : List ℕ) → count * 3 ≤ length before → Retagged kinds count before after → after ≡ retagged kinds count before
retagged-is kinds count before after room k =
    retagged-only kinds count before after (retagged kinds count before) k (retagged-by kinds before count room)
