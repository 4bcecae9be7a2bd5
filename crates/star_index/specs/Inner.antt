-- How slots are checked in one pass, and how rows are marked while they are counted. For contracts of inner functions; what an index is, specs/Index.antt says.
use Rattle.std.specs.Prelude.{◌≡◌, Bool, true, false, cond, ◌&&◌, List, ℕ, zero, suc, ◌+◌, ◌*◌, ◌≤◌, ◌<◌, eqb, leb, ltb, length, get_or}
use Rattle.star_slots.specs.Slots.{slot_at}
use Rattle.star_index.specs.Index.{all_below}

-- where the run of full slots begins that ends before a slot
unfoldable pub run_start : List ℕ → (at : ℕ) → ℕ
run_start slots zero = 0
run_start slots (suc at) = cond (eqb (slot_at slots at) 0) (suc at) (run_start slots at)

-- all slots from a home to a full slot are full: `begin` is where the run before that slot begins, and `last` where the one before the end does
unfoldable pub in_run : (begin last home at : ℕ) → Bool
in_run begin last home at = cond (leb home at) (leb begin home) (eqb begin 0 && leb last home)

-- a slot is 0, or holds a row whose home is in its run
unfoldable pub slot_fits : (rows : ℕ) → (home : ℕ → ℕ) → (last begin row at : ℕ) → Bool
slot_fits rows home last begin row at = cond (eqb row 0) true (cond (ltb rows row) false (in_run begin last (home row) at))

-- the first so many slots do
unfoldable pub slots_fit : (rows : ℕ) → (home : ℕ → ℕ) → List ℕ → (n : ℕ) → Bool
slots_fit rows home slots n = all_below n (λ at. slot_fits rows home (run_start slots (length slots)) (run_start slots at) (slot_at slots at) at)

-- the mark of a name row, in its second word: above every token row
abbrev pub mark : ℕ
mark = 2147483648

-- the place of that word, rows counted from 0
abbrev pub place_of : ℕ → ℕ
place_of i = i * 4 + 1

-- a table of so many name rows that are not marked
pub record Unmarked (names : List ℕ) (rows : ℕ) : Type 0 where
  pub room : rows * 4 ≤ length names
  pub low : (i : ℕ) → i < rows → get_or names (place_of i) 0 < mark

-- a row is in one of the first so many slots
abbrev pub Seen : List ℕ → (n row : ℕ) → Type 0
Seen slots n row = (at : ℕ) × (at < n) × (slot_at slots at ≡ row)

-- the rows in the first so many slots are marked, and nothing else is changed
pub record Marked (slots : List ℕ) (n rows : ℕ) (before after : List ℕ) : Type 0 where
  pub size : length after ≡ length before
  pub seen : (i : ℕ) → i < rows → Seen slots n (suc i) → get_or after (place_of i) 0 ≡ get_or before (place_of i) 0 + mark
  pub unseen : (i : ℕ) → i < rows → (Seen slots n (suc i) → ⊥) → get_or after (place_of i) 0 ≡ get_or before (place_of i) 0
  pub others : (p : ℕ) → ((i : ℕ) → i < rows → p ≡ place_of i → ⊥) → get_or after p 0 ≡ get_or before p 0

-- no row is in two of the first so many slots
abbrev pub Apart : List ℕ → (n : ℕ) → Type 0
Apart slots n = (a b : ℕ) → a < b → b < n → 1 ≤ slot_at slots b → slot_at slots a ≡ slot_at slots b → ⊥

-- a mark is taken away from the first so many rows, and nothing else is changed
pub record Cleaned (n : ℕ) (before after : List ℕ) : Type 0 where
  pub size : length after ≡ length before
  pub cleaned : (i : ℕ) → i < n → get_or after (place_of i) 0 + mark ≡ get_or before (place_of i) 0
  pub others : (p : ℕ) → ((i : ℕ) → i < n → p ≡ place_of i → ⊥) → get_or after p 0 ≡ get_or before p 0
