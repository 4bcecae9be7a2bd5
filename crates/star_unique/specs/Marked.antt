-- Table 1 while repeats are looked for. For contracts of star_unique's inner functions.
use Rattle.std.specs.Prelude.{◌≡◌, Bool, true, false, List, ℕ, ◌+◌, ◌*◌, ◌≤◌, ◌<◌, length, get_or}
use Rattle.star_rows.specs.Widths.{token_width}
use Rattle.star_lex.specs.Holds.{Holds}
use Rattle.star_unique.specs.Chain.{held_table, bucket_at, latest, mark_at, taken_at, kinds_in, unmarked, token_by}

-- the spans are those of table 1
pub record Spans (file words : List ℕ) (count : ℕ) : Type 0 where
  pub table : Holds file (held_table file (length words)) count
  pub size : length (held_table file (length words)) ≡ length words
  pub starts : (m : ℕ) → get_or words (m * token_width + 1) 0 ≡ get_or (held_table file (length words)) (m * token_width + 1) 0
  pub ends : (m : ℕ) → get_or words (m * token_width + 2) 0 ≡ get_or (held_table file (length words)) (m * token_width + 2) 0

-- the spans are those of table 1, and no row is marked
pub record Plain (file words : List ℕ) (count : ℕ) : Type 0 where
  pub spans : Spans file words count
  pub small : (m : ℕ) → m < count → get_or words (m * token_width) 0 ≤ 12

-- of a table with these kinds the rows below n are marked, and no others
pub record Marked (file : List ℕ) (kinds : ℕ → ℕ) (words : List ℕ) (count n : ℕ) : Type 0 where
  pub spans : Spans file words count
  pub small : (m : ℕ) → m < count → kinds m ≤ 12
  pub marked : (m : ℕ) → m < n → get_or words (m * token_width) 0 ≡ mark_at (token_by file kinds) m
  pub ahead : (m : ℕ) → n ≤ m → m < count → get_or words (m * token_width) 0 ≡ kinds m

-- each bucket has the last row below n that lies in it
pub record Heads (file : List ℕ) (kinds : ℕ → ℕ) (heads : List ℕ) (n : ℕ) : Type 0 where
  pub size : length heads ≡ 4096
  pub last : (b : ℕ) → b < 4096 → get_or heads b 0 ≡ latest (bucket_at (token_by file kinds)) b n

-- a token was visited: where it is not taken, it is marked, and the kinds that are put back are those as before
abbrev pub Next : (file before : List ℕ) (count n : ℕ) → Bool → (words heads : List ℕ) → Type 0
Next file before count n true words heads = words ≡ before
Next file before count n false words heads =
    Marked file (kinds_in before) words count (n + 1) × Heads file (kinds_in before) heads (n + 1) × (unmarked (n + 1) words ≡ unmarked n before)

pub record Visited (file before : List ℕ) (count n : ℕ) (taken : Bool) (words heads : List ℕ) : Type 0 where
  pub says : taken ≡ taken_at (token_by file (kinds_in before)) n
  pub next : Next file before count n taken words heads
