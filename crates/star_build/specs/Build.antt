-- How an index is built, and what its builder gives: specification 19. Believed; the contract of `build` and the demands cite it.
use Rattle.std.specs.Prelude.{◌≡◌, cond, List, ℕ, zero, suc, eqb, ltb, length, replicate, set}
use Rattle.star_text.specs.Outcome.{Outcome, refused, accepted, then, need}
use Rattle.star_lex.specs.Tokens.{Placed}
use Rattle.star_grammar.specs.Tables.{Rows}
use Rattle.star_read.specs.Read.{FileRows, Sizes, read_of}
use Rattle.star_read.specs.Answer.{Tables, sizes, reading_of, Gives}
use Rattle.star_read.specs.declared.Answer.{Answer}
use Rattle.star_slots.specs.Slots.{slot_at, next_slot}
use Rattle.star_index.specs.Index.{row_home}

-- the first slot that holds 0, of so many from this one on
unfoldable pub first_free : List ℕ → (left at : ℕ) → ℕ
first_free slots zero at = at
first_free slots (suc left) at = cond (eqb (slot_at slots at) 0) at (first_free slots left (next_slot (length slots) at))

-- a row goes to the first 0 from its home
unfoldable pub entered : (home : ℕ → ℕ) → (row : ℕ) → List ℕ → List ℕ
entered home row slots = set slots (first_free slots (length slots) (home row)) row

-- so many rows, in order
unfoldable pub filled : (home : ℕ → ℕ) → List ℕ → (rows : ℕ) → List ℕ
filled home slots zero = slots
filled home slots (suc n) = entered home (suc n) (filled home slots n)

unfoldable pub built : List Placed → Rows → (slots : ℕ) → List ℕ
built ps rows slots = filled (row_home ps rows slots) (replicate slots 0) (length rows.names)

-- the builder reads first, with reading's refusals; then 7 with place 8 where slots are not more than names
unfoldable pub build_of : List ℕ → Sizes → (slots : ℕ) → Outcome (FileRows × List ℕ)
build_of file words slots =
    then (read_of file words) (λ read. need (ltb (length read.1.names) slots) 7 8 (accepted (read, built read.0 read.1 slots)))

-- what it leaves in the slots: on any refusal 0
unfoldable pub slots_of : Outcome (FileRows × List ℕ) → (slots : ℕ) → List ℕ
slots_of (refused n place) slots = replicate slots 0
slots_of (accepted (read, index)) slots = index

-- the contract of the builder: the answer, every word of the five tables, and every slot
pub record Builds (file : List ℕ) (before after : Tables) (slots left : List ℕ) (r : Answer) : Type 0 where
  pub gives : Gives (reading_of (build_of file (sizes before) (length slots))) before after r
  pub leaves : left ≡ slots_of (build_of file (sizes before) (length slots)) (length slots)
