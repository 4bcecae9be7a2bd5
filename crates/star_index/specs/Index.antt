-- What an index of name rows is, and what its check gives: specification 19. Believed; the contract of `check` and the demands cite it.
use Rattle.std.specs.Prelude.{◌≡◌, Bool, true, cond, not, ◌&&◌, ◌||◌, List, [], ◌∷◌, map, ℕ, zero, suc, ◌-◌, ◌≤◌, ◌<◌, eqb, leb, ltb, length, get_or}
use Rattle.star_text.specs.Outcome.{accepted, then, need}
use Rattle.star_lex.specs.Tokens.{Placed}
use Rattle.star_grammar.specs.Tables.{Rows}
use Rattle.star_read.specs.Read.{ReadOutcome, Sizes, read_of}
use Rattle.star_read.specs.Answer.{Tables, sizes, Gives}
use Rattle.star_read.specs.declared.Answer.{Answer}
use Rattle.star_find.specs.Demands.{content_of}
use Rattle.star_hash.specs.Hash.{home_of}
use Rattle.star_slots.specs.Slots.{slot_at}

-- the home of a name row of a reading among so many slots: by its set and its name
unfoldable pub row_home : List Placed → Rows → (slots row : ℕ) → ℕ
row_home ps rows slots row =
    home_of slots (get_or (map (λ r. r.set) rows.names) (row - 1) 0) (content_of ps (get_or (map (λ r. r.name) rows.names) (row - 1) 0))

-- a slot from a home to a row's own slot: between them or, where the own slot comes first, from the home to the end or from the start to the own slot
pub data FromTo (home own : ℕ) : (slot : ℕ) → Type 0 where
  between : (slot : ℕ) → home ≤ slot → slot ≤ own → FromTo home own slot
  to_end : (slot : ℕ) → own < home → home ≤ slot → FromTo home own slot
  from_start : (slot : ℕ) → own < home → slot ≤ own → FromTo home own slot

-- a row is in just one slot
pub record JustOne (slots : List ℕ) (row : ℕ) : Type 0 where
  pub at : ℕ
  pub inside : at < length slots
  pub holds : slot_at slots at ≡ row
  pub alone : (other : ℕ) → other < length slots → slot_at slots other ≡ row → other ≡ at

-- slots are an index of so many rows with these homes: there are more slots than rows, every row is in just one slot, no other number but 0 occurs, and
-- no slot from a row's home to its own is 0
pub record Indexed (rows : ℕ) (home : (row : ℕ) → ℕ) (slots : List ℕ) : Type 0 where
  pub more : rows < length slots
  pub once : (row : ℕ) → 1 ≤ row → row ≤ rows → JustOne slots row
  pub no_other : (at : ℕ) → at < length slots → slot_at slots at ≤ rows
  pub full : (at slot : ℕ) → at < length slots → slot < length slots → 1 ≤ slot_at slots at → FromTo (home (slot_at slots at)) at slot → 1 ≤ slot_at slots slot

-- the same, computed: what the check is equated with; `index-exactly` says without it what is accepted
unfoldable pub all_below : (n : ℕ) → (ℕ → Bool) → Bool
all_below zero test = true
all_below (suc n) test = all_below n test && test n

unfoldable pub is_from_to : (home own slot : ℕ) → Bool
is_from_to home own slot = cond (leb home own) (leb home slot && leb slot own) (leb home slot || leb slot own)

unfoldable pub occurrences : (row : ℕ) → List ℕ → ℕ
occurrences row [] = 0
occurrences row (x ∷ xs) = cond (eqb x row) (suc (occurrences row xs)) (occurrences row xs)

unfoldable pub is_full : (home own : ℕ) → List ℕ → Bool
is_full home own slots = all_below (length slots) (λ slot. not (is_from_to home own slot) || leb 1 (slot_at slots slot))

unfoldable pub is_indexed : (rows : ℕ) → (home : ℕ → ℕ) → (slots : List ℕ) → Bool
is_indexed rows home slots =
    ltb rows (length slots)
    && (all_below rows (λ i. eqb (occurrences (suc i) slots) 1)
    && (all_below (length slots) (λ at. leb (slot_at slots at) rows)
    && all_below (length slots) (λ at. eqb (slot_at slots at) 0 || is_full (home (slot_at slots at)) at slots)))

-- the check reads first, with reading's refusals; then 15, place 0, for slots that are no index of the reading's names
unfoldable pub check_of : List ℕ → Sizes → (slots : List ℕ) → ReadOutcome
check_of file words slots =
    then (read_of file words) (λ read. need (is_indexed (length read.1.names) (row_home read.0 read.1 (length slots)) slots) 15 0 (accepted read))

-- the contract of the check: the answer, and every word of the five tables; slots are lent to be read alone
abbrev pub Checks : (file slots : List ℕ) (before after : Tables) → Answer → Type 0
Checks file slots before after r = Gives (check_of file (sizes before) slots) before after r
