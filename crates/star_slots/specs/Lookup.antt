-- Lookup by name through an index, in tables and slots that are not trusted: specification 19.4. Believed; the contract of `find` and the demands cite it.
use Rattle.std.specs.Prelude.{ℕ, zero, suc, Bool, false, cond, List, length, ◌==◌, nat_lt}
use Rattle.std.proofs.Math.Option.{Option}
use Rattle.star_rows.specs.Widths.{name_width}
use Rattle.star_rows.specs.Rows.{word_of}
use Rattle.star_find.specs.Find.{Lent, content_at, refused, meet, is_wanted, row_there, ask_on}
use Rattle.star_rows.specs.declared.Counts.{Counts}
use Rattle.star_find.specs.declared.Found.{Found}
use Rattle.star_hash.specs.Hash.{home_of}
use Rattle.star_slots.specs.Slots.{slot_at, next_slot}

-- so many slots from this one on: 13 at a 0 or when no slot is left, 14 at a number above the name count; a row of another set is passed over
unfoldable pub probe : (slots : List ℕ) → (rows : ℕ) → (is_one : ℕ → Bool) → (content : ℕ → Option (List ℕ)) → (wanted : List ℕ) → (left at : ℕ) → Found
probe slots rows is_one content wanted zero at = refused 13
probe slots rows is_one content wanted (suc left) at =
    let row : ℕ = slot_at slots at in
    let others : Found = probe slots rows is_one content wanted left (next_slot (length slots) at) in
    cond (row == 0) (refused 13) (cond (nat_lt rows row) (refused 14) (cond (is_one row) (meet wanted row (content row) others) others))

-- a set's own names in these tables, from the home slot round once
unfoldable pub slot_ask : (file tokens : List ℕ) → (count : ℕ) → (names : List ℕ) → (rows : ℕ) → (slots name : List ℕ) → (set : ℕ) → Found
slot_ask file tokens count names rows slots name set =
    probe slots rows (is_wanted names name_width set false 0) (λ row. content_at file tokens count (word_of names name_width row 1)) name (length slots)
    (home_of (length slots) set name)

unfoldable pub slot_name : Lent → Counts → (slots name : List ℕ) → (set : ℕ) → Found
slot_name l c slots name set = slot_ask l.file l.tokens c.tokens l.names c.names slots name set

-- plain lookup's checks first; then the set and, where a data block answers 13, the global blocks before it
unfoldable pub find_slot : Lent → Counts → (slots : List ℕ) → (set : ℕ) → (name : List ℕ) → Found
find_slot l c slots set name = cond (row_there l c c.sets set) (ask_on l.sets (slot_name l c slots name) set) (refused 14)
