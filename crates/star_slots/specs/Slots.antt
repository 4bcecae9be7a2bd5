-- What a slot holds, and the slot after one: specification 19. Believed; lookup through slots, what an index is and what is built cite it.
use Rattle.std.specs.Prelude.{ℕ, suc, cond, List, nat_lt, slice_index}

-- what a slot holds
abbrev pub slot_at : List ℕ → ℕ → ℕ
slot_at slots at = slice_index slots at

-- the slot after one, of so many: after the last the first
unfoldable pub next_slot : (slots at : ℕ) → ℕ
next_slot slots at = cond (nat_lt (suc at) slots) (suc at) 0
