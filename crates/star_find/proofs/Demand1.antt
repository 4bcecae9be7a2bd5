-- Demand 1, of lookup: a search answers one of its rows, 13 or 14.
use mathlib.Core.Bool.{Bool, true, false, cond}
use mathlib.Core.List.{List}
use mathlib.Core.Option.{Option, none, some}
use Prim.Native.Nat.{ℕ, zero, suc, ◌+◌, ◌-◌, ◌≤◌}
use native.Mathlib.Nat.{add-suc, suc-add, zero-add}
use native.Mathlib.Omega.{arith}
use lib.Dec.{eqb}
use Rattle.star_rows.specs.Rows.{word_of}
use Rattle.star_text.specs.Names.{same}
use Rattle.star_find.specs.Find.{Lent, content_at, found, refused, meet, seek, is_wanted, look, counts_fit, row_there, own_name, or_else, ask_globals, ask_on, find_name, find_block, find_frame}
use Rattle.star_find.specs.Demands.{RowAnswer, LookupsAnswer}
use Rattle.star_rows.specs.declared.Counts.{Counts}
use Rattle.star_find.specs.declared.Found.{Found}

pub answer-cond : {rows : ℕ} {a b : Found} (t : Bool) → RowAnswer rows a → RowAnswer rows b → RowAnswer rows (cond t a b)
answer-cond true p q = p
answer-cond false p q = q

pub outside : {rows : ℕ} → RowAnswer rows (refused 14)
unfolding refused
outside = RowAnswer.outside

pub meet-answers : (rows row : ℕ) → 1 ≤ row → row ≤ rows → (wanted : List ℕ) (o : Option (List ℕ)) {others : Found} → RowAnswer rows others
    → RowAnswer rows (meet wanted row o others)
unfolding meet found
meet-answers rows row low high wanted none p = outside
meet-answers rows row low high wanted (some c) p = answer-cond (same c wanted) (RowAnswer.at row low high) p

seek-answers : (is_one : ℕ → Bool) (content : ℕ → Option (List ℕ)) (wanted : List ℕ) (left row : ℕ)
    → RowAnswer (row + left) (seek is_one content wanted left (suc row))
unfolding seek refused
seek-answers is_one content wanted zero row = RowAnswer.nowhere
seek-answers is_one content wanted (suc left) row =
    let later : RowAnswer (row + suc left) (seek is_one content wanted left (suc (suc row)))
    = rw (add-suc, ← suc-add) (seek-answers is_one content wanted left (suc row)) in
    answer-cond (is_one (suc row)) (meet-answers (row + suc left) (suc row) (omega arith) (omega arith) wanted (content (suc row)) later) later

look-answers : (l : Lent) (c : Counts) (table : List ℕ) (width first : ℕ) (by_parent : Bool) (parent : ℕ) (wanted : List ℕ) (rows : ℕ)
    → RowAnswer rows (look l c table width first by_parent parent wanted rows)
unfolding look
look-answers l c table width first by_parent parent wanted rows =
    rw zero-add at (seek-answers (is_wanted table width first by_parent parent)
    (λ row. content_at l.file l.tokens c.tokens (word_of table width row 1)) wanted rows 0)

or-answers : {rows : ℕ} (f g : Found) → RowAnswer rows f → RowAnswer rows g → RowAnswer rows (or_else f g)
unfolding or_else
or-answers f g p q = answer-cond (eqb f.refusal 13) q p

-- sets that are asked one after the other
module _ {rows : ℕ} (sets : List ℕ) (ask : ℕ → Found) (each : (set : ℕ) → RowAnswer rows (ask set)) where
  globals-answer : (n : ℕ) → RowAnswer rows (ask_globals sets ask n)
  unfolding ask_globals refused
  globals-answer zero = RowAnswer.nowhere
  globals-answer (suc n) =
      answer-cond (eqb (word_of sets 3 (suc n) 0) 3) (or-answers (ask (suc n)) (ask_globals sets ask n) (each (suc n)) (globals-answer n)) (globals-answer n)

  pub on-answers : (set : ℕ) → RowAnswer rows (ask_on sets ask set)
  unfolding ask_on refused
  on-answers set =
      or-answers (ask set) _ (each set) (answer-cond (eqb (word_of sets 3 set 0) 1) (globals-answer (set - 1)) RowAnswer.nowhere)

own-answers : (l : Lent) (c : Counts) (name : List ℕ) (set : ℕ) → RowAnswer c.names (own_name l c name set)
unfolding own_name
own-answers l c name set = look-answers l c l.names 4 set false 0 name c.names

pub lookups-answer : LookupsAnswer
unfolding find_block find_frame find_name
lookups-answer l c = (
  λ code. answer-cond (counts_fit l c) (look-answers l c l.sets 3 1 false 0 code c.sets) outside,
  λ set code. answer-cond (row_there l c c.sets set) (look-answers l c l.sets 3 2 true set code c.sets) outside,
  λ set name. answer-cond (row_there l c c.sets set) (on-answers l.sets (own_name l c name) (own-answers l c name) set) outside,
)
