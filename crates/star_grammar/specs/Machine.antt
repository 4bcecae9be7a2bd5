-- The reader's states and steps over sorts of tokens, and the last value row of a name. For contracts: star_parse's and star_read's. An aid: what is accepted and what the tables hold is said by trees, and no demand cites the machine.
use Rattle.std.specs.Prelude.{Bool, cond, ◌&&◌, ℕ, zero, suc, ◌+◌, eqb, ltb, length}
use mathlib.Core.List.{List, [], ◌∷◌, reverse_aux}
use Rattle.star_lex.specs.Rules.{Rules}
use Rattle.star_lex.specs.Tokens.{Token}
use Rattle.star_grammar.specs.Tables.{ValueRow, Rows, pass, open_loop, put_set, put_name, put_packet, put_value, linked, next}

pub data Sort : Type 0 where
  block global frame frame_end loop stop name value : Sort

-- the sort of a kind of token
unfoldable pub sort_of : ℕ → Sort
sort_of kind =
    cond (eqb kind 1) block
    (cond (eqb kind 2) frame
    (cond (eqb kind 3) frame_end
    (cond (eqb kind 4) loop (cond (eqb kind 5) stop (cond (eqb kind 6) name (cond (eqb kind 12) global value))))))

-- the set that is open: a data block or a global block, or a frame of one
pub data Where : Type 0 where
  in_block : (set : ℕ) → Where
  in_frame : (block set : ℕ) → Where

unfoldable pub set_of : Where → ℕ
set_of (in_block s) = s
set_of (in_frame b s) = s

-- a level whose packet is open around the current one: its number of names, its first name row, its packet
pub record Level : Type 0 where
  pub names : ℕ
  pub first : ℕ
  pub packet : ℕ

unfoldable pub parent_of : List Level → ℕ
parent_of [] = 0
parent_of (l ∷ ls) = l.packet

-- before the first block; in a set between its entries; after an item's name; in a loop's header: its first name row, the numbers of names of
-- the levels before (innermost first), those of the current one, header stops so far; in a loop's packets: the levels around (innermost
-- first), the current one with the packet begun, the numbers of names of the deeper ones, and how many values the packet has (0: no packet is begun)
pub data State : Type 0 where
  start : State
  within : Where → State
  named : Where → State
  header : Where → (first : ℕ) → (before : List ℕ) → (names stops : ℕ) → State
  body : Where → (outer : List Level) → (now : Level) → (inner : List ℕ) → (filled : ℕ) → State

pub data Step : Type 0 where
  go : State → Rows → Step
  refuse : ℕ → Step

-- between the entries of a set
unfoldable pub between : Where → Sort → Rows → Step
between (in_block s) block r = go (within (in_block (next r.sets))) (put_set 1 0 r)
between (in_block s) global r = go (within (in_block (next r.sets))) (put_set 3 0 r)
between (in_block s) frame r = go (within (in_frame s (next r.sets))) (put_set 2 s r)
between (in_block s) frame_end r = refuse 8
between (in_block s) loop r = go (header (in_block s) (next r.names) [] 0 0) (open_loop r)
between (in_block s) stop r = refuse 8
between (in_block s) name r = go (named (in_block s)) (put_name s 0 0 r)
between (in_block s) value r = refuse 8
between (in_frame b s) block r = refuse 8
between (in_frame b s) global r = refuse 8
between (in_frame b s) frame r = refuse 8
between (in_frame b s) frame_end r = go (within (in_block b)) (pass r)
between (in_frame b s) loop r = go (header (in_frame b s) (next r.names) [] 0 0) (open_loop r)
between (in_frame b s) stop r = refuse 8
between (in_frame b s) name r = go (named (in_frame b s)) (put_name s 0 0 r)
between (in_frame b s) value r = refuse 8

-- after the last value of a packet: the deeper level, if there is one
unfoldable pub filled : Where → List Level → Level → List ℕ → State
filled w outer l [] = body w outer l [] 0
filled w outer l (m ∷ inner) = body w (l ∷ outer) (record { names = m; first = l.first + l.names; packet = 0 }) inner 0

-- the next value of a packet that has so many already
unfoldable pub fill : Where → List Level → Level → List ℕ → ℕ → Rows → Step
fill w outer l inner f r =
    go (cond (ltb (suc f) l.names) (body w outer l inner (suc f)) (filled w outer l inner)) (put_value (l.first + f) l.packet r)

-- a value at a level: the first of a packet begins it
unfoldable pub value_at : Where → List Level → Level → List ℕ → ℕ → Rows → Step
value_at w outer l inner zero r =
    fill w outer (record { names = l.names; first = l.first; packet = next r.packets }) inner 0
    (put_packet r.loops (suc (length outer)) (parent_of outer) r)
value_at w outer l inner (suc f) r = fill w outer l inner (suc f) r

-- the first value of a loop: the levels' counts from level 1 on
unfoldable pub begin : Where → (first : ℕ) → List ℕ → Rows → Step
begin w first [] r = refuse 8
begin w first (m ∷ inner) r = value_at w [] (record { names = m; first = first; packet = 0 }) inner 0 r

unfoldable pub header_step : (rules : Rules) → Where → (first : ℕ) → List ℕ → (names stops : ℕ) → Sort → Rows → Step
header_step rules w first before n s block r = refuse 8
header_step rules w first before n s global r = refuse 8
header_step rules w first before n s frame r = refuse 8
header_step rules w first before n s frame_end r = refuse 8
header_step rules w first before n s loop r =
    cond (ltb 0 n && eqb s 0)
    (cond (ltb (suc (length before)) rules.levels) (go (header w first (n ∷ before) 0 0) (pass r)) (refuse 11))
    (refuse 8)
header_step rules w first before n s stop r =
    cond (ltb 0 n && ltb s (length before)) (cond rules.header_stops (go (header w first before n (suc s)) (pass r)) (refuse 16)) (refuse 8)
header_step rules w first before n s name r =
    cond (eqb s 0) (go (header w first before (suc n) 0) (put_name (set_of w) r.loops (suc (length before)) r)) (refuse 8)
header_step rules w first before n s value r = cond (ltb 0 n) (begin w first (reverse_aux before (n ∷ [])) r) (refuse 8)

-- no packet is begun and no value comes: an open inner level takes `stop_` alone
unfoldable pub no_value : Where → List Level → Level → List ℕ → Sort → Rows → Step
no_value w [] l inner k r = between w k r
no_value w (o ∷ outer) l inner block r = refuse 10
no_value w (o ∷ outer) l inner global r = refuse 10
no_value w (o ∷ outer) l inner frame r = refuse 10
no_value w (o ∷ outer) l inner frame_end r = refuse 10
no_value w (o ∷ outer) l inner loop r = refuse 10
no_value w (o ∷ outer) l inner stop r = go (body w outer o (l.names ∷ inner) 0) (pass r)
no_value w (o ∷ outer) l inner name r = refuse 10
no_value w (o ∷ outer) l inner value r = refuse 10

-- a packet that is begun and not full takes values alone
unfoldable pub no_value_at : Where → List Level → Level → List ℕ → ℕ → Sort → Rows → Step
no_value_at w outer l inner zero k r = no_value w outer l inner k r
no_value_at w outer l inner (suc f) k r = refuse 10

unfoldable pub body_step : Where → List Level → Level → List ℕ → ℕ → Sort → Rows → Step
body_step w outer l inner f block r = no_value_at w outer l inner f block r
body_step w outer l inner f global r = no_value_at w outer l inner f global r
body_step w outer l inner f frame r = no_value_at w outer l inner f frame r
body_step w outer l inner f frame_end r = no_value_at w outer l inner f frame_end r
body_step w outer l inner f loop r = no_value_at w outer l inner f loop r
body_step w outer l inner f stop r = no_value_at w outer l inner f stop r
body_step w outer l inner f name r = no_value_at w outer l inner f name r
body_step w outer l inner f value r = value_at w outer l inner f r

unfoldable pub start_step : Sort → Rows → Step
start_step block r = go (within (in_block (next r.sets))) (put_set 1 0 r)
start_step global r = go (within (in_block (next r.sets))) (put_set 3 0 r)
start_step frame r = refuse 8
start_step frame_end r = refuse 8
start_step loop r = refuse 8
start_step stop r = refuse 8
start_step name r = refuse 8
start_step value r = refuse 8

unfoldable pub named_step : Where → Sort → Rows → Step
named_step w block r = refuse 8
named_step w global r = refuse 8
named_step w frame r = refuse 8
named_step w frame_end r = refuse 8
named_step w loop r = refuse 8
named_step w stop r = refuse 8
named_step w name r = refuse 8
named_step w value r = go (within w) (put_value (length r.names) 0 r)

-- a step at a sort, by the rules
unfoldable pub step : (rules : Rules) → State → Sort → Rows → Step
step rules start k r = start_step k r
step rules (within w) k r = between w k r
step rules (named w) k r = named_step w k r
step rules (header w first before n s) k r = header_step rules w first before n s k r
step rules (body w outer l inner f) k r = body_step w outer l inner f k r

-- a step at a kind of token
abbrev pub step_at : (rules : Rules) → State → (kind : ℕ) → Rows → Step
step_at rules st kind r = step rules st (sort_of kind) r

-- what a run gives: refusal and how many tokens stand before the bad one, or the rows
pub data Run : Type 0 where
  bad : (number tokens : ℕ) → Run
  good : Rows → Run

-- the end between the entries of a set: all rows are known, and value rows are linked
unfoldable pub end_between : Where → Rows → Run
end_between (in_block s) r = good (linked r)
end_between (in_frame b s) r = bad 8 r.tokens

unfoldable pub end_body : Where → List Level → ℕ → Rows → Run
end_body w [] zero r = end_between w r
end_body w [] (suc f) r = bad 10 r.tokens
end_body w (o ∷ outer) f r = bad 10 r.tokens

unfoldable pub end_run : State → Rows → Run
end_run start r = good (linked r)
end_run (within w) r = end_between w r
end_run (named w) r = bad 8 r.tokens
end_run (header w first before n s) r = bad 8 r.tokens
end_run (body w outer l inner f) r = end_body w outer f r

unfoldable pub run : (rules : Rules) → State → List Token → Rows → Run
run rules st [] r = end_run st r
run rules st (t ∷ ts) r = elim (step_at rules st t.kind r) [ go s r' ↦ run rules s ts r' | refuse n ↦ bad n r.tokens ]

-- the state and the rows after tokens
unfoldable pub walk : (rules : Rules) → State → List Token → Rows → Step
walk rules st [] r = go st r
walk rules st (t ∷ ts) r = elim (step_at rules st t.kind r) [ go s r' ↦ walk rules s ts r' | refuse n ↦ refuse n ]

-- the number of a row in a list, from whether the first is one and its number in those after the first, 0 for none
unfoldable pub later_or : (first : Bool) → (later : ℕ) → ℕ
later_or first zero = cond first 1 0
later_or first (suc later) = suc (suc later)

-- the number of the last of these value rows that is of a name; 0 where none is
unfoldable pub last_row : (name : ℕ) → List ValueRow → ℕ
last_row wanted [] = 0
last_row wanted (v ∷ vs) = later_or (eqb v.name wanted) (last_row wanted vs)
