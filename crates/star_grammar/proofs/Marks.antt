-- Whether a value has come since the last name or `loop_` goes along with the states: in a loop's packets one has, after an item's name and in
-- a header none has.
use mathlib.Core.Path.{◌≡◌, refl}
use mathlib.Core.Bool.{Bool, true, false, ◌&&◌}
use mathlib.Core.List.{List, [], ◌∷◌, reverse_aux}
use Prim.Native.Nat.{ℕ, zero, suc}
use lib.Dec.{eqb, ltb}
use lib.ListN.{length}
use Rattle.star_lex.specs.Rules.{Rules}
use Rattle.star_lex.specs.Tokens.{Token}
use Rattle.star_grammar.specs.Tables.{Rows}
use Rattle.star_grammar.specs.Machine.{Sort, sort_of, Where, in_block, in_frame, Level, State, start, within, named, header, body, Step, go, between, filled, fill, value_at, begin, header_step, no_value, no_value_at, body_step, start_step, named_step, step, walk}
use Rattle.star_grammar.proofs.Sane.{Taken, taken-cond, cond-case}
use Rattle.star_grammar.proofs.Alive.{walk-induction}
use Rattle.star_grammar.proofs.Refusals.{InPacket}

-- whether a value has come since the last name or `loop_`, after one token more
abbrev pub mark : Sort → Bool → Bool
mark Sort.block b = b
mark Sort.global b = b
mark Sort.frame b = b
mark Sort.frame_end b = b
mark Sort.loop b = false
mark Sort.stop b = b
mark Sort.name b = false
mark Sort.value b = true

-- and after tokens
abbrev pub marks : Bool → List Token → Bool
marks b [] = b
marks b (t ∷ ts) = marks (mark (sort_of t.kind) b) ts

-- what a state tells of it
abbrev pub Marked : State → Bool → Type 0
Marked start b = b ≡ false
Marked (within w) b = Unit {0}
Marked (named w) b = b ≡ false
Marked (header w first before n s) b = b ≡ false
Marked (body w outer l inner f) b = b ≡ true

abbrev TakenMarked : Sort → Bool → Step → Type 0
TakenMarked k b x = Taken (λ s. Marked s (mark k b)) x

between-marked : (w : Where) (k : Sort) (r : Rows) (b : Bool) → TakenMarked k b (between w k r)
unfolding between
between-marked (in_block s) Sort.block r b = tt
between-marked (in_block s) Sort.global r b = tt
between-marked (in_block s) Sort.frame r b = tt
between-marked (in_block s) Sort.frame_end r b = tt
between-marked (in_block s) Sort.loop r b = refl
between-marked (in_block s) Sort.stop r b = tt
between-marked (in_block s) Sort.name r b = refl
between-marked (in_block s) Sort.value r b = tt
between-marked (in_frame c s) Sort.block r b = tt
between-marked (in_frame c s) Sort.global r b = tt
between-marked (in_frame c s) Sort.frame r b = tt
between-marked (in_frame c s) Sort.frame_end r b = tt
between-marked (in_frame c s) Sort.loop r b = refl
between-marked (in_frame c s) Sort.stop r b = tt
between-marked (in_frame c s) Sort.name r b = refl
between-marked (in_frame c s) Sort.value r b = tt

filled-marked : (w : Where) (outer : List Level) (l : Level) (inner : List ℕ) → Marked (filled w outer l inner) true
unfolding filled
filled-marked w outer l [] = refl
filled-marked w outer l (m ∷ inner) = refl

fill-marked : (w : Where) (outer : List Level) (l : Level) (inner : List ℕ) (f : ℕ) (r : Rows) → Taken (λ s. Marked s true) (fill w outer l inner f r)
unfolding fill
fill-marked w outer l inner f r =
    cond-case (λ s. Marked s true) (ltb (suc f) l.names) (body w outer l inner (suc f)) (filled w outer l inner) (λ e. refl)
    (λ e. filled-marked w outer l inner)

value-marked : (w : Where) (outer : List Level) (l : Level) (inner : List ℕ) (f : ℕ) (r : Rows) → Taken (λ s. Marked s true) (value_at w outer l inner f r)
unfolding value_at
value-marked w outer l inner zero r = fill-marked w outer _ inner 0 _
value-marked w outer l inner (suc f) r = fill-marked w outer l inner (suc f) r

begin-marked : (w : Where) (first : ℕ) (ls : List ℕ) (r : Rows) → Taken (λ s. Marked s true) (begin w first ls r)
unfolding begin
begin-marked w first [] r = tt
begin-marked w first (m ∷ inner) r = value-marked w [] _ inner 0 r

header-marked : (rules : Rules) (w : Where) (first : ℕ) (before : List ℕ) (n s : ℕ) (k : Sort) (r : Rows) (b : Bool) → b ≡ false
    → TakenMarked k b (header_step rules w first before n s k r)
unfolding header_step
header-marked rules w first before n s Sort.block r b h = tt
header-marked rules w first before n s Sort.global r b h = tt
header-marked rules w first before n s Sort.frame r b h = tt
header-marked rules w first before n s Sort.frame_end r b h = tt
header-marked rules w first before n s Sort.loop r b h =
    taken-cond _ (ltb 0 n && eqb s 0) _ _ (λ e. taken-cond _ (ltb (suc (length before)) rules.levels) _ _ (λ d. refl) (λ d. tt)) (λ e. tt)
header-marked rules w first before n s Sort.stop r b h =
    taken-cond _ (ltb 0 n && ltb s (length before)) _ _ (λ e. taken-cond _ rules.header_stops _ _ (λ d. h) (λ d. tt)) (λ e. tt)
header-marked rules w first before n s Sort.name r b h = taken-cond _ (eqb s 0) _ _ (λ e. refl) (λ e. tt)
header-marked rules w first before n s Sort.value r b h =
    taken-cond _ (ltb 0 n) _ _ (λ e. begin-marked w first (reverse_aux before (n ∷ [])) r) (λ e. tt)

body-marked : (w : Where) (outer : List Level) (l : Level) (inner : List ℕ) (f : ℕ) (k : Sort) (r : Rows) (b : Bool) → b ≡ true
    → TakenMarked k b (body_step w outer l inner f k r)
unfolding body_step no_value_at no_value
body-marked w outer l inner f Sort.value r b h = value-marked w outer l inner f r
body-marked w outer l inner (suc f) Sort.block r b h = tt
body-marked w outer l inner (suc f) Sort.global r b h = tt
body-marked w outer l inner (suc f) Sort.frame r b h = tt
body-marked w outer l inner (suc f) Sort.frame_end r b h = tt
body-marked w outer l inner (suc f) Sort.loop r b h = tt
body-marked w outer l inner (suc f) Sort.stop r b h = tt
body-marked w outer l inner (suc f) Sort.name r b h = tt
body-marked w [] l inner zero Sort.block r b h = between-marked w Sort.block r b
body-marked w [] l inner zero Sort.global r b h = between-marked w Sort.global r b
body-marked w [] l inner zero Sort.frame r b h = between-marked w Sort.frame r b
body-marked w [] l inner zero Sort.frame_end r b h = between-marked w Sort.frame_end r b
body-marked w [] l inner zero Sort.loop r b h = between-marked w Sort.loop r b
body-marked w [] l inner zero Sort.stop r b h = between-marked w Sort.stop r b
body-marked w [] l inner zero Sort.name r b h = between-marked w Sort.name r b
body-marked w (o ∷ outer) l inner zero Sort.block r b h = tt
body-marked w (o ∷ outer) l inner zero Sort.global r b h = tt
body-marked w (o ∷ outer) l inner zero Sort.frame r b h = tt
body-marked w (o ∷ outer) l inner zero Sort.frame_end r b h = tt
body-marked w (o ∷ outer) l inner zero Sort.loop r b h = tt
body-marked w (o ∷ outer) l inner zero Sort.stop r b h = h
body-marked w (o ∷ outer) l inner zero Sort.name r b h = tt

start-marked : (k : Sort) (r : Rows) (b : Bool) → TakenMarked k b (start_step k r)
unfolding start_step
start-marked Sort.block r b = tt
start-marked Sort.global r b = tt
start-marked Sort.frame r b = tt
start-marked Sort.frame_end r b = tt
start-marked Sort.loop r b = tt
start-marked Sort.stop r b = tt
start-marked Sort.name r b = tt
start-marked Sort.value r b = tt

named-marked : (w : Where) (k : Sort) (r : Rows) (b : Bool) → TakenMarked k b (named_step w k r)
unfolding named_step
named-marked w Sort.block r b = tt
named-marked w Sort.global r b = tt
named-marked w Sort.frame r b = tt
named-marked w Sort.frame_end r b = tt
named-marked w Sort.loop r b = tt
named-marked w Sort.stop r b = tt
named-marked w Sort.name r b = tt
named-marked w Sort.value r b = tt

step-marked : (rules : Rules) (st : State) (k : Sort) (r : Rows) (b : Bool) → Marked st b → TakenMarked k b (step rules st k r)
unfolding step
step-marked rules start k r b h = start-marked k r b
step-marked rules (within w) k r b h = between-marked w k r b
step-marked rules (named w) k r b h = named-marked w k r b
step-marked rules (header w first before n s) k r b h = header-marked rules w first before n s k r b h
step-marked rules (body w outer l inner f) k r b h = body-marked w outer l inner f k r b h

pub walk-marked : (rules : Rules) (st s : State) (p : List Token) (r u : Rows) (b : Bool) → walk rules st p r ≡ go s u → Marked st b → Marked s (marks b p)
walk-marked rules st s p r u b e h =
    walk-induction rules (λ st' q v. (c : Bool) → Marked st' c → Marked s (marks c q)) s u (λ c m. m)
    (λ st' s' t q v v' g later c m. later (mark (sort_of t.kind) c) (rw g at (step-marked rules st' (sort_of t.kind) v c m))) p st r e b h

pub packet-marked : (st : State) (b : Bool) → InPacket st → Marked st b → b ≡ true
packet-marked start b h m = absurd h
packet-marked (within w) b h m = absurd h
packet-marked (named w) b h m = absurd h
packet-marked (header w first before n s) b h m = absurd h
packet-marked (body w outer l inner f) b h m = m

-- outside packets no value has come, or a name may come next
pub data Outside (st : State) : Type 0 where
  valueless : ((b : Bool) → Marked st b → b ≡ false) → Outside st
  nameable : ((rules : Rules) (r : Rows) → (s : State) × (u : Rows) × (step rules st Sort.name r ≡ go s u)) → Outside st

between-name : (w : Where) (r : Rows) → (s : State) × (u : Rows) × (between w Sort.name r ≡ go s u)
unfolding between
between-name (in_block s) r = (_, _, refl)
between-name (in_frame b s) r = (_, _, refl)

pub outside : (st : State) → (InPacket st → ⊥) → Outside st
unfolding step body_step no_value_at no_value
outside start h = Outside.valueless (λ b m. m)
outside (within w) h = Outside.nameable (λ rules r. between-name w r)
outside (named w) h = Outside.valueless (λ b m. m)
outside (header w first before n s) h = Outside.valueless (λ b m. m)
outside (body w outer l inner (suc f)) h = absurd (h tt)
outside (body w [] l inner zero) h = Outside.nameable (λ rules r. between-name w r)
outside (body w (o ∷ outer) l inner zero) h = absurd (h tt)
