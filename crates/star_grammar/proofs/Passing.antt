-- Each step that is taken passes one token: every row that a step makes counts one more, whatever else it holds.
use mathlib.Core.Path.{◌≡◌, refl, sym}
use mathlib.Core.Bool.{Bool, true, false, cond, ◌&&◌}
use mathlib.Core.List.{List, [], ◌∷◌, reverse_aux}
use Prim.Native.Nat.{ℕ, zero, suc, ◌+◌}
use native.Mathlib.Omega.{arith}
use lib.Dec.{eqb, ltb}
use lib.ListN.{length}
use Rattle.star_lex.specs.Rules.{Rules}
use Rattle.star_lex.specs.Tokens.{Token}
use Rattle.star_grammar.specs.Tables.{Rows, no_rows, pass, open_loop, put_set, put_name, put_packet, put_value, linked}
use Rattle.star_grammar.specs.Machine.{Sort, sort_of, Where, in_block, in_frame, Level, State, start, within, named, header, body, Step, go, refuse, between, fill, value_at, begin, header_step, no_value, no_value_at, body_step, start_step, named_step, step, bad, end_between, end_body, end_run, walk}
use Rattle.star_grammar.proofs.Sound.{bad-good}
use Rattle.star_grammar.proofs.Alive.{walk-induction}

-- a step that, if it is taken, has passed one token more than so many
abbrev Passes : ℕ → Step → Type 0
Passes n (go s r) = r.tokens ≡ suc n
Passes n (refuse k) = Unit {0}

passes-cond : (n : ℕ) (b : Bool) (x y : Step) → Passes n x → Passes n y → Passes n (cond b x y)
passes-cond n true x y f g = f
passes-cond n false x y f g = g

between-passes : (w : Where) (k : Sort) (r : Rows) → Passes r.tokens (between w k r)
unfolding between put_set open_loop put_name pass
between-passes (in_block s) Sort.block r = refl
between-passes (in_block s) Sort.global r = refl
between-passes (in_block s) Sort.frame r = refl
between-passes (in_block s) Sort.frame_end r = tt
between-passes (in_block s) Sort.loop r = refl
between-passes (in_block s) Sort.stop r = tt
between-passes (in_block s) Sort.name r = refl
between-passes (in_block s) Sort.value r = tt
between-passes (in_frame b s) Sort.block r = tt
between-passes (in_frame b s) Sort.global r = tt
between-passes (in_frame b s) Sort.frame r = tt
between-passes (in_frame b s) Sort.frame_end r = refl
between-passes (in_frame b s) Sort.loop r = refl
between-passes (in_frame b s) Sort.stop r = tt
between-passes (in_frame b s) Sort.name r = refl
between-passes (in_frame b s) Sort.value r = tt

value_passes : (w : Where) (outer : List Level) (l : Level) (inner : List ℕ) (f : ℕ) (r : Rows) → Passes r.tokens (value_at w outer l inner f r)
unfolding value_at fill put_value put_packet
value_passes w outer l inner zero r = refl
value_passes w outer l inner (suc f) r = refl

begin-passes : (w : Where) (first : ℕ) (ls : List ℕ) (r : Rows) → Passes r.tokens (begin w first ls r)
unfolding begin
begin-passes w first [] r = tt
begin-passes w first (m ∷ inner) r = value_passes w [] _ inner 0 r

header-passes : (rules : Rules) (w : Where) (first : ℕ) (before : List ℕ) (n s : ℕ) (k : Sort) (r : Rows)
    → Passes r.tokens (header_step rules w first before n s k r)
unfolding header_step pass put_name
header-passes rules w first before n s Sort.block r = tt
header-passes rules w first before n s Sort.global r = tt
header-passes rules w first before n s Sort.frame r = tt
header-passes rules w first before n s Sort.frame_end r = tt
header-passes rules w first before n s Sort.loop r =
    passes-cond r.tokens (ltb 0 n && eqb s 0) _ _ (passes-cond r.tokens (ltb (suc (length before)) rules.levels) _ _ refl tt) tt
header-passes rules w first before n s Sort.stop r =
    passes-cond r.tokens (ltb 0 n && ltb s (length before)) _ _ (passes-cond r.tokens rules.header_stops _ _ refl tt) tt
header-passes rules w first before n s Sort.name r = passes-cond r.tokens (eqb s 0) _ _ refl tt
header-passes rules w first before n s Sort.value r =
    passes-cond r.tokens (ltb 0 n) _ _ (begin-passes w first (reverse_aux before (n ∷ [])) r) tt

no-value-passes : (w : Where) (outer : List Level) (l : Level) (inner : List ℕ) (f : ℕ) (k : Sort) (r : Rows)
    → Passes r.tokens (no_value_at w outer l inner f k r)
unfolding no_value_at no_value pass
no-value-passes w outer l inner (suc f) k r = tt
no-value-passes w [] l inner zero k r = between-passes w k r
no-value-passes w (o ∷ outer) l inner zero Sort.block r = tt
no-value-passes w (o ∷ outer) l inner zero Sort.global r = tt
no-value-passes w (o ∷ outer) l inner zero Sort.frame r = tt
no-value-passes w (o ∷ outer) l inner zero Sort.frame_end r = tt
no-value-passes w (o ∷ outer) l inner zero Sort.loop r = tt
no-value-passes w (o ∷ outer) l inner zero Sort.stop r = refl
no-value-passes w (o ∷ outer) l inner zero Sort.name r = tt
no-value-passes w (o ∷ outer) l inner zero Sort.value r = tt

body-passes : (w : Where) (outer : List Level) (l : Level) (inner : List ℕ) (f : ℕ) (k : Sort) (r : Rows)
    → Passes r.tokens (body_step w outer l inner f k r)
unfolding body_step
body-passes w outer l inner f Sort.block r = no-value-passes w outer l inner f Sort.block r
body-passes w outer l inner f Sort.global r = no-value-passes w outer l inner f Sort.global r
body-passes w outer l inner f Sort.frame r = no-value-passes w outer l inner f Sort.frame r
body-passes w outer l inner f Sort.frame_end r = no-value-passes w outer l inner f Sort.frame_end r
body-passes w outer l inner f Sort.loop r = no-value-passes w outer l inner f Sort.loop r
body-passes w outer l inner f Sort.stop r = no-value-passes w outer l inner f Sort.stop r
body-passes w outer l inner f Sort.name r = no-value-passes w outer l inner f Sort.name r
body-passes w outer l inner f Sort.value r = value_passes w outer l inner f r

start-passes : (k : Sort) (r : Rows) → Passes r.tokens (start_step k r)
unfolding start_step put_set
start-passes Sort.block r = refl
start-passes Sort.global r = refl
start-passes Sort.frame r = tt
start-passes Sort.frame_end r = tt
start-passes Sort.loop r = tt
start-passes Sort.stop r = tt
start-passes Sort.name r = tt
start-passes Sort.value r = tt

named-passes : (w : Where) (k : Sort) (r : Rows) → Passes r.tokens (named_step w k r)
unfolding named_step put_value
named-passes w Sort.block r = tt
named-passes w Sort.global r = tt
named-passes w Sort.frame r = tt
named-passes w Sort.frame_end r = tt
named-passes w Sort.loop r = tt
named-passes w Sort.stop r = tt
named-passes w Sort.name r = tt
named-passes w Sort.value r = refl

pub step-passes : (rules : Rules) (st : State) (k : Sort) (r : Rows) → Passes r.tokens (step rules st k r)
unfolding step
step-passes rules start k r = start-passes k r
step-passes rules (within w) k r = between-passes w k r
step-passes rules (named w) k r = named-passes w k r
step-passes rules (header w first before n s) k r = header-passes rules w first before n s k r
step-passes rules (body w outer l inner f) k r = body-passes w outer l inner f k r

-- a walk passes its tokens
pub walk-passes : (rules : Rules) (st st' : State) (p : List Token) (r r' : Rows) → walk rules st p r ≡ go st' r' → r'.tokens ≡ r.tokens + length p
walk-passes rules st st' p r r' e =
    walk-induction rules (λ s q u. r'.tokens ≡ u.tokens + length q) st' r' (omega arith)
    (λ s s' t q u u' g later. let h : u'.tokens ≡ suc u.tokens = rw g at (step-passes rules s (sort_of t.kind) u) in omega arith) p st r e

pub walk-length : (rules : Rules) (st : State) (p : List Token) (r : Rows) → walk rules start p no_rows ≡ go st r → r.tokens ≡ length p
unfolding no_rows
walk-length rules st p r e = omega (arith, walk-passes rules start st p no_rows r e)

-- an end that is out of place comes after the tokens passed
pub end-passes : (st : State) (r : Rows) (n i : ℕ) → end_run st r ≡ bad n i → i ≡ r.tokens
unfolding end_run end_between end_body
end-passes start r n i e = absurd (bad-good n i (linked r) (sym e))
end-passes (within (in_block s)) r n i e = absurd (bad-good n i (linked r) (sym e))
end-passes (within (in_frame b s)) r n i e = cc
end-passes (named w) r n i e = cc
end-passes (header w first before m s) r n i e = cc
end-passes (body (in_block s) [] l inner zero) r n i e = absurd (bad-good n i (linked r) (sym e))
end-passes (body (in_frame b s) [] l inner zero) r n i e = cc
end-passes (body w [] l inner (suc f)) r n i e = cc
end-passes (body w (o ∷ outer) l inner f) r n i e = cc
