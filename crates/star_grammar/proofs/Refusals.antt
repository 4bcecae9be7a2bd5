-- Which number a refused step at a sort gives: 16 at a `stop_` that rules with header stops would allow; 11 at a `loop_` that more levels would allow; 10 in a packet that
-- lacks values or while an inner level is open; 8 elsewhere. By cases on states and sorts.
use mathlib.Core.Path.{◌≡◌, refl}
use mathlib.Core.Bool.{Bool, true, false, cond, ◌&&◌}
use mathlib.Core.List.{List, [], ◌∷◌, reverse_aux}
use Prim.Native.Nat.{ℕ, zero, suc, ◌≤◌}
use native.Mathlib.Omega.{arith}
use lib.Dec.{eqb, ltb}
use lib.ListN.{length, length-reverse_aux}
use borrow.Author.Tests.{ltb-false, lt-ltb}
use Rattle.star_lex.specs.Rules.{Rules, at_levels, at_stops}
use Rattle.star_grammar.specs.Tables.{Rows, pass}
use Rattle.star_grammar.specs.Machine.{Sort, Where, in_block, in_frame, Level, State, start, within, named, header, body, Step, go, refuse, between, fill, value_at, begin, header_step, no_value, no_value_at, body_step, start_step, named_step, step, Run, bad, good, end_between, end_body, end_run}

-- a packet that is begun and not full, or an inner level that is open
abbrev pub InPacket : State → Type 0
InPacket start = ⊥
InPacket (within w) = ⊥
InPacket (named w) = ⊥
InPacket (header w first before n s) = ⊥
InPacket (body w outer l inner (suc f)) = Unit {0}
InPacket (body w [] l inner zero) = ⊥
InPacket (body w (o ∷ outer) l inner zero) = Unit {0}

-- why a step refuses
pub data Refusal (rules : Rules) (st : State) (k : Sort) (r : Rows) : ℕ → Type 0 where
  retired : (s : State) (u : Rows) → step (at_stops rules true) st k r ≡ go s u → Refusal rules st k r 16
  deep : step (at_stops rules true) st k r ≡ refuse 11 → (more : ℕ) → rules.levels ≤ more → (s : State) (u : Rows) → step (at_levels rules more) st k r ≡ go s u
      → Refusal rules st k r 11
  packet : InPacket st → ((l : ℕ) → step (at_levels (at_stops rules true) l) st k r ≡ refuse 10) → Refusal rules st k r 10
  other : (InPacket st → ⊥) → ((l : ℕ) → step (at_levels (at_stops rules true) l) st k r ≡ refuse 8) → Refusal rules st k r 8

-- a property of the number of a step, if it is refused
abbrev Refused : (ℕ → Type 0) → Step → Type 0
Refused P (go s r) = Unit {0}
Refused P (refuse n) = P n

refused-cond : (P : ℕ → Type 0) (b : Bool) (x y : Step) → (b ≡ true → Refused P x) → (b ≡ false → Refused P y) → Refused P (cond b x y)
refused-cond P true x y f g = f refl
refused-cond P false x y f g = g refl

value-refused : (P : ℕ → Type 0) (w : Where) (outer : List Level) (l : Level) (inner : List ℕ) (f : ℕ) (r : Rows) → Refused P (value_at w outer l inner f r)
unfolding value_at fill
value-refused P w outer l inner zero r = tt
value-refused P w outer l inner (suc f) r = tt

begin-refused : (P : ℕ → Type 0) (w : Where) (first : ℕ) (ls : List ℕ) (r : Rows) → 1 ≤ length ls → Refused P (begin w first ls r)
unfolding begin
begin-refused P w first [] r h = absurd (omega arith)
begin-refused P w first (m ∷ inner) r h = value-refused P w [] _ inner 0 r

module _ (rules : Rules) where
  between-refusal : (st : State) → (InPacket st → ⊥) → (w : Where) (k : Sort) (r : Rows)
      → ((l : ℕ) → step (at_levels (at_stops rules true) l) st k r ≡ between w k r)
      → Refused (Refusal rules st k r) (between w k r)
  unfolding between
  between-refusal st h (in_block s) Sort.block r e = tt
  between-refusal st h (in_block s) Sort.global r e = tt
  between-refusal st h (in_block s) Sort.frame r e = tt
  between-refusal st h (in_block s) Sort.frame_end r e = Refusal.other h e
  between-refusal st h (in_block s) Sort.loop r e = tt
  between-refusal st h (in_block s) Sort.stop r e = Refusal.other h e
  between-refusal st h (in_block s) Sort.name r e = tt
  between-refusal st h (in_block s) Sort.value r e = Refusal.other h e
  between-refusal st h (in_frame b s) Sort.block r e = Refusal.other h e
  between-refusal st h (in_frame b s) Sort.global r e = Refusal.other h e
  between-refusal st h (in_frame b s) Sort.frame r e = Refusal.other h e
  between-refusal st h (in_frame b s) Sort.frame_end r e = tt
  between-refusal st h (in_frame b s) Sort.loop r e = tt
  between-refusal st h (in_frame b s) Sort.stop r e = Refusal.other h e
  between-refusal st h (in_frame b s) Sort.name r e = tt
  between-refusal st h (in_frame b s) Sort.value r e = Refusal.other h e

  header-refusal : (w : Where) (first : ℕ) (before : List ℕ) (n s : ℕ) (k : Sort) (r : Rows)
      → Refused (Refusal rules (header w first before n s) k r) (header_step rules w first before n s k r)
  unfolding step header_step
  header-refusal w first before n s Sort.block r = Refusal.other (λ x. x) (λ l. refl)
  header-refusal w first before n s Sort.global r = Refusal.other (λ x. x) (λ l. refl)
  header-refusal w first before n s Sort.frame r = Refusal.other (λ x. x) (λ l. refl)
  header-refusal w first before n s Sort.frame_end r = Refusal.other (λ x. x) (λ l. refl)
  header-refusal w first before n s Sort.loop r =
      refused-cond _ (ltb 0 n && eqb s 0) _ _
      (λ e. refused-cond _ (ltb (suc (length before)) rules.levels) _ _ (λ d. tt)
      (λ d. Refusal.deep (rw (e, d)) (suc (suc (length before))) (omega (arith, ltb-false (suc (length before)) rules.levels d)) (header w first (n ∷ before) 0 0) (pass r)
      (rw (e, lt-ltb (suc (length before)) (suc (suc (length before))) (omega arith)))))
      (λ e. Refusal.other (λ x. x) (λ l. rw e))
  header-refusal w first before n s Sort.stop r =
      refused-cond _ (ltb 0 n && ltb s (length before)) _ _
      (λ e. refused-cond _ rules.header_stops _ _ (λ d. tt) (λ d. Refusal.retired (header w first before n (suc s)) (pass r) (rw e)))
      (λ e. Refusal.other (λ x. x) (λ l. rw e))
  header-refusal w first before n s Sort.name r = refused-cond _ (eqb s 0) _ _ (λ e. tt) (λ e. Refusal.other (λ x. x) (λ l. rw e))
  header-refusal w first before n s Sort.value r =
      refused-cond _ (ltb 0 n) _ _
      (λ e. begin-refused _ w first (reverse_aux before (n ∷ [])) r (rw length-reverse_aux (omega arith)))
      (λ e. Refusal.other (λ x. x) (λ l. rw e))

  body-refusal : (w : Where) (outer : List Level) (l : Level) (inner : List ℕ) (f : ℕ) (k : Sort) (r : Rows)
      → Refused (Refusal rules (body w outer l inner f) k r) (body_step w outer l inner f k r)
  unfolding step body_step no_value_at no_value
  body-refusal w outer l inner f Sort.value r = value-refused _ w outer l inner f r
  body-refusal w outer l inner (suc f) Sort.block r = Refusal.packet tt (λ l. refl)
  body-refusal w outer l inner (suc f) Sort.global r = Refusal.packet tt (λ l. refl)
  body-refusal w outer l inner (suc f) Sort.frame r = Refusal.packet tt (λ l. refl)
  body-refusal w outer l inner (suc f) Sort.frame_end r = Refusal.packet tt (λ l. refl)
  body-refusal w outer l inner (suc f) Sort.loop r = Refusal.packet tt (λ l. refl)
  body-refusal w outer l inner (suc f) Sort.stop r = Refusal.packet tt (λ l. refl)
  body-refusal w outer l inner (suc f) Sort.name r = Refusal.packet tt (λ l. refl)
  body-refusal w [] l inner zero Sort.block r = between-refusal (body w [] l inner zero) (λ x. x) w Sort.block r (λ l. refl)
  body-refusal w [] l inner zero Sort.global r = between-refusal (body w [] l inner zero) (λ x. x) w Sort.global r (λ l. refl)
  body-refusal w [] l inner zero Sort.frame r = between-refusal (body w [] l inner zero) (λ x. x) w Sort.frame r (λ l. refl)
  body-refusal w [] l inner zero Sort.frame_end r = between-refusal (body w [] l inner zero) (λ x. x) w Sort.frame_end r (λ l. refl)
  body-refusal w [] l inner zero Sort.loop r = between-refusal (body w [] l inner zero) (λ x. x) w Sort.loop r (λ l. refl)
  body-refusal w [] l inner zero Sort.stop r = between-refusal (body w [] l inner zero) (λ x. x) w Sort.stop r (λ l. refl)
  body-refusal w [] l inner zero Sort.name r = between-refusal (body w [] l inner zero) (λ x. x) w Sort.name r (λ l. refl)
  body-refusal w (o ∷ outer) l inner zero Sort.block r = Refusal.packet tt (λ l. refl)
  body-refusal w (o ∷ outer) l inner zero Sort.global r = Refusal.packet tt (λ l. refl)
  body-refusal w (o ∷ outer) l inner zero Sort.frame r = Refusal.packet tt (λ l. refl)
  body-refusal w (o ∷ outer) l inner zero Sort.frame_end r = Refusal.packet tt (λ l. refl)
  body-refusal w (o ∷ outer) l inner zero Sort.loop r = Refusal.packet tt (λ l. refl)
  body-refusal w (o ∷ outer) l inner zero Sort.stop r = tt
  body-refusal w (o ∷ outer) l inner zero Sort.name r = Refusal.packet tt (λ l. refl)

  start-refusal : (k : Sort) (r : Rows) → Refused (Refusal rules start k r) (start_step k r)
  unfolding step start_step
  start-refusal Sort.block r = tt
  start-refusal Sort.global r = tt
  start-refusal Sort.frame r = Refusal.other (λ x. x) (λ l. refl)
  start-refusal Sort.frame_end r = Refusal.other (λ x. x) (λ l. refl)
  start-refusal Sort.loop r = Refusal.other (λ x. x) (λ l. refl)
  start-refusal Sort.stop r = Refusal.other (λ x. x) (λ l. refl)
  start-refusal Sort.name r = Refusal.other (λ x. x) (λ l. refl)
  start-refusal Sort.value r = Refusal.other (λ x. x) (λ l. refl)

  named-refusal : (w : Where) (k : Sort) (r : Rows) → Refused (Refusal rules (named w) k r) (named_step w k r)
  unfolding step named_step
  named-refusal w Sort.block r = Refusal.other (λ x. x) (λ l. refl)
  named-refusal w Sort.global r = Refusal.other (λ x. x) (λ l. refl)
  named-refusal w Sort.frame r = Refusal.other (λ x. x) (λ l. refl)
  named-refusal w Sort.frame_end r = Refusal.other (λ x. x) (λ l. refl)
  named-refusal w Sort.loop r = Refusal.other (λ x. x) (λ l. refl)
  named-refusal w Sort.stop r = Refusal.other (λ x. x) (λ l. refl)
  named-refusal w Sort.name r = Refusal.other (λ x. x) (λ l. refl)
  named-refusal w Sort.value r = tt

  step-refusal : (st : State) (k : Sort) (r : Rows) → Refused (Refusal rules st k r) (step rules st k r)
  unfolding step
  step-refusal start k r = start-refusal k r
  step-refusal (within w) k r = between-refusal (within w) (λ x. x) w k r (λ l. refl)
  step-refusal (named w) k r = named-refusal w k r
  step-refusal (header w first before n s) k r = header-refusal w first before n s k r
  step-refusal (body w outer l inner f) k r = body-refusal w outer l inner f k r

  pub refusal : (st : State) (k : Sort) (r : Rows) (n : ℕ) → step rules st k r ≡ refuse n → Refusal rules st k r n
  refusal st k r n e = rw e at (step-refusal st k r)

-- in a packet no name may come
pub packet-name : (rules : Rules) (st : State) (r : Rows) → InPacket st → step rules st Sort.name r ≡ refuse 10
unfolding step body_step no_value_at no_value
packet-name rules start r h = absurd h
packet-name rules (within w) r h = absurd h
packet-name rules (named w) r h = absurd h
packet-name rules (header w first before n s) r h = absurd h
packet-name rules (body w outer l inner (suc f)) r h = refl
packet-name rules (body w [] l inner zero) r h = absurd h
packet-name rules (body w (o ∷ outer) l inner zero) r h = refl

-- why the end is out of place
pub data EndRefusal (st : State) : ℕ → Type 0 where
  packet : InPacket st → EndRefusal st 10
  other : (InPacket st → ⊥) → EndRefusal st 8

abbrev Ended : (ℕ → Type 0) → Run → Type 0
Ended P (bad n i) = P n
Ended P (good r) = Unit {0}

end-ended : (st : State) (r : Rows) → Ended (EndRefusal st) (end_run st r)
unfolding end_run end_between end_body
end-ended start r = tt
end-ended (within (in_block s)) r = tt
end-ended (within (in_frame b s)) r = EndRefusal.other (λ x. x)
end-ended (named w) r = EndRefusal.other (λ x. x)
end-ended (header w first before n s) r = EndRefusal.other (λ x. x)
end-ended (body (in_block s) [] l inner zero) r = tt
end-ended (body (in_frame b s) [] l inner zero) r = EndRefusal.other (λ x. x)
end-ended (body w [] l inner (suc f)) r = EndRefusal.packet tt
end-ended (body w (o ∷ outer) l inner zero) r = EndRefusal.packet tt
end-ended (body w (o ∷ outer) l inner (suc f)) r = EndRefusal.packet tt

pub end-refusal : (st : State) (r : Rows) (n i : ℕ) → end_run st r ≡ bad n i → EndRefusal st n
end-refusal st r n i e = rw e at (end-ended st r)
