-- Steps keep the counts of a state sane: each test that lets a step be taken is what the next state's counts need.
use mathlib.Core.Path.{◌≡◌, refl}
use mathlib.Core.Bool.{Bool, true, false, cond, ◌&&◌}
use mathlib.Core.List.{List, [], ◌∷◌, reverse_aux}
use Prim.Native.Nat.{ℕ, zero, suc, ◌≤◌}
use native.Mathlib.Omega.{arith}
use lib.Dec.{eqb, ltb}
use lib.ListN.{length, length-reverse_aux}
use borrow.Author.Tests.{ltb-true}
use Rattle.star_lex.specs.Rules.{Rules}
use Rattle.star_grammar.specs.Tables.{Rows, pass}
use Rattle.star_grammar.specs.Machine.{Sort, sort_of, Where, in_block, in_frame, Level, State, start, within, named, header, body, Step, go, refuse, between, filled, fill, value_at, begin, header_step, no_value, no_value_at, body_step, start_step, named_step, step, step_at}
use Rattle.star_grammar.proofs.Rest.{SaneHeader, SaneBody, Sane}
use Rattle.star_grammar.proofs.Counts.{Counts}

-- a property of the state that a step leads to, if it is taken
abbrev pub Taken : (State → Type 0) → Step → Type 0
Taken P (go s r) = P s
Taken P (refuse n) = Unit {0}

pub taken-map : (P Q : State → Type 0) → ((s : State) → P s → Q s) → (x : Step) → Taken P x → Taken Q x
taken-map P Q f (go s r) h = f s h
taken-map P Q f (refuse n) h = tt

pub taken-cond : (P : State → Type 0) (b : Bool) (x y : Step) → (b ≡ true → Taken P x) → (b ≡ false → Taken P y) → Taken P (cond b x y)
taken-cond P true x y f g = f refl
taken-cond P false x y f g = g refl

pub cond-case : (P : State → Type 0) (b : Bool) (x y : State) → (b ≡ true → P x) → (b ≡ false → P y) → P (cond b x y)
cond-case P true x y f g = f refl
cond-case P false x y f g = g refl

pub both_left : (a b : Bool) → a && b ≡ true → a ≡ true
both_left true b e = refl
both_left false b e = e

pub both_right : (a b : Bool) → a && b ≡ true → b ≡ true
both_right true b e = e
both_right false b e = cc

pub reverse-counts : (before ls : List ℕ) → Counts before → Counts ls → Counts (reverse_aux before ls)
reverse-counts [] ls cb cl = cl
reverse-counts (m ∷ before) ls cb cl = reverse-counts before (m ∷ ls) cb.1 (cb.0, cl)

module _ (rules : Rules) (least : 1 ≤ rules.levels) where
  filled-sane : (w : Where) (outer : List Level) (l : Level) (inner : List ℕ) (f : ℕ) → SaneBody rules outer l.names inner f
      → Sane rules (filled w outer l inner)
  unfolding filled
  filled-sane w outer l [] f h =
      record { some-outer = h.some-outer; some-inner = tt; room = omega (arith, h.room); levels = h.levels }
  filled-sane w outer l (m ∷ inner) f h = record {
    some-outer = (omega (arith, h.room), h.some-outer);
    some-inner = h.some-inner.1;
    room = h.some-inner.0;
    levels = omega (arith, h.levels);
  }

  fill-sane : (w : Where) (outer : List Level) (l : Level) (inner : List ℕ) (f : ℕ) (r : Rows) → SaneBody rules outer l.names inner f
      → Taken (Sane rules) (fill w outer l inner f r)
  unfolding fill
  fill-sane w outer l inner f r h =
      cond-case (Sane rules) (ltb (suc f) l.names) (body w outer l inner (suc f)) (filled w outer l inner)
      (λ e. record { some-outer = h.some-outer; some-inner = h.some-inner; room = ltb-true (suc f) l.names e; levels = h.levels })
      (λ e. filled-sane w outer l inner f h)

  value-sane : (w : Where) (outer : List Level) (l : Level) (inner : List ℕ) (f : ℕ) (r : Rows) → SaneBody rules outer l.names inner f
      → Taken (Sane rules) (value_at w outer l inner f r)
  unfolding value_at
  value-sane w outer l inner zero r h = fill-sane w outer _ inner 0 _ h
  value-sane w outer l inner (suc f) r h = fill-sane w outer l inner (suc f) r h

  begin-sane : (w : Where) (first : ℕ) (ls : List ℕ) (r : Rows) → Counts ls → length ls ≤ rules.levels → Taken (Sane rules) (begin w first ls r)
  unfolding begin
  begin-sane w first [] r c l = tt
  begin-sane w first (m ∷ inner) r c l =
      value-sane w [] _ inner 0 r (record { some-outer = tt; some-inner = c.1; room = c.0; levels = omega (arith, l) })

  header-sane : (w : Where) (first : ℕ) (before : List ℕ) (n s : ℕ) (k : Sort) (r : Rows) → SaneHeader rules before n s
      → Taken (Sane rules) (header_step rules w first before n s k r)
  unfolding header_step
  header-sane w first before n s Sort.block r h = tt
  header-sane w first before n s Sort.global r h = tt
  header-sane w first before n s Sort.frame r h = tt
  header-sane w first before n s Sort.frame_end r h = tt
  header-sane w first before n s Sort.loop r h =
      taken-cond (Sane rules) (ltb 0 n && eqb s 0) _ _
      (λ e. taken-cond (Sane rules) _ (go (header w first (n ∷ before) 0 0) (pass r)) _
      (λ e'. record {
        some_names = (ltb-true 0 n (both_left (ltb 0 n) (eqb s 0) e), h.some_names);
        levels = ltb-true _ rules.levels e';
        stops_fit = omega arith;
        stops_allowed = λ x. absurd (omega (arith, x));
        stopped = omega arith;
      })
      (λ e'. tt))
      (λ e. tt)
  header-sane w first before n s Sort.stop r h =
      taken-cond (Sane rules) (ltb 0 n && ltb s (length before)) _ _
      (λ d. taken-cond (Sane rules) rules.header_stops (go (header w first before n (suc s)) (pass r)) _
      (λ e. record {
        some_names = h.some_names;
        levels = h.levels;
        stops_fit = ltb-true s (length before) (both_right (ltb 0 n) (ltb s (length before)) d);
        stops_allowed = λ x. e;
        stopped = λ x. ltb-true 0 n (both_left (ltb 0 n) (ltb s (length before)) d);
      })
      (λ e. tt))
      (λ d. tt)
  header-sane w first before n s Sort.name r h =
      taken-cond (Sane rules) (eqb s 0) _ _
      (λ e. record { some_names = h.some_names; levels = h.levels; stops_fit = omega arith; stops_allowed = λ x. absurd (omega (arith, x)); stopped = omega arith })
      (λ e. tt)
  header-sane w first before n s Sort.value r h =
      taken-cond (Sane rules) (ltb 0 n) _ _
      (λ e. begin-sane w first (reverse_aux before (n ∷ [])) r (reverse-counts before (n ∷ []) h.some_names (ltb-true 0 n e, tt))
      (rw length-reverse_aux (omega (arith, h.levels))))
      (λ e. tt)

  between-sane : (w : Where) (k : Sort) (r : Rows) → Taken (Sane rules) (between w k r)
  unfolding between
  between-sane (in_block s) Sort.block r = tt
  between-sane (in_block s) Sort.global r = tt
  between-sane (in_block s) Sort.frame r = tt
  between-sane (in_block s) Sort.frame_end r = tt
  between-sane (in_block s) Sort.loop r = record { some_names = tt; levels = least; stops_fit = omega arith; stops_allowed = λ x. absurd (omega (arith, x)); stopped = omega arith }
  between-sane (in_block s) Sort.stop r = tt
  between-sane (in_block s) Sort.name r = tt
  between-sane (in_block s) Sort.value r = tt
  between-sane (in_frame b s) Sort.block r = tt
  between-sane (in_frame b s) Sort.global r = tt
  between-sane (in_frame b s) Sort.frame r = tt
  between-sane (in_frame b s) Sort.frame_end r = tt
  between-sane (in_frame b s) Sort.loop r = record { some_names = tt; levels = least; stops_fit = omega arith; stops_allowed = λ x. absurd (omega (arith, x)); stopped = omega arith }
  between-sane (in_frame b s) Sort.stop r = tt
  between-sane (in_frame b s) Sort.name r = tt
  between-sane (in_frame b s) Sort.value r = tt

  no-value-sane : (w : Where) (outer : List Level) (l : Level) (inner : List ℕ) (f : ℕ) (k : Sort) (r : Rows)
      → SaneBody rules outer l.names inner f → Taken (Sane rules) (no_value_at w outer l inner f k r)
  unfolding no_value_at no_value
  no-value-sane w outer l inner (suc f) k r h = tt
  no-value-sane w [] l inner zero k r h = between-sane w k r
  no-value-sane w (o ∷ outer) l inner zero Sort.block r h = tt
  no-value-sane w (o ∷ outer) l inner zero Sort.global r h = tt
  no-value-sane w (o ∷ outer) l inner zero Sort.frame r h = tt
  no-value-sane w (o ∷ outer) l inner zero Sort.frame_end r h = tt
  no-value-sane w (o ∷ outer) l inner zero Sort.loop r h = tt
  no-value-sane w (o ∷ outer) l inner zero Sort.stop r h = record {
    some-outer = h.some-outer.1;
    some-inner = (h.room, h.some-inner);
    room = h.some-outer.0;
    levels = omega (arith, h.levels);
  }
  no-value-sane w (o ∷ outer) l inner zero Sort.name r h = tt
  no-value-sane w (o ∷ outer) l inner zero Sort.value r h = tt

  body-sane : (w : Where) (outer : List Level) (l : Level) (inner : List ℕ) (f : ℕ) (k : Sort) (r : Rows)
      → SaneBody rules outer l.names inner f → Taken (Sane rules) (body_step w outer l inner f k r)
  unfolding body_step
  body-sane w outer l inner f Sort.block r h = no-value-sane w outer l inner f Sort.block r h
  body-sane w outer l inner f Sort.global r h = no-value-sane w outer l inner f Sort.global r h
  body-sane w outer l inner f Sort.frame r h = no-value-sane w outer l inner f Sort.frame r h
  body-sane w outer l inner f Sort.frame_end r h = no-value-sane w outer l inner f Sort.frame_end r h
  body-sane w outer l inner f Sort.loop r h = no-value-sane w outer l inner f Sort.loop r h
  body-sane w outer l inner f Sort.stop r h = no-value-sane w outer l inner f Sort.stop r h
  body-sane w outer l inner f Sort.name r h = no-value-sane w outer l inner f Sort.name r h
  body-sane w outer l inner f Sort.value r h = value-sane w outer l inner f r h

  start-sane : (k : Sort) (r : Rows) → Taken (Sane rules) (start_step k r)
  unfolding start_step
  start-sane Sort.block r = tt
  start-sane Sort.global r = tt
  start-sane Sort.frame r = tt
  start-sane Sort.frame_end r = tt
  start-sane Sort.loop r = tt
  start-sane Sort.stop r = tt
  start-sane Sort.name r = tt
  start-sane Sort.value r = tt

  named-sane : (w : Where) (k : Sort) (r : Rows) → Taken (Sane rules) (named_step w k r)
  unfolding named_step
  named-sane w Sort.block r = tt
  named-sane w Sort.global r = tt
  named-sane w Sort.frame r = tt
  named-sane w Sort.frame_end r = tt
  named-sane w Sort.loop r = tt
  named-sane w Sort.stop r = tt
  named-sane w Sort.name r = tt
  named-sane w Sort.value r = tt

  step-sane : (st : State) (k : Sort) (r : Rows) → Sane rules st → Taken (Sane rules) (step rules st k r)
  unfolding step
  step-sane start k r h = start-sane k r
  step-sane (within w) k r h = between-sane w k r
  step-sane (named w) k r h = named-sane w k r
  step-sane (header w first before n s) k r h = header-sane w first before n s k r h
  step-sane (body w outer l inner f) k r h = body-sane w outer l inner f k r h

  -- a step that is taken leads to a sane state
  pub sane-kept : (st s : State) (kind : ℕ) (r r' : Rows) → Sane rules st → step_at rules st kind r ≡ go s r' → Sane rules s
  sane-kept st s kind r r' h e = rw e at (step-sane st (sort_of kind) r h)
