-- Where a run refuses: the tokens that a state does not take, by their sorts, and the end.
use mathlib.Core.Path.{◌≡◌, refl, ap, ◌∙◌}
use mathlib.Core.Bool.{false}
use mathlib.Core.List.{List, [], ◌∷◌}
use Prim.Native.Nat.{ℕ, suc, ◌≤◌, ◌<◌}
use native.Mathlib.Omega.{arith}
use lib.ListN.{length}
use borrow.Author.Tests.{le-ltb, lt-ltb, ne_eqb}
use Rattle.star_lex.specs.Rules.{Rules}
use Rattle.star_lex.specs.Tokens.{Token}
use Rattle.star_grammar.specs.Tables.{Rows}
use Rattle.star_grammar.specs.Machine.{Sort, sort_of, Where, in_frame, Level, State, start, within, named, header, body, refuse, between, header_step, no_value, no_value_at, body_step, start_step, named_step, step, bad, end_between, end_body, end_run, run}
use Rattle.star_parse.specs.Reader.{sort_number, number_of, ahead}
use Rattle.star_grammar.proofs.Sorts.{onward, run-onward}

-- a state refuses what is ahead, with this number
abbrev pub Refuses : (rules : Rules) → State → (number : ℕ) → (ts : List Token) → Type 0
Refuses rules st number ts = (r : Rows) → run rules st ts r ≡ bad number r.tokens

-- after a header: what a header with so many stops does not take
pub record Closed (before stops sort : ℕ) : Type 0 where
  pub value : sort ≡ 7 → ⊥
  pub stop : sort ≡ 5 → before ≤ stops
  pub loop : sort ≡ 4 → 0 < stops
  pub name : sort ≡ 6 → 0 < stops

module _ (rules : Rules) where
  -- by sorts, and at the end
  refuses : (st : State) (number : ℕ) (Ahead : ℕ → Type 0)
      → ((k : Sort) (r : Rows) → Ahead (sort_number k) → step rules st k r ≡ refuse number)
      → ((r : Rows) → Ahead 0 → end_run st r ≡ bad number r.tokens)
      → (ts : List Token) → Ahead (ahead ts) → Refuses rules st number ts
  unfolding number_of ahead run
  refuses st number Ahead s e [] h r = e r h
  refuses st number Ahead s e (t ∷ ts) h r = run-onward rules st t ts r ∙ ap (onward rules ts r) (s (sort_of t.kind) r h)

  start-step : (k : Sort) (r : Rows) → (sort_number k ≡ 1 → ⊥) → (sort_number k ≡ 12 → ⊥) → step rules start k r ≡ refuse 8
  unfolding step start_step sort_number
  start-step Sort.block r h g = absurd (h refl)
  start-step Sort.global r h g = absurd (g refl)
  start-step Sort.frame r h g = refl
  start-step Sort.frame_end r h g = refl
  start-step Sort.loop r h g = refl
  start-step Sort.stop r h g = refl
  start-step Sort.name r h g = refl
  start-step Sort.value r h g = refl

  -- before a block: no heading and no `global_`
  pub start-refuses : (ts : List Token) → (ahead ts ≡ 0 → ⊥) → (ahead ts ≡ 1 → ⊥) → (ahead ts ≡ 12 → ⊥) → Refuses rules start 8 ts
  start-refuses ts n h g =
      refuses start 8 (λ k. (k ≡ 0 → ⊥) × (k ≡ 1 → ⊥) × (k ≡ 12 → ⊥)) (λ k r a. start-step k r a.1 a.2) (λ r a. absurd (a.0 refl)) ts (n, h, g)

  frame_step : (b s : ℕ) (k : Sort) (r : Rows) → (sort_number k ≡ 3 → ⊥) → (sort_number k ≡ 4 → ⊥) → (sort_number k ≡ 6 → ⊥)
      → step rules (within (in_frame b s)) k r ≡ refuse 8
  unfolding step between sort_number
  frame_step b s Sort.block r e l n = refl
  frame_step b s Sort.global r e l n = refl
  frame_step b s Sort.frame r e l n = refl
  frame_step b s Sort.frame_end r e l n = absurd (e refl)
  frame_step b s Sort.loop r e l n = absurd (l refl)
  frame_step b s Sort.stop r e l n = refl
  frame_step b s Sort.name r e l n = absurd (n refl)
  frame_step b s Sort.value r e l n = refl

  -- in a frame: no entry and no `save_`
  pub frame-refuses : (b s : ℕ) (ts : List Token) → (ahead ts ≡ 3 → ⊥) → (ahead ts ≡ 4 → ⊥) → (ahead ts ≡ 6 → ⊥)
      → Refuses rules (within (in_frame b s)) 8 ts
  unfolding end_run end_between
  frame-refuses b s ts e l n =
      refuses (within (in_frame b s)) 8 (λ k. (k ≡ 3 → ⊥) × (k ≡ 4 → ⊥) × (k ≡ 6 → ⊥)) (λ k r a. frame_step b s k r a.0 a.1 a.2) (λ r a. refl) ts
      (e, l, n)

  named_step_lem : (w : Where) (k : Sort) (r : Rows) → (sort_number k ≡ 7 → ⊥) → step rules (named w) k r ≡ refuse 8
  unfolding step named_step sort_number
  named_step_lem w Sort.block r h = refl
  named_step_lem w Sort.global r h = refl
  named_step_lem w Sort.frame r h = refl
  named_step_lem w Sort.frame_end r h = refl
  named_step_lem w Sort.loop r h = refl
  named_step_lem w Sort.stop r h = refl
  named_step_lem w Sort.name r h = refl
  named_step_lem w Sort.value r h = absurd (h refl)

  -- after an item's name: no value
  pub named-refuses : (w : Where) (ts : List Token) → (ahead ts ≡ 7 → ⊥) → Refuses rules (named w) 8 ts
  unfolding end_run
  named-refuses w ts h = refuses (named w) 8 (λ k. k ≡ 7 → ⊥) (named_step_lem w) (λ r a. refl) ts h

  nameless-step : (w : Where) (first : ℕ) (before : List ℕ) (k : Sort) (r : Rows) → (sort_number k ≡ 6 → ⊥)
      → step rules (header w first before 0 0) k r ≡ refuse 8
  unfolding step header_step sort_number
  nameless-step w first before Sort.block r h = refl
  nameless-step w first before Sort.global r h = refl
  nameless-step w first before Sort.frame r h = refl
  nameless-step w first before Sort.frame_end r h = refl
  nameless-step w first before Sort.loop r h = refl
  nameless-step w first before Sort.stop r h = refl
  nameless-step w first before Sort.name r h = absurd (h refl)
  nameless-step w first before Sort.value r h = refl

  -- a level of a header without a name
  pub nameless-refuses : (w : Where) (first : ℕ) (before : List ℕ) (ts : List Token) → (ahead ts ≡ 6 → ⊥)
      → Refuses rules (header w first before 0 0) 8 ts
  unfolding end_run
  nameless-refuses w first before ts h = refuses (header w first before 0 0) 8 (λ k. k ≡ 6 → ⊥) (nameless-step w first before) (λ r a. refl) ts h

  -- `loop_` after the last level that is allowed
  pub deepest-refuses : (w : Where) (first : ℕ) (before : List ℕ) (n : ℕ) (ts : List Token) → 0 < n → rules.levels ≤ suc (length before) → ahead ts ≡ 4
      → Refuses rules (header w first before n 0) 11 ts
  unfolding end_run step header_step sort_number
  deepest-refuses w first before n ts some l e =
      refuses (header w first before n 0) 11 (λ k. k ≡ 4) at (λ r a. absurd (omega arith)) ts e
    where
      at : (k : Sort) (r : Rows) → sort_number k ≡ 4 → step rules (header w first before n 0) k r ≡ refuse 11
      at Sort.block r a = absurd (omega arith)
      at Sort.global r a = absurd (omega arith)
      at Sort.frame r a = absurd (omega arith)
      at Sort.frame_end r a = absurd (omega arith)
      at Sort.loop r a = rw (lt-ltb 0 n some, le-ltb (suc (length before)) rules.levels l)
      at Sort.stop r a = absurd (omega arith)
      at Sort.name r a = absurd (omega arith)
      at Sort.value r a = absurd (omega arith)

  -- a header stop where the rules have none
  pub retired-refuses : rules.header_stops ≡ false → (w : Where) (first : ℕ) (before : List ℕ) (n s : ℕ) (ts : List Token) → 0 < n → s < length before → ahead ts ≡ 5
      → Refuses rules (header w first before n s) 16 ts
  unfolding end_run step header_step sort_number
  retired-refuses none w first before n s ts some l e =
      refuses (header w first before n s) 16 (λ k. k ≡ 5) at (λ r a. absurd (omega arith)) ts e
    where
      at : (k : Sort) (r : Rows) → sort_number k ≡ 5 → step rules (header w first before n s) k r ≡ refuse 16
      at Sort.block r a = absurd (omega arith)
      at Sort.global r a = absurd (omega arith)
      at Sort.frame r a = absurd (omega arith)
      at Sort.frame_end r a = absurd (omega arith)
      at Sort.loop r a = absurd (omega arith)
      at Sort.stop r a = rw (lt-ltb 0 n some, lt-ltb s (length before) l, none)
      at Sort.name r a = absurd (omega arith)
      at Sort.value r a = absurd (omega arith)

  closed-step : (w : Where) (first : ℕ) (before : List ℕ) (n s : ℕ) (k : Sort) (r : Rows) → 0 < n → Closed (length before) s (sort_number k)
      → step rules (header w first before n s) k r ≡ refuse 8
  unfolding step header_step sort_number
  closed-step w first before n s Sort.block r some h = refl
  closed-step w first before n s Sort.global r some h = refl
  closed-step w first before n s Sort.frame r some h = refl
  closed-step w first before n s Sort.frame_end r some h = refl
  closed-step w first before n s Sort.loop r some h = rw (lt-ltb 0 n some, ne_eqb s 0 (omega (arith, h.loop refl)))
  closed-step w first before n s Sort.stop r some h = rw (lt-ltb 0 n some, le-ltb s (length before) (h.stop refl))
  closed-step w first before n s Sort.name r some h = rw (ne_eqb s 0 (omega (arith, h.name refl)))
  closed-step w first before n s Sort.value r some h = absurd (h.value refl)

  pub closed-refuses : (w : Where) (first : ℕ) (before : List ℕ) (n s : ℕ) (ts : List Token) → 0 < n → Closed (length before) s (ahead ts)
      → Refuses rules (header w first before n s) 8 ts
  unfolding end_run
  closed-refuses w first before n s ts some h =
      refuses (header w first before n s) 8 (Closed (length before) s) (λ k r a. closed-step w first before n s k r some a) (λ r a. refl) ts h

  partial-step : (w : Where) (outer : List Level) (l : Level) (inner : List ℕ) (f : ℕ) (k : Sort) (r : Rows) → (sort_number k ≡ 7 → ⊥)
      → step rules (body w outer l inner (suc f)) k r ≡ refuse 10
  unfolding step body_step no_value_at sort_number
  partial-step w outer l inner f Sort.block r h = refl
  partial-step w outer l inner f Sort.global r h = refl
  partial-step w outer l inner f Sort.frame r h = refl
  partial-step w outer l inner f Sort.frame_end r h = refl
  partial-step w outer l inner f Sort.loop r h = refl
  partial-step w outer l inner f Sort.stop r h = refl
  partial-step w outer l inner f Sort.name r h = refl
  partial-step w outer l inner f Sort.value r h = absurd (h refl)

  partial-end : (w : Where) (outer : List Level) (l : Level) (inner : List ℕ) (f : ℕ) (r : Rows)
      → end_run (body w outer l inner (suc f)) r ≡ bad 10 r.tokens
  unfolding end_run end_body
  partial-end w [] l inner f r = refl
  partial-end w (o ∷ outer) l inner f r = refl

  -- in a packet that is not full: no value
  pub partial-refuses : (w : Where) (outer : List Level) (l : Level) (inner : List ℕ) (f : ℕ) (ts : List Token) → (ahead ts ≡ 7 → ⊥)
      → Refuses rules (body w outer l inner (suc f)) 10 ts
  partial-refuses w outer l inner f ts h =
      refuses (body w outer l inner (suc f)) 10 (λ k. k ≡ 7 → ⊥) (partial-step w outer l inner f) (λ r a. partial-end w outer l inner f r) ts h

  open_step : (w : Where) (o : Level) (outer : List Level) (l : Level) (inner : List ℕ) (k : Sort) (r : Rows) → (sort_number k ≡ 7 → ⊥)
      → (sort_number k ≡ 5 → ⊥) → step rules (body w (o ∷ outer) l inner 0) k r ≡ refuse 10
  unfolding step body_step no_value_at no_value sort_number
  open_step w o outer l inner Sort.block r h s = refl
  open_step w o outer l inner Sort.global r h s = refl
  open_step w o outer l inner Sort.frame r h s = refl
  open_step w o outer l inner Sort.frame_end r h s = refl
  open_step w o outer l inner Sort.loop r h s = refl
  open_step w o outer l inner Sort.stop r h s = absurd (s refl)
  open_step w o outer l inner Sort.name r h s = refl
  open_step w o outer l inner Sort.value r h s = absurd (h refl)

  -- in an open inner level: no value and no `stop_`
  pub open-refuses : (w : Where) (o : Level) (outer : List Level) (l : Level) (inner : List ℕ) (ts : List Token) → (ahead ts ≡ 7 → ⊥)
      → (ahead ts ≡ 5 → ⊥) → Refuses rules (body w (o ∷ outer) l inner 0) 10 ts
  unfolding end_run end_body
  open-refuses w o outer l inner ts h s =
      refuses (body w (o ∷ outer) l inner 0) 10 (λ k. (k ≡ 7 → ⊥) × (k ≡ 5 → ⊥)) (λ k r a. open_step w o outer l inner k r a.0 a.1) (λ r a. refl) ts (h, s)
