-- Rules without header stops against the same with them: the machine goes the same way, or refuses with 16 where the other goes on.
use mathlib.Core.Path.{◌≡◌, refl, sym, ap, ◌∙◌}
use mathlib.Core.Bool.{Bool, true, false, cond, ◌&&◌}
use mathlib.Core.Logic.{◌⊎◌, inl, inr}
use mathlib.Core.List.{List, [], ◌∷◌}
use Prim.Native.Nat.{ℕ, suc, ◌+◌, ◌≤◌}
use native.Mathlib.Omega.{arith}
use lib.Dec.{ltb}
use lib.ListN.{length}
use Rattle.star_lex.specs.Rules.{Rules, at_stops}
use Rattle.star_lex.specs.Tokens.{Token}
use Rattle.star_grammar.specs.Tables.{Rows, pass}
use Rattle.star_grammar.specs.Machine.{Sort, sort_of, Where, State, start, within, named, header, body, Step, go, refuse, header_step, step, step_at, Run, bad, good, end_run, run}
use Rattle.star_grammar.proofs.Sorts.{onward, run-onward}
use Rattle.star_grammar.proofs.Passing.{step-passes, end-passes}

-- a run that, if it refuses, has passed so many tokens
abbrev pub Least : ℕ → Run → Type 0
Least m (bad n i) = m ≤ i
Least m (good r) = Unit {0}

least-end : (st : State) (r : Rows) → Least r.tokens (end_run st r)
least-end st r = by (end_run st r) refl
  where
    by : (x : Run) → end_run st r ≡ x → Least r.tokens x
    by (bad n i) e = omega (arith, end-passes st r n i e)
    by (good u) e = tt

more-least : (m n : ℕ) (x : Run) → m ≤ n → Least n x → Least m x
more-least m n (bad k i) l h = omega (arith, l, h)
more-least m n (good r) l h = tt

run-least : (rules : Rules) (st : State) (ts : List Token) (r : Rows) → Least r.tokens (run rules st ts r)
unfolding run
run-least rules st [] r = least-end st r
run-least rules st (t ∷ ts) r = rw (run-onward rules st t ts r) (by (step_at rules st t.kind r) refl (λ s u. run-least rules s ts u))
  where
    by : (x : Step) → step_at rules st t.kind r ≡ x → ((s : State) (u : Rows) → Least u.tokens (run rules s ts u)) → Least r.tokens (onward rules ts r x)
    by (go s u) e later =
        let h : u.tokens ≡ suc r.tokens = rw e at (step-passes rules st (sort_of t.kind) r) in
        more-least r.tokens u.tokens (run rules s ts u) (omega arith) (later s u)
    by (refuse n) e later = omega arith

module _ (rules : Rules) where
  abbrev none : Rules
  none = at_stops rules false

  abbrev some : Rules
  some = at_stops rules true

  header-sixteen : (w : Where) (first : ℕ) (before : List ℕ) (n s : ℕ) (k : Sort) (r : Rows)
      → (header_step none w first before n s k r ≡ header_step some w first before n s k r) ⊎ (header_step none w first before n s k r ≡ refuse 16)
  unfolding header_step
  header-sixteen w first before n s Sort.block r = inl refl
  header-sixteen w first before n s Sort.global r = inl refl
  header-sixteen w first before n s Sort.frame r = inl refl
  header-sixteen w first before n s Sort.frame_end r = inl refl
  header-sixteen w first before n s Sort.loop r = inl refl
  header-sixteen w first before n s Sort.stop r = by (ltb 0 n && ltb s (length before))
    where
      by : (b : Bool) → (cond b (refuse 16) (refuse 8) ≡ cond b (go (header w first before n (suc s)) (pass r)) (refuse 8)) ⊎ (cond b (refuse 16) (refuse 8) ≡ refuse 16)
      by true = inr refl
      by false = inl refl
  header-sixteen w first before n s Sort.name r = inl refl
  header-sixteen w first before n s Sort.value r = inl refl

  step-sixteen : (st : State) (k : Sort) (r : Rows) → (step none st k r ≡ step some st k r) ⊎ (step none st k r ≡ refuse 16)
  unfolding step
  step-sixteen start k r = inl refl
  step-sixteen (within w) k r = inl refl
  step-sixteen (named w) k r = inl refl
  step-sixteen (header w first before n s) k r = header-sixteen w first before n s k r
  step-sixteen (body w outer l inner f) k r = inl refl

  -- the run is the same, or is refused with 16 at a token that the other has passed
  abbrev pub SameRun : State → List Token → Rows → Type 0
  SameRun st ts r =
      (run none st ts r ≡ run some st ts r) ⊎ ((i : ℕ) × (run none st ts r ≡ bad 16 i) × Least i (run some st ts r) × (i ≤ r.tokens + length ts))

  pub run-sixteen : (st : State) (ts : List Token) (r : Rows) → SameRun st ts r
  unfolding run
  run-sixteen st [] r = inl refl
  run-sixteen st (t ∷ ts) r = by (step-sixteen st (sort_of t.kind) r) (λ s u. run-sixteen s ts u)
    where
      on : (x : Step) → step_at none st t.kind r ≡ x → step_at some st t.kind r ≡ x → ((s : State) (u : Rows) → SameRun s ts u) → SameRun st (t ∷ ts) r
      on (go s u) e d later = at (later s u)
        where
          this : run none st (t ∷ ts) r ≡ run none s ts u
          this = run-onward none st t ts r ∙ ap (onward none ts r) e

          that : run some st (t ∷ ts) r ≡ run some s ts u
          that = run-onward some st t ts r ∙ ap (onward some ts r) d

          at : SameRun s ts u → SameRun st (t ∷ ts) r
          at (inl q) = inl (this ∙ q ∙ sym that)
          at (inr (i, q, l, m)) =
              let h : u.tokens ≡ suc r.tokens = rw e at (step-passes none st (sort_of t.kind) r) in
              inr (i, this ∙ q, rw that l, omega arith)
      on (refuse n) e d later = inl (run-onward none st t ts r ∙ ap (onward none ts r) e ∙ sym (run-onward some st t ts r ∙ ap (onward some ts r) d))

      by : (step_at none st t.kind r ≡ step_at some st t.kind r) ⊎ (step_at none st t.kind r ≡ refuse 16)
          → ((s : State) (u : Rows) → SameRun s ts u) → SameRun st (t ∷ ts) r
      by (inl e) later = on (step_at some st t.kind r) e refl later
      by (inr e) later = inr (r.tokens, run-onward none st t ts r ∙ ap (onward none ts r) e, run-least some st (t ∷ ts) r, omega arith)
