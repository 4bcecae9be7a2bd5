-- The sort of a token from its kind, and one step of a run: each test of `sort_of` computes at another known kind.
use mathlib.Core.Path.{◌≡◌, refl, sym, ap, ◌∙◌}
use mathlib.Core.Bool.{Bool, true, false, cond}
use mathlib.Core.List.{List, ◌∷◌}
use Prim.Native.Nat.{ℕ, ◌≤◌}
use native.Mathlib.Omega.{arith}
use lib.Dec.{eqb}
use borrow.Author.Tests.{ne_eqb, eqb-true, eqb-false}
use Rattle.star_lex.specs.Rules.{Rules}
use Rattle.star_lex.specs.Tokens.{Token}
use Rattle.star_grammar.specs.Tree.{IsValue, IsName, frame_end, loop_start, stop}
use Rattle.star_grammar.specs.Tables.{Rows}
use Rattle.star_grammar.specs.Machine.{Sort, sort_of, State, Step, go, refuse, step, step_at, Run, bad, run}

-- a kind of this sort
abbrev pub OfSort : (kind : ℕ) → Sort → Type 0
OfSort kind k = sort_of kind ≡ k

pub sort-block : (t : Token) → t.kind ≡ 1 → OfSort t.kind Sort.block
unfolding sort_of
sort-block t e = ap sort_of e

pub sort-global : (t : Token) → t.kind ≡ 12 → OfSort t.kind Sort.global
unfolding sort_of
sort-global t e = ap sort_of e

pub sort-frame : (t : Token) → t.kind ≡ 2 → OfSort t.kind Sort.frame
unfolding sort_of
sort-frame t e = ap sort_of e

pub sort-name : (t : Token) → IsName t → OfSort t.kind Sort.name
unfolding sort_of
sort-name t h = ap sort_of h.kind6

pub sort-value : (t : Token) → IsValue t → OfSort t.kind Sort.value
unfolding sort_of
sort-value t h =
    rw (
      ne_eqb t.kind 1 (omega arith),
      ne_eqb t.kind 2 (omega arith),
      ne_eqb t.kind 3 (omega arith),
      ne_eqb t.kind 4 (omega arith),
      ne_eqb t.kind 5 (omega arith),
      ne_eqb t.kind 6 (omega arith),
      ne_eqb t.kind 12 (omega (arith, h.high)),
    )

pub sort-frame-end : OfSort frame_end.kind Sort.frame_end
unfolding sort_of frame_end
sort-frame-end = refl

pub sort-loop : OfSort loop_start.kind Sort.loop
unfolding sort_of loop_start
sort-loop = refl

pub sort-stop : OfSort stop.kind Sort.stop
unfolding sort_of stop
sort-stop = refl

-- the kinds of a sort
abbrev pub KindOf : ℕ → Sort → Type 0
KindOf n Sort.block = n ≡ 1
KindOf n Sort.global = n ≡ 12
KindOf n Sort.frame = n ≡ 2
KindOf n Sort.frame_end = n ≡ 3
KindOf n Sort.loop = n ≡ 4
KindOf n Sort.stop = n ≡ 5
KindOf n Sort.name = n ≡ 6
KindOf n Sort.value = (7 ≤ n) × (n ≤ 11)

sort-cond : (P : Sort → Type 0) (b : Bool) (x y : Sort) → (b ≡ true → P x) → (b ≡ false → P y) → P (cond b x y)
sort-cond P true x y f g = f refl
sort-cond P false x y f g = g refl

pub sort-kind : (n : ℕ) → 1 ≤ n → n ≤ 12 → KindOf n (sort_of n)
unfolding sort_of
sort-kind n h l =
    sort-cond (KindOf n) (eqb n 1) _ _ (eqb-true n 1) λ e₁.
    let h₁ : 2 ≤ n = omega (arith, eqb-false n 1 e₁) in
    sort-cond (KindOf n) (eqb n 2) _ _ (eqb-true n 2) λ e₂.
    let h₂ : 3 ≤ n = omega (arith, eqb-false n 2 e₂) in
    sort-cond (KindOf n) (eqb n 3) _ _ (eqb-true n 3) λ e₃.
    let h₃ : 4 ≤ n = omega (arith, eqb-false n 3 e₃) in
    sort-cond (KindOf n) (eqb n 4) _ _ (eqb-true n 4) λ e₄.
    let h₄ : 5 ≤ n = omega (arith, eqb-false n 4 e₄) in
    sort-cond (KindOf n) (eqb n 5) _ _ (eqb-true n 5) λ e₅.
    let h₅ : 6 ≤ n = omega (arith, eqb-false n 5 e₅) in
    sort-cond (KindOf n) (eqb n 6) _ _ (eqb-true n 6) λ e₆.
    sort-cond (KindOf n) (eqb n 12) _ _ (eqb-true n 12) λ e₇. (omega (arith, eqb-false n 6 e₆), omega (arith, eqb-false n 12 e₇))

pub step-sort : (rules : Rules) (st : State) (kind : ℕ) (r : Rows) (k : Sort) → OfSort kind k → step_at rules st kind r ≡ step rules st k r
step-sort rules st kind r k h = ap (λ s. step rules st s r) h

-- what a step leads to
abbrev pub onward : (rules : Rules) → List Token → Rows → Step → Run
onward rules ts r (go s r') = run rules s ts r'
onward rules ts r (refuse n) = bad n r.tokens

pub run-onward : (rules : Rules) (st : State) (t : Token) (ts : List Token) (r : Rows)
    → run rules st (t ∷ ts) r ≡ onward rules ts r (step_at rules st t.kind r)
unfolding run
run-onward rules st t ts r = at (step_at rules st t.kind r) refl
  where
    at : (x : Step) → step_at rules st t.kind r ≡ x → run rules st (t ∷ ts) r ≡ onward rules ts r x
    at (go s r') e = rw (e, run)
    at (refuse n) e = rw (e, run)

-- a run goes on where the step of its first token's sort goes
pub run-sort : (rules : Rules) (st : State) (t : Token) (ts : List Token) (r : Rows) (k : Sort)
    → OfSort t.kind k → run rules st (t ∷ ts) r ≡ onward rules ts r (step rules st k r)
run-sort rules st t ts r k h = run-onward rules st t ts r ∙ ap (onward rules ts r) (step-sort rules st t.kind r k h)

pub run-go : (rules : Rules) (st : State) (t : Token) (ts : List Token) (r : Rows) (k : Sort) (s : State) (r' : Rows)
    → OfSort t.kind k → step rules st k r ≡ go s r' → run rules st (t ∷ ts) r ≡ run rules s ts r'
run-go rules st t ts r k s r' h e = run-sort rules st t ts r k h ∙ ap (onward rules ts r) e

-- two states with the same step at a sort run alike
pub run-alike : (rules : Rules) (st st' : State) (t : Token) (ts : List Token) (r : Rows)
    → step rules st (sort_of t.kind) r ≡ step rules st' (sort_of t.kind) r → run rules st (t ∷ ts) r ≡ run rules st' (t ∷ ts) r
run-alike rules st st' t ts r e = run-onward rules st t ts r ∙ ap (onward rules ts r) e ∙ sym (run-onward rules st' t ts r)
