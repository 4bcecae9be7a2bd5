-- The sort of the next token by its number: a run's next step is that of the sort.
use mathlib.Core.Path.{◌≡◌, refl, sym, ap, ◌∙◌}
use mathlib.Core.Bool.{Bool, true, false}
use mathlib.Core.List.{List, [], ◌∷◌}
use Prim.Native.Nat.{ℕ, ◌+◌, ◌-◌, ◌*◌, ◌≤◌, ◌<◌}
use native.Mathlib.Omega.{arith}
use lib.Dec.{eqb, ltb}
use lib.ListN.{get_or, drop, drop_of_length-le}
use lib.Seq.{drop-cons, drop-drop}
use borrow.Author.Tests.{ltb-true, ltb-false, eqb-true, eqb-false}
use Rattle.star_lex.specs.Rules.{Rules}
use Rattle.star_lex.specs.Tokens.{Token}
use Rattle.star_grammar.specs.Tables.{Rows}
use Rattle.star_grammar.specs.Machine.{Sort, sort_of, State, step, end_run, run}
use Rattle.star_parse.specs.Parsed.{kind_tokens}
use Rattle.star_parse.specs.Reader.{sort_number, number_of, ahead, sort_at, Headed}
use Rattle.star_grammar.proofs.Sorts.{OfSort, onward, run-sort}
use Rattle.star_parse.proofs.RunKinds.{length-kinds, kind_at}

-- a sort has the number that is a kind of it
pub number-sort : (k : Sort) → sort_of (sort_number k) ≡ k
unfolding sort_of sort_number
number-sort Sort.block = refl
number-sort Sort.global = refl
number-sort Sort.frame = refl
number-sort Sort.frame_end = refl
number-sort Sort.loop = refl
number-sort Sort.stop = refl
number-sort Sort.name = refl
number-sort Sort.value = refl

pub number-some : (k : Sort) → 0 < sort_number k
unfolding sort_number
number-some Sort.block = omega arith
number-some Sort.global = omega arith
number-some Sort.frame = omega arith
number-some Sort.frame_end = omega arith
number-some Sort.loop = omega arith
number-some Sort.stop = omega arith
number-some Sort.name = omega arith
number-some Sort.value = omega arith

-- a kind with the number of a sort is of that sort
number-of : (kind : ℕ) (k : Sort) → number_of kind ≡ sort_number k → OfSort kind k
unfolding number_of
number-of kind k e = sym (number-sort (sort_of kind)) ∙ ap sort_of e ∙ number-sort k

-- the first token of a row whose next sort is this one
pub run-ahead : (rules : Rules) (st : State) (ts : List Token) (r : Rows) (k : Sort) → ahead ts ≡ sort_number k
    → run rules st ts r ≡ onward rules (drop 1 ts) r (step rules st k r)
unfolding ahead
run-ahead rules st [] r k e = absurd (omega (arith, number-some k))
run-ahead rules st (t ∷ ts) r k e =
    run-sort rules st t ts r k (number-of t.kind k e)

-- the end
pub run_end : (rules : Rules) (st : State) (ts : List Token) (r : Rows) → ahead ts ≡ 0 → run rules st ts r ≡ end_run st r
unfolding ahead number_of run
run_end rules st [] r e = refl
run_end rules st (t ∷ ts) r e = absurd (omega (arith, number-some (sort_of t.kind)))

-- the place after the next token
pub drop-next : (ts : List Token) (at next : ℕ) → next ≡ at + 1 → drop 1 (drop at ts) ≡ drop next ts
drop-next ts at next e = drop-drop 1 at ts ∙ ap (λ n. drop n ts) (sym e)

-- the sort at a place of the table
pub sort-in : (count : ℕ) (words : List ℕ) (at : ℕ) → at < count → sort_at count words at ≡ number_of (get_or words (at * 3) 0)
unfolding ahead
sort-in count words at h =
    let d : Token = record { kind = 0; content = [] } in
    ap ahead (drop-cons (kind_tokens count words) at d (rw length-kinds h)) ∙ ap number_of (kind_at count words at d h)

pub sort-past : (count : ℕ) (words : List ℕ) (at : ℕ) → count ≤ at → sort_at count words at ≡ 0
unfolding ahead
sort-past count words at h = ap ahead (drop_of_length-le (kind_tokens count words) {i = at} (rw length-kinds h))

pub at-end : (count : ℕ) (words : List ℕ) (at : ℕ) → sort_at count words at ≡ 0 → count ≤ at
unfolding number_of
at-end count words at e = go (ltb at count) refl
  where
    go : (b : Bool) → ltb at count ≡ b → count ≤ at
    go true q = absurd (omega (arith, e, sort-in count words at (ltb-true at count q), number-some (sort_of (get_or words (at * 3) 0))))
    go false q = ltb-false at count q

-- a sort that did not stand at a place stands only further on
pub further-on : (count : ℕ) (words : List ℕ) (from to k : ℕ) → from ≤ to → (sort_at count words from ≡ k → ⊥) → sort_at count words to ≡ k → 0 < to - from
further-on count words from to k h f e = go (eqb from to) refl
  where
    go : (b : Bool) → eqb from to ≡ b → 0 < to - from
    go true q = absurd (f (ap (sort_at count words) (eqb-true from to q) ∙ e))
    go false q = let n : (from ≡ to → ⊥) = eqb-false from to q in omega arith

-- what begins a block stands at a place
pub headed-token : {count : ℕ} {words : List ℕ} {at kind : ℕ} → Headed count words at kind → at < count
headed-token (Headed.data_block a) = a.token
headed-token (Headed.global_block a) = a.token
