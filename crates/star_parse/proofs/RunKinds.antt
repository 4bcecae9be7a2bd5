-- Runs read kinds alone: the tokens of a table run as those of the file whose rows it holds.
use mathlib.Core.Path.{◌≡◌, refl, sym, ap, ◌∙◌}
use mathlib.Core.Bool.{Bool, true, and-eq-true_iff}
use mathlib.Core.List.{List, [], ◌∷◌, ◌++◌, map, flat_map}
use Prim.Native.Nat.{ℕ, zero, suc, ◌*◌, ◌≤◌, ◌<◌}
use native.Mathlib.Omega.{arith}
use borrow.Author.Tests.{leb-true, le-leb}
use lib.Dec.{leb}
use lib.ListN.{length, get_or, drop}
use lib.Seq.{get_or-drop}
use Rattle.star_text.specs.Bytes.{most_bytes}
use Rattle.star_lex.specs.Rules.{Rules, today, at_stops}
use Rattle.star_lex.specs.Tokens.{Token, Placed, token_row}
use Rattle.star_rows.specs.Rows.{holding}
use Rattle.star_grammar.specs.Tables.{Rows, no_rows}
use Rattle.star_grammar.specs.Machine.{State, Step, go, refuse, step_at, run, start}
use Rattle.star_lex.specs.Room.{has_rows}
use Rattle.star_parse.specs.Parsed.{kind_tokens, rows_run}
use Rattle.star_grammar.proofs.Sorts.{onward, run-onward}

onward-kinds : (rules : Rules) (ts us : List Token) (r : Rows) → ((s : State) (r' : Rows) → run rules s ts r' ≡ run rules s us r')
    → (x : Step) → onward rules ts r x ≡ onward rules us r x
onward-kinds rules ts us r f (go s r') = f s r'
onward-kinds rules ts us r f (refuse n) = refl

-- tokens of the same kinds
pub run-kinds : (rules : Rules) (st : State) (ts us : List Token) (r : Rows) → map (λ t. t.kind) ts ≡ map (λ t. t.kind) us
    → run rules st ts r ≡ run rules st us r
run-kinds rules st [] [] r e = refl
run-kinds rules st [] (u ∷ us) r e = let z : ◌≡◌ {A = ℕ} 0 1 = cc in absurd (omega arith)
run-kinds rules st (t ∷ ts) [] r e = let z : ◌≡◌ {A = ℕ} 0 1 = cc in absurd (omega arith)
run-kinds rules st (t ∷ ts) (u ∷ us) r e =
    let k : t.kind ≡ u.kind = cc in
    run-onward rules st t ts r
    ∙ onward-kinds rules ts us r (λ s r'. run-kinds rules s ts us r' (cc)) (step_at rules st t.kind r)
    ∙ ap (λ n. onward rules us r (step_at rules st n r)) k
    ∙ sym (run-onward rules st u us r)

-- the tokens of a table whose rows are these tokens
pub kinds-of-rows : (ps : List Placed) (rest : List ℕ)
    → map (λ t. t.kind) (kind_tokens (length ps) (flat_map token_row ps ++ rest)) ≡ map (λ p. p.token.kind) ps
unfolding kind_tokens flat_map token_row
kinds-of-rows [] rest = refl
kinds-of-rows (p ∷ ps) rest = ap (λ t. p.token.kind ∷ t) (kinds-of-rows ps rest)

kinds-of-tokens : (ps : List Placed) → map (λ t. t.kind) (map (λ p. p.token) ps) ≡ map (λ p. p.token.kind) ps
kinds-of-tokens [] = refl
kinds-of-tokens (p ∷ ps) = ap (λ ks. p.token.kind ∷ ks) (kinds-of-tokens ps)

pub kinds-of-holding : (ps : List Placed) (words : ℕ)
    → map (λ t. t.kind) (kind_tokens (length ps) (holding token_row ps words)) ≡ map (λ p. p.token.kind) ps
unfolding holding
kinds-of-holding ps words = kinds-of-rows ps _

-- a run over a table that holds these tokens is a run over them
pub run-holding : (rules : Rules) (st : State) (ps : List Placed) (words : ℕ) (r : Rows)
    → run rules st (kind_tokens (length ps) (holding token_row ps words)) r ≡ run rules st (map (λ p. p.token) ps) r
run-holding rules st ps words r = run-kinds rules st _ _ r (kinds-of-holding ps words ∙ sym (kinds-of-tokens ps))

pub length-kinds : (count : ℕ) (words : List ℕ) → length (kind_tokens count words) ≡ count
unfolding kind_tokens
length-kinds zero words = refl
length-kinds (suc n) words = ap suc (length-kinds n (drop 3 words))

-- the token at a place
pub kind_at : (count : ℕ) (words : List ℕ) (at : ℕ) (d : Token) → at < count → (get_or (kind_tokens count words) at d).kind ≡ get_or words (at * 3) 0
unfolding kind_tokens
kind_at zero words at d h = absurd (omega arith)
kind_at (suc n) words zero d h = refl
kind_at (suc n) words (suc at) d h =
    kind_at n (drop 3 words) at d (omega arith) ∙ get_or-drop 3 words (at * 3) 0 ∙ ap (λ k. get_or words k 0) (omega arith)

-- a table that has the rows
pub has-rows-fits : (count words : ℕ) → has_rows count words ≡ true → (count * 3 ≤ words) × (count ≤ most_bytes)
unfolding has_rows
has-rows-fits count words e =
    let (a, b) = (and-eq-true_iff (leb (count * 3) words) (leb count most_bytes)).0 e in
    (leb-true _ _ a, leb-true _ _ b)

pub rows_run_lem : (stops : Bool) (count : ℕ) (words : List ℕ) → count * 3 ≤ length words → count ≤ most_bytes
    → rows_run stops count words ≡ run (at_stops today stops) start (kind_tokens count words) no_rows
unfolding rows_run has_rows
rows_run_lem stops count words h k = rw (le-leb (count * 3) (length words) h, le-leb count most_bytes k)
