-- A file as Windows writes it is read as with 10 alone: the machine sees kinds, names and codes, which are the same.
use mathlib.Core.Path.{◌≡◌, refl, sym, ◌∙◌, ap, subst}
use mathlib.Core.Bool.{Bool, true, false, cond, ◌&&◌}
use mathlib.Core.List.{List, [], ◌∷◌, map}
use Prim.Native.Nat.{ℕ}
use native.Mathlib.Omega.{arith}
use borrow.Author.Tests.{eqb-true, eqb-false, ne_eqb}
use lib.Dec.{eqb}
use lib.ListN.{length, length-map}
use Rattle.star_text.specs.Outcome.{accepted}
use Rattle.star_lex.specs.Rules.{Rules}
use Rattle.star_lex.specs.Tokens.{Token}
use Rattle.star_lex.specs.Demands.{windows, windows_token}
use Rattle.star_lex.proofs.Windows.{windows-splits}
use Rattle.star_lex.proofs.WellFormed.{well-formed-by}
use Rattle.star_grammar.specs.Tables.{Rows, no_rows}
use Rattle.star_grammar.specs.Machine.{State, start, Step, go, refuse, step_at, good, run}
use Rattle.star_grammar.specs.Layout.{Track, outside, is_between, today_kind, pass_kind, today_token, today_row}
use Rattle.star_grammar.proofs.Images.{image, image_from, image-same, row-image}
use Rattle.star_grammar.proofs.Sorts.{onward, run-onward}
use Rattle.star_unique.specs.Repeat.{Taken, nothing, is_taken, takes}
use Rattle.star_unique.proofs.Clean.{Clean}
use Rattle.star_read.specs.Read.{tokens_only}
use Rattle.star_read.specs.Demands.{Room, Tokenized, WindowsReads}
use Rattle.star_read.proofs.Readings.{reading-run, reading-clean, run-reading}
use Rattle.star_read.proofs.Demand3.{rows-of-reading, reads-rows}

-- a run sees the kinds alone
run-windows : (rules : Rules) (st : State) (ts : List Token) (r : Rows) → run rules st (map windows_token ts) r ≡ run rules st ts r
unfolding windows_token
run-windows rules st [] r = refl
run-windows rules st (t ∷ ts) r =
    run-onward rules st (windows_token t) (map windows_token ts) r
    ∙ at (step_at rules st t.kind r) (λ s u. run-windows rules s ts u)
    ∙ sym (run-onward rules st t ts r)
  where
    at : (x : Step) → ((s : State) (u : Rows) → run rules s (map windows_token ts) u ≡ run rules s ts u) → onward rules (map windows_token ts) r x ≡ onward rules ts r x
    at (go s u) later = later s u
    at (refuse n) later = refl

-- names and codes are as they were
taken-windows : (s : Taken) (t : Token) → (is_taken s (windows_token t) ≡ is_taken s t) × (takes s (windows_token t) ≡ takes s t)
unfolding windows_token is_taken takes
taken-windows s t = at (eqb t.kind 11) refl
  where
    at : (b : Bool) → eqb t.kind 11 ≡ b → (is_taken s (windows_token t) ≡ is_taken s t) × (takes s (windows_token t) ≡ takes s t)
    at true e = let k : t.kind ≡ 11 = eqb-true t.kind 11 e in (rw k, rw k)
    at false e = (rw e, rw e)

clean-windows : (s : Taken) (ts : List Token) → Clean s ts → Clean s (map windows_token ts)
clean-windows s [] c = tt
clean-windows s (t ∷ ts) c =
    let (i, u) = taken-windows s t in
    (i ∙ c.0, rw u (clean-windows (takes s t) ts c.1))

-- a token is the same one today, with either line ends
windows-stays : (x : Token) → (x.kind ≡ 11 → ⊥) → windows_token x ≡ x
unfolding windows_token
windows-stays x n = rw (ne_eqb x.kind 11 n)

windows-kind : (x : Token) → (windows_token x).kind ≡ x.kind
unfolding windows_token
windows-kind x = refl

today-not : (t : Track) (k : ℕ) → (k ≡ 11 → ⊥) → today_kind t k ≡ 11 → ⊥
unfolding today_kind
today-not t k n = by t.inside (eqb k 3) (eqb k 5 && is_between t)
  where
    by : (i a b : Bool) → cond i (cond a 12 (cond b 3 k)) k ≡ 11 → ⊥
    by true true b e = omega (arith, e)
    by true false true e = omega (arith, e)
    by true false false e = n e
    by false a b e = n e

image-not : (old : Bool) (t : Track) (x : Token) → (x.kind ≡ 11 → ⊥) → (image old t x).kind ≡ 11 → ⊥
unfolding image today_token
image-not true t x n = today-not t x.kind n
image-not false t x n = n

image-windows : (old : Bool) (t : Track) (x : Token) → image old t (windows_token x) ≡ windows_token (image old t x)
image-windows old t x = by (eqb x.kind 11) refl
  where
    by : (b : Bool) → eqb x.kind 11 ≡ b → image old t (windows_token x) ≡ windows_token (image old t x)
    by true e =
        let k : x.kind ≡ 11 = eqb-true x.kind 11 e in
        image-same old t (windows_token x) (λ a. omega (arith, a, k, windows-kind x)) (λ a. omega (arith, a, k, windows-kind x))
        ∙ ap windows_token (sym (image-same old t x (λ a. omega (arith, a, k)) (λ a. omega (arith, a, k))))
    by false e =
        let n : x.kind ≡ 11 → ⊥ = eqb-false x.kind 11 e in
        ap (image old t) (windows-stays x n) ∙ sym (windows-stays (image old t x) (image-not old t x n))

from-windows : (old : Bool) (most : ℕ) (t : Track) (ts : List Token) → image_from old most t (map windows_token ts) ≡ map windows_token (image_from old most t ts)
unfolding image_from
from-windows old most t [] = refl
from-windows old most t (x ∷ xs) =
    let here : image old t (windows_token x) ≡ windows_token (image old t x) = image-windows old t x in
    let kind : (image old t (windows_token x)).kind ≡ (image old t x).kind = ap (λ y. y.kind) here ∙ windows-kind (image old t x) in
    ap (λ y. y ∷ image_from old most (pass_kind most t (image old t (windows_token x)).kind) (map windows_token xs)) here
    ∙ ap (λ k. windows_token (image old t x) ∷ image_from old most (pass_kind most t k) (map windows_token xs)) kind
    ∙ ap (λ ys. windows_token (image old t x) ∷ ys) (from-windows old most (pass_kind most t (image old t x).kind) xs)

row-windows : (rules : Rules) (ts : List Token) → today_row rules (map windows_token ts) ≡ map windows_token (today_row rules ts)
row-windows rules ts =
    row-image rules (map windows_token ts) ∙ from-windows rules.stop_closes rules.levels (outside false) ts ∙ ap (map windows_token) (sym (row-image rules ts))

pub windows-reads : WindowsReads
windows-reads rules usable pairs file words ps rows n e small others table rooms =
    let (splits, r, is) = rows-of-reading rules usable file words ps rows e in
    let (qs, f, g) = windows-splits rules pairs file n ps splits in
    let row : today_row rules (tokens_only qs) ≡ map windows_token (today_row rules (tokens_only ps)) = ap (today_row rules) g ∙ row-windows rules (tokens_only ps) in
    let ran : run rules start (today_row rules (tokens_only qs)) no_rows ≡ good rows
    = ap (λ ts. run rules start ts no_rows) row ∙ run-windows rules start (today_row rules (tokens_only ps)) no_rows ∙ reading-run rules (tokens_only ps) r ∙ ap good (sym is) in
    let clean : Clean nothing (today_row rules (tokens_only qs)) = rw row (clean-windows nothing (today_row rules (tokens_only ps)) (reading-clean rules (tokens_only ps) r)) in
    let (q, same) = run-reading rules usable.some_level (tokens_only qs) rows (well-formed-by rules (windows file) qs f) ran clean in
    let size : length qs ≡ length ps
    = sym (length-map qs (λ p. p.token)) ∙ ap length g ∙ length-map (tokens_only ps) windows_token ∙ length-map ps (λ p. p.token) in
    let fits : Tokenized rules (windows file) others qs = record { small = small; splits = f; room = omega (arith, size) } in
    (qs, reads-rows rules (windows file) others qs fits q (subst (Room others) same rooms) ∙ ap (λ u. accepted (qs, u)) (sym same), g)
