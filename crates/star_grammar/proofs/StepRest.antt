-- Which rows may still come is what runs accept, and it goes along each step: forward by the run that accepts such a row, backward by the
-- token put before it.
use mathlib.Core.Path.{◌≡◌, sym, ap, ◌∙◌}
use mathlib.Core.List.{List, ◌∷◌}
use mathlib.Core.Logic.{◌↔◌}
use Prim.Native.Nat.{ℕ, ◌≤◌}
use Rattle.star_lex.specs.Rules.{Rules}
use Rattle.star_lex.specs.Tokens.{Token, Each}
use Rattle.star_grammar.specs.Tables.{Rows}
use Rattle.star_grammar.specs.Machine.{State, Step, go, refuse, step_at, run}
use Rattle.star_grammar.proofs.Rest.{Fixed, Rest, Sane}
use Rattle.star_grammar.proofs.Sorts.{onward, run-onward}
use Rattle.star_grammar.proofs.Sane.{sane-kept}
use Rattle.star_grammar.proofs.Sound.{step_back, run-back, bad-good}
use Rattle.star_grammar.proofs.Accepts.{Good, accepts}

module _ (rules : Rules) (least : 1 ≤ rules.levels) where
  -- the rows that may still come are those that a run accepts
  pub rest-runs : (st : State) (ts : List Token) (r : Rows) → Sane rules st → Each Fixed ts → Rest rules st ts ↔ Good (run rules st ts r)
  rest-runs st ts r h f = (accepts rules st ts r h, λ g. run-back rules least ts st r g.0 f h g.1)

  module _ (st : State) (t : Token) (ts : List Token) (r : Rows) (h : Sane rules st) (ft : Fixed t) (fts : Each Fixed ts) where
    onward-good : Rest rules st (t ∷ ts) → (x : Step) → step_at rules st t.kind r ≡ x → Good (onward rules ts r x)
    onward-good p x e =
        let g : Good (run rules st (t ∷ ts) r) = accepts rules st (t ∷ ts) r h p in
        (g.0, ap (onward rules ts r) (sym e) ∙ sym (run-onward rules st t ts r) ∙ g.1)

    -- a step that is taken
    pub step-rest : (s : State) (r' : Rows) → step_at rules st t.kind r ≡ go s r' → Rest rules st (t ∷ ts) ↔ Rest rules s ts
    step-rest s r' e = (
      λ p. (rest-runs s ts r' (sane-kept rules least st s t.kind r r' h e) fts).1 (onward-good p (go s r') e),
      step_back rules t ts ft st s r r' h e,
    )

    -- a step that is refused
    pub step-refused : (n : ℕ) → step_at rules st t.kind r ≡ refuse n → Rest rules st (t ∷ ts) → ⊥
    step-refused n e p = let g : Good (onward rules ts r (refuse n)) = onward-good p (refuse n) e in bad-good _ _ _ g.1
