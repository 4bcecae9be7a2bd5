-- A run is a walk and then an end, or a step that refuses: it goes on as long as steps are taken.
use mathlib.Core.Path.{◌≡◌, refl, sym, ap, ◌∙◌}
use mathlib.Core.List.{List, [], ◌∷◌, ◌++◌}
use Prim.Native.Nat.{ℕ}
use Rattle.star_lex.specs.Rules.{Rules}
use Rattle.star_lex.specs.Tokens.{Token}
use Rattle.star_lex.proofs.Cases.{impossible}
use Rattle.star_grammar.specs.Tables.{Rows}
use Rattle.star_grammar.specs.Machine.{State, Step, go, refuse, step_at, bad, good, end_run, run, walk}
use Rattle.star_grammar.proofs.Sorts.{onward, run-onward}
use Rattle.star_grammar.proofs.Alive.{walk_on, walk-on, refuse-go, walk-append}

-- a walk whose steps are all taken
abbrev pub Walks : (rules : Rules) → State → List Token → Rows → Type 0
Walks rules st p r = (s : State) × (u : Rows) × (walk rules st p r ≡ go s u)

module _ (rules : Rules) where
  -- a step that is taken, before a walk
  walks-step : (st s : State) (t : Token) (p : List Token) (r u : Rows) → step_at rules st t.kind r ≡ go s u → Walks rules s p u
      → Walks rules st (t ∷ p) r
  walks-step st s t p r u e k = (k.0, k.1, walk-on rules st t p r ∙ ap (walk_on rules p) e ∙ k.2)

  -- the first part of a walk
  pub walks-first : (p q : List Token) (st : State) (r : Rows) → Walks rules st (p ++ q) r → Walks rules st p r
  unfolding walk
  walks-first [] q st r k = (st, r, refl)
  walks-first (t ∷ p) q st r k = at (walks-first p q) (step_at rules st t.kind r) refl
    where
      at : ((s : State) (u : Rows) → Walks rules s (p ++ q) u → Walks rules s p u) → (x : Step) → step_at rules st t.kind r ≡ x
          → Walks rules st (t ∷ p) r
      at later (go s u) e =
          walks-step st s t p r u e (later s u (k.0, k.1, ap (walk_on rules (p ++ q)) (sym e) ∙ sym (walk-on rules st t (p ++ q) r) ∙ k.2))
      at later (refuse n) e =
          let z : refuse n ≡ go k.0 k.1 = ap (walk_on rules (p ++ q)) (sym e) ∙ sym (walk-on rules st t (p ++ q) r) ∙ k.2 in
          impossible cc

  -- a run that accepts
  pub good-walks : (ts : List Token) (st : State) (r v : Rows) → run rules st ts r ≡ good v → Walks rules st ts r
  unfolding walk
  good-walks [] st r v e = (st, r, refl)
  good-walks (t ∷ ts) st r v e = at (good-walks ts) (step_at rules st t.kind r) refl
    where
      at : ((s : State) (u v : Rows) → run rules s ts u ≡ good v → Walks rules s ts u) → (x : Step) → step_at rules st t.kind r ≡ x
          → Walks rules st (t ∷ ts) r
      at later (go s u) q = walks-step st s t ts r u q (later s u v (ap (onward rules ts r) (sym q) ∙ sym (run-onward rules st t ts r) ∙ e))
      at later (refuse n) q =
          let z : bad n r.tokens ≡ good v = ap (onward rules ts r) (sym q) ∙ sym (run-onward rules st t ts r) ∙ e in
          impossible cc

-- one token more
module _ (rules : Rules) (st s : State) (p : List Token) (t : Token) (r u : Rows) where
  walk-next : walk rules st p r ≡ go s u → walk rules st (p ++ (t ∷ [])) r ≡ walk_on rules [] (step_at rules s t.kind u)
  walk-next e = walk-append rules st s p (t ∷ []) r u e ∙ walk-on rules s t [] u

  pub walk_step : (s' : State) (u' : Rows) → walk rules st p r ≡ go s u → step_at rules s t.kind u ≡ go s' u'
      → walk rules st (p ++ (t ∷ [])) r ≡ go s' u'
  unfolding walk
  walk_step s' u' e k = walk-next e ∙ ap (walk_on rules []) k

  pub halted : (n : ℕ) → walk rules st p r ≡ go s u → step_at rules s t.kind u ≡ refuse n → Walks rules st (p ++ (t ∷ [])) r → ⊥
  halted n e k w = refuse-go n w.0 w.1 (sym (walk-next e ∙ ap (walk_on rules []) k) ∙ w.2)

-- a run that refuses: at a token that a step refuses after a walk, or at the end, out of place after a walk
pub data Halts (rules : Rules) (st : State) (ts : List Token) (r : Rows) (n i : ℕ) : Type 0 where
  token : (p : List Token) (t : Token) (q : List Token) (s : State) (u : Rows) → ts ≡ p ++ (t ∷ q) → walk rules st p r ≡ go s u
      → step_at rules s t.kind u ≡ refuse n → i ≡ u.tokens → Halts rules st ts r n i
  end : (s : State) (u : Rows) → walk rules st ts r ≡ go s u → end_run s u ≡ bad n i → Halts rules st ts r n i

module _ (rules : Rules) where
  halts-step : (st s : State) (t : Token) (ts : List Token) (r u : Rows) (n i : ℕ) → step_at rules st t.kind r ≡ go s u
      → Halts rules s ts u n i → Halts rules st (t ∷ ts) r n i
  halts-step st s t ts r u n i e (Halts.token p t' q s' u' d w f c) =
      Halts.token (t ∷ p) t' q s' u' (ap (λ xs. t ∷ xs) d) (walk-on rules st t p r ∙ ap (walk_on rules p) e ∙ w) f c
  halts-step st s t ts r u n i e (Halts.end s' u' w f) = Halts.end s' u' (walk-on rules st t ts r ∙ ap (walk_on rules ts) e ∙ w) f

  pub bad-halts : (ts : List Token) (st : State) (r : Rows) (n i : ℕ) → run rules st ts r ≡ bad n i → Halts rules st ts r n i
  unfolding run walk
  bad-halts [] st r n i e = Halts.end st r refl e
  bad-halts (t ∷ ts) st r n i e = at (bad-halts ts) (step_at rules st t.kind r) refl
    where
      at : ((s : State) (u : Rows) (n i : ℕ) → run rules s ts u ≡ bad n i → Halts rules s ts u n i) → (x : Step)
          → step_at rules st t.kind r ≡ x → Halts rules st (t ∷ ts) r n i
      at later (go s u) q =
          halts-step st s t ts r u n i q (later s u n i (ap (onward rules ts r) (sym q) ∙ sym (run-onward rules st t ts r) ∙ e))
      at later (refuse m) q =
          let z : bad m r.tokens ≡ bad n i = ap (onward rules ts r) (sym q) ∙ sym (run-onward rules st t ts r) ∙ e in
          let d : m ≡ n = cc in
          Halts.token [] t ts st r refl refl (q ∙ ap refuse d) (cc)
