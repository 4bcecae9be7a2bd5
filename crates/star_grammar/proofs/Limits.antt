-- More levels than a row needs change nothing, and neither does allowing header stops: a step asks for the limit of levels only at a `loop_` in a header, and takes it with any larger
-- one; it asks for header stops only at a `stop_` there.
use mathlib.Core.Path.{◌≡◌, refl, ap, ◌∙◌}
use mathlib.Core.Bool.{true, ◌&&◌}
use mathlib.Core.List.{List, ◌∷◌}
use Prim.Native.Nat.{ℕ, suc, ◌≤◌}
use native.Mathlib.Omega.{arith}
use lib.Dec.{eqb, ltb}
use lib.ListN.{length}
use borrow.Author.Tests.{ltb-true, lt-ltb}
use Rattle.star_lex.specs.Rules.{Rules, at_levels, at_stops}
use Rattle.star_lex.specs.Tokens.{Token}
use Rattle.star_lex.proofs.Cases.{cond_cases}
use Rattle.star_grammar.specs.Tables.{Rows, pass}
use Rattle.star_grammar.specs.Machine.{Sort, sort_of, Where, State, start, within, named, header, body, go, refuse, header_step, step, walk}
use Rattle.star_grammar.proofs.Alive.{walk_on, walk-on, refuse-go, walk-induction}
use Rattle.star_grammar.proofs.Walking.{Walks}

module _ (rules others : Rules) (least : rules.levels ≤ others.levels) (stops : rules.header_stops ≡ true → others.header_stops ≡ true) where
  header-more : (w : Where) (first : ℕ) (before : List ℕ) (n s : ℕ) (k : Sort) (r : Rows) (st : State) (u : Rows)
      → header_step rules w first before n s k r ≡ go st u → header_step others w first before n s k r ≡ go st u
  unfolding header_step
  header-more w first before n s Sort.block r st u e = e
  header-more w first before n s Sort.global r st u e = e
  header-more w first before n s Sort.frame r st u e = e
  header-more w first before n s Sort.frame_end r st u e = e
  header-more w first before n s Sort.loop r st u e =
      cond_cases (ltb 0 n && eqb s 0) _ _ (go st u) e
      (λ d h. cond_cases (ltb (suc (length before)) rules.levels) (go (header w first (n ∷ before) 0 0) (pass r)) (refuse 11) (go st u) h
      (λ l g. rw (d, lt-ltb (suc (length before)) others.levels (omega (arith, ltb-true (suc (length before)) rules.levels l))) g)
      (λ l g. absurd (refuse-go 11 st u g)))
      (λ d h. absurd (refuse-go 8 st u h))
  header-more w first before n s Sort.stop r st u e =
      cond_cases (ltb 0 n && ltb s (length before)) _ _ (go st u) e
      (λ d h. cond_cases rules.header_stops (go (header w first before n (suc s)) (pass r)) (refuse 16) (go st u) h
      (λ l g. rw (d, stops l) g)
      (λ l g. absurd (refuse-go 16 st u g)))
      (λ d h. absurd (refuse-go 8 st u h))
  header-more w first before n s Sort.name r st u e = e
  header-more w first before n s Sort.value r st u e = e

  step-more : (st s : State) (k : Sort) (r u : Rows) → step rules st k r ≡ go s u → step others st k r ≡ go s u
  unfolding step
  step-more start s k r u e = e
  step-more (within w) s k r u e = e
  step-more (named w) s k r u e = e
  step-more (header w first before n c) s k r u e = header-more w first before n c k r s u e
  step-more (body w outer l inner f) s k r u e = e

  -- a walk goes the same way
  walk_more : (st s : State) (p : List Token) (r u : Rows) → walk rules st p r ≡ go s u → walk others st p r ≡ go s u
  unfolding walk
  walk_more st s p r u e =
      walk-induction rules (λ st' q v. walk others st' q v ≡ go s u) s u refl
      (λ st' s' t q v v' g later. walk-on others st' t q v ∙ ap (walk_on others q) (step-more st' s' (sort_of t.kind) v v' g) ∙ later) p st r e

module _ (rules : Rules) (more : ℕ) (least : rules.levels ≤ more) where
  pub step-limit : (st s : State) (k : Sort) (r u : Rows) → step rules st k r ≡ go s u → step (at_levels rules more) st k r ≡ go s u
  step-limit = step-more rules (at_levels rules more) least (λ e. e)

  pub walk-limit : (st s : State) (p : List Token) (r u : Rows) → walk rules st p r ≡ go s u → walk (at_levels rules more) st p r ≡ go s u
  walk-limit = walk_more rules (at_levels rules more) least (λ e. e)

  pub walks-limit : (st : State) (p : List Token) (r : Rows) → Walks rules st p r → Walks (at_levels rules more) st p r
  walks-limit st p r k = (k.0, k.1, walk-limit st k.0 p r k.1 k.2)

pub walk-stops : (rules : Rules) (st s : State) (p : List Token) (r u : Rows) → walk rules st p r ≡ go s u → walk (at_stops rules true) st p r ≡ go s u
walk-stops rules = walk_more rules (at_stops rules true) (omega arith) (λ e. refl)
