-- The global blocks are asked, the last first: one that answers 13 is passed over, and the first that does not answers.
use mathlib.Core.Path.{◌≡◌, refl, sym, ◌∙◌, ap}
use mathlib.Core.Bool.{Bool, true, false, cond, ◌&&◌, and-eq-true_iff}
use mathlib.Core.List.{List}
use mathlib.Core.Logic.{◌⊎◌, inl, inr}
use Prim.Native.Nat.{ℕ, zero, suc, ◌-◌, ◌≤◌, ◌<◌}
use native.Mathlib.Omega.{arith}
use borrow.Author.Tests.{eqb-true, eqb-false, eq-eqb, ne_eqb}
use lib.Dec.{eqb}
use Rattle.star_rows.specs.Rows.{word_of}
use Rattle.star_find.specs.Find.{refused, or_else, ask_globals, ask_on}
use Rattle.star_find.specs.Lending.{found_of}
use Rattle.star_find.specs.declared.Found.{Found}
use Rattle.star_find.specs.declared.Missing.{Missing}
use Rattle.star_find.specs.declared.Missing.TheVariants.{NotFound, Outside}
use Rattle.star_lex.proofs.Cases.{impossible}
use Rattle.std.proofs.Common.{Result, Ok, Err}

pub or-first : (f g : Found) → (f.refusal ≡ 13 → ⊥) → or_else f g ≡ f
unfolding or_else
or-first f g h = rw (ne_eqb f.refusal 13 h)

pub or-second : (f g : Found) → f.refusal ≡ 13 → or_else f g ≡ g
unfolding or_else
or-second f g e = rw (eq-eqb f.refusal 13 e)

-- the kind word of a set row
abbrev pub kind_of : List ℕ → ℕ → ℕ
kind_of sets row = word_of sets 3 row 0

module _ (sets : List ℕ) (ask : ℕ → Found) where
  -- a set that is no global block, or that answers 13
  ask-past : (n : ℕ) → (kind_of sets (suc n) ≡ 3 → (ask (suc n)).refusal ≡ 13) → ask_globals sets ask (suc n) ≡ ask_globals sets ask n
  unfolding ask_globals
  ask-past n h = go (eqb (kind_of sets (suc n)) 3) refl
    where
      go : (t : Bool) → eqb (kind_of sets (suc n)) 3 ≡ t
          → cond t (or_else (ask (suc n)) (ask_globals sets ask n)) (ask_globals sets ask n) ≡ ask_globals sets ask n
      go true e = or-second (ask (suc n)) (ask_globals sets ask n) (h (eqb-true _ _ e))
      go false e = refl

  -- a global block that does not answer 13
  pub ask-at : (n : ℕ) → 1 ≤ n → kind_of sets n ≡ 3 → ((ask n).refusal ≡ 13 → ⊥) → ask_globals sets ask n ≡ ask n
  unfolding ask_globals
  ask-at zero l k h = absurd (omega arith)
  ask-at (suc n) l k h = rw (eq-eqb (kind_of sets (suc n)) 3 k) (or-first (ask (suc n)) (ask_globals sets ask n) h)

  -- where the global blocks after a set answer 13, those up to that set answer
  pub ask-down : (near n : ℕ) → near ≤ n → ((k : ℕ) → near < k → k ≤ n → kind_of sets k ≡ 3 → (ask k).refusal ≡ 13)
      → ask_globals sets ask n ≡ ask_globals sets ask near
  ask-down near zero l h = ap (ask_globals sets ask) (omega arith)
  ask-down near (suc n) l h = go (eqb near (suc n)) refl (λ m. ask-down near n m (λ k a b. h k a (omega arith)))
    where
      go : (t : Bool) → eqb near (suc n) ≡ t → (near ≤ n → ask_globals sets ask n ≡ ask_globals sets ask near)
          → ask_globals sets ask (suc n) ≡ ask_globals sets ask near
      go true e later = ap (ask_globals sets ask) (sym (eqb-true near (suc n) e))
      go false e later =
          let m : near ≤ n = omega (arith, eqb-false near (suc n) e) in
          ask-past n (h (suc n) (omega arith) (omega arith)) ∙ later m

  -- a set that does not answer 13, one that is no data block, and a data block
  pub on-own : (set : ℕ) {f : Found} → f ≡ ask set → (f.refusal ≡ 13 → ⊥) → f ≡ ask_on sets ask set
  unfolding ask_on
  on-own set e h = e ∙ sym (or-first (ask set) _ (λ r. h (ap (λ g. g.refusal) e ∙ r)))

  on_none : (set : ℕ) {f : Found} → f ≡ ask set → f.refusal ≡ 13
      → cond (eqb (kind_of sets set) 1) (ask_globals sets ask (set - 1)) (refused 13) ≡ ask_on sets ask set
  unfolding ask_on
  on_none set e h = sym (or-second (ask set) _ (sym (ap (λ g. g.refusal) e) ∙ h))

  pub on-other : (set : ℕ) {f : Found} {kind : ℕ} → f ≡ ask set → f.refusal ≡ 13 → kind ≡ kind_of sets set → (kind ≡ 1 → ⊥) → refused 13 ≡ ask_on sets ask set
  on-other set e h k n =
      ap (λ t. cond t (ask_globals sets ask (set - 1)) (refused 13)) (sym (ne_eqb (kind_of sets set) 1 (λ q. n (k ∙ q)))) ∙ on_none set e h

  pub on-block : (set : ℕ) {f g : Found} {kind : ℕ} → f ≡ ask set → f.refusal ≡ 13 → kind ≡ kind_of sets set → kind ≡ 1
      → g ≡ ask_globals sets ask (set - 1) → g ≡ ask_on sets ask set
  on-block set e h k n q =
      q ∙ ap (λ t. cond t (ask_globals sets ask (set - 1)) (refused 13)) (sym (eq-eqb (kind_of sets set) 1 (sym k ∙ n))) ∙ on_none set e h

-- an answer with number 13 is that refusal
missing-13 : (r : Result ℕ Missing) → (found_of r).refusal ≡ 13 → found_of r ≡ refused 13
unfolding refused
missing-13 (Ok row) e = absurd (let z : ◌≡◌ {A = ℕ} 0 13 = e in omega arith)
missing-13 (Err NotFound) e = refl
missing-13 (Err Outside) e = absurd (let z : ◌≡◌ {A = ℕ} 14 13 = e in omega arith)

-- by the test whether the global blocks are asked: the set's own answer, or theirs
module _ (sets : List ℕ) (ask : ℕ → Found) (set : ℕ) (r : Result ℕ Missing) {test : Bool} (own : found_of r ≡ ask set)
    (tested : test ≡ (eqb (found_of r).refusal 13 && eqb (kind_of sets set) 1)) where
  pub on-stays : test ≡ false → found_of r ≡ ask_on sets ask set
  on-stays f = by (eqb (found_of r).refusal 13) refl (eqb (kind_of sets set) 1) refl
    where
      by : (t : Bool) → eqb (found_of r).refusal 13 ≡ t → (u : Bool) → eqb (kind_of sets set) 1 ≡ u → found_of r ≡ ask_on sets ask set
      by false e u k = on-own sets ask set own (eqb-false _ _ e)
      by true e false k = missing-13 r (eqb-true _ _ e) ∙ on-other sets ask set own (eqb-true _ _ e) refl (eqb-false _ _ k)
      by true e true k = impossible (let z : true ≡ false = sym (tested ∙ rw (e, k)) ∙ f in cc)

  pub on-goes : {g : Found} → test ≡ true → g ≡ ask_globals sets ask (set - 1) → g ≡ ask_on sets ask set
  on-goes t q =
      let p : (eqb (found_of r).refusal 13 ≡ true) × (eqb (kind_of sets set) 1 ≡ true) = (and-eq-true_iff _ _).0 (sym tested ∙ t) in
      on-block sets ask set own (eqb-true _ _ p.0) refl (eqb-true _ _ p.1) q

-- no global block after a set, and up to another, holds what is asked for
abbrev pub NoneAfter : (sets : List ℕ) (H : ℕ → Type 0) (g n : ℕ) → Type 0
NoneAfter sets H g n = (h : ℕ) → g < h → h ≤ n → kind_of sets h ≡ 3 → H h → ⊥

-- of the global blocks among the first so many sets the last that holds what is asked for answers, or none holds it
pub data Asked (sets : List ℕ) (ask : ℕ → Found) (H : ℕ → Type 0) (n : ℕ) : Type 0 where
  at : (g : ℕ) → 1 ≤ g → g ≤ n → kind_of sets g ≡ 3 → H g → NoneAfter sets H g n → ask_globals sets ask n ≡ ask g → Asked sets ask H n
  nowhere : NoneAfter sets H 0 n → ask_globals sets ask n ≡ refused 13 → Asked sets ask H n

module _ (sets : List ℕ) (ask : ℕ → Found) (H : ℕ → Type 0) where
  none-next : (g n : ℕ) → NoneAfter sets H g n → (kind_of sets (suc n) ≡ 3 → H (suc n) → ⊥) → NoneAfter sets H g (suc n)
  none-next g n before b h l m k p = go (eqb h (suc n)) refl
    where
      go : (t : Bool) → eqb h (suc n) ≡ t → ⊥
      go true e = let q : h ≡ suc n = eqb-true h (suc n) e in b (rw q at k) (rw q at p)
      go false e = before h l (omega (arith, eqb-false h (suc n) e)) k p

  -- one more set, which is no global block or does not hold it
  asked-past : (n : ℕ) → (kind_of sets (suc n) ≡ 3 → H (suc n) → ⊥) → ask_globals sets ask (suc n) ≡ ask_globals sets ask n → Asked sets ask H n
      → Asked sets ask H (suc n)
  asked-past n b q (Asked.at g low high k p later e) = Asked.at g low (omega arith) k p (none-next g n later b) (q ∙ e)
  asked-past n b q (Asked.nowhere none e) = Asked.nowhere (none-next 0 n none b) (q ∙ e)

  -- each set answers 0, which it does exactly where it holds what is asked for, or 13
  module _ (either : (s : ℕ) → ((ask s).refusal ≡ 0) ⊎ (ask s ≡ refused 13)) (to : (s : ℕ) → (ask s).refusal ≡ 0 → H s)
      (from : (s : ℕ) → H s → (ask s).refusal ≡ 0) where
    absent : (s : ℕ) → ask s ≡ refused 13 → H s → ⊥
    unfolding refused
    absent s e p = let z : ◌≡◌ {A = ℕ} 13 0 = sym (ap (λ f. f.refusal) e) ∙ from s p in omega arith

    asked-next : (n : ℕ) → Asked sets ask H n → (t : Bool) → eqb (kind_of sets (suc n)) 3 ≡ t
        → ((ask (suc n)).refusal ≡ 0) ⊎ (ask (suc n) ≡ refused 13) → Asked sets ask H (suc n)
    unfolding refused
    asked-next n before true k (inl e) =
        let kind : kind_of sets (suc n) ≡ 3 = eqb-true _ _ k in
        Asked.at (suc n) (omega arith) (omega arith) kind (to (suc n) e) (λ h l m _ _. omega arith)
        (ask-at sets ask (suc n) (omega arith) kind (λ r. let z : ◌≡◌ {A = ℕ} 0 13 = sym e ∙ r in omega arith))
    asked-next n before true k (inr e) =
        asked-past n (λ _. absent (suc n) e) (ask-past sets ask n (λ _. ap (λ f. f.refusal) e)) before
    asked-next n before false k o =
        asked-past n (λ q _. eqb-false _ _ k q) (ask-past sets ask n (λ q. absurd (eqb-false _ _ k q))) before

    pub asked : (n : ℕ) → Asked sets ask H n
    unfolding ask_globals
    asked zero = Asked.nowhere (λ h l m _ _. omega arith) refl
    asked (suc n) = asked-next n (asked n) (eqb (kind_of sets (suc n)) 3) refl (either (suc n))
