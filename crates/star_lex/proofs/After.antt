-- What `after` finds, seen from a place of both, and as a whole.
use mathlib.Core.Path.{◌≡◌, refl}
use mathlib.Core.Bool.{Bool, true, false, cond}
use mathlib.Core.List.{List, [], ◌∷◌}
use mathlib.Core.Option.{Option, none, some}
use Prim.Native.Nat.{ℕ, ◌+◌, ◌≤◌, ◌<◌}
use native.Mathlib.Nat.{le_of_suc-le-suc, not-suc-le-zero}
use native.Mathlib.Numerals.{add-one}
use borrow.Author.Tests.{eq-eqb, ne_eqb, leb-true, leb-false}
use lib.Dec.{eqb, leb}
use lib.ListN.{length, get_or, drop, drop_of_length-le}
use lib.Seq.{drop-cons}
use Rattle.star_lex.specs.Split.{after}
use Rattle.star_lex.specs.Answer.{is_some}
use Rattle.star_lex.proofs.Cases.{impossible}

module _ (p w : List ℕ) (i : ℕ) where
  -- past a byte that agrees
  pub after-goes : i < length p → i < length w → get_or p i 0 ≡ get_or w i 0 → after (drop i p) (drop i w) ≡ after (drop (i + 1) p) (drop (i + 1) w)
  unfolding after
  after-goes hp hw e = rw (drop-cons p i 0 hp, drop-cons w i 0 hw, eq-eqb _ _ e, add-one)

  -- at a byte that differs
  pub after-differs : i < length p → i < length w → (get_or p i 0 ≡ get_or w i 0 → ⊥) → after (drop i p) (drop i w) ≡ none
  unfolding after
  after-differs hp hw e = rw (drop-cons p i 0 hp, drop-cons w i 0 hw, ne_eqb _ _ e)

  -- all bytes agreed
  pub after-ends : length p ≤ i → after (drop i p) (drop i w) ≡ some (drop i w)
  unfolding after
  after-ends h = rw (drop_of_length-le p h)

cond-none : (t : Bool) {o : Option (List ℕ)} → o ≡ none → cond t o none ≡ none
cond-none true e = e
cond-none false e = refl

pub after-short : (p w : List ℕ) → length w < length p → after p w ≡ none
unfolding after
after-short [] w h = absurd (not-suc-le-zero h)
after-short (a ∷ p) [] h = refl
after-short (a ∷ p) (b ∷ w) h = cond-none (eqb a b) (after-short p w (le_of_suc-le-suc h))

cond-some : (t : Bool) {o : Option (List ℕ)} {r : List ℕ} → (is_some o ≡ true → o ≡ some r) → is_some (cond t o none) ≡ true → cond t o none ≡ some r
unfolding is_some
cond-some true f e = f e
cond-some false f e = impossible cc

pub after-some : (p w : List ℕ) → is_some (after p w) ≡ true → after p w ≡ some (drop (length p) w)
unfolding after is_some
after-some [] w e = refl
after-some (a ∷ p) [] e = impossible cc
after-some (a ∷ p) (b ∷ w) e = cond-some (eqb a b) (after-some p w) e

pub after_none : (p w : List ℕ) → is_some (after p w) ≡ false → after p w ≡ none
unfolding is_some
after_none p w e = go (after p w) refl
  where
    go : (o : Option (List ℕ)) → after p w ≡ o → after p w ≡ none
    go none q = q
    go (some c) q = impossible cc

-- a word that begins with p is as long
pub after-long : (p w : List ℕ) → is_some (after p w) ≡ true → length p ≤ length w
unfolding is_some
after-long p w e = go (leb (length p) (length w)) refl
  where
    go : (t : Bool) → leb (length p) (length w) ≡ t → length p ≤ length w
    go true q = leb-true _ _ q
    go false q =
        let s : after p w ≡ none = after-short p w (leb-false _ _ q) in
        impossible cc
