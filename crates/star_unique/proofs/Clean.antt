-- Tokens that repeat nothing: a row with none that is taken passes as a whole, so the first repeat of a row is that of its first part, or
-- comes after it.
use mathlib.Core.Path.{◌≡◌, refl, ◌∙◌, ap}
use mathlib.Core.Bool.{Bool, true, false, cond}
use mathlib.Core.List.{List, [], ◌∷◌, ◌++◌}
use mathlib.Core.Logic.{◌↔◌}
use Prim.Native.Nat.{ℕ, suc, ◌+◌, ◌≤◌, ◌<◌}
use native.Mathlib.Nat.{suc-add, le_of_lt}
use native.Mathlib.Numerals.{add-one}
use native.Mathlib.Omega.{arith}
use lib.ListN.{length, get_or, take, drop}
use lib.Seq.{take-suc, split_at, length-take-le}
use Rattle.star_lex.specs.Tokens.{Token}
use Rattle.star_unique.specs.Repeat.{Taken, is_taken, takes, first_repeat}
use Rattle.star_unique.proofs.Seen.{takes_all}

-- none of them is taken where it stands
abbrev pub Clean : Taken → List Token → Type 0
Clean s [] = Unit {0}
Clean s (t ∷ ts) = (is_taken s t ≡ false) × Clean (takes s t) ts

pub takes-append : (s : Taken) (p q : List Token) → takes_all s (p ++ q) ≡ takes_all (takes_all s p) q
takes-append s [] q = refl
takes-append s (t ∷ p) q = takes-append (takes s t) p q

-- one token more of a row
pub takes-next : (s : Taken) (ts : List Token) (n : ℕ) (d : Token) → n < length ts → takes_all s (take (n + 1) ts) ≡ takes (takes_all s (take n ts)) (get_or ts n d)
takes-next s ts n d h = rw (add-one, take-suc ts n d h) (takes-append s (take n ts) (get_or ts n d ∷ []))

pub clean-append : (s : Taken) (p q : List Token) → Clean s (p ++ q) ↔ (Clean s p × Clean (takes_all s p) q)
clean-append s [] q = (λ c. (tt, c), λ c. c.1)
clean-append s (t ∷ p) q =
    let rest : Clean (takes s t) (p ++ q) ↔ (Clean (takes s t) p × Clean (takes_all (takes s t) p) q) = clean-append (takes s t) p q in
    (λ c. ((c.0, (rest.0 c.1).0), (rest.0 c.1).1), λ c. (c.0.0, rest.1 (c.0.1, c.1)))

pub repeat-within : (s : Taken) (ts : List Token) → first_repeat s ts ≤ length ts
unfolding first_repeat
repeat-within s [] = omega arith
repeat-within s (t ∷ ts) = go (is_taken s t) (repeat-within (takes s t) ts)
  where
    go : (b : Bool) → first_repeat (takes s t) ts ≤ length ts → cond b 0 (suc (first_repeat (takes s t) ts)) ≤ suc (length ts)
    go true h = omega arith
    go false h = omega arith

pub repeat-clean : (s : Taken) (ts : List Token) → first_repeat s ts ≡ length ts → Clean s ts
unfolding first_repeat
repeat-clean s [] e = tt
repeat-clean s (t ∷ ts) e = go (is_taken s t) refl e (repeat-clean (takes s t) ts)
  where
    go : (b : Bool) → is_taken s t ≡ b → cond b 0 (suc (first_repeat (takes s t) ts)) ≡ suc (length ts)
        → (first_repeat (takes s t) ts ≡ length ts → Clean (takes s t) ts) → Clean s (t ∷ ts)
    go true d h rest = absurd (omega arith)
    go false d h rest = (d, rest (omega arith))

-- where a first part repeats nothing, the first repeat comes after it
pub repeat-after : (s : Taken) (p q : List Token) → Clean s p → first_repeat s (p ++ q) ≡ length p + first_repeat (takes_all s p) q
unfolding first_repeat
repeat-after s [] q c = omega arith
repeat-after s (t ∷ p) q c = rw (c.0, repeat-after (takes s t) p q c.1, suc-add)

pub clean-repeat : (s : Taken) (ts : List Token) → Clean s ts → first_repeat s ts ≡ length ts
unfolding first_repeat
clean-repeat s [] c = refl
clean-repeat s (t ∷ ts) c = rw (c.0, clean-repeat (takes s t) ts c.1)

pub unclean-repeat : (s : Taken) (ts : List Token) → (Clean s ts → ⊥) → first_repeat s ts < length ts
unclean-repeat s ts n =
    let h : first_repeat s ts ≤ length ts = repeat-within s ts in
    let d : first_repeat s ts ≡ length ts → ⊥ = λ e. n (repeat-clean s ts e) in
    omega arith

-- where a first part has a repeat, it is the first
pub repeat-before : (s : Taken) (p q : List Token) → first_repeat s p < length p → first_repeat s (p ++ q) ≡ first_repeat s p
unfolding first_repeat
repeat-before s [] q h = absurd (omega arith)
repeat-before s (t ∷ p) q h = go (is_taken s t) h (repeat-before (takes s t) p q)
  where
    go : (b : Bool) → cond b 0 (suc (first_repeat (takes s t) p)) < suc (length p)
        → (first_repeat (takes s t) p < length p → first_repeat (takes s t) (p ++ q) ≡ first_repeat (takes s t) p)
        → cond b 0 (suc (first_repeat (takes s t) (p ++ q))) ≡ cond b 0 (suc (first_repeat (takes s t) p))
    go true k rest = refl
    go false k rest = ap suc (rest (omega arith))

-- a row that repeats nothing before a place, and what stands there
module _ (s : Taken) (ts : List Token) (n : ℕ) (d : Token) (h : n < length ts) (c : Clean s (take n ts)) where
  pub clean-next : is_taken (takes_all s (take n ts)) (get_or ts n d) ≡ false → Clean s (take (n + 1) ts)
  clean-next e = rw (add-one, take-suc ts n d h) ((clean-append s (take n ts) (get_or ts n d ∷ [])).1 (c, (e, tt)))

  pub repeat-here : is_taken (takes_all s (take n ts)) (get_or ts n d) ≡ true → first_repeat s ts ≡ n
  unfolding first_repeat
  repeat-here e =
      ap (first_repeat s) (split_at ts n d h)
      ∙ repeat-after s (take n ts) (get_or ts n d ∷ drop (suc n) ts) c
      ∙ rw (e, length-take-le n ts (le_of_lt h)) (omega arith)
