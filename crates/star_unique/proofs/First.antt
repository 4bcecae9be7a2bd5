-- The first name or code of a row that is taken: the tokens before it repeat nothing, and no row with it does.
use mathlib.Core.Path.{◌≡◌, refl, ap}
use mathlib.Core.Bool.{Bool, true, false, cond}
use mathlib.Core.List.{List, [], ◌∷◌, ◌++◌}
use Prim.Native.Nat.{suc, ◌≤◌, ◌<◌}
use native.Mathlib.Omega.{arith}
use lib.Dec.{ltb}
use lib.ListN.{length}
use borrow.Author.Tests.{ltb-true, ltb-false}
use Rattle.star_lex.specs.Tokens.{Token}
use Rattle.star_lex.proofs.Cases.{impossible}
use Rattle.star_unique.specs.Repeat.{Taken, is_taken, takes, first_repeat}
use Rattle.star_unique.proofs.Seen.{takes_all}
use Rattle.star_unique.proofs.Clean.{Clean, clean-append, repeat-within, repeat-clean, repeat-before}

pub record FirstTaken (s : Taken) (ts : List Token) : Type 0 where
  pub before : List Token
  pub token : Token
  pub after : List Token
  pub is : ts ≡ before ++ (token ∷ after)
  pub place : first_repeat s ts ≡ length before
  pub clean : Clean s before
  pub taken : is_taken (takes_all s before) token ≡ true

taken-later : (s : Taken) (t : Token) (ts : List Token) → is_taken s t ≡ false → FirstTaken (takes s t) ts → FirstTaken s (t ∷ ts)
unfolding first_repeat
taken-later s t ts e f = record {
  before = t ∷ f.before;
  token = f.token;
  after = f.after;
  is = ap (λ xs. t ∷ xs) f.is;
  place = rw e (ap suc f.place);
  clean = (e, f.clean);
  taken = f.taken;
}

pub first_taken : (s : Taken) (ts : List Token) → first_repeat s ts < length ts → FirstTaken s ts
unfolding first_repeat
first_taken s [] h = absurd (omega arith)
first_taken s (t ∷ ts) h = go (is_taken s t) refl h (first_taken (takes s t) ts)
  where
    go : (b : Bool) → is_taken s t ≡ b → cond b 0 (suc (first_repeat (takes s t) ts)) < suc (length ts)
        → (first_repeat (takes s t) ts < length ts → FirstTaken (takes s t) ts) → FirstTaken s (t ∷ ts)
    go true e k rest = record { before = []; token = t; after = ts; is = refl; place = rw e; clean = tt; taken = e }
    go false e k rest = taken-later s t ts e (rest (omega arith))

-- a row with a taken token repeats something
pub taken-unclean : (s : Taken) (p : List Token) (t : Token) (q : List Token) → is_taken (takes_all s p) t ≡ true → Clean s (p ++ (t ∷ q)) → ⊥
taken-unclean s p t q e c = let d : is_taken (takes_all s p) t ≡ false = ((clean-append s p (t ∷ q)).0 c).1.0 in impossible cc

-- what stands before the first repeat repeats nothing
pub clean-before : (s : Taken) (p q : List Token) → length p ≤ first_repeat s (p ++ q) → Clean s p
clean-before s p q h = go (ltb (first_repeat s p) (length p)) refl
  where
    go : (b : Bool) → ltb (first_repeat s p) (length p) ≡ b → Clean s p
    go true e = absurd (omega (arith, repeat-before s p q (ltb-true (first_repeat s p) (length p) e), ltb-true (first_repeat s p) (length p) e))
    go false e = repeat-clean s p (omega (arith, repeat-within s p, ltb-false (first_repeat s p) (length p) e))
