-- What a byte at a place, a list of one byte, a digit and the rest of a list say of each other.
use mathlib.Core.Path.{◌≡◌, refl, sym, ◌∙◌}
use mathlib.Core.Bool.{Bool, true, and-true, and-false}
use mathlib.Core.List.{List, [], ◌∷◌}
use Prim.Native.Nat.{ℕ, ◌+◌, ◌-◌, ◌≤◌}
use native.Mathlib.Omega.{arith}
use borrow.Author.Tests.{leb-true}
use lib.Dec.{leb, eqb}
use lib.Pointwise.{pointwise}
use Rattle.std.specs.Prelude.{nat_eq}
use lib.ListN.{length, get_or, take, drop, length-drop}
use lib.Seq.{take_all}
use Rattle.std.specs.Char.{is_ascii_digit}
use Rattle.std.proofs.lemmas.List.{get_or-drop}
use Rattle.star_text.proofs.Cases.{both}
use Rattle.star_number.specs.Pieces.{is_digit}
use Rattle.star_number.specs.Taken.{is_single}

-- a list that equals a list of one byte
single-same : (b : ℕ) (xs : List ℕ) → pointwise nat_eq xs (b ∷ []) ≡ is_single b xs
unfolding is_single
single-same b [] = refl
single-same b (x ∷ []) = and-true (eqb x b)
single-same b (x ∷ y ∷ xs) = and-false (eqb x b)

pub single-told : (b : ℕ) (xs ys : List ℕ) (r : Bool) → ys ≡ b ∷ [] → r ≡ pointwise nat_eq xs ys → is_single b xs ≡ r
single-told b xs ys r e q = sym (q ∙ (rw e (single-same b xs)))

pub digit_low : (b : ℕ) → is_digit b ≡ true → 48 ≤ b
unfolding is_digit
digit_low b e = leb-true 48 b (both (leb 48 b) (leb b 57) e).0

pub digit-high : (b : ℕ) → is_digit b ≡ true → b ≤ 57
unfolding is_digit
digit-high b e = leb-true b 57 (both (leb 48 b) (leb b 57) e).1

pub digit-same : (b : ℕ) → is_ascii_digit b ≡ is_digit b
unfolding is_digit
digit-same b = refl

-- what is left of a list from a place on
module _ (xs : List ℕ) (n : ℕ) where
  pub rest_all : take (length xs - n) (drop n xs) ≡ drop n xs
  rest_all = take_all (length xs - n) (drop n xs) (omega (arith, length-drop n xs))

  pub rest-at : (i : ℕ) → get_or (take (length xs - n) (drop n xs)) i 0 ≡ get_or xs (n + i) 0
  rest-at i = rw rest_all (get_or-drop n xs i 0)

  pub rest-length : length (take (length xs - n) (drop n xs)) ≡ length xs - n
  rest-length = rw rest_all (length-drop n xs)
