-- `is_pair` meets its contract, by the first two bytes of what is left.
use mathlib.Core.Path.{◌≡◌, refl, ◌∙◌, ap}
use mathlib.Core.Bool.{Bool, true, false, ◌&&◌}
use mathlib.Core.List.{List, [], ◌∷◌}
use Prim.Native.Nat.{ℕ, ◌-◌}
use native.Mathlib.Numerals.{add-one}
use native.Mathlib.Omega.{arith}
use lib.Dec.{eqb}
use lib.ListN.{length, take, drop, length-drop}
use lib.Pointwise.{pointwise}
use lib.Seq.{drop-cons}
use Rattle.std.proofs.lemmas.List.{take_all}
use Rattle.star_text.proofs.Bytes.{eqb_comm}
use Rattle.star_lex.specs.Split.{starts}
use Rattle.star_scan.proofs.is_pair.Goals as goal

all-true : (t : Bool) → (t && true) ≡ t
all-true true = refl
all-true false = refl

pair-is : (a : ℕ) (bs : List ℕ) → pointwise eqb (13 ∷ 10 ∷ []) (take 2 (a ∷ bs)) ≡ (eqb a 13 && starts 10 bs)
unfolding starts
pair-is a [] = ap (λ t. t && false) (eqb_comm 13 a)
pair-is a (b ∷ bs) = rw (eqb_comm 13 a, eqb_comm 10 b, all-true (eqb b 10))

pub returns : goal.returns
returns c =
    let file = c.args.file.now in
    let at = c.args.at in
    c.starts_with.ensures.value
    ∙ ap (λ s. pointwise eqb (13 ∷ 10 ∷ []) (take 2 s)) (take_all (length file - at) (drop at file) (omega (arith, length-drop at file)) ∙ drop-cons file at 0 c.requires)
    ∙ rw add-one (pair-is _ _)
