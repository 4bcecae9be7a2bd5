-- The last byte of a content, as the library answers it.
use mathlib.Core.Path.{◌≡◌, refl, sym, ◌∙◌, ap}
use mathlib.Core.List.{List, [], ◌∷◌}
use Prim.Native.Nat.{ℕ, zero, suc, ◌-◌, ◌<◌}
use native.Mathlib.Omega.{arith}
use denote.Ref.{Bor}
use lib.Dec.{eqb}
use lib.ListN.{length, get_or}
use Rattle.std.specs.Prelude.{Option, Some, None, slice_get}
use Rattle.std.specs.Option.{option_copied, option_eq}
use Rattle.star_lex.specs.Plain.{ends}
use Rattle.star_lex.proofs.LineEnds.{ends_last}

got : (bs : List ℕ) (n : ℕ) → n < length bs → slice_get bs n ≡ Some (get_or bs n 0)
got [] n h = absurd (omega arith)
got (x ∷ bs) zero h = refl
got (x ∷ bs) (suc n) h = got bs n (omega arith)

at_end : (bs : List ℕ) (n : ℕ) → length bs ≡ suc n → slice_get bs (length bs - 1) ≡ Some (get_or bs n 0)
at_end bs n e =
    let at : length bs - 1 ≡ n = omega arith in
    rw at (got bs n (omega arith))

pub last-ends : (bs : List ℕ) (last : Option (Bor ℕ)) (a : Bor ℕ) → option_copied last ≡ slice_get bs (length bs - 1)
    → option_eq (λ x y. eqb x.now y.now) last (Some a) ≡ ends a.now bs
unfolding ends
last-ends [] None a e = refl
last-ends [] (Some b) a e = cc
last-ends (x ∷ bs) None a e = let g = at_end (x ∷ bs) (length bs) refl in cc
last-ends (x ∷ bs) (Some b) a e =
    let g = at_end (x ∷ bs) (length bs) refl in
    let q : b.now ≡ get_or (x ∷ bs) (length bs) 0 = cc in
    ap (λ n. eqb n a.now) q ∙ sym (ends_last a.now (x ∷ bs) (length bs) refl)
