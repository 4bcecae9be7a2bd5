-- Laws of an answer that is given where a test holds, and none otherwise.
use mathlib.Core.Path.{◌≡◌, refl}
use mathlib.Core.Bool.{Bool, true, false, cond}
use Rattle.std.specs.Prelude.{Some, None}

pub missing : {A : Type 0} (t : Bool) (a : A) → cond t (Some a) None ≡ None → t ≡ false
missing true a e = cc
missing false a e = refl

pub given : {A : Type 0} (t : Bool) (a b : A) → cond t (Some a) None ≡ Some b → (t ≡ true) × (a ≡ b)
given true a b e = (refl, cc)
given false a b e = cc
