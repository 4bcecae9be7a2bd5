-- `home_of` meets its contract: the remainder of the hash, and by 0 the hash.
use mathlib.Core.Path.{sym, ◌∙◌, ap}
use Prim.Native.Nat.{◌%◌}
use native.Mathlib.Nat.{mod-zero}
use Rattle.star_hash.specs.Hash.{home_of}
use Rattle.star_hash.proofs.home_of.Goals as goal

pub returns-then-slots-eq0 : goal.returns-then-slots-eq0
unfolding home_of
returns-then-slots-eq0 c = rw c.if-slots-eq0.true (c.hash-hash.ensures ∙ sym (mod-zero _))

pub returns : goal.returns
unfolding home_of
returns c = ap (λ h. h % c.args.slots) c.hash-hash.ensures
