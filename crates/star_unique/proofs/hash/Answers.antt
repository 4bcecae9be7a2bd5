-- `hash` meets its contract: mixing the bytes that are left into what was mixed gives the whole.
use mathlib.Core.Path.{refl, sym, ◌∙◌}
use native.Mathlib.Nat.{mod-lt}
use native.Mathlib.Omega.{arith}
use Rattle.star_text.specs.Names.{key}
use Rattle.star_unique.specs.Chain.{hash_of}
use Rattle.star_unique.proofs.Marks.{mix_next, mix-end}
use Rattle.star_unique.proofs.hash.Goals as goal

pub loop-b-init : goal.loop-b-init
unfolding hash_of key
loop-b-init c = (mod-lt _ (omega arith), refl)

pub overflow_mul-h : goal.overflow_mul-h
overflow_mul-h c = omega arith

pub loop-b-preserved : goal.loop-b-preserved
loop-b-preserved c =
    let at = c.loop-b in
    (mod-lt _ (omega arith), sym (mix_next at.h _ at.b-index (omega arith)) ∙ at.invariant.1)

pub returns : goal.returns
returns c = sym (mix-end c.loop-b.h _ c.loop-b.b-index (omega arith)) ∙ c.loop-b.invariant.1
