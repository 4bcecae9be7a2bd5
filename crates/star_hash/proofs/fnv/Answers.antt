-- `fnv` meets its contract: mixing the bytes that are left into what was mixed gives the whole.
use Rattle.std.proofs.Common.{sym, ◌∙◌, arith}
use Rattle.star_hash.proofs.Hashing.{fnv-next, fnv-end}
use Rattle.star_hash.proofs.fnv.Goals as goal

pub loop-b-preserved : goal.loop-b-preserved
loop-b-preserved c =
    let at = c.loop-b in rw c.mix-state.ensures (sym (fnv-next at.state _ at.b-index (omega arith)) ∙ at.invariant)

pub returns : goal.returns
returns c = sym (fnv-end c.loop-b.state _ c.loop-b.b-index (omega arith)) ∙ c.loop-b.invariant
