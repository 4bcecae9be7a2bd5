use Rattle.std.proofs.Common.{◌≡◌, drop}
use Rattle.star_hash.specs.Hash.{fnv}
use Rattle.star_hash.proofs.fnv.Given as goal

abbrev pub invariant-loop-b : goal.invariant-loop-b
invariant-loop-b l = fnv l.state (drop l.b-index l.bytes) ≡ fnv l.h l.bytes
