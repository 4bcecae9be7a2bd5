use mathlib.Core.Path.{◌≡◌}
use Rattle.star_unique.specs.Chain.{unmarked}
use Rattle.star_unique.proofs.unmark.Given as goal

abbrev pub invariant-loop-n : goal.invariant-loop-n
invariant-loop-n l = l.tokens ≡ unmarked l.n l.initial.tokens
