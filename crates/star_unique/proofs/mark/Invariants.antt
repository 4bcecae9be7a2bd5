use mathlib.Core.Path.{◌≡◌}
use lib.ListN.{length}
use Rattle.star_unique.proofs.Marking.{Between}
use Rattle.star_unique.proofs.mark.Given as goal

abbrev pub invariant-loop-n : goal.invariant-loop-n
invariant-loop-n l =
    Between l.file l.initial.tokens l.tokens l.heads l.count l.n l.scope × (length l.tokens ≡ length l.initial.tokens) × (length l.heads ≡ length l.initial.heads)
