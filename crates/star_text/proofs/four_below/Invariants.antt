use Rattle.std.proofs.Common.{◌≡◌, ℕ, ◌+◌, ◌<◌, true, slice_index}
use Rattle.star_text.specs.Classes.{below_in}
use Rattle.star_text.proofs.four_below.Given as goal

abbrev pub invariant-loop-i : goal.invariant-loop-i
invariant-loop-i l = (k : ℕ) → k < l.i → below_in l.classes l.class (slice_index l.file (l.at + k)) ≡ true
