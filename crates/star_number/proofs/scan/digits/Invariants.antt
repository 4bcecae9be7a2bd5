use mathlib.Core.Path.{◌≡◌}
use Prim.Native.Nat.{◌+◌, ◌≤◌}
use lib.ListN.{drop}
use Rattle.star_number.specs.Held.{most_counted, digits_held}
use Rattle.star_number.proofs.scan.digits.Given as goal

abbrev pub invariant-loop-i : goal.invariant-loop-i
invariant-loop-i l = record {
  rest : digits_held l.n (l.from + l.i) (drop (l.from + l.i) l.content) ≡ digits_held l.value l.from (drop l.from l.content);
  counted : l.n ≤ most_counted;
}
