use mathlib.Core.Path.{◌≡◌}
use Prim.Native.Nat.{◌-◌}
use lib.ListN.{length, drop}
use Rattle.star_text.specs.Classes.{Classes}
use Rattle.star_lex.specs.Rules.{today}
use Rattle.star_lex.specs.Split.{field}
use Rattle.star_lex.specs.Answer.{end_of}
use Rattle.star_scan.proofs.field_end.Given as goal

abbrev pub invariant-loop-next : goal.invariant-loop-next
invariant-loop-next l = Classes l.classes → end_of (length l.file) l.next (field today (drop l.next l.file)) ≡ end_of (length l.file) l.from (field today (drop l.from l.file))

abbrev pub decreases-loop-next : goal.decreases-loop-next
decreases-loop-next l = length l.file - l.next
