use mathlib.Core.Path.{◌≡◌}
use lib.ListN.{length, drop}
use Rattle.star_text.specs.Classes.{Classes}
use Rattle.star_lex.specs.Split.{quoted}
use Rattle.star_lex.specs.Answer.{end_of}
use Rattle.star_scan.proofs.quote_end.Given as goal

abbrev pub invariant-loop-at : goal.invariant-loop-at
invariant-loop-at l = Classes l.classes → end_of (length l.file) l.at (quoted l.quote (drop l.at l.file)) ≡ end_of (length l.file) l.from (quoted l.quote (drop l.from l.file))
