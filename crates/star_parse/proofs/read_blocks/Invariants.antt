use mathlib.Core.Path.{◌≡◌}
use Prim.Native.Nat.{◌-◌}
use lib.ListN.{length}
use Rattle.star_lex.specs.Rules.{today, at_stops}
use Rattle.star_grammar.specs.Tables.{no_rows}
use Rattle.star_grammar.specs.Machine.{start, run}
use Rattle.star_parse.specs.Parsed.{kind_tokens, four_tables}
use Rattle.star_parse.specs.Reached.{going}
use Rattle.star_parse.specs.Reader.{Bounds, At}
use Rattle.star_parse.proofs.read_blocks.Given as goal

abbrev pub invariant-loop-p : goal.invariant-loop-p
invariant-loop-p l =
    Bounds l.count l.tokens (going l.p) × (length l.sets ≡ length l.initial.sets) × (length l.names ≡ length l.initial.names) × (length l.packets ≡ length l.initial.packets) × (length l.values ≡ length l.initial.values)
    × At (at_stops today l.stops) (kind_tokens l.count l.tokens) (four_tables l.initial.sets l.initial.names l.initial.packets l.initial.values) (run (at_stops today l.stops) start (kind_tokens l.count l.tokens) no_rows) start (going l.p)
    (four_tables l.sets l.names l.packets l.values)

abbrev pub decreases-loop-p : goal.decreases-loop-p
decreases-loop-p l = l.count - l.p.at
