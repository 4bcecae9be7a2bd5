use mathlib.Core.Path.{◌≡◌}
use Prim.Native.Nat.{◌-◌, ◌≤◌}
use lib.ListN.{length}
use Rattle.star_lex.specs.Rules.{today, at_stops}
use Rattle.star_grammar.specs.Machine.{in_block, within}
use Rattle.star_parse.specs.Parsed.{four_tables}
use Rattle.star_parse.specs.Reached.{going}
use Rattle.star_parse.specs.Reader.{Bounds, Passes}
use Rattle.star_parse.proofs.read_block.Given as goal

abbrev pub invariant-loop-p : goal.invariant-loop-p
invariant-loop-p l =
    Bounds l.count l.tokens (going l.p) × (l.initial.p.at ≤ l.p.at) × (length l.sets ≡ length l.initial.sets) × (length l.names ≡ length l.initial.names) × (length l.packets ≡ length l.initial.packets)
    × (length l.values ≡ length l.initial.values)
    × Passes (at_stops today l.stops) l.count l.tokens (within (in_block l.block)) (going l.initial.p) (four_tables l.initial.sets l.initial.names l.initial.packets l.initial.values) (within (in_block l.block)) (going l.p) (four_tables l.sets l.names l.packets l.values)

abbrev pub decreases-loop-p : goal.decreases-loop-p
decreases-loop-p l = l.count - l.p.at
