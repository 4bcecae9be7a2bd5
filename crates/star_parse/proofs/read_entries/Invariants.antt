use mathlib.Core.Path.{◌≡◌}
use mathlib.Core.List.{List}
use Prim.Native.Nat.{ℕ, ◌-◌, ◌≤◌}
use lib.ListN.{length}
use Rattle.star_lex.specs.Rules.{today, at_stops}
use Rattle.star_grammar.specs.Machine.{Where, set_of, within}
use Rattle.star_parse.specs.Parsed.{four_tables}
use Rattle.star_parse.specs.Reached.{going}
use Rattle.star_parse.specs.Reader.{Bounds, Passes}
use Rattle.star_parse.proofs.read_entries.Given as goal

abbrev pub invariant-loop-names : goal.invariant-loop-names
invariant-loop-names l =
    Bounds l.count l.tokens (going l.p) × (l.initial.p.at ≤ l.p.at) × (length l.names ≡ length l.initial.names) × (length l.packets ≡ length l.initial.packets) × (length l.values ≡ length l.initial.values)
    × ((w : Where) (sets : List ℕ) → set_of w ≡ l.set
    → Passes (at_stops today l.stops) l.count l.tokens (within w) (going l.initial.p) (four_tables sets l.initial.names l.initial.packets l.initial.values) (within w) (going l.p) (four_tables sets l.names l.packets l.values))

abbrev pub decreases-loop-names : goal.decreases-loop-names
decreases-loop-names l = l.count - l.p.at
