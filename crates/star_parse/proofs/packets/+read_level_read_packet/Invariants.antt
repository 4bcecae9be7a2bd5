use mathlib.Core.Path.{◌≡◌}
use mathlib.Core.List.{List}
use Prim.Native.Nat.{ℕ, ◌+◌, ◌-◌, ◌≤◌}
use lib.ListN.{length}
use Rattle.star_lex.specs.Rules.{Rules}
use Rattle.star_grammar.specs.Machine.{Where, Level}
use Rattle.star_parse.specs.Parsed.{four_tables}
use Rattle.star_parse.specs.Reached.{going}
use Rattle.star_parse.specs.Reader.{Bounds, PassesWith, Around, Columns, at_level}
use Rattle.star_parse.proofs.packets.+read_level_read_packet.Given as goal

-- twice the levels left, the current one among them, and one more
abbrev pub decreases-read_level : goal.decreases-read_level
decreases-read_level l = (l.s.levels - l.s.level) + (l.s.levels - l.s.level) + 1

abbrev pub decreases-read_packet : goal.decreases-read_packet
decreases-read_packet l = (l.s.levels - l.s.level) + (l.s.levels - l.s.level)

abbrev pub invariant-read_level-loop-s : goal.invariant-read_level-loop-s
invariant-read_level-loop-s l =
    Bounds l.count l.tokens (going l.p) × (l.initial.p.at ≤ l.p.at) × (length l.began ≡ length l.initial.began) × (length l.packets ≡ length l.initial.packets)
    × (length l.values ≡ length l.initial.values)
    × ((rules : Rules) (w : Where) (outer : List Level) (base : ℕ) (sets names : List ℕ) → Around l.s outer base
    → PassesWith rules l.count l.tokens (at_level w outer l.s) (Columns base l.s.counts l.s.levels l.initial.began) (going l.initial.p)
    (four_tables sets names l.initial.packets l.initial.values)
    (at_level w outer l.s) (Columns base l.s.counts l.s.levels l.began) (going l.p) (four_tables sets names l.packets l.values))

abbrev pub decreases-read_level-loop-s : goal.decreases-read_level-loop-s
decreases-read_level-loop-s l = l.count - l.p.at
