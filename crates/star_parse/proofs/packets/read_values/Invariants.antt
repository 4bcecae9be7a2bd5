use mathlib.Core.Path.{◌≡◌}
use mathlib.Core.List.{List}
use Prim.Native.Nat.{ℕ, ◌+◌, ◌-◌, ◌≤◌, ◌<◌}
use lib.ListN.{length, get_or}
use Rattle.star_lex.specs.Rules.{Rules}
use Rattle.star_grammar.specs.Machine.{Where, Level}
use Rattle.star_parse.specs.Parsed.{four_tables}
use Rattle.star_parse.specs.Reached.{going}
use Rattle.star_parse.specs.Reader.{Ready, PassesWith, name_at, back_to, Filling, inner_of, level_of, partly}
use Rattle.star_parse.proofs.packets.read_values.Given as goal

abbrev pub invariant-loop-filled : goal.invariant-loop-filled
invariant-loop-filled l =
    Ready l.count l.tokens (going l.p) × (l.initial.p.at ≤ l.p.at) × (0 < l.filled) × (length l.values ≡ length l.initial.values)
    × ((rules : Rules) (w : Where) (outer : List Level) (base : ℕ) (began sets names packets : List ℕ) → l.s.first ≡ name_at base l.s.counts l.s.level
    → l.back ≡ back_to (get_or began l.s.level 0) (l.initial.p.values - l.s.filled)
    → PassesWith rules l.count l.tokens (partly w outer (level_of l.s l.packet) (inner_of l.s) l.s.filled)
    (Filling base l.s.counts l.s.levels l.s.level l.s.filled began) (going l.initial.p) (four_tables sets names packets l.initial.values)
    (partly w outer (level_of l.s l.packet) (inner_of l.s) l.filled) (Filling base l.s.counts l.s.levels l.s.level l.filled began) (going l.p)
    (four_tables sets names packets l.values))
    × (l.filled ≤ l.s.names) × (l.p.values + l.s.filled ≡ l.initial.p.values + l.filled) × (l.s.filled ≤ l.filled)
