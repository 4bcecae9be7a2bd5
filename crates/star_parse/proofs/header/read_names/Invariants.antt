use mathlib.Core.Path.{◌≡◌}
use mathlib.Core.List.{List}
use Prim.Native.Nat.{ℕ, suc, ◌-◌, ◌≤◌}
use lib.ListN.{length}
use Rattle.star_lex.specs.Rules.{Rules}
use Rattle.star_grammar.specs.Machine.{Where, set_of, header}
use Rattle.star_parse.specs.Parsed.{four_tables}
use Rattle.star_parse.specs.Reached.{going}
use Rattle.star_parse.specs.Reader.{Ready, PassesWith, Unvalued}
use Rattle.star_parse.proofs.header.read_names.Given as goal

abbrev pub invariant-loop-names : goal.invariant-loop-names
invariant-loop-names l =
    Ready l.count l.tokens (going l.p) × (l.initial.p.at ≤ l.p.at) × (l.initial.p.names ≤ l.p.names) × (length l.names ≡ length l.initial.names)
    × ((rules : Rules) (w : Where) (first : ℕ) (outer : List ℕ) (sets packets values : List ℕ) → set_of w ≡ l.set → suc (length outer) ≡ l.level
    → PassesWith rules l.count l.tokens (header w first outer 0 0) (Unvalued first) (going l.initial.p) (four_tables sets l.initial.names packets values)
    (header w first outer (l.p.names - l.initial.p.names) 0) (Unvalued first) (going l.p)
    (four_tables sets l.names packets values))

abbrev pub decreases-loop-names : goal.decreases-loop-names
decreases-loop-names l = l.count - l.p.at
