use mathlib.Core.Path.{◌≡◌}
use mathlib.Core.List.{List}
use Prim.Native.Nat.{ℕ, ◌+◌, ◌<◌}
use lib.ListN.{length}
use Rattle.star_lex.specs.Rules.{today, at_stops}
use Rattle.star_grammar.specs.Machine.{Where, header}
use Rattle.star_parse.specs.Parsed.{FourTables}
use Rattle.star_parse.specs.Reached.{going}
use Rattle.star_parse.specs.Reader.{Ready, PassesWith, Unvalued}
use Rattle.star_parse.proofs.header.read_stops.Given as goal

abbrev pub invariant-loop-stops : goal.invariant-loop-stops
invariant-loop-stops l =
    Ready l.count l.tokens (going l.p) × (l.p.at ≡ l.initial.p.at + l.stops) × (l.p.names ≡ l.initial.p.names)
    × ((w : Where) (first : ℕ) (outer : List ℕ) (n : ℕ) (t : FourTables) → 0 < n → length outer ≡ l.inner
    → PassesWith (at_stops today l.allowed) l.count l.tokens (header w first outer n 0) (Unvalued first) (going l.initial.p) t (header w first outer n l.stops) (Unvalued first) (going l.p) t)
