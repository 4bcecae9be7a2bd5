use mathlib.Core.Path.{◌≡◌}
use mathlib.Core.List.{List, []}
use Prim.Native.Nat.{ℕ, ◌+◌, ◌-◌, ◌≤◌, ◌<◌}
use lib.ListN.{length, get_or}
use Rattle.star_text.specs.Bytes.{most_bytes}
use Rattle.star_lex.specs.Rules.{today, at_stops}
use Rattle.star_grammar.specs.Machine.{Where, set_of, header}
use Rattle.star_parse.specs.Parsed.{four_tables}
use Rattle.star_parse.specs.Reached.{going}
use Rattle.star_parse.specs.Reader.{Ready, PassesWith, Unvalued, name_at}
use Rattle.star_parse.proofs.Headers.{outers}
use Rattle.star_parse.proofs.header.read_loop.Given as goal

abbrev pub invariant-loop-counts : goal.invariant-loop-counts
invariant-loop-counts l =
    Ready l.count l.tokens (going l.p) × (l.initial.p.at ≤ l.p.at) × (l.level < 8) × (length l.counts ≡ 8) × ((i : ℕ) → get_or l.counts i 0 ≤ most_bytes)
    × (length l.names ≡ length l.initial.names) × (length l.packets ≡ length l.initial.packets) × (length l.values ≡ length l.initial.values)
    × ((w : Where) (sets : List ℕ) → set_of w ≡ l.set
    → PassesWith (at_stops today l.stops) l.count l.tokens (header w l.first [] 0 0) (Unvalued l.first) (going l.initial.p) (four_tables sets l.initial.names l.initial.packets l.initial.values)
    (header w l.first (outers l.level l.counts) 0 0) (Unvalued l.first) (going l.p) (four_tables sets l.names l.packets l.values))
    × ((i : ℕ) → i < l.level → 0 < get_or l.counts i 0) × (name_at l.first l.counts l.level ≡ l.p.names + 1)

abbrev pub decreases-loop-counts : goal.decreases-loop-counts
decreases-loop-counts l = 8 - l.level
