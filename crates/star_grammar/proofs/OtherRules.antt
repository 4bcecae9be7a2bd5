-- A tree sees the number of levels and whether headers have stops, and no other rule.
use mathlib.Core.Path.{◌≡◌}
use mathlib.Core.Bool.{true}
use Prim.Native.Nat.{◌≤◌}
use native.Mathlib.Omega.{arith}
use Rattle.star_lex.specs.Rules.{Rules}
use Rattle.star_lex.proofs.Each.{each-implies}
use Rattle.star_grammar.specs.Tree.{Loop, LoopBy, Entry, item, looped, EntryBy, Member, own, framed, MemberBy, Block, BlockBy, File, FileBy}

module _ (rules others : Rules) (levels : rules.levels ≤ others.levels) (stops : rules.header_stops ≡ true → others.header_stops ≡ true) where
  loop-by : (l : Loop) → LoopBy rules l → LoopBy others l
  loop-by l h = record {
    some_name = h.some_name;
    some_names = h.some_names;
    are_names = h.are_names;
    are_deeper = h.are_deeper;
    levels = omega (arith, h.levels, levels);
    stops_fit = h.stops_fit;
    stops_allowed = λ e. stops (h.stops_allowed e);
    some_packet = h.some_packet;
    whole = h.whole;
  }

  entry-by : (e : Entry) → EntryBy rules e → EntryBy others e
  entry-by (item n v) h = h
  entry-by (looped l) h = loop-by l h

  member-by : (m : Member) → MemberBy rules m → MemberBy others m
  member-by (own e) h = entry-by e h
  member-by (framed f) h = record { heading = h.heading; entries = each-implies (EntryBy rules) (EntryBy others) entry-by f.entries h.entries }

  block-by : (b : Block) → BlockBy rules b → BlockBy others b
  block-by b h = record { heading = h.heading; members = each-implies (MemberBy rules) (MemberBy others) member-by b.members h.members }

  pub file-by : (f : File) → FileBy rules f → FileBy others f
  file-by = each-implies (BlockBy rules) (BlockBy others) block-by
