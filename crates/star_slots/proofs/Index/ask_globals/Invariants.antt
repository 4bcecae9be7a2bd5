use Rattle.std.proofs.Common.{◌≡◌, ◌-◌}
use Rattle.star_find.specs.Find.{ask_globals}
use Rattle.star_find.specs.Lending.{seen}
use Rattle.star_slots.specs.Lookup.{slot_name}
use Rattle.star_slots.proofs.Index.ask_globals.Given as goal

-- what the sets that are left answer is what all of them do
abbrev pub invariant-loop-s : goal.invariant-loop-s
invariant-loop-s l =
    let asked = slot_name (seen l.self.lent.now) l.self.lent.now.counts l.self.slots.now l.name in
    ask_globals l.self.lent.now.sets.now asked (l.s - 1) ≡ ask_globals l.self.lent.now.sets.now asked (l.set - 1)
