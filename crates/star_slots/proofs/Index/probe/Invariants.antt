use Rattle.std.proofs.Common.{◌≡◌, ◌<◌, ◌-◌, length}
use Rattle.star_find.specs.Lending.{seen}
use Rattle.star_slots.specs.Inner.{probed}
use Rattle.star_slots.proofs.Index.probe.Given as goal

-- the answer from a slot on is that from the home on
abbrev pub invariant-loop : goal.invariant-loop
invariant-loop l =
    let tables = seen l.self.lent.now in
    let counts = l.self.lent.now.counts in
    let slots = l.self.slots.now in
    (l.at < length slots) × (probed tables counts slots l.bytes l.set (length slots - l.counter) l.at ≡ probed tables counts slots l.bytes l.set (length slots) l.home)
