-- `ask` meets its contract: with no slots none is left, else the slots are gone through from the home.
use Rattle.std.proofs.Common.{◌≡◌, sym, ap, ◌∙◌, length, arith}
use borrow.Author.Tests.{eqb-true, eqb-false}
use Rattle.star_find.specs.Find.{refused}
use Rattle.star_find.specs.Lending.{seen}
use Rattle.star_hash.proofs.Hashing.{home-inside}
use Rattle.star_slots.specs.Lookup.{slot_ask, slot_name}
use Rattle.star_slots.specs.Inner.{probed}
use Rattle.star_slots.proofs.Scanning.{probe-none}
use Rattle.star_slots.proofs.Index.ask.Goals as goal

pub returns-then-is_empty : goal.returns-then-is_empty
unfolding slot_name slot_ask refused
returns-then-is_empty c =
    let none : length c.args.self.now.slots.now ≡ 0 = eqb-true _ _ (sym c.is_empty.ensures ∙ c.if-is_empty.true) in
    sym (probe-none _ _ _ _ _ _ _ (omega (arith, none)))

pub probe-requires : goal.probe-requires
probe-requires c =
    let some : length c.args.self.now.slots.now ≡ 0 → ⊥ = eqb-false _ _ (sym c.is_empty.ensures ∙ c.if-is_empty.false) in
    rw c.home_of.ensures (home-inside _ _ _ (omega (arith, some)))

pub returns : goal.returns
unfolding slot_name slot_ask
returns c =
    let lent = c.args.self.now.lent.now in
    let slots = c.args.self.now.slots.now in
    c.probe.ensures ∙ ap (probed (seen lent) lent.counts slots c.args.name.now c.args.set (length slots)) c.home_of.ensures
