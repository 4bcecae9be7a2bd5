-- `probe` meets its contract: the answer from a slot on is the answer from the home on.
use Rattle.std.proofs.Common.{◌≡◌, ◌-◌, ◌+◌, length, sym, ap, ◌∙◌, arith, Ok, None}
use Rattle.std.proofs.lemmas.Result.{err_from_is_err_and}
use Rattle.star_find.specs.Find.{Match, found, refused}
use Rattle.star_find.specs.Lending.{found_of, seen, match_at}
use Rattle.star_find.proofs.Looking.{decided, compared-outside, compared-equal, compared-other}
use Rattle.star_slots.specs.Slots.{next_slot}
use Rattle.star_slots.specs.Inner.{probed}
use Rattle.star_slots.proofs.Slots.{next-inside}
use Rattle.star_slots.proofs.Scanning.{held-row, probe-missing, probe-row, probe-none}
use Rattle.star_slots.proofs.Index.probe.Goals.{After-compare_row}
use Rattle.star_slots.proofs.Index.probe.Goals as goal

pub returns-in_err-row : goal.returns-in_err-row
returns-in_err-row c =
    let p = err_from_is_err_and c.from_residual.result c.from_residual.ensures.1 in
    rw (p.1, p.2)
    (sym (probe-missing _ _ _ _ _ (length c.args.self.now.slots.now - c.loop.counter) c.loop.at _ (omega arith) (sym (ap found_of c.in_err-row.was) ∙ c.held.ensures)) ∙ c.loop.invariant.1)

-- the slot that was compared decides
turn : (c : After-compare_row) {m : Match}
    → match_at c.contents-contents.result c.args.self.now.lent.now.names.now (record { width = 4; first = c.args.set; parent = None }) c.args.bytes.now c.in_ok-row.row ≡ m
    → let slots = c.args.self.now.slots.now in
    let lent = c.args.self.now.lent.now in
    decided m c.in_ok-row.row (probed (seen lent) lent.counts slots c.args.bytes.now c.args.set (length slots - c.loop.counter - 1) (next_slot (length slots) c.loop.at))
    ≡ probed (seen lent) lent.counts slots c.args.bytes.now c.args.set (length slots) c.args.home
turn c e =
    let slots = c.args.self.now.slots.now in
    let held = held-row _ _ c.in_ok-row.row (sym (ap found_of c.in_ok-row.was) ∙ c.held.ensures) in
    rw held.0 (sym (probe-row slots _ _ _ _ (length slots - c.loop.counter) c.loop.at (omega arith) held.1 held.2 (rw (c.contents-contents.ensures, held.0) at e)) ∙ c.loop.invariant.1)

pub returns-in_err-compare_row : goal.returns-in_err-compare_row
unfolding refused
returns-in_err-compare_row c =
    let p = err_from_is_err_and c.from_residual-in_err-compare_row.result c.from_residual-in_err-compare_row.ensures.1 in
    let q = compared-outside _ (sym c.in_err-compare_row.was ∙ c.compare_row.ensures) in
    rw (p.1, p.2, q.1) (turn (goal.at.returns-in_err-compare_row c).After-compare_row q.0)

pub returns-then-branch : goal.returns-then-branch
unfolding found
returns-then-branch c =
    turn (goal.at.returns-then-branch c).After-compare_row (compared-equal _ (sym (c.in_ok-compare_row.was ∙ ap Ok c.if-branch.true) ∙ c.compare_row.ensures))

pub loop-preserved : goal.loop-preserved
loop-preserved c =
    let n = length c.args.self.now.slots.now in
    rw (c.next_slot-at.ensures, let q : n - (c.loop.counter + 1) ≡ n - c.loop.counter - 1 = omega arith in q)
    (next-inside _ _ (omega arith), turn (goal.at.loop-preserved c).After-compare_row (compared-other _ (sym (c.in_ok-compare_row.was ∙ ap Ok c.if-branch.false) ∙ c.compare_row.ensures)))

pub returns : goal.returns
unfolding refused
returns c = sym (probe-none _ _ _ _ _ (length c.args.self.now.slots.now - c.loop.counter) c.loop.at (omega arith)) ∙ c.loop.invariant.1
