-- `ask_globals` meets its contract: what the sets that are left answer is what all of them do.
use Rattle.std.proofs.Common.{sym, ◌∙◌, ◌-◌, arith}
use borrow.Author.Tests.{eqb-true, eqb-false}
use Rattle.star_find.specs.Find.{refused}
use Rattle.star_slots.proofs.Scanning.{globals-at, globals-past, globals-none}
use Rattle.star_slots.proofs.Index.ask_globals.Goals as goal

pub returns-then-not-is_not_found : goal.returns-then-not-is_not_found
returns-then-not-is_not_found c =
    globals-at _ _ (c.loop-s.s - 1) (omega arith) c.ask_global-answer.ensures (eqb-false _ _ (sym c.is_not_found.ensures ∙ c.if-not-is_not_found.true)) ∙ c.loop-s.invariant

pub loop-s-preserved : goal.loop-s-preserved
loop-s-preserved c =
    globals-past _ _ (c.loop-s.s - 1) (omega arith) c.ask_global-answer.ensures (eqb-true _ _ (sym c.is_not_found.ensures ∙ c.if-not-is_not_found.false)) ∙ c.loop-s.invariant

pub returns : goal.returns
unfolding refused
returns c = globals-none _ _ (c.loop-s.s - 1) (omega arith) ∙ c.loop-s.invariant
