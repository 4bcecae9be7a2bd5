-- `find_global` meets its contract: after each name row the nearest global block that does not answer 13 is kept.
use Rattle.std.proofs.Common.{sym, ◌∙◌, arith}
use borrow.Author.Tests.{eqb-true, eqb-false}
use Rattle.star_find.specs.Find.{refused}
use Rattle.star_find.proofs.Nearest.{nearest-first, turn-other, turn-none, turn-answer, nearest-asked}
use Rattle.star_find.proofs.Contents.find_global.Goals as goal

pub loop-row-init : goal.loop-row-init
unfolding refused
loop-row-init c = (omega arith, nearest-first _ _ _ _ _)

pub loop-row-preserved-then-not-is_nearer : goal.loop-row-preserved-then-not-is_nearer
loop-row-preserved-then-not-is_nearer c =
    (omega arith, turn-other _ _ _ _ c.args.set (omega arith) c.loop-row.invariant.1 c.word-s.ensures c.is_nearer.ensures c.if-not-is_nearer.true)

pub loop-row-preserved-then-is_not_found : goal.loop-row-preserved-then-is_not_found
loop-row-preserved-then-is_not_found c = (
  omega arith,
  turn-none _ _ _ _ (omega arith) c.loop-row.invariant.1 c.row_answer-answer.ensures
      (eqb-true _ _ (sym c.is_not_found.ensures ∙ c.if-is_not_found.true)),
)

pub loop-row-preserved : goal.loop-row-preserved
loop-row-preserved c = (
  omega arith,
  turn-answer _ _ _ _ c.args.set (omega arith) c.loop-row.invariant.1 c.word-s.ensures c.is_nearer.ensures
      c.if-not-is_nearer.false c.row_answer-answer.ensures (eqb-false _ _ (sym c.is_not_found.ensures ∙ c.if-is_not_found.false)),
)

pub returns : goal.returns
returns c = nearest-asked _ _ _ _ c.args.rows c.loop-row.invariant.1 (omega (arith, c.loop-row.invariant.0))

pub returns-then-not-is_nearer : goal.returns-then-not-is_nearer
returns-then-not-is_nearer c =
    nearest-asked _ _ _ _ c.args.rows
    (turn-other _ _ _ _ c.args.set (omega arith) c.loop-row.invariant.1 c.word-s.ensures c.is_nearer.ensures c.if-not-is_nearer.true) (omega arith)

pub returns-then-is_not_found : goal.returns-then-is_not_found
returns-then-is_not_found c =
    nearest-asked _ _ _ _ c.args.rows
    (turn-none _ _ _ _ (omega arith) c.loop-row.invariant.1 c.row_answer-answer.ensures
    (eqb-true _ _ (sym c.is_not_found.ensures ∙ c.if-is_not_found.true))) (omega arith)

pub returns-else-is_not_found : goal.returns-else-is_not_found
returns-else-is_not_found c =
    nearest-asked _ _ _ _ c.args.rows
    (turn-answer _ _ _ _ c.args.set (omega arith) c.loop-row.invariant.1 c.word-s.ensures c.is_nearer.ensures
    c.if-not-is_nearer.false c.row_answer-answer.ensures (eqb-false _ _ (sym c.is_not_found.ensures ∙ c.if-is_not_found.false))) (omega arith)
