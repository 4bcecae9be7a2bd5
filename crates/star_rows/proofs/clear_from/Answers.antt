-- `clear_from` meets its contract: each element from `from` on is the default, and the others are as they were.
use Rattle.std.proofs.Common.{rules, arith, length-take, length-drop}
use Rattle.star_rows.proofs.Clear.{folds-same, filled-part}
use Rattle.star_rows.proofs.clear_from.Goals as goal

pub returns-then-from-table : goal.returns-then-from-table
returns-then-from-table g c = λ zero one.
    filled-part _ _ zero c.args.table.now _ (folds-same _ zero (λ p y q h. one y (search rules)) _ _ _ c.fill_with.ensures.ran.1)
    (omega (arith, simp (length-take, length-drop) at c.fill_with.ensures.len)) (omega arith)
