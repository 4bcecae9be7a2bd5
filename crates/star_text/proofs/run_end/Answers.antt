-- `run_end` meets its contract: the bytes passed are of the run, so its end from here is its end from the start.
use Rattle.std.proofs.Common.{◌≡◌, ltb, sym, ap, ◌∙◌, arith, le-ltb, lt-ltb}
use Rattle.star_text.proofs.Run.{run-goes, run-stops, run_ends}
use Rattle.star_text.proofs.run_end.Goals as goal

pub loop-at-preserved : goal.loop-at-preserved
loop-at-preserved c = (
  omega arith,
  sym (run-goes _ _ c.loop-at.at (omega arith)
      (ap (λ n. ltb n c.args.class) (sym c.class_of.ensures) ∙ lt-ltb _ _ c.if-class-class_of.false))
      ∙ c.loop-at.invariant.1,
)

pub returns-then-class-class_of : goal.returns-then-class-class_of
returns-then-class-class_of c =
    sym (run-stops _ _ c.loop-at.at (omega arith)
    (ap (λ n. ltb n c.args.class) (sym c.class_of.ensures) ∙ le-ltb _ _ c.if-class-class_of.true))
    ∙ c.loop-at.invariant.1

pub returns : goal.returns
returns c =
    let e : c.max.result ≡ c.loop-at.at = omega (arith, c.max.ensures) in
    e ∙ sym (run_ends _ _ c.loop-at.at (omega arith)) ∙ c.loop-at.invariant.1
