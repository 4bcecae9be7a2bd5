-- `all_fit` meets its contract: all fit exactly when those that are left do.
use mathlib.Core.Path.{◌≡◌, refl, sym, ◌∙◌, ap}
use mathlib.Core.Bool.{◌&&◌}
use Prim.Native.Nat.{◌+◌}
use native.Mathlib.Omega.{arith}
use borrow.Author.Tests.{not-true, not-false}
use lib.ListN.{drop}
use Rattle.star_lex.specs.Rules.{old_bench}
use Rattle.star_lex.specs.Fits.{all_fit}
use Rattle.star_lex.specs.Holds.{file_tokens}
use Rattle.star_check.proofs.Fitting.{fit_next, fit-end}
use Rattle.star_check.proofs.all_fit.Goals.{After-fits_old}
use Rattle.star_check.proofs.all_fit.Goals as goal

-- the turn's token decides, or those after it do
turn : (c : After-fits_old)
    → all_fit old_bench.longest (file_tokens c.args.file.now)
    ≡ (c.fits_old.result && all_fit old_bench.longest (drop (c.loop-n.n + 1) (file_tokens c.args.file.now)))
turn c =
    let n = c.loop-n.n in
    sym c.loop-n.invariant
    ∙ fit_next old_bench.longest _ _ _ c.requires n (omega arith)
    ∙ ap (λ b. b && all_fit old_bench.longest (drop (n + 1) (file_tokens c.args.file.now))) (sym c.fits_old.ensures)

pub returns-then-not-fits_old : goal.returns-then-not-fits_old
returns-then-not-fits_old c = sym (turn (goal.at.returns-then-not-fits_old c).After-fits_old ∙ rw (not-true c.fits_old.result c.if-not-fits_old.true-raw))

pub loop-n-preserved : goal.loop-n-preserved
loop-n-preserved c = sym (turn (goal.at.loop-n-preserved c).After-fits_old ∙ rw (not-false c.fits_old.result c.if-not-fits_old.false-raw))

pub returns : goal.returns
returns c = sym (fit-end _ _ _ _ c.requires c.loop-n.n (omega arith)) ∙ c.loop-n.invariant
