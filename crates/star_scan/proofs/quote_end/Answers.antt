-- `quote_end` meets its contract: where no string closes at a byte and no line ends, it closes where it does from the next byte on.
use mathlib.Core.Path.{◌≡◌, refl, sym, ◌∙◌}
use native.Mathlib.Omega.{arith}
use lib.ListN.{get_or}
use Rattle.star_text.specs.Bytes.{is_terminate}
use Rattle.star_text.specs.Classes.{Classes}
use Rattle.star_text.proofs.Classes.{terminate-is}
use Rattle.star_lex.proofs.Closing.{quote-at, quote-over}
use Rattle.star_scan.proofs.quote_end.Goals.{After-is_terminate}
use Rattle.star_scan.proofs.quote_end.Goals as goal

pub loop-at-init : goal.loop-at-init
loop-at-init c = λ classes. refl

pub quote_closes-requires : goal.quote_closes-requires
quote_closes-requires c = omega arith

pub returns-then-quote_closes : goal.returns-then-quote_closes
returns-then-quote_closes c = λ classes.
    sym (quote-at _ _ c.loop-at.at _ (omega arith) ∙ (rw (sym (c.quote_closes.ensures classes) ∙ c.if-quote_closes.true)))
    ∙ c.loop-at.invariant classes

pub bounds-file-at : goal.bounds-file-at
bounds-file-at c = omega arith

-- the byte ends a line
ends : (c : After-is_terminate) → Classes c.args.classes.now
    → c.is_terminate.result ≡ is_terminate (get_or c.args.file.now c.loop-at.at 0)
ends c classes =
    c.is_terminate.ensures
    ∙ terminate-is classes _ (omega (arith, c.shared_slice_known-in-loop-at-1.given c.loop-at.at))

pub returns-then-is_terminate : goal.returns-then-is_terminate
returns-then-is_terminate c = λ classes.
    sym (quote-at _ _ c.loop-at.at _ (omega arith)
    ∙ (rw (
      sym (c.quote_closes.ensures classes) ∙ c.if-quote_closes.false,
      sym (ends (goal.at.returns-then-is_terminate c).After-is_terminate classes) ∙ c.if-is_terminate.true,
    )))
    ∙ c.loop-at.invariant classes

pub loop-at-preserved : goal.loop-at-preserved
loop-at-preserved c = λ classes.
    sym (quote-at _ _ c.loop-at.at _ (omega arith)
    ∙ (rw (
      sym (c.quote_closes.ensures classes) ∙ c.if-quote_closes.false,
      sym (ends (goal.at.loop-at-preserved c).After-is_terminate classes) ∙ c.if-is_terminate.false,
    )))
    ∙ c.loop-at.invariant classes

pub returns : goal.returns
returns c = λ classes. sym (quote-over _ _ c.loop-at.at _ (omega arith)) ∙ c.loop-at.invariant classes
