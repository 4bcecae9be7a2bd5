-- `white_at` meets its contract: the end counts as white space.
use mathlib.Core.Path.{sym, ◌∙◌, ap}
use native.Mathlib.Omega.{arith}
use borrow.Author.Tests.{ltb-true, ltb-false}
use Rattle.star_text.specs.Classes.{white_in}
use Rattle.star_text.proofs.Classes.{white-is}
use Rattle.star_lex.proofs.Closing.{white-in, white-end}
use Rattle.star_scan.proofs.white_at.Goals as goal

pub returns-in-Some : goal.returns-in-Some
returns-in-Some c = λ classes.
    c.is_white.ensures
    ∙ ap (white_in c.args.classes.now) (c.in-Some.ensures.lookup.4 (omega arith) 0)
    ∙ white-is classes _ (omega (arith, c.type_inv.file c.args.at))
    ∙ sym (white-in _ _ (ltb-true _ _ (sym c.in-Some.ensures.lookup.0)))

pub returns-in-None : goal.returns-in-None
returns-in-None c = λ classes. sym (white-end _ _ (ltb-false _ _ (sym c.in-None.ensures.lookup.0)))
