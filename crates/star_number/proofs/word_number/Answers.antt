-- `word_number` meets its contract.
use mathlib.Core.Path.{◌≡◌, sym, ◌∙◌, ap}
use Prim.Native.Nat.{ℕ}
use Rattle.std.specs.Prelude.{Option as Answered, Some, None, unwrap_or}
use Rattle.star_number.specs.Taken.{taken, word_number}
use Rattle.star_number.specs.Held.{front_with, bracket_as}
use Rattle.star_number.specs.declared.Number.TheVariants.{Text}
use Rattle.star_number.proofs.Words.{held_number, word-missing, word_found}
use Rattle.star_number.proofs.word_number.Goals.{After-branch-digits}
use Rattle.star_number.proofs.word_number.Goals as goal

pub returns-in_err-decimal : goal.returns-in_err-decimal
returns-in_err-decimal c =
    ap (λ r. unwrap_or r Text) c.from_residual.ensures ∙ sym (word-missing _ (sym c.front_of.ensures ∙ c.in_err-decimal.was))

-- once what follows the other pieces is known
told : (c : After-branch-digits) (b : Answered (Answered ℕ)) → c.bracket_at.result ≡ b
    → held_number (front_with c.in_ok-decimal.decimal 0) (bracket_as b) ≡ word_number (taken c.args.content.now)
told c b e = sym (word_found _ _ _ b (sym c.front_of.ensures ∙ c.in_ok-decimal.was) (ap bracket_as (sym e) ∙ c.bracket_at.ensures))

pub returns-in_err-digits : goal.returns-in_err-digits
unfolding held_number
returns-in_err-digits c =
    ap (λ r. unwrap_or r Text) c.from_residual-in_err-digits.ensures ∙ told (goal.at.returns-in_err-digits c).After-branch-digits None c.in_err-digits.was

pub returns-in-Some : goal.returns-in-Some
unfolding held_number
returns-in-Some c =
    c.uncertain.ensures ∙ told (goal.at.returns-in-Some c).After-branch-digits (Some (Some c.in-Some.digits)) (c.in_ok-digits.was ∙ ap Some c.in-Some.is)

pub returns-in-None : goal.returns-in-None
unfolding held_number
returns-in-None c = c.bare.ensures ∙ told (goal.at.returns-in-None c).After-branch-digits (Some None) (c.in_ok-digits.was ∙ ap Some c.in-None.is)
