-- `exponent_at` meets its contract.
use mathlib.Core.Path.{◌≡◌, sym, ◌∙◌, ap}
use Prim.Native.Nat.{◌+◌, ◌≤◌}
use native.Mathlib.Omega.{arith}
use borrow.Author.Tests.{lt-ltb, le-ltb}
use lib.Dec.{ltb}
use lib.ListN.{length, drop, length-drop}
use Rattle.star_lex.specs.Split.{starts}
use Rattle.star_number.specs.Taken.{exponent_at}
use Rattle.star_number.specs.Held.{exponent_held}
use Rattle.star_number.proofs.Digits.{digits-within}
use Rattle.star_number.proofs.Held.{letter-inside, exponent-none, exponent-some, sign-within}
use Rattle.star_number.proofs.scan.exponent_at.Goals.{After-digits-run, After-sign_length}
use Rattle.star_number.proofs.scan.exponent_at.Goals as goal

pub returns-then-not-is_letter : goal.returns-then-not-is_letter
returns-then-not-is_letter c = rw (exponent-none _ _ (sym c.is_letter.ensures ∙ c.if-not-is_letter.true))

pub overflow_add-sign : goal.overflow_add-sign
overflow_add-sign c = omega (arith, letter-inside c.args.content.now c.args.at (sym c.is_letter.ensures ∙ c.if-not-is_letter.false))

-- the digits begin within the content
from-within : (c : After-sign_length) → c.args.at + 1 + c.sign_length.result ≤ length c.args.content.now
from-within c =
    let bs = c.args.content.now in
    let k = c.args.at in
    omega (arith, letter-inside bs k (sym c.is_letter.ensures ∙ c.if-not-is_letter.false), sign-within (drop (k + 1) bs), length-drop (k + 1) bs, c.sign_length.ensures)

pub overflow_add-from : goal.overflow_add-from
overflow_add-from c = omega (arith, from-within c)

pub digits-run-requires-clause-from_in_bounds : goal.digits-run-requires-clause-from_in_bounds
digits-run-requires-clause-from_in_bounds c = from-within c

-- what is held of the exponent, by its digits
held : (c : After-digits-run) → exponent_held c.args.at (exponent_at (drop c.args.at c.args.content.now))
    ≡ record { ok = ltb (c.args.at + 1 + c.sign_length.result) c.digits-run.result.end; end = c.digits-run.result.end; negative = starts 45 (drop (c.args.at + 1) c.args.content.now); value = c.digits-run.result.value }
held c =
    let a = c.args in
    exponent-some a.content.now a.at (sym c.is_letter.ensures ∙ c.if-not-is_letter.false) (a.at + 1 + c.sign_length.result) (ap (λ k. a.at + 1 + k) c.sign_length.ensures) c.digits-run.result c.digits-run.ensures

pub returns-then-run-from : goal.returns-then-run-from
returns-then-run-from c =
    rw (held (goal.at.returns-then-run-from c).After-digits-run, le-ltb (c.args.at + 1 + c.sign_length.result) c.digits-run.result.end (omega arith))

pub returns : goal.returns
returns c =
    let from = c.args.at + 1 + c.sign_length.result in
    let end = c.digits-run.result.end in
    let after : from ≤ end = (digits-within _ _ _ c.digits-run.result c.digits-run.ensures (from-within (goal.at.returns c).After-sign_length)).0 in
    rw (held (goal.at.returns c).After-digits-run, c.byte_at.ensures, lt-ltb from end (omega (arith, c.if-run-from.false)))
