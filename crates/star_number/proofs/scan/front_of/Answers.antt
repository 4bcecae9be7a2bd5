-- `front_of` meets its contract.
use mathlib.Core.Path.{◌≡◌, refl, sym, ◌∙◌, ap}
use mathlib.Core.Bool.{◌&&◌, and-false}
use Prim.Native.Nat.{◌+◌, ◌-◌, ◌≤◌}
use native.Mathlib.Omega.{arith}
use borrow.Author.Tests.{le-leb}
use lib.Dec.{leb}
use lib.IntN.{pos, ◌-ℤ◌}
use lib.ListN.{length, drop}
use Rattle.star_lex.specs.Split.{starts}
use Rattle.star_number.specs.Taken.{exponent_at}
use Rattle.star_number.specs.Held.{Front, ExponentRun, digits_held, exponent_held, power_held, signed_by, front_held}
use Rattle.star_number.proofs.Answered.{missing, given}
use Rattle.star_number.proofs.Counting.{counted-le}
use Rattle.star_number.proofs.Digits.{digits-within}
use Rattle.star_number.proofs.Fronts.{front-held}
use Rattle.star_number.proofs.Held.{sign-within}
use Rattle.star_number.proofs.scan.front_of.Goals.{After-fraction_at-all, After-sign_length-from}
use Rattle.star_number.proofs.scan.front_of.Goals as goal

-- the digits begin within the content
from-within : (c : After-sign_length-from) → c.sign_length-from.result ≤ length c.args.content.now
from-within c = omega (arith, sign-within c.args.content.now, c.sign_length-from.ensures)

pub digits-whole-requires-clause-from_in_bounds : goal.digits-whole-requires-clause-from_in_bounds
digits-whole-requires-clause-from_in_bounds c = from-within c

pub fraction_at-all-requires-clause-value_le_most : goal.fraction_at-all-requires-clause-value_le_most
unfolding digits_held
fraction_at-all-requires-clause-value_le_most c = rw c.digits-whole.ensures (counted-le _)

pub fraction_at-all-requires-clause-at_in_bounds : goal.fraction_at-all-requires-clause-at_in_bounds
fraction_at-all-requires-clause-at_in_bounds c =
    (digits-within _ _ _ c.digits-whole.result c.digits-whole.ensures (from-within (goal.at.fraction_at-all-requires-clause-at_in_bounds c).After-sign_length-from)).1

-- the exponent behind the fraction
abbrev exponent : After-fraction_at-all → ExponentRun
exponent c = exponent_held c.fraction_at-all.result.end (exponent_at (drop c.fraction_at-all.result.end c.args.content.now))

-- after the fraction: the sum of digits is none that wraps, and what is held
abbrev Found : After-fraction_at-all → Type 0
Found c =
    let f = c.fraction_at-all.result in
    let w = c.digits-whole.result in
    let n = c.sign_length-from.result in
    let x = exponent c in
    let b = power_held (signed_by x.negative x.value -ℤ pos f.after) in
    let content = c.args.content.now in
    (n ≤ w.end) × (w.end - n + f.after ≤ length content)
    × (◌≡◌ {A = Front}
    (record { ok = leb 1 (w.end - n + f.after) && x.ok; negative = starts 45 (drop 0 content); digits = f.value; over = b.over; tens = b.tens; end = x.end })
    (front_held content))

held : (c : After-fraction_at-all) → Found c
held c =
    front-held c.args.content.now (omega (arith, c.well_formed)) c.sign_length-from.result c.sign_length-from.ensures c.digits-whole.result c.digits-whole.ensures
    c.fraction_at-all.result c.fraction_at-all.ensures (exponent c) refl _ refl

pub returns-in_err-written : goal.returns-in_err-written
returns-in_err-written c =
    let at = (goal.at.returns-in_err-written c).After-fraction_at-all in
    rw (← (held at).2, missing _ _ (sym c.exponent_at.ensures ∙ c.in_err-written.was), and-false (leb 1 _)) c.from_residual.ensures

pub overflow_sub-whole : goal.overflow_sub-whole
overflow_sub-whole c = (held (goal.at.overflow_sub-whole c).After-fraction_at-all).0

pub overflow_add-whole : goal.overflow_add-whole
overflow_add-whole c = omega (arith, (held (goal.at.overflow_add-whole c).After-fraction_at-all).1)

pub returns-then-whole-from-eq0 : goal.returns-then-whole-from-eq0
returns-then-whole-from-eq0 c =
    rw (← (held (goal.at.returns-then-whole-from-eq0 c).After-fraction_at-all).2, c.if-whole-from-eq0.true)

pub returns : goal.returns
returns c =
    let at = (goal.at.returns c).After-fraction_at-all in
    let (formed, x) = given _ _ c.in_ok-written.written (sym c.exponent_at.ensures ∙ c.in_ok-written.was) in
    let digits : 1 ≤ c.digits-whole.result.end - c.sign_length-from.result + c.fraction_at-all.result.after = omega (arith, c.if-whole-from-eq0.false) in
    rw (c.byte_at.ensures, c.power.ensures, ← ap (λ s. s.end) x, ← ap (λ s. s.negative) x, ← ap (λ s. s.value) x, ← (held at).2, formed, le-leb 1 _ digits)
