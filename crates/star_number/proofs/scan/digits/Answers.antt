-- `digits` meets its contract: what the digits give from here is what they give from the start.
use mathlib.Core.Path.{◌≡◌, sym, ◌∙◌, ap}
use Prim.Native.Nat.{◌+◌, ◌<◌}
use native.Mathlib.Nat.{add-zero}
use native.Mathlib.Omega.{arith}
use lib.ListN.{length, get_or}
use Rattle.star_number.specs.Pieces.{is_digit}
use Rattle.star_number.proofs.Counting.{counted-le}
use Rattle.star_number.proofs.Digits.{digits-go, digits-stop, digits-end}
use Rattle.star_number.proofs.Places.{digit-same, rest-at, rest-length}
use Rattle.star_number.proofs.scan.digits.Goals.{After-is_ascii_digit}
use Rattle.star_number.proofs.scan.digits.Goals as goal

-- the byte of a turn, by its place in the content
is-digit : (c : After-is_ascii_digit) → c.is_ascii_digit.result ≡ is_digit (get_or c.args.content.now (c.args.from + c.loop-i.i) 0)
is-digit c = c.is_ascii_digit.ensures.value ∙ digit-same _ ∙ ap is_digit (rest-at c.args.content.now c.args.from c.loop-i.i)

within : (c : After-is_ascii_digit) → c.args.from + c.loop-i.i < length c.args.content.now
within c = omega (arith, c.loop-i-test.true, rest-length c.args.content.now c.args.from)

pub loop-i-init : goal.loop-i-init
loop-i-init c = record { rest = rw add-zero; counted = c.requires.value_le_most }

pub returns-then-not-is_ascii_digit : goal.returns-then-not-is_ascii_digit
returns-then-not-is_ascii_digit c =
    let at = (goal.at.returns-then-not-is_ascii_digit c).After-is_ascii_digit in
    sym (digits-stop _ c.loop-i.n _ (within at) c.loop-i.invariant.counted (sym (is-digit at) ∙ c.if-not-is_ascii_digit.true))
    ∙ c.loop-i.invariant.rest

pub with_digit-n-requires : goal.with_digit-n-requires
with_digit-n-requires c = sym (digit-same _) ∙ (sym c.is_ascii_digit.ensures.value ∙ c.if-not-is_ascii_digit.false)

pub loop-i-preserved : goal.loop-i-preserved
loop-i-preserved c =
    let at = (goal.at.loop-i-preserved c).After-is_ascii_digit in
    let xs = c.args.content.now in
    let next : c.args.from + (c.loop-i.i + 1) ≡ c.args.from + c.loop-i.i + 1 = omega arith in
    record {
      rest =
          rw (next, c.with_digit-n.ensures, rest-at xs c.args.from c.loop-i.i)
          (sym (digits-go xs c.loop-i.n (c.args.from + c.loop-i.i) (within at) (sym (is-digit at) ∙ c.if-not-is_ascii_digit.false)) ∙ c.loop-i.invariant.rest);
      counted = rw c.with_digit-n.ensures (counted-le _);
    }

pub returns : goal.returns
returns c =
    let end : c.args.from + c.loop-i.i ≡ length c.args.content.now =
    omega (arith, c.loop-i-test.false, c.loop-i.auto.i-end, rest-length c.args.content.now c.args.from, c.requires.from_in_bounds) in
    sym (digits-end c.args.content.now c.loop-i.n (length c.args.content.now) (omega arith) c.loop-i.invariant.counted) ∙ (rw end at c.loop-i.invariant.rest)
