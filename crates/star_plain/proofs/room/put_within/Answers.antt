-- `put_within` meets its contract: the two tests are whether the room has place for the bytes.
use Prim.Native.Nat.{◌+◌, ◌≤◌, ◌<◌}
use native.Mathlib.Omega.{arith}
use borrow.Author.Tests.{le-leb, lt-leb}
use lib.ListN.{length}
use Rattle.star_plain.specs.Put.{within}
use Rattle.star_plain.proofs.Putting.{put-none}
use Rattle.star_plain.proofs.room.put_within.Goals as goal

pub returns-then-out-at : goal.returns-then-out-at
unfolding within
returns-then-out-at c =
    let args = c.args in
    let none : length args.out.now < args.at + length args.bytes.now = omega (arith, c.if-out-at.true) in
    rw (lt-leb _ _ none) (put-none _ _)

pub overflow_sub-out : goal.overflow_sub-out
overflow_sub-out c = omega arith

pub returns-then-out-at-2 : goal.returns-then-out-at-2
unfolding within
returns-then-out-at-2 c =
    let args = c.args in
    let none : length args.out.now < args.at + length args.bytes.now = omega (arith, c.if-out-at-2.true) in
    rw (lt-leb _ _ none) (put-none _ _)

pub put_bytes-requires : goal.put_bytes-requires
put_bytes-requires c = omega arith

pub returns : goal.returns
unfolding within
returns c =
    let args = c.args in
    let room : args.at + length args.bytes.now ≤ length args.out.now = omega (arith, c.if-out-at-2.false) in
    rw (le-leb _ _ room) c.put_bytes.ensures
