-- `put_close` meets its contract: the kind tells whether the word is put.
use mathlib.Core.Path.{ap}
use Prim.Native.Nat.{◌+◌, ◌≤◌}
use native.Mathlib.Omega.{arith}
use borrow.Author.Tests.{eq-eqb, ne_eqb, le-leb}
use lib.ListN.{length}
use Rattle.star_plain.specs.Put.{within}
use Rattle.star_convert.specs.Inner.{other_close}
use Rattle.star_plain.proofs.Putting.{put_same, put-none}
use Rattle.star_convert.proofs.frames.put_close.Goals as goal

pub returns-then-kind-eq-FRAME_END : goal.returns-then-kind-eq-FRAME_END
unfolding other_close within
returns-then-kind-eq-FRAME_END c =
    let room : c.args.at + length c.close_word.result ≤ length c.args.out.now
    = omega (arith, ap length c.close_word.ensures, rw (eq-eqb _ 3 c.if-kind-eq-FRAME_END.true) at c.requires) in
    rw (eq-eqb _ 3 c.if-kind-eq-FRAME_END.true) (put_same c.close_word.ensures (rw (le-leb _ _ room) at c.put_within.ensures))

pub returns-else-kind-eq-FRAME_END : goal.returns-else-kind-eq-FRAME_END
unfolding other_close
returns-else-kind-eq-FRAME_END c = rw (ne_eqb _ 3 c.if-kind-eq-FRAME_END.false) (put-none _ _)
