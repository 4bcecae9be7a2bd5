-- `put_code` meets its contract: the test is that of the definition.
use native.Mathlib.Omega.{arith}
use borrow.Author.Tests.{eq-eqb, ne_eqb}
use Rattle.star_list.specs.Listing.{line}
use Rattle.star_list.specs.Put.{code_line}
use Rattle.star_list.proofs.Putting.{put-none, put_then}
use Rattle.star_list.proofs.listing.put_code.Goals as goal

pub returns-then-kind-number : goal.returns-then-kind-number
unfolding code_line
returns-then-kind-number c = rw (ne_eqb c.args.kind 1 (λ q. c.if-kind-number.true (omega (arith, q, c.number.ensures)))) (put-none _ _)

pub returns : goal.returns
unfolding code_line line
returns c =
    rw (eq-eqb c.args.kind 1 (omega (arith, c.if-kind-number.false, c.number.ensures))) (put_then c.put_bytes-end.ensures c.put_byte.ensures)
