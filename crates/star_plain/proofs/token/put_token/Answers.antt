-- `put_token` meets its contract: each part of the plain form is put where the one before it ends.
use mathlib.Core.Path.{ap}
use mathlib.Core.List.{append_assoc}
use native.Mathlib.Omega.{arith}
use lib.ListN.{length}
use Rattle.star_lex.specs.Plain.{plain_token}
use Rattle.star_plain.specs.Put.{token_of}
use Rattle.star_plain.proofs.Putting.{put_same, fill_none, fill-put}
use Rattle.star_plain.proofs.Lengths.{length-plain}
use Rattle.star_plain.proofs.token.put_token.Goals as goal

pub put_bytes-indented-requires : goal.put_bytes-indented-requires
put_bytes-indented-requires c = omega (arith, length-plain (token_of c.args.kind c.args.content.now), c.requires, ap length c.indent.ensures)

pub put_bytes-opened-requires : goal.put_bytes-opened-requires
put_bytes-opened-requires c = omega (arith, length-plain (token_of c.args.kind c.args.content.now), c.requires, ap length c.indent.ensures, ap length c.opening.ensures, c.put_bytes-indented)

pub put_bytes-filled-requires : goal.put_bytes-filled-requires
put_bytes-filled-requires c = omega (arith, length-plain (token_of c.args.kind c.args.content.now), c.requires, ap length c.indent.ensures, ap length c.opening.ensures, c.put_bytes-indented, c.put_bytes-opened)

pub put_bytes-closed-requires : goal.put_bytes-closed-requires
put_bytes-closed-requires c = omega (arith, length-plain (token_of c.args.kind c.args.content.now), c.requires, ap length c.indent.ensures, ap length c.opening.ensures, ap length c.closing.ensures, c.put_bytes-indented, c.put_bytes-opened, c.put_bytes-filled)

pub put_bytes-requires : goal.put_bytes-requires
put_bytes-requires c = omega (arith, length-plain (token_of c.args.kind c.args.content.now), c.requires, ap length c.indent.ensures, ap length c.opening.ensures, ap length c.closing.ensures, c.put_bytes-indented, c.put_bytes-opened, c.put_bytes-filled, c.put_bytes-closed)

pub returns : goal.returns
unfolding plain_token
returns c =
    let f = fill-put (fill_none _) (put_same c.indent.ensures c.put_bytes-indented.ensures) in
    let g = fill-put f (put_same c.opening.ensures c.put_bytes-opened.ensures) in
    let h = fill-put g c.put_bytes-filled.ensures in
    let k = fill-put h (put_same c.closing.ensures c.put_bytes-closed.ensures) in
    simp append_assoc at (fill-put k c.put_bytes.ensures)
