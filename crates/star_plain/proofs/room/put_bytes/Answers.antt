-- `put_bytes` meets its contract: the bytes passed are a copy in the room.
use Rattle.std.proofs.Common.{◌≡◌, ◌+◌, length, refl, sym, ◌∙◌, ap, arith, slice_index_or, slice_set}
use Rattle.std.proofs.Math.Seq.{paste, paste-zero, paste-suc, take-length}
use native.Mathlib.Numerals.{add-one}
use Rattle.star_plain.proofs.room.put_bytes.Goals as goal

pub loop-i-init : goal.loop-i-init
loop-i-init c = paste-zero c.args.out.now c.args.at c.args.bytes.now

pub loop-i-preserved : goal.loop-i-preserved
loop-i-preserved c =
    let args = c.args in
    let turn = c.loop-i in
    ap (λ room. slice_set room (args.at + turn.i) (slice_index_or args.bytes.now turn.i 0)) turn.invariant
    ∙ paste-suc args.out.now args.at args.bytes.now turn.i 0 (omega arith) (omega arith)
    ∙ ap (λ n. paste args.out.now args.at args.bytes.now n) (sym (add-one turn.i))

pub returns : goal.returns
returns c =
    let end : c.loop-i.i ≡ length c.args.bytes.now = omega arith in
    record { ends = refl; leaves = c.loop-i.invariant ∙ rw (end, take-length) }
