-- `put_row` meets its contract: the words of a row that fits are copied one by one, and a row that does not fit changes nothing.
use Rattle.std.proofs.Common.{◌≡◌, ◌+◌, ◌*◌, ◌<◌, ◌≤◌, ◌/◌, length, sym, ◌∙◌, ap, arith, slice_index_or, slice_set}
use Rattle.std.proofs.Math.Nat.{div-zero}
use Rattle.std.proofs.Math.Seq.{paste, paste-zero, paste-suc}
use native.Mathlib.Numerals.{add-one}
use Rattle.star_rows.proofs.Stored.{put-copied, put_full, row-inside}
use Rattle.star_rows.proofs.put_row.Goals as goal

pub returns-then-this-eq0 : goal.returns-then-this-eq0
returns-then-this-eq0 g c =
    let none : length c.args.row ≡ 0 = omega arith in sym (put_full _ _ _ (rw (none, div-zero) (omega arith)))

pub loop-i-init : goal.loop-i-init
loop-i-init g c = paste-zero c.args.table.now (c.args.n * g.row.N) c.args.row

pub loop-i-preserved : goal.loop-i-preserved
loop-i-preserved g c =
    let turn = c.loop-i in
    let at = c.args.n * g.row.N in
    let fits : c.args.n < length c.args.table.now / g.row.N = omega (arith, c.if-n-rows.true) in
    ap (λ words. slice_set words (at + turn.i) (slice_index_or c.args.row turn.i 0)) turn.invariant
    ∙ paste-suc c.args.table.now at c.args.row turn.i 0 (row-inside c.args.n _ g.row.N turn.i fits (omega arith)) (omega arith)
    ∙ ap (λ k. paste c.args.table.now at c.args.row k) (sym (add-one turn.i))

pub returns-after-loop-i : goal.returns-after-loop-i
returns-after-loop-i g c =
    let end : c.loop-i.i ≡ g.row.N = omega arith in
    let fits : c.args.n < length c.args.table.now / g.row.N = omega (arith, c.if-n-rows.true) in
    c.loop-i.invariant ∙ rw end (put-copied c.args.row c.args.n g.row.N c.args.table.now (omega arith) (omega arith) fits)

pub returns-else-n-rows : goal.returns-else-n-rows
returns-else-n-rows g c =
    let width : length c.args.row ≡ g.row.N = omega arith in
    let full : length c.args.table.now / g.row.N ≤ c.args.n = omega arith in
    sym (put_full _ _ _ (rw width full))
