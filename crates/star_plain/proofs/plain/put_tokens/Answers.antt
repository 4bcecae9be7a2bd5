-- `put_tokens` meets its contract: the output begins with the plain form of the rows passed, and each turn fills more of the room that is left.
use mathlib.Core.Path.{◌≡◌, refl, ◌∙◌}
use Prim.Native.Nat.{◌-◌, ◌*◌}
use native.Mathlib.Omega.{arith}
use borrow.Rule.Slice.PartMut.{same_len_mid}
use lib.ListN.{length, get_or, length-take, length-drop}
use Rattle.star_plain.proofs.Putting.{fill-rest}
use Rattle.star_plain.proofs.Keeping.{none_filled, Next, next}
use Rattle.star_plain.proofs.plain.put_tokens.Goals.{After-is_dropped-dropped}
use Rattle.star_plain.proofs.plain.put_tokens.Goals as goal

pub loop-n-init : goal.loop-n-init
loop-n-init c = (none_filled c.args.without _ _ _, refl)

-- the turn's token
turn : (c : After-is_dropped-dropped)
    → Next c.args.without c.args.file.now c.args.tokens.now
    c.args.count c.loop-n.n c.is_dropped-dropped.result
    (get_or c.args.tokens.now (c.loop-n.n * 3) 0) c.content-content.result.now
turn c = next _ _ _ _ c.loop-n.n (omega arith) _ (c.is_dropped-dropped.ensures _) _ c.content-content.ensures.result_value

pub slice_bounds-put_kept-count : goal.slice_bounds-put_kept-count
slice_bounds-put_kept-count c = omega (arith, (turn c).within, (turn c).sum, c.loop-n.invariant.0.counts, c.requires.count_in_bounds_2)

pub slice_bounds-put_kept-start : goal.slice_bounds-put_kept-start
slice_bounds-put_kept-start c = slice_bounds-put_kept-count c

pub slice_bounds-put_kept-end : goal.slice_bounds-put_kept-end
slice_bounds-put_kept-end c = omega arith

pub put_kept-at-requires : goal.put_kept-at-requires
put_kept-at-requires c =
    simp (length-take, length-drop) (omega (arith, (turn (goal.at.put_kept-at-requires c).After-is_dropped-dropped).within, (turn (goal.at.put_kept-at-requires c).After-is_dropped-dropped).sum, c.loop-n.invariant.0.counts, c.requires.count_in_bounds_2))

pub overflow_add-at : goal.overflow_add-at
overflow_add-at c =
    omega (arith, (turn (goal.at.overflow_add-at c).After-is_dropped-dropped).within, (turn (goal.at.overflow_add-at c).After-is_dropped-dropped).sum, c.loop-n.invariant.0.counts, c.put_kept-at.ensures.counts, c.requires.count_in_bounds_2)

pub loop-n-preserved : goal.loop-n-preserved
loop-n-preserved c =
    let turned = c.loop-n in (
      rw (turn (goal.at.loop-n-preserved c).After-is_dropped-dropped).plain (fill-rest turned.invariant.0 c.put_kept-at.ensures),
      same_len_mid turned.at (length turned.out - turned.at) turned.out c.put_kept-at.new.out c.put_kept-at.auto.out ∙ turned.invariant.1,
    )

pub returns : goal.returns
returns c =
    let whole : c.loop-n.n ≡ c.args.count = omega arith in
    rw whole at c.loop-n.invariant.0.leaves
