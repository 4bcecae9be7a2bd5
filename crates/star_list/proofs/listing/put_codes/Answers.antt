-- `put_codes` meets its contract: the lines of the tokens passed are put, and each turn puts those of one token more.
use Rattle.std.proofs.Common.{◌*◌, arith, get_or}
use mathlib.Core.List.{flat_map}
use Rattle.star_lex.proofs.Held.{count_small}
use Rattle.star_list.specs.Listing.{block_codes, code_lines}
use Rattle.star_list.proofs.Putting.{put-none, put_then}
use Rattle.star_list.proofs.Lines.{line-length, Next, next, lines-all}
use Rattle.star_list.proofs.listing.put_codes.Goals.{After-content-content}
use Rattle.star_list.proofs.listing.put_codes.Goals as goal

pub loop-n-init : goal.loop-n-init
unfolding code_lines block_codes flat_map
loop-n-init c = (omega arith, put-none 0 _, omega arith)

-- the turn's token
turn : (c : After-content-content) → Next c.args.file.now c.loop-n.n (get_or c.args.tokens.now (c.loop-n.n * 3) 0) c.content-content.result.now
turn c = next _ _ _ c.requires c.loop-n.n (omega arith) _ c.content-content.ensures.result_value

pub put_code-at-requires : goal.put_code-at-requires
put_code-at-requires c =
    omega (arith, (turn (goal.at.put_code-at-requires c).After-content-content).small, c.loop-n.invariant.2, count_small _ _ _ c.requires)

pub loop-n-preserved : goal.loop-n-preserved
loop-n-preserved c =
    let turned = c.loop-n in
    let t = turn (goal.at.loop-n-preserved c).After-content-content in
    let kind = get_or c.args.tokens.now (turned.n * 3) 0 in (
      omega arith,
      rw t.lines (put_then turned.invariant.1 c.put_code-at.ensures),
      omega (arith, c.put_code-at.ensures.ends, line-length kind c.content-content.result.now, t.small),
    )

pub returns : goal.returns
returns c =
    let whole = lines-all _ _ _ c.requires c.loop-n.n (omega arith) in
    record { put_within = rw whole at c.loop-n.invariant.1; upper_bound = omega (arith, count_small _ _ _ c.requires) }
