-- `plain_length` meets its contract: the sum so far is the length of the plain form of the rows passed, of which none is longer than the file and ten bytes.
use mathlib.Core.Path.{◌∙◌, ap}
use Prim.Native.Nat.{◌*◌, ◌≤◌}
use native.Mathlib.Omega.{arith}
use lib.ListN.{length, get_or}
use Rattle.star_plain.specs.Put.{token_of}
use Rattle.star_plain.specs.Kept.{plain_rows}
use Rattle.star_plain.proofs.Lengths.{short-plain}
use Rattle.star_plain.proofs.Keeping.{none-long, Next, next, kept-short}
use Rattle.star_plain.proofs.plain.plain_length.Goals.{After-content, After-kept_length-total}
use Rattle.star_plain.proofs.plain.plain_length.Goals as goal

pub loop-n-init : goal.loop-n-init
loop-n-init c = (none-long c.args.without _ _, omega arith)

-- the turn's token
turn : (c : After-content)
    → Next c.args.without c.args.file.now c.args.tokens.now
    c.args.count c.loop-n.n c.is_dropped-dropped.result
    (get_or c.args.tokens.now (c.loop-n.n * 3) 0) c.content.result.now
turn c = next _ _ _ _ c.loop-n.n (omega arith) _ (c.is_dropped-dropped.ensures _) _ c.content.ensures.result_value

-- its length
short : (c : After-kept_length-total) → c.kept_length-total.result ≤ 1048586
short c =
    let l = c.loop-n in
    let kind = get_or c.args.tokens.now (l.n * 3) 0 in
    let content = c.content.result.now in
    omega (arith, c.kept_length-total.ensures, kept-short c.is_dropped-dropped.result kind content 1048586 (omega (arith, short-plain (token_of kind content), (turn (goal.at.overflow_add-total c).After-content).small, c.requires.file_len_bound (omega arith))))

pub overflow_add-total : goal.overflow_add-total
overflow_add-total c = omega (arith, short c, c.requires.count_le_most_bytes)

pub loop-n-preserved : goal.loop-n-preserved
loop-n-preserved c = (
  omega (arith, (turn (goal.at.loop-n-preserved c).After-content).sum, c.kept_length-total.ensures),
  omega (arith, short c),
)

pub returns : goal.returns
returns c =
    c.loop-n.invariant.0 ∙ ap (λ n. length (plain_rows c.args.without c.args.file.now c.args.tokens.now n)) (omega arith)
