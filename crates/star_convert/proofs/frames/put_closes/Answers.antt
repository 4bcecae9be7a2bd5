-- `put_closes` meets its contract: the output begins with the plain form of the tokens passed, in the other layout, and goes on as it was.
use mathlib.Core.Path.{◌≡◌, refl, ◌∙◌}
use mathlib.Core.List.{flat_map}
use Prim.Native.Nat.{◌*◌, ◌<◌}
use native.Mathlib.Omega.{arith}
use lib.ListN.{length, get_or}
use Rattle.star_lex.specs.Rules.{today}
use Rattle.star_lex.specs.Plain.{plain_token, plain_by}
use Rattle.star_lex.specs.Holds.{file_tokens}
use Rattle.star_plain.specs.Put.{token_of}
use Rattle.star_convert.specs.Convert.{other_row}
use Rattle.star_plain.proofs.Putting.{fill_none}
use Rattle.star_convert.proofs.TodayTable.{today-room, today-few}
use Rattle.star_convert.proofs.Converting.{Swap, swap, swapped}
use Rattle.star_convert.proofs.frames.put_closes.Goals.{After-content-content, After-token_length-at, In-loop-n}
use Rattle.star_convert.proofs.frames.put_closes.Goals as goal

pub loop-n-init : goal.loop-n-init
unfolding plain_by flat_map
loop-n-init c = (fill_none _, refl)

-- the row is in the table
row_in : (c : In-loop-n)
    → (c.loop-n.n * 3 < length c.args.tokens.now) × (c.loop-n.n < 1048576)
row_in c =
    let h = c.requires.holds_today in
    (omega (arith, today-room _ _ _ _ h), omega (arith, today-few _ _ _ _ h))

pub overflow_mul-kind : goal.overflow_mul-kind
overflow_mul-kind c = omega (arith, row_in c)

pub offset_bounds-tokens-n : goal.offset_bounds-tokens-n
offset_bounds-tokens-n c = omega (arith, row_in c)

pub bounds-tokens-n : goal.bounds-tokens-n
bounds-tokens-n c = (row_in (goal.at.bounds-tokens-n c).In-loop-n).0

-- the turn's token
swapping : (c : After-content-content)
    → Swap c.args.layout (other_row c.args.layout (file_tokens c.args.file.now)) c.args.out.now c.loop-n.n (get_or c.args.tokens.now (c.loop-n.n * 3) 0) c.content-content.result.now
swapping c =
    swap _ _ _ _ c.requires.holds_today c.requires.reading_by _ c.requires.out_value c.loop-n.n (omega arith) _ c.content-content.ensures.result_value

pub put_close-requires : goal.put_close-requires
put_close-requires c =
    omega (arith, (swapping (goal.at.put_close-requires c).After-content-content).room, c.loop-n.invariant.0.counts, c.loop-n.invariant.1)

-- its length
sized : (c : After-token_length-at)
    → c.token_length-at.result ≡ length (plain_token today (token_of (get_or c.args.tokens.now (c.loop-n.n * 3) 0) c.content-content.result.now))
sized c = c.token_length-at.ensures

pub overflow_add-at : goal.overflow_add-at
overflow_add-at c =
    omega (arith, (swapping (goal.at.overflow_add-at c).After-content-content).within, c.loop-n.invariant.0.counts, sized c)

pub loop-n-preserved : goal.loop-n-preserved
loop-n-preserved c =
    let turned = c.loop-n in
    let put = c.put_close in (
      rw (sized c) ((swapping (goal.at.loop-n-preserved c).After-content-content).turn _ _ _ _ turned.invariant.0 put.ensures),
      put.auto.out ∙ turned.invariant.1,
    )

pub returns : goal.returns
returns c =
    swapped _ _ _ _ c.requires.holds_today c.requires.reading_by _ c.requires.out_value c.loop-n.n (omega arith) _ _ c.loop-n.invariant.0
