-- `read_blocks` meets its contract: each turn reads one block and comes back to before a block, where only a heading or the end is taken.
use mathlib.Core.Path.{refl, sym, ap, ◌∙◌}
use native.Mathlib.Omega.{arith}
use lib.ListN.{drop}
use Rattle.star_lex.specs.Rules.{today, at_stops}
use Rattle.star_grammar.specs.Tables.{no_rows}
use Rattle.star_grammar.specs.Machine.{start, run}
use Rattle.star_parse.specs.Parsed.{kind_tokens}
use Rattle.star_parse.specs.Reader.{Between}
use Rattle.std.proofs.lemmas.Result.{err_from_is_err_and}
use Rattle.star_parse.proofs.Ahead.{at-end, sort-past}
use Rattle.star_parse.proofs.Coded.{number-some}
use Rattle.star_parse.proofs.Columns.{between_none}
use Rattle.star_parse.proofs.Counted.{matches-none}
use Rattle.star_parse.proofs.Refusing.{start-refuses}
use Rattle.star_parse.proofs.Going.{refused, whole-refused, accepts}
use Rattle.star_parse.proofs.read_blocks.Goals as goal

pub loop-p-init : goal.loop-p-init
loop-p-init c =
    let f = c.begin-p.ensures in (
      omega (arith, c.requires.token_width_in_bounds, c.requires.count_le_most_bytes, f),
      refl,
      refl,
      refl,
      refl,
      record {
        rows = no_rows;
        matches = matches-none _ _ f;
        left = ap (λ n. run (at_stops today c.args.stops) start (drop n (kind_tokens c.args.count c.args.tokens.now)) no_rows) f.at;
        holds = between_none;
      },
    )

pub block_kind-requires : goal.block_kind-requires
block_kind-requires c = c.requires.token_width_in_bounds

pub returns-in_default : goal.returns-in_default
returns-in_default c =
    let none = c.in_default.ensures in
    whole-refused _ _ _ _ (number-some c.stop.result.reason)
    (refused _ _ _ {to = start} {To = Between} 8 (omega arith) c.loop-p.invariant.5
    (start-refuses _ _ (λ h. omega (arith, at-end c.args.count c.args.tokens.now c.loop-p.p.at h, c.loop-p-test.true)) none.block none.global) c.stop.ensures)

pub read_block-requires : goal.read_block-requires
read_block-requires c = record { ready = record { going = refl; bounds = c.loop-p.invariant.0 }; headed = c.in-Some.ensures }

pub returns-in_err-p : goal.returns-in_err-p
returns-in_err-p c =
    let l = c.loop-p in
    let v = c.in_err-p.ensures in
    let e = err_from_is_err_and c.from_residual.result c.from_residual.ensures.1 in
    rw (e.1, e.2) (whole-refused _ _ _ _ (number-some c.in_err-p.field-0.0.reason) (v.goes _ _ l.invariant.5))

pub loop-p-smaller : goal.loop-p-smaller
loop-p-smaller c = omega (arith, c.in_ok-p.ensures.bounds, c.in_ok-p.ensures.further)

pub loop-p-preserved : goal.loop-p-preserved
loop-p-preserved c =
    let l = c.loop-p in
    let v = c.in_ok-p.ensures in (
      v.bounds,
      c.read_block.auto.sets ∙ l.invariant.1,
      c.read_block.auto.names ∙ l.invariant.2,
      c.read_block.auto.packets ∙ l.invariant.3,
      c.read_block.auto.values ∙ l.invariant.4,
      (v.goes _ _ l.invariant.5).goes refl,
    )

pub returns : goal.returns
returns c =
    let l = c.loop-p in
    let k = l.invariant.5 in
    record {
      accepts = λ _. record {
        rows = k.rows;
        matches = k.matches;
        all = omega (arith, l.invariant.0, c.loop-p-test.false);
        is = sym (accepts _ _ _ k (sort-past c.args.count c.args.tokens.now l.p.at (omega (arith, c.loop-p-test.false))));
      };
      refuses = λ n. absurd (n refl);
    }
