-- `read_packets` meets its contract: after the stops a header takes a value alone, which begins level 1, and level 1 ends where no value comes.
use mathlib.Core.Path.{refl, ◌∙◌}
use mathlib.Core.List.{[]}
use Prim.Native.Nat.{ℕ, ◌-◌}
use native.Mathlib.Omega.{arith}
use Rattle.std.proofs.lemmas.Result.{err_from_is_err_and}
use Rattle.star_parse.proofs.Ahead.{further-on}
use Rattle.star_parse.proofs.Coded.{number-some}
use Rattle.star_parse.proofs.Refusing.{closed-refuses}
use Rattle.star_parse.proofs.Columns.{columns-none}
use Rattle.star_parse.proofs.Headers.{zeros}
use Rattle.star_parse.proofs.Levels.{outermost, around-none}
use Rattle.star_parse.proofs.Going.{stays, becomes, refused, begins, leaves}
use Rattle.star_parse.proofs.header.read_packets.Goals as goal

pub returns-in_err-p : goal.returns-in_err-p
returns-in_err-p c =
    let stops = c.in_err-p.ensures in
    let e = err_from_is_err_and c.from_residual.result c.from_residual.ensures.1 in
    rw (e.1, e.2) record {
      bounds = stops.bounds;
      further = stops.further;
      goes = λ w outer n sets names h before outcome a.
          stays _ _ _ (number-some c.in_err-p.field-0.0.reason) (stops.goes w c.args.s.first outer n _ h.some (omega (arith, h.depth)) before outcome a);
    }

pub next_is-requires : goal.next_is-requires
next_is-requires c = c.in_ok-p.ensures.bounds.rows

pub returns-then-not-next_is : goal.returns-then-not-next_is
returns-then-not-next_is c =
    let stops = c.in_ok-p.ensures in
    let on = further-on c.args.count c.args.tokens.now c.args.p.at c.in_ok-p.p.at in
    record {
      bounds = omega (arith, stops.bounds, c.stop.ensures);
      further = omega (arith, stops.further, c.stop.ensures);
      goes = λ w outer n sets names h before outcome a.
          refused _ _ _ 8 (omega arith) ((stops.goes w c.args.s.first outer n _ h.some (omega (arith, h.depth)) before outcome a).goes refl)
          (closed-refuses _ w c.args.s.first outer n (c.in_ok-p.p.at - c.args.p.at) _ h.some (record {
            value = c.next_is.ensures.not c.if-not-next_is.true;
            stop = λ q. omega (arith, stops.last refl q, h.depth);
            loop = on 4 stops.further c.requires.no_entry.loop;
            name = on 6 stops.further c.requires.no_entry.name;
          }))
          c.stop.ensures;
    }

pub read_level-requires : goal.read_level-requires
read_level-requires c =
    record { ready = record { going = refl; bounds = c.in_ok-p.ensures.bounds }; in_loop = c.requires.in_loop; filled_value = c.requires.outermost.filled; began_len = refl }

pub returns : goal.returns
returns c =
    let stops = c.in_ok-p.ensures in
    let level = c.read_level in
    let e = c.next_is.ensures.is c.if-not-next_is.false in
    let first : ℕ = c.args.s.first in
    record {
      bounds = level.ensures.onward.bounds;
      further = omega (arith, stops.further, level.ensures.onward.further);
      goes = λ w outer n sets names h before outcome a.
          let k = level.ensures.onward.goes _ w [] first sets names (around-none c.args.s c.requires.in_loop c.requires.outermost) before outcome
          (becomes _ _ _
          (λ rows m u. columns-none first c.args.s.counts c.args.s.levels _ rows (zeros 8) u (c.requires.levels_value ∙ omega (arith, stops.names refl, m.names)))
          (begins _ _ _ ((stops.goes w first outer n _ h.some (omega (arith, h.depth)) before outcome a).goes refl) e.is h.some
          (outermost c.args.s c.requires.in_loop outer n c.requires.outermost h))) in
          record { goes = λ q. becomes _ _ _ (λ rows m d. d.unvalued) (leaves _ _ _ (k.goes q) (level.ensures.fact q)); ends = k.ends };
    }
