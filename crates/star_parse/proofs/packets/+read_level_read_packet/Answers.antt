-- `read_level` and `read_packet` meet their contracts: a packet's values lead to the level inside, whose packets and `stop_` lead back to before the
-- next packet. `read_packet` at a level calls `read_level` at the next, and that calls `read_packet` at the same, so their measures are twice the levels
-- left and one more.
use mathlib.Core.Path.{refl}
use mathlib.Core.List.{List, ◌∷◌}
use Prim.Native.Nat.{ℕ, ◌+◌, ◌<◌}
use native.Mathlib.Omega.{arith}
use Rattle.std.proofs.lemmas.Result.{err_from_is_err_and}
use Rattle.star_lex.specs.Rules.{Rules}
use Rattle.star_grammar.specs.Machine.{Where, Level}
use Rattle.star_parse.specs.Parsed.{four_tables}
use Rattle.star_parse.specs.Reached.{going, reached}
use Rattle.star_parse.specs.Reader.{LeadsWith, Around, Columns, inner_of, level_of, at_level}
use Rattle.star_parse.proofs.Coded.{number-some}
use Rattle.star_parse.proofs.Levels.{inner-some, filled-last, filled-deeper, around-deeper, columns-deeper, columns-back}
use Rattle.star_parse.proofs.Going.{comes, stays, onto, becomes, unpacked}
use Rattle.star_parse.proofs.packets.+read_level_read_packet.Goals.{read_packet-After-read_level}
use Rattle.star_parse.proofs.packets.+read_level_read_packet.Goals as goal

-- the packets of the level inside
inside : (t : ℕ) (c : read_packet-After-read_level t) (rules : Rules) (w : Where) (outer : List Level) (base : ℕ) (sets names : List ℕ) → Around c.args.s outer base
    → LeadsWith rules c.args.count c.args.tokens.now (at_level w outer c.args.s)
    (Columns base c.args.s.counts c.args.s.levels c.args.began.now) (going c.args.p)
    (four_tables sets names c.args.packets.now c.args.values.now)
    (at_level w (level_of c.args.s (c.args.p.packets + 1) ∷ outer) c.deeper.result)
    (Columns base c.deeper.result.counts c.deeper.result.levels c.read_level.new.began) (reached c.read_level.result)
    (four_tables sets names c.read_level.new.packets c.read_level.new.values)
inside t c rules w outer base sets names around before outcome a =
    let s = c.args.s in
    let h = c.requires.in_loop in
    let packet : ℕ = c.args.p.packets + 1 in
    let l : s.level + 1 < s.levels = omega (arith, h.some, c.if-s.false) in
    let d = c.deeper in
    c.read_level.ensures.onward.goes rules w (level_of s packet ∷ outer) base sets names
    (around-deeper s h packet l d.result d.ensures outer base around) before outcome
    (becomes _ _ _ (λ rows m k. columns-deeper s h packet l d.result d.ensures base _ rows k)
    (rw (filled-deeper s h packet l d.result d.ensures w outer) at
    ((c.in_ok-own.ensures.goes rules w outer base sets names around before outcome a).goes refl)))

pub read_packet-returns-in_err-own : goal.read_packet-returns-in_err-own
read_packet-returns-in_err-own t c =
    let own = c.in_err-own.ensures in
    let e = err_from_is_err_and c.from_residual.result c.from_residual.ensures.1 in
    rw (e.1, e.2) record {
      bounds = own.bounds;
      further = own.further;
      goes = λ rules w outer base sets names around before outcome a.
          stays _ _ _ (number-some c.in_err-own.field-0.0.reason) (own.goes rules w outer base sets names around before outcome a);
    }

pub read_packet-returns-then-s : goal.read_packet-returns-then-s
read_packet-returns-then-s t c =
    let own = c.in_ok-own.ensures in
    record {
      bounds = own.bounds;
      further = own.further;
      goes = λ rules w outer base sets names around before outcome a.
          comes _ _ _ refl
          (unpacked _ _ _ (rw (filled-last c.args.s c.requires.in_loop w outer (c.args.p.packets + 1) c.if-s.true) at
          ((own.goes rules w outer base sets names around before outcome a).goes refl)));
    }

pub read_packet-returns-in_err-p : goal.read_packet-returns-in_err-p
read_packet-returns-in_err-p t c =
    let level = c.in_err-p.ensures in
    let e = err_from_is_err_and c.from_residual-in_err-p.result c.from_residual-in_err-p.ensures.1 in
    rw (e.1, e.2) record {
      bounds = level.onward.bounds;
      further = omega (arith, c.in_ok-own.ensures.further, level.onward.further);
      goes = λ rules w outer base sets names around before outcome a.
          stays _ _ _ (number-some c.in_err-p.field-0.0.reason)
          (rw c.in_err-p.was at (inside t (goal.at.read_packet-returns-in_err-p t c).After-read_level rules w outer base sets names around before outcome a));
    }

pub read_packet-returns : goal.read_packet-returns
read_packet-returns t c =
    let s = c.args.s in
    let h = c.requires.in_loop in
    let l : s.level + 1 < s.levels = omega (arith, h.some, c.if-s.false) in
    let packet : ℕ = c.args.p.packets + 1 in
    let d = c.deeper in
    record {
      bounds = c.read_stop.ensures.bounds;
      further = omega (arith, c.in_ok-own.ensures.further, c.in_ok-p.ensures.onward.further, c.read_stop.ensures.further);
      goes = λ rules w outer base sets names around before outcome a.
          onto _ _ _ (λ k. becomes _ _ _ (λ rows m j. columns-back s h packet l d.result d.ensures base _ rows j)
          (unpacked _ _ _ (rw (inner-some s h packet l d.result d.ensures) at k)))
          (c.read_stop.ensures.goes rules w (level_of s packet) (level_of d.result 0) outer (inner_of d.result) _ base d.result.counts d.result.levels _ before outcome
          ((rw c.in_ok-p.was at (inside t (goal.at.read_packet-returns t c).After-read_level rules w outer base sets names around before outcome a)).goes refl));
    }
