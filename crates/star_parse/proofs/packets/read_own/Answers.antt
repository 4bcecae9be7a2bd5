-- `read_own` meets its contract: the first value begins the packet, with its row, and `read_values` passes the others.
use mathlib.Core.Path.{ap, ◌∙◌}
use Prim.Native.Nat.{ℕ}
use native.Mathlib.Omega.{arith}
use lib.ListN.{get_or}
use Rattle.star_parse.specs.Reader.{back_to, inner_of}
use Rattle.star_parse.proofs.Columns.{back-bound, filling-all}
use Rattle.star_parse.proofs.Going.{becomes, over_first}
use Rattle.star_parse.proofs.packets.read_own.Goals as goal

pub bounds-began-level : goal.bounds-began-level
bounds-began-level c = omega (arith, c.requires)

pub bounds-began-level-2 : goal.bounds-began-level-2
bounds-began-level-2 c = omega (arith, c.requires)

pub overflow_add-s-2 : goal.overflow_add-s-2
overflow_add-s-2 c = omega (arith, c.requires)

pub put_value-p-requires : goal.put_value-p-requires
put_value-p-requires c =
    let packet = c.put_packet-p in
    let back = c.back_to-back in
    record { count_room = omega (arith, c.requires, packet.ensures); back_le_values = rw back.ensures (omega (arith, packet.ensures, back-bound (get_or c.args.began.now c.args.s.level 0) c.args.p.values)) }

pub overflow_add-begun : goal.overflow_add-begun
overflow_add-begun c = omega (arith, c.requires)

pub read_values-requires : goal.read_values-requires
read_values-requires c =
    let packet = c.put_packet-p in
    let value = c.put_value-p in
    let back = c.back_to-back in
    let h = c.requires.in_loop in record { ready = omega (arith, c.requires, packet.ensures, value.ensures); in_loop = record { size = h.size; some = h.some; names = h.names; limit = h.limit; few = h.few; named = h.named; first = h.first }; filled_nonzero = omega arith; filled_bound = omega (arith, c.requires.filled_value, h.named c.args.s.level h.some); back_le_values = rw back.ensures (omega (arith, packet.ensures, value.ensures, back-bound (get_or c.args.began.now c.args.s.level 0) c.args.p.values)) }

pub returns : goal.returns
unfolding inner_of
returns c =
    let back = c.back_to-back in
    let packet = c.put_packet-p in
    let value = c.put_value-p in
    let rest = c.read_values in
    let h = c.requires.in_loop in
    let level : ℕ = c.args.s.level in
    let z = c.requires.filled_value in
    record {
      bounds = rest.ensures.onward.bounds;
      further = omega (arith, packet.ensures, value.ensures, rest.ensures.onward.further);
      goes = λ rules w outer base sets names around before outcome a.
          rw (← packet.ensures.counted.packets)
          (let k = rest.ensures.onward.goes rules w outer base c.args.began.now sets names _ around.first
          (back.ensures ∙ ap (back_to (get_or c.args.began.now level 0)) (omega (arith, packet.ensures, value.ensures, z))) before outcome
          (over_first _ _ _ base c.args.s.counts c.args.s.levels level c.args.began.now back.result h.some a c.requires.ahead.is
          (omega (arith, around.depth)) around.parent z around.first (h.named level h.some) back.ensures packet.ensures value.ensures) in
          record {
            goes = λ e. becomes _ _ _
                (λ rows m f. filling-all base c.args.s.counts c.args.s.levels level c.args.began.now _ rows (omega (arith, c.requires)) f
                (omega (arith, m.values, rest.ensures.filled_value e, packet.ensures, value.ensures, z))) (k.goes e);
            ends = k.ends;
          });
    }
