-- `read_values` meets its contract: each turn passes one value of the packet, under the name row of its place.
use mathlib.Core.Path.{◌≡◌, refl, ap, ◌∙◌}
use Prim.Native.Nat.{◌-◌}
use native.Mathlib.Omega.{arith}
use lib.ListN.{get_or}
use Rattle.star_parse.specs.Reader.{back_to, inner_of, level_of}
use Rattle.star_parse.proofs.Going.{comes, becomes, over-value, full, not_full}
use Rattle.star_parse.proofs.packets.read_values.Goals as goal

pub loop-filled-init : goal.loop-filled-init
loop-filled-init c = (
  c.requires.ready,
  omega arith,
  c.requires.filled_nonzero,
  refl,
  λ rules w outer base began sets names packets q b before outcome a. a,
  rw c.requires.in_loop.names c.requires.filled_bound,
  omega arith,
  omega arith,
)

pub next_is-requires : goal.next_is-requires
next_is-requires c = c.loop-filled.invariant.0.bounds.rows

pub returns-then-not-next_is : goal.returns-then-not-next_is
returns-then-not-next_is c =
    let l = c.loop-filled in
    let n = c.requires.in_loop.names in record {
      onward = record {
        bounds = omega (arith, l.invariant.0, c.stop.ensures);
        further = omega (arith, l.invariant.1, c.stop.ensures);
        goes = λ rules w outer base began sets names packets q b before outcome a.
            not_full _ _ _ w outer (level_of c.args.s c.args.packet) (inner_of c.args.s) _ (l.invariant.4 rules w outer base began sets names packets q b before outcome a)
            l.invariant.2 (rw n at c.loop-filled-test.true) (c.next_is.ensures.not c.if-not-next_is.true) c.stop.ensures;
      };
      filled_value = λ z. absurd (omega (arith, c.stop.ensures.refusal, z));
    }

pub overflow_add-s : goal.overflow_add-s
overflow_add-s c =
    omega (arith, c.requires.in_loop, c.requires.in_loop.few c.args.s.level, c.loop-filled-test.true)

pub put_value-p-requires : goal.put_value-p-requires
put_value-p-requires c =
    let l = c.loop-filled in
    record { count_room = omega (arith, l.invariant.0); back_le_values = omega (arith, c.requires.back_le_values, l.invariant.6, l.invariant.7) }

pub loop-filled-preserved : goal.loop-filled-preserved
loop-filled-preserved c =
    let l = c.loop-filled in
    let n = c.requires.in_loop.names in
    let v = c.put_value-p in
    let e = c.next_is.ensures.is c.if-not-next_is.false in (
      omega (arith, l.invariant.0, v.ensures, e.token),
      omega (arith, l.invariant.1, v.ensures),
      omega arith,
      v.auto.values ∙ l.invariant.3,
      λ rules w outer base began sets names packets q b before outcome a.
          over-value _ _ _ base c.args.s.counts c.args.s.levels c.args.s.level began c.args.back c.requires.in_loop.some w outer c.args.s.first c.args.packet
          (inner_of c.args.s) _ (l.invariant.4 rules w outer base began sets names packets q b before outcome a) l.invariant.2
          (rw n at c.loop-filled-test.true) e.is q
          (b ∙ ap (back_to (get_or began c.args.s.level 0)) (let d : c.args.p.values - c.args.s.filled ≡ l.p.values - l.filled = omega (arith, l.invariant.6, l.invariant.7) in d))
          v.ensures,
      omega (arith, c.loop-filled-test.true),
      omega (arith, l.invariant.6, v.ensures.counted.values),
      omega (arith, l.invariant.7),
    )

pub returns : goal.returns
returns c =
    let l = c.loop-filled in
    let n = c.requires.in_loop.names in
    let all : l.filled ≡ get_or c.args.s.counts c.args.s.level 0 = omega (arith, n, l.invariant.5, c.loop-filled-test.false) in record {
      onward = record {
        bounds = l.invariant.0.bounds;
        further = l.invariant.1;
        goes = λ rules w outer base began sets names packets q b before outcome a.
            comes _ _ _ refl
            (becomes _ _ _ (λ rows m f. rw all at f)
            (full _ _ _ w outer (level_of c.args.s c.args.packet) (inner_of c.args.s) _ (l.invariant.4 rules w outer base began sets names packets q b before outcome a) (rw n at c.loop-filled-test.false)));
      };
      filled_value = λ z. omega (arith, l.invariant.6, all);
    }
