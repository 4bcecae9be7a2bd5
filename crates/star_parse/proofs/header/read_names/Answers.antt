-- `read_names` meets its contract: each turn passes one name of the level, so that as many have come as name rows were put.
use mathlib.Core.Path.{◌≡◌, refl, ◌∙◌}
use Prim.Native.Nat.{suc, ◌-◌}
use native.Mathlib.Omega.{arith}
use Rattle.star_parse.proofs.Going.{over-level-name}
use Rattle.star_parse.proofs.header.read_names.Goals as goal

pub loop-names-init : goal.loop-names-init
loop-names-init c =
    let e : c.args.p.names - c.args.p.names ≡ 0 = omega arith in
    (c.requires, omega arith, omega arith, refl, λ rules w first outer sets packets values q d before outcome a. rw e a)

pub next_is-requires : goal.next_is-requires
next_is-requires c = c.loop-names.invariant.0.bounds.rows

pub put_name-p-requires : goal.put_name-p-requires
put_name-p-requires c = omega (arith, c.loop-names.invariant.0)

pub loop-names-smaller : goal.loop-names-smaller
loop-names-smaller c =
    let e = c.next_is.ensures.is c.loop-names-test.true in
    omega (arith, e.token, c.put_name-p.ensures)

pub loop-names-preserved : goal.loop-names-preserved
loop-names-preserved c =
    let l = c.loop-names in
    let v = c.put_name-p in
    let e = c.next_is.ensures.is c.loop-names-test.true in
    let more : v.result.names - c.args.p.names ≡ suc (l.p.names - c.args.p.names) = omega (arith, l.invariant.2, v.ensures.counted.names) in (
      omega (arith, l.invariant.0, v.ensures, e.token),
      omega (arith, l.invariant.1, v.ensures),
      omega (arith, l.invariant.2, v.ensures),
      v.auto.names ∙ l.invariant.3,
      λ rules w first outer sets packets values q d before outcome a.
          rw more (over-level-name _ _ _ (l.invariant.4 rules w first outer sets packets values q d before outcome a) q d e.is v.ensures),
    )

pub returns : goal.returns
returns c =
    let l = c.loop-names in
    record {
      ready = l.invariant.0;
      further = l.invariant.1;
      counted = l.invariant.2;
      last = c.next_is.ensures.not c.loop-names-test.false;
      goes = l.invariant.4;
    }
