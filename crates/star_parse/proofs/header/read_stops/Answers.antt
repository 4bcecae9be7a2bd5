-- `read_stops` meets its contract: each turn passes one header stop, so that as many have come as tokens were passed; where they are not allowed, a run refuses the first.
use mathlib.Core.Path.{◌≡◌, refl}
use Prim.Native.Nat.{◌-◌}
use native.Mathlib.Numerals.{add-one}
use native.Mathlib.Omega.{arith}
use Rattle.star_parse.proofs.Refusing.{retired-refuses}
use Rattle.star_parse.proofs.Going.{comes, refused, over-header-stop}
use Rattle.star_parse.proofs.header.read_stops.Goals as goal

pub loop-stops-init : goal.loop-stops-init
loop-stops-init c = (c.requires, omega arith, refl, λ w first outer n t some e before outcome a. a)

pub next_is-requires : goal.next_is-requires
next_is-requires c = c.loop-stops.invariant.0.bounds.rows

pub returns-then-not-next_is : goal.returns-then-not-next_is
returns-then-not-next_is c =
    let l = c.loop-stops in
    let e : l.p.at - c.args.p.at ≡ l.stops = omega (arith, l.invariant.1) in
    record {
      bounds = l.invariant.0.bounds;
      further = omega (arith, l.invariant.1);
      names = λ _. l.invariant.2;
      last = λ _ h. absurd (c.next_is.ensures.not c.if-not-next_is.true h);
      goes = λ w first outer n t some q before outcome a. comes _ _ _ refl (rw e (l.invariant.3 w first outer n t some q before outcome a));
    }

pub returns-then-not-allowed : goal.returns-then-not-allowed
returns-then-not-allowed c =
    let l = c.loop-stops in
    let e = c.next_is.ensures.is c.if-not-next_is.false in
    let m = c.stop.ensures in
    record {
      bounds = omega (arith, l.invariant.0, m);
      further = omega (arith, l.invariant.1, m.at);
      names = λ z. absurd (omega (arith, m.refusal, z));
      last = λ z h. absurd (omega (arith, m.refusal, z));
      goes = λ w first outer n t some q before outcome a.
          refused _ _ _ 16 (omega arith) (l.invariant.3 w first outer n t some q before outcome a)
          (retired-refuses _ c.if-not-allowed.true w first outer n l.stops _ some (omega (arith, q)) e.is) m;
    }

pub passed-p-requires : goal.passed-p-requires
passed-p-requires c = omega (arith, c.loop-stops.invariant.0)

pub loop-stops-preserved : goal.loop-stops-preserved
loop-stops-preserved c =
    let l = c.loop-stops in
    let v = c.passed-p.ensures in
    let e = c.next_is.ensures.is c.if-not-next_is.false in (
      omega (arith, l.invariant.0, v, e.token),
      omega (arith, l.invariant.1, v.at),
      omega (arith, l.invariant.2, v.names),
      λ w first outer n t some q before outcome a.
          rw (add-one l.stops)
          (over-header-stop _ _ _ c.if-not-allowed.false (l.invariant.3 w first outer n t some q before outcome a) e.is some (omega (arith, q)) v),
    )

pub returns : goal.returns
returns c =
    let l = c.loop-stops in
    let e : l.p.at - c.args.p.at ≡ l.stops = omega (arith, l.invariant.1) in
    record {
      bounds = l.invariant.0.bounds;
      further = omega (arith, l.invariant.1);
      names = λ _. l.invariant.2;
      last = λ _ h. omega (arith, l.invariant.1, c.loop-stops-test.false);
      goes = λ w first outer n t some q before outcome a. comes _ _ _ refl (rw e (l.invariant.3 w first outer n t some q before outcome a));
    }
