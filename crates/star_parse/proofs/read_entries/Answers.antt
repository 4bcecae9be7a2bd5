-- `read_entries` meets its contract: each turn reads one entry and comes back between entries, until a token begins none.
use mathlib.Core.Path.{refl, ◌∙◌}
use native.Mathlib.Omega.{arith}
use Rattle.std.proofs.lemmas.Result.{err_from_is_err_and}
use Rattle.star_parse.proofs.Coded.{number-some}
use Rattle.star_parse.proofs.Going.{comes, stays}
use Rattle.star_parse.proofs.read_entries.Goals as goal

pub loop-names-init : goal.loop-names-init
loop-names-init c =
    (c.requires.bounds, omega arith, refl, refl, refl, λ w sets q before outcome a. a)

pub next_is-requires : goal.next_is-requires
next_is-requires c = c.loop-names.invariant.0.rows

pub read_item-requires : goal.read_item-requires
read_item-requires c =
    record { ready = record { going = refl; bounds = c.loop-names.invariant.0 }; ahead = c.next_is.ensures.is c.if-next_is.true }

pub returns-in_err-p : goal.returns-in_err-p
returns-in_err-p c =
    let l = c.loop-names in
    let v = c.in_err-p.ensures in
    let e = err_from_is_err_and c.from_residual.result c.from_residual.ensures.1 in
    rw (e.1, e.2) record {
      onward = record {
        bounds = v.bounds;
        further = omega (arith, l.invariant.1, v.further);
        goes = λ w sets q before outcome a.
            stays _ _ _ (number-some c.in_err-p.field-0.0.reason) (v.goes _ w sets _ q before outcome (l.invariant.5 w sets q before outcome a));
      };
      no_entry = λ z. absurd (number-some c.in_err-p.field-0.0.reason z);
    }

pub loop-names-smaller-then-next_is : goal.loop-names-smaller-then-next_is
loop-names-smaller-then-next_is c = omega (arith, c.in_ok-p.ensures.bounds, c.in_ok-p.ensures.further)

pub loop-names-preserved-then-next_is : goal.loop-names-preserved-then-next_is
loop-names-preserved-then-next_is c =
    let l = c.loop-names in
    let v = c.in_ok-p.ensures in (
      v.bounds,
      omega (arith, l.invariant.1, v.further),
      c.read_item.auto.names ∙ l.invariant.2,
      l.invariant.3,
      c.read_item.auto.values ∙ l.invariant.4,
      λ w sets q before outcome a. (v.goes _ w sets _ q before outcome (l.invariant.5 w sets q before outcome a)).goes refl,
    )

pub read_loop-requires : goal.read_loop-requires
read_loop-requires c =
    record { ready = record { going = refl; bounds = c.loop-names.invariant.0 }; ahead = c.next_is-else-next_is.ensures.is c.if-next_is-2.true }

pub returns-in_err-p-2 : goal.returns-in_err-p-2
returns-in_err-p-2 c =
    let l = c.loop-names in
    let v = c.in_err-p-2.ensures in
    let e = err_from_is_err_and c.from_residual-in_err-p-2.result c.from_residual-in_err-p-2.ensures.1 in
    rw (e.1, e.2) record {
      onward = record {
        bounds = v.bounds;
        further = omega (arith, l.invariant.1, v.further);
        goes = λ w sets q before outcome a.
            stays _ _ _ (number-some c.in_err-p-2.field-0.0.reason) (v.goes w sets q before outcome (l.invariant.5 w sets q before outcome a));
      };
      no_entry = λ z. absurd (number-some c.in_err-p-2.field-0.0.reason z);
    }

pub loop-names-smaller : goal.loop-names-smaller
loop-names-smaller c = omega (arith, c.in_ok-p-2.ensures.bounds, c.in_ok-p-2.ensures.further)

pub loop-names-preserved : goal.loop-names-preserved
loop-names-preserved c =
    let l = c.loop-names in
    let v = c.in_ok-p-2.ensures in (
      v.bounds,
      omega (arith, l.invariant.1, v.further),
      c.read_loop.auto.names ∙ l.invariant.2,
      c.read_loop.auto.packets ∙ l.invariant.3,
      c.read_loop.auto.values ∙ l.invariant.4,
      λ w sets q before outcome a. (v.goes w sets q before outcome (l.invariant.5 w sets q before outcome a)).goes refl,
    )

pub returns-else-next_is-2 : goal.returns-else-next_is-2
returns-else-next_is-2 c =
    let l = c.loop-names in
    record {
      onward = record { bounds = l.invariant.0; further = l.invariant.1; goes = λ w sets q before outcome a. comes _ _ _ refl (l.invariant.5 w sets q before outcome a) };
      no_entry = λ _. record { loop = c.next_is-else-next_is.ensures.not c.if-next_is-2.false; name = c.next_is.ensures.not c.if-next_is.false };
    }
