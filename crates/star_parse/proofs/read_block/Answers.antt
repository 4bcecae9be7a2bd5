-- `read_block` meets its contract: each turn reads entries and one frame and comes back into the block, until neither comes.
use mathlib.Core.Path.{refl, ◌∙◌}
use native.Mathlib.Omega.{arith}
use Rattle.std.proofs.lemmas.Result.{err_from_is_err_and}
use Rattle.star_grammar.specs.Machine.{in_block, set_of}
use Rattle.star_parse.proofs.Ahead.{headed-token}
use Rattle.star_parse.proofs.Coded.{number-some}
use Rattle.star_parse.proofs.Going.{comes, stays, over-block, closes}
use Rattle.star_parse.proofs.read_block.Goals as goal

pub put_set-p-requires : goal.put_set-p-requires
put_set-p-requires c = omega (arith, c.requires.ready, headed-token c.requires.headed)

pub loop-p-init : goal.loop-p-init
loop-p-init c =
    let set = c.put_set-p in (
      omega (arith, c.requires.ready, headed-token c.requires.headed, set.ensures),
      omega arith,
      refl,
      refl,
      refl,
      refl,
      λ before outcome a. a,
    )

pub read_entries-requires : goal.read_entries-requires
read_entries-requires c = record { going = refl; bounds = c.loop-p.invariant.0 }

pub returns-in_err-p : goal.returns-in_err-p
unfolding set_of
returns-in_err-p c =
    let l = c.loop-p in
    let own = c.in_err-p.ensures in
    let e = err_from_is_err_and c.from_residual.result c.from_residual.ensures.1 in
    rw (e.1, e.2) record {
      bounds = own.onward.bounds;
      further = omega (arith, c.put_set-p.ensures, l.invariant.1, own.onward.further);
      goes = λ before outcome a.
          stays _ _ _ (number-some c.in_err-p.field-0.0.reason)
          (own.onward.goes (in_block c.put_set-p.result.sets) _ refl before outcome
          (l.invariant.6 before outcome (over-block _ _ _ _ _ a c.requires.headed c.put_set-p.ensures)));
    }

pub next_is-requires : goal.next_is-requires
next_is-requires c = c.in_ok-p.ensures.onward.bounds.rows

pub returns-then-not-next_is : goal.returns-then-not-next_is
unfolding set_of
returns-then-not-next_is c =
    let l = c.loop-p in
    let own = c.in_ok-p.ensures in
    let none = own.no_entry refl in
    record {
      bounds = own.onward.bounds;
      further = omega (arith, c.put_set-p.ensures, l.invariant.1, own.onward.further);
      goes = λ before outcome a.
          comes _ _ _ refl
          (closes _ _ _
          ((own.onward.goes (in_block c.put_set-p.result.sets) _ refl before outcome
          (l.invariant.6 before outcome (over-block _ _ _ _ _ a c.requires.headed c.put_set-p.ensures))).goes refl)
          (c.next_is.ensures.not c.if-not-next_is.true) none.loop none.name);
    }

pub read_frame-requires : goal.read_frame-requires
read_frame-requires c = record { ready = record { going = refl; bounds = c.in_ok-p.ensures.onward.bounds }; ahead = c.next_is.ensures.is c.if-not-next_is.false }

pub returns-in_err-p-2 : goal.returns-in_err-p-2
unfolding set_of
returns-in_err-p-2 c =
    let l = c.loop-p in
    let own = c.in_ok-p.ensures in
    let frame = c.in_err-p-2.ensures in
    let e = err_from_is_err_and c.from_residual-in_err-p-2.result c.from_residual-in_err-p-2.ensures.1 in
    rw (e.1, e.2) record {
      bounds = frame.bounds;
      further = omega (arith, c.put_set-p.ensures, l.invariant.1, own.onward.further, frame.further);
      goes = λ before outcome a.
          stays _ _ _ (number-some c.in_err-p-2.field-0.0.reason)
          (frame.goes before outcome
          ((own.onward.goes (in_block c.put_set-p.result.sets) _ refl before outcome
          (l.invariant.6 before outcome (over-block _ _ _ _ _ a c.requires.headed c.put_set-p.ensures))).goes refl));
    }

pub loop-p-smaller : goal.loop-p-smaller
loop-p-smaller c = omega (arith, c.in_ok-p-2.ensures.bounds, c.in_ok-p-2.ensures.further, c.in_ok-p.ensures.onward.further)

pub loop-p-preserved : goal.loop-p-preserved
unfolding set_of
loop-p-preserved c =
    let l = c.loop-p in
    let own = c.in_ok-p.ensures in
    let frame = c.in_ok-p-2.ensures in (
      frame.bounds,
      omega (arith, l.invariant.1, own.onward.further, frame.further),
      c.read_frame.auto.sets ∙ l.invariant.2,
      c.read_frame.auto.names ∙ c.read_entries.auto.names ∙ l.invariant.3,
      c.read_frame.auto.packets ∙ c.read_entries.auto.packets ∙ l.invariant.4,
      c.read_frame.auto.values ∙ c.read_entries.auto.values ∙ l.invariant.5,
      λ before outcome a.
          (frame.goes before outcome
          ((own.onward.goes (in_block c.put_set-p.result.sets) _ refl before outcome (l.invariant.6 before outcome a)).goes refl)).goes refl,
    )
