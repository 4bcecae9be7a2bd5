-- `read_frame` meets its contract: the heading opens the frame, its entries follow, and then only `save_` leads back to the block.
use mathlib.Core.Path.{refl}
use native.Mathlib.Omega.{arith}
use Rattle.std.proofs.lemmas.Result.{err_from_is_err_and}
use Rattle.star_grammar.specs.Machine.{in_frame, set_of}
use Rattle.star_parse.proofs.Coded.{number-some}
use Rattle.star_parse.proofs.Refusing.{frame-refuses}
use Rattle.star_parse.proofs.Going.{comes, stays, refused, over-frame, over-frame-end}
use Rattle.star_parse.proofs.read_frame.Goals as goal

pub returns-in_err-p : goal.returns-in_err-p
unfolding set_of
returns-in_err-p c =
    let set = c.put_set-p in
    let own = c.in_err-p.ensures in
    let e = err_from_is_err_and c.from_residual.result c.from_residual.ensures.1 in
    rw (e.1, e.2) record {
      bounds = own.onward.bounds;
      further = omega (arith, set.ensures, own.onward.further);
      goes = λ before outcome a.
          stays _ _ _ (number-some c.in_err-p.field-0.0.reason)
          (own.onward.goes (in_frame c.args.block set.result.sets) _ refl before outcome (over-frame _ _ _ a c.requires.ahead.is set.ensures));
    }

pub next_is-requires : goal.next_is-requires
next_is-requires c = c.in_ok-p.ensures.onward.bounds.rows

pub returns-then-next_is : goal.returns-then-next_is
unfolding set_of
returns-then-next_is c =
    let set = c.put_set-p in
    let own = c.in_ok-p.ensures in
    let v = c.passed.ensures in
    let e = c.next_is.ensures.is c.if-next_is.true in
    record {
      bounds = omega (arith, own.onward.bounds, v, e.token);
      further = omega (arith, set.ensures, own.onward.further, v);
      goes = λ before outcome a.
          comes _ _ _ refl
          (over-frame-end _ _ _
          ((own.onward.goes (in_frame c.args.block set.result.sets) _ refl before outcome (over-frame _ _ _ a c.requires.ahead.is set.ensures)).goes
          refl) e.is v);
    }

pub returns-else-next_is : goal.returns-else-next_is
unfolding set_of
returns-else-next_is c =
    let set = c.put_set-p in
    let own = c.in_ok-p.ensures in
    let none = own.no_entry refl in
    record {
      bounds = omega (arith, own.onward.bounds, c.stop.ensures);
      further = omega (arith, set.ensures, own.onward.further, c.stop.ensures);
      goes = λ before outcome a.
          refused _ _ _ 8 (omega arith)
          ((own.onward.goes (in_frame c.args.block set.result.sets) _ refl before outcome (over-frame _ _ _ a c.requires.ahead.is set.ensures)).goes
          refl)
          (frame-refuses _ c.args.block set.result.sets _ (c.next_is.ensures.not c.if-next_is.false) none.loop none.name) c.stop.ensures;
    }
