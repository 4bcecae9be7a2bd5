-- `read_loop` meets its contract: each turn reads the names of one level, and the array of counts has the levels of the header so far.
use mathlib.Core.Path.{◌≡◌, refl, ◌∙◌}
use mathlib.Core.List.{List, []}
use Prim.Native.Nat.{ℕ, ◌+◌, ◌-◌}
use native.Mathlib.Omega.{arith}
use lib.ListN.{length-set}
use Rattle.star_lex.specs.Rules.{today, at_stops}
use Rattle.star_grammar.specs.Machine.{Where, set_of, header}
use Rattle.star_parse.specs.Parsed.{four_tables}
use Rattle.star_parse.specs.Reached.{going}
use Rattle.star_parse.specs.Reader.{PassesWith, Unvalued, name_at}
use Rattle.star_parse.proofs.Headers.{outers, outers-length, outers-more, few-none, few-more, named_more, name-more, header-in, loop-in}
use Rattle.star_parse.proofs.Refusing.{nameless-refuses, deepest-refuses}
use Rattle.star_parse.proofs.Going.{refused, over-loop, over-level}
use Rattle.star_parse.proofs.header.read_loop.Goals.{After-read_names-p}
use Rattle.star_parse.proofs.header.read_loop.Goals as goal

pub opened-p-requires : goal.opened-p-requires
opened-p-requires c = omega (arith, c.requires)

pub overflow_add-first : goal.overflow_add-first
overflow_add-first c = omega (arith, c.requires, c.opened-p.ensures)

pub loop-counts-init : goal.loop-counts-init
unfolding name_at
loop-counts-init c =
    (omega (arith, c.requires, c.opened-p.ensures), omega arith, omega arith, refl, few-none, refl, refl, refl, λ w sets q before outcome a. a, λ i h. absurd (omega arith), refl)

pub overflow_add-level : goal.overflow_add-level
overflow_add-level c = omega arith

pub overflow_cast-level : goal.overflow_cast-level
overflow_cast-level c = omega arith

pub read_names-p-requires : goal.read_names-p-requires
read_names-p-requires c = c.loop-counts.invariant.0

pub overflow_sub-n : goal.overflow_sub-n
overflow_sub-n c = c.read_names-p.ensures.counted

pub next_is-requires : goal.next_is-requires
next_is-requires c = c.read_names-p.ensures.ready.bounds.rows

-- the names of a level, from the loop's beginning on
named : (c : After-read_names-p) (w : Where) (sets : List ℕ) → set_of w ≡ c.args.set
    → PassesWith (at_stops today c.args.stops) c.args.count c.args.tokens.now (header w (c.opened-p.result.names + 1) [] 0 0)
    (Unvalued (c.opened-p.result.names + 1)) (going c.opened-p.result)
    (four_tables sets c.args.names.now c.args.packets.now c.args.values.now)
    (header w (c.opened-p.result.names + 1) (outers c.loop-counts.level c.loop-counts.counts) (c.read_names-p.result.names - c.loop-counts.p.names) 0)
    (Unvalued (c.opened-p.result.names + 1)) (going c.read_names-p.result) (four_tables sets c.read_names-p.new.names c.loop-counts.packets c.loop-counts.values)
named c w sets q before outcome a =
    let l = c.loop-counts in
    c.read_names-p.ensures.goes _ w _ _ sets _ _ q (omega (arith, outers-length l.counts l.level 0 l.invariant.3 l.invariant.2)) before outcome
    (l.invariant.8 w sets q before outcome a)

pub returns-then-n-eq0 : goal.returns-then-n-eq0
returns-then-n-eq0 c =
    let level = c.read_names-p in
    record {
      bounds = omega (arith, level.ensures.ready, c.stop.ensures);
      further = omega (arith, c.opened-p.ensures, c.loop-counts.invariant.1, level.ensures.further, c.stop.ensures);
      goes = λ w sets q before outcome a.
          refused _ _ _ 8 (omega arith)
          (rw c.if-n-eq0.true at (named (goal.at.returns-then-n-eq0 c).After-read_names-p w sets q before outcome (over-loop _ _ _ a c.requires.ahead.is c.opened-p.ensures)))
          (nameless-refuses _ w _ _ _ level.ensures.last) c.stop.ensures;
    }

pub offset_bounds-counts-level : goal.offset_bounds-counts-level
offset_bounds-counts-level c = omega (arith, c.loop-counts.invariant.2)

pub bounds-counts-level : goal.bounds-counts-level
bounds-counts-level c = omega (arith, c.loop-counts.invariant.2)

pub overflow_add-s : goal.overflow_add-s
overflow_add-s c = omega (arith, c.loop-counts.invariant.2)

pub bounds-counts-0 : goal.bounds-counts-0
bounds-counts-0 c = omega arith

pub read_packets-requires : goal.read_packets-requires
read_packets-requires c =
    let l = c.loop-counts in
    let level = c.read_names-p in record {
      ready = level.ensures.ready;
      no_entry = record { loop = c.next_is.ensures.not c.if-not-next_is.true; name = level.ensures.last };
      in_loop = loop-in l.counts l.level _ l.invariant.3 l.invariant.2 _ l.invariant.4 (omega (arith, level.ensures.ready)) l.invariant.9
          (omega (arith, c.if-n-eq0.false)) (omega (arith, c.requires, c.opened-p.ensures));
      outermost = record { level = refl; filled = refl; parent = refl };
      levels_value = name-more l.counts l.level _ l.invariant.3 l.invariant.2 _ level.result.names l.p.names l.invariant.10 refl level.ensures.counted;
    }

pub returns-then-not-next_is : goal.returns-then-not-next_is
returns-then-not-next_is c =
    let l = c.loop-counts in
    let level = c.read_names-p in
    record {
      bounds = c.read_packets.ensures.bounds;
      further = omega (arith, c.opened-p.ensures, l.invariant.1, level.ensures.further, c.read_packets.ensures.further);
      goes = λ w sets q before outcome a.
          c.read_packets.ensures.goes w _ _ sets _
          (header-in l.counts l.level (level.result.names - l.p.names) l.invariant.3 l.invariant.2 _ (omega (arith, c.if-n-eq0.false))) before outcome
          (named (goal.at.returns-then-not-next_is c).After-read_names-p w sets q before outcome (over-loop _ _ _ a c.requires.ahead.is c.opened-p.ensures));
    }

pub overflow_add-level-in-loop-counts : goal.overflow_add-level-in-loop-counts
overflow_add-level-in-loop-counts c = omega (arith, c.loop-counts.invariant.2)

pub returns-then-level-eq-LEVELS : goal.returns-then-level-eq-LEVELS
returns-then-level-eq-LEVELS c =
    let l = c.loop-counts in
    let level = c.read_names-p in
    record {
      bounds = omega (arith, level.ensures.ready, c.stop-then-level-eq-LEVELS.ensures);
      further = omega (arith, c.opened-p.ensures, l.invariant.1, level.ensures.further, c.stop-then-level-eq-LEVELS.ensures);
      goes = λ w sets q before outcome a.
          refused _ _ _ 11 (omega arith) (named (goal.at.returns-then-level-eq-LEVELS c).After-read_names-p w sets q before outcome (over-loop _ _ _ a c.requires.ahead.is c.opened-p.ensures))
          (deepest-refuses _ w _ _ (level.result.names - l.p.names) _ (omega (arith, c.if-n-eq0.false))
          (omega (arith, outers-length l.counts l.level 0 l.invariant.3 l.invariant.2, c.if-level-eq-LEVELS.true)) (c.next_is.ensures.is c.if-not-next_is.false).is)
          c.stop-then-level-eq-LEVELS.ensures;
    }

pub passed-p-requires : goal.passed-p-requires
passed-p-requires c = omega (arith, c.read_names-p.ensures.ready)

pub overflow_add-level-in-loop-counts-2 : goal.overflow_add-level-in-loop-counts-2
overflow_add-level-in-loop-counts-2 c = omega (arith, c.loop-counts.invariant.2)

pub loop-counts-smaller : goal.loop-counts-smaller
loop-counts-smaller c = omega (arith, c.loop-counts.invariant.2, c.if-level-eq-LEVELS.false)

pub loop-counts-preserved : goal.loop-counts-preserved
loop-counts-preserved c =
    let l = c.loop-counts in
    let level = c.read_names-p in
    let v = c.passed-p.ensures in
    let n : ℕ = level.result.names - l.p.names in
    let e = c.next_is.ensures.is c.if-not-next_is.false in (
      omega (arith, level.ensures.ready, v, e.token),
      omega (arith, l.invariant.1, level.ensures.further, v),
      omega (arith, l.invariant.2, c.if-level-eq-LEVELS.false),
      length-set l.counts l.level n ∙ l.invariant.3,
      few-more l.counts l.level n l.invariant.3 l.invariant.2 l.invariant.4 (omega (arith, level.ensures.ready)),
      level.auto.names ∙ l.invariant.5,
      l.invariant.6,
      l.invariant.7,
      λ w sets q before outcome a.
          rw (outers-more l.counts l.level n l.invariant.3 l.invariant.2)
          (over-level _ _ _ (named (goal.at.loop-counts-preserved c).After-read_names-p w sets q before outcome a) e.is (omega (arith, c.if-n-eq0.false))
          (omega (arith, outers-length l.counts l.level 0 l.invariant.3 l.invariant.2, c.if-level-eq-LEVELS.false, l.invariant.2)) v),
      λ i h. named_more l.counts l.level n l.invariant.3 l.invariant.2 l.invariant.9 (omega (arith, c.if-n-eq0.false)) i (omega (arith, h)),
      name-more l.counts l.level n l.invariant.3 l.invariant.2 _ level.result.names l.p.names l.invariant.10 refl level.ensures.counted ∙ omega (arith, v.names),
    )
