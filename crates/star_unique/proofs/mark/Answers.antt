-- `mark` meets its contract: the tokens passed repeat nothing, and are marked.
use mathlib.Core.Path.{◌≡◌, refl, sym, ◌∙◌}
use native.Mathlib.Omega.{arith}
use Rattle.star_lex.proofs.Held.{count_small}
use Rattle.star_unique.proofs.Marking.{between_start, room-here, between-visit, between-taken, between-new, between-value, between-end}
use Rattle.star_unique.proofs.mark.Goals as goal

pub loop-n-init : goal.loop-n-init
loop-n-init c = (between_start _ _ _ _ c.requires.plain c.requires.heads, refl, refl)

pub overflow_mul-kind : goal.overflow_mul-kind
overflow_mul-kind c = omega (arith, room-here _ _ _ _ _ c.loop-n.invariant.0.marks (omega arith), count_small _ _ _ c.requires.plain.spans.table)

pub offset_bounds-tokens-n : goal.offset_bounds-tokens-n
offset_bounds-tokens-n c = omega (arith, room-here _ _ _ _ _ c.loop-n.invariant.0.marks (omega arith), count_small _ _ _ c.requires.plain.spans.table)

pub bounds-tokens-n : goal.bounds-tokens-n
bounds-tokens-n c = omega (arith, room-here _ _ _ _ _ c.loop-n.invariant.0.marks (omega arith), count_small _ _ _ c.requires.plain.spans.table)

pub is_value-requires : goal.is_value-requires
is_value-requires c = tt

pub loop-n-preserved-then-is_value : goal.loop-n-preserved-then-is_value
loop-n-preserved-then-is_value c =
    let at = c.loop-n in
    (between-value _ _ _ _ _ _ _ at.invariant.0 (omega arith) (sym c.is_value.ensures ∙ c.if-is_value.true), at.invariant.1, at.invariant.2)

pub visit-requires : goal.visit-requires
visit-requires c =
    let at = between-visit _ _ _ _ _ _ _ c.loop-n.invariant.0 in
    record { marked = at.0; heads = at.1; n_lt_count = omega arith; scope_value = at.2 }

pub returns-then-visit : goal.returns-then-visit
returns-then-visit c =
    let at = c.loop-n in
    let v = between-taken _ _ _ _ _ _ _ at.invariant.0 (omega arith) _ _ _ c.visit.ensures c.if-visit.true in
    record { value = v.0; spans = v.1; tokens_after = v.2 }

pub loop-n-preserved : goal.loop-n-preserved
loop-n-preserved c =
    let at = c.loop-n in
    let visit = c.visit in (
      rw c.pass-scope.ensures (between-new _ _ _ _ _ _ _ at.invariant.0 (omega arith) _ _ _ visit.ensures c.if-visit.false),
      visit.auto.tokens ∙ at.invariant.1,
      visit.auto.heads ∙ at.invariant.2,
    )

pub returns : goal.returns
returns c =
    let at = c.loop-n.invariant.0 in
    let end : c.loop-n.n ≡ c.args.count = omega arith in
    record { value = rw end at (between-end _ _ _ _ _ _ _ at (omega arith)); spans = at.marks.spans; tokens_after = rw end at at.back }
