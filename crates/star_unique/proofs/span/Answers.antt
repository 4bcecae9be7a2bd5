-- `span` meets its contract: the spans are those of table 1.
use Prim.Native.Nat.{◌+◌, ◌*◌}
use native.Mathlib.Omega.{arith}
use Rattle.star_unique.proofs.Marks.{Span, spans-at}
use Rattle.star_unique.proofs.span.Goals.{Start}
use Rattle.star_unique.proofs.span.Goals as goal

held : (c : Start) → Span c.args.file.now c.args.tokens.now c.args.n
held c = spans-at _ _ _ c.requires.spans _ c.requires.n_lt_count

pub overflow_mul-start : goal.overflow_mul-start
overflow_mul-start c = omega (arith, (held c).room)

pub overflow_add-start : goal.overflow_add-start
overflow_add-start c = omega (arith, (held c).room)

pub offset_bounds-tokens-n : goal.offset_bounds-tokens-n
offset_bounds-tokens-n c = omega (arith, (held c).room)

pub bounds-tokens-n : goal.bounds-tokens-n
bounds-tokens-n c = omega (arith, (held (goal.at.bounds-tokens-n c).Start).room)

pub overflow_cast-start : goal.overflow_cast-start
overflow_cast-start c = omega (arith, c.shared_slice_known-1.given (c.args.n * 3 + 1))

pub overflow_mul-end : goal.overflow_mul-end
overflow_mul-end c = omega (arith, (held (goal.at.overflow_mul-end c).Start).room)

pub overflow_add-end : goal.overflow_add-end
overflow_add-end c = omega (arith, (held (goal.at.overflow_add-end c).Start).room)

pub offset_bounds-tokens-n-2 : goal.offset_bounds-tokens-n-2
offset_bounds-tokens-n-2 c = omega (arith, (held (goal.at.offset_bounds-tokens-n-2 c).Start).room)

pub bounds-tokens-n-2 : goal.bounds-tokens-n-2
bounds-tokens-n-2 c = omega (arith, (held (goal.at.bounds-tokens-n-2 c).Start).room)

pub overflow_cast-end : goal.overflow_cast-end
overflow_cast-end c = omega (arith, c.shared_slice_known-2-1.given (c.args.n * 3 + 2))

pub slice_bounds-result-count : goal.slice_bounds-result-count
slice_bounds-result-count c = (held (goal.at.slice_bounds-result-count c).Start).ordered

pub slice_bounds-result-start : goal.slice_bounds-result-start
slice_bounds-result-start c = (held (goal.at.slice_bounds-result-start c).Start).ordered

pub slice_bounds-result-end : goal.slice_bounds-result-end
slice_bounds-result-end c = (held (goal.at.slice_bounds-result-end c).Start).within

pub returns : goal.returns
returns c = (held (goal.at.returns c).Start).content
