-- `content` meets its contract: a row that has a content spans it.
use mathlib.Core.Path.{◌≡◌, sym, ◌∙◌, ap}
use mathlib.Core.Bool.{true}
use Prim.Native.Nat.{◌+◌, ◌*◌}
use native.Mathlib.Omega.{arith}
use borrow.Author.Tests.{not-false}
use Rattle.star_rows.specs.Widths.{token_width}
use Rattle.star_lex.specs.Answer.{is_some}
use Rattle.star_lex.specs.Table.{content_in, or_empty}
use Rattle.star_lex.proofs.Table.{Spans, content-inside, content-whole, start-some, start_none, empty-none}
use Rattle.star_lex.proofs.content.Goals.{Else-not-has_content}
use Rattle.star_lex.proofs.content.Goals as goal

has : (c : Else-not-has_content) → is_some (content_in c.args.file.now c.args.tokens.now c.args.n) ≡ true
has c = sym c.has_content.ensures ∙ not-false _ c.if-not-has_content.false-raw

inside : (c : Else-not-has_content) → Spans c.args.file.now c.args.tokens.now c.args.n
inside c = content-inside _ _ _ (has c)

pub returns-then-not-has_content : goal.returns-then-not-has_content
returns-then-not-has_content c = let z = sym c.has_content.ensures ∙ c.if-not-has_content.true in record { result_value = sym (empty-none _ z); ref_ptr_value = rw (start_none _ _ _ z) }

pub overflow_mul-start : goal.overflow_mul-start
overflow_mul-start c = omega (arith, (inside c).row)

pub overflow_add-start : goal.overflow_add-start
overflow_add-start c = omega (arith, (inside c).row)

pub offset_bounds-tokens-n : goal.offset_bounds-tokens-n
offset_bounds-tokens-n c = omega (arith, (inside c).row)

pub bounds-tokens-n : goal.bounds-tokens-n
bounds-tokens-n c = omega (arith, (inside (goal.at.bounds-tokens-n c).Else-not-has_content).row)

pub overflow_cast-start : goal.overflow_cast-start
overflow_cast-start c = omega (arith, c.shared_slice_known-3-1.given (c.args.n * token_width + 1))

pub overflow_mul-end : goal.overflow_mul-end
overflow_mul-end c = omega (arith, (inside (goal.at.overflow_mul-end c).Else-not-has_content).row)

pub overflow_add-end : goal.overflow_add-end
overflow_add-end c = omega (arith, (inside (goal.at.overflow_add-end c).Else-not-has_content).row)

pub offset_bounds-tokens-n-2 : goal.offset_bounds-tokens-n-2
offset_bounds-tokens-n-2 c = omega (arith, (inside (goal.at.offset_bounds-tokens-n-2 c).Else-not-has_content).row)

pub bounds-tokens-n-2 : goal.bounds-tokens-n-2
bounds-tokens-n-2 c = omega (arith, (inside (goal.at.bounds-tokens-n-2 c).Else-not-has_content).row)

pub overflow_cast-end : goal.overflow_cast-end
overflow_cast-end c = omega (arith, c.shared_slice_known-4-1.given (c.args.n * token_width + 2))

pub slice_bounds-result-count-2 : goal.slice_bounds-result-count-2
slice_bounds-result-count-2 c = (inside (goal.at.slice_bounds-result-count-2 c).Else-not-has_content).ordered

pub slice_bounds-result-start-2 : goal.slice_bounds-result-start-2
slice_bounds-result-start-2 c = (inside (goal.at.slice_bounds-result-start-2 c).Else-not-has_content).ordered

pub slice_bounds-result-end-2 : goal.slice_bounds-result-end-2
slice_bounds-result-end-2 c = (inside (goal.at.slice_bounds-result-end-2 c).Else-not-has_content).within

pub returns : goal.returns
unfolding or_empty
returns c = let z = has (goal.at.returns c).Else-not-has_content in record { result_value = sym (ap or_empty (content-whole _ _ _ z)); ref_ptr_value = rw (start-some _ _ _ z) }
