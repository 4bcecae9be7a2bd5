-- `value_part` meets its contract: the part is that of the value that was located, or empty, as row 0 has none.
use Rattle.std.proofs.Common.{refl, ◌∙◌, ap}
use Rattle.star_lex.specs.Table.{further}
use Rattle.star_value.specs.Values.{value_part, value_span, span_at}
use Rattle.star_value.proofs.Locating.{located-start}
use Rattle.star_value.proofs.value_part.Goals as goal

pub returns : goal.returns
unfolding value_part value_span span_at
returns c = record {
  result_value = rw (c.contents.ensures, c.token_row.ensures) at c.part.ensures.result_value;
  ref_ptr_value = (rw (c.contents.ensures, c.token_row.ensures) at c.part.ensures.ref_ptr_value) ∙ ap (further _) (located-start _ _ _ _ _ refl);
}
