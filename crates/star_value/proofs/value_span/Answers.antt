-- `value_span` meets its contract: the words are those of the value that was located.
use Rattle.std.proofs.Common.{sym}
use Rattle.star_value.specs.Values.{value_span, span_at}
use Rattle.star_value.proofs.value_span.Goals as goal

pub returns : goal.returns
unfolding value_span span_at
returns c = rw (sym c.token_row-token.ensures, sym c.word.ensures, sym c.word-2.ensures)
