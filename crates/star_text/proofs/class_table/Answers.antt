-- `class_table` meets its contract: each entry of its array is the class of its byte.
use Rattle.star_text.specs.Bytes.{is_blank, is_terminate, is_printable}
use Rattle.star_text.specs.Classes.{class_of}
use Rattle.star_text.proofs.Classes.{below, right, classes-right}
use Rattle.star_text.proofs.class_table.Goals as goal

pub returns : goal.returns
unfolding below right class_of is_blank is_terminate is_printable
returns c = classes-right _ tt
