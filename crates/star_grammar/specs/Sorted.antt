-- What the sorts of the code stand for. For contracts of star_grammar's, star_frames' and star_parse's functions.
use Rattle.star_grammar.specs.Machine as Machine
use Rattle.star_grammar.specs.declared.sort.Sort.{Sort}
use Rattle.star_grammar.specs.declared.sort.Sort.TheVariants.{Block, Frame, FrameEnd, Loop, Stop, Name, Value, Global}

abbrev pub meant : Sort → Machine.Sort
meant Block = Machine.block
meant Frame = Machine.frame
meant FrameEnd = Machine.frame_end
meant Loop = Machine.loop
meant Stop = Machine.stop
meant Name = Machine.name
meant Value = Machine.value
meant Global = Machine.global
