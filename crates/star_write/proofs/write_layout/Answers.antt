-- `write_layout` meets its contract: what is read is written by `finish`.
use mathlib.Core.Path.{sym}
use Rattle.star_read.specs.Read.{in_layout}
use Rattle.star_read.specs.Answer.{held, sizes}
use Rattle.star_read.proofs.Accepted.{read-holds-via}
use Rattle.star_read.proofs.Lent.{same-sizes}
use Rattle.star_write.specs.Write.{write_in}
use Rattle.star_write.proofs.Outcomes.{leaving-at}
use Rattle.star_write.proofs.write_layout.Goals as goal

pub finish-requires : goal.finish-requires
finish-requires c =
    let read = c.read_layout-read.ensures.reads in
    read-holds-via c.args.file.now (sizes (held c.args.tables.now)) (in_layout c.args.layout) _ read.answer _ read.leaves

pub returns-clause-writes : goal.returns-clause-writes
unfolding write_in
returns-clause-writes c =
    let read = c.read_layout-read.ensures in
    let same = sym (same-sizes _ _ read.same) in
    leaving-at same (c.finish.ensures.writes (in_layout c.args.layout) (sizes (held c.args.tables.now)) read.reads.answer same read.reads.leaves)
