-- `drop_header_stops` meets its contract: what is read is written by `finish`.
use mathlib.Core.Path.{sym}
use Rattle.star_read.specs.Read.{as_old}
use Rattle.star_read.specs.Answer.{held, sizes}
use Rattle.star_read.proofs.Accepted.{read-holds-via}
use Rattle.star_read.proofs.Lent.{same-sizes}
use Rattle.star_write.specs.Write.{drop_of}
use Rattle.star_write.proofs.Outcomes.{leaving-at}
use Rattle.star_write.proofs.drop_header_stops.Goals as goal

pub finish-requires : goal.finish-requires
finish-requires c =
    let read = c.read_old-read.ensures.reads in
    read-holds-via c.args.file.now (sizes (held c.args.tables.now)) as_old _ read.answer _ read.leaves

pub returns-clause-writes : goal.returns-clause-writes
unfolding drop_of
returns-clause-writes c =
    let read = c.read_old-read.ensures in
    let same = sym (same-sizes _ _ read.same) in
    leaving-at same (c.finish.ensures.writes as_old (sizes (held c.args.tables.now)) read.reads.answer same read.reads.leaves)
