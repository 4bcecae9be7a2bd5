-- Values after acceptance: those of a name row are the reading's in file order, and its links lead through them.
use Rattle.star_read.specs.Answer.{read_answer, tables_of}
use Rattle.star_find.proofs.After.{left, counted, lent-left, counts-counted, RowsAfter, reading-in, rows-after}
use Rattle.star_value.specs.Demands.{ValuesInOrder, Column}
use Rattle.star_value.proofs.Values.{chain_left, value_found, value_none}

pub values-in-order : ValuesInOrder
values-in-order way file words ps rows e name low high =
    let k : RowsAfter ps rows _ = rows-after way file words ps rows e (reading-in way file words ps rows e).0 in
    rw (lent-left way file words ps rows e, counts-counted way file words ps rows e)
    (value_found way file words ps rows e k.linked k.inside name low high, value_none way file words ps rows e k.linked k.inside name low high)

pub column : Column
unfolding tables_of read_answer left counted
column way file words ps rows e name =
    let k : RowsAfter ps rows _ = rows-after way file words ps rows e (reading-in way file words ps rows e).0 in
    rw e (chain_left file words ps rows k.linked name)
