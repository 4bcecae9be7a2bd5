-- The demands on the library, whole: each is the product of its sentences, which the crates below state. Believed; proofs/Demands.antt proves them. What is said of reading for all usable
-- rules is said of the library in each layout and of old files, since today's rules are usable, those of 1991 and those with header stops.
use Rattle.std.specs.Prelude.{◌≡◌, true, false}
use Rattle.star_text.specs.Demands.{CompareEqual, ComparePairs, CompareStops}
use Rattle.star_lex.specs.Rules.{today, rules1991, old_headers, layout_rules, old_bench}
use Rattle.star_lex.specs.Demands.{NoPairAsBefore, WindowsSplits}
use Rattle.star_read.specs.Demands.{Usable, AcceptedExactly, OneReading, RowsOfReading, PlaceOfRefusal, RefusalNumber, NumbersExclude, GlobalNumber, SaveNumber, ReadingSettled, OneOutcome, ReadAnswers, ByLayout, WindowsReads, OldFilesReadAsBefore, OldBenchRefuses, OldBenchSameOrFour, SameOrSixteen}
use Rattle.star_find.specs.Demands.{LookupByName, LookupBlock, LookupFrame, LookupsAnswer}
use Rattle.star_value.specs.Demands.{ValuesInOrder, Column, SpanPart, ValuesAnswer}
use Rattle.star_number.specs.Demands.{NumberExact, NumberPieces, WholeExact, PowerExact, RoundedOnce, FloatsFinite, NumbersKnown}
use Rattle.star_value_number.specs.Demands.{NumbersInOrder, NumbersAnswer}
use Rattle.star_write.specs.Demands.{RoundTrip, WritesAgain, WriteAnswers, StopsDropped, DroppedWritesAgain, DropAnswers}
use Rattle.star_convert.specs.Demands.{OverAndBack, ConvertedReads, ConvertAnswers}
use Rattle.star_check.specs.Demands.{Fits32, Fits32No, FitsAnswers}
use Rattle.star_index.specs.Demands.{IndexExactly, IndexLookup}
use Rattle.star_build.specs.Known.{IndexKnown}
use Rattle.star_build.specs.Demands.{IndexBuilt, IndexAnswers}

-- for every input of every call the number is 0 or one that the call may give, with its place in range; on a refusal what was lent for writing is 0,
-- and so are counts, length, kind, packet, row and yes; reading, writing, conversion, dropping header stops, the checks and the builder of an index answer 0 only with a reading
abbrev pub Demand1 : Type 0
Demand1 = ReadAnswers × LookupsAnswer × ValuesAnswer × NumbersAnswer × WriteAnswers × ConvertAnswers × DropAnswers × FitsAnswers × IndexAnswers

-- an accepted file gives the rows of its reading; data blocks, frames and values are found in them, each value as that part of the file; the plain form
-- reads back the same, and is written again as the same bytes
abbrev pub Demand2 : Type 0
Demand2 = Usable today × Usable rules1991 × RowsOfReading × LookupBlock × LookupFrame × ValuesInOrder × SpanPart × RoundTrip × WritesAgain

-- accepted exactly what has a reading; one reading; its tables; the place and number of a refusal, of which one alone holds, and 8 or 10 at `global_` and, where `stop_` closes frames, at `save_`; lookup by name; and, for
-- any file and any tables, what reading gives, of which there is one
abbrev pub Demand3 : Type 0
Demand3 = Usable today × Usable rules1991 × Usable old_headers × AcceptedExactly × OneReading × RowsOfReading × PlaceOfRefusal × RefusalNumber × NumbersExclude × GlobalNumber × SaveNumber × LookupByName × ReadingSettled
    × OneOutcome

-- specification 17: a value is a number exactly when its content is pieces of one, in one way, and is theirs; the floats of digits and powers of ten are without loss, so
-- that a number in range is rounded once, and none is infinite; and after reading the numbers of a name are those of its values in file order
abbrev pub Numbers : Type 0
Numbers = NumberExact × NumberPieces × WholeExact × PowerExact × RoundedOnce × FloatsFinite × NumbersKnown × NumbersInOrder

-- specification 14.10: today's rules have 13, 10 as one line end; a file in which no 13 is directly followed by 10 splits as it did when each of 10, 12 and 13 was one by
-- itself; and with 13, 10 for each 10 it splits into the same kinds and contents but for the line ends within text fields and, once accepted, is accepted within the size
-- limit and with room, with the same rows of tables 2 to 5
abbrev pub LineEnds : Type 0
LineEnds = (today.pairs ≡ true) × NoPairAsBefore × WindowsSplits × WindowsReads

-- specification 5.4 and 14.11: the comparison of names and codes is equality of the bytes; it counts no pair where the lengths differ, else the pairs up to and including the first that
-- differs, or all, and so no more than there are bytes
abbrev pub Comparisons : Type 0
Comparisons = CompareEqual × ComparePairs × CompareStops

-- specification 14.12 and 18: names and codes have at most 75 bytes, and 32 at a bench with the earlier limit; what a lower limit accepts is accepted with the same tokens and rows; an
-- accepted file with a longer name or code is refusal 4 there, at the first such, and for any file and any tables the lower limit gives the same outcome or refusal 4; and the check
-- says yes exactly when such a bench accepts the file
abbrev pub LongerNames : Type 0
LongerNames = (today.longest ≡ 75) × (old_bench.longest ≡ 32) × OldFilesReadAsBefore × OldBenchRefuses × OldBenchSameOrFour × Fits32 × Fits32No

-- specification 7.5 and 14.13: in the tables of an accepted file the links from the first value row of a name row on lead through each of its value rows once, in file order, and through
-- nothing else
abbrev pub Columns : Type 0
Columns = Column

-- specification 14.14 and 19: the check accepts exactly the indexes of what is read; with one of them lookup through it gives the plain lookup's answer; what is built is one, and it is built exactly
-- where there are more slots than names; and the known hashes and indexes
abbrev pub Indexes : Type 0
Indexes = IndexExactly × IndexLookup × IndexBuilt × IndexKnown

-- specification 14.15 and 20: layout 0 is today's and 1 that of 1991, in which a frame is closed by `stop_` and all else is as today; what conversion writes is accepted in the other layout with the same tree, of
-- which it is the yield there; and converted back it is the file's own plain form
abbrev pub Layouts : Type 0
Layouts = (layout_rules 0 ≡ today) × (layout_rules 1 ≡ rules1991) × (today.stop_closes ≡ false) × (rules1991.stop_closes ≡ true) × ByLayout × ConvertedReads × OverAndBack

-- specification 4.7, 14.16 and 21: loops have no header stops, in either layout, but in old files; without them reading gives what it gives with them, or 16; and what is written of an old file
-- without its header stops is accepted by today's rules, with the old tree but for them and the same contents in the same order, and is its own plain form
abbrev pub HeaderStops : Type 0
HeaderStops = (today.header_stops ≡ false) × (rules1991.header_stops ≡ false) × (old_headers.header_stops ≡ true) × SameOrSixteen × StopsDropped × DroppedWritesAgain
