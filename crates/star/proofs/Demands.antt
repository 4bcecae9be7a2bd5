-- The demands hold: each sentence is proved by the crate that states it.
use mathlib.Core.Path.{refl}
use Rattle.star_text.proofs.Comparing.{compare-equal, compare-pairs, compare-stops}
use Rattle.star_lex.proofs.NoPair.{no-pair-as-before}
use Rattle.star_lex.proofs.Windows.{windows-splits}
use Rattle.star_lex.specs.Rules.{layout_rules}
use Rattle.star_read.proofs.InLayout.{by_layout}
use Rattle.star_read.proofs.Usable.{today-usable, usable-1991, old-usable}
use Rattle.star_read.proofs.Sixteen.{same-or-sixteen}
use Rattle.star_read.proofs.Demand1.{read-answers}
use Rattle.star_read.proofs.Demand3.{accepted-exactly, one-reading, rows-of-reading, place-of-refusal}
use Rattle.star_read.proofs.RefusalNumber.{refusal-number, numbers-exclude, global-number, save-number}
use Rattle.star_read.proofs.Settled.{reading-settled, one-outcome}
use Rattle.star_read.proofs.Windows.{windows-reads}
use Rattle.star_read.proofs.Longest.{old-files-read-as-before, old-bench-refuses, old-bench-same-or-four}
use Rattle.star_find.proofs.Demand1.{lookups-answer}
use Rattle.star_find.proofs.Lookup.{lookup-by-name, lookup-block, lookup-frame}
use Rattle.star_value.proofs.Demand1.{values-answer, span-part}
use Rattle.star_value.proofs.InOrder.{values-in-order, column as links-column}
use Rattle.star_number.proofs.Exactly.{number-exact, number-pieces}
use Rattle.star_number.proofs.Exactness.{whole-exact, power-exact, rounded-once}
use Rattle.star_number.proofs.Finite.{floats-finite}
use Rattle.star_number.proofs.Known.{numbers-known}
use Rattle.star_value_number.proofs.InOrder.{numbers-in-order, numbers-answer}
use Rattle.star_write.proofs.Demand1.{write-answers, drop-answers}
use Rattle.star_write.proofs.RoundTrip.{round_trip, writes_again}
use Rattle.star_write.proofs.StopsDropped.{stops-dropped, dropped-writes-again}
use Rattle.star_convert.proofs.Demand1.{convert-answers}
use Rattle.star_convert.proofs.OverAndBack.{converted-reads, over-and-back}
use Rattle.star_check.proofs.OldBench.{fits-32, fits-32-no, fits-answers}
use Rattle.star_index.proofs.Exactly.{index-exactly}
use Rattle.star_index.proofs.IndexLookup.{index-lookup}
use Rattle.star_build.proofs.Building.{index-built}
use Rattle.star_build.proofs.Known.{index-known}
use Rattle.star_build.proofs.Answering.{index-answers}
use Rattle.star.specs.Demands.{Demand1, Demand2, Demand3, Numbers, LineEnds, Comparisons, LongerNames, Columns, Indexes, Layouts, HeaderStops}

pub demand-1 : Demand1
demand-1 = (read-answers, lookups-answer, values-answer, numbers-answer, write-answers, convert-answers, drop-answers, fits-answers, index-answers)

pub demand-2 : Demand2
demand-2 = (today-usable, usable-1991, rows-of-reading, lookup-block, lookup-frame, values-in-order, span-part, round_trip, writes_again)

pub demand-3 : Demand3
demand-3 = (
  today-usable,
  usable-1991,
  old-usable,
  accepted-exactly,
  one-reading,
  rows-of-reading,
  place-of-refusal,
  refusal-number,
  numbers-exclude,
  global-number,
  save-number,
  lookup-by-name,
  reading-settled,
  one-outcome,
)

pub numbers : Numbers
numbers = (number-exact, number-pieces, whole-exact, power-exact, rounded-once, floats-finite, numbers-known, numbers-in-order)

pub line-ends : LineEnds
line-ends = (refl, no-pair-as-before, windows-splits, windows-reads)

pub comparisons : Comparisons
comparisons = (compare-equal, compare-pairs, compare-stops)

pub longer-names : LongerNames
longer-names = (refl, refl, old-files-read-as-before, old-bench-refuses, old-bench-same-or-four, fits-32, fits-32-no)

pub column : Columns
column = links-column

pub indexes : Indexes
indexes = (index-exactly, index-lookup, index-built, index-known)

pub layouts : Layouts
unfolding layout_rules
layouts = (refl, refl, refl, refl, by_layout, converted-reads, over-and-back)

pub header-stops : HeaderStops
header-stops = (refl, refl, refl, same-or-sixteen, stops-dropped, dropped-writes-again)
