-- How far a read has come, with its refusal: what the answers of star_parse's inner functions stand for, and the numbers of its enums. For their contracts.
use Rattle.std.specs.Prelude.{ℕ, Result, Ok, Err}
use Rattle.star_text.specs.Refusal.{number}
use Rattle.star_grammar.specs.declared.sort.Sort.{Sort}
use Rattle.star_grammar.specs.declared.sort.Sort.TheVariants.{Block, Frame, FrameEnd, Loop, Stop, Name, Value, Global}
use Rattle.star_parse.specs.declared.Stopped.{Stopped}
use Rattle.star_parse.specs.declared.progress.Progress.{Progress as Passed}
use Rattle.star_parse.specs.declared.progress.SetKind.{SetKind}
use Rattle.star_parse.specs.declared.progress.SetKind.TheVariants.{DataBlock, SaveFrame, GlobalBlock}

-- the refusal, 0 while there is none; the tokens and loops passed; the rows so far
pub record Progress : Type 0 where
  pub refusal : ℕ
  pub at : ℕ
  pub loops : ℕ
  pub sets : ℕ
  pub names : ℕ
  pub packets : ℕ
  pub values : ℕ

-- a read that goes on
abbrev pub going : Passed → Progress
going p = record { refusal = 0; at = p.at; loops = p.loops; sets = p.sets; names = p.names; packets = p.packets; values = p.values }

-- one that goes on, or was refused: then no row counts
abbrev pub reached : Result Passed Stopped → Progress
reached (Ok p) = going p
reached (Err s) = record { refusal = number s.reason; at = s.tokens; loops = 0; sets = 0; names = 0; packets = 0; values = 0 }

-- the number of a sort: its kind, 7 for values
abbrev pub coded : Sort → ℕ
coded Block = 1
coded Frame = 2
coded FrameEnd = 3
coded Loop = 4
coded Stop = 5
coded Name = 6
coded Value = 7
coded Global = 12

-- and of a kind of sets
abbrev pub kind_number : SetKind → ℕ
kind_number DataBlock = 1
kind_number SaveFrame = 2
kind_number GlobalBlock = 3
