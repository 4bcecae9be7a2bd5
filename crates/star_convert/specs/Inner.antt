-- Table 1 while a file is converted: the kinds of today's layout, and the words that close frames. For contracts of star_convert's inner functions.
use Rattle.std.specs.Prelude.{◌≡◌, cond, List, [], ℕ, ◌-◌, eqb}
use Rattle.star_lex.specs.Rules.{layout_rules}
use Rattle.star_lex.specs.Holds.{Holds}
use Rattle.star_grammar.specs.Tree.{frame_close}
use Rattle.star_frames.specs.Frames.{as_today}

-- what closes frames in the other layout, over a token that closes one: kind 3 of today's layout
unfoldable pub other_close : (layout kind : ℕ) → List ℕ
other_close layout kind = cond (eqb kind 3) (frame_close (layout_rules (1 - layout))).content []

-- the words are table 1 of a file, with the kinds of today's layout
pub record HoldsToday (layout : ℕ) (file words : List ℕ) (count : ℕ) : Type 0 where
  pub table : List ℕ
  pub holds : Holds file table count
  pub today : words ≡ as_today layout count table
