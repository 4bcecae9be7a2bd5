-- The rules that requests vary, in one record. Believed. The split (specs/Split.antt), the plain form, the trees, machine and theorems of star_grammar are for every such
-- record; reading has today's or, in the layout of 1991, `rules1991`, which differ in what closes a frame alone.
use Rattle.std.specs.Prelude.{Bool, true, false, cond, ℕ, eqb}

pub record Rules : Type 0 where
  -- 13 directly followed by 10 is one line end: specification 2.2
  pub pairs : Bool
  -- names and codes have at most so many bytes: 3.12
  pub longest : ℕ
  -- loops have at most so many levels: 4.13
  pub levels : ℕ
  -- `stop_` may stand after the names of a loop's header, as in old files: 4.7
  pub header_stops : Bool
  -- a frame is closed by `stop_`, as in the 1991 layout, and not by `save_`: 4.3
  pub stop_closes : Bool

abbrev pub today : Rules
today = record { pairs = true; longest = 75; levels = 8; header_stops = false; stop_closes = false }

-- today's rules, with frames as in the 1991 layout
abbrev pub rules1991 : Rules
rules1991 = record { pairs = today.pairs; longest = today.longest; levels = today.levels; header_stops = today.header_stops; stop_closes = true }

-- the rules of a layout: 1 is that of 1991, 0 today's
unfoldable pub layout_rules : (layout : ℕ) → Rules
layout_rules layout = cond (eqb layout 1) rules1991 today

-- the same rules, with names and codes of at most so many bytes
abbrev pub at_longest : Rules → ℕ → Rules
at_longest rules n = record { pairs = rules.pairs; longest = n; levels = rules.levels; header_stops = rules.header_stops; stop_closes = rules.stop_closes }

-- the same rules, with header stops or without
abbrev pub at_stops : Rules → Bool → Rules
at_stops rules b = record { pairs = rules.pairs; longest = rules.longest; levels = rules.levels; header_stops = b; stop_closes = rules.stop_closes }

-- today's rules for old files, whose loops may have header stops
abbrev pub old_headers : Rules
old_headers = at_stops today true

-- the rules of a bench that has the earlier limit
abbrev pub old_bench : Rules
old_bench = at_longest today 32

-- the same rules, with so many levels
abbrev pub at_levels : Rules → ℕ → Rules
at_levels rules n = record { pairs = rules.pairs; longest = rules.longest; levels = n; header_stops = rules.header_stops; stop_closes = rules.stop_closes }

-- the same rules, with each of 10, 12 and 13 one line end by itself
abbrev pub unpaired : Rules → Rules
unpaired rules = record { pairs = false; longest = rules.longest; levels = rules.levels; header_stops = rules.header_stops; stop_closes = rules.stop_closes }
