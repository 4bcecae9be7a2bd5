-- The next line end from a place of a file on, seen from inside a text field. For the contract of `line_end` of star_scan.
use Rattle.std.specs.Prelude.{◌≡◌, true, List, ℕ, ◌≤◌, ◌<◌, length, get_or, drop}
use Rattle.star_text.specs.Bytes.{is_terminate}
use Rattle.star_lex.specs.Rules.{today}
use Rattle.star_lex.specs.Split.{field}
use Rattle.star_lex.specs.Answer.{end_of}

-- a terminate, or the end; a text field closes from there on where it closes from the place on
pub record LineEnd (file : List ℕ) (from at : ℕ) : Type 0 where
  pub further : from ≤ at
  pub ends : at < length file → is_terminate (get_or file at 0) ≡ true
  pub closes : end_of (length file) at (field today (drop at file)) ≡ end_of (length file) from (field today (drop from file))
