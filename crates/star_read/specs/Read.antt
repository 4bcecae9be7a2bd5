-- What reading a file gives: specification 8, in a layout 20, and with header stops 21. For contracts, of `read`, `read_layout`, `read_old` and of what reads first. What is accepted, with which rows, and where a file is
-- refused is said without a machine by specs/Demands.antt; of `read_in` by `ByLayout`.
use Rattle.std.specs.Prelude.{cond, List, [], ◌∷◌, map, ℕ, zero, suc, leb, ltb, length}
use Rattle.star_text.specs.Outcome.{Outcome, refused, accepted, then, need}
use Rattle.star_rows.specs.Rows.{has_room}
use Rattle.star_rows.specs.Widths.{set_width, name_width, packet_width, value_width}
use Rattle.star_lex.specs.Rules.{Rules, today, old_headers, layout_rules}
use Rattle.star_lex.specs.Tokens.{Token, Placed}
use Rattle.star_lex.specs.Answer.{tokens_in_by}
use Rattle.star_grammar.specs.Tables.{Rows, no_rows}
use Rattle.star_grammar.specs.Machine.{Run, bad, good, run, start}
use Rattle.star_grammar.specs.Layout.{today_row}
use Rattle.star_unique.specs.Repeat.{nothing, first_repeat}

-- what is accepted: the tokens, and the rows of tables 2 to 5
abbrev pub FileRows : Type 0
FileRows = List Placed × Rows

abbrev pub ReadOutcome : Type 0
ReadOutcome = Outcome FileRows

-- the words of the five tables
pub record Sizes : Type 0 where
  pub tokens : ℕ
  pub sets : ℕ
  pub names : ℕ
  pub packets : ℕ
  pub values : ℕ

abbrev pub tokens_only : List Placed → List Token
tokens_only ps = map (λ p. p.token) ps

-- the first byte of the token that has so many before it, or the file's length
unfoldable pub token_place : (size : ℕ) → List Placed → ℕ → ℕ
token_place size [] n = size
token_place size (p ∷ ps) zero = p.at
token_place size (p ∷ ps) (suc n) = token_place size ps n

-- the grammar, the first bad token deciding: a name or code that is taken counts where it comes before the token that is out of place
unfoldable pub decide : (size : ℕ) → List Placed → (taken : ℕ) → Run → ReadOutcome
decide size ps taken (bad n i) = cond (ltb taken i) (refused 9 (token_place size ps taken)) (refused n (token_place size ps i))
decide size ps taken (good rows) = cond (ltb taken (length ps)) (refused 9 (token_place size ps taken)) (accepted (ps, rows))

-- by the tokens as today's layout has them
unfoldable pub grammar_of : (rules : Rules) → (size : ℕ) → List Placed → ReadOutcome
grammar_of rules size ps = decide size ps (first_repeat nothing (today_row rules (tokens_only ps))) (run rules start (today_row rules (tokens_only ps)) no_rows)

-- 7 for tables 2 to 5 by their numbers of rows, the lowest table first
unfoldable pub room_for : {A : Type 0} → (sets names packets values : ℕ) → Sizes → Outcome A → Outcome A
room_for s n p v words o =
    need (has_room s set_width words.sets) 7 2
    (need (has_room n name_width words.names) 7 3
    (need (has_room p packet_width words.packets) 7 4 (need (has_room v value_width words.values) 7 5 o)))

unfoldable pub rows_fit : Sizes → FileRows → ReadOutcome
rows_fit words (ps, rows) =
    room_for (length rows.sets) (length rows.names) (length rows.packets) (length rows.values) words (accepted (ps, rows))

-- the refusals of the tokens, then those of the grammar, then those of the room
unfoldable pub read_by : (rules : Rules) → List ℕ → Sizes → ReadOutcome
read_by rules file words = then (tokens_in_by rules file words.tokens) (λ ps. then (grammar_of rules (length file) ps) (rows_fit words))

-- in a layout, 0 or 1: any other number is 14, before all else
unfoldable pub read_in : (layout : ℕ) → List ℕ → Sizes → ReadOutcome
read_in layout file words = need (leb layout 1) 14 0 (read_by (layout_rules layout) file words)

-- an old file, whose loops may have header stops
abbrev pub read_old : List ℕ → Sizes → ReadOutcome
read_old file words = read_by old_headers file words

-- how a call reads a file: in a layout, or as an old file
pub data Way : Type 0 where
  in_layout : (layout : ℕ) → Way
  as_old : Way

-- the rules of a way, and reading in it
abbrev pub way_rules : Way → Rules
way_rules (in_layout layout) = layout_rules layout
way_rules as_old = old_headers

abbrev pub read_via : Way → List ℕ → Sizes → ReadOutcome
read_via (in_layout layout) file words = read_in layout file words
read_via as_old file words = read_old file words

-- by today's rules
abbrev pub read_of : List ℕ → Sizes → ReadOutcome
read_of file words = read_by today file words
