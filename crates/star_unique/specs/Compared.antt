-- What reading the tokens of a file and comparing its names and codes answers, in a layout. For the contract of `read_tokens`.
use Rattle.std.specs.Prelude.{◌≡◌, List, map, ℕ, length, Result, Ok, Err}
use Rattle.star_text.specs.Outcome.{refusal_of, place_of}
use Rattle.star_lex.specs.Rules.{layout_rules}
use Rattle.star_lex.specs.Split.{Split, placed}
use Rattle.star_lex.specs.Answer.{tokens_in, table_of}
use Rattle.star_grammar.specs.Layout.{today_row}
use Rattle.star_frames.specs.Frames.{as_today}
use Rattle.star_unique.specs.Repeat.{nothing, first_repeat}
use Rattle.star_text.specs.Refusal.{number}
use Rattle.star_text.specs.declared.refusal.Refusal.{Refusal}
use Rattle.star_unique.specs.declared.Compared.{Compared as Counted}

-- refusal and place, both 0 when accepted; the number of tokens; and how many of them stand before the first that is taken
pub record Compared : Type 0 where
  pub refusal : ℕ
  pub place : ℕ
  pub count : ℕ
  pub taken : ℕ

abbrev pub compared : Result Counted Refusal → Compared
compared (Ok c) = record { refusal = 0; place = 0; count = c.count; taken = c.taken }
compared (Err r) = record { refusal = number r.reason; place = r.place; count = 0; taken = 0 }

-- refusal, place and number of tokens; and how many tokens stand before the first that repeats a name or code of its scope
unfoldable pub compared_of : (layout : ℕ) → Split → Compared
compared_of layout s = record {
  refusal = refusal_of s;
  place = place_of s;
  count = length (placed s);
  taken = first_repeat nothing (today_row (layout_rules layout) (map (λ p. p.token) (placed s)));
}

-- the contract of splitting and comparing: the answer, and every word of table 1, with the kinds of today's layout
pub record Compares (layout : ℕ) (file before after : List ℕ) (r : Compared) : Type 0 where
  pub answer : r ≡ compared_of layout (tokens_in file (length before))
  pub table : after ≡ as_today layout (length (placed (tokens_in file (length before)))) (table_of (tokens_in file (length before)) (length before))
