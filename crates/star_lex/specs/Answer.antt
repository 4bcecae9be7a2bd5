-- What the functions of star_lex, star_scan and star_split answer, in terms of the split: refusals 1 and 7 before and after it, and the contract of `read_tokens` (`Splits`). For contracts: theirs and
-- star_unique's; `read_by` begins with `tokens_in_by`.
use Rattle.std.specs.Prelude.{◌≡◌, Bool, true, false, List, ℕ, ◌+◌, leb, length, replicate, Result, Ok, Err}
use Rattle.std.proofs.Math.Option.{Option, none, some}
use Rattle.star_rows.specs.Widths.{token_width}
use Rattle.star_text.specs.Bytes.{most_bytes}
use Rattle.star_rows.specs.Rows.{holding, has_room}
use Rattle.star_lex.specs.Rules.{Rules, today}
use Rattle.star_lex.specs.Tokens.{Placed, opening, token_row}
use Rattle.star_text.specs.Outcome.{refused, accepted, then, need, refusal_of, place_of}
use Rattle.star_lex.specs.Split.{Lexeme, gap, token, faulty, Split, tokens_by, placed}
use Rattle.star_lex.specs.declared.kind.Kind.{Kind as TokenKind}
use Rattle.star_lex.specs.Kinds.{number}
use Rattle.star_text.specs.Refusal.{number as reason_number}
use Rattle.star_text.specs.declared.refusal.Reason.{Reason}
use Rattle.star_text.specs.declared.refusal.Refusal.{Refusal}

-- what splitting a file answers: refusal and place, both 0 when accepted, and the number of tokens
pub record Tokens : Type 0 where
  pub refusal : ℕ
  pub place : ℕ
  pub count : ℕ

-- what stands at a place outside tokens: white space or a comment, with where it ends; a token; or a fault, a refusal
pub data Scanned : Type 0 where
  Gap : (next : ℕ) → Scanned
  Token : (kind start end next : ℕ) → Scanned
  Fault : (refusal : ℕ) → Scanned

-- the kind of a word, or its refusal
pub data Word : Type 0 where
  Kind : (kind : ℕ) → Word
  Ill : (refusal : ℕ) → Word

-- 7 for table 1, of so many words
unfoldable pub tokens_fit : (words : ℕ) → List Placed → Split
tokens_fit words ps = need (has_room (length ps) token_width words) 7 1 (accepted ps)

-- 1, then 2 over the whole file, then the first faulty token of 3 to 6; then 7
unfoldable pub tokens_in_by : (rules : Rules) → List ℕ → (words : ℕ) → Split
tokens_in_by rules file words = need (leb (length file) most_bytes) 1 0 (then (tokens_by rules file) (tokens_fit words))

-- by today's rules
abbrev pub tokens_in : List ℕ → (words : ℕ) → Split
tokens_in file words = tokens_in_by today file words

-- refusal, place and number of tokens
unfoldable pub split_answer : Split → Tokens
split_answer s = record { refusal = refusal_of s; place = place_of s; count = length (placed s) }

-- the number of tokens, or a refusal, as such an answer
abbrev pub tokens_answer : Result ℕ Refusal → Tokens
tokens_answer (Ok n) = record { refusal = 0; place = 0; count = n }
tokens_answer (Err r) = record { refusal = reason_number r.reason; place = r.place; count = 0 }

-- table 1, of so many words
unfoldable pub table_of : Split → (words : ℕ) → List ℕ
table_of (refused n place) words = replicate words 0
table_of (accepted ps) words = holding token_row ps words

-- the contract of splitting: the answer, and every word of table 1
pub record Splits (file before after : List ℕ) (r : Tokens) : Type 0 where
  pub answer : r ≡ split_answer (tokens_in file (length before))
  pub table : after ≡ table_of (tokens_in file (length before)) (length before)

-- a lexeme at a place: where it ends; of a token its kind, and start and end of its content
unfoldable pub scanned_at : ℕ → Lexeme → Scanned
scanned_at at (gap more) = Gap (at + 1 + more)
scanned_at at (token more t) =
    let start : ℕ = at + length (opening t.kind) in
    Token t.kind start (start + length t.content) (at + 1 + more)
scanned_at at (faulty n) = Fault n

-- a content that begins at a place ends there; where there is none, at the end of the file
unfoldable pub end_of : (size at : ℕ) → Option (List ℕ) → ℕ
end_of size at none = size
end_of size at (some c) = at + length c

unfoldable pub is_some : Option (List ℕ) → Bool
is_some none = false
is_some (some c) = true

-- the kind of a word's token, or its refusal
unfoldable pub word_answer : Lexeme → Word
word_answer (gap more) = Ill 0
word_answer (token more t) = Kind t.kind
word_answer (faulty n) = Ill n

-- a kind or a reason as such an answer
abbrev pub word_found : Result TokenKind Reason → Word
word_found (Ok kind) = Kind (number kind)
word_found (Err reason) = Ill (reason_number reason)
