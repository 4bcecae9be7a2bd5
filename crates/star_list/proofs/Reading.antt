-- What reading's answer tells of the text: a refusal is its line, and else table 1 holds the tokens, and the counts are the answer's.
use mathlib.Core.Path.{◌≡◌, sym, ◌∙◌, ap, subst}
use mathlib.Core.List.{List, ◌++◌}
use Prim.Native.Nat.{ℕ, ◌≤◌, ◌<◌}
use borrow.Author.Tests.{le-leb, lt-leb}
use lib.ListN.{length, replicate, length-replicate}
use Rattle.star_text.specs.Outcome.{accepted}
use Rattle.star_lex.specs.Tokens.{Placed}
use Rattle.star_grammar.specs.Tables.{Rows}
use Rattle.star_lex.specs.Holds.{file_tokens}
use Rattle.star_read.specs.Read.{Sizes, read_of}
use Rattle.star_read.specs.Answer.{tables, sizes, read_answer}
use Rattle.star_read.specs.Known.{of_words}
use Rattle.star_read.specs.declared.Answer.{Answer}
use Rattle.star_read.proofs.Accepted.{answer-refused, answer-accepted, tokens-file}
use Rattle.star_list.specs.Listing.{too_long, line, code_lines, refused_line, counts_line, text_of, listing_of}
use Rattle.star_list.specs.Put.{PutWithin}

-- the line of an answer's counts
abbrev pub counts_of : Answer → List ℕ
counts_of r = counts_line r.tokens r.sets r.names r.packets r.values

module _ (file : List ℕ) (w : Sizes) (r : Answer) (e : r ≡ read_answer (read_of file w)) where
  pub text-refused : (r.refusal ≡ 0 → ⊥) → text_of (read_of file w) ≡ refused_line r.refusal r.place
  unfolding text_of
  text-refused f = rw (answer-refused (read_of file w) r e f)

  module _ (z : r.refusal ≡ 0) where
    accepts : (ps : List Placed) × (rows : Rows) × (read_of file w ≡ accepted (ps, rows))
    accepts = answer-accepted file w r e z

    answers : r ≡ read_answer (accepted (accepts.0, accepts.1))
    answers = e ∙ ap read_answer accepts.2

    pub text-accepted : text_of (read_of file w) ≡ code_lines (file_tokens file) ++ counts_of r
    unfolding text_of read_answer
    text-accepted =
        ap text_of accepts.2
        ∙ ap (λ l. code_lines l ++ counts_of (read_answer (accepted (accepts.0, accepts.1)))) (tokens-file file w accepts.0 accepts.1 accepts.2)
        ∙ ap (λ s. code_lines (file_tokens file) ++ counts_of s) (sym answers)

-- by the length of the input
pub listing-long : (input : List ℕ) → 8192 < length input → listing_of input ≡ line too_long
unfolding listing_of
listing-long input h = rw (lt-leb (length input) 8192 h)

pub listing-read : (input : List ℕ) → length input ≤ 8192 → listing_of input ≡ text_of (read_of input (of_words 16384))
unfolding listing_of
listing-read input h = rw (le-leb (length input) 8192 h)

-- tables of so many zeros, as they are lent
zero-tables : (n : ℕ) → sizes (tables (replicate n 0) (replicate n 0) (replicate n 0) (replicate n 0) (replicate n 0)) ≡ of_words n
zero-tables n = ap of_words (length-replicate n 0)

pub put-words : (file : List ℕ) (n : ℕ) {before after : List ℕ} {end : ℕ}
    → PutWithin (text_of (read_of file (sizes (tables (replicate n 0) (replicate n 0) (replicate n 0) (replicate n 0) (replicate n 0))))) 0 before after end
    → PutWithin (text_of (read_of file (of_words n))) 0 before after end
put-words file n {before} {after} {end} p = subst (λ w. PutWithin (text_of (read_of file w)) 0 before after end) (zero-tables n) p
