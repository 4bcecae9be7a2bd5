-- What a table that holds a file's tokens says of each: its words are those of its row, and its span is a part of the file, as every token of a
-- split is.
use mathlib.Core.Path.{◌≡◌, refl, sym, ◌∙◌, ap}
use mathlib.Core.List.{List, [], map}
use mathlib.Core.Option.{some}
use Prim.Native.Nat.{ℕ, ◌+◌, ◌-◌, ◌*◌, ◌≤◌, ◌<◌}
use native.Mathlib.Nat.{add-zero}
use native.Mathlib.Omega.{arith}
use borrow.Author.Tests.{le-leb}
use lib.ListN.{length, get_or, take, drop, length-map, get_or-map}
use Rattle.star_text.specs.Bytes.{most_bytes}
use Rattle.star_rows.specs.Widths.{token_width}
use Rattle.star_lex.specs.Rules.{today}
use Rattle.star_lex.specs.Tokens.{Placed, Each, opening, token_row}
use Rattle.star_text.specs.Outcome.{refused, accepted}
use Rattle.star_lex.specs.Split.{Split, tokens_of, placed}
use Rattle.star_lex.specs.Table.{content_in, or_empty, first_byte}
use Rattle.star_lex.specs.Answer.{tokens_in, table_of}
use Rattle.star_lex.proofs.Table.{part-whole, content-row}
use Rattle.star_lex.proofs.Parts.{PartOf, split_parts, split-count, content_end}
use Rattle.star_lex.proofs.Each.{each_at}
use Rattle.star_lex.proofs.Splitting.{row-wide}
use Rattle.star_lex.proofs.Answers.{tokens-accepted, in-fits}
use Rattle.star_rows.proofs.Held.{held_word}
use Rattle.star_lex.specs.Holds.{Holds, file_tokens, token_at}

tokens-parts : (file : List ℕ) → Each (PartOf file) (placed (tokens_of file))
unfolding placed
tokens-parts file = go (tokens_of file) refl
  where
    go : (s : Split) → tokens_of file ≡ s → Each (PartOf file) (placed s)
    go (refused n place) e = tt
    go (accepted ps) e = split_parts file ps e

-- a file has no more tokens than bytes
few-tokens : (file : List ℕ) → length (placed (tokens_of file)) ≤ length file
unfolding placed
few-tokens file = go (tokens_of file) refl
  where
    go : (s : Split) → tokens_of file ≡ s → length (placed s) ≤ length file
    go (refused n place) e = omega arith
    go (accepted ps) e = split-count file ps e

pub count_small : (file words : List ℕ) (count : ℕ) → Holds file words count → count ≤ most_bytes
count_small file words count h = omega (arith, few-tokens file, h.small, h.count_is)

-- no token, which stands where there is none
abbrev pub nowhere : Placed
nowhere = record { at = 0; token = record { kind = 0; content = [] } }

-- the words of a row, and the part of the file that it spans
pub record Row (file words : List ℕ) (n : ℕ) : Type 0 where
  pub kind : get_or words (n * token_width) 0 ≡ (token_at file n).kind
  pub ordered : get_or words (n * token_width + 1) 0 ≤ get_or words (n * token_width + 2) 0
  pub within : get_or words (n * token_width + 2) 0 ≤ length file
  pub content : take (get_or words (n * token_width + 2) 0 - get_or words (n * token_width + 1) 0) (drop (get_or words (n * token_width + 1) 0) file) ≡ (token_at file n).content

pub count-tokens : (file words : List ℕ) (count : ℕ) → Holds file words count → count ≡ length (file_tokens file)
count-tokens file words count h = h.count_is ∙ sym (length-map (placed (tokens_of file)) (λ p. p.token))

module _ (file words : List ℕ) (count : ℕ) (h : Holds file words count) (n : ℕ) (below : n < count) where
  row_word : (k : ℕ) → k < token_width → get_or words (n * token_width + k) 0 ≡ get_or (token_row (get_or (placed (tokens_of file)) n nowhere)) k 0
  row_word k j = ap (λ ws. get_or ws (n * token_width + k) 0) h.rows ∙ held_word token_width token_row row-wide nowhere (placed (tokens_of file)) (length words) n k (omega arith) j

  pub held-row : Row file words n
  unfolding token_row
  held-row =
      let p : Placed = get_or (placed (tokens_of file)) n nowhere in
      let t : token_at file n ≡ p.token = get_or-map (λ p. p.token) (placed (tokens_of file)) n nowhere in
      let part : PartOf file p = each_at (PartOf file) (placed (tokens_of file)) n nowhere (omega arith) (tokens-parts file) in
      let start : get_or words (n * token_width + 1) 0 ≡ p.at + length (opening p.token.kind) = row_word 1 (omega arith) in
      let end : get_or words (n * token_width + 2) 0 ≡ content_end p = row_word 2 (omega arith) in
      let size : get_or words (n * token_width + 2) 0 - get_or words (n * token_width + 1) 0 ≡ length p.token.content = omega arith in
      record {
        kind = ap (λ i. get_or words i 0) (sym (add-zero (n * token_width))) ∙ row_word 0 (omega arith) ∙ ap (λ u. u.kind) (sym t);
        ordered = omega arith;
        within = omega (arith, part.whole);
        content = rw (size, start) (sym part.content ∙ ap (λ u. u.content) (sym t));
      }

  -- the content that the row spans
  pub held-some : content_in file words n ≡ some (token_at file n).content
  held-some =
      content-row file words n (omega (arith, h.room, h.count_is)) ∙ part-whole file _ _ held-row.ordered held-row.within ∙ ap some held-row.content

  pub held-content : or_empty (content_in file words n) ≡ (token_at file n).content
  unfolding or_empty
  held-content = ap or_empty held-some

  -- the place of its token
  pub held_first : first_byte words n ≡ (get_or (placed (tokens_of file)) n nowhere).at
  unfolding first_byte token_row
  held_first =
      let p : Placed = get_or (placed (tokens_of file)) n nowhere in
      let kind : get_or words (n * token_width) 0 ≡ p.token.kind = ap (λ i. get_or words i 0) (sym (add-zero (n * token_width))) ∙ row_word 0 (omega arith) in
      let start : get_or words (n * token_width + 1) 0 ≡ p.at + length (opening p.token.kind) = row_word 1 (omega arith) in
      rw (le-leb (n * token_width + token_width) (length words) (omega (arith, h.room, h.count_is)), kind, start) (omega arith)

module _ (file : List ℕ) (words : ℕ) (ps : List Placed) (e : tokens_in file words ≡ accepted ps) where
  -- the tokens of an accepted file
  pub accepted-tokens : file_tokens file ≡ map (λ p. p.token) ps
  unfolding placed
  accepted-tokens = ap (λ s. map (λ p. p.token) (placed s)) (tokens-accepted file words ps e)

  -- table 1 holds them
  pub table-holds : (table : List ℕ) (count : ℕ) → count ≡ length ps → length table ≡ words → table ≡ table_of (tokens_in file words) words
      → Holds file table count
  unfolding table_of placed
  table-holds table count c l t =
      let p : placed (tokens_of file) ≡ ps = ap placed (tokens-accepted file words ps e) in
      let f = in-fits today file words ps e in
      record {
        small = f.0;
        rows = t ∙ ap (λ q. table_of q words) e ∙ rw (p, l);
        room = rw (p, l) f.2;
        count_is = c ∙ ap length (sym p);
      }
