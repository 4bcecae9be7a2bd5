-- Table 1 with the kinds of today's layout: its kinds are those of the file's tokens as today's, its spans are the file's, and its own kinds come back.
use mathlib.Core.Path.{◌≡◌, refl, ◌∙◌}
use mathlib.Core.Bool.{Bool, true, false, cond}
use mathlib.Core.List.{List, []}
use Prim.Native.Nat.{ℕ, ◌+◌, ◌*◌, ◌≤◌, ◌<◌}
use native.Mathlib.Omega.{arith}
use lib.Dec.{eqb}
use borrow.Author.Tests.{eqb-true}
use lib.ListN.{length, get_or}
use Rattle.star_text.specs.Bytes.{most_bytes}
use Rattle.star_lex.specs.Rules.{rules1991, today, layout_rules}
use Rattle.star_lex.specs.Tokens.{Token}
use Rattle.star_lex.specs.Table.{content_in, or_empty}
use Rattle.star_lex.specs.Holds.{Holds, file_tokens, token_at}
use Rattle.star_lex.proofs.Held.{held-row, held-content, count-tokens, count_small}
use Rattle.star_grammar.specs.Layout.{outside, today_from, today_row}
use Rattle.star_grammar.proofs.Images.{today-at}
use Rattle.star_frames.specs.Frames.{kind_of, closed_frames, opened_frames, as_today, from_today}
use Rattle.star_frames.proofs.Closing.{closed-by, open-close}
use Rattle.star_convert.specs.Inner.{HoldsToday}

-- a token that is none
abbrev pub none : Token
none = record { kind = 0; content = [] }

-- what a table has of another: its kinds are those of the row, all else is as it was
record Turned (ts : List Token) (count : ℕ) (table words : List ℕ) : Type 0 where
  size : length words ≡ length table
  kinds : (n : ℕ) → n < count → get_or words (n * 3) 0 ≡ (get_or ts n none).kind
  starts : (n : ℕ) → get_or words (n * 3 + 1) 0 ≡ get_or table (n * 3 + 1) 0
  ends : (n : ℕ) → get_or words (n * 3 + 2) 0 ≡ get_or table (n * 3 + 2) 0

module _ (file table : List ℕ) (count : ℕ) (h : Holds file table count) where
  closed : Turned (today_from 8 (outside false) (file_tokens file)) count table (closed_frames count table)
  closed =
      let k = closed-by count table (omega (arith, h.room, h.count_is)) (count_small file table count h) in
      record {
        size = k.size;
        kinds = λ n l. k.rows n l ∙ today-at 8 (kind_of table) (file_tokens file) none (λ m g. (held-row file table count h m (omega (arith, g, count-tokens file table count h))).kind) n (omega (arith, l, count-tokens file table count h));
        starts = k.starts;
        ends = k.ends;
      }

  turned : (layout : ℕ) → Turned (today_row (layout_rules layout) (file_tokens file)) count table (as_today layout count table)
  unfolding today_row as_today layout_rules
  turned layout = by (eqb layout 1)
    where
      by : (b : Bool) → Turned (today_row (cond b rules1991 today) (file_tokens file)) count table (cond b (closed_frames count table) table)
      by true = closed
      by false = record { size = refl; kinds = λ n l. (held-row file table count h n l).kind; starts = λ n. refl; ends = λ n. refl }

module _ (layout : ℕ) (file words : List ℕ) (count : ℕ) (h : HoldsToday layout file words count) where
  turned-today : Turned (today_row (layout_rules layout) (file_tokens file)) count h.table words
  turned-today = rw h.today (turned file h.table count h.holds layout)

  pub today-count : count ≡ length (file_tokens file)
  today-count = count-tokens file h.table count h.holds

  pub today-few : count ≤ most_bytes
  today-few = count_small file h.table count h.holds

  pub today-room : count * 3 ≤ length words
  today-room = omega (arith, turned-today.size, h.holds.room, h.holds.count_is)

  pub today-kind : (n : ℕ) → n < count → get_or words (n * 3) 0 ≡ (get_or (today_row (layout_rules layout) (file_tokens file)) n none).kind
  today-kind = turned-today.kinds

  pub today-content : (n : ℕ) → n < count → or_empty (content_in file words n) ≡ (token_at file n).content
  unfolding content_in
  today-content n l =
      rw (turned-today.size, turned-today.starts n, turned-today.ends n) (held-content file h.table count h.holds n l)

-- the kinds come back
pub table-back : (layout count : ℕ) (words : List ℕ) → (layout ≡ 1 → (m : ℕ) → m < count → kind_of words m ≡ 3 → ⊥) → from_today layout count (as_today layout count words) ≡ words
unfolding from_today as_today
table-back layout count words f = by (eqb layout 1) refl
  where
    by : (b : Bool) → eqb layout 1 ≡ b → cond b (opened_frames count (cond b (closed_frames count words) words)) (cond b (closed_frames count words) words) ≡ words
    by true e = open-close count words (f (eqb-true layout 1 e))
    by false e = refl
