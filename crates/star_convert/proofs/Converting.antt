-- What converting rests on where a row has a reading in the layout: its tokens as today's, the length of what is written, what is written over a token, and the kinds of table 1 in the 1991 layout.
use mathlib.Core.Path.{◌≡◌, refl, sym, ◌∙◌, ap, subst}
use mathlib.Core.Bool.{Bool, true}
use mathlib.Core.List.{List, ◌++◌, map}
use Prim.Native.Nat.{ℕ, ◌+◌, ◌-◌, ◌*◌, ◌≤◌, ◌<◌}
use native.Mathlib.Omega.{arith}
use lib.ListN.{length, get_or, take, drop, length-map}
use Rattle.star_text.specs.Outcome.{refused, accepted}
use Rattle.star_lex.specs.Rules.{today, layout_rules}
use Rattle.star_lex.specs.Tokens.{Token, Placed, Each}
use Rattle.star_lex.specs.Split.{Split, tokens_of, placed}
use Rattle.star_lex.specs.Plain.{plain_token, plain_of}
use Rattle.star_lex.specs.Table.{content_in, or_empty}
use Rattle.star_lex.specs.Holds.{Holds, file_tokens}
use Rattle.star_lex.proofs.Formed.{WellFormed}
use Rattle.star_lex.proofs.WellFormed.{split-well-formed}
use Rattle.star_lex.proofs.Held.{held-row, count-tokens}
use Rattle.star_grammar.specs.Tree.{frame_close}
use Rattle.star_grammar.specs.Tables.{Rows}
use Rattle.star_grammar.specs.Layout.{today_row}
use Rattle.star_grammar.specs.Reading.{ReadingBy}
use Rattle.star_grammar.proofs.Rest.{Fixed}
use Rattle.star_grammar.proofs.Formed.{each-fixed}
use Rattle.star_grammar.proofs.Images.{row-fixed, row-length}
use Rattle.star_frames.specs.Frames.{kind_of}
use Rattle.star_read.specs.Read.{Sizes, read_in}
use Rattle.star_read.proofs.InLayout.{layout-usable, in-accepted}
use Rattle.star_read.proofs.Demand3.{rows-of-reading}
use Rattle.star_read.proofs.Accepted.{tokens-are}
use Rattle.star_convert.specs.Convert.{other_row}
use Rattle.star_plain.specs.Put.{token_of, Put, Filled}
use Rattle.star_convert.specs.Inner.{other_close, HoldsToday}
use Rattle.star_plain.proofs.Prefix.{plain_first}
use Rattle.star_convert.proofs.OtherLayout.{today-back}
use Rattle.star_convert.proofs.Exchanging.{laid, row_laid, laid-at, laid-bare, laid-formed, rows-length, within, word-within, turn, turned}
use Rattle.star_convert.proofs.TodayTable.{none, today-count, today-kind, today-content}

-- the tokens of a file are well formed
pub file-formed : (file : List ℕ) → Each WellFormed (file_tokens file)
unfolding placed
file-formed file = go (tokens_of file) refl
  where
    go : (s : Split) → tokens_of file ≡ s → Each WellFormed (map (λ p. p.token) (placed s))
    go (refused n place) e = tt
    go (accepted ps) e = split-well-formed file ps e

-- a row of well_formed tokens
module _ (layout : ℕ) (ts : List Token) (formed : Each WellFormed ts) where
  -- as one of today's
  abbrev pub todays : List Token
  todays = today_row (layout_rules layout) ts

  pub todays-fixed : Each Fixed todays
  todays-fixed = row-fixed (layout_rules layout) ts (each-fixed today ts formed)

  pub todays-length : length todays ≡ length ts
  todays-length = row-length (layout_rules layout) ts

  module _ (r : ReadingBy (layout_rules layout) ts) where
    pub todays-laid : map (laid (layout_rules layout).stop_closes) todays ≡ ts
    todays-laid = sym (row_laid (layout_rules layout) todays) ∙ today-back layout ts r

    pub others-laid : map (laid (layout_rules (1 - layout)).stop_closes) todays ≡ other_row layout ts
    unfolding other_row
    others-laid = sym (row_laid (layout_rules (1 - layout)) todays)

    -- in the other layout: its plain form has as many bytes, and its tokens are well formed
    pub other_length : length (plain_of (other_row layout ts)) ≡ length (plain_of ts)
    unfolding other_row
    other_length = rows-length (layout_rules layout) (layout_rules (1 - layout)) todays todays-fixed ∙ ap (λ us. length (plain_of us)) (today-back layout ts r)

    pub other-formed : Each WellFormed (other_row layout ts)
    other-formed =
        subst (Each WellFormed) others-laid
        (laid-formed (layout_rules layout).stop_closes (layout_rules (1 - layout)).stop_closes todays todays-fixed (subst (Each WellFormed) (sym todays-laid) formed))

    pub other-count : length (other_row layout ts) ≡ length ts
    other-count = ap length (sym others-laid) ∙ length-map todays (laid (layout_rules (1 - layout)).stop_closes) ∙ todays-length

-- in the 1991 layout no row of table 1 is a `save_` alone
pub no-save : (layout : ℕ) (file : List ℕ) → ReadingBy (layout_rules layout) (file_tokens file) → (words : List ℕ) (count : ℕ) → Holds file words count → layout ≡ 1
    → (n : ℕ) → n < count → kind_of words n ≡ 3 → ⊥
unfolding layout_rules
no-save layout file r words count h one n below e =
    let us : List Token = today_row (layout_rules layout) (file_tokens file) in
    let old : (layout_rules layout).stop_closes ≡ true = rw one in
    let rows : map (laid true) us ≡ file_tokens file = ap (λ b. map (laid b) us) (sym old) ∙ todays-laid layout (file_tokens file) (file-formed file) r in
    laid-bare us n none (omega (arith, below, count-tokens file words count h, todays-length layout (file_tokens file) (file-formed file)))
    (ap (λ ts. (get_or ts n none).kind) rows ∙ sym (held-row file words count h n below).kind ∙ e)

-- one token more of the output, by its kind in the table and its content
pub record Swap (layout : ℕ) (os : List Token) (out₀ : List ℕ) (n kind : ℕ) (content : List ℕ) : Type 0 where
  pub room : length (plain_first n os) + length (other_close layout kind) ≤ length out₀
  pub within : length (plain_first n os) + length (plain_token today (token_of kind content)) ≤ length out₀
  pub turn : (out after : List ℕ) (at next : ℕ) → Filled (plain_first n os) out₀ out at → Put (other_close layout kind) at out after next
      → Filled (plain_first (n + 1) os) out₀ after (at + length (plain_token today (token_of kind content)))

module _ (layout : ℕ) (file words : List ℕ) (count : ℕ) (h : HoldsToday layout file words count) (r : ReadingBy (layout_rules layout) (file_tokens file)) (out₀ : List ℕ)
    (begins : take (length (plain_of (file_tokens file))) out₀ ≡ plain_of (file_tokens file)) where
  abbrev old : Bool
  old = (layout_rules layout).stop_closes

  abbrev new : Bool
  new = (layout_rules (1 - layout)).stop_closes

  abbrev ts : List Token
  ts = file_tokens file

  formed : Each WellFormed ts
  formed = file-formed file

  abbrev us : List Token
  us = today_row (layout_rules layout) ts

  begins-laid : take (length (plain_of (map (laid old) us))) out₀ ≡ plain_of (map (laid old) us)
  begins-laid = subst (λ ts. take (length (plain_of ts)) out₀ ≡ plain_of ts) (sym (todays-laid layout ts formed r)) begins

  module _ (n : ℕ) (below : n < count) where
    abbrev u : Token
    u = get_or us n none

    short : n < length us
    short = omega (arith, below, today-count layout file words count h, todays-length layout ts formed)

    swap-laid : Swap layout (map (laid new) us) out₀ n u.kind (laid old u).content
    unfolding other_close frame_close
    swap-laid =
        let fixed = todays-fixed layout ts formed in
        let size = within old new us fixed out₀ begins-laid n none short in
        record {
          room = omega (arith, size, word-within old new us fixed out₀ begins-laid n none short);
          within = size;
          turn = λ out after at next f p. turn old new us fixed out₀ begins-laid n none short f p;
        }

    pub swap : (content : List ℕ) → content ≡ or_empty (content_in file words n) → Swap layout (other_row layout (file_tokens file)) out₀ n (get_or words (n * 3) 0) content
    swap content c =
        let kind : get_or words (n * 3) 0 ≡ u.kind = today-kind layout file words count h n below in
        let is : content ≡ (laid old u).content
        = c ∙ today-content layout file words count h n below ∙ ap (λ ts. (get_or ts n none).content) (sym (todays-laid layout ts formed r)) ∙ ap (λ (t : Token). t.content) (laid-at old us n none none short) in
        subst (λ os. Swap layout os out₀ n (get_or words (n * 3) 0) content) (others-laid layout ts formed r)
        (subst (λ k. Swap layout (map (laid new) us) out₀ n k content) (sym kind) (subst (λ b. Swap layout (map (laid new) us) out₀ n u.kind b) (sym is) swap-laid))

  -- after the last
  pub swapped : (n : ℕ) → count ≤ n → (out : List ℕ) (at : ℕ) → Filled (plain_first n (other_row layout (file_tokens file))) out₀ out at
      → out ≡ plain_of (other_row layout (file_tokens file)) ++ drop (length (plain_of (file_tokens file))) out₀
  swapped n g out at f =
      let laid_end : out ≡ plain_of (map (laid new) us) ++ drop (length (plain_of (map (laid old) us))) out₀
      = turned old new us (todays-fixed layout ts formed) out₀ begins-laid n (omega (arith, g, today-count layout file words count h, todays-length layout ts formed))
      (subst (λ os. Filled (plain_first n os) out₀ out at) (sym (others-laid layout ts formed r)) f) in
      laid_end ∙ λ i. plain_of (others-laid layout ts formed r i) ++ drop (length (plain_of (todays-laid layout ts formed r i))) out₀

-- the reading of a file that is accepted in a layout
pub file-reading : (layout : ℕ) (file : List ℕ) (words : Sizes) (ps : List Placed) (rows : Rows) → read_in layout file words ≡ accepted (ps, rows) → ReadingBy (layout_rules layout) (file_tokens file)
file-reading layout file words ps rows e =
    subst (ReadingBy (layout_rules layout)) (tokens-are layout file words ps rows e)
    (rows-of-reading (layout_rules layout) (layout-usable layout) file words ps rows (in-accepted layout file words (ps, rows) e).1).1

-- what is written in the other layout has as many bytes as the file's own plain form
pub as_long : (layout : ℕ) (file : List ℕ) (words : Sizes) (ps : List Placed) (rows : Rows) → read_in layout file words ≡ accepted (ps, rows)
    → length (plain_of (other_row layout (file_tokens file))) ≡ length (plain_of (file_tokens file))
as_long layout file words ps rows e = other_length layout (file_tokens file) (file-formed file) (file-reading layout file words ps rows e)
