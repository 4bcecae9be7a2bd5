-- The text of any input is at most 8,217 bytes: a block's code with its line end is shorter than its token, and a count has at most four digits.
use mathlib.Core.Path.{◌≡◌, refl}
use mathlib.Core.Bool.{Bool, true, false, cond}
use mathlib.Core.Logic.{inl, inr}
use mathlib.Core.List.{List, [], ◌∷◌, flat_map}
use Prim.Native.Nat.{ℕ, ◌+◌, ◌≤◌, ◌<◌}
use native.Mathlib.Omega.{arith}
use borrow.Author.Tests.{leb-true}
use lib.Dec.{eqb, leb}
use lib.ListN.{length, length-append}
use Rattle.star_text.specs.Outcome.{refused, accepted}
use Rattle.star_lex.specs.Tokens.{Placed, Each, opening, data_word}
use Rattle.star_lex.proofs.Parts.{PartOf, split_parts, content_end, Ordered, split-ordered}
use Rattle.star_read.specs.Read.{ReadOutcome, tokens_only, read_of}
use Rattle.star_read.specs.Demands.{Numbered}
use Rattle.star_read.specs.Known.{of_words}
use Rattle.star_read.proofs.Demand1.{refused-numbered, accepted-room}
use Rattle.star_list.specs.Listing.{refused_word, too_long, line, block_codes, code_lines, refused_line, counts_line, text_of, listing_of}
use Rattle.star_list.specs.Put.{code_line}
use Rattle.star_list.proofs.Decimal.{four-digits}
use Rattle.star_list.proofs.Lines.{number_then, refused-line, counts-line, lines_cons}

-- a token's line is shorter than the token
line-short : (p : Placed) → length (code_line p.token.kind p.token.content) ≤ length (opening p.token.kind) + length p.token.content
unfolding code_line line opening data_word
line-short p = by_test (eqb p.token.kind 1) _
  where
    by_test : (b : Bool) (others : List ℕ) → length (cond b (line p.token.content) []) ≤ length (cond b data_word others) + length p.token.content
    by_test true others = rw length-append (omega arith)
    by_test false others = omega arith

codes-fit : (file : List ℕ) (from : ℕ) (ps : List Placed) → Each (PartOf file) ps → Ordered from ps → from ≤ length file
    → length (code_lines (tokens_only ps)) + from ≤ length file
unfolding code_lines block_codes flat_map
codes-fit file from [] parts o h = omega arith
codes-fit file from (p ∷ ps) parts o h =
    let rest : length (code_lines (tokens_only ps)) + content_end p ≤ length file
    = codes-fit file (content_end p) ps parts.1 o.2 parts.0.whole in
    rw (lines_cons, length-append) (omega (arith, line-short p, o.0))

number_fits : (n after : ℕ) → n < 10000 → length (number_then n after) ≤ 5
number_fits n after h = rw length-append (omega (arith, four-digits n h))

counts-fit : (t s n p v : ℕ) → t < 10000 → s < 10000 → n < 10000 → p < 10000 → v < 10000 → length (counts_line t s n p v) ≤ 25
counts-fit t s n p v a b c d e =
    rw (counts-line, length-append, length-append, length-append, length-append)
    (omega (arith, number_fits t 32 a, number_fits s 32 b, number_fits n 32 c, number_fits p 32 d, number_fits v 10 e))

refused-fits : (n place : ℕ) → n < 10000 → place < 10000 → length (refused_line n place) ≤ 18
unfolding refused_word
refused-fits n place h k = rw (refused-line, length-append, length-append) (omega (arith, number_fits n 32 h, number_fits place 10 k))

-- the numbers of a refusal are low
numbered-low : {size n place : ℕ} → Numbered size n place → (n ≤ 16) × (place ≤ size + 5)
numbered-low Numbered.over_size = (omega arith, omega arith)
numbered-low (Numbered.byte n place a b c) = (omega arith, omega arith)
numbered-low (Numbered.table place a b) = (omega arith, omega arith)
numbered-low (Numbered.token n place a b c) = (omega arith, omega arith)
numbered-low (Numbered.retired place a) = (omega arith, omega arith)
numbered-low (Numbered.end n (inl e)) = (omega arith, omega arith)
numbered-low (Numbered.end n (inr e)) = (omega arith, omega arith)

text-fits : (input : List ℕ) → length input ≤ 8192 → length (text_of (read_of input (of_words 16384))) ≤ 8217
unfolding text_of
text-fits input h = go (read_of input (of_words 16384)) refl
  where
    go : (o : ReadOutcome) → read_of input (of_words 16384) ≡ o → length (text_of o) ≤ 8217
    go (refused n place) e =
        let low : (n ≤ 16) × (place ≤ length input + 5) = numbered-low (refused-numbered input (of_words 16384) n place e) in
        omega (arith, refused-fits n place (omega arith) (omega arith))
    go (accepted (ps, rows)) e =
        let (tokens, reading, rooms) = accepted-room input (of_words 16384) ps rows e in
        let splits = tokens.splits in
        let codes = codes-fit input 0 ps (split_parts input ps splits) (split-ordered input ps splits) (omega arith) in
        rw length-append (omega (arith, codes, counts-fit (length ps) (length rows.sets) (length rows.names) (length rows.packets) (length rows.values) (omega (arith, tokens.room)) (omega (arith, rooms.sets)) (omega (arith, rooms.names)) (omega (arith, rooms.packets)) (omega (arith, rooms.values))))

pub listing-fits : (input : List ℕ) → length (listing_of input) ≤ 8217
unfolding listing_of line too_long
listing-fits input = by_test (leb (length input) 8192) refl
  where
    by_test : (b : Bool) → leb (length input) 8192 ≡ b → length (cond b (text_of (read_of input (of_words 16384))) (line too_long)) ≤ 8217
    by_test true q = text-fits input (leb-true _ _ q)
    by_test false q = omega arith

pub size_fits : (input : List ℕ) {size : ℕ} → size ≡ length (listing_of input) → size ≤ 8217
size_fits input e = omega (arith, listing-fits input)
