-- The lines of the text by their parts, in the order in which they are put; and the lines of a file's first tokens, one token more each time.
use mathlib.Core.Path.{◌≡◌, refl, sym, ◌∙◌, ap}
use mathlib.Core.Bool.{Bool, true, false, cond}
use mathlib.Core.List.{List, [], ◌∷◌, ◌++◌, flat_map, append-nil, append_assoc}
use Prim.Native.Nat.{ℕ, ◌+◌, ◌*◌, ◌%◌, ◌≤◌, ◌<◌}
use native.Mathlib.Numerals.{add-one}
use native.Mathlib.Omega.{arith}
use lib.Dec.{eqb}
use lib.ListN.{length, get_or, take, length-append, length-take, length-drop}
use lib.Seq.{take-suc, take_all}
use Rattle.star_text.specs.Bytes.{most_bytes}
use Rattle.star_lex.specs.Tokens.{Token}
use Rattle.star_lex.specs.Table.{content_in, or_empty}
use Rattle.star_lex.specs.Holds.{Holds, file_tokens, token_at}
use Rattle.star_lex.proofs.Held.{Row, held-row, count-tokens, held-content}
use Rattle.std.specs.Fmt as Fmt
use Rattle.std.proofs.lemmas.Fmt.{decimal_by_steps}
use Rattle.star_list.specs.Decimal.{decimal}
use Rattle.star_list.proofs.Decimal.{decimal-low, decimal-high}
use Rattle.star_list.specs.Listing.{refused_word, line, spaced, block_codes, code_lines, refused_line, counts_line}
use Rattle.star_list.specs.Put.{code_line}

-- a number with the byte after it
abbrev pub number_then : ℕ → ℕ → List ℕ
number_then n after = decimal n ++ (after ∷ [])

pub refused-line : (n place : ℕ) → refused_line n place ≡ ((refused_word ++ (32 ∷ [])) ++ number_then n 32) ++ number_then place 10
unfolding refused_line line spaced
refused-line n place = simp append_assoc

pub counts-line : (t s n p v : ℕ)
    → counts_line t s n p v ≡ (((number_then t 32 ++ number_then s 32) ++ number_then n 32) ++ number_then p 32) ++ number_then v 10
unfolding counts_line line spaced
counts-line t s n p v = simp append_assoc

-- a number of 32 bits as `{}` writes it
pub printed : (n : ℕ) → n < 4294967296 → Fmt.decimal n ≡ decimal n
printed n h =
    decimal_by_steps (λ m ds. ds ≡ decimal m)
    (λ m l. sym (decimal-low m l))
    (λ m ds l e. ap (λ s. s ++ ((48 + m % 10) ∷ [])) e ∙ sym (decimal-high m l))
    n
    (omega (arith, h))

-- the lines as formats would write them
pub refused-text : (n place : ℕ) → n < 4294967296 → place < 4294967296
    → refused_word ++ (32 ∷ (Fmt.decimal n ++ (32 ∷ (Fmt.decimal place ++ (10 ∷ []))))) ≡ refused_line n place
unfolding refused_line line spaced
refused-text n place h k = rw (printed n h, printed place k) (simp append_assoc)

pub counts-text : (t s n p v : ℕ) → t < 4294967296 → s < 4294967296 → n < 4294967296 → p < 4294967296 → v < 4294967296
    → Fmt.decimal t ++ (32 ∷ (Fmt.decimal s ++ (32 ∷ (Fmt.decimal n ++ (32 ∷ (Fmt.decimal p ++ (32 ∷ (Fmt.decimal v ++ (10 ∷ [])))))))))
    ≡ counts_line t s n p v
unfolding counts_line line spaced
counts-text t s n p v a b c d e = rw (printed t a, printed s b, printed n c, printed p d, printed v e) (simp append_assoc)

-- the lines of tokens, one by one
pub lines_cons : (t : Token) (ts : List Token) → code_lines (t ∷ ts) ≡ code_line t.kind t.content ++ code_lines ts
unfolding code_lines block_codes code_line flat_map
lines_cons t ts = by_test (eqb t.kind 1)
  where
    by_test : (b : Bool)
        → flat_map line (cond b (t.content ∷ block_codes ts) (block_codes ts)) ≡ cond b (line t.content) [] ++ flat_map line (block_codes ts)
    by_test true = refl
    by_test false = refl

lines-append : (ts us : List Token) → code_lines (ts ++ us) ≡ code_lines ts ++ code_lines us
unfolding code_lines block_codes flat_map
lines-append [] us = refl
lines-append (t ∷ ts) us =
    lines_cons t (ts ++ us)
    ∙ ap (λ l. code_line t.kind t.content ++ l) (lines-append ts us)
    ∙ sym (append_assoc (code_line t.kind t.content) (code_lines ts) (code_lines us))
    ∙ ap (λ l. l ++ code_lines us) (sym (lines_cons t ts))

lines-one : (t : Token) → code_lines (t ∷ []) ≡ code_line t.kind t.content
unfolding code_lines block_codes flat_map
lines-one t = lines_cons t [] ∙ append-nil _

lines_next : (n : ℕ) (ts : List Token) (d : Token) → n < length ts
    → code_lines (take (n + 1) ts) ≡ code_lines (take n ts) ++ code_line (get_or ts n d).kind (get_or ts n d).content
lines_next n ts d h = rw (add-one, take-suc ts n d h, lines-append, lines-one)

pub line-length : (kind : ℕ) (content : List ℕ) → length (code_line kind content) ≤ length content + 1
unfolding code_line line
line-length kind content = by_test (eqb kind 1)
  where
    by_test : (b : Bool) → length (cond b (line content) []) ≤ length content + 1
    by_test true = rw length-append (omega arith)
    by_test false = omega arith

-- one token more of a table, by its kind and content
pub record Next (file : List ℕ) (n kind : ℕ) (content : List ℕ) : Type 0 where
  pub lines : code_lines (take (n + 1) (file_tokens file)) ≡ code_lines (take n (file_tokens file)) ++ code_line kind content
  pub small : length content ≤ most_bytes

module _ (file words : List ℕ) (count : ℕ) (h : Holds file words count) where
  pub lines-all : (n : ℕ) → count ≤ n → code_lines (take n (file_tokens file)) ≡ code_lines (file_tokens file)
  lines-all n g = ap code_lines (take_all n (file_tokens file) (omega (arith, count-tokens file words count h)))

  pub next : (n : ℕ) → n < count → (content : List ℕ) → content ≡ or_empty (content_in file words n) → Next file n (get_or words (n * 3) 0) content
  next n below content c =
      let e : content ≡ (token_at file n).content = c ∙ held-content file words count h n below in
      let r : Row file words n = held-row file words count h n below in
      record {
        lines = rw (r.kind, e) (lines_next n (file_tokens file) _ (omega (arith, count-tokens file words count h)));
        small = rw (e, ← r.content) (simp (length-take, length-drop) (omega (arith, h.small)));
      }
