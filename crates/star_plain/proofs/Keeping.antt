-- The plain form of the first rows of a table, with header stops or without: each row's token goes behind those before it, unless it is dropped, within the whole.
use mathlib.Core.Path.{◌≡◌, refl, sym, ◌∙◌, ap}
use mathlib.Core.Bool.{Bool, true, false, cond, ◌&&◌}
use mathlib.Core.List.{List, [], ◌∷◌, ◌++◌, flat_map}
use mathlib.Core.Option.{Option}
use Prim.Native.Nat.{ℕ, zero, suc, ◌+◌, ◌-◌, ◌*◌, ◌≤◌}
use native.Mathlib.Numerals.{add-one}
use native.Mathlib.Omega.{arith}
use borrow.Author.Tests.{eq-eqb, ne_eqb}
use lib.Dec.{eqb, leb}
use lib.ListN.{length, get_or, length-append, length-take, length-drop}
use Rattle.star_text.proofs.Cases.{cond-by}
use Rattle.star_rows.specs.Widths.{token_width}
use Rattle.star_lex.specs.Rules.{today}
use Rattle.star_lex.specs.Tokens.{Token}
use Rattle.star_lex.specs.Plain.{plain_token, plain_by, plain_of}
use Rattle.star_lex.specs.Table.{part_of, content_in, or_empty}
use Rattle.star_grammar.specs.Stopless.{is_header_stop, drop_stops, headed_after}
use Rattle.star_grammar.proofs.Dropping.{drop-append, headed-append}
use Rattle.star_plain.specs.Kept.{token_in, first_tokens, plain_rows, kept_plain, headed_at, is_dropped}
use Rattle.star_plain.specs.Put.{token_of, Filled}
use Rattle.star_plain.proofs.Putting.{fill_none}
use Rattle.star_plain.proofs.Prefix.{plain-one, plain-append}

-- of no rows
pub none-long : (without : Bool) (file words : List ℕ) → 0 ≡ length (plain_rows without file words 0)
unfolding first_tokens drop_stops plain_by flat_map
none-long true file words = refl
none-long false file words = refl

pub none_filled : (without : Bool) (file words room : List ℕ) → Filled (plain_rows without file words 0) room room 0
unfolding first_tokens drop_stops plain_by flat_map
none_filled true file words room = fill_none room
none_filled false file words room = fill_none room

drop-one : (headed : Bool) (t : Token) → plain_of (drop_stops headed (t ∷ [])) ≡ kept_plain (is_header_stop headed t.kind) t.kind t.content
unfolding drop_stops kept_plain plain_by flat_map
drop-one headed t = by (is_header_stop headed t.kind)
  where
    by : (b : Bool) → plain_of (cond b (drop_stops true []) (t ∷ drop_stops (eqb t.kind 6) [])) ≡ cond b [] (plain_token today t)
    by true = refl
    by false = plain-one t

-- one row more
kept_next : (without : Bool) (file words : List ℕ) (n : ℕ)
    → plain_rows without file words (suc n) ≡ plain_rows without file words n
    ++ kept_plain (is_dropped without file words n (get_or words (n * token_width) 0)) (get_or words (n * token_width) 0) (or_empty (content_in file words n))
unfolding first_tokens kept_plain
kept_next true file words n =
    ap plain_of (drop-append false (first_tokens file words n) (token_in file words n ∷ []))
    ∙ plain-append (drop_stops false (first_tokens file words n)) (drop_stops (headed_at file words n) (token_in file words n ∷ []))
    ∙ ap (λ bs. plain_rows true file words n ++ bs) (drop-one (headed_at file words n) (token_in file words n))
kept_next false file words n =
    plain-append (first_tokens file words n) (token_in file words n ∷ []) ∙ ap (λ bs. plain_rows false file words n ++ bs) (plain-one (token_in file words n))

-- more rows have no shorter form
kept_more : (without : Bool) (file words : List ℕ) (n more count : ℕ) → more + n ≡ count → length (plain_rows without file words n) ≤ length (plain_rows without file words count)
kept_more without file words n zero count e =
    let s : n ≡ count = omega arith in
    omega (arith, ap (λ k. length (plain_rows without file words k)) s)
kept_more without file words n (suc k) count e =
    let s : suc (k + n) ≡ count = omega arith in
    omega (
      arith,
      kept_more without file words n k (k + n) refl,
      simp length-append at (ap length (kept_next without file words (k + n))),
      ap (λ m. length (plain_rows without file words m)) s,
    )

-- what stands before a row, by the row before it: at `stop_` what stands before that
module _ (file words : List ℕ) (n : ℕ) where
  headed-next : headed_at file words (suc n) ≡ cond (is_header_stop (headed_at file words n) (get_or words (n * token_width) 0)) true (eqb (get_or words (n * token_width) 0) 6)
  unfolding first_tokens headed_after
  headed-next = headed-append false (first_tokens file words n) (token_in file words n ∷ [])

  pub headed-stop : get_or words (n * token_width) 0 ≡ 5 → headed_at file words (suc n) ≡ headed_at file words n
  unfolding is_header_stop
  headed-stop e = headed-next ∙ rw e (by (headed_at file words n))
    where
      by : (b : Bool) → cond (is_header_stop b 5) true (eqb 5 6) ≡ b
      by true = refl
      by false = refl

  pub headed-other : (get_or words (n * token_width) 0 ≡ 5 → ⊥) → headed_at file words (suc n) ≡ eqb (get_or words (n * token_width) 0) 6
  unfolding is_header_stop
  headed-other f = headed-next ∙ by (headed_at file words n)
    where
      by : (b : Bool) → cond (is_header_stop b (get_or words (n * token_width) 0)) true (eqb (get_or words (n * token_width) 0) 6) ≡ eqb (get_or words (n * token_width) 0) 6
      by true = rw (ne_eqb (get_or words (n * token_width) 0) 5 f)
      by false = refl

pub headed-none : (file words : List ℕ) → headed_at file words 0 ≡ false
unfolding first_tokens headed_after
headed-none file words = refl

-- a token that is no `stop_` is not dropped
pub other-kept : (without headed : Bool) (kind : ℕ) → (kind ≡ 5 → ⊥) → false ≡ (without && is_header_stop headed kind)
unfolding is_header_stop
other-kept true true kind f = sym (ne_eqb kind 5 f)
other-kept true false kind f = refl
other-kept false headed kind f = refl

-- `stop_` is dropped where a name or a header stop stands before it
pub stop-dropped : (headed : Bool) (kind : ℕ) → kind ≡ 5 → is_header_stop headed kind ≡ headed
unfolding is_header_stop
stop-dropped true kind e = eq-eqb kind 5 e
stop-dropped false kind e = refl

-- a content is no longer than its file
part-short : (file : List ℕ) (start end : ℕ) → length (or_empty (part_of file start end)) ≤ length file
unfolding part_of or_empty
part-short file start end =
    cond-by (λ (z : Option (List ℕ)). length (or_empty z) ≤ length file) (leb start end && leb end (length file)) _ _ (λ e. simp (length-take, length-drop) (omega arith)) (λ e. omega arith)

content-short : (file words : List ℕ) (n : ℕ) → length (or_empty (content_in file words n)) ≤ length file
unfolding content_in or_empty
content-short file words n =
    cond-by (λ (z : Option (List ℕ)). length (or_empty z) ≤ length file) (leb (n * token_width + token_width) (length words)) _ _
    (λ e. part-short file (get_or words (n * token_width + 1) 0) (get_or words (n * token_width + 2) 0)) (λ e. omega arith)

-- one row more of the first rows of a table, by its kind and content
pub record Next (without : Bool) (file words : List ℕ) (count n : ℕ) (dropped : Bool) (kind : ℕ) (content : List ℕ) : Type 0 where
  pub plain : plain_rows without file words (n + 1) ≡ plain_rows without file words n ++ kept_plain dropped kind content
  pub within : length (plain_rows without file words (n + 1)) ≤ length (plain_rows without file words count)
  pub sum : length (plain_rows without file words (n + 1)) ≡ length (plain_rows without file words n) + length (kept_plain dropped kind content)
  pub small : length content ≤ length file

pub next : (without : Bool) (file words : List ℕ) (count n : ℕ) → n + 1 ≤ count → (dropped : Bool) → dropped ≡ is_dropped without file words n (get_or words (n * token_width) 0)
    → (content : List ℕ) → content ≡ or_empty (content_in file words n) → Next without file words count n dropped (get_or words (n * token_width) 0) content
next without file words count n below dropped d content c =
    let plain : plain_rows without file words (n + 1) ≡ plain_rows without file words n ++ kept_plain dropped (get_or words (n * token_width) 0) content
    = rw (add-one, d, c) (kept_next without file words n) in
    record {
      plain = plain;
      within = kept_more without file words (n + 1) (count - (n + 1)) count (omega arith);
      sum = ap length plain ∙ simp length-append;
      small = rw c (content-short file words n);
    }

-- a token that is kept is not longer than its plain form
pub kept-short : (dropped : Bool) (kind : ℕ) (content : List ℕ) (most : ℕ) → length (plain_token today (token_of kind content)) ≤ most
    → length (kept_plain dropped kind content) ≤ most
unfolding kept_plain
kept-short true kind content most h = omega arith
kept-short false kind content most h = h
