-- What the checks in their order answer: each answers the definition where those before it have passed.
use mathlib.Core.Path.{◌≡◌, refl, sym, ◌∙◌, ap}
use mathlib.Core.Bool.{true}
use mathlib.Core.List.{List}
use Prim.Native.Nat.{ℕ, ◌/◌, ◌*◌, ◌≤◌, ◌<◌}
use native.Mathlib.Omega.{arith}
use borrow.Author.Tests.{le-leb, lt-leb, leb-true, leb-false}
use lib.Dec.{leb}
use lib.ListN.{length, replicate}
use Rattle.star_text.specs.Bytes.{most_bytes, first_refused}
use Rattle.star_text.proofs.Outcome.{need-true, need-false, need-accepted, need-refused, then-accepted, then-refused, NotZero, told-refused, told-accepted}
use Rattle.star_rows.specs.Widths.{token_width}
use Rattle.star_rows.specs.Rows.{cleared_from, stored}
use Rattle.star_rows.proofs.Stored.{room, stored-holding}
use Rattle.star_rows.proofs.Clear.{cleared-whole}
use Rattle.star_lex.specs.Rules.{Rules, today}
use Rattle.star_lex.specs.Tokens.{Placed, token_row}
use Rattle.star_text.specs.Outcome.{refused, accepted, then, need}
use Rattle.star_lex.specs.Split.{Split, split, tokens_by, tokens_of, placed}
use Rattle.star_lex.specs.Answer.{Tokens, tokens_fit, tokens_in_by, tokens_in, split_answer, table_of}
use Rattle.star_lex.proofs.Cases.{impossible}
use Rattle.star_lex.proofs.Splitting.{Faulty, split-refused, row-wide}

module _ (file : List ℕ) (words : ℕ) where
  pub tokens-too-long : most_bytes < length file → tokens_in file words ≡ refused 1 0
  unfolding tokens_in_by
  tokens-too-long h = need-false 1 0 _ (lt-leb (length file) most_bytes h)

  pub tokens-refused-byte : length file ≤ most_bytes → first_refused file < length file → tokens_in file words ≡ refused 2 (first_refused file)
  unfolding tokens_in_by tokens_by need then
  tokens-refused-byte h k = rw (le-leb (length file) most_bytes h, lt-leb (length file) (first_refused file) k)

  pub tokens-split : length file ≤ most_bytes → length file ≤ first_refused file
      → tokens_in file words ≡ then (split today 0 true 0 file) (tokens_fit words)
  unfolding tokens_in_by tokens_by need
  tokens-split h k = rw (le-leb (length file) most_bytes h, le-leb (length file) (first_refused file) k)

-- a file that does not split is refused with 2 to 6, at one of its bytes
pub tokens-faulty : (file : List ℕ) (n place : ℕ) → tokens_by today file ≡ refused n place → (2 ≤ n) × (n ≤ 6) × (place < length file)
unfolding tokens_by
tokens-faulty file n place e =
    need-refused (leb (length file) (first_refused file)) 2 (first_refused file) _ n place e
    (λ d h. let f : Faulty 0 (length file) n place = split-refused 0 true 0 file n place h in (omega arith, omega arith, omega arith))
    (λ d a b. (omega arith, omega arith, omega (arith, leb-false (length file) (first_refused file) d)))

-- an answer tells the split
pub answer-refused : (s : Split) (r : Tokens) → r ≡ split_answer s → (r.refusal ≡ 0 → ⊥) → s ≡ refused r.refusal r.place
unfolding split_answer
answer-refused s r e f = told-refused s _ _ (ap (λ t. t.refusal) e) (ap (λ t. t.place) e) f

pub answer-counts : (s : Split) (r : Tokens) → r ≡ split_answer s → r.count ≡ length (placed s)
unfolding split_answer
answer-counts s r e = ap (λ t. t.count) e

answer-count : (s : Split) (r : Tokens) → r ≡ split_answer s → r.refusal ≡ 0 → NotZero s → (ps : List Placed) × (s ≡ accepted ps) × (r.count ≡ length ps)
unfolding split_answer placed
answer-count s r e z f =
    let (ps, q) = told-accepted s f (sym (ap (λ t. t.refusal) e) ∙ z) in
    (ps, q, ap (λ t. t.count) e ∙ ap (λ t. length (placed t)) q)

-- 7 for table 1, by the number of tokens that are counted: none where the split refuses
pub split-full : (words : ℕ) (s : Split) → words / token_width < length (placed s) → then s (tokens_fit words) ≡ refused 7 1
unfolding then tokens_fit placed
split-full words (refused n place) h = absurd (omega arith)
split-full words (accepted ps) h = need-false 7 1 _ (room token_width (length ps) words (omega arith) ∙ lt-leb (length ps) (words / token_width) h)

pub split-room : (words : ℕ) (s : Split) → length (placed s) ≤ words / token_width → then s (tokens_fit words) ≡ s
unfolding then tokens_fit placed
split-room words (refused n place) h = refl
split-room words (accepted ps) h = need-true 7 1 _ (room token_width (length ps) words (omega arith) ∙ le-leb (length ps) (words / token_width) h)

-- tokens that fit are those of the file, which is within the size limit, and table 1 has room for them
pub in-fits : (rules : Rules) (file : List ℕ) (words : ℕ) (ps : List Placed) → tokens_in_by rules file words ≡ accepted ps
    → (length file ≤ most_bytes) × (tokens_by rules file ≡ accepted ps) × (length ps * token_width ≤ words)
unfolding tokens_in_by tokens_fit
in-fits rules file words ps e =
    let (small, h) = need-accepted (leb (length file) most_bytes) 1 0 _ ps e in
    let (qs, splits, k) = then-accepted (tokens_by rules file) (tokens_fit words) ps h in
    let (fit, q) = need-accepted (leb (length qs * token_width) words) 7 1 _ ps k in
    let same : qs ≡ ps = cc in
    (leb-true _ _ small, splits ∙ ap (λ l. accepted l) same, rw (← same) (leb-true _ _ fit))

pub tokens-accepted : (file : List ℕ) (words : ℕ) (ps : List Placed) → tokens_in file words ≡ accepted ps → tokens_of file ≡ accepted ps
tokens-accepted file words ps e = (in-fits today file words ps e).1

-- a refusal of the tokens is not 0
pub in-number : (file : List ℕ) (words : ℕ) → NotZero (tokens_in file words)
unfolding tokens_in_by tokens_fit
in-number file words n place e z =
    need-refused (leb (length file) most_bytes) 1 0 _ n place e
    (λ a h. then-refused (tokens_by today file) (tokens_fit words) n place h
    (λ k. omega (arith, (tokens-faulty file n place k).0))
    (λ ps b k. need-refused (leb (length ps * token_width) words) 7 1 _ n place k (λ c q. impossible cc) (λ c m i. omega arith)))
    (λ a m i. omega arith)

-- no refusal: the tokens
pub in-accepted : (file : List ℕ) (words : ℕ) (r : Tokens) → r ≡ split_answer (tokens_in file words) → r.refusal ≡ 0
    → (ps : List Placed) × (tokens_in file words ≡ accepted ps) × (r.count ≡ length ps)
in-accepted file words r e z = answer-count (tokens_in file words) r e z (in-number file words)

-- table 1 cleared behind the tokens that are counted is the answer's: all of it on a refusal
pub cleared-table : (s : Split) (before mid : List ℕ) (n : ℕ) → n ≡ length (placed s) → length mid ≡ length before
    → ((ps : List Placed) → s ≡ accepted ps → (mid ≡ stored token_width token_row ps before) × (length ps * token_width ≤ length before))
    → cleared_from (n * token_width) mid ≡ table_of s (length before)
unfolding placed table_of
cleared-table (refused m place) before mid n e l f = rw e (cleared-whole mid ∙ ap (λ k. replicate k 0) l)
cleared-table (accepted ps) before mid n e l f =
    let (held, fits) = f ps refl in
    rw (e, held) (stored-holding token_width token_row row-wide (omega arith) ps before fits)
