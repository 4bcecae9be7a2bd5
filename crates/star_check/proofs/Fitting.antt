-- The tokens from a place of table 1 on: each is within the limit or not, by its kind and content; and what an answer of reading tells of the check's.
use mathlib.Core.Path.{◌≡◌, refl, ◌∙◌, ap, subst}
use mathlib.Core.Bool.{Bool, true, cond, ◌&&◌}
use mathlib.Core.List.{List, []}
use Prim.Native.Nat.{ℕ, ◌+◌, ◌*◌, ◌≤◌, ◌<◌}
use native.Mathlib.Numerals.{add-one}
use native.Mathlib.Omega.{arith}
use lib.ListN.{get_or, drop, drop_of_length-le}
use lib.Seq.{drop-cons}
use Rattle.star_text.specs.Outcome.{refused, accepted, then}
use Rattle.star_lex.specs.Rules.{old_bench}
use Rattle.star_lex.specs.Fits.{fits, all_fit}
use Rattle.star_lex.specs.Table.{content_in, or_empty}
use Rattle.star_lex.specs.Holds.{Holds, file_tokens}
use Rattle.star_lex.proofs.Held.{Row, held-row, held-content, count-tokens}
use Rattle.star_read.specs.Read.{ReadOutcome, Sizes, read_of}
use Rattle.star_read.specs.Answer.{read_answer, reading_of, Tables, Leaves}
use Rattle.star_read.specs.declared.Answer.{Answer}
use Rattle.star_read.proofs.Accepted.{answer-refused, answer-accepted, tokens-file}
use Rattle.star_check.specs.Check.{checked_as, check_answer}
use Rattle.star_check.specs.Fits.{fits_verdict, fits_of}

module _ (most : ℕ) (file words : List ℕ) (count : ℕ) (h : Holds file words count) where
  pub fit_next : (n : ℕ) → n < count
      → all_fit most (drop n (file_tokens file))
      ≡ (fits most (record { kind = get_or words (n * 3) 0; content = or_empty (content_in file words n) }) && all_fit most (drop (n + 1) (file_tokens file)))
  unfolding all_fit
  fit_next n below =
      let r : Row file words n = held-row file words count h n below in
      rw (
        drop-cons (file_tokens file) n (record { kind = 0; content = [] }) (omega (arith, count-tokens file words count h)),
        add-one n,
        r.kind,
        held-content file words count h n below,
      )

  pub fit-end : (n : ℕ) → count ≤ n → all_fit most (drop n (file_tokens file)) ≡ true
  unfolding all_fit
  fit-end n g = rw (drop_of_length-le (file_tokens file) {i = n} (omega (arith, count-tokens file words count h)))

-- the check after reading's answer
module _ (file : List ℕ) (words : Sizes) (r : Answer) (e : r ≡ read_answer (read_of file words)) where
  pub refuses-reading : (r.refusal ≡ 0 → ⊥) → checked_as r 0 r.place ≡ check_answer (fits_of file words)
  unfolding fits_of then check_answer
  refuses-reading f =
      let o : read_of file words ≡ refused r.refusal r.place = answer-refused (read_of file words) r e f in
      rw o (ap (λ a. checked_as a 0 r.place) (e ∙ ap read_answer o))

  pub reads-checked : r.refusal ≡ 0 → (fit : Bool) → all_fit old_bench.longest (file_tokens file) ≡ fit
      → checked_as r (cond fit 1 0) r.place ≡ check_answer (fits_of file words)
  unfolding fits_of fits_verdict then check_answer read_answer
  reads-checked z fit f =
      let a = answer-accepted file words r e z in
      rw (a.2, tokens-file file words a.0 a.1 a.2, f) (ap (λ q. checked_as q (cond fit 1 0) q.place) (e ∙ ap read_answer a.2))

-- the tables are left as reading leaves them
leaves-reading : (file : List ℕ) (words : Sizes) → read_of file words ≡ reading_of (fits_of file words)
unfolding fits_of then reading_of
leaves-reading file words = by (read_of file words)
  where
    by : (o : ReadOutcome) → o ≡ reading_of (then o (λ read. accepted (read, fits_verdict read)))
    by (refused n place) = refl
    by (accepted read) = refl

pub leaves-checked : (file : List ℕ) (words : Sizes) {t : Tables} → Leaves (read_of file words) words t → Leaves (reading_of (fits_of file words)) words t
leaves-checked file words {t} l = subst (λ o. Leaves o words t) (leaves-reading file words) l
