-- Yes of `fits_32`: a bench with the earlier limit reads the file, with the same tokens and rows; no: it gives refusal 4. And demand 1, of the check.
use mathlib.Core.Path.{◌≡◌, refl, sym, ◌∙◌}
use mathlib.Core.Bool.{Bool, true, false, cond}
use mathlib.Core.Logic.{◌⊎◌, inl, inr}
use mathlib.Core.List.{List}
use Prim.Native.Nat.{ℕ, ◌≤◌}
use native.Mathlib.Omega.{arith}
use Rattle.star_text.specs.Outcome.{refused, accepted, then}
use Rattle.star_text.proofs.Cases.{impossible}
use Rattle.star_lex.specs.Rules.{today, old_bench}
use Rattle.star_lex.specs.Tokens.{Placed}
use Rattle.star_lex.specs.Fits.{all_fit}
use Rattle.star_grammar.specs.Tables.{Rows}
use Rattle.star_read.specs.Read.{ReadOutcome, Sizes, tokens_only, read_by, read_of}
use Rattle.star_read.specs.Answer.{read_answer, reading_of, tables_of}
use Rattle.star_read.proofs.Demand1.{refused-numbered, accepted-has}
use Rattle.star_read.proofs.Longest.{fits_read, read_fits, first-longer, old-files-read-as-before, old-bench-refuses}
use Rattle.star_check.specs.Check.{checked_as, check_answer}
use Rattle.star_check.specs.Fits.{fits_verdict, fits_of}
use Rattle.star_check.specs.Demands.{Fits32, Fits32No, CheckAnswer, FitsAnswers}

lower : old_bench.longest ≤ today.longest
lower = omega arith

-- 1 is yes, 0 is no
yes_true : (b : Bool) → ◌≡◌ {A = ℕ} (cond b 1 0) 1 → b ≡ true
yes_true true e = refl
yes_true false e = impossible e

no_false : (b : Bool) → ◌≡◌ {A = ℕ} (cond b 1 0) 0 → b ≡ false
no_false true e = impossible (sym e)
no_false false e = refl

-- what is asked of the answer, by reading's outcome
module _ (file : List ℕ) (words : Sizes) where
  answered-yes : (check_answer (fits_of file words)).yes ≡ 1
      → (ps : List Placed) × (rows : Rows) × (read_of file words ≡ accepted (ps, rows)) × (all_fit old_bench.longest (tokens_only ps) ≡ true)
  unfolding fits_of fits_verdict then check_answer checked_as
  answered-yes = by (read_of file words) refl
    where
      by : (o : ReadOutcome) → read_of file words ≡ o → (check_answer (then o (λ read. accepted (read, fits_verdict read)))).yes ≡ 1
          → (ps : List Placed) × (rows : Rows) × (read_of file words ≡ accepted (ps, rows)) × (all_fit old_bench.longest (tokens_only ps) ≡ true)
      by (refused n place) e q = impossible q
      by (accepted (ps, rows)) e q = (ps, rows, e, yes_true _ q)

  yes-answered : (ps : List Placed) (rows : Rows) → read_of file words ≡ accepted (ps, rows) → (b : Bool) → all_fit old_bench.longest (tokens_only ps) ≡ b
      → (check_answer (fits_of file words)).yes ≡ cond b 1 0
  unfolding fits_of fits_verdict then check_answer checked_as
  yes-answered ps rows e b f = rw (e, f)

  same : (check_answer (fits_of file words)).yes ≡ 1 → (others : Sizes) → read_by old_bench file others ≡ read_of file others
  same q = let (ps, rows, e, f) = answered-yes q in fits_read today old_bench.longest lower file words ps rows e f

pub fits-32 : Fits32
fits-32 file words = (
  (
    λ q. let (ps, rows, e, f) = answered-yes file words q in ((ps, rows), same file words q words ∙ e),
    λ k.
        let e : read_of file words ≡ accepted k.0 = old-files-read-as-before today old_bench.longest lower file words k.0 k.1 in
        yes-answered file words k.0.0 k.0.1 e true (read_fits today old_bench.longest lower file words k.0.0 k.0.1 e k.0 k.1),
  ),
  same file words,
)

pub fits-32-no : Fits32No
fits-32-no file words ps rows e q =
    let f : all_fit old_bench.longest (tokens_only ps) ≡ false = no_false _ (sym (yes-answered file words ps rows e _ refl) ∙ q) in
    let (place, l) = first-longer old_bench.longest ps f in
    (place, l, old-bench-refuses today old_bench.longest lower file words ps rows e place l)

pub fits-answers : FitsAnswers
unfolding fits_of fits_verdict then check_answer checked_as reading_of read_answer tables_of
fits-answers file words = by (read_of file words) refl
  where
    yes-no : (b : Bool) → (◌≡◌ {A = ℕ} (cond b 1 0) 1) ⊎ (◌≡◌ {A = ℕ} (cond b 1 0) 0)
    yes-no true = inl refl
    yes-no false = inr refl

    by : (o : ReadOutcome) → read_of file words ≡ o
        → CheckAnswer file words (check_answer (then o (λ read. accepted (read, fits_verdict read)))) (tables_of (reading_of (then o (λ read. accepted (read, fits_verdict read)))) words)
    by (refused n place) e = CheckAnswer.refusal n place (refused-numbered file words n place e)
    by (accepted (ps, rows)) e =
        CheckAnswer.acceptance _ _ refl refl (yes-no (all_fit old_bench.longest (tokens_only ps))) (accepted-has file words ps rows e)
