-- The answer and the tables of an outcome, over tables that were lent: an equal outcome's, over tables of the same sizes, and of a refusal that clears them.
use mathlib.Core.Path.{◌≡◌, sym, ◌∙◌, ap, subst}
use mathlib.Core.Bool.{true}
use Prim.Native.Nat.{ℕ}
use Rattle.std.specs.Prelude.{Result, Ok, Err, is_err}
use Rattle.star_text.specs.declared.refusal.Refusal.{Refusal}
use Rattle.star_text.specs.Outcome.{refused, accepted}
use Rattle.star_text.proofs.Refusals.{number-some}
use Rattle.star_text.proofs.Cases.{impossible}
use Rattle.star_rows.specs.Tables.{Same}
use Rattle.star_rows.specs.declared.Tables.{Tables as LentTables}
use Rattle.star_rows.specs.declared.Counts.{Counts}
use Rattle.star_read.specs.Read.{ReadOutcome, Sizes}
use Rattle.star_read.specs.Answer.{Tables, held, sizes, words, read_answer, answer_of, Leaves, Gives}
use Rattle.star_read.specs.declared.Answer.{Answer}
use Rattle.star_read.specs.Judged.{Tries}

-- tables that were lent have the sizes that they had
pub same-sizes : (before after : LentTables) → Same before after → sizes (held after) ≡ sizes (held before)
same-sizes before after s = λ i. words (s.token_words i) (s.set_words i) (s.name_words i) (s.packet_words i) (s.value_words i)

-- the answer and the tables of an equal outcome
pub gives_at : {o p : ReadOutcome} {before after : Tables} {r : Answer} → p ≡ o → Gives o before after r → Gives p before after r
gives_at {before = b} {after = a} {r = r} e g = subst (λ x. Gives x b a r) (sym e) g

pub tries_at : {o p : ReadOutcome} {mid before after : Tables} {r : Answer} → sizes mid ≡ sizes before → p ≡ o → Tries o mid after r → Tries p before after r
tries_at {o = o} {before = b} {after = a} k e t = record {
  answer = t.answer ∙ ap read_answer (sym e);
  leaves = λ z. subst (λ x. Leaves x (sizes b) a) (sym e) (subst (λ w. Leaves o w a) k (t.leaves z));
}

-- tables that every refusal leaves are an outcome's whose answer is one
pub leaves-refused : (o : ReadOutcome) (r : Result Counts Refusal) (w : Sizes) (t : Tables) → is_err r ≡ true → answer_of r ≡ read_answer o
    → ((n place : ℕ) → Leaves (refused n place) w t) → Leaves o w t
unfolding read_answer
leaves-refused (refused n place) r w t e a f = f n place
leaves-refused (accepted read) (Ok counts) w t e a f = impossible cc
leaves-refused (accepted read) (Err d) w t e a f = absurd (number-some d.reason (ap (λ x. x.refusal) a))
