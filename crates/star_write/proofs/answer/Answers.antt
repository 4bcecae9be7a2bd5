-- `answer` meets its contract: the tests stand in the order of the definition.
use mathlib.Core.Path.{refl, ◌∙◌, sym, ap}
use native.Mathlib.Omega.{arith}
use Rattle.std.specs.Prelude.{Ok, Err}
use Rattle.std.proofs.lemmas.Result.{err_from_is_err_and}
use Rattle.star_text.proofs.Refusals.{number-some}
use Rattle.star_read.specs.Answer.{answer_of, read_answer, reading_of}
use Rattle.star_write.specs.Answer.{bytes_of, write_answer}
use Rattle.star_write.proofs.Outcomes.{counted, via-refused, via-long, via-short, via-fits}
use Rattle.star_write.proofs.answer.Goals as goal

pub returns-in_err-counts : goal.returns-in_err-counts
unfolding write_answer reading_of bytes_of read_answer
returns-in_err-counts c =
    let p = err_from_is_err_and c.from_residual.result c.from_residual.ensures.1 in
    let d = c.in_err-counts.field-0.0 in
    λ way file words without e is.
    let o = via-refused way file words without (answer_of (Err d)) (ap answer_of (sym c.in_err-counts.was) ∙ e) c.args.room (number-some d.reason) in
    rw (p.1, p.2) (sym (ap write_answer o))

pub returns-then-size-gt-MOST_BYTES : goal.returns-then-size-gt-MOST_BYTES
unfolding write_answer reading_of bytes_of read_answer
returns-then-size-gt-MOST_BYTES c =
    let counts = c.in_ok-counts.counts in
    λ way file words without e is.
    let size = is (ap (λ r. (answer_of r).refusal) c.in_ok-counts.was) in
    rw c.refusing.ensures (sym (ap write_answer (via-long way file words without (answer_of (Ok counts)) (ap answer_of (sym c.in_ok-counts.was) ∙ e) c.args.room refl (omega (arith, size)))))

pub returns-then-size-room : goal.returns-then-size-room
unfolding write_answer reading_of bytes_of read_answer
returns-then-size-room c =
    let counts = c.in_ok-counts.counts in
    λ way file words without e is.
    let size = is (ap (λ r. (answer_of r).refusal) c.in_ok-counts.was) in
    rw c.refusing-then-size-room.ensures (sym (ap write_answer (via-short way file words without (answer_of (Ok counts)) (ap answer_of (sym c.in_ok-counts.was) ∙ e) c.args.room refl (omega (arith, size)) (omega (arith, size)))))

pub returns : goal.returns
returns c =
    let counts = c.in_ok-counts.counts in
    λ way file words without e is.
    let size = is (ap (λ r. (answer_of r).refusal) c.in_ok-counts.was) in
    ap (λ n. counted n (answer_of (Ok counts))) size
    ∙ via-fits way file words without (answer_of (Ok counts)) (ap answer_of (sym c.in_ok-counts.was) ∙ e) c.args.room refl (omega (arith, size)) (omega (arith, size))
