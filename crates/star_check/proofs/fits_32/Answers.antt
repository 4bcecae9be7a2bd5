-- `fits_32` meets its contract: the answer is the outcome's, by reading's, and the tables are as reading left them.
use mathlib.Core.Path.{refl, sym}
use Rattle.std.specs.Prelude.{Ok, Err}
use Rattle.std.proofs.lemmas.Result.{err_from_is_err_and}
use Rattle.star_text.proofs.Refusals.{number-some}
use Rattle.star_read.specs.Answer.{held, sizes, answer_of}
use Rattle.star_read.proofs.Accepted.{read-holds}
use Rattle.star_check.specs.Check.{checked_as}
use Rattle.star_check.proofs.Fitting.{refuses-reading, reads-checked, leaves-checked}
use Rattle.star_check.proofs.fits_32.Goals as goal

pub returns-in_err-counts-clause-checked : goal.returns-in_err-counts-clause-checked
unfolding checked_as
returns-in_err-counts-clause-checked c =
    let p = err_from_is_err_and c.from_residual.result c.from_residual.ensures.1 in
    let e = c.in_err-counts.field-0.0 in
    let read = c.in_err-counts.ensures.reads in
    let words = sizes (held c.args.tables.now) in
    rw (p.1, p.2) (record {
      answer = refuses-reading c.args.file.now words (answer_of (Err e)) read.answer (number-some e.reason);
      leaves = leaves-checked c.args.file.now words read.leaves;
    })

pub all_fit-yes-requires : goal.all_fit-yes-requires
all_fit-yes-requires c =
    let read = c.in_ok-counts.ensures.reads in
    read-holds c.args.file.now (sizes (held c.args.tables.now)) (answer_of (Ok c.in_ok-counts.counts)) read.answer _ read.leaves refl

pub returns-clause-checked : goal.returns-clause-checked
unfolding checked_as
returns-clause-checked c =
    let read = c.in_ok-counts.ensures.reads in
    let words = sizes (held c.args.tables.now) in
    record {
      answer = reads-checked c.args.file.now words (answer_of (Ok c.in_ok-counts.counts)) read.answer refl c.all_fit-yes.result (sym c.all_fit-yes.ensures);
      leaves = leaves-checked c.args.file.now words read.leaves;
    }
