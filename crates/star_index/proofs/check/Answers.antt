-- `check` meets its contract: a refusal of reading is the check's; then the slots are tested, and a refusal clears the tables.
use mathlib.Core.Path.{refl, sym, ◌∙◌, ap}
use lib.ListN.{length}
use Rattle.std.specs.Prelude.{Ok, Err}
use Rattle.std.proofs.lemmas.Result.{err_from_is_err_and}
use Rattle.star_text.proofs.Refusals.{number-some}
use Rattle.star_read.specs.Answer.{read_answer, held, sizes, words, answer_of}
use Rattle.star_read.proofs.Lent.{same-sizes}
use Rattle.star_index.proofs.Kept.{left-unmarked, check-yes, check-no, check-unread, leaves_at}
use Rattle.star_index.proofs.check.Goals as goal

pub returns-in_err-counts-clause-checks : goal.returns-in_err-counts-clause-checks
returns-in_err-counts-clause-checks c =
    let p = err_from_is_err_and c.from_residual.result c.from_residual.ensures.1 in
    let e = c.in_err-counts.field-0.0 in
    let read = c.in_err-counts.ensures.reads in
    let o = check-unread c.args.file.now (sizes (held c.args.tables.now)) (answer_of (Err e)) read.answer (number-some e.reason) c.args.slots.now in
    rw (p.1, p.2) (record { answer = read.answer ∙ sym (ap read_answer o); leaves = leaves_at o refl read.leaves })

pub is_indexed-requires : goal.is_indexed-requires
is_indexed-requires c =
    let read = c.in_ok-counts.ensures.reads in
    left-unmarked c.args.file.now (sizes (held c.args.tables.now)) (answer_of (Ok c.in_ok-counts.counts)) read.answer _ read.leaves refl

pub returns-then-is_indexed-clause-checks : goal.returns-then-is_indexed-clause-checks
returns-then-is_indexed-clause-checks c =
    let read = c.in_ok-counts.ensures.reads in
    let l = read.leaves in
    let o = check-yes c.args.file.now (sizes (held c.args.tables.now)) (answer_of (Ok c.in_ok-counts.counts)) read.answer _ l refl c.args.slots.now (sym c.is_indexed.ensures.value ∙ c.if-is_indexed.true) in
    record {
      answer = read.answer ∙ sym (ap read_answer o);
      leaves = leaves_at o refl (record { tokens = l.tokens; sets = l.sets; names = c.is_indexed.ensures.names_unchanged c.if-is_indexed.true ∙ l.names; packets = l.packets; values = l.values });
    }

pub returns-clause-checks : goal.returns-clause-checks
returns-clause-checks c =
    let read = c.in_ok-counts.ensures.reads in
    let given = held c.read.new.tables in
    let k = same-sizes _ _ c.in_ok-counts.ensures.same in
    let o = check-no c.args.file.now (sizes (held c.args.tables.now)) (answer_of (Ok c.in_ok-counts.counts)) read.answer _ read.leaves refl c.args.slots.now (sym c.is_indexed.ensures.value ∙ c.if-is_indexed.false) in
    record {
      answer = c.refuse_for.ensures.gives.answer ∙ sym (ap read_answer o);
      leaves = leaves_at o (ap (λ n. words (length given.tokens) (length given.sets) n (length given.packets) (length given.values)) c.is_indexed.auto.names ∙ k) c.refuse_for.ensures.gives.leaves;
    }
