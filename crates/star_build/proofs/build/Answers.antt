-- `build` meets its contract: the slots are cleared, a refusal of reading is the builder's, and the name rows go to the slots where there are more of these.
use mathlib.Core.Path.{refl, sym, ◌∙◌, ap}
use Prim.Native.Nat.{◌≤◌, ◌<◌}
use native.Mathlib.Omega.{arith}
use lib.ListN.{length, replicate, length-replicate}
use Rattle.std.specs.Prelude.{Ok, Err}
use Rattle.std.proofs.lemmas.Result.{err_from_is_err_and}
use Rattle.star_text.proofs.Refusals.{number-some}
use Rattle.star_read.specs.Answer.{read_answer, held, sizes, answer_of}
use Rattle.star_read.proofs.Lent.{same-sizes}
use Rattle.star_slots.specs.Inner.{table_home}
use Rattle.star_index.proofs.Kept.{leaves_at}
use Rattle.star_build.specs.Build.{filled}
use Rattle.star_build.proofs.Kept.{build-few-reads, build-few-slots, build-reads, build-slots, build-unread-reads, build-unread-slots}
use Rattle.star_build.proofs.build.Goals as goal

pub returns-in_err-counts-clause-builds : goal.returns-in_err-counts-clause-builds
returns-in_err-counts-clause-builds c =
    let p = err_from_is_err_and c.from_residual.result c.from_residual.ensures.1 in
    let e = c.in_err-counts.field-0.0 in
    let read = c.in_err-counts.ensures.reads in
    let lent = sizes (held c.args.tables.now) in
    let slots = length c.args.slots.now in
    let o = build-unread-reads c.args.file.now lent (answer_of (Err e)) read.answer (number-some e.reason) slots in
    rw (p.1, p.2) (record {
      gives = record { answer = read.answer ∙ sym (ap read_answer o); leaves = leaves_at o refl read.leaves };
      leaves = c.fill.ensures.after (λ y h. h) ∙ build-unread-slots c.args.file.now lent (answer_of (Err e)) read.answer (number-some e.reason) slots;
    })

pub returns-then-slots-counts-clause-builds : goal.returns-then-slots-counts-clause-builds
returns-then-slots-counts-clause-builds c =
    let counts = c.in_ok-counts.counts in
    let read = c.in_ok-counts.ensures.reads in
    let lent = sizes (held c.args.tables.now) in
    let slots = length c.args.slots.now in
    let few : slots ≤ counts.names = omega (arith, c.if-slots-counts.true, c.fill.auto.self) in
    let o = build-few-reads c.args.file.now lent (answer_of (Ok counts)) read.answer _ read.leaves refl slots few in
    record {
      gives = record { answer = c.refuse_for.ensures.gives.answer ∙ sym (ap read_answer o); leaves = leaves_at o (same-sizes _ _ c.in_ok-counts.ensures.same) c.refuse_for.ensures.gives.leaves };
      leaves = c.fill.ensures.after (λ y h. h) ∙ build-few-slots c.args.file.now lent (answer_of (Ok counts)) read.answer _ read.leaves refl slots few;
    }

pub returns-clause-builds : goal.returns-clause-builds
returns-clause-builds c =
    let file = c.args.file.now in
    let counts = c.in_ok-counts.counts in
    let read = c.in_ok-counts.ensures.reads in
    let lent = sizes (held c.args.tables.now) in
    let slots = length c.args.slots.now in
    let more : counts.names < slots = omega (arith, c.if-slots-counts.false, c.fill.auto.self) in
    let o = build-reads file lent (answer_of (Ok counts)) read.answer _ read.leaves refl slots more in
    let zero = c.fill.ensures.after (λ y h. h) in
    let home = table_home file c.read.new.tables.tokens.now counts.tokens c.read.new.tables.names.now in
    record {
      gives = record { answer = read.answer ∙ sym (ap read_answer o); leaves = leaves_at o refl read.leaves };
      leaves = c.fill-2.ensures
          ∙ ap (λ s. filled (home (length s)) s counts.names) zero
          ∙ ap (λ n. filled (home n) (replicate slots 0) counts.names) (length-replicate slots 0)
          ∙ build-slots file lent (answer_of (Ok counts)) read.answer _ read.leaves refl slots more;
    }
