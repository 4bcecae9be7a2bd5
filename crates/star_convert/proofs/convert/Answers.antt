-- `convert` meets its contract: a refusal is that of writing in the file's own layout, and else the words that close frames are exchanged in the plain form.
use mathlib.Core.Path.{refl, ◌∙◌}
use lib.ListN.{length}
use Rattle.std.specs.Prelude.{Ok, Err}
use Rattle.std.proofs.lemmas.Result.{err_from_is_err_and}
use Rattle.star_text.proofs.Refusals.{number-some}
use Rattle.star_read.specs.Answer.{held, sizes}
use Rattle.star_write.specs.Answer.{written_of}
use Rattle.star_write.proofs.Outcomes.{Success, success}
use Rattle.star_convert.proofs.Converting.{file-reading}
use Rattle.star_convert.proofs.Converted.{refuses-alike, same_answer, same_tables, holds-written, begins-own, output-turned}
use Rattle.star_convert.proofs.convert.Goals.{In_ok-written}
use Rattle.star_convert.proofs.convert.Goals as goal

-- where it is not refused the file is written in its own layout
writes : (c : In_ok-written)
    → Success c.args.layout c.args.file.now (sizes (held c.args.tables.now)) (length c.args.out.now) (written_of (Ok c.in_ok-written.written))
writes c = success _ _ _ _ _ c.in_ok-written.ensures.writes.answer refl

pub returns-in_err-written-clause-converts : goal.returns-in_err-written-clause-converts
returns-in_err-written-clause-converts c =
    let p = err_from_is_err_and c.from_residual.result c.from_residual.ensures.1 in
    rw (p.1, p.2) (refuses-alike _ _ c.in_err-written.ensures.writes (number-some c.in_err-written.field-0.0.reason))

pub exchange-requires : goal.exchange-requires
exchange-requires c =
    let d = writes (goal.at.exchange-requires c).In_ok-written in
    let left = c.in_ok-written.ensures.writes in
    record { holds = holds-written d _ left.leaves; reading_by = file-reading _ _ _ d.ps d.rows d.reads; out_value = begins-own d _ left.output }

pub returns-clause-converts : goal.returns-clause-converts
returns-clause-converts c =
    let turned = c.exchange.ensures in
    let d = writes (goal.at.returns-clause-converts c).In_ok-written in
    let left = c.in_ok-written.ensures.writes in
    let tables = same_tables d left.leaves in
    record {
      answer = left.answer ∙ same_answer d;
      leaves = record {
        tokens = turned.tokens_unchanged ∙ tables.tokens;
        sets = tables.sets;
        names = tables.names;
        packets = tables.packets;
        values = tables.values;
      };
      output = output-turned d _ _ left.output turned.out_after;
    }
