-- `is_dropped` meets its contract, by the kind, by whether header stops are dropped and by what stands before.
use mathlib.Core.Path.{sym, ◌∙◌}
use Rattle.star_plain.specs.Kept.{headed_at}
use Rattle.star_plain.proofs.Keeping.{other-kept, stop-dropped}
use Rattle.star_plain.proofs.plain.is_dropped.Goals as goal

pub returns-then-kind-ne-STOP : goal.returns-then-kind-ne-STOP
returns-then-kind-ne-STOP c =
    let args = c.args in
    λ file. other-kept args.without (headed_at file args.tokens.now args.n) args.kind c.if-kind-ne-STOP.true

pub returns-then-without : goal.returns-then-without
returns-then-without c =
    let args = c.args in
    λ file.
    rw c.if-without.true (c.is_headed.ensures file ∙ sym (stop-dropped (headed_at file args.tokens.now args.n) args.kind c.if-kind-ne-STOP.false))

pub returns-else-without : goal.returns-else-without
returns-else-without c = λ file. rw c.if-without.false
