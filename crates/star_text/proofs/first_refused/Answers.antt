-- `first_refused` meets its contract: either all bytes are allowed, or the first that is not is looked for.
use Rattle.std.proofs.Common.{ap, ◌∙◌, length}
use Rattle.std.specs.Option.{unwrap_or}
use Rattle.star_text.specs.Bytes.{is_allowed, first_refused}
use Rattle.star_text.proofs.Run.{run_position}
use Rattle.star_text.proofs.first_refused.Goals as goal

pub returns : goal.returns
unfolding first_refused
returns c = c.unwrap_or.ensures ∙ ap (λ o. unwrap_or o (length c.args.file.now)) c.refused_at.ensures ∙ run_position is_allowed c.args.file.now
