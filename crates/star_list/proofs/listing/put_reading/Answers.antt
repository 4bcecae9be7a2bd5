-- `put_reading` meets its contract: by reading's answer the text is the line of the refusal, or the codes and the counts.
use Rattle.std.proofs.Common.{refl, Ok, Err}
use Rattle.star_text.proofs.Refusals.{number-some}
use Rattle.star_read.specs.Answer.{answer_of}
use Rattle.star_read.proofs.Accepted.{read-holds}
use Rattle.star_list.proofs.Putting.{put_then}
use Rattle.star_list.proofs.Reading.{text-refused, text-accepted}
use Rattle.star_list.proofs.listing.put_reading.Goals as goal

pub returns-in-Err : goal.returns-in-Err
returns-in-Err c =
    let refusal = c.in-Err.refusal in
    rw (text-refused _ _ (answer_of (Err refusal)) c.in-Err.ensures.reads.answer (number-some refusal.reason), ← c.number.ensures) c.put_refused.ensures

pub put_codes-at-requires : goal.put_codes-at-requires
put_codes-at-requires c =
    let read = c.in-Ok.ensures.reads in
    read-holds _ _ (answer_of (Ok c.in-Ok.counts)) read.answer _ read.leaves refl

pub returns-in-Ok : goal.returns-in-Ok
returns-in-Ok c =
    rw (text-accepted _ _ (answer_of (Ok c.in-Ok.counts)) c.in-Ok.ensures.reads.answer refl)
    (put_then c.put_codes-at.ensures.put_within c.put_counts.ensures)
