-- `room` meets its contract: the tables are tested in their order.
use mathlib.Core.Path.{sym, ◌∙◌}
use Rattle.star_text.specs.Outcome.{need, refusal_of, place_of}
use Rattle.star_read.specs.Read.{room_for}
use Rattle.star_read.specs.Judged.{judged_of}
use Rattle.star_read.proofs.room.Goals as goal

pub returns-then-not-fits : goal.returns-then-not-fits
unfolding room_for need judged_of refusal_of place_of
returns-then-not-fits c = rw ((sym c.fits.ensures ∙ c.if-not-fits.true), c.no_room.ensures)

pub returns-then-not-fits-2 : goal.returns-then-not-fits-2
unfolding room_for need judged_of refusal_of place_of
returns-then-not-fits-2 c = rw ((sym c.fits.ensures ∙ c.if-not-fits.false), (sym c.fits-2.ensures ∙ c.if-not-fits-2.true), c.no_room-then-not-fits-2.ensures)

pub returns-then-not-fits-3 : goal.returns-then-not-fits-3
unfolding room_for need judged_of refusal_of place_of
returns-then-not-fits-3 c =
    rw ((sym c.fits.ensures ∙ c.if-not-fits.false), (sym c.fits-2.ensures ∙ c.if-not-fits-2.false), (sym c.fits-3.ensures ∙ c.if-not-fits-3.true), c.no_room-then-not-fits-3.ensures)

pub returns-then-not-fits-4 : goal.returns-then-not-fits-4
unfolding room_for need judged_of refusal_of place_of
returns-then-not-fits-4 c =
    rw ((sym c.fits.ensures ∙ c.if-not-fits.false), (sym c.fits-2.ensures ∙ c.if-not-fits-2.false), (sym c.fits-3.ensures ∙ c.if-not-fits-3.false), (sym c.fits-4.ensures ∙ c.if-not-fits-4.true), c.no_room-then-not-fits-4.ensures)

pub returns : goal.returns
unfolding room_for need judged_of refusal_of place_of
returns c =
    rw ((sym c.fits.ensures ∙ c.if-not-fits.false), (sym c.fits-2.ensures ∙ c.if-not-fits-2.false), (sym c.fits-3.ensures ∙ c.if-not-fits-3.false), (sym c.fits-4.ensures ∙ c.if-not-fits-4.false))
