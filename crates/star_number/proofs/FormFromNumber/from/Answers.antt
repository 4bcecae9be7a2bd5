-- `from` meets its contract: each case by its own line of `form_of`.
use lib.Ieee.{of_bits}
use Rattle.star_number.specs.Forms.{form_of}
use Rattle.star_number.proofs.FormFromNumber.from.Goals as goal

pub returns-in-Float : goal.returns-in-Float
unfolding form_of of_bits
returns-in-Float c = rw (c.in-Float.is, c.new.ensures)

pub returns-in-Uncertain : goal.returns-in-Uncertain
unfolding form_of of_bits
returns-in-Uncertain c = rw (c.in-Uncertain.is, c.new-in-Uncertain.ensures)

pub returns-in-Unknown : goal.returns-in-Unknown
unfolding form_of of_bits
returns-in-Unknown c = rw (c.in-Unknown.is, c.new-in-Unknown.ensures)

pub returns-in-NotApplicable : goal.returns-in-NotApplicable
unfolding form_of of_bits
returns-in-NotApplicable c = rw (c.in-NotApplicable.is, c.new-in-NotApplicable.ensures)

pub returns-in-TooWide : goal.returns-in-TooWide
unfolding form_of of_bits
returns-in-TooWide c = rw (c.in-TooWide.is, c.new-in-TooWide.ensures)

pub returns-in-Text : goal.returns-in-Text
unfolding form_of of_bits
returns-in-Text c = rw (c.in-Text.is, c.new-in-Text.ensures)
