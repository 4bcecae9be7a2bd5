-- The numbers of a name row are those of its values, and any lookup answers a number, 13 or 14.
use mathlib.Core.List.{List}
use Prim.Native.Nat.{ℕ}
use Rattle.star_value.specs.Values.{value_at, value_part, value_span}
use Rattle.star_value.specs.Demands.{ValueAnswer, at, nowhere, outside}
use Rattle.star_value.specs.declared.Value.{Value}
use Rattle.star_value.specs.declared.Span.{Span}
use Rattle.star_value.proofs.InOrder.{values-in-order}
use Rattle.star_value.proofs.Demand1.{values-answer}
use Rattle.star_number.specs.Taken.{number_in}
use Rattle.star_value_number.specs.Forms.{value_number, value_number_of, value_form_of}
use Rattle.star_value_number.specs.Demands.{NumbersInOrder, NumberAnswer, given, nowhere as number-nowhere, outside as number-outside, NumbersAnswer}

pub numbers-in-order : NumbersInOrder
unfolding value_number value_number_of
numbers-in-order way file words ps rows e name l h =
    let v = values-in-order way file words ps rows e name l h in (
      λ before row behind q. rw ((v.0 before row behind q).0, (v.0 before row behind q).1),
      λ k o. rw (v.1 k o).0,
    )

answered : (file : List ℕ) (v : Value) (s : Span) (part : List ℕ) → ValueAnswer file v s part → NumberAnswer (value_number_of v part) (value_form_of (value_number_of v part))
unfolding value_number_of value_form_of
answered file _ _ _ (at kind packet start end l h) = given (number_in kind _)
answered file _ _ _ nowhere = number-nowhere
answered file _ _ _ outside = number-outside

pub numbers-answer : NumbersAnswer
unfolding value_number
numbers-answer l c name k = answered l.file (value_at l c name k) (value_span l c name k) (value_part l c name k) (values-answer l c name k)
