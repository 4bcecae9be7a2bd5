-- Demand 1, of a value: where it is located it has a part within the file.
use mathlib.Core.Path.{◌≡◌, refl}
use mathlib.Core.List.{List}
use Prim.Native.Nat.{ℕ, ◌-◌}
use lib.ListN.{take, drop}
use Rattle.star_rows.specs.Rows.{word_of}
use Rattle.star_lex.specs.Table.{or_empty}
use Rattle.star_find.specs.Find.{is_row, content_at}
use Rattle.star_find.proofs.Looking.{Inside, part-inside}
use Rattle.star_value.specs.Values.{Located, missing, locate, value_of, value_at, value_part, span_at, value_span}
use Rattle.star_value.specs.Demands.{ValueAnswer, ValuesAnswer, SpanPart}
use Rattle.star_value.specs.declared.Value.{Value}
use Rattle.star_value.specs.declared.Span.{Span}
use Rattle.star_value.proofs.Locating.{Locates, locates}

pub values-answer : ValuesAnswer
unfolding value_at value_span value_part value_of span_at or_empty missing word_of content_at is_row
values-answer l c name k = by (locate l c name k) refl (locates l c name k)
  where
    by : (f : Located) → locate l c name k ≡ f → Locates l c f → ValueAnswer l.file (value_at l c name k) (value_span l c name k) (value_part l c name k)
    by _ e (Locates.at packet token h) =
        let p : Inside l.file l.tokens c.tokens token = part-inside _ _ _ _ h in
        rw (e, p.content-is) (ValueAnswer.at _ _ _ _ p.ordered p.within)
    by _ e Locates.nowhere = rw e ValueAnswer.nowhere
    by _ e Locates.outside = rw e ValueAnswer.outside

answer-part : {file : List ℕ} {v : Value} {s : Span} {part : List ℕ} → ValueAnswer file v s part → take (s.end - s.start) (drop s.start file) ≡ part
answer-part (ValueAnswer.at kind packet start end ordered within) = refl
answer-part ValueAnswer.nowhere = refl
answer-part ValueAnswer.outside = refl

pub span-part : SpanPart
span-part l c name k = answer-part (values-answer l c name k)
