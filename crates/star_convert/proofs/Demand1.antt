-- Demand 1, of converting: reading's numbers, 1 or 7 at 6, and 14 where there is no such layout, and then nothing is left; 0 has a reading.
use mathlib.Core.Path.{◌≡◌, refl, sym, ◌∙◌}
use mathlib.Core.Bool.{Bool, true, false}
use mathlib.Core.List.{List}
use Prim.Native.Nat.{ℕ, ◌≤◌, ◌<◌}
use native.Mathlib.Nat.{sub-zero}
use borrow.Author.Tests.{leb-true, leb-false}
use lib.Dec.{leb}
use lib.ListN.{length}
use Rattle.star_text.specs.Outcome.{refused, accepted, then}
use Rattle.star_text.proofs.Outcome.{need-refused, then-refused}
use Rattle.star_lex.proofs.Cases.{impossible}
use Rattle.star_read.specs.Read.{Sizes, read_in}
use Rattle.star_read.specs.Answer.{read_answer, reading_of, tables_of}
use Rattle.star_read.specs.Demands.{Numbered}
use Rattle.star_read.proofs.Demand1.{numbered-by, has-by}
use Rattle.star_read.proofs.InLayout.{in-accepted, in_layout, in-none}
use Rattle.star_write.specs.Write.{Writing, plain_fits}
use Rattle.star_write.specs.Answer.{write_answer, output_of, bytes_of}
use Rattle.star_write.specs.Demands.{WriteNumbered}
use Rattle.star_convert.specs.Convert.{convert_of}
use Rattle.star_convert.specs.Demands.{ConvertAnswer, ConvertAnswers}
use Rattle.star_convert.proofs.Converted.{converted}

module _ (layout : ℕ) (file : List ℕ) (words : Sizes) (room : ℕ) where
  convert-numbered : (n place : ℕ) → layout ≤ 1 → convert_of layout file words room ≡ refused n place → WriteNumbered (length file) n place
  unfolding convert_of plain_fits
  convert-numbered n place l e =
      then-refused (read_in layout file words) _ n place e (λ h. WriteNumbered.as_reading n place (numbered-by layout file words n place (sym (in_layout layout file words l) ∙ h)))
      (λ read d h. need-refused _ 1 0 _ n place h
      (λ s k. need-refused _ 7 6 _ n place k (λ r w. impossible cc) (λ r m i. rw (← m, ← i) WriteNumbered.output))
      (λ s m i. rw (← m, ← i) (WriteNumbered.as_reading 1 0 Numbered.over_size)))

  -- a number that is no layout's
  convert-none : 1 < layout → convert_of layout file words room ≡ refused 14 0
  unfolding convert_of then
  convert-none h = rw (in-none layout file words h)

  convert_answer : ConvertAnswer layout file words room (write_answer (convert_of layout file words room)) (tables_of (reading_of (convert_of layout file words room)) words) (output_of (convert_of layout file words room) room)
  unfolding write_answer reading_of output_of bytes_of read_answer tables_of
  convert_answer = at (leb layout 1) refl
    where
      by : layout ≤ 1 → (o : Writing) → convert_of layout file words room ≡ o → ConvertAnswer layout file words room (write_answer o) (tables_of (reading_of o) words) (output_of o room)
      by l (refused n place) e = rw sub-zero (ConvertAnswer.refusal n place l (convert-numbered n place l e))
      by l (accepted ((ps, rows), plain)) e =
          ConvertAnswer.acceptance _ _ _ refl refl l
          (has-by layout file words ps rows (in-accepted layout file words (ps, rows) (converted layout file words room ps rows plain e).reads).1)

      at : (b : Bool) → leb layout 1 ≡ b
          → ConvertAnswer layout file words room (write_answer (convert_of layout file words room)) (tables_of (reading_of (convert_of layout file words room)) words) (output_of (convert_of layout file words room) room)
      at true e = by (leb-true layout 1 e) (convert_of layout file words room) refl
      at false e = rw (convert-none (leb-false layout 1 e), sub-zero) (ConvertAnswer.no_layout (leb-false layout 1 e))

pub convert-answers : ConvertAnswers
convert-answers = convert_answer
