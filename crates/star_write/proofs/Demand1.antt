-- Demand 1, of the writer: reading's numbers, 1 or 7 at 6, and then nothing is left; 0 has a reading. Of dropping header stops the same by the rules of old files, and never 16.
use mathlib.Core.Path.{◌≡◌, refl}
use mathlib.Core.List.{List}
use Prim.Native.Nat.{ℕ}
use native.Mathlib.Nat.{sub-zero}
use native.Mathlib.Omega.{arith}
use lib.ListN.{length}
use Rattle.star_text.specs.Outcome.{refused, accepted}
use Rattle.star_text.proofs.Outcome.{need-refused, then-refused}
use Rattle.star_lex.proofs.Cases.{impossible}
use Rattle.star_read.specs.Read.{Sizes, read_of, read_old}
use Rattle.star_read.specs.Answer.{read_answer, reading_of, tables_of}
use Rattle.star_read.specs.Demands.{Numbered}
use Rattle.star_read.proofs.Demand1.{refused-numbered, accepted-has, old-numbered, old-has}
use Rattle.star_write.specs.Write.{Writing, plain_fits, write_of, drop_of}
use Rattle.star_write.specs.Answer.{write_answer, bytes_of, output_of}
use Rattle.star_write.specs.Demands.{WriteNumbered, WriteAnswer, WriteAnswers, DropAnswer, DropAnswers}
use Rattle.star_write.proofs.Outcomes.{wrote, dropped}

write-numbered : (file : List ℕ) (words : Sizes) (room n place : ℕ) → write_of file words room ≡ refused n place → WriteNumbered (length file) n place
unfolding write_of plain_fits
write-numbered file words room n place e =
    then-refused (read_of file words) _ n place e (λ h. WriteNumbered.as_reading n place (refused-numbered file words n place h))
    (λ read d h. need-refused _ 1 0 _ n place h
    (λ s k. need-refused _ 7 6 _ n place k (λ r w. impossible cc) (λ r m i. rw (← m, ← i) WriteNumbered.output))
    (λ s m i. rw (← m, ← i) (WriteNumbered.as_reading 1 0 Numbered.over_size)))

pub write-answers : WriteAnswers
unfolding write_answer reading_of output_of bytes_of read_answer tables_of
write-answers file words room = by (write_of file words room) refl
  where
    by : (o : Writing) → write_of file words room ≡ o
        → WriteAnswer file words room (write_answer o) (tables_of (reading_of o) words) (output_of o room)
    by (refused n place) e = rw sub-zero (WriteAnswer.refusal n place (write-numbered file words room n place e))
    by (accepted ((ps, rows), plain)) e =
        WriteAnswer.acceptance _ _ _ refl refl (accepted-has file words ps rows (wrote file words room ps rows plain e).reads)

drop-numbered : (file : List ℕ) (words : Sizes) (room n place : ℕ) → drop_of file words room ≡ refused n place → WriteNumbered (length file) n place × (n ≡ 16 → ⊥)
unfolding drop_of plain_fits
drop-numbered file words room n place e =
    then-refused (read_old file words) _ n place e
    (λ h. let k : Numbered (length file) n place × (n ≡ 16 → ⊥) = old-numbered file words n place h in (WriteNumbered.as_reading n place k.0, k.1))
    (λ read d h. need-refused _ 1 0 _ n place h
    (λ s k. need-refused _ 7 6 _ n place k (λ r w. impossible cc) (λ r m i. rw (← m, ← i) (WriteNumbered.output, λ z. omega arith)))
    (λ s m i. rw (← m, ← i) (WriteNumbered.as_reading 1 0 Numbered.over_size, λ z. omega arith)))

pub drop-answers : DropAnswers
unfolding write_answer reading_of output_of bytes_of read_answer tables_of
drop-answers file words room = by (drop_of file words room) refl
  where
    by : (o : Writing) → drop_of file words room ≡ o → DropAnswer file words room (write_answer o) (tables_of (reading_of o) words) (output_of o room)
    by (refused n place) e =
        let k : WriteNumbered (length file) n place × (n ≡ 16 → ⊥) = drop-numbered file words room n place e in
        rw sub-zero (DropAnswer.refusal n place k.0 k.1)
    by (accepted ((ps, rows), plain)) e = DropAnswer.acceptance _ _ _ refl refl (old-has file words ps rows (dropped file words room ps rows plain e).reads)
