-- Demand 1, of the three calls: the check and the builder give reading's numbers or their own, and lookup answers a name row, 13 or 14.
use mathlib.Core.Path.{◌≡◌, refl}
use mathlib.Core.Bool.{Bool, true, false}
use mathlib.Core.List.{List}
use mathlib.Core.Option.{Option}
use Prim.Native.Nat.{ℕ, zero, suc}
use native.Mathlib.Omega.{arith}
use borrow.Author.Tests.{eqb-false, ltb-false}
use lib.Dec.{eqb, ltb}
use lib.ListN.{length}
use Rattle.star_text.specs.Outcome.{refused, accepted, need}
use Rattle.star_text.proofs.Cases.{cond-by}
use Rattle.star_rows.specs.Rows.{word_of}
use Rattle.star_read.specs.Read.{FileRows, ReadOutcome, Sizes, read_of}
use Rattle.star_read.specs.Answer.{read_answer, reading_of, tables_of}
use Rattle.star_read.proofs.Demand1.{refused-numbered, accepted-has}
use Rattle.star_find.specs.Find.{Lent, content_at, is_wanted, row_there, refused as find_refused}
use Rattle.star_find.specs.Demands.{RowAnswer}
use Rattle.star_rows.specs.declared.Counts.{Counts}
use Rattle.star_find.proofs.Demand1.{answer-cond, outside, meet-answers, on-answers}
use Rattle.star_hash.specs.Hash.{home_of}
use Rattle.star_slots.specs.Slots.{slot_at, next_slot}
use Rattle.star_slots.specs.Lookup.{probe, slot_ask, slot_name, find_slot}
use Rattle.star_index.specs.Index.{check_of}
use Rattle.star_index.proofs.Exactly.{is_index_of, check-read, check-refused}
use Rattle.star_build.specs.Build.{build_of, built, slots_of}
use Rattle.star_build.specs.Demands.{CheckAnswer, BuildAnswer, IndexAnswers}
use Rattle.star_build.proofs.Building.{length-built, build-read, build-refused}

-- a slot answers its row, which is neither 0 nor above the count, or lets the others answer
probe-answers : (slots : List ℕ) (rows : ℕ) (is_one : ℕ → Bool) (content : ℕ → Option (List ℕ)) (wanted : List ℕ) (left at : ℕ)
    → RowAnswer rows (probe slots rows is_one content wanted left at)
unfolding probe find_refused
probe-answers slots rows is_one content wanted zero at = RowAnswer.nowhere
probe-answers slots rows is_one content wanted (suc left) at =
    let later : RowAnswer rows (probe slots rows is_one content wanted left (next_slot (length slots) at)) = probe-answers slots rows is_one content wanted left (next_slot (length slots) at) in
    cond-by (RowAnswer rows) (eqb (slot_at slots at) 0) _ _ (λ e. RowAnswer.nowhere)
    (λ e. cond-by (RowAnswer rows) (ltb rows (slot_at slots at)) _ _ (λ d. outside)
    (λ d. answer-cond (is_one (slot_at slots at)) (meet-answers rows (slot_at slots at) (omega (arith, eqb-false (slot_at slots at) 0 e)) (ltb-false rows (slot_at slots at) d) wanted (content (slot_at slots at)) later) later))

slot-answers : (l : Lent) (c : Counts) (slots name : List ℕ) (set : ℕ) → RowAnswer c.names (slot_name l c slots name set)
unfolding slot_name slot_ask
slot-answers l c slots name set =
    probe-answers slots c.names (is_wanted l.names 4 set false 0) (λ row. content_at l.file l.tokens c.tokens (word_of l.names 4 row 1)) name
    (length slots) (home_of (length slots) set name)

check-answers : (file : List ℕ) (words : Sizes) (slots : List ℕ)
    → CheckAnswer file words (read_answer (check_of file words slots)) (tables_of (check_of file words slots) words)
unfolding need read_answer tables_of
check-answers file words slots = by (read_of file words) refl
  where
    tested : (read : FileRows) → read_of file words ≡ accepted read → (t : Bool) → is_index_of read slots ≡ t
        → CheckAnswer file words (read_answer (check_of file words slots)) (tables_of (check_of file words slots) words)
    tested read e true d = rw (check-read file words slots read e, d) (CheckAnswer.acceptance _ _ refl refl (accepted-has file words read.0 read.1 e))
    tested read e false d = rw (check-read file words slots read e, d) CheckAnswer.no_index

    by : (o : ReadOutcome) → read_of file words ≡ o → CheckAnswer file words (read_answer (check_of file words slots)) (tables_of (check_of file words slots) words)
    by (refused n place) e = rw (check-refused file words slots n place e) (CheckAnswer.refusal n place (refused-numbered file words n place e))
    by (accepted read) e = tested read e (is_index_of read slots) refl

build-answers : (file : List ℕ) (words : Sizes) (slots : ℕ)
    → BuildAnswer file words slots (read_answer (reading_of (build_of file words slots))) (tables_of (reading_of (build_of file words slots)) words)
    (slots_of (build_of file words slots) slots)
unfolding need read_answer tables_of reading_of slots_of
build-answers file words slots = by (read_of file words) refl
  where
    tested : (read : FileRows) → read_of file words ≡ accepted read → (t : Bool) → ltb (length read.1.names) slots ≡ t
        → BuildAnswer file words slots (read_answer (reading_of (build_of file words slots))) (tables_of (reading_of (build_of file words slots)) words)
        (slots_of (build_of file words slots) slots)
    tested read e true d =
        rw (build-read file words slots read e, d)
        (BuildAnswer.acceptance _ _ (built read.0 read.1 slots) refl refl (accepted-has file words read.0 read.1 e) (length-built read.0 read.1 slots))
    tested read e false d = rw (build-read file words slots read e, d) BuildAnswer.few_slots

    by : (o : ReadOutcome) → read_of file words ≡ o
        → BuildAnswer file words slots (read_answer (reading_of (build_of file words slots))) (tables_of (reading_of (build_of file words slots)) words)
        (slots_of (build_of file words slots) slots)
    by (refused n place) e = rw (build-refused file words slots n place e) (BuildAnswer.refusal n place (refused-numbered file words n place e))
    by (accepted read) e = tested read e (ltb (length read.1.names) slots) refl

pub index-answers : IndexAnswers
unfolding find_slot
index-answers = (
  check-answers,
  build-answers,
  λ l c slots set name. answer-cond (row_there l c c.sets set) (on-answers l.sets (slot_name l c slots name) (slot-answers l c slots name) set) outside,
)
