-- What reading has left in the tables, for the builder: the slots that are filled by the tables are those of the reading.
use mathlib.Core.Path.{◌≡◌, sym, ◌∙◌, ap}
use mathlib.Core.List.{List}
use Prim.Native.Nat.{ℕ, ◌≤◌, ◌<◌}
use native.Mathlib.Omega.{arith}
use borrow.Author.Tests.{lt-ltb, le-ltb}
use lib.ListN.{length, replicate}
use Rattle.star_text.specs.Outcome.{refused, accepted}
use Rattle.star_text.proofs.Outcome.{need-true, need-false}
use Rattle.star_read.specs.Read.{FileRows, Sizes, read_of}
use Rattle.star_read.specs.Answer.{read_answer, reading_of, Tables, Leaves}
use Rattle.star_read.specs.declared.Answer.{Answer}
use Rattle.star_index.specs.Index.{row_home}
use Rattle.star_index.proofs.Kept.{homes, read, rows_are, homes-are, none_read}
use Rattle.star_build.specs.Build.{filled, built, build_of, slots_of}
use Rattle.star_build.proofs.Filling.{filled-alike}
use Rattle.star_build.proofs.Building.{build-read, build-refused}

-- after an answer of reading that is no refusal, with the tables as reading has left them
module _ (file : List ℕ) (words : Sizes) (r : Answer) (e : r ≡ read_answer (read_of file words)) (t : Tables) (l : Leaves (read_of file words) words t) (z : r.refusal ≡ 0) where
  abbrev found : (q : FileRows) × (read_of file words ≡ accepted q)
  found = read file words r e t l z

  abbrev rows : r.names ≡ length found.0.1.names
  rows = rows_are file words r e t l z

  -- slots are not more than names, or are
  build-few : (slots : ℕ) → slots ≤ r.names → build_of file words slots ≡ refused 7 8
  build-few slots h = build-read file words slots found.0 found.1 ∙ need-false 7 8 _ (le-ltb (length found.0.1.names) slots (omega (arith, rows)))

  pub build-few-reads : (slots : ℕ) → slots ≤ r.names → reading_of (build_of file words slots) ≡ refused 7 8
  unfolding reading_of
  build-few-reads slots h = ap reading_of (build-few slots h)

  pub build-few-slots : (slots : ℕ) → slots ≤ r.names → replicate slots 0 ≡ slots_of (build_of file words slots) slots
  unfolding slots_of
  build-few-slots slots h = sym (ap (λ o. slots_of o slots) (build-few slots h))

  built-is : (slots : ℕ) → r.names < slots → build_of file words slots ≡ accepted (found.0, built found.0.0 found.0.1 slots)
  built-is slots h = build-read file words slots found.0 found.1 ∙ need-true 7 8 _ (lt-ltb (length found.0.1.names) slots (omega (arith, rows)))

  pub build-reads : (slots : ℕ) → r.names < slots → reading_of (build_of file words slots) ≡ read_of file words
  unfolding reading_of
  build-reads slots h = ap reading_of (built-is slots h) ∙ sym found.1

  pub build-slots : (slots : ℕ) → r.names < slots → filled (homes file words r e t l z slots) (replicate slots 0) r.names ≡ slots_of (build_of file words slots) slots
  unfolding slots_of built
  build-slots slots h =
      filled-alike (homes file words r e t l z slots) (row_home found.0.0 found.0.1 slots) (replicate slots 0) r.names (homes-are file words r e t l z slots)
      ∙ ap (filled (row_home found.0.0 found.0.1 slots) (replicate slots 0)) rows
      ∙ sym (ap (λ o. slots_of o slots) (built-is slots h))

-- after a refusal of reading
module _ (file : List ℕ) (words : Sizes) (r : Answer) (e : r ≡ read_answer (read_of file words)) (z : r.refusal ≡ 0 → ⊥) where
  build-unread : (slots : ℕ) → build_of file words slots ≡ refused r.refusal r.place
  build-unread slots = build-refused file words slots r.refusal r.place (none_read file words r e z)

  pub build-unread-reads : (slots : ℕ) → reading_of (build_of file words slots) ≡ read_of file words
  unfolding reading_of
  build-unread-reads slots = ap reading_of (build-unread slots) ∙ sym (none_read file words r e z)

  pub build-unread-slots : (slots : ℕ) → replicate slots 0 ≡ slots_of (build_of file words slots) slots
  unfolding slots_of
  build-unread-slots slots = sym (ap (λ o. slots_of o slots) (build-unread slots))
