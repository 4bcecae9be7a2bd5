-- The check accepts exactly the indexes of a reading's names, by the laws of outcomes and of the computed test.
use mathlib.Core.Path.{◌≡◌, refl, sym, ap, ◌∙◌}
use mathlib.Core.Bool.{Bool, true, false}
use mathlib.Core.List.{List}
use Prim.Native.Nat.{ℕ}
use lib.ListN.{length}
use Rattle.star_text.specs.Outcome.{refused, accepted, then, need}
use Rattle.star_text.proofs.Outcome.{accepted-same, need-true, need-false, need-accepted, then-accepted}
use Rattle.star_lex.specs.Tokens.{Placed}
use Rattle.star_grammar.specs.Tables.{Rows}
use Rattle.star_read.specs.Read.{FileRows, Sizes, read_of}
use Rattle.star_index.specs.Index.{row_home, is_indexed, check_of}
use Rattle.star_index.specs.Demands.{IndexOf, IndexExactly}
use Rattle.star_index.proofs.Indexing.{indexed-true, true-indexed}

-- the test that the check makes of a reading
abbrev pub is_index_of : FileRows → (slots : List ℕ) → Bool
is_index_of read slots = is_indexed (length read.1.names) (row_home read.0 read.1 (length slots)) slots

-- after acceptance by reading the test decides
pub check-read : (file : List ℕ) (words : Sizes) (slots : List ℕ) (read : FileRows) → read_of file words ≡ accepted read
    → check_of file words slots ≡ need (is_index_of read slots) 15 0 (accepted read)
unfolding check_of then
check-read file words slots read e = rw e

-- a refusal of reading is the check's
pub check-refused : (file : List ℕ) (words : Sizes) (slots : List ℕ) (n place : ℕ) → read_of file words ≡ refused n place
    → check_of file words slots ≡ refused n place
unfolding check_of then
check-refused file words slots n place e = rw e

-- what the check accepts reading accepts, and it passes the test
accepted-check : (file : List ℕ) (words : Sizes) (slots : List ℕ) (read : FileRows) → check_of file words slots ≡ accepted read
    → (read_of file words ≡ accepted read) × (is_index_of read slots ≡ true)
unfolding check_of
accepted-check file words slots read e =
    let a : (r : FileRows) × (read_of file words ≡ accepted r) × (need (is_index_of r slots) 15 0 (accepted r) ≡ accepted read) = then-accepted (read_of file words) _ read e in
    let b : (is_index_of a.0 slots ≡ true) × (accepted a.0 ≡ accepted read) = need-accepted (is_index_of a.0 slots) 15 0 (accepted a.0) read a.2 in
    let same : a.0 ≡ read = accepted-same b.1 in
    (a.1 ∙ b.1, ap (λ r. is_index_of r slots) (sym same) ∙ b.0)

-- slots that are no index of a reading's names
no_index : (ps : List Placed) (rows : Rows) (slots : List ℕ) → (IndexOf ps rows slots → ⊥) → is_index_of (ps, rows) slots ≡ false
no_index ps rows slots h = go (is_index_of (ps, rows) slots) refl
  where
    go : (t : Bool) → is_index_of (ps, rows) slots ≡ t → t ≡ false
    go true e = absurd (h (indexed-true _ _ _ e))
    go false e = refl

-- the check accepts exactly the indexes of what is read
pub index-exactly : IndexExactly
index-exactly file words slots = (
  λ ps rows. (
    λ e. let (a, b) = accepted-check file words slots (ps, rows) e in (a, indexed-true _ _ _ b),
    λ h. check-read file words slots (ps, rows) h.0 ∙ need-true 15 0 (accepted (ps, rows)) (true-indexed _ _ _ h.1),
  ),
  λ ps rows e h. check-read file words slots (ps, rows) e ∙ need-false 15 0 (accepted (ps, rows)) (no_index ps rows slots h),
  λ n place e. check-refused file words slots n place e,
)
