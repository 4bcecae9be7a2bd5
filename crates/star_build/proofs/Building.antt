-- What is built is an index of the reading's names, and the check accepts it whatever tables it is lent: other tables change no reading that is accepted.
use mathlib.Core.Path.{◌≡◌, refl, sym, ap, ◌∙◌}
use mathlib.Core.Bool.{true}
use mathlib.Core.List.{List}
use Prim.Native.Nat.{ℕ, ◌<◌}
use native.Mathlib.Omega.{arith}
use borrow.Author.Tests.{ltb-true, lt-ltb, le-ltb}
use lib.Dec.{ltb}
use lib.ListN.{length, replicate, length-replicate}
use Rattle.star_text.specs.Outcome.{refused, accepted, then, need}
use Rattle.star_text.proofs.Outcome.{accepted-same, need-true, need-false, need-accepted, then-accepted}
use Rattle.star_lex.specs.Rules.{today}
use Rattle.star_lex.specs.Tokens.{Placed}
use Rattle.star_grammar.specs.Tables.{Rows, no_rows}
use Rattle.star_grammar.specs.Machine.{good, run, start}
use Rattle.star_grammar.specs.Layout.{today_row}
use Rattle.star_read.specs.Read.{FileRows, ReadOutcome, Sizes, tokens_only, read_of}
use Rattle.star_read.proofs.Demand3.{read-tokens}
use Rattle.star_hash.proofs.Hashing.{home-inside}
use Rattle.star_index.specs.Index.{row_home, check_of}
use Rattle.star_index.specs.Demands.{IndexOf}
use Rattle.star_index.proofs.Indexing.{true-indexed}
use Rattle.star_index.proofs.Exactly.{is_index_of, check-read, check-refused}
use Rattle.star_build.specs.Build.{built, build_of}
use Rattle.star_build.specs.Demands.{IndexBuilt}
use Rattle.star_build.proofs.Filling.{length-filled, indexed-filled}

-- a row's home is one of the slots
row_inside : (ps : List Placed) (rows : Rows) (slots row : ℕ) → 0 < slots → row_home ps rows slots row < slots
unfolding row_home
row_inside ps rows slots row l = home-inside slots _ _ l

-- as many slots as were asked for
pub length-built : (ps : List Placed) (rows : Rows) (slots : ℕ) → length (built ps rows slots) ≡ slots
unfolding built
length-built ps rows slots = length-filled (row_home ps rows slots) (replicate slots 0) (length rows.names) ∙ length-replicate slots 0

-- what is built in more slots than names is an index of them
pub index-of-built : (ps : List Placed) (rows : Rows) (slots : ℕ) → length rows.names < slots → IndexOf ps rows (built ps rows slots)
unfolding built
index-of-built ps rows slots l =
    rw (length-built ps rows slots) (indexed-filled slots (row_home ps rows slots) (length rows.names) l (λ row _ _. row_inside ps rows slots row (omega arith)))

-- runs that end well with equal answers have equal rows
good-same : {r s : Rows} → good r ≡ good s → r ≡ s
good-same e = cc

-- equal tokens and rows are equal readings
pair_same : {ps qs : List Placed} {rows us : Rows} → ps ≡ qs → rows ≡ us → ◌≡◌ {A = FileRows} (ps, rows) (qs, us)
pair_same e d = rw (e, d)

-- two readings of a file that are accepted are equal, whatever tables are lent
pub same-reading : (file : List ℕ) (words others : Sizes) (read other : FileRows) → read_of file words ≡ accepted read → read_of file others ≡ accepted other
    → read ≡ other
same-reading file words others read other e d =
    let a = read-tokens today file words read.0 read.1 e in
    let b = read-tokens today file others other.0 other.1 d in
    let ps : read.0 ≡ other.0 = accepted-same (sym a.0.splits ∙ b.0.splits) in
    pair_same ps (good-same (sym a.1 ∙ ap (λ ps. run today start (today_row today (tokens_only ps)) no_rows) ps ∙ b.1))

-- after acceptance by reading the builder goes by the numbers of slots and names
pub build-read : (file : List ℕ) (words : Sizes) (slots : ℕ) (read : FileRows) → read_of file words ≡ accepted read
    → build_of file words slots ≡ need (ltb (length read.1.names) slots) 7 8 (accepted (read, built read.0 read.1 slots))
unfolding build_of then
build-read file words slots read e = rw e

-- a refusal of reading is the builder's
pub build-refused : (file : List ℕ) (words : Sizes) (slots n place : ℕ) → read_of file words ≡ refused n place → build_of file words slots ≡ refused n place
unfolding build_of then
build-refused file words slots n place e = rw e

-- what the builder accepts
pub record BuiltFrom (file : List ℕ) (words : Sizes) (slots : ℕ) (read : FileRows) (index : List ℕ) : Type 0 where
  pub reads : read_of file words ≡ accepted read
  pub more : length read.1.names < slots
  pub is : index ≡ built read.0 read.1 slots

-- what reading found is what the builder gives
built-same : (file : List ℕ) (words : Sizes) (slots : ℕ) (found read : FileRows) (index : List ℕ) → read_of file words ≡ accepted found
    → ltb (length found.1.names) slots ≡ true → ◌≡◌ {A = FileRows × List ℕ} (found, built found.0 found.1 slots) (read, index)
    → BuiltFrom file words slots read index
built-same file words slots found read index e l pairs =
    let same : found ≡ read = ap (λ p. p.0) pairs in
    let b : BuiltFrom file words slots found index = record { reads = e; more = ltb-true _ _ l; is = sym (ap (λ p. p.1) pairs) } in
    rw same at b

-- what is accepted is built so
pub build-accepted : (file : List ℕ) (words : Sizes) (slots : ℕ) (read : FileRows) (index : List ℕ) → build_of file words slots ≡ accepted (read, index)
    → BuiltFrom file words slots read index
unfolding build_of
build-accepted file words slots read index e =
    let (found, d, h) = then-accepted (read_of file words) _ (read, index) e in
    let (l, same) = need-accepted (ltb (length found.1.names) slots) 7 8 _ (read, index) h in
    built-same file words slots found read index d l (accepted-same same)

-- the check of what is built is reading, whatever tables it is lent
check-built : (file : List ℕ) (words others : Sizes) (slots : ℕ) (read : FileRows) → read_of file words ≡ accepted read → length read.1.names < slots
    → check_of file others (built read.0 read.1 slots) ≡ read_of file others
check-built file words others slots read e l = go (read_of file others) refl
  where
    index : List ℕ
    index = built read.0 read.1 slots

    go : (o : ReadOutcome) → read_of file others ≡ o → check_of file others index ≡ o
    go (refused n place) d = check-refused file others index n place d
    go (accepted other) d =
        let same : read ≡ other = same-reading file words others read other e d in
        check-read file others index other d
        ∙ need-true 15 0 (accepted other) (ap (λ r. is_index_of r index) (sym same) ∙ true-indexed _ _ _ (index-of-built read.0 read.1 slots l))

-- what is built, and when it is not
pub index-built : IndexBuilt
index-built file words slots = (
  λ ps rows index e.
      let b = build-accepted file words slots (ps, rows) index e in
      rw b.is (length-built ps rows slots, λ others. check-built file words others slots (ps, rows) b.reads b.more),
  λ ps rows e l. (built ps rows slots, build-read file words slots (ps, rows) e ∙ need-true 7 8 _ (lt-ltb _ _ l)),
  λ ps rows e l. build-read file words slots (ps, rows) e ∙ need-false 7 8 _ (le-ltb _ _ l),
  build-refused file words slots,
)
