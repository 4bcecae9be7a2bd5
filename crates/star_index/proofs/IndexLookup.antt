-- With an accepted index lookup through it answers as the plain lookup does: a name's home is by its key and its set, and no two rows of a reading have both.
use mathlib.Core.Path.{◌≡◌, sym, ◌∙◌, ap}
use mathlib.Core.Bool.{Bool, true, false, cond, and-eq-true_iff}
use mathlib.Core.List.{List}
use mathlib.Core.Option.{Option, some}
use Prim.Native.Nat.{ℕ, suc, ◌-◌, ◌<◌}
use native.Mathlib.Omega.{arith}
use borrow.Author.Tests.{eqb-true}
use lib.Dec.{eqb}
use lib.ListN.{length, get_or, get_or-map}
use Rattle.star_text.specs.Outcome.{accepted}
use Rattle.star_rows.specs.Rows.{word_of, holding}
use Rattle.star_rows.proofs.Words.{word_held}
use Rattle.star_lex.specs.Tokens.{Placed, token_row}
use Rattle.star_lex.proofs.Each.{each_at}
use Rattle.star_grammar.specs.Tree.{File}
use Rattle.star_grammar.specs.Tables.{NameRow, Rows, name_words}
use Rattle.star_grammar.specs.Reading.{FileDistinct}
use Rattle.star_grammar.proofs.Widths.{name-wide}
use Rattle.star_grammar.proofs.RowsOf.{IsToken}
use Rattle.star_read.specs.Read.{Sizes, read_in, in_layout}
use Rattle.star_read.proofs.InLayout.{in-today}
use Rattle.star_find.specs.Find.{Lent, content_at, is_wanted, look, own_name, refused, row_there, ask_on, find_name}
use Rattle.star_find.specs.Demands.{content_of}
use Rattle.star_rows.specs.declared.Counts.{Counts}
use Rattle.star_find.proofs.Seeking.{Hit}
use Rattle.star_find.proofs.After.{left, counted, lent-left, counts-counted, token-content, RowsAfter, reading-in, rows-after}
use Rattle.star_find.proofs.Distinct.{one-row}
use Rattle.star_hash.specs.Hash.{home_of}
use Rattle.star_hash.proofs.Hashing.{home_same, home-inside}
use Rattle.star_slots.specs.Lookup.{slot_ask, slot_name, find_slot}
use Rattle.star_index.specs.Index.{row_home}
use Rattle.star_index.specs.Demands.{IndexOf, IndexLookup}
use Rattle.star_index.proofs.Exactly.{index-exactly}
use Rattle.star_index.proofs.Probing.{probe-seek}

-- no row, which stands where there is none
abbrev pub no_name : NameRow
no_name = record { set = 0; name = 0; loop = 0; level = 0 }

-- the home of a row, by its set and its name
pub row-home : (ps : List Placed) (rows : Rows) (slots i : ℕ)
    → row_home ps rows slots (suc i) ≡ home_of slots (get_or rows.names i no_name).set (content_of ps (get_or rows.names i no_name).name)
unfolding row_home
row-home ps rows slots i =
    let e : suc i - 1 ≡ i = omega arith in
    rw (e, get_or-map (λ r. r.set) rows.names i no_name, get_or-map (λ r. r.name) rows.names i no_name)

module _ (file : List ℕ) (words : Sizes) (slots : List ℕ) (ps : List Placed) (rows : Rows) (e : read_in 0 file words ≡ accepted (ps, rows)) (f : File)
    (k : RowsAfter ps rows f) (set : ℕ) (name : List ℕ) where
  abbrev row : ℕ → NameRow
  row i = get_or rows.names i no_name

  abbrev table : List ℕ
  table = holding name_words rows.names words.names

  -- the rows that are asked for, and the content of each
  abbrev is_one : ℕ → Bool
  is_one = is_wanted table 4 set false 0

  abbrev content : ℕ → Option (List ℕ)
  content number = content_at file (holding token_row ps words.tokens) (length ps) (word_of table 4 number 1)

  abbrev contents : ℕ → List ℕ
  contents i = content_of ps (row i).name

  content-inside : (i : ℕ) → i < length rows.names → content (suc i) ≡ some (contents i)
  unfolding name_words
  content-inside i h =
      rw (word_held 4 name_words name-wide no_name rows.names words.names i 1 h (omega arith))
      (token-content (in_layout 0) file words ps rows e (row i).name (each_at (λ x. IsToken (length ps) x.name) rows.names i no_name h k.inside.name-tokens))

  of_set : (i : ℕ) → i < length rows.names → is_one (suc i) ≡ true → (row i).set ≡ set
  unfolding is_wanted name_words
  of_set i h q =
      sym (word_held 4 name_words name-wide no_name rows.names words.names i 0 h (omega arith))
      ∙ eqb-true (word_of table 4 (suc i) 0) set ((and-eq-true_iff (eqb (word_of table 4 (suc i) 0) set) true).0 q).0

  hit-home : (i : ℕ) → i < length rows.names → Hit is_one contents name i → row_home ps rows (length slots) (suc i) ≡ home_of (length slots) set name
  hit-home i h p =
      row-home ps rows (length slots) i ∙ ap (λ s. home_of (length slots) s (contents i)) (of_set i h p.0)
      ∙ home_same (length slots) set (contents i) name p.1

  -- of one set, what is found through the index is what a search through the rows finds
  slot-own : FileDistinct f → IndexOf ps rows slots → slot_name (left file words ps rows) (counted ps rows) slots name set ≡ own_name (left file words ps rows) (counted ps rows) name set
  unfolding slot_name slot_ask own_name look left counted
  slot-own d index =
      probe-seek slots is_one content name contents (length rows.names) content-inside (row_home ps rows (length slots)) index (home_of (length slots) set name)
      (home-inside (length slots) set name (omega (arith, index.more))) hit-home
      (λ i j h l p q. one-row ps rows f d k no_name i j h l (of_set i h p.0 ∙ sym (of_set j l q.0)) (p.1 ∙ sym q.1))

-- where each set answers the same, so does lookup
lookup-same : (l : Lent) (c : Counts) (slots : List ℕ) (set : ℕ) (name : List ℕ) → ((s : ℕ) → slot_name l c slots name s ≡ own_name l c name s)
    → find_slot l c slots set name ≡ find_name l c set name
unfolding find_slot find_name
lookup-same l c slots set name h = λ j. cond (row_there l c c.sets set) (ask_on l.sets (λ s. h s j) set) (refused 14)

pub index-lookup : IndexLookup
index-lookup file words slots ps rows e set name =
    let a = ((index-exactly file words slots).0 ps rows).0 e in
    let d : read_in 0 file words ≡ accepted (ps, rows) = in-today file words ∙ a.0 in
    let r = (reading-in (in_layout 0) file words ps rows d).0 in
    rw (lent-left (in_layout 0) file words ps rows d, counts-counted (in_layout 0) file words ps rows d)
    (lookup-same (left file words ps rows) (counted ps rows) slots set name
    (λ s. slot-own file words slots ps rows d r.tree (rows-after (in_layout 0) file words ps rows d r) s name r.distinct a.1))
