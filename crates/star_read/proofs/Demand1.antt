-- Demand 1, of reading: every case of what reading gives has its number and its place in range, and 0 has a reading.
use mathlib.Core.Path.{◌≡◌, refl, sym, ap, ◌∙◌}
use mathlib.Core.Bool.{Bool, true, false}
use mathlib.Core.List.{List, ◌∷◌, ◌++◌}
use mathlib.Core.Logic.{◌⊎◌, inl, inr}
use Prim.Native.Nat.{ℕ, ◌≤◌, ◌<◌}
use native.Mathlib.Omega.{arith}
use borrow.Author.Tests.{leb-true, leb-false}
use lib.Dec.{leb}
use lib.ListN.{length}
use Rattle.star_text.specs.Outcome.{refused, accepted}
use Rattle.star_text.proofs.Outcome.{accepted-same}
use Rattle.star_lex.specs.Rules.{Rules, today, old_headers, layout_rules}
use Rattle.star_lex.specs.Tokens.{Token, Placed}
use Rattle.star_lex.specs.Split.{tokens_by, tokens_of}
use Rattle.star_lex.proofs.Answers.{tokens-faulty}
use Rattle.star_lex.proofs.Cases.{impossible}
use Rattle.star_lex.proofs.Each.{each_append}
use Rattle.star_lex.proofs.Parts.{PartOf, split_parts}
use Rattle.star_grammar.specs.Tables.{Rows, rows_of}
use Rattle.star_grammar.specs.Reading.{ReadingBy, Reading}
use Rattle.star_read.specs.Read.{FileRows, ReadOutcome, Sizes, tokens_only, read_by, read_in, read_old, read_of}
use Rattle.star_read.specs.Answer.{read_answer, tables_of}
use Rattle.star_read.specs.Demands.{Usable, Room, Tokenized, NumberAt, NumberAtEnd, Bad, Short, Settles, Numbered, HasReadingBy, HasReading, ReadAnswer, ReadAnswers}
use Rattle.star_read.proofs.InLayout.{layout-usable, layout-split, old-split, in_layout, in-none}
use Rattle.star_read.proofs.Usable.{old-usable}
use Rattle.star_read.proofs.Settled.{reading-settled}

token-number : {rules : Rules} {p : List Token} {t : Token} {n : ℕ} (size place : ℕ) → place < size → NumberAt rules p t n → Numbered size n place
token-number size place l (NumberAt.taken b) = Numbered.token 9 place (omega arith) (omega arith) l
token-number size place l (NumberAt.retired f b) = Numbered.retired place l
token-number size place l (NumberAt.deep f m b) = Numbered.token 11 place (omega arith) (omega arith) l
token-number size place l (NumberAt.packet f v w) = Numbered.token 10 place (omega arith) (omega arith) l
token-number size place l (NumberAt.other f o) = Numbered.token 8 place (omega arith) (omega arith) l

end-number : {rules : Rules} {p : List Token} {n : ℕ} → NumberAtEnd rules p n → (n ≡ 8) ⊎ (n ≡ 10)
end-number (NumberAtEnd.packet v w) = inr refl
end-number (NumberAtEnd.other o) = inl refl

table-number : {words : Sizes} {rows : Rows} {table : ℕ} → Short words rows table → (1 ≤ table) × (table ≤ 5)
table-number (Short.sets a) = (omega arith, omega arith)
table-number (Short.names a b) = (omega arith, omega arith)
table-number (Short.packets a b c) = (omega arith, omega arith)
table-number (Short.values a b c d) = (omega arith, omega arith)

-- a token of a file begins within it
token-within : (file : List ℕ) (ps p : List Placed) (t : Placed) (q : List Placed) → tokens_of file ≡ accepted ps → ps ≡ p ++ (t ∷ q) → t.at < length file
token-within file ps p t q s e = ((each_append (PartOf file) p (t ∷ q)).0 (rw e at (split_parts file ps s))).1.0.first

bad-number : (rules : Rules) (file : List ℕ) (ps : List Placed) (n place : ℕ) → tokens_of file ≡ accepted ps → Bad rules file ps n place → Numbered (length file) n place
bad-number rules file ps _ _ s (Bad.token n p t q e b k h) =
    token-number (length file) t.at (token-within file ps p t q s e) h
bad-number rules file ps _ _ s (Bad.end n b h) = Numbered.end n (end-number h)

-- by rules that split a file as today's do
module _ (rules : Rules) (usable : Usable rules) (splits : (file : List ℕ) → tokens_by rules file ≡ tokens_of file) (file : List ℕ) (words : Sizes) where
  -- a refusal has one of the numbers, with its place
  pub numbered_of : (n place : ℕ) → read_by rules file words ≡ refused n place → Numbered (length file) n place
  numbered_of n place = by (read_by rules file words) (reading-settled rules usable file words)
    where
      same : {m i : ℕ} → Numbered (length file) m i → ◌≡◌ {A = ReadOutcome} (refused m i) (refused n place) → Numbered (length file) n place
      same {m} {i} k d = let a : m ≡ n = cc in let b : i ≡ place = cc in rw (← a, ← b) k

      by : (o : ReadOutcome) → Settles rules file words o → o ≡ refused n place → Numbered (length file) n place
      by _ (Settles.over_size h) d = same Numbered.over_size d
      by _ (Settles.unsplit m i small e) d =
          let f : (2 ≤ m) × (m ≤ 6) × (i < length file) = tokens-faulty file m i (sym (splits file) ∙ e) in
          same (Numbered.byte m i f.0 f.1 f.2) d
      by _ (Settles.no_token_room ps small e h) d = same (Numbered.table 1 (omega arith) (omega arith)) d
      by _ (Settles.no_reading ps m i f none b) d = same (bad-number rules file ps m i (sym (splits file) ∙ f.splits) b) d
      by _ (Settles.no_room ps table f r h) d = let k : (1 ≤ table) × (table ≤ 5) = table-number h in same (Numbered.table table k.0 k.1) d
      by _ (Settles.reads ps f r h) d = impossible cc

  -- what is accepted has a reading, and room for its rows
  pub room_of : (ps : List Placed) (rows : Rows) → read_by rules file words ≡ accepted (ps, rows)
      → Tokenized rules file words ps × ReadingBy rules (tokens_only ps) × Room words rows
  room_of ps rows = by (read_by rules file words) (reading-settled rules usable file words)
    where
      by : (o : ReadOutcome) → Settles rules file words o → o ≡ accepted (ps, rows) → Tokenized rules file words ps × ReadingBy rules (tokens_only ps) × Room words rows
      by _ (Settles.over_size h) d = impossible cc
      by _ (Settles.unsplit m i small e) d = impossible cc
      by _ (Settles.no_token_room qs small e h) d = impossible cc
      by _ (Settles.no_reading qs m i f none b) d = impossible cc
      by _ (Settles.no_room qs table f r h) d = impossible cc
      by _ (Settles.reads qs f r h) d =
          let both : ◌≡◌ {A = FileRows} (qs, rows_of r.tree) (ps, rows) = accepted-same d in
          let same : qs ≡ ps = ap (λ p. p.0) both in
          let is : rows_of r.tree ≡ rows = ap (λ p. p.1) both in
          (rw (← same) f, rw (← same) r, rw (← is) h)

  pub has_of : (ps : List Placed) (rows : Rows) → read_by rules file words ≡ accepted (ps, rows) → HasReadingBy rules file
  has_of ps rows e =
      let k : Tokenized rules file words ps × ReadingBy rules (tokens_only ps) × Room words rows = room_of ps rows e in
      record { small = k.0.small; tokens = ps; splits = k.0.splits; reading = k.1 }

-- in the rules of a layout
module _ (layout : ℕ) (file : List ℕ) (words : Sizes) where
  pub numbered-by : (n place : ℕ) → read_by (layout_rules layout) file words ≡ refused n place → Numbered (length file) n place
  numbered-by = numbered_of (layout_rules layout) (layout-usable layout) (layout-split layout) file words

  pub room_by : (ps : List Placed) (rows : Rows) → read_by (layout_rules layout) file words ≡ accepted (ps, rows)
      → Tokenized (layout_rules layout) file words ps × ReadingBy (layout_rules layout) (tokens_only ps) × Room words rows
  room_by = room_of (layout_rules layout) (layout-usable layout) (layout-split layout) file words

  pub has-by : (ps : List Placed) (rows : Rows) → read_by (layout_rules layout) file words ≡ accepted (ps, rows) → HasReadingBy (layout_rules layout) file
  has-by = has_of (layout_rules layout) (layout-usable layout) (layout-split layout) file words

-- by today's rules
module _ (file : List ℕ) (words : Sizes) where
  pub refused-numbered : (n place : ℕ) → read_of file words ≡ refused n place → Numbered (length file) n place
  unfolding layout_rules
  refused-numbered = numbered-by 0 file words

  pub accepted-room : (ps : List Placed) (rows : Rows) → read_of file words ≡ accepted (ps, rows)
      → Tokenized today file words ps × Reading (tokens_only ps) × Room words rows
  unfolding layout_rules
  accepted-room = room_by 0 file words

  pub accepted-has : (ps : List Placed) (rows : Rows) → read_of file words ≡ accepted (ps, rows) → HasReading file
  unfolding layout_rules
  accepted-has = has-by 0 file words

-- an old file: never 16, since a token that begins a file by the old rules is not refused
not-retired : {p : List Token} {t : Token} {n : ℕ} → NumberAt old_headers p t n → n ≡ 16 → ⊥
not-retired (NumberAt.taken b) z = omega arith
not-retired (NumberAt.retired f b) z = f b
not-retired (NumberAt.deep f l b) z = omega arith
not-retired (NumberAt.packet f v w) z = omega arith
not-retired (NumberAt.other f o) z = omega arith

bad-retired : (file : List ℕ) (ps : List Placed) (n place : ℕ) → Bad old_headers file ps n place → n ≡ 16 → ⊥
bad-retired file ps _ _ (Bad.token n p t q e b k h) z = not-retired h z
bad-retired file ps _ _ (Bad.end n b (NumberAtEnd.packet v w)) z = omega arith
bad-retired file ps _ _ (Bad.end n b (NumberAtEnd.other o)) z = omega arith

module _ (file : List ℕ) (words : Sizes) where
  never-retired : (n place : ℕ) → read_old file words ≡ refused n place → n ≡ 16 → ⊥
  never-retired n place = by (read_old file words) (reading-settled old_headers old-usable file words)
    where
      by : (o : ReadOutcome) → Settles old_headers file words o → o ≡ refused n place → n ≡ 16 → ⊥
      by _ (Settles.over_size h) d z = let a : 1 ≡ n = cc in omega arith
      by _ (Settles.unsplit m i small e) d z =
          let f : (2 ≤ m) × (m ≤ 6) × (i < length file) = tokens-faulty file m i (sym (old-split file) ∙ e) in
          let a : m ≡ n = cc in
          omega (arith, f)
      by _ (Settles.no_token_room ps small e h) d z = let a : 7 ≡ n = cc in omega arith
      by _ (Settles.no_reading ps m i f none b) d z = let a : m ≡ n = cc in bad-retired file ps m i b (a ∙ z)
      by _ (Settles.no_room ps table f r h) d z = let a : 7 ≡ n = cc in omega arith
      by _ (Settles.reads ps f r h) d z = impossible cc

  pub old-numbered : (n place : ℕ) → read_old file words ≡ refused n place → Numbered (length file) n place × (n ≡ 16 → ⊥)
  old-numbered n place e = (numbered_of old_headers old-usable old-split file words n place e, never-retired n place e)

  pub old-has : (ps : List Placed) (rows : Rows) → read_old file words ≡ accepted (ps, rows) → HasReadingBy old_headers file
  old-has = has_of old_headers old-usable old-split file words

pub read-answers : ReadAnswers
unfolding read_answer tables_of
read-answers layout file words = at (leb layout 1) refl
  where
    by : layout ≤ 1 → (o : ReadOutcome) → read_by (layout_rules layout) file words ≡ o → ReadAnswer layout file words (read_answer o) (tables_of o words)
    by l (refused n place) e = ReadAnswer.refusal n place l (numbered-by layout file words n place e)
    by l (accepted (ps, rows)) e = ReadAnswer.acceptance _ _ l refl refl (has-by layout file words ps rows e)

    at : (b : Bool) → leb layout 1 ≡ b → ReadAnswer layout file words (read_answer (read_in layout file words)) (tables_of (read_in layout file words) words)
    at true e = rw (in_layout layout file words (leb-true layout 1 e)) (by (leb-true layout 1 e) (read_by (layout_rules layout) file words) refl)
    at false e = rw (in-none layout file words (leb-false layout 1 e)) (ReadAnswer.no_layout (leb-false layout 1 e))
