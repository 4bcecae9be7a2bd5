-- What an answer of reading tells: a number other than 0 is the refusal's, and 0 means that the file was accepted; then table 1 holds its tokens.
use mathlib.Core.Path.{◌≡◌, refl, sym, ◌∙◌, ap}
use mathlib.Core.List.{List}
use Prim.Native.Nat.{ℕ}
use native.Mathlib.Omega.{arith}
use lib.Dec.{leb}
use lib.ListN.{length}
use Rattle.star_text.specs.Outcome.{refused, accepted, need}
use Rattle.star_text.proofs.Outcome.{need-refused, then-accepted, then-refused, NotZero}
use Rattle.star_rows.specs.Rows.{holding}
use Rattle.star_rows.proofs.Held.{length-holding}
use Rattle.star_lex.specs.Rules.{Rules, today, old_headers, layout_rules}
use Rattle.star_lex.specs.Tokens.{Placed, token_row}
use Rattle.star_lex.specs.Split.{placed, tokens_by, tokens_of}
use Rattle.star_lex.specs.Answer.{tokens_in_by, tokens_in, table_of}
use Rattle.star_lex.proofs.Splitting.{row-wide}
use Rattle.star_lex.proofs.Answers.{tokens-accepted, in-number, in-fits}
use Rattle.star_grammar.specs.Tables.{Rows, no_rows, rows_of}
use Rattle.star_grammar.specs.Reading.{ReadingBy}
use Rattle.star_grammar.specs.Machine.{start}
use Rattle.star_grammar.specs.Layout.{today_row}
use Rattle.star_lex.specs.Holds.{Holds, file_tokens}
use Rattle.star_read.specs.Read.{ReadOutcome, Sizes, tokens_only, grammar_of, read_by, read_in, Way, in_layout, as_old, way_rules, read_via, read_of}
use Rattle.star_read.specs.Demands.{Usable}
use Rattle.star_lex.proofs.Held.{table-holds}
use Rattle.star_read.specs.Answer.{read_answer, Tables, tables_of, Leaves}
use Rattle.star_read.specs.declared.Answer.{Answer}
use Rattle.star_read.proofs.InLayout.{layout-usable, layout-split, old-split, in-accepted}
use Rattle.star_read.proofs.Usable.{old-usable}
use Rattle.star_read.proofs.Demand3.{rows-of-reading}
use Rattle.star_read.proofs.Judging.{run-number}
use Rattle.star_read.proofs.Settling.{judged-number}

-- by rules that split a file as today's do
module _ (rules : Rules) (usable : Usable rules) (splits : (file : List ℕ) → tokens_by rules file ≡ tokens_of file) (file : List ℕ) (w : Sizes) where
  same-tokens : tokens_in_by rules file w.tokens ≡ tokens_in file w.tokens
  unfolding tokens_in_by
  same-tokens = rw (splits file)

  pub number_by : NotZero (read_by rules file w)
  unfolding read_by grammar_of
  number_by n place k z =
      then-refused (tokens_in_by rules file w.tokens) _ n place k
      (λ h. in-number file w.tokens n place (sym same-tokens ∙ h) z)
      (λ ps h k. judged-number w _ ps _ _ (run-number rules start (today_row rules (tokens_only ps)) no_rows) n place k z)

  module _ (ps : List Placed) (rows : Rows) (e : read_by rules file w ≡ accepted (ps, rows)) where
    -- its tokens are those of the split
    pub split_by : tokens_of file ≡ accepted ps
    split_by = sym (splits file) ∙ (rows-of-reading rules usable file w ps rows e).0

    table-tokens : tokens_in file w.tokens ≡ accepted ps
    unfolding read_by
    table-tokens =
        let (qs, d, h) = then-accepted (tokens_in_by rules file w.tokens) _ (ps, rows) e in
        let k : tokens_in file w.tokens ≡ accepted qs = sym same-tokens ∙ d in
        k ∙ sym (tokens-accepted file w.tokens qs k) ∙ split_by

    -- table 1 as acceptance leaves it
    pub holds_by : Holds file (holding token_row ps w.tokens) (length ps)
    unfolding table_of
    holds_by =
        table-holds file w.tokens ps table-tokens _ (length ps) refl
        (length-holding 3 token_row row-wide (omega arith) ps w.tokens (in-fits today file w.tokens ps table-tokens).2)
        (sym (ap (λ s. table_of s w.tokens) table-tokens))

    -- its tokens are the file's
    pub tokens-by : tokens_only ps ≡ file_tokens file
    unfolding placed
    tokens-by = ap (λ s. tokens_only (placed s)) (sym split_by)

    -- table 1 as reading has left it holds the tokens
    pub left_by : (o : ReadOutcome) → o ≡ accepted (ps, rows) → (t : Tables) (count : ℕ) → Leaves o w t → count ≡ length ps → Holds file t.tokens count
    unfolding tables_of
    left_by o d t count l c =
        let table : t.tokens ≡ holding token_row ps w.tokens = l.tokens ∙ ap (λ o. (tables_of o w).tokens) d in
        rw (table, c) holds_by

-- an answer of refusal 0 is of an accepted file
pub answer-rows : (o : ReadOutcome) → NotZero o → (r : Answer) → r ≡ read_answer o → r.refusal ≡ 0 → (ps : List Placed) × (rows : Rows) × (o ≡ accepted (ps, rows))
unfolding read_answer
answer-rows (refused n place) f r e z = absurd (f n place refl (sym (ap (λ t. t.refusal) e) ∙ z))
answer-rows (accepted (ps, rows)) f r e z = (ps, rows, refl)

pub counted-rows : (o : ReadOutcome) (r : Answer) (ps : List Placed) (rows : Rows) → r ≡ read_answer o → o ≡ accepted (ps, rows) → r.tokens ≡ length ps
unfolding read_answer
counted-rows o r ps rows e d = ap (λ s. s.tokens) (e ∙ ap read_answer d)

-- in a layout
module _ (layout : ℕ) (file : List ℕ) (w : Sizes) where
  pub number_in : NotZero (read_in layout file w)
  unfolding read_in
  number_in n place e z =
      need-refused (leb layout 1) 14 0 _ n place e
      (λ l k. number_by (layout_rules layout) (layout-usable layout) (layout-split layout) file w n place k z)
      (λ l a b. omega (arith, a))

  pub accepted-in : (r : Answer) → r ≡ read_answer (read_in layout file w) → r.refusal ≡ 0 → (ps : List Placed) × (rows : Rows) × (read_in layout file w ≡ accepted (ps, rows))
  accepted-in = answer-rows (read_in layout file w) number_in

  module _ (ps : List Placed) (rows : Rows) (e : read_in layout file w ≡ accepted (ps, rows)) where
    by : read_by (layout_rules layout) file w ≡ accepted (ps, rows)
    by = (in-accepted layout file w (ps, rows) e).1

    pub split-in : tokens_of file ≡ accepted ps
    split-in = split_by (layout_rules layout) (layout-usable layout) (layout-split layout) file w ps rows by

    pub holds-in : Holds file (holding token_row ps w.tokens) (length ps)
    holds-in = holds_by (layout_rules layout) (layout-usable layout) (layout-split layout) file w ps rows by

    pub tokens-are : tokens_only ps ≡ file_tokens file
    tokens-are = tokens-by (layout_rules layout) (layout-usable layout) (layout-split layout) file w ps rows by

    pub left_in : (t : Tables) (count : ℕ) → Leaves (read_in layout file w) w t → count ≡ length ps → Holds file t.tokens count
    left_in = left_by (layout_rules layout) (layout-usable layout) (layout-split layout) file w ps rows by (read_in layout file w) e

  pub read-holds-in : (r : Answer) → r ≡ read_answer (read_in layout file w) → (t : Tables) → Leaves (read_in layout file w) w t → r.refusal ≡ 0 → Holds file t.tokens r.tokens
  read-holds-in r e t l z =
      let a = accepted-in r e z in
      left_in a.0 a.1 a.2 t r.tokens l (counted-rows _ r _ _ e a.2)

-- in a layout or as an old file
module _ (file : List ℕ) (w : Sizes) where
  pub number-via : (way : Way) → NotZero (read_via way file w)
  number-via (in_layout layout) = number_in layout file w
  number-via as_old = number_by old_headers old-usable old-split file w

  module _ (ps : List Placed) (rows : Rows) where
    pub split-via : (way : Way) → read_via way file w ≡ accepted (ps, rows) → tokens_of file ≡ accepted ps
    split-via (in_layout layout) e = split-in layout file w ps rows e
    split-via as_old e = split_by old_headers old-usable old-split file w ps rows e

    pub holds-via : (way : Way) → read_via way file w ≡ accepted (ps, rows) → Holds file (holding token_row ps w.tokens) (length ps)
    holds-via (in_layout layout) e = holds-in layout file w ps rows e
    holds-via as_old e = holds_by old_headers old-usable old-split file w ps rows e

    pub tokens-via : (way : Way) → read_via way file w ≡ accepted (ps, rows) → tokens_only ps ≡ file_tokens file
    unfolding placed
    tokens-via way e = ap (λ s. tokens_only (placed s)) (sym (split-via way e))

    pub rows-via : (way : Way) → read_via way file w ≡ accepted (ps, rows) → (r : ReadingBy (way_rules way) (tokens_only ps)) × (rows ≡ rows_of r.tree)
    rows-via (in_layout layout) e =
        let k = rows-of-reading (layout_rules layout) (layout-usable layout) file w ps rows (in-accepted layout file w (ps, rows) e).1 in (k.1, k.2)
    rows-via as_old e = let k = rows-of-reading old_headers old-usable file w ps rows e in (k.1, k.2)

    -- table 1 as reading has left it holds the tokens
    pub left-via : (way : Way) → read_via way file w ≡ accepted (ps, rows) → (t : Tables) (count : ℕ) → Leaves (read_via way file w) w t → count ≡ length ps → Holds file t.tokens count
    unfolding tables_of
    left-via way e t count l c =
        let table : t.tokens ≡ holding token_row ps w.tokens = l.tokens ∙ ap (λ o. (tables_of o w).tokens) e in
        rw (table, c) (holds-via way e)

  pub read-holds-via : (way : Way) (r : Answer) → r ≡ read_answer (read_via way file w) → (t : Tables) → Leaves (read_via way file w) w t → r.refusal ≡ 0 → Holds file t.tokens r.tokens
  read-holds-via way r e t l z =
      let a = answer-rows (read_via way file w) (number-via way) r e z in
      left-via a.0 a.1 way a.2 t r.tokens l (counted-rows _ r _ _ e a.2)

pub answer-refused : (o : ReadOutcome) (r : Answer) → r ≡ read_answer o → (r.refusal ≡ 0 → ⊥) → o ≡ refused r.refusal r.place
unfolding read_answer
answer-refused (refused n place) r e f =
    let a : r.refusal ≡ n = ap (λ t. t.refusal) e in
    let b : r.place ≡ place = ap (λ t. t.place) e in
    cc
answer-refused (accepted (ps, rows)) r e f = absurd (f (ap (λ t. t.refusal) e))

-- by today's rules
module _ (file : List ℕ) (w : Sizes) where
  pub read_number : NotZero (read_of file w)
  unfolding read_in layout_rules need
  read_number = number_in 0 file w

  pub answer-accepted : (r : Answer) → r ≡ read_answer (read_of file w) → r.refusal ≡ 0 → (ps : List Placed) × (rows : Rows) × (read_of file w ≡ accepted (ps, rows))
  unfolding read_in layout_rules need
  answer-accepted = accepted-in 0 file w

  pub accepted-holds : (ps : List Placed) (rows : Rows) → read_of file w ≡ accepted (ps, rows) → Holds file (holding token_row ps w.tokens) (length ps)
  unfolding read_in layout_rules need
  accepted-holds = holds-in 0 file w

  pub tokens-file : (ps : List Placed) (rows : Rows) → read_of file w ≡ accepted (ps, rows) → tokens_only ps ≡ file_tokens file
  unfolding read_in layout_rules need
  tokens-file = tokens-are 0 file w

  pub left-holds : (ps : List Placed) (rows : Rows) → read_of file w ≡ accepted (ps, rows) → (t : Tables) (count : ℕ) → Leaves (read_of file w) w t → count ≡ length ps → Holds file t.tokens count
  unfolding read_in layout_rules need
  left-holds = left_in 0 file w

  pub read-holds : (r : Answer) → r ≡ read_answer (read_of file w) → (t : Tables) → Leaves (read_of file w) w t → r.refusal ≡ 0 → Holds file t.tokens r.tokens
  unfolding read_in layout_rules need
  read-holds = read-holds-in 0 file w
