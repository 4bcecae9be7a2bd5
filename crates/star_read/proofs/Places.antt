-- Table 1 of a layout with the kinds of today's: it tells the place of each token, its run is that of the tokens as today's layout has them, and where they are accepted the kinds are put back.
use mathlib.Core.Path.{◌≡◌, refl, sym, ◌∙◌, ap, subst}
use mathlib.Core.Bool.{Bool, true, false, cond, ◌&&◌}
use mathlib.Core.List.{List, [], ◌∷◌, map}
use Prim.Native.Nat.{ℕ, suc, ◌+◌, ◌-◌, ◌*◌, ◌≤◌, ◌<◌}
use native.Mathlib.Omega.{arith}
use borrow.Author.Tests.{eqb-true, eqb-false}
use lib.Dec.{eqb}
use lib.ListN.{length, get_or}
use Rattle.star_lex.specs.Rules.{Rules, today, rules1991, at_stops, layout_rules}
use Rattle.star_lex.specs.Tokens.{Token, Placed, Each, opening}
use Rattle.star_lex.specs.Split.{placed, tokens_of}
use Rattle.star_lex.specs.Table.{first_byte}
use Rattle.star_lex.specs.Holds.{Holds, file_tokens}
use Rattle.star_lex.proofs.Each.{each_at}
use Rattle.star_text.specs.Outcome.{accepted}
use Rattle.star_lex.specs.Answer.{tokens_in, table_of}
use Rattle.star_lex.proofs.Held.{nowhere, held-row, count-tokens, count_small, table-holds}
use Rattle.star_lex.proofs.Table.{first-row}
use Rattle.star_grammar.specs.Tables.{Rows, no_rows}
use Rattle.star_grammar.specs.Machine.{good, run, start}
use Rattle.star_grammar.specs.Layout.{Track, is_between, today_kind, today_row, track_at, today_kind_at, old_token, old_row, layout_row}
use Rattle.star_grammar.specs.Tree.{stop}
use Rattle.star_grammar.proofs.Rest.{Fixed}
use Rattle.star_grammar.proofs.Images.{today-at, row-length}
use Rattle.star_grammar.proofs.Yields.{row_by}
use Rattle.star_grammar.proofs.Walking.{good-walks}
use Rattle.star_grammar.proofs.Formed.{each-fixed}
use Rattle.star_grammar.proofs.Longest.{run-same}
use Rattle.star_frames.specs.Frames.{kind_of, closed_frames, opened_frames, as_today, from_today}
use Rattle.star_frames.proofs.Retagging.{Retagged}
use Rattle.star_frames.proofs.Closing.{closed-by, open-close}
use Rattle.star_frames.proofs.Layouts.{as-length}
use Rattle.star_parse.specs.Parsed.{kind_tokens, rows_run}
use Rattle.star_parse.proofs.RunKinds.{run-kinds, run-holding, length-kinds, kind_at, rows_run_lem}
use Rattle.star_unique.specs.Chain.{held_table}
use Rattle.star_unique.proofs.KindWords.{all-formed}
use Rattle.star_read.specs.Judged.{Places, HoldsToday}
use Rattle.star_read.proofs.Judging.{place-held}

-- what stands before a content is as long for the kind that a token has today
opening-today : (t : Track) (k : ℕ) → length (opening (today_kind t k)) ≡ length (opening k)
unfolding today_kind opening
opening-today t k = by t.inside (eqb k 3) refl (eqb k 5) refl (is_between t)
  where
    by : (i a : Bool) → eqb k 3 ≡ a → (b : Bool) → eqb k 5 ≡ b → (c : Bool) → length (opening (cond i (cond a 12 (cond (b && c) 3 k)) k)) ≡ length (opening k)
    by false a p b q c = refl
    by true true p b q c = rw (eqb-true k 3 p)
    by true false p true q true = rw (eqb-true k 5 q)
    by true false p true q false = refl
    by true false p false q c = refl

-- two rows of the same kinds
kinds-same : (ts us : List Token) (d : Token) → length ts ≡ length us → ((m : ℕ) → m < length us → (get_or ts m d).kind ≡ (get_or us m d).kind) → map (λ t. t.kind) ts ≡ map (λ t. t.kind) us
kinds-same [] [] d n h = refl
kinds-same [] (u ∷ us) d n h = absurd (omega (arith, n))
kinds-same (t ∷ ts) [] d n h = absurd (omega (arith, n))
kinds-same (t ∷ ts) (u ∷ us) d n h = λ i. h 0 (omega arith) i ∷ kinds-same ts us d (omega (arith, n)) (λ m k. h (suc m) (omega arith)) i

-- a row in the 1991 layout has no `save_` alone
abbrev pub NotEnd : Token → Type 0
NotEnd t = t.kind ≡ 3 → ⊥

pub old-none : (ts : List Token) → Each NotEnd (old_row ts)
unfolding old_row old_token stop
old-none [] = tt
old-none (t ∷ ts) = (by (eqb t.kind 3) refl, old-none ts)
  where
    by : (b : Bool) → eqb t.kind 3 ≡ b → NotEnd (cond b stop t)
    by true e = λ k. omega (arith, k)
    by false e = eqb-false t.kind 3 e

module _ (stops : Bool) (file words : List ℕ) (count : ℕ) (h : Holds file words count) where
  abbrev ts : List Token
  ts = file_tokens file

  counted : length ts ≡ count
  counted = sym (count-tokens file words count h)

  room : count * 3 ≤ length words
  room = omega (arith, h.room, h.count_is)

  -- today's layout
  whole-places : Places file words count
  whole-places = record { small = h.small; count_is = h.count_is; firsts = place-held file words count h }

  pub whole_run : rows_run stops count words ≡ run (at_stops today stops) start (file_tokens file) no_rows
  whole_run =
      rows_run_lem stops count words room (count_small file words count h)
      ∙ ap (λ n. run (at_stops today stops) start (kind_tokens n words) no_rows) h.count_is
      ∙ ap (λ t. run (at_stops today stops) start (kind_tokens (length (placed (tokens_of file))) t) no_rows) h.rows
      ∙ run-holding (at_stops today stops) start (placed (tokens_of file)) (length words) no_rows

  -- the 1991 layout
  abbrev old : Rules
  old = at_stops rules1991 stops

  abbrev after : List ℕ
  after = closed_frames count words

  closed : Retagged (today_kind_at 8 (kind_of words)) count words after
  closed = closed-by count words room (count_small file words count h)

  closed-first : (m : ℕ) → m < count → first_byte after m ≡ first_byte words m
  unfolding today_kind_at
  closed-first m below =
      first-row after m (omega (arith, closed.size, room))
      ∙ (λ i. closed.starts m i - length (opening (closed.rows m below i)))
      ∙ ap (λ n. get_or words (m * 3 + 1) 0 - n) (opening-today (track_at 8 (kind_of words) m) (kind_of words m))
      ∙ sym (first-row words m (omega (arith, room)))

  closed-places : Places file after count
  closed-places = record { small = h.small; count_is = h.count_is; firsts = λ m below. closed-first m below ∙ place-held file words count h m below }

  closed-kinds : map (λ t. t.kind) (kind_tokens count after) ≡ map (λ t. t.kind) (today_row old ts)
  unfolding today_row
  closed-kinds =
      kinds-same (kind_tokens count after) (today_row old ts) nowhere.token (length-kinds count after ∙ sym counted ∙ sym (row-length old ts))
      (λ m below.
      let few : m < count = omega (arith, row-length old ts, counted) in
      kind_at count after m nowhere.token few ∙ closed.rows m few
      ∙ today-at 8 (kind_of words) ts nowhere.token (λ i k. (held-row file words count h i (omega (arith, counted))).kind) m (omega (arith, counted)))

  closed_run : rows_run stops count after ≡ run old start (today_row old (file_tokens file)) no_rows
  closed_run =
      rows_run_lem stops count after (omega (arith, closed.size, room)) (count_small file words count h)
      ∙ run-kinds (at_stops today stops) start (kind_tokens count after) (today_row old ts) no_rows closed-kinds
      ∙ sym (run-same old (at_stops today stops) refl refl start (today_row old ts) no_rows)

  -- the kinds of an accepted file are put back
  put-closed : (rows : Rows) → run old start (today_row old (file_tokens file)) no_rows ≡ good rows → opened_frames count after ≡ words
  unfolding layout_row
  put-closed rows e =
      let fixed : Each Fixed (file_tokens file) = each-fixed today (file_tokens file) (all-formed file) in
      let back : old_row (today_row old (file_tokens file)) ≡ file_tokens file = row_by old (file_tokens file) fixed (good-walks old (today_row old (file_tokens file)) start no_rows rows e) in
      let ends : Each NotEnd (file_tokens file) = subst (Each NotEnd) back (old-none (today_row old (file_tokens file))) in
      open-close count words (λ m below k.
      each_at NotEnd (file_tokens file) m nowhere.token (omega (arith, count-tokens file words count h)) ends (sym (held-row file words count h m below).kind ∙ k))

module _ (layout : ℕ) (file words : List ℕ) (count : ℕ) (h : HoldsToday layout file words count) where
  pub held-places : Places file words count
  unfolding as_today
  held-places = subst (λ (ws : List ℕ). Places file ws count) (sym h.rows) (by (eqb layout 1))
    where
      by : (b : Bool) → Places file (cond b (closed_frames count (held_table file (length words))) (held_table file (length words))) count
      by true = closed-places false file (held_table file (length words)) count h.table
      by false = whole-places false file (held_table file (length words)) count h.table

module _ (layout : ℕ) (stops : Bool) (file words : List ℕ) (count : ℕ) (h : HoldsToday layout file words count) where
  pub held-run : rows_run stops count words ≡ run (at_stops (layout_rules layout) stops) start (today_row (at_stops (layout_rules layout) stops) (file_tokens file)) no_rows
  unfolding as_today layout_rules today_row
  held-run = ap (rows_run stops count) h.rows ∙ by (eqb layout 1)
    where
      by : (b : Bool) → rows_run stops count (cond b (closed_frames count (held_table file (length words))) (held_table file (length words)))
          ≡ run (at_stops (cond b rules1991 today) stops) start (today_row (at_stops (cond b rules1991 today) stops) (file_tokens file)) no_rows
      by true = closed_run stops file (held_table file (length words)) count h.table
      by false = whole_run stops file (held_table file (length words)) count h.table

  -- where the run accepts, the kinds are put back
  pub put_back : (rows : Rows) → run (at_stops (layout_rules layout) stops) start (today_row (at_stops (layout_rules layout) stops) (file_tokens file)) no_rows ≡ good rows
      → from_today layout count words ≡ held_table file (length words)
  unfolding as_today from_today layout_rules
  put_back rows e = ap (from_today layout count) h.rows ∙ by (eqb layout 1) e
    where
      by : (b : Bool) → run (at_stops (cond b rules1991 today) stops) start (today_row (at_stops (cond b rules1991 today) stops) (file_tokens file)) no_rows ≡ good rows
          → cond b (opened_frames count (cond b (closed_frames count (held_table file (length words))) (held_table file (length words)))) (cond b (closed_frames count (held_table file (length words))) (held_table file (length words)))
          ≡ held_table file (length words)
      by true g = put-closed stops file (held_table file (length words)) count h.table rows g
      by false g = refl

-- the table that splitting and comparing leaves
pub holds-today : (layout : ℕ) (file : List ℕ) (words : ℕ) (ps : List Placed) → tokens_in file words ≡ accepted ps → (table : List ℕ) (count : ℕ) → count ≡ length ps → length table ≡ words
    → table ≡ as_today layout (length (placed (tokens_in file words))) (table_of (tokens_in file words) words) → HoldsToday layout file table count
unfolding placed
holds-today layout file words ps e table count c l t =
    let first : List ℕ = table_of (tokens_in file words) words in
    let size : length first ≡ length table = sym (ap length t ∙ as-length layout (length (placed (tokens_in file words))) first) in
    let h : Holds file first count = table-holds file words ps e first count c (size ∙ l) refl in
    let held : first ≡ held_table file (length table) = h.rows ∙ ap (held_table file) size in
    let counted : length (placed (tokens_in file words)) ≡ count = ap (λ s. length (placed s)) e ∙ sym c in
    record { table = subst (λ (ws : List ℕ). Holds file ws count) held h; rows = t ∙ λ i. as_today layout (counted i) (held i) }
