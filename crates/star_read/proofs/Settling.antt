-- What an answer of `judge` tells of the outcome: a refusal is the outcome's, and no refusal means that the run is good and every table has room.
use mathlib.Core.Path.{◌≡◌, refl, sym, ◌∙◌, ap, subst}
use mathlib.Core.Bool.{Bool}
use mathlib.Core.List.{List}
use Prim.Native.Nat.{ℕ, ◌*◌, ◌≤◌}
use native.Mathlib.Omega.{arith}
use lib.Dec.{ltb}
use lib.ListN.{length}
use Rattle.std.specs.Prelude.{Err}
use Rattle.star_text.specs.Refusal.{number}
use Rattle.star_text.specs.declared.refusal.Refusal.{Refusal}
use Rattle.star_text.proofs.Refusals.{number-some}
use Rattle.star_text.specs.Outcome.{refused, accepted, then}
use Rattle.star_text.proofs.Outcome.{accepted-same, need-refused, then-accepted, then-refused, NotZero, told-refused, told-accepted}
use Rattle.star_text.proofs.Cases.{impossible, cond_cases}
use Rattle.star_rows.specs.Widths.{set_width, name_width, packet_width, value_width}
use Rattle.star_rows.specs.Rows.{holding, cleared_from}
use Rattle.star_rows.proofs.Stored.{stored-holding}
use Rattle.star_lex.specs.Rules.{layout_rules, at_stops}
use Rattle.star_lex.specs.Tokens.{Placed, token_row}
use Rattle.star_lex.specs.Split.{placed, tokens_of}
use Rattle.star_grammar.specs.Tables.{Rows, no_rows, set_words, name_words, packet_words, value_words}
use Rattle.star_grammar.specs.Machine.{Run, bad, good, run, start}
use Rattle.star_grammar.specs.Layout.{today_row}
use Rattle.star_parse.specs.Parsed.{Parsed, FourTables, Answers, Accepted, rows_run}
use Rattle.star_grammar.proofs.Widths.{set-wide, name-wide, packet-wide, value-wide}
use Rattle.star_lex.specs.Holds.{file_tokens}
use Rattle.star_unique.specs.Repeat.{nothing, first_repeat}
use Rattle.star_read.specs.Read.{ReadOutcome, FileRows, Sizes, decide, room_for, rows_fit, grammar_of}
use Rattle.star_read.specs.Demands.{Room}
use Rattle.star_read.specs.Answer.{read_answer, answer_of, tables, tables_of, words, Leaves, Tables}
use Rattle.star_read.specs.Judged.{HoldsToday, Judged, judged_of, Ran, Numbered, ClearedBehind, Tries}
use Rattle.star_read.specs.declared.Answer.{Answer}
use Rattle.star_read.proofs.Fitting.{rows-room}
use Rattle.star_read.proofs.Judging.{known-some, run-number}
use Rattle.star_read.proofs.Places.{held-run}

pub judged-refused : (o : ReadOutcome) (j : Judged) → j ≡ judged_of o → (j.refusal ≡ 0 → ⊥) → o ≡ refused j.refusal j.place
unfolding judged_of
judged-refused o j e f = told-refused o _ _ (ap (λ k. k.refusal) e) (ap (λ k. k.place) e) f

-- accepted: the run is good, and every table has room
pub record Settled (w : Sizes) (size : ℕ) (ps : List Placed) (taken : ℕ) (x : Run) : Type 0 where
  pub rows : Rows
  pub is-good : x ≡ good rows
  pub outcome : then (decide size ps taken x) (rows_fit w) ≡ accepted (ps, rows)
  pub room : Room w rows

-- the room refuses with 7
rows-number : (w : Sizes) (a : FileRows) → NotZero (rows_fit w a)
unfolding rows_fit room_for
rows-number w a n place e z =
    need-refused _ 7 2 _ n place e
    (λ p h. need-refused _ 7 3 _ n place h
    (λ q i. need-refused _ 7 4 _ n place i
    (λ r j. need-refused _ 7 5 _ n place j (λ s k. impossible cc) (λ s k l. omega arith)) (λ r k l. omega arith))
    (λ q k l. omega arith)) (λ p k l. omega arith)

-- what a run decides is refused with 9 or with the run's number
decide-number : (size : ℕ) (ps : List Placed) (taken : ℕ) (x : Run) → Numbered x → NotZero (decide size ps taken x)
unfolding decide
decide-number size ps taken (bad m i) f n place e z =
    cond_cases (ltb taken i) _ _ (refused n place) e (λ t h. let k : 9 ≡ n = cc in omega arith) (λ t h. let k : m ≡ n = cc in known-some m (f m i refl) (k ∙ z))
decide-number size ps taken (good rows) f n place e z =
    cond_cases (ltb taken (length ps)) _ _ (refused n place) e (λ t h. let k : 9 ≡ n = cc in omega arith) (λ t h. impossible cc)

-- what is accepted comes from a good run
decide-good : (size : ℕ) (ps : List Placed) (taken : ℕ) (x : Run) (qs : List Placed) (rows : Rows) → decide size ps taken x ≡ accepted (qs, rows)
    → (x ≡ good rows) × (ps ≡ qs)
unfolding decide
decide-good size ps taken (bad m i) qs rows e = cond_cases (ltb taken i) _ _ (accepted (qs, rows)) e (λ t h. impossible cc) (λ t h. impossible cc)
decide-good size ps taken (good us) qs rows e =
    cond_cases (ltb taken (length ps)) _ _ (accepted (qs, rows)) e (λ t h. impossible cc)
    (λ t h. let same : ◌≡◌ {A = FileRows} (ps, us) (qs, rows) = accepted-same h in (ap (λ p. good p.1) same, ap (λ p. p.0) same))

pub judged-number : (w : Sizes) (size : ℕ) (ps : List Placed) (taken : ℕ) (x : Run) → Numbered x
    → NotZero (then (decide size ps taken x) (rows_fit w))
judged-number w size ps taken x f n place e z =
    then-refused (decide size ps taken x) (rows_fit w) n place e
    (λ h. decide-number size ps taken x f n place h z)
    (λ a h k. rows-number w a n place k z)

pub settled : (w : Sizes) (size : ℕ) (ps : List Placed) (taken : ℕ) (x : Run) → Numbered x
    → (judged_of (then (decide size ps taken x) (rows_fit w))).refusal ≡ 0 → Settled w size ps taken x
unfolding judged_of
settled w size ps taken x f e =
    let (a, o) = told-accepted (then (decide size ps taken x) (rows_fit w)) (judged-number w size ps taken x f) e in
    let (b, d, fit) = then-accepted (decide size ps taken x) (rows_fit w) a o in
    let (same, room) = rows-room w b a fit in
    let (g, is) = decide-good size ps taken x b.0 b.1 d in
    record { rows = b.1; is-good = g; outcome = o ∙ ap (λ c. accepted c) (sym same) ∙ ap (λ q. accepted (q, b.1)) (sym is); room = room }

-- the rows stored and the tables cleared behind them
pub record Held (rows : Rows) (before after : FourTables) : Type 0 where
  pub sets : after.sets ≡ holding set_words rows.sets (length before.sets)
  pub names : after.names ≡ holding name_words rows.names (length before.names)
  pub packets : after.packets ≡ holding packet_words rows.packets (length before.packets)
  pub values : after.values ≡ holding value_words rows.values (length before.values)

pub cleared-held : (count : ℕ) (rows : Rows) (before mid after : FourTables) (r : Parsed) → Accepted count rows before r mid
    → ClearedBehind r mid after
    → length rows.sets * set_width ≤ length before.sets → length rows.names * name_width ≤ length before.names
    → length rows.packets * packet_width ≤ length before.packets → length rows.values * value_width ≤ length before.values
    → Held rows before after
cleared-held count rows before mid after r a k hs hn hp hv = record {
  sets = k.sets ∙ ap (λ n. cleared_from (n * set_width) mid.sets) a.sets ∙ ap (cleared_from (length rows.sets * set_width)) a.tables.sets
      ∙ stored-holding set_width set_words set-wide (omega arith) rows.sets before.sets hs;
  names = k.names ∙ ap (λ n. cleared_from (n * name_width) mid.names) a.names ∙ ap (cleared_from (length rows.names * name_width)) a.tables.names
      ∙ stored-holding name_width name_words name-wide (omega arith) rows.names before.names hn;
  packets = k.packets ∙ ap (λ n. cleared_from (n * packet_width) mid.packets) a.packets ∙ ap (cleared_from (length rows.packets * packet_width)) a.tables.packets
      ∙ stored-holding packet_width packet_words packet-wide (omega arith) rows.packets before.packets hp;
  values = k.values ∙ ap (λ n. cleared_from (n * value_width) mid.values) a.values ∙ ap (cleared_from (length rows.values * value_width)) a.tables.values
      ∙ stored-holding value_width value_words value-wide (omega arith) rows.values before.values hv;
}

-- the numbers of an answer of the rows' reader
pub answer-ran : (x : Run) (count : ℕ) (before after : FourTables) (r : Parsed) → Answers count x before r after → Ran x count r
answer-ran (bad n i) count before after r a = (a.refusal, a.tokens)
answer-ran (good rows) count before after r a = (a.refusal, a.tokens, a.sets, a.names, a.packets, a.values)

-- the tables 2 to 5 keep their lengths
pub record SameSizes (before after : FourTables) : Type 0 where
  pub sets : length after.sets ≡ length before.sets
  pub names : length after.names ≡ length before.names
  pub packets : length after.packets ≡ length before.packets
  pub values : length after.values ≡ length before.values

abbrev pub sizes_of : ℕ → FourTables → Sizes
sizes_of n t = words n (length t.sets) (length t.names) (length t.packets) (length t.values)

same-words : (n : ℕ) (before after : FourTables) → SameSizes before after → sizes_of n after ≡ sizes_of n before
same-words n before after k = rw (k.sets, k.names, k.packets, k.values)

module _ (layout : ℕ) (stops : Bool) (file table : List ℕ) (count : ℕ) (h : HoldsToday layout file table count) (before mid : FourTables) (k : SameSizes before mid) (r : Parsed)
    (a : Answers count (rows_run stops count table) before r mid) (taken : ℕ) (first : taken ≡ first_repeat nothing (today_row (at_stops (layout_rules layout) stops) (file_tokens file))) (j : Judged)
    (e : (x : Run) → Numbered x → Ran x count r → j ≡ judged_of (then (decide (length file) (placed (tokens_of file)) taken x) (rows_fit (sizes_of (length table) mid)))) where
  -- the run over the tokens
  abbrev ran : Run
  ran = run (at_stops (layout_rules layout) stops) start (today_row (at_stops (layout_rules layout) stops) (file_tokens file)) no_rows

  answers : Answers count ran before r mid
  answers = subst (λ x. Answers count x before r mid) (held-run layout stops file table count h) a

  judged-before : j ≡ judged_of (then (grammar_of (at_stops (layout_rules layout) stops) (length file) (placed (tokens_of file))) (rows_fit (sizes_of (length table) before)))
  unfolding grammar_of
  judged-before =
      e ran (run-number (at_stops (layout_rules layout) stops) start (today_row (at_stops (layout_rules layout) stops) (file_tokens file)) no_rows) (answer-ran ran count before mid r answers)
      ∙ λ i. judged_of (then (decide (length file) (placed (tokens_of file)) (first i) ran) (rows_fit (same-words (length table) before mid k i)))

  pub outcome-refused : (j.refusal ≡ 0 → ⊥)
      → then (grammar_of (at_stops (layout_rules layout) stops) (length file) (placed (tokens_of file))) (rows_fit (sizes_of (length table) before)) ≡ refused j.refusal j.place
  outcome-refused f = judged-refused _ j judged-before f

  pub outcome-settled : j.refusal ≡ 0
      → Settled (sizes_of (length table) before) (length file) (placed (tokens_of file)) (first_repeat nothing (today_row (at_stops (layout_rules layout) stops) (file_tokens file))) ran
  unfolding grammar_of
  outcome-settled z =
      settled _ _ _ _ _ (run-number (at_stops (layout_rules layout) stops) start (today_row (at_stops (layout_rules layout) stops) (file_tokens file)) no_rows) (sym (ap (λ g. g.refusal) judged-before) ∙ z)

  pub rows-accepted : (rows : Rows) → ran ≡ good rows → Accepted count rows before r mid
  rows-accepted rows g = subst (λ x. Answers count x before r mid) g answers

-- a refusal is answered as it is
pub refused-tries : {o : ReadOutcome} {before after : Tables} (r : Refusal) → o ≡ refused (number r.reason) r.place → Tries o before after (answer_of (Err r))
unfolding read_answer
refused-tries r e = record { answer = sym (ap read_answer e); leaves = λ z. absurd (number-some r.reason z) }

-- the answer of an accepted file by its counts
abbrev pub counted_by : ℕ → Parsed → Answer
counted_by count r = record {
  refusal = 0;
  place = 0;
  tokens = count;
  sets = r.sets;
  names = r.names;
  packets = r.packets;
  values = r.values;
}

-- the answer and the tables of an accepted file
pub accepted-answer : (o : ReadOutcome) (ps : List Placed) (rows : Rows) (count : ℕ) (before mid : FourTables) (r : Parsed) → o ≡ accepted (ps, rows)
    → count ≡ length ps → Accepted count rows before r mid → counted_by count r ≡ read_answer o
unfolding read_answer
accepted-answer o ps rows count before mid r e c a = rw (e, c, a.sets, a.names, a.packets, a.values)

pub accepted-leaves : (o : ReadOutcome) (ps : List Placed) (rows : Rows) (n : ℕ) (table : List ℕ) (before after : FourTables) → o ≡ accepted (ps, rows)
    → table ≡ holding token_row ps n → Held rows before after
    → Leaves o (sizes_of n before) (tables table after.sets after.names after.packets after.values)
unfolding tables_of
accepted-leaves o ps rows n table before after e t k =
    rw e (record { tokens = t; sets = k.sets; names = k.names; packets = k.packets; values = k.values })
