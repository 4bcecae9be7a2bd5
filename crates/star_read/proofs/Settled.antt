-- Reading is settled for every file and any tables, and in one way: each case of the outcome is one of the checks in their order, and what the
-- grammar decides is its verdict, which accepts where there is a reading and else names the first bad token.
use mathlib.Core.Path.{◌≡◌, refl, sym, ap, ◌∙◌}
use mathlib.Core.Bool.{Bool, true, false}
use mathlib.Core.List.{List}
use Prim.Native.Nat.{ℕ, ◌*◌, ◌≤◌, ◌<◌}
use borrow.Author.Tests.{le-leb, lt-leb, leb-true, leb-false}
use lib.Dec.{leb}
use lib.ListN.{length}
use Rattle.star_text.specs.Outcome.{refused, accepted, then, need}
use Rattle.star_text.proofs.Outcome.{refused≢accepted}
use Rattle.star_rows.specs.Rows.{has_room}
use Rattle.star_rows.specs.Widths.{token_width, set_width, name_width, packet_width, value_width}
use Rattle.star_text.specs.Bytes.{most_bytes}
use Rattle.star_lex.specs.Rules.{Rules}
use Rattle.star_lex.specs.Tokens.{Placed}
use Rattle.star_lex.specs.Split.{Split, tokens_by}
use Rattle.star_lex.specs.Answer.{tokens_in_by, tokens_fit}
use Rattle.star_grammar.specs.Tables.{Rows, rows_of}
use Rattle.star_grammar.specs.Reading.{ReadingBy}
use Rattle.star_read.specs.Read.{ReadOutcome, Sizes, tokens_only, grammar_of, room_for, rows_fit, read_by}
use Rattle.star_read.specs.Demands.{Usable, Room, Tokenized, Bad, Short, Settles, ReadingSettled, OneOutcome}
use Rattle.star_read.proofs.Verdict.{Verdict, verdict}
use Rattle.star_read.proofs.Fitting.{tokenized-read, room_fits}
use Rattle.star_read.proofs.FairFile.{accepted-reading}
use Rattle.star_read.proofs.FirstBad.{verdict-bad, bad-once}
use Rattle.star_read.proofs.Demand3.{accepted-verdict, reading-accepted}

-- rows that have room, or the lowest table that is too short
data Fits (words : Sizes) (ps : List Placed) (rows : Rows) : ReadOutcome → Type 0 where
  short : (table : ℕ) → Short words rows table → Fits words ps rows (refused 7 table)
  room : Room words rows → Fits words ps rows (accepted (ps, rows))

fits : (words : Sizes) (ps : List Placed) (rows : Rows) → Fits words ps rows (rows_fit words (ps, rows))
unfolding rows_fit room_for need
fits words ps rows =
    by (has_room (length rows.sets) set_width words.sets) refl (has_room (length rows.names) name_width words.names) refl
    (has_room (length rows.packets) packet_width words.packets) refl (has_room (length rows.values) value_width words.values) refl
  where
    by : (a : Bool) → has_room (length rows.sets) set_width words.sets ≡ a → (b : Bool) → has_room (length rows.names) name_width words.names ≡ b
        → (c : Bool) → has_room (length rows.packets) packet_width words.packets ≡ c → (d : Bool) → has_room (length rows.values) value_width words.values ≡ d
        → Fits words ps rows (rows_fit words (ps, rows))
    by false p b q c r d s = rw p (Fits.short 2 (Short.sets (leb-false _ _ p)))
    by true p false q c r d s = rw (p, q) (Fits.short 3 (Short.names (leb-true _ _ p) (leb-false _ _ q)))
    by true p true q false r d s = rw (p, q, r) (Fits.short 4 (Short.packets (leb-true _ _ p) (leb-true _ _ q) (leb-false _ _ r)))
    by true p true q true r false s =
        rw (p, q, r, s) (Fits.short 5 (Short.values (leb-true _ _ p) (leb-true _ _ q) (leb-true _ _ r) (leb-false _ _ s)))
    by true p true q true r true s =
        rw (p, q, r, s) (Fits.room (record { sets = leb-true _ _ p; names = leb-true _ _ q; packets = leb-true _ _ r; values = leb-true _ _ s }))

short-fits : (words : Sizes) (ps : List Placed) (rows : Rows) (table : ℕ) → Short words rows table → rows_fit words (ps, rows) ≡ refused 7 table
unfolding rows_fit room_for need
short-fits words ps rows table (Short.sets a) = rw (lt-leb _ _ a)
short-fits words ps rows table (Short.names a b) = rw (le-leb _ _ a, lt-leb _ _ b)
short-fits words ps rows table (Short.packets a b c) = rw (le-leb _ _ a, le-leb _ _ b, lt-leb _ _ c)
short-fits words ps rows table (Short.values a b c d) = rw (le-leb _ _ a, le-leb _ _ b, le-leb _ _ c, lt-leb _ _ d)

-- from the tokens on
module _ (rules : Rules) (usable : Usable rules) (file : List ℕ) (words : Sizes) (ps : List Placed) (f : Tokenized rules file words ps) where
  settles-rows : (r : ReadingBy rules (tokens_only ps)) (o : ReadOutcome) → Fits words ps (rows_of r.tree) o → Settles rules file words o
  settles-rows r o (Fits.short table h) = Settles.no_room ps table f r h
  settles-rows r o (Fits.room h) = Settles.reads ps f r h

  settles-grammar : (o : ReadOutcome) → grammar_of rules (length file) ps ≡ o → Verdict rules ps (length file) o → Settles rules file words (then o (rows_fit words))
  unfolding then
  settles-grammar (refused n place) e v =
      Settles.no_reading ps n place f (λ r. refused≢accepted n place (ps, rows_of r.tree) (sym e ∙ reading-accepted rules ps (length file) r))
      (verdict-bad rules usable file words ps f n place (refused n place) v refl)
  settles-grammar (accepted (qs, rows)) e v =
      let k = accepted-verdict rules ps qs (length file) rows _ v refl in
      let r : (r : ReadingBy rules (tokens_only ps)) × (rows ≡ rows_of r.tree) = accepted-reading rules usable file words ps f rows k.1 k.2 in
      rw (← k.0, r.1) (settles-rows r.0 _ (fits words ps (rows_of r.0.tree)))

-- the checks before the grammar
module _ (rules : Rules) (usable : Usable rules) (file : List ℕ) (words : Sizes) where
  over-size-read : most_bytes < length file → read_by rules file words ≡ refused 1 0
  unfolding read_by tokens_in_by need then
  over-size-read h = rw (lt-leb (length file) most_bytes h)

  unsplit-read : (n place : ℕ) → length file ≤ most_bytes → tokens_by rules file ≡ refused n place → read_by rules file words ≡ refused n place
  unfolding read_by tokens_in_by tokens_fit need then
  unsplit-read n place small e = rw (le-leb (length file) most_bytes small, e)

  no-room-read : (ps : List Placed) → length file ≤ most_bytes → tokens_by rules file ≡ accepted ps → words.tokens < length ps * token_width
      → read_by rules file words ≡ refused 7 1
  unfolding read_by tokens_in_by tokens_fit need then
  no-room-read ps small e h = rw (le-leb (length file) most_bytes small, e, lt-leb (length ps * token_width) words.tokens h)

pub reading-settled : ReadingSettled
reading-settled rules usable file words = by_size (leb (length file) most_bytes) refl
  where
    by_room : (ps : List Placed) → length file ≤ most_bytes → tokens_by rules file ≡ accepted ps → (b : Bool) → leb (length ps * token_width) words.tokens ≡ b
        → Settles rules file words (read_by rules file words)
    by_room ps small e true d =
        let f : Tokenized rules file words ps = record { small = small; splits = e; room = leb-true _ _ d } in
        rw (tokenized-read rules file words ps f) (settles-grammar rules usable file words ps f (grammar_of rules (length file) ps) refl (verdict rules ps (length file)))
    by_room ps small e false d =
        let h : words.tokens < length ps * 3 = leb-false _ _ d in
        rw (no-room-read rules usable file words ps small e h) (Settles.no_token_room ps small e h)

    by_split : length file ≤ most_bytes → (s : Split) → tokens_by rules file ≡ s → Settles rules file words (read_by rules file words)
    by_split small (refused n place) e = rw (unsplit-read rules usable file words n place small e) (Settles.unsplit n place small e)
    by_split small (accepted ps) e = by_room ps small e (leb (length ps * token_width) words.tokens) refl

    by_size : (b : Bool) → leb (length file) most_bytes ≡ b → Settles rules file words (read_by rules file words)
    by_size true d = by_split (leb-true _ _ d) (tokens_by rules file) refl
    by_size false d = let h : most_bytes < length file = leb-false _ _ d in rw (over-size-read rules usable file words h) (Settles.over_size h)

-- what is settled is what is read
module _ (rules : Rules) (usable : Usable rules) (file : List ℕ) (words : Sizes) where
  read-rows : (ps : List Placed) → Tokenized rules file words ps → (r : ReadingBy rules (tokens_only ps)) → read_by rules file words ≡ rows_fit words (ps, rows_of r.tree)
  unfolding then
  read-rows ps f r = tokenized-read rules file words ps f ∙ ap (λ o. then o (rows_fit words)) (reading-accepted rules ps (length file) r)

  read-bad : (ps : List Placed) (n place : ℕ) → Tokenized rules file words ps → (ReadingBy rules (tokens_only ps) → ⊥) → Bad rules file ps n place → read_by rules file words ≡ refused n place
  unfolding then
  read-bad ps n place f none b = tokenized-read rules file words ps f ∙ by (grammar_of rules (length file) ps) (verdict rules ps (length file))
    where
      by : (o : ReadOutcome) → Verdict rules ps (length file) o → then o (rows_fit words) ≡ refused n place
      by (refused m i) v = let k : (m ≡ n) × (i ≡ place) = bad-once rules (verdict-bad rules usable file words ps f m i (refused m i) v refl) b in cc (k.0, k.1)
      by (accepted (qs, rows)) v =
          let k = accepted-verdict rules ps qs (length file) rows _ v refl in
          absurd (none (accepted-reading rules usable file words ps f rows k.1 k.2).0)

  settled-read : (o : ReadOutcome) → Settles rules file words o → read_by rules file words ≡ o
  settled-read _ (Settles.over_size h) = over-size-read rules usable file words h
  settled-read _ (Settles.unsplit n place small e) = unsplit-read rules usable file words n place small e
  settled-read _ (Settles.no_token_room ps small e h) = no-room-read rules usable file words ps small e h
  settled-read _ (Settles.no_reading ps n place f none b) = read-bad ps n place f none b
  settled-read _ (Settles.no_room ps table f r h) = read-rows ps f r ∙ short-fits words ps (rows_of r.tree) table h
  settled-read _ (Settles.reads ps f r h) = read-rows ps f r ∙ room_fits words ps (rows_of r.tree) h

pub one-outcome : OneOutcome
one-outcome rules usable file words o u a b = sym (settled-read rules usable file words o a) ∙ settled-read rules usable file words u b
