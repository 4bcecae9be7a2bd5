-- Demand 3: a file is accepted exactly when it has a reading, which is the only one and gives the rows; a refused one is refused at the first
-- token that, with those before it, begins no file with a reading, or at its end. The machine takes a row of tokens as far as the row begins
-- a file.
use mathlib.Core.Path.{◌≡◌, refl, sym, ap, ◌∙◌}
use mathlib.Core.List.{List}
use Prim.Native.Nat.{ℕ}
use native.Mathlib.Omega.{arith}
use borrow.Author.Tests.{le-ltb}
use lib.ListN.{length, length-map}
use Rattle.star_text.specs.Outcome.{refused, accepted, then}
use Rattle.star_text.proofs.Outcome.{refused≢accepted, accepted-same, then-accepted}
use Rattle.star_lex.specs.Rules.{Rules}
use Rattle.star_lex.specs.Tokens.{Placed}
use Rattle.star_lex.specs.Answer.{tokens_in_by}
use Rattle.star_lex.proofs.Cases.{impossible}
use Rattle.star_lex.proofs.WellFormed.{well-formed-by}
use Rattle.star_lex.proofs.Answers.{in-fits}
use Rattle.star_grammar.specs.Tables.{Rows, no_rows, rows_of}
use Rattle.star_grammar.specs.Reading.{ReadingBy}
use Rattle.star_grammar.specs.Machine.{start, good, run}
use Rattle.star_grammar.specs.Layout.{today_row}
use Rattle.star_grammar.proofs.Yields.{one-tree}
use Rattle.star_grammar.proofs.Images.{row-length}
use Rattle.star_unique.specs.Repeat.{nothing}
use Rattle.star_unique.proofs.Clean.{Clean, clean-repeat}
use Rattle.star_read.specs.Read.{FileRows, ReadOutcome, Sizes, tokens_only, decide, grammar_of, rows_fit, read_by}
use Rattle.star_read.specs.Demands.{Usable, Room, Tokenized, Fair, FirstBad, Bad, AcceptedExactly, OneReading, RowsOfReading, PlaceOfRefusal}
use Rattle.star_read.proofs.Readings.{reading-run, reading-clean, run-reading}
use Rattle.star_read.proofs.Verdict.{Verdict, verdict}
use Rattle.star_read.proofs.Fitting.{tokenized-read, room_fits, fits-accepted}
use Rattle.star_read.proofs.FairFile.{accepted-fits}
use Rattle.star_read.proofs.FirstBad.{verdict-bad}

-- a row that the grammar accepts
pub accepted-verdict : (rules : Rules) (ps qs : List Placed) (size : ℕ) (rows : Rows) (o : ReadOutcome) → Verdict rules ps size o → o ≡ accepted (qs, rows)
    → (ps ≡ qs) × (run rules start (today_row rules (tokens_only ps)) no_rows ≡ good rows) × Clean nothing (today_row rules (tokens_only ps))
accepted-verdict rules ps qs size rows o (Verdict.reads u e c) q =
    let same : ◌≡◌ {A = FileRows} (ps, u) (qs, rows) = accepted-same q in
    (ap (λ p. p.0) same, e ∙ ap (λ p. good p.1) same, c)
accepted-verdict rules ps qs size rows o (Verdict.repeats place p t q e l c w k) d = impossible cc
accepted-verdict rules ps qs size rows o (Verdict.halts n place p t q e l c st r w k) d = impossible cc
accepted-verdict rules ps qs size rows o (Verdict.ends n place i l c st r w k) d = impossible cc

-- a reading makes the grammar accept
pub reading-accepted : (rules : Rules) (ps : List Placed) (size : ℕ) (r : ReadingBy rules (tokens_only ps)) → grammar_of rules size ps ≡ accepted (ps, rows_of r.tree)
unfolding grammar_of decide
reading-accepted rules ps size r =
    rw (reading-run rules (tokens_only ps) r, clean-repeat nothing (today_row rules (tokens_only ps)) (reading-clean rules (tokens_only ps) r), row-length rules (tokens_only ps), length-map, le-ltb (length ps) (length ps) (omega arith))

pub one-reading : OneReading
one-reading rules ts r s = one-tree rules r.tree s.tree r.whole s.whole (r.yield ∙ sym s.yield)

-- the tokens of a file that is read, their run and their names
pub read-tokens : (rules : Rules) (file : List ℕ) (words : Sizes) (ps : List Placed) (rows : Rows) → read_by rules file words ≡ accepted (ps, rows)
    → Tokenized rules file words ps × (run rules start (today_row rules (tokens_only ps)) no_rows ≡ good rows) × Clean nothing (today_row rules (tokens_only ps))
unfolding read_by
read-tokens rules file words ps rows e =
    let (qs, d, h) = then-accepted (tokens_in_by rules file words.tokens) _ (ps, rows) e in
    let v : (qs ≡ ps) × (run rules start (today_row rules (tokens_only qs)) no_rows ≡ good rows) × Clean nothing (today_row rules (tokens_only qs))
    = accepted-verdict rules qs ps (length file) rows _ (verdict rules qs (length file)) (fits-accepted words _ (ps, rows) h) in
    let f = in-fits rules file words.tokens qs d in
    rw (← v.0) (record { small = f.0; splits = f.1; room = f.2 }, v.1, v.2)

pub rows-of-reading : RowsOfReading
rows-of-reading rules usable file words ps rows e =
    let (f, ran, clean) = read-tokens rules file words ps rows e in
    let r : (r : ReadingBy rules (tokens_only ps)) × (rows ≡ rows_of r.tree)
    = run-reading rules usable.some_level (tokens_only ps) rows (well-formed-by rules file ps f.splits) ran clean in
    (f.splits, r.0, r.1)

-- a file whose tokens have a reading is read with its rows, where there is room
pub reads-rows : (rules : Rules) (file : List ℕ) (words : Sizes) (ps : List Placed) → Tokenized rules file words ps → (r : ReadingBy rules (tokens_only ps))
    → Room words (rows_of r.tree) → read_by rules file words ≡ accepted (ps, rows_of r.tree)
unfolding then
reads-rows rules file words ps f r room =
    tokenized-read rules file words ps f ∙ ap (λ o. then o (rows_fit words)) (reading-accepted rules ps (length file) r) ∙ room_fits words ps (rows_of r.tree) room

pub accepted-exactly : AcceptedExactly
accepted-exactly rules usable file words ps f = (
  λ a. (rows-of-reading rules usable file words ps a.0 a.1).1,
  λ r. (rows_of r.tree, reads-rows rules file words ps f.tokenized r (f.rooms r)),
)

-- where there is room, a refused file has a first bad token
pub fair-bad : (rules : Rules) → Usable rules → (file : List ℕ) (words : Sizes) (ps : List Placed) → Fair rules file words ps → (n place : ℕ) → read_by rules file words ≡ refused n place → Bad rules file ps n place
unfolding then
fair-bad rules usable file words ps f n place e = by (grammar_of rules (length file) ps) (verdict rules ps (length file)) (sym (tokenized-read rules file words ps f.tokenized) ∙ e)
  where
    by : (o : ReadOutcome) → Verdict rules ps (length file) o → then o (rows_fit words) ≡ refused n place → Bad rules file ps n place
    by (refused m i) v d = verdict-bad rules usable file words ps f.tokenized n place (refused m i) v d
    by (accepted (qs, rows)) v d =
        let k : (ps ≡ qs) × (run rules start (today_row rules (tokens_only ps)) no_rows ≡ good rows) × Clean nothing (today_row rules (tokens_only ps)) = accepted-verdict rules ps qs (length file) rows _ v refl in
        absurd (refused≢accepted n place (ps, rows) (sym (rw (← k.0) at d) ∙ accepted-fits rules usable file words ps f rows k.1 k.2))

pub place-of-refusal : PlaceOfRefusal
place-of-refusal rules usable file words ps f n place e = at (fair-bad rules usable file words ps f n place e)
  where
    at : {n place : ℕ} → Bad rules file ps n place → FirstBad rules file ps place
    at (Bad.token n p t q d b k h) = FirstBad.token p t q d refl b k
    at (Bad.end n b h) = FirstBad.end refl b
