-- `read_tables` meets its contract: what `judge` refuses is refused, and else the rows that were stored are all there.
use mathlib.Core.Path.{◌≡◌, refl, ◌∙◌, ap}
use Prim.Native.Nat.{ℕ}
use lib.ListN.{length}
use Rattle.std.specs.Prelude.{Ok, Err}
use Rattle.std.proofs.lemmas.Result.{err_from_is_err_and}
use Rattle.star_text.specs.Outcome.{accepted, then}
use Rattle.star_text.proofs.Refusals.{number-some}
use Rattle.star_lex.specs.Rules.{layout_rules, at_stops}
use Rattle.star_lex.specs.Split.{placed, tokens_of}
use Rattle.star_frames.specs.Frames.{from_today}
use Rattle.star_parse.specs.Parsed.{FourTables, four_tables as four, parsed_of}
use Rattle.star_rows.specs.declared.Counts.{Counts}
use Rattle.star_read.specs.Read.{rows_fit, grammar_of}
use Rattle.star_read.specs.Answer.{held}
use Rattle.star_read.specs.Judged.{layout_number, told, later}
use Rattle.star_read.proofs.Places.{held-places, put_back}
use Rattle.star_read.proofs.Settling.{SameSizes, sizes_of, outcome-refused, outcome-settled, rows-accepted, cleared-held, counted_by, accepted-answer, accepted-leaves, refused-tries}
use Rattle.star_read.proofs.read_tables.Goals.{After-read_rows-rows}
use Rattle.star_read.proofs.read_tables.Goals as goal

abbrev layout : After-read_rows-rows → ℕ
layout c = layout_number c.args.layout

-- tables 2 to 5 before the rows were read, and after
abbrev old : After-read_rows-rows → FourTables
old c = later (held c.args.tables.now)

abbrev new : After-read_rows-rows → FourTables
new c =
    let rows = c.read_rows-rows in
    four rows.new.sets rows.new.names rows.new.packets rows.new.values

same : (c : After-read_rows-rows) → SameSizes (old c) (new c)
same c =
    let kept = c.read_rows-rows.auto in
    record { sets = kept.sets; names = kept.names; packets = kept.packets; values = kept.values }

pub judge-requires : goal.judge-requires
judge-requires c =
    held-places (layout_number c.args.layout) c.args.file.now c.args.tables.now.tokens.now c.args.found.count c.requires.holds_today

pub returns-in_err-counts-clause-tries : goal.returns-in_err-counts-clause-tries
returns-in_err-counts-clause-tries c =
    let p = err_from_is_err_and c.from_residual.result c.from_residual.ensures.1 in
    let s : After-read_rows-rows = (goal.at.returns-in_err-counts-clause-tries c).After-read_rows-rows in
    let e = c.in_err-counts.field-0.0 in
    let o = outcome-refused (layout s) s.args.stops s.args.file.now s.args.tables.now.tokens.now s.args.found.count s.requires.holds_today (old s) (new s) (same s) (parsed_of s.read_rows-rows.result) s.read_rows-rows.ensures.answers s.args.found.taken s.requires.taken_value (told {A = Counts} (Err e)) c.in_err-counts.ensures.decides (number-some e.reason) in
    rw (p.1, p.2) (refused-tries e o)

pub returns-clause-tries : goal.returns-clause-tries
unfolding grammar_of
returns-clause-tries c =
    let s : After-read_rows-rows = (goal.at.returns-clause-tries c).After-read_rows-rows in
    let stops = s.args.stops in
    let tokens = s.args.tables.now.tokens.now in
    let file = s.args.file.now in
    let count = s.args.found.count in
    let rows = s.read_rows-rows in
    let counts = c.in_ok-counts.counts in
    let is = c.in_ok-counts.ensures.counts in
    let answers = rw is at rows.ensures.answers in
    let decides = rw is at c.in_ok-counts.ensures.decides in
    let t = outcome-settled (layout s) stops file tokens count s.requires.holds_today (old s) (new s) (same s) (parsed_of (Ok counts)) answers s.args.found.taken s.requires.taken_value (told (Ok counts)) decides refl in
    let a = rows-accepted (layout s) stops file tokens count s.requires.holds_today (old s) (new s) (same s) (parsed_of (Ok counts)) answers s.args.found.taken s.requires.taken_value (told (Ok counts)) decides t.rows t.is-good in
    let k = cleared-held count t.rows (old s) (new s) _ (parsed_of (Ok counts)) a c.clear_behind.ensures.cleared t.room.sets t.room.names t.room.packets t.room.values in
    let o : then (grammar_of (at_stops (layout_rules (layout s)) stops) (length file) (placed (tokens_of file))) (rows_fit (sizes_of (length tokens) (old s))) ≡ accepted (placed (tokens_of file), t.rows) = t.outcome in
    record {
      answer = ap (λ n. counted_by n (parsed_of (Ok counts))) a.tokens ∙ accepted-answer _ (placed (tokens_of file)) t.rows count (old s) (new s) (parsed_of (Ok counts)) o s.requires.holds_today.table.count_is a;
      leaves = λ z. accepted-leaves _ (placed (tokens_of file)) t.rows (length tokens) _ (old s) _ o (c.from_today.ensures ∙ (λ i. from_today (c.number.ensures i) count (c.clear_behind.ensures.tokens_unchanged i)) ∙ put_back (layout s) stops file tokens count s.requires.holds_today t.rows t.is-good) k;
    }
