-- `try_read` meets its contract: a refusal of the tokens is reading's, and what follows them is read from table 1.
use mathlib.Core.Path.{◌≡◌, refl, sym, ◌∙◌, ap, subst}
use lib.ListN.{length}
use mathlib.Core.List.{List}
use Rattle.star_text.specs.Outcome.{accepted, then}
use Rattle.star_lex.specs.Rules.{layout_rules, at_stops}
use Rattle.star_lex.specs.Tokens.{Placed}
use Rattle.star_lex.specs.Split.{placed, tokens_of}
use Rattle.star_lex.specs.Answer.{tokens_in}
use Rattle.star_lex.specs.Holds.{file_tokens}
use Rattle.star_grammar.specs.Layout.{today_row}
use Rattle.star_grammar.proofs.Images.{row-stops}
use Rattle.std.specs.Prelude.{Ok, Err}
use Rattle.std.proofs.lemmas.Result.{err_from_is_err_and}
use Rattle.star_text.proofs.Refusals.{number-some}
use Rattle.star_unique.specs.Compared.{compared, Compares}
use Rattle.star_unique.specs.Repeat.{nothing, first_repeat}
use Rattle.star_unique.proofs.Comparing.{compared-accepted}
use Rattle.star_read.specs.Read.{rows_fit, grammar_of}
use Rattle.star_read.specs.Answer.{held, sizes, words}
use Rattle.star_read.specs.Judged.{layout_number}
use Rattle.star_read.proofs.Places.{holds-today}
use Rattle.star_read.proofs.Lent.{tries_at}
use Rattle.star_read.proofs.Settling.{refused-tries}
use Rattle.star_read.proofs.Starting.{read-refused, read-after}
use Rattle.star_read.proofs.try_read.Goals.{After-read_tokens, In_ok-found}
use Rattle.star_read.proofs.try_read.Goals as goal

-- the tokens are those of the layout
compares : (c : After-read_tokens) → Compares (layout_number c.args.layout) c.args.file.now c.args.tables.now.tokens.now c.read_tokens.new.table (compared c.read_tokens.result)
compares c = subst (λ n. Compares n c.args.file.now c.args.tables.now.tokens.now c.read_tokens.new.table (compared c.read_tokens.result)) c.number.ensures c.read_tokens.ensures

pub returns-in_err-found-clause-tries : goal.returns-in_err-found-clause-tries
returns-in_err-found-clause-tries c =
    let s : After-read_tokens = (goal.at.returns-in_err-found-clause-tries c).After-read_tokens in
    let refusal = c.in_err-found.field-0.0 in
    let p = err_from_is_err_and c.from_residual.result c.from_residual.ensures.1 in
    let h = rw c.in_err-found.was at (compares s).answer in
    rw (p.1, p.2) (refused-tries refusal (read-refused (layout_number c.args.layout) c.args.stops c.args.file.now (sizes (held c.args.tables.now)) (compared (Err refusal)) h (number-some refusal.reason)))

-- the tokens
tokens : (c : In_ok-found) → Compares (layout_number c.args.layout) c.args.file.now c.args.tables.now.tokens.now c.read_tokens.new.table (compared c.read_tokens.result)
    → (ps : List Placed) × (tokens_in c.args.file.now (length c.args.tables.now.tokens.now) ≡ accepted ps)
    × (c.in_ok-found.found.count ≡ length ps)
    × (c.in_ok-found.found.taken ≡ first_repeat nothing (today_row (layout_rules (layout_number c.args.layout)) (file_tokens c.args.file.now)))
tokens c h = compared-accepted (layout_number c.args.layout) _ _ (compared (Ok c.in_ok-found.found)) (rw c.in_ok-found.was at h.answer) refl

pub read_tables-requires : goal.read_tables-requires
read_tables-requires c =
    let h = compares (goal.at.read_tables-requires c).After-read_tokens in
    let t = tokens (goal.at.read_tables-requires c).In_ok-found h in
    let layout = layout_number c.args.layout in
    let found = c.read_tokens in
    record { holds_today = holds-today layout _ _ t.0 t.1 _ _ t.2 found.auto.table h.table; taken_value = t.3 ∙ sym (ap (first_repeat nothing) (row-stops (layout_rules layout) c.args.stops _)) }

pub returns-clause-tries : goal.returns-clause-tries
returns-clause-tries c =
    let file = c.args.file.now in
    let layout = layout_number c.args.layout in
    let stops = c.args.stops in
    let t = tokens (goal.at.returns-clause-tries c).In_ok-found (compares (goal.at.returns-clause-tries c).After-read_tokens) in
    let lent = held c.args.tables.now in
    let o = read-after layout stops file (sizes lent) t.0 t.1 in
    let k = ap (λ n. words n (length lent.sets) (length lent.names) (length lent.packets) (length lent.values)) c.read_tokens.auto.table in
    tries_at k (o ∙ ap (λ w. then (grammar_of (at_stops (layout_rules layout) stops) (length file) (placed (tokens_of file))) (rows_fit w)) (sym k)) c.read_tables.ensures.tries
