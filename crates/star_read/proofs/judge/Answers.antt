-- `judge` meets its contract: a name or code that is taken counts before the token that is out of place, and the room comes last.
use mathlib.Core.Path.{◌≡◌, refl, sym, ◌∙◌, ap, subst}
use Prim.Native.Nat.{ℕ}
use lib.ListN.{length}
use Rattle.std.specs.Prelude.{Ok, Err}
use Rattle.std.proofs.lemmas.Result.{err_from_is_err_and}
use native.Mathlib.Omega.{arith}
use Rattle.star_text.specs.Refusal.{number}
use Rattle.star_text.proofs.Refusals.{number-some}
use Rattle.star_parse.specs.Parsed.{parsed_of}
use Rattle.star_lex.specs.Split.{placed, tokens_of}
use Rattle.star_grammar.specs.Machine.{Run}
use Rattle.star_read.specs.Read.{Sizes}
use Rattle.star_read.specs.Answer.{held, sizes as sizes_of}
use Rattle.star_read.specs.Judged.{Judged, Ran}
use Rattle.star_read.proofs.Judging.{judge-repeat, judge-bad, judge-room}
use Rattle.star_read.proofs.judge.Goals.{Start}
use Rattle.star_read.proofs.judge.Goals as goal

abbrev judged : ℕ → ℕ → Judged
judged n p = record { refusal = n; place = p }

abbrev sizes : Start → Sizes
sizes c = sizes_of (held c.args.tables.now)

-- an answer to a run over so many tokens is one to a run over the file's
ran : (c : Start) (x : Run) → Ran x c.args.count (parsed_of c.args.rows) → Ran x (length (placed (tokens_of c.args.file.now))) (parsed_of c.args.rows)
ran c x h = subst (λ n. Ran x n (parsed_of c.args.rows)) c.requires.count_is h

pub returns-then-taken-tokens_passed-clause-decides : goal.returns-then-taken-tokens_passed-clause-decides
returns-then-taken-tokens_passed-clause-decides c x f h =
    let s : Start = (goal.at.returns-then-taken-tokens_passed-clause-decides c).Start in
    let file = c.args.file.now in
    ap (λ p. judged 9 p) c.place_of.ensures
    ∙ sym (judge-repeat (sizes s) (length file) (placed (tokens_of file)) c.args.taken (parsed_of c.args.rows) x (ran s x h) (omega (arith, c.tokens_passed.ensures, c.if-taken-tokens_passed.true)))

pub returns-in-Err-clause-decides : goal.returns-in-Err-clause-decides
returns-in-Err-clause-decides c x f h =
    let s : Start = (goal.at.returns-in-Err-clause-decides c).Start in
    let file = c.args.file.now in
    let stopped = c.in-Err.stopped in
    let passed : c.tokens_passed.result ≡ stopped.tokens = c.tokens_passed.ensures ∙ ap (λ q. (parsed_of q).tokens) c.in-Err.is in
    ap (λ p. judged (number stopped.reason) p) c.place_of-in-Err.ensures
    ∙ sym (judge-bad (sizes s) (length file) (placed (tokens_of file)) c.args.taken (parsed_of (Err stopped)) x (rw c.in-Err.is at (ran s x h)) (omega (arith, passed, c.if-taken-tokens_passed.false)) (number-some stopped.reason))

pub returns-in_err-room-in-Ok-clause-decides : goal.returns-in_err-room-in-Ok-clause-decides
returns-in_err-room-in-Ok-clause-decides c x f h =
    let s : Start = (goal.at.returns-in_err-room-in-Ok-clause-decides c).Start in
    let file = c.args.file.now in
    let counts = c.in-Ok.counts in
    let passed : c.tokens_passed.result ≡ counts.tokens = c.tokens_passed.ensures ∙ ap (λ q. (parsed_of q).tokens) c.in-Ok.is in
    let e = err_from_is_err_and c.from_residual.result c.from_residual.ensures.1 in
    rw (e.1, e.2) (c.in_err-room-in-Ok.ensures
    ∙ sym (judge-room (sizes s) (length file) (placed (tokens_of file)) c.args.taken (parsed_of (Ok counts)) x f (rw c.in-Ok.is at (ran s x h)) (omega (arith, passed, c.if-taken-tokens_passed.false)) refl))

pub returns-in_ok-room-in-Ok-clause-decides : goal.returns-in_ok-room-in-Ok-clause-decides
returns-in_ok-room-in-Ok-clause-decides c x f h =
    let s : Start = (goal.at.returns-in_ok-room-in-Ok-clause-decides c).Start in
    let file = c.args.file.now in
    let counts = c.in-Ok.counts in
    let passed : c.tokens_passed.result ≡ counts.tokens = c.tokens_passed.ensures ∙ ap (λ q. (parsed_of q).tokens) c.in-Ok.is in
    c.in_ok-room-in-Ok.ensures
    ∙ sym (judge-room (sizes s) (length file) (placed (tokens_of file)) c.args.taken (parsed_of (Ok counts)) x f (rw c.in-Ok.is at (ran s x h)) (omega (arith, passed, c.if-taken-tokens_passed.false)) refl)
