-- What reading gives, from the tokens on: where the file splits and table 1 has room, it is what the grammar decides, unless a later table
-- lacks room for the rows.
use mathlib.Core.Path.{◌≡◌, ◌∙◌, ap}
use mathlib.Core.List.{List}
use Prim.Native.Nat.{ℕ, ◌*◌}
use borrow.Author.Tests.{le-leb, leb-true}
use lib.ListN.{length}
use Rattle.star_text.specs.Outcome.{accepted, then, need}
use Rattle.star_text.proofs.Outcome.{accepted-same, need-accepted, then-accepted}
use Rattle.star_rows.specs.Widths.{token_width}
use Rattle.star_text.specs.Bytes.{most_bytes}
use Rattle.star_lex.specs.Rules.{Rules}
use Rattle.star_lex.specs.Tokens.{Placed}
use Rattle.star_lex.specs.Answer.{tokens_in_by, tokens_fit}
use Rattle.star_grammar.specs.Tables.{Rows}
use Rattle.star_read.specs.Read.{FileRows, ReadOutcome, Sizes, grammar_of, room_for, rows_fit, read_by}
use Rattle.star_read.specs.Demands.{Room, Tokenized}

pub tokenized-read : (rules : Rules) (file : List ℕ) (words : Sizes) (ps : List Placed) → Tokenized rules file words ps
    → read_by rules file words ≡ then (grammar_of rules (length file) ps) (rows_fit words)
unfolding read_by tokens_in_by tokens_fit need then
tokenized-read rules file words ps f =
    rw (le-leb (length file) most_bytes f.small, f.splits, le-leb (length ps * token_width) words.tokens f.room)

pub room_fits : (words : Sizes) (ps : List Placed) (rows : Rows) → Room words rows → rows_fit words (ps, rows) ≡ accepted (ps, rows)
unfolding rows_fit room_for need
room_fits words ps rows r =
    rw (le-leb _ _ r.sets, le-leb _ _ r.names, le-leb _ _ r.packets, le-leb _ _ r.values)

-- rows that are accepted in the end have room
pub rows-room : (words : Sizes) (a b : FileRows) → rows_fit words a ≡ accepted b → (a ≡ b) × Room words a.1
unfolding rows_fit room_for
rows-room words a b e =
    let (s, sets) = need-accepted _ 7 2 _ _ e in
    let (n, names) = need-accepted _ 7 3 _ _ sets in
    let (p, packets) = need-accepted _ 7 4 _ _ names in
    let (v, values) = need-accepted _ 7 5 _ _ packets in
    (accepted-same values, record { sets = leb-true _ _ s; names = leb-true _ _ n; packets = leb-true _ _ p; values = leb-true _ _ v })

-- what is accepted in the end was accepted by the grammar
pub fits-accepted : (words : Sizes) (o : ReadOutcome) (b : FileRows) → then o (rows_fit words) ≡ accepted b → o ≡ accepted b
fits-accepted words o b e =
    let (a, is, fit) = then-accepted o (rows_fit words) b e in
    is ∙ ap (λ r. accepted r) (rows-room words a b fit).0
