-- The plain form is read back: it splits into tokens of the same kinds and contents, so by demand 3 it is accepted with the rows of the one
-- reading that they have, and its own plain form is the same.
use mathlib.Core.Path.{◌≡◌, sym, ◌∙◌, ap}
use mathlib.Core.List.{List}
use Prim.Native.Nat.{ℕ, ◌*◌, ◌≤◌}
use native.Mathlib.Omega.{arith}
use borrow.Author.Tests.{le-leb}
use lib.ListN.{length, length-map}
use Rattle.star_text.specs.Outcome.{accepted, then, need}
use Rattle.star_text.specs.Bytes.{most_bytes}
use Rattle.star_lex.specs.Rules.{Rules, today}
use Rattle.star_lex.specs.Tokens.{Token, Placed}
use Rattle.star_lex.specs.Split.{tokens_of}
use Rattle.star_lex.specs.Plain.{plain_of}
use Rattle.star_lex.proofs.WellFormed.{split-well-formed}
use Rattle.star_lex.proofs.PlainSplit.{lex-plain}
use Rattle.star_grammar.specs.Tables.{rows_of}
use Rattle.star_grammar.specs.Reading.{ReadingBy, Reading}
use Rattle.star_read.specs.Read.{Sizes, tokens_only, read_of}
use Rattle.star_read.specs.Demands.{Room, Tokenized}
use Rattle.star_read.proofs.Usable.{today-usable}
use Rattle.star_read.proofs.Demand3.{rows-of-reading, reads-rows}
use Rattle.star_write.specs.Write.{plain_fits, write_of}
use Rattle.star_write.specs.Demands.{ReadsBack, RoundTrip, WritesAgain}
use Rattle.star_write.proofs.Outcomes.{Wrote, wrote}

-- tokens of the same kinds and contents have the same readings
unfoldable pub moved : {rules : Rules} {ts us : List Token} → ts ≡ us → ReadingBy rules ts → ReadingBy rules us
moved e r = record { tree = r.tree; yield = r.yield ∙ e; whole = r.whole; distinct = r.distinct }

-- a file that splits into such tokens is read with the same rows
reads_same : (plain : List ℕ) (words : Sizes) (ps qs : List Placed) (r : Reading (tokens_only ps)) → length plain ≤ most_bytes → tokens_of plain ≡ accepted qs
    → tokens_only qs ≡ tokens_only ps → length ps * 3 ≤ words.tokens → Room words (rows_of r.tree) → read_of plain words ≡ accepted (qs, rows_of r.tree)
unfolding moved
reads_same plain words ps qs r small splits e table rooms =
    let fits : Tokenized today plain words qs = record {
      small = small;
      splits = splits;
      room = omega (arith, length-map qs (λ p. p.token), length-map ps (λ p. p.token), ap length e);
    } in
    reads-rows today plain words qs fits (moved (sym e) r) rooms

pub round_trip : RoundTrip
round_trip file words room ps rows plain e others table rooms =
    let w : Wrote (read_of file words) (λ ts. ts) room ps rows plain = wrote file words room ps rows plain e in
    let r = rows-of-reading today today-usable file words ps rows w.reads in
    let l = lex-plain (tokens_only ps) (split-well-formed file ps r.0) in
    record {
      tokens = l.0;
      accepts =
          reads_same plain others ps l.0 r.1 w.small (rw w.plain_is at l.1) l.2 table (rw r.2 at rooms)
          ∙ ap (λ rows. accepted (l.0, rows)) (sym r.2);
      same = l.2;
    }

pub writes_again : WritesAgain
unfolding write_of plain_fits then need
writes_again file words room ps rows plain e others table rooms space fits =
    let w : Wrote (read_of file words) (λ ts. ts) room ps rows plain = wrote file words room ps rows plain e in
    let b : ReadsBack plain others ps rows = round_trip file words room ps rows plain e others table rooms in
    let same : plain_of (tokens_only b.tokens) ≡ plain = ap plain_of b.same ∙ w.plain_is in
    (b.tokens, rw (b.accepts, same, le-leb (length plain) most_bytes w.small, le-leb (length plain) space fits))
