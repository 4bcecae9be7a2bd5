-- What is converted is read in the other layout: its tokens are those of the same tree there, so by demand 3 it is accepted with the rows of the tree; and converted back it has the tree's tokens in the first layout.
use mathlib.Core.Path.{◌≡◌, refl, sym, ◌∙◌, ap, subst}
use mathlib.Core.List.{List}
use Prim.Native.Nat.{ℕ, ◌-◌, ◌*◌, ◌≤◌}
use native.Mathlib.Omega.{arith}
use borrow.Author.Tests.{le-leb}
use lib.ListN.{length, length-map}
use Rattle.star_text.specs.Outcome.{accepted, then, need}
use Rattle.star_text.specs.Bytes.{most_bytes}
use Rattle.star_lex.specs.Rules.{layout_rules}
use Rattle.star_lex.specs.Tokens.{Token, Placed, Each}
use Rattle.star_lex.specs.Split.{tokens_of}
use Rattle.star_lex.specs.Plain.{plain_of}
use Rattle.star_lex.proofs.Formed.{WellFormed}
use Rattle.star_lex.proofs.WellFormed.{split-well-formed}
use Rattle.star_lex.proofs.PlainSplit.{lex-plain}
use Rattle.star_grammar.specs.Tables.{Rows, rows_of}
use Rattle.star_grammar.specs.Reading.{ReadingBy}
use Rattle.star_read.specs.Read.{Sizes, tokens_only, read_in}
use Rattle.star_read.specs.Demands.{Room, Tokenized}
use Rattle.star_read.proofs.InLayout.{layout-usable, layout-split, in-accepted, in_layout}
use Rattle.star_read.proofs.Accepted.{split-in}
use Rattle.star_read.proofs.Demand3.{rows-of-reading, reads-rows}
use Rattle.star_write.specs.Write.{written, plain_fits}
use Rattle.star_convert.specs.Convert.{other_row, convert_of}
use Rattle.star_convert.specs.Demands.{ReadsConverted, ConvertedReads, OverAndBack}
use Rattle.star_convert.proofs.OtherLayout.{other-reading, other-back, other-tree}
use Rattle.star_convert.proofs.Converting.{other_length, other-formed, other-count}
use Rattle.star_write.proofs.RoundTrip.{moved}
use Rattle.star_write.proofs.Outcomes.{Wrote}
use Rattle.star_convert.proofs.Converted.{converted}

module _ (layout : ℕ) (file : List ℕ) (words : Sizes) (room : ℕ) (ps : List Placed) (rows : Rows) (plain : List ℕ) (e : convert_of layout file words room ≡ written ps rows plain) where
  abbrev ts : List Token
  ts = tokens_only ps

  wrote : Wrote (read_in layout file words) (other_row layout) room ps rows plain
  wrote = converted layout file words room ps rows plain e

  is-layout : layout ≤ 1
  is-layout = (in-accepted layout file words (ps, rows) wrote.reads).0

  reading : (r : ReadingBy (layout_rules layout) ts) × (rows ≡ rows_of r.tree)
  reading =
      let k = rows-of-reading (layout_rules layout) (layout-usable layout) file words ps rows (in-accepted layout file words (ps, rows) wrote.reads).1 in
      (k.1, k.2)

  formed : Each WellFormed ts
  formed = split-well-formed file ps (split-in layout file words ps rows wrote.reads)

  -- the tokens of what is written
  split : (qs : List Placed) × (tokens_of plain ≡ accepted qs) × (tokens_only qs ≡ other_row layout ts)
  split =
      let l = lex-plain (other_row layout ts) (other-formed layout ts formed reading.0) in
      (l.0, rw wrote.plain_is at l.1, l.2)

  module _ (others : Sizes) (table : length ps * 3 ≤ others.tokens) (rooms : Room others rows) where
    other : ReadingBy (layout_rules (1 - layout)) (tokens_only split.0)
    other = moved (sym split.2) (other-reading layout ts reading.0)

    same-tree : other.tree ≡ reading.0.tree
    unfolding other moved other-reading
    same-tree = refl

    rows_other : rows ≡ rows_of other.tree
    rows_other = reading.1 ∙ ap rows_of (sym same-tree)

    fits : Tokenized (layout_rules (1 - layout)) plain others split.0
    fits = record {
      small = wrote.small;
      splits = layout-split (1 - layout) plain ∙ split.1;
      room = omega (arith, table, length-map split.0 (λ p. p.token), length-map ps (λ p. p.token), ap length split.2 ∙ other-count layout ts formed reading.0);
    }

    accepts : read_in (1 - layout) plain others ≡ accepted (split.0, rows)
    accepts =
        in_layout (1 - layout) plain others (omega arith)
        ∙ reads-rows (layout_rules (1 - layout)) plain others split.0 fits other (subst (Room others) rows_other rooms)
        ∙ ap (λ us. accepted (split.0, us)) (sym rows_other)

    reads-converted : ReadsConverted layout plain others ps rows
    reads-converted = record {
      tokens = split.0;
      accepts = accepts;
      before = reading.0;
      after = other;
      same = same-tree;
      rows_are = reading.1;
      plain_is = sym wrote.plain_is ∙ ap plain_of (other-tree layout ts reading.0);
    }

    back : (space : ℕ) → length plain ≤ space → convert_of (1 - layout) plain others space ≡ written split.0 rows (plain_of ts)
    unfolding convert_of plain_fits then need
    back space h =
        let same : plain_of (other_row (1 - layout) (tokens_only split.0)) ≡ plain_of ts
        = ap (λ us. plain_of (other_row (1 - layout) us)) split.2 ∙ ap plain_of (other-back layout ts reading.0 is-layout) in
        let long : length (plain_of ts) ≡ length plain = sym (other_length layout ts formed reading.0) ∙ ap length wrote.plain_is in
        let small : length (plain_of ts) ≤ most_bytes = omega (arith, wrote.small, long) in
        let short : length (plain_of ts) ≤ space = omega (arith, h, long) in
        rw (accepts, same, le-leb (length (plain_of ts)) most_bytes small, le-leb (length (plain_of ts)) space short)

pub converted-reads : ConvertedReads
converted-reads layout file words room ps rows plain e others table rooms = reads-converted layout file words room ps rows plain e others table rooms

pub over-and-back : OverAndBack
over-and-back layout file words room ps rows plain e others table rooms space h =
    ((split layout file words room ps rows plain e).0, back layout file words room ps rows plain e others table rooms space h)
