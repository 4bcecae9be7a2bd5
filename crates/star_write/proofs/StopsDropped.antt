-- What is written of an old file is read by today's rules: its tokens are the old file's without header stops, which are the yield of the old tree without header stops, and by demand 3 it
-- is accepted with the rows of that tree.
use mathlib.Core.Path.{◌≡◌, refl, sym, ◌∙◌, ap, subst}
use mathlib.Core.Bool.{Bool, true, false, cond}
use mathlib.Core.List.{List, [], ◌∷◌}
use native.Mathlib.Omega.{arith}
use borrow.Author.Tests.{le-leb}
use lib.Dec.{eqb}
use lib.ListN.{length, length-map}
use Rattle.star_text.specs.Outcome.{accepted, then, need}
use Rattle.star_text.specs.Bytes.{most_bytes}
use Rattle.star_lex.specs.Rules.{today, old_headers}
use Rattle.star_lex.specs.Tokens.{Token, Placed, Each}
use Rattle.star_lex.specs.Split.{tokens_of}
use Rattle.star_lex.specs.Plain.{plain_of}
use Rattle.star_lex.proofs.WellFormed.{split-well-formed}
use Rattle.star_lex.proofs.Formed.{WellFormed}
use Rattle.star_lex.proofs.PlainSplit.{lex-plain}
use Rattle.star_grammar.specs.Tree.{frame_end, frame_close, file_yield}
use Rattle.star_grammar.specs.Tables.{Rows, rows_of}
use Rattle.star_grammar.specs.Reading.{ReadingBy, Reading}
use Rattle.star_read.specs.Read.{Sizes, tokens_only, read_old}
use Rattle.star_read.specs.Demands.{Room, Tokenized}
use Rattle.star_read.proofs.Usable.{old-usable}
use Rattle.star_read.proofs.InLayout.{old-split}
use Rattle.star_read.proofs.Demand3.{rows-of-reading, reads-rows}
use Rattle.star_write.specs.Write.{plain_fits, write_of}
use Rattle.star_write.proofs.Outcomes.{Wrote, dropped}
use Rattle.star_grammar.specs.Stopless.{stopless, is_header_stop, drop_stops, SameContents}
use Rattle.star_write.specs.Demands.{ReadsDropped, StopsDropped, DroppedWritesAgain}
use Rattle.star_grammar.proofs.Dropping.{drop-length}
use Rattle.star_grammar.proofs.Stopless.{drop-yield, stopless-by, stopless-distinct}
use Rattle.star_grammar.proofs.Contents.{stopless-contents}

-- what holds of each token holds of those that are left
drop-each : (P : Token → Type 0) (headed : Bool) (ts : List Token) → Each P ts → Each P (drop_stops headed ts)
unfolding drop_stops
drop-each P headed [] h = tt
drop-each P headed (t ∷ ts) h = by (is_header_stop headed t.kind) (drop-each P true ts h.1) (drop-each P (eqb t.kind 6) ts h.1)
  where
    by : (b : Bool) → Each P (drop_stops true ts) → Each P (drop_stops (eqb t.kind 6) ts) → Each P (cond b (drop_stops true ts) (t ∷ drop_stops (eqb t.kind 6) ts))
    by true p q = p
    by false p q = (h.0, q)

-- the rows of the same contents have the same room
same-room : {ts us : List Token} {r s : Rows} (words : Sizes) → SameContents ts r us s → Room words r → Room words s
same-room {r = r} {s = s} words c h = record {
  sets = omega (arith, h.sets, simp length-map at (ap length c.sets));
  names = omega (arith, h.names, simp length-map at (ap length c.names));
  packets = omega (arith, h.packets, ap length c.packets);
  values = omega (arith, h.values, simp length-map at (ap length c.values));
}

-- the yield of a reading by the old rules, and of its tree without header stops
old-yield : (ts : List Token) (r : ReadingBy old_headers ts) → file_yield frame_end r.tree ≡ ts
unfolding frame_close
old-yield ts r = r.yield

kept-yield : (ts : List Token) (r : ReadingBy old_headers ts) → drop_stops false ts ≡ file_yield frame_end (stopless r.tree)
kept-yield ts r = ap (drop_stops false) (sym (old-yield ts r)) ∙ drop-yield old_headers r.tree r.whole

stopless-reading : (ts us : List Token) (r : ReadingBy old_headers ts) → us ≡ drop_stops false ts → Reading us
unfolding frame_close
stopless-reading ts us r e = record {
  tree = stopless r.tree;
  yield = sym (kept-yield ts r) ∙ sym e;
  whole = stopless-by old_headers r.tree r.whole;
  distinct = stopless-distinct r.tree r.distinct;
}

-- the rows of a reading by the old rules, and of its tree without header stops
kept-contents : (ts us : List Token) (r : ReadingBy old_headers ts) → us ≡ drop_stops false ts → (rows : Rows) → rows ≡ rows_of r.tree
    → SameContents ts rows us (rows_of (stopless r.tree))
kept-contents ts us r e rows d =
    subst (λ q. SameContents ts q us (rows_of (stopless r.tree))) (sym d)
    (subst (λ xs. SameContents ts (rows_of r.tree) xs (rows_of (stopless r.tree))) (sym (e ∙ kept-yield ts r))
    (subst (λ xs. SameContents xs (rows_of r.tree) (file_yield frame_end (stopless r.tree)) (rows_of (stopless r.tree))) (old-yield ts r) (stopless-contents r.tree)))

pub stops-dropped : StopsDropped
unfolding stopless-reading
stops-dropped file words room ps rows plain e others table rooms =
    let w : Wrote (read_old file words) (drop_stops false) room ps rows plain = dropped file words room ps rows plain e in
    let old = rows-of-reading old_headers old-usable file words ps rows w.reads in
    let r : ReadingBy old_headers (tokens_only ps) = old.1 in
    let formed : Each WellFormed (tokens_only ps) = split-well-formed file ps (sym (old-split file) ∙ old.0) in
    let l = lex-plain (drop_stops false (tokens_only ps)) (drop-each WellFormed false (tokens_only ps) formed) in
    let qs : List Placed = l.0 in
    let splits : tokens_of plain ≡ accepted qs = rw w.plain_is at l.1 in
    let now : Reading (tokens_only qs) = stopless-reading (tokens_only ps) (tokens_only qs) r l.2 in
    let same : SameContents (tokens_only ps) rows (tokens_only qs) (rows_of (stopless r.tree)) = kept-contents (tokens_only ps) (tokens_only qs) r l.2 rows old.2 in
    let fits : Tokenized today plain others qs = record {
      small = w.small;
      splits = splits;
      room = omega (arith, table, length-map qs (λ p. p.token), length-map ps (λ p. p.token), ap length l.2, drop-length false (tokens_only ps));
    } in
    record {
      tokens = qs;
      kept = rows_of (stopless r.tree);
      accepts = reads-rows today plain others qs fits now (same-room others same rooms);
      before = r;
      after = now;
      tree = refl;
      rows_are = old.2;
      kept_are = refl;
      same = same;
      plain_is = sym w.plain_is ∙ ap plain_of (kept-yield (tokens_only ps) r);
      again = ap plain_of l.2 ∙ w.plain_is;
    }

pub dropped-writes-again : DroppedWritesAgain
unfolding write_of plain_fits then need
dropped-writes-again file words room ps rows plain e others table rooms space fits =
    let w : Wrote (read_old file words) (drop_stops false) room ps rows plain = dropped file words room ps rows plain e in
    let b : ReadsDropped plain others ps rows = stops-dropped file words room ps rows plain e others table rooms in
    (b.tokens, b.kept, rw (b.accepts, b.again, le-leb (length plain) most_bytes w.small, le-leb (length plain) space fits))
