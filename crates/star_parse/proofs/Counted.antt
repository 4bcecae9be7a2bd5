-- A progress that counts rows counts one more where the reader passes a token or puts a row, and the table that it puts the row into holds it.
use mathlib.Core.Path.{◌≡◌, refl, sym, ap, ◌∙◌}
use mathlib.Core.List.{List, [], ◌∷◌, ◌++◌}
use Prim.Native.Nat.{ℕ, zero, suc, ◌+◌, ◌-◌, ◌<◌}
use native.Mathlib.Numerals.{add-one}
use native.Mathlib.Omega.{arith}
use lib.ListN.{length, get_or, set, length-append, length-set}
use Rattle.star_rows.specs.Rows.{put_row, put_word, stored}
use Rattle.star_rows.proofs.Stored.{stored_more, stored-none}
use Rattle.star_rows.proofs.WordPut.{put-covers, stored-word}
use Rattle.star_grammar.specs.Tables.{Rows, no_rows, pass, open_loop, put_set, put_name, put_packet, put_value, SetRow, NameRow, PacketRow, ValueRow, set_words, name_words, packet_words, value_words, link_to, linked_from, linked}
use Rattle.star_grammar.specs.Machine.{last_row}
use Rattle.star_grammar.proofs.Linking.{no_value, length-linked, last-bound, link-more}
use Rattle.star_grammar.proofs.Widths.{set-wide, name-wide, packet-wide, value-wide}
use Rattle.star_parse.specs.Parsed.{FourTables, four_tables, Stored}
use Rattle.star_parse.specs.Reader.{Fresh, Moved, RowPut, Matches, back_to}
use Rattle.star_parse.specs.Reached.{Progress}

-- a row put at the count of the rows before it
put-stored : {A : Type 0} (width : ℕ) (row : A → List ℕ) → ((x : A) → length (row x) ≡ width) → 0 < width → (xs : List A) (x : A) (n : ℕ) (ws before table after : List ℕ)
    → table ≡ stored width row xs before → n ≡ length xs → ws ≡ row x → after ≡ put_row ws n table → after ≡ stored width row (xs ++ (x ∷ [])) before
put-stored width row wide some xs x n ws before table after t e w a = a ∙ rw (t, e, w) (sym (stored_more width row wide some xs x before))

-- a value row put at the count of the rows before it, once the last row of its name leads to it
put_linked : (vs : List ValueRow) (x : ValueRow) (back : ℕ) (before : List ℕ) → back ≡ back_to (last_row x.name vs) (length vs)
    → put_row (value_words (link_to 0 x)) (length vs) (put_word 4 (length vs - back) 3 (suc (length vs)) (stored 4 value_words (linked_from 1 vs) before))
    ≡ stored 4 value_words (linked_from 1 (vs ++ (x ∷ []))) before
unfolding back_to value_words link_to
put_linked vs x back before e = go (last_row x.name vs) refl e
  where
    us : List ValueRow
    us = linked_from 1 vs

    n : ℕ
    n = length vs

    number : 1 + n ≡ suc n
    number = omega arith

    -- the rows before with their links are put first
    put : (ys : List ValueRow) → length ys ≡ n → stored 4 value_words (ys ++ (link_to 0 x ∷ [])) before ≡ put_row (value_words (link_to 0 x)) n (stored 4 value_words ys before)
    put ys h = stored_more 4 value_words value-wide (omega arith) ys (link_to 0 x) before ∙ ap (λ m. put_row (value_words (link_to 0 x)) m (stored 4 value_words ys before)) h

    go : (l : ℕ) → last_row x.name vs ≡ l → back ≡ back_to l n
        → put_row (value_words (link_to 0 x)) n (put_word 4 (n - back) 3 (suc n) (stored 4 value_words us before)) ≡ stored 4 value_words (linked_from 1 (vs ++ (x ∷ []))) before
    go zero q z =
        ap (λ m. put_row (value_words (link_to 0 x)) n (put_word 4 m 3 (suc n) (stored 4 value_words us before))) (let m : n - back ≡ n = omega arith in m)
        ∙ put-covers (value_words (link_to 0 x)) n 3 (suc n) (stored 4 value_words us before) (omega arith) (omega arith)
        ∙ sym (put us (length-linked 1 vs))
        ∙ ap (λ ys. stored 4 value_words ys before) (sym (link-more 1 vs x ∙ rw q))
    go (suc i) q z =
        let low : i < n = omega (arith, last-bound x.name vs, q) in
        let y : ValueRow = link_to (suc n) (get_or us i no_value) in
        ap (λ m. put_row (value_words (link_to 0 x)) n (put_word 4 m 3 (suc n) (stored 4 value_words us before))) (let m : n - back ≡ i = omega arith in m)
        ∙ ap (put_row (value_words (link_to 0 x)) n)
        (sym (stored-word 4 value_words value-wide (omega arith) no_value us i 3 (suc n) y before (rw length-linked low) (omega arith) refl))
        ∙ sym (put (set us i y) (length-set us i y ∙ length-linked 1 vs))
        ∙ ap (λ ys. stored 4 value_words ys before) (sym (link-more 1 vs x ∙ rw (q, number)))

-- so many tokens, loops and rows more
record More (rows rows' : Rows) (token new_loop new_set new_name new_packet new_value : ℕ) : Type 0 where
  tokens : rows'.tokens ≡ rows.tokens + token
  loops : rows'.loops ≡ rows.loops + new_loop
  sets : length rows'.sets ≡ length rows.sets + new_set
  names : length rows'.names ≡ length rows.names + new_name
  packets : length rows'.packets ≡ length rows.packets + new_packet
  values : length rows'.values ≡ length rows.values + new_value

module _ (before : FourTables) (rows : Rows) (p r : Progress) (t : FourTables) (m : Matches before rows p t) where
  -- a progress that moves as the rows do
  matched : {rows' : Rows} {u : FourTables} {i j k l n o : ℕ} → Moved p i j k l n o r → More rows rows' i j k l n o → Stored before (linked rows') u
      → Matches before rows' r u
  matched v w s = record {
    at = omega (arith, m.at, v.at, w.tokens);
    loops = omega (arith, m.loops, v.loops, w.loops);
    sets = omega (arith, m.sets, v.sets, w.sets);
    names = omega (arith, m.names, v.names, w.names);
    packets = omega (arith, m.packets, v.packets, w.packets);
    values = omega (arith, m.values, v.values, w.values);
    tables = s;
  }

  -- rows of the same tables
  same : (rows' : Rows) → rows'.sets ≡ rows.sets → rows'.names ≡ rows.names → rows'.packets ≡ rows.packets → rows'.values ≡ rows.values
      → Stored before (linked rows') t
  unfolding linked
  same rows' s n q v = record {
    sets = rw s m.tables.sets;
    names = rw n m.tables.names;
    packets = rw q m.tables.packets;
    values = rw v m.tables.values;
  }

  pub matches-pass : Moved p 1 0 0 0 0 0 r → Matches before (pass rows) r t
  unfolding pass
  matches-pass v = matched v (omega arith) (same (pass rows) refl refl refl refl)

  pub matches-open : Moved p 1 1 0 0 0 0 r → Matches before (open_loop rows) r t
  unfolding open_loop
  matches-open v = matched v (omega arith) (same (open_loop rows) refl refl refl refl)

  pub matches-set : (kind parent : ℕ) (after : List ℕ)
      → RowPut (kind ∷ (p.at + 1) ∷ parent ∷ []) p.sets t.sets after (Moved p 1 0 1 0 0 0 r)
      → Matches before (put_set kind parent rows) r (four_tables after t.names t.packets t.values)
  unfolding put_set set_words linked
  matches-set kind parent after q =
      let x : SetRow = record { kind = kind; heading = suc rows.tokens; parent = parent } in
      matched q.counted (omega (arith, length-append rows.sets (x ∷ []))) (record {
        sets = put-stored 3 set_words set-wide (omega arith) rows.sets x _ _ _ _ _ m.tables.sets m.sets
            (ap (λ (n : ℕ). kind ∷ n ∷ parent ∷ []) (omega (arith, m.at))) q.table;
        names = m.tables.names;
        packets = m.tables.packets;
        values = m.tables.values;
      })

  pub matches-name : (set loop level : ℕ) (after : List ℕ)
      → RowPut (set ∷ (p.at + 1) ∷ loop ∷ level ∷ []) p.names t.names after (Moved p 1 0 0 1 0 0 r)
      → Matches before (put_name set loop level rows) r (four_tables t.sets after t.packets t.values)
  unfolding put_name name_words linked
  matches-name set loop level after q =
      let x : NameRow = record { set = set; name = suc rows.tokens; loop = loop; level = level } in
      matched q.counted (omega (arith, length-append rows.names (x ∷ []))) (record {
        sets = m.tables.sets;
        names = put-stored 4 name_words name-wide (omega arith) rows.names x _ _ _ _ _ m.tables.names m.names
            (ap (λ (n : ℕ). set ∷ n ∷ loop ∷ level ∷ []) (omega (arith, m.at))) q.table;
        packets = m.tables.packets;
        values = m.tables.values;
      })

  pub matches-packet : (level parent : ℕ) (after : List ℕ)
      → RowPut (p.loops ∷ level ∷ parent ∷ []) p.packets t.packets after (Moved p 0 0 0 0 1 0 r)
      → Matches before (put_packet rows.loops level parent rows) r (four_tables t.sets t.names after t.values)
  unfolding put_packet packet_words linked
  matches-packet level parent after q =
      let x : PacketRow = record { loop = rows.loops; level = level; parent = parent } in
      matched q.counted (omega (arith, length-append rows.packets (x ∷ []))) (record {
        sets = m.tables.sets;
        names = m.tables.names;
        packets = put-stored 3 packet_words packet-wide (omega arith) rows.packets x _ _ _ _ _ m.tables.packets m.packets
            (ap (λ (n : ℕ). n ∷ level ∷ parent ∷ []) m.loops) q.table;
        values = m.tables.values;
      })

  pub matches-value : (name packet back : ℕ) (after : List ℕ) → back ≡ back_to (last_row name rows.values) (length rows.values)
      → RowPut (name ∷ packet ∷ (p.at + 1) ∷ 0 ∷ []) p.values (put_word 4 (p.values - back) 3 (p.values + 1) t.values) after (Moved p 1 0 0 0 0 1 r)
      → Matches before (put_value name packet rows) r (four_tables t.sets t.names t.packets after)
  unfolding put_value value_words link_to linked
  matches-value name packet back after l q =
      let x : ValueRow = record { name = name; packet = packet; value = suc rows.tokens; next = 0 } in
      matched q.counted (omega (arith, length-append rows.values (x ∷ []))) (record {
        sets = m.tables.sets;
        names = m.tables.names;
        packets = m.tables.packets;
        values = q.table
            ∙ ap (λ (n : ℕ). put_row (name ∷ packet ∷ n ∷ 0 ∷ []) p.values (put_word 4 (p.values - back) 3 (p.values + 1) t.values)) (let n : p.at + 1 ≡ suc rows.tokens = omega (arith, m.at) in n)
            ∙ rw (m.values, m.tables.values, add-one (length rows.values)) (put_linked rows.values x back before.values l);
      })

-- before the first token no row is counted
pub matches-none : (before : FourTables) (p : Progress) → Fresh p → Matches before no_rows p before
unfolding no_rows linked linked_from
matches-none before p f = record {
  at = f.at;
  loops = f.loops;
  sets = f.sets;
  names = f.names;
  packets = f.packets;
  values = f.values;
  tables = record {
    sets = stored-none 3 set_words set-wide (omega arith) before.sets;
    names = stored-none 4 name_words name-wide (omega arith) before.names;
    packets = stored-none 3 packet_words packet-wide (omega arith) before.packets;
    values = stored-none 4 value_words value-wide (omega arith) before.values;
  };
}
