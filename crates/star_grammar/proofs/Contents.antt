-- The rows of a tree and those of the tree without header stops have the same contents, and as many of each table but the first.
use mathlib.Core.Path.{◌≡◌, refl, sym, ap, ◌∙◌}
use mathlib.Core.Bool.{cond}
use mathlib.Core.List.{List, [], ◌∷◌, map}
use Prim.Native.Nat.{ℕ, suc}
use lib.Dec.{eqb}
use lib.ListN.{length}
use Rattle.star_lex.specs.Tokens.{Token}
use Rattle.star_grammar.specs.Tree.{frame_end, File, file_yield}
use Rattle.star_grammar.specs.Tables.{ValueRow, Rows, no_rows, fold, put_block, first_of, link_to, linked_from, linked, rows_of}
use Rattle.star_grammar.specs.Stopless.{stopless, set_seen, name_seen, value_seen, SameContents}
use Rattle.star_grammar.proofs.Alike.{Alike, map-length}
use Rattle.star_grammar.proofs.AlikeTrees.{alike-file}

-- links by what is seen of value rows: their names alone
abbrev first_seen : (name number : ℕ) → List (ℕ × ℕ × Token × ℕ) → ℕ
first_seen name number [] = 0
first_seen name number (v ∷ vs) = cond (eqb v.0 name) number (first_seen name (suc number) vs)

abbrev linked_seen : (number : ℕ) → List (ℕ × ℕ × Token × ℕ) → List (ℕ × ℕ × Token × ℕ)
linked_seen number [] = []
linked_seen number (v ∷ vs) = (v.0, v.1, v.2, first_seen v.0 (suc number) vs) ∷ linked_seen (suc number) vs

first-seen : (ts : List Token) (name number : ℕ) (vs : List ValueRow) → first_of name number vs ≡ first_seen name number (map (value_seen ts) vs)
unfolding first_of value_seen
first-seen ts name number [] = refl
first-seen ts name number (v ∷ vs) = ap (cond (eqb v.name name) number) (first-seen ts name (suc number) vs)

linked-seen : (ts : List Token) (number : ℕ) (vs : List ValueRow) → map (value_seen ts) (linked_from number vs) ≡ linked_seen number (map (value_seen ts) vs)
unfolding linked_from link_to value_seen
linked-seen ts number [] = refl
linked-seen ts number (v ∷ vs) =
    λ i. (v.name, v.packet, (value_seen ts v).2, first-seen ts v.name (suc number) vs i) ∷ linked-seen ts (suc number) vs i

-- whatever token closes frames
pub contents-by : (close : Token) (f : File) → SameContents (file_yield close f) (rows_of f) (file_yield close (stopless f)) (rows_of (stopless f))
unfolding rows_of linked
contents-by close f =
    let ts : List Token = file_yield close f in
    let us : List Token = file_yield close (stopless f) in
    let h : Alike ts us [] [] (fold put_block f no_rows) (fold put_block (stopless f) no_rows) = alike-file close f in
    record {
      sets = h.sets;
      names = h.names;
      packets = h.packets;
      values = linked-seen us 1 _ ∙ ap (linked_seen 1) h.values ∙ sym (linked-seen ts 1 _);
    }

-- without its header stops a file has the same contents
pub stopless-contents : (f : File) → SameContents (file_yield frame_end f) (rows_of f) (file_yield frame_end (stopless f)) (rows_of (stopless f))
stopless-contents = contents-by frame_end

-- tables 2 to 5 have as many rows
pub record SameLengths (r s : Rows) : Type 0 where
  pub sets : length s.sets ≡ length r.sets
  pub names : length s.names ≡ length r.names
  pub packets : length s.packets ≡ length r.packets
  pub values : length s.values ≡ length r.values

pub same-lengths : {ts us : List Token} {r s : Rows} → SameContents ts r us s → SameLengths r s
same-lengths {ts} {us} {r} {s} h = record {
  sets = map-length (set_seen ts) (set_seen us) r.sets s.sets h.sets;
  names = map-length (name_seen ts) (name_seen us) r.names s.names h.names;
  packets = ap length h.packets;
  values = map-length (value_seen ts) (value_seen us) r.values s.values h.values;
}

pub stopless-lengths : (f : File) → SameLengths (rows_of f) (rows_of (stopless f))
stopless-lengths f = same-lengths (stopless-contents f)
