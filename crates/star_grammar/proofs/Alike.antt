-- Rows built side by side from two rows of tokens. Rows that are alike stay alike over a token that both have next, and over a token of the left row alone that makes no row.
use mathlib.Core.Path.{◌≡◌, sym, ap, ◌∙◌}
use mathlib.Core.List.{List, [], ◌∷◌, ◌++◌, map, map-append, append_assoc}
use Prim.Native.Nat.{ℕ, suc, ◌+◌, ◌-◌}
use native.Mathlib.Numerals.{add-one}
use native.Mathlib.Omega.{arith}
use lib.ListN.{length, get_or, drop, length-map}
use lib.Seq.{drop-drop, get_or-drop}
use Rattle.star_lex.specs.Tokens.{Token}
use Rattle.star_grammar.specs.Tables.{PacketRow, Rows, pass, open_loop, put_set, put_name, put_packet, put_value, next}
use Rattle.star_grammar.specs.Stopless.{token_of_row, set_seen, name_seen, value_seen}

-- rows r of the tokens ts before a, and rows s of the tokens us before b: the same loops, sets, names, packets and values
pub record Alike (ts us a b : List Token) (r s : Rows) : Type 0 where
  pub left : drop r.tokens ts ≡ a
  pub right : drop s.tokens us ≡ b
  pub loops : s.loops ≡ r.loops
  pub sets : map (set_seen us) s.sets ≡ map (set_seen ts) r.sets
  pub names : map (name_seen us) s.names ≡ map (name_seen ts) r.names
  pub packets : s.packets ≡ r.packets
  pub values : map (value_seen us) s.values ≡ map (value_seen ts) r.values

-- one token further
drop-next : (ts : List Token) (n : ℕ) (t : Token) (rest : List Token) → drop n ts ≡ t ∷ rest → drop (suc n) ts ≡ rest
drop-next ts n t rest e = ap (λ k. drop k ts) (sym (add-one n)) ∙ sym (drop-drop 1 n ts) ∙ ap (drop 1) e

-- the first token left
token-next : (ts : List Token) (n : ℕ) (t : Token) (rest : List Token) → drop n ts ≡ t ∷ rest → token_of_row ts (suc n) ≡ t
unfolding token_of_row
token-next ts n t rest e =
    let d : Token = record { kind = 0; content = [] } in
    ap (λ i. get_or ts i d) (let k : suc n - 1 ≡ n + 0 = omega arith in k) ∙ sym (get_or-drop n ts 0 d) ∙ ap (λ l. get_or l 0 d) e

-- one row more on both sides
map_more : {A B : Type 0} (f g : A → B) (xs ys : List A) (x y : A) → map g ys ≡ map f xs → g y ≡ f x → map g (ys ++ (y ∷ [])) ≡ map f (xs ++ (x ∷ []))
map_more f g xs ys x y e h =
    let both : map g ys ++ (g y ∷ []) ≡ map f xs ++ (f x ∷ []) = λ i. e i ++ (h i ∷ []) in
    map-append g ys (y ∷ []) ∙ both ∙ sym (map-append f xs (x ∷ []))

-- as many rows
pub map-length : {A B : Type 0} (f g : A → B) (xs ys : List A) → map g ys ≡ map f xs → length ys ≡ length xs
map-length f g xs ys e = sym (length-map ys g) ∙ ap length e ∙ length-map xs f

module _ {ts us : List Token} where
  module _ {a b : List Token} {r s : Rows} where
    -- numbers of next rows agree
    pub next-sets : Alike ts us a b r s → next s.sets ≡ next r.sets
    next-sets h = ap suc (map-length (set_seen ts) (set_seen us) r.sets s.sets h.sets)

    pub next-names : Alike ts us a b r s → next s.names ≡ next r.names
    next-names h = ap suc (map-length (name_seen ts) (name_seen us) r.names s.names h.names)

    pub next-packets : Alike ts us a b r s → next s.packets ≡ next r.packets
    next-packets h = ap (λ (ps : List PacketRow). next ps) h.packets

    -- the same tokens left, in other words
    pub moved : {x y : List Token} → a ≡ x → b ≡ y → Alike ts us a b r s → Alike ts us x y r s
    moved p q h = record {
      left = h.left ∙ p;
      right = h.right ∙ q;
      loops = h.loops;
      sets = h.sets;
      names = h.names;
      packets = h.packets;
      values = h.values;
    }

  -- the same tokens left, otherwise grouped
  pub grouped : (x y a x' y' b : List Token) {r s : Rows} → Alike ts us (x ++ y ++ a) (x' ++ y' ++ b) r s → Alike ts us (x ++ (y ++ a)) (x' ++ (y' ++ b)) r s
  grouped x y a x' y' b h = moved (append_assoc x y a) (append_assoc x' y' b) h

  module _ {a b : List Token} {r s : Rows} where
    -- a token that makes no row
    pub alike-pass : (t : Token) → Alike ts us (t ∷ a) (t ∷ b) r s → Alike ts us a b (pass r) (pass s)
    unfolding pass
    alike-pass t h = record {
      left = drop-next ts r.tokens t a h.left;
      right = drop-next us s.tokens t b h.right;
      loops = h.loops;
      sets = h.sets;
      names = h.names;
      packets = h.packets;
      values = h.values;
    }

    -- one on the left alone
    pub alike-extra : (t : Token) → Alike ts us (t ∷ a) b r s → Alike ts us a b (pass r) s
    unfolding pass
    alike-extra t h = record {
      left = drop-next ts r.tokens t a h.left;
      right = h.right;
      loops = h.loops;
      sets = h.sets;
      names = h.names;
      packets = h.packets;
      values = h.values;
    }

    pub alike-open : (t : Token) → Alike ts us (t ∷ a) (t ∷ b) r s → Alike ts us a b (open_loop r) (open_loop s)
    unfolding open_loop
    alike-open t h = record {
      left = drop-next ts r.tokens t a h.left;
      right = drop-next us s.tokens t b h.right;
      loops = ap suc h.loops;
      sets = h.sets;
      names = h.names;
      packets = h.packets;
      values = h.values;
    }

    pub alike-packet : (loop level parent : ℕ) → Alike ts us a b r s → Alike ts us a b (put_packet loop level parent r) (put_packet loop level parent s)
    unfolding put_packet
    alike-packet loop level parent h = record {
      left = h.left;
      right = h.right;
      loops = h.loops;
      sets = h.sets;
      names = h.names;
      packets = ap (λ (ps : List PacketRow). ps ++ (record { loop = loop; level = level; parent = parent } ∷ [])) h.packets;
      values = h.values;
    }

    -- the token that comes next on both sides
    same-token : (t : Token) → Alike ts us (t ∷ a) (t ∷ b) r s → token_of_row us (suc s.tokens) ≡ token_of_row ts (suc r.tokens)
    same-token t h = token-next us s.tokens t b h.right ∙ sym (token-next ts r.tokens t a h.left)

    pub alike_set : (kind parent : ℕ) (t : Token) → Alike ts us (t ∷ a) (t ∷ b) r s → Alike ts us a b (put_set kind parent r) (put_set kind parent s)
    unfolding put_set set_seen
    alike_set kind parent t h = record {
      left = drop-next ts r.tokens t a h.left;
      right = drop-next us s.tokens t b h.right;
      loops = h.loops;
      sets = map_more (set_seen ts) (set_seen us) r.sets s.sets _ _ h.sets (λ i. (kind, same-token t h i, parent));
      names = h.names;
      packets = h.packets;
      values = h.values;
    }

    pub alike-name : (set loop level : ℕ) (t : Token) → Alike ts us (t ∷ a) (t ∷ b) r s → Alike ts us a b (put_name set loop level r) (put_name set loop level s)
    unfolding put_name name_seen
    alike-name set loop level t h = record {
      left = drop-next ts r.tokens t a h.left;
      right = drop-next us s.tokens t b h.right;
      loops = h.loops;
      sets = h.sets;
      names = map_more (name_seen ts) (name_seen us) r.names s.names _ _ h.names (λ i. (set, same-token t h i, loop, level));
      packets = h.packets;
      values = h.values;
    }

    pub alike-value : (name packet : ℕ) (t : Token) → Alike ts us (t ∷ a) (t ∷ b) r s → Alike ts us a b (put_value name packet r) (put_value name packet s)
    unfolding put_value value_seen
    alike-value name packet t h = record {
      left = drop-next ts r.tokens t a h.left;
      right = drop-next us s.tokens t b h.right;
      loops = h.loops;
      sets = h.sets;
      names = h.names;
      packets = h.packets;
      values = map_more (value_seen ts) (value_seen us) r.values s.values _ _ h.values (λ i. (name, packet, same-token t h i, 0));
    }
