-- The rows of a tree against its names and codes. Each piece of a tree puts rows whose tokens are its own, so the rows of names, each with its
-- set and the content of its token, are the tree's names in file order, and the rows of sets its codes.
use mathlib.Core.Path.{◌≡◌, refl, sym, ◌∙◌, ap, subst}
use mathlib.Core.List.{List, [], ◌∷◌, ◌++◌, map, flat_map, append-nil, append_assoc, map-append}
use Prim.Native.Nat.{ℕ, zero, suc, ◌+◌, ◌-◌, ◌≤◌}
use native.Mathlib.Nat.{add-zero, zero-add}
use native.Mathlib.Numerals.{add-one}
use native.Mathlib.Omega.{arith}
use lib.ListN.{length, get_or, drop, replicate, length-append, length-map, get_or-map}
use lib.Seq.{drop-drop, drop-append_seam, get_or-drop}
use Rattle.star_text.specs.Names.{key}
use Rattle.star_lex.specs.Tokens.{Token, Each}
use Rattle.star_grammar.specs.Tree.{Inner, Packet, inner_yield, packet_yield, Loop, loop_yield, Entry, item, looped, entry_yield, Frame, frame_yield, Member, own, framed, member_yield, Block, block_yield, File, file_yield, loop_start, stop}
use Rattle.star_grammar.specs.Tables.{SetRow, NameRow, ValueRow, Rows, no_rows, pass, open_loop, put_set, put_name, put_packet, put_value, fold, next, put_values, put_inner, put_packet_tree, put_names, put_deeper, put_stops, put_loop, put_entry, put_frame, put_member, block_kind, put_block, link_to, linked_from, linked, rows_of}
use Rattle.star_grammar.specs.Reading.{contents, entry_names, frame_codes}

-- what the token of that row is compared by
abbrev pub content_in : List Token → (row : ℕ) → List ℕ
content_in ts row = get_or (contents ts) (row - 1) []

-- the set of a name's row, and the name
abbrev pub name_in : List Token → NameRow → ℕ × List ℕ
name_in ts x = (x.set, content_in ts x.name)

-- the kind and parent of a set's row, and the code
abbrev pub set_in : List Token → SetRow → ℕ × ℕ × List ℕ
set_in ts x = (x.kind, x.parent, content_in ts x.heading)

-- names, all of one set
abbrev pub of : (set : ℕ) → List (List ℕ) → List (ℕ × List ℕ)
of set names = map (λ n. (set, n)) names

-- the frames of one block
abbrev pub frames_of : (block : ℕ) → List (List ℕ) → List (ℕ × ℕ × List ℕ)
frames_of block codes = map (λ c. (2, block, c)) codes

-- the names of a tree's pieces, each with its set, where so many sets come before: in file order
abbrev pub member_names : (block sets : ℕ) → Member → List (ℕ × List ℕ)
member_names block sets (own e) = of block (entry_names e)
member_names block sets (framed f) = of (suc sets) (flat_map entry_names f.entries)

abbrev pub members_names : (block sets : ℕ) → List Member → List (ℕ × List ℕ)
members_names block sets [] = []
members_names block sets (m ∷ ms) = member_names block sets m ++ members_names block (sets + length (frame_codes m)) ms

abbrev pub file_names : (sets : ℕ) → File → List (ℕ × List ℕ)
file_names sets [] = []
file_names sets (b ∷ f) =
    members_names (suc sets) (suc sets) b.members ++ file_names (suc sets + length (flat_map frame_codes b.members)) f

-- its sets: kind, parent and code
abbrev pub file_sets : (sets : ℕ) → File → List (ℕ × ℕ × List ℕ)
file_sets sets [] = []
file_sets sets (b ∷ f) =
    ((block_kind b, 0, key b.heading.content) ∷ frames_of (suc sets) (flat_map frame_codes b.members))
    ++ file_sets (suc sets + length (flat_map frame_codes b.members)) f

-- a row of table 1 with so many tokens
abbrev pub IsToken : (count row : ℕ) → Type 0
IsToken count row = (1 ≤ row) × (row ≤ count)

-- the tokens of all rows are among those passed
pub record Inside (tokens : ℕ) (sets : List SetRow) (names : List NameRow) (values : List ValueRow) : Type 0 where
  pub headings : Each (λ x. IsToken tokens x.heading) sets
  pub name-tokens : Each (λ x. IsToken tokens x.name) names
  pub value-tokens : Each (λ x. IsToken tokens x.value) values

abbrev pub RowsInside : Rows → Type 0
RowsInside r = Inside r.tokens r.sets r.names r.values

each_more : {A : Type 0} (f : A → ℕ) (n : ℕ) (xs : List A) → Each (λ x. IsToken n (f x)) xs → Each (λ x. IsToken (suc n) (f x)) xs
each_more f n [] e = tt
each_more f n (x ∷ xs) e = ((e.0.0, omega (arith, e.0.1)), each_more f n xs e.1)

each_last : {A : Type 0} (f : A → ℕ) (n : ℕ) (xs : List A) (y : A) → f y ≡ suc n → Each (λ x. IsToken n (f x)) xs
    → Each (λ x. IsToken (suc n) (f x)) (xs ++ (y ∷ []))
each_last f n [] y h e = (omega arith, tt)
each_last f n (x ∷ xs) y h e = ((e.0.0, omega (arith, e.0.1)), each_last f n xs y h e.1)

-- links leave the tokens of value rows as they are
each-linked : (n number : ℕ) (vs : List ValueRow) → Each (λ x. IsToken n x.value) vs → Each (λ x. IsToken n x.value) (linked_from number vs)
unfolding link_to linked_from
each-linked n number [] e = tt
each-linked n number (v ∷ vs) e = (e.0, each-linked n (suc number) vs e.1)

-- a token passed, with no row of tables 2, 3 and 5
inside-more : {n : ℕ} {sets : List SetRow} {names : List NameRow} {values : List ValueRow} → Inside n sets names values
    → Inside (suc n) sets names values
inside-more {n} {sets} {names} {values} h = record {
  headings = each_more (λ x. x.heading) n sets h.headings;
  name-tokens = each_more (λ x. x.name) n names h.name-tokens;
  value-tokens = each_more (λ x. x.value) n values h.value-tokens;
}

-- the first token left
first-content : (ts : List Token) (n : ℕ) (t : Token) (rest : List Token) → drop n ts ≡ t ∷ rest → content_in ts (suc n) ≡ key t.content
unfolding key
first-content ts n t rest e =
    let d : Token = record { kind = 0; content = [] } in
    ap (λ i. get_or (contents ts) i []) (let k : suc n - 1 ≡ n + 0 = omega arith in k)
    ∙ get_or-map (λ u. key u.content) ts (n + 0) d
    ∙ ap (λ u. key u.content) (sym (get_or-drop n ts 0 d) ∙ ap (λ l. get_or l 0 d) e)

-- what is put while these tokens are passed: these names and sets, and rows of tokens passed
pub record Puts (ts yield : List Token) (names : List (ℕ × List ℕ)) (sets : List (ℕ × ℕ × List ℕ)) (r u : Rows) : Type 0 where
  pub tokens : u.tokens ≡ r.tokens + length yield
  pub names-are : map (name_in ts) u.names ≡ map (name_in ts) r.names ++ names
  pub sets-are : map (set_in ts) u.sets ≡ map (set_in ts) r.sets ++ sets
  pub inside : RowsInside r → RowsInside u

-- the same where the tokens left begin with those
abbrev pub Piece : (ts yield : List Token) (names : List (ℕ × List ℕ)) (sets : List (ℕ × ℕ × List ℕ)) (r u : Rows) → Type 0
Piece ts yield names sets r u = (rest : List Token) → drop r.tokens ts ≡ yield ++ rest → Puts ts yield names sets r u

-- what stands below a packet makes no name and no set
abbrev InnerPuts : (ts : List Token) → List ℕ → Type 0
InnerPuts ts ls = (loop level first parent : ℕ) (i : Inner ls) (r : Rows) → Piece ts (inner_yield ls i) [] [] r (put_inner ls loop level first parent i r)

module _ {ts : List Token} where
  -- the tokens left afterwards
  tokens-left : {a rest : List Token} {ns : List (ℕ × List ℕ)} {ss : List (ℕ × ℕ × List ℕ)} {r u : Rows} → Puts ts a ns ss r u
      → drop r.tokens ts ≡ a ++ rest → drop u.tokens ts ≡ rest
  tokens-left {a} {rest} {r = r} p e = rw (p.tokens, ← drop-drop (length a) r.tokens ts, e) (drop-append_seam a rest)

  joined : {a b : List Token} {ns ms : List (ℕ × List ℕ)} {ss zs : List (ℕ × ℕ × List ℕ)} {r u v : Rows} → Puts ts a ns ss r u → Puts ts b ms zs u v
      → Puts ts (a ++ b) (ns ++ ms) (ss ++ zs) r v
  joined {a} {b} {ns} {ms} {ss} {zs} {r = r} p q = record {
    tokens = omega (arith, length-append a b, p.tokens, q.tokens);
    names-are = q.names-are ∙ ap (λ l. l ++ ms) p.names-are ∙ append_assoc (map (name_in ts) r.names) ns ms;
    sets-are = q.sets-are ∙ ap (λ l. l ++ zs) p.sets-are ∙ append_assoc (map (set_in ts) r.sets) ss zs;
    inside = λ h. q.inside (p.inside h);
  }

  sets-count : {a : List Token} {ns : List (ℕ × List ℕ)} {ss : List (ℕ × ℕ × List ℕ)} {r u : Rows} → Puts ts a ns ss r u
      → length u.sets ≡ length r.sets + length ss
  sets-count {ss = ss} {r} {u} p =
      sym (length-map u.sets (set_in ts)) ∙ ap length p.sets-are ∙ length-append (map (set_in ts) r.sets) ss
      ∙ ap (λ n. n + length ss) (length-map r.sets (set_in ts))

  -- a piece after a piece, the sets so far counted
  then-counted : {a b : List Token} {ns ms : List (ℕ × List ℕ)} {ss zs : List (ℕ × ℕ × List ℕ)} {r u v : Rows} → Piece ts a ns ss r u
      → (length u.sets ≡ length r.sets + length ss → Piece ts b ms zs u v) → Piece ts (a ++ b) (ns ++ ms) (ss ++ zs) r v
  then-counted {a} {b} {r = r} p q rest e =
      let left : drop r.tokens ts ≡ a ++ (b ++ rest) = e ∙ append_assoc a b rest in
      let done : Puts ts a _ _ r _ = p (b ++ rest) left in
      joined done (q (sets-count done) rest (tokens-left done left))

  then : {a b : List Token} {ns ms : List (ℕ × List ℕ)} {ss zs : List (ℕ × ℕ × List ℕ)} {r u v : Rows} → Piece ts a ns ss r u → Piece ts b ms zs u v
      → Piece ts (a ++ b) (ns ++ ms) (ss ++ zs) r v
  then p q = then-counted p (λ c. q)

  -- tokens that make no name and no set
  then-none : {a b : List Token} {ns : List (ℕ × List ℕ)} {ss : List (ℕ × ℕ × List ℕ)} {r u v : Rows} → Piece ts a ns ss r u → Piece ts b [] [] u v
      → Piece ts (a ++ b) ns ss r v
  then-none {ns = ns} {ss} p q rest e = rw (append-nil ns, append-nil ss) at (then p q rest e)

  puts_none : (r : Rows) → Piece ts [] [] [] r r
  puts_none r rest e = record { tokens = sym (add-zero r.tokens); names-are = sym (append-nil _); sets-are = sym (append-nil _); inside = λ h. h }

  puts-pass : (t : Token) (r : Rows) → Piece ts (t ∷ []) [] [] r (pass r)
  unfolding pass
  puts-pass t r rest e = record {
    tokens = sym (add-one r.tokens);
    names-are = sym (append-nil _);
    sets-are = sym (append-nil _);
    inside = inside-more;
  }

  puts_open : (t : Token) (r : Rows) → Piece ts (t ∷ []) [] [] r (open_loop r)
  unfolding open_loop
  puts_open t r rest e = record {
    tokens = sym (add-one r.tokens);
    names-are = sym (append-nil _);
    sets-are = sym (append-nil _);
    inside = inside-more;
  }

  puts-packet : (loop level parent : ℕ) (r : Rows) → Piece ts [] [] [] r (put_packet loop level parent r)
  unfolding put_packet
  puts-packet loop level parent r rest e = record {
    tokens = sym (add-zero r.tokens);
    names-are = sym (append-nil _);
    sets-are = sym (append-nil _);
    inside = λ h. h;
  }

  puts-value : (name packet : ℕ) (t : Token) (r : Rows) → Piece ts (t ∷ []) [] [] r (put_value name packet r)
  unfolding put_value
  puts-value name packet t r rest e = record {
    tokens = sym (add-one r.tokens);
    names-are = sym (append-nil _);
    sets-are = sym (append-nil _);
    inside = λ h. record {
      headings = each_more (λ x. x.heading) r.tokens r.sets h.headings;
      name-tokens = each_more (λ x. x.name) r.tokens r.names h.name-tokens;
      value-tokens = each_last (λ x. x.value) r.tokens r.values _ refl h.value-tokens;
    };
  }

  -- a name, and a heading
  puts-name : (set loop level : ℕ) (t : Token) (r : Rows) → Piece ts (t ∷ []) (of set (key t.content ∷ [])) [] r (put_name set loop level r)
  unfolding put_name
  puts-name set loop level t r rest e = record {
    tokens = sym (add-one r.tokens);
    names-are = map-append (name_in ts) r.names _ ∙ ap (λ c. map (name_in ts) r.names ++ ((set, c) ∷ [])) (first-content ts r.tokens t rest e);
    sets-are = sym (append-nil _);
    inside = λ h. record {
      headings = each_more (λ x. x.heading) r.tokens r.sets h.headings;
      name-tokens = each_last (λ x. x.name) r.tokens r.names _ refl h.name-tokens;
      value-tokens = each_more (λ x. x.value) r.tokens r.values h.value-tokens;
    };
  }

  puts-set : (kind parent : ℕ) (t : Token) (r : Rows) → Piece ts (t ∷ []) [] ((kind, parent, key t.content) ∷ []) r (put_set kind parent r)
  unfolding put_set
  puts-set kind parent t r rest e = record {
    tokens = sym (add-one r.tokens);
    names-are = sym (append-nil _);
    sets-are = map-append (set_in ts) r.sets _ ∙ ap (λ c. map (set_in ts) r.sets ++ ((kind, parent, c) ∷ [])) (first-content ts r.tokens t rest e);
    inside = λ h. record {
      headings = each_last (λ x. x.heading) r.tokens r.sets _ refl h.headings;
      name-tokens = each_more (λ x. x.name) r.tokens r.names h.name-tokens;
      value-tokens = each_more (λ x. x.value) r.tokens r.values h.value-tokens;
    };
  }

  -- pieces of one set, one after another
  then-of : {a b : List Token} (set : ℕ) (ns ms : List (List ℕ)) {r u v : Rows} → Piece ts a (of set ns) [] r u → Piece ts b (of set ms) [] u v
      → Piece ts (a ++ b) (of set (ns ++ ms)) [] r v
  then-of set ns ms p q = rw (map-append {B = ℕ × List ℕ} (λ n. (set, n)) ns ms) (then p q)

  fold-of : {A : Type 0} (set : ℕ) (put : A → Rows → Rows) (yield : A → List Token) (names : A → List (List ℕ))
      → ((x : A) (r : Rows) → Piece ts (yield x) (of set (names x)) [] r (put x r))
      → (xs : List A) (r : Rows) → Piece ts (flat_map yield xs) (of set (flat_map names xs)) [] r (fold put xs r)
  unfolding flat_map
  fold-of set put yield names h [] r = puts_none r
  fold-of set put yield names h (x ∷ xs) r = then-of set (names x) (flat_map names xs) (h x r) (fold-of set put yield names h xs (put x r))

  fold-none : {A : Type 0} (put : A → Rows → Rows) (yield : A → List Token)
      → ((x : A) (r : Rows) → Piece ts (yield x) [] [] r (put x r))
      → (xs : List A) (r : Rows) → Piece ts (flat_map yield xs) [] [] r (fold put xs r)
  unfolding flat_map
  fold-none put yield h [] r = puts_none r
  fold-none put yield h (x ∷ xs) r = then (h x r) (fold-none put yield h xs (put x r))

  -- packets
  puts-values : (name packet : ℕ) (vs : List Token) (r : Rows) → Piece ts vs [] [] r (put_values name packet vs r)
  unfolding put_values
  puts-values name packet [] r = puts_none r
  puts-values name packet (v ∷ vs) r = then (puts-value name packet v r) (puts-values (suc name) packet vs (put_value name packet r))

  puts-packet-tree : (m : ℕ) (ls : List ℕ) → InnerPuts ts ls → (loop level first parent : ℕ) (p : Packet ls) (r : Rows)
      → Piece ts (packet_yield ls p) [] [] r (put_packet_tree m ls loop level first parent p r)
  unfolding put_packet_tree
  puts-packet-tree m ls below loop level first parent p r =
      let number : ℕ = next r.packets in
      let r₁ : Rows = put_packet loop level parent r in
      then (puts-packet loop level parent r) (then (puts-values first number p.0 r₁)
      (below loop (suc level) (first + m) number p.1 (put_values first number p.0 r₁)))

  puts-inner : (ls : List ℕ) → InnerPuts ts ls
  unfolding put_inner inner_yield put_packet_tree
  puts-inner [] loop level first parent i r = puts_none r
  puts-inner (m ∷ ls) loop level first parent ps r =
      then (fold-none (put_packet_tree m ls loop level first parent) (packet_yield ls) (puts-packet-tree m ls (puts-inner ls) loop level first parent) ps r) (puts-pass stop _)

  -- a loop's header
  puts-names : (set loop level : ℕ) (ns : List Token) (r : Rows) → Piece ts ns (of set (contents ns)) [] r (put_names set loop level ns r)
  unfolding put_names
  puts-names set loop level [] r = puts_none r
  puts-names set loop level (n ∷ ns) r = then (puts-name set loop level n r) (puts-names set loop level ns (put_name set loop level r))

  puts-deeper : (set loop level : ℕ) (nss : List (List Token)) (r : Rows)
      → Piece ts (flat_map (λ ns. loop_start ∷ ns) nss) (of set (flat_map contents nss)) [] r (put_deeper set loop level nss r)
  unfolding put_deeper flat_map
  puts-deeper set loop level [] r = puts_none r
  puts-deeper set loop level (ns ∷ nss) r =
      then-of set (contents ns) (flat_map contents nss) (then (puts-pass loop_start r) (puts-names set loop level ns (pass r)))
      (puts-deeper set loop (suc level) nss (put_names set loop level ns (pass r)))

  puts-stops : (n : ℕ) (r : Rows) → Piece ts (replicate n stop) [] [] r (put_stops n r)
  unfolding put_stops
  puts-stops zero r = puts_none r
  puts-stops (suc n) r = then (puts-pass stop r) (puts-stops n (pass r))

  puts-loop : (set : ℕ) (l : Loop) (r : Rows)
      → Piece ts (loop_yield l) (of set (contents l.names ++ flat_map contents l.deeper)) [] r (put_loop set l r)
  unfolding put_loop loop_yield
  puts-loop set l r =
      let number : ℕ = suc r.loops in
      let ms : List ℕ = map length l.deeper in
      let r₁ : Rows = put_names set number 1 l.names (open_loop r) in
      let r₂ : Rows = put_deeper set number 2 l.deeper r₁ in
      then-of set (contents l.names) (flat_map contents l.deeper) (then (puts_open loop_start r) (puts-names set number 1 l.names (open_loop r)))
      (then-none (puts-deeper set number 2 l.deeper r₁) (then (puts-stops l.stops r₂)
      (fold-none _ (packet_yield ms) (puts-packet-tree (length l.names) ms (puts-inner ms) number 1 (next r.names) 0) l.packets (put_stops l.stops r₂))))

  puts-entry : (set : ℕ) (e : Entry) (r : Rows) → Piece ts (entry_yield e) (of set (entry_names e)) [] r (put_entry set e r)
  unfolding put_entry entry_yield entry_names
  puts-entry set (item n v) r = then (puts-name set 0 0 n r) (puts-value (next r.names) 0 v (put_name set 0 0 r))
  puts-entry set (looped l) r = puts-loop set l r

  puts-entries : (set : ℕ) (es : List Entry) (r : Rows)
      → Piece ts (flat_map entry_yield es) (of set (flat_map entry_names es)) [] r (fold (put_entry set) es r)
  puts-entries set = fold-of set (put_entry set) entry_yield entry_names (puts-entry set)

  puts-frame : (close : Token) (block : ℕ) (f : Frame) (r : Rows)
      → Piece ts (frame_yield close f) (of (next r.sets) (flat_map entry_names f.entries)) ((2, block, key f.heading.content) ∷ []) r (put_frame block f r)
  unfolding put_frame frame_yield
  puts-frame close block f r =
      then (puts-set 2 block f.heading r) (then-none (puts-entries (next r.sets) f.entries (put_set 2 block r)) (puts-pass close _))

  puts-member : (close : Token) (block : ℕ) (m : Member) (r : Rows)
      → Piece ts (member_yield close m) (member_names block (length r.sets) m) (frames_of block (frame_codes m)) r (put_member block m r)
  unfolding put_member member_yield frame_codes
  puts-member close block (own e) r = puts-entry block e r
  puts-member close block (framed f) r = puts-frame close block f r

  puts-members : (close : Token) (block : ℕ) (ms : List Member) (sets : ℕ) (r : Rows) → length r.sets ≡ sets
      → Piece ts (flat_map (member_yield close) ms) (members_names block sets ms) (frames_of block (flat_map frame_codes ms)) r (fold (put_member block) ms r)
  unfolding flat_map
  puts-members close block [] sets r h = puts_none r
  puts-members close block (m ∷ ms) sets r h =
      let code : List ℕ → ℕ × ℕ × List ℕ = λ c. (2, block, c) in
      rw (← h, map-append code (frame_codes m) (flat_map frame_codes ms))
      (then-counted (puts-member close block m r)
      (λ c. puts-members close block ms (length r.sets + length (frame_codes m)) (put_member block m r) (omega (arith, c, length-map (frame_codes m) code))))

  puts-block : (close : Token) (b : Block) (r : Rows)
      → Piece ts (block_yield close b) (members_names (next r.sets) (next r.sets) b.members)
      ((block_kind b, 0, key b.heading.content) ∷ frames_of (next r.sets) (flat_map frame_codes b.members)) r (put_block b r)
  unfolding put_block block_yield
  puts-block close b r =
      then-counted (puts-set (block_kind b) 0 b.heading r)
      (λ c. puts-members close (next r.sets) b.members (next r.sets) (put_set (block_kind b) 0 r) (c ∙ add-one (length r.sets)))

  puts-blocks : (close : Token) (f : File) (sets : ℕ) (r : Rows) → length r.sets ≡ sets
      → Piece ts (file_yield close f) (file_names sets f) (file_sets sets f) r (fold put_block f r)
  unfolding flat_map
  puts-blocks close [] sets r h = puts_none r
  puts-blocks close (b ∷ f) sets r h =
      let codes : List (List ℕ) = flat_map frame_codes b.members in
      let code : List ℕ → ℕ × ℕ × List ℕ = λ c. (2, next r.sets, c) in
      let P : ℕ → Type 0 = λ s. Piece ts (file_yield close (b ∷ f)) (file_names s (b ∷ f)) (file_sets s (b ∷ f)) r (fold put_block (b ∷ f) r) in
      subst P h
      (then-counted (puts-block close b r)
      (λ c. puts-blocks close f (next r.sets + length codes) (put_block b r) (omega (arith, c, length-map codes code))))

-- what the rows of a tree are
pub record TreeRows (close : Token) (f : File) : Type 0 where
  pub names : map (name_in (file_yield close f)) (rows_of f).names ≡ file_names 0 f
  pub sets : map (set_in (file_yield close f)) (rows_of f).sets ≡ file_sets 0 f
  pub inside : Inside (length (file_yield close f)) (rows_of f).sets (rows_of f).names (rows_of f).values

pub tree-rows : (close : Token) (f : File) → TreeRows close f
unfolding rows_of linked no_rows
tree-rows close f =
    let p : Puts (file_yield close f) (file_yield close f) (file_names 0 f) (file_sets 0 f) no_rows (fold put_block f no_rows)
    = puts-blocks close f 0 no_rows refl [] (sym (append-nil (file_yield close f))) in
    let k : Inside (length (file_yield close f)) (fold put_block f no_rows).sets (fold put_block f no_rows).names (fold put_block f no_rows).values
    = rw (p.tokens, zero-add) at (p.inside (record { headings = tt; name-tokens = tt; value-tokens = tt })) in
    record {
      names = p.names-are;
      sets = p.sets-are;
      inside = record {
        headings = k.headings;
        name-tokens = k.name-tokens;
        value-tokens = each-linked (length (file_yield close f)) 1 (fold put_block f no_rows).values k.value-tokens;
      };
    }
