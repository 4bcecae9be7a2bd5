-- The rows of a tree and of the tree without header stops, built side by side: each piece of both puts the same rows, and a header stop puts none.
use mathlib.Core.Path.{refl, sym, ap, subst, subst₂}
use mathlib.Core.List.{List, [], ◌∷◌, ◌++◌, map, flat_map, append-nil}
use Prim.Native.Nat.{ℕ, zero, suc, ◌+◌}
use lib.ListN.{length, replicate}
use Rattle.star_lex.specs.Tokens.{Token}
use Rattle.star_grammar.specs.Tree.{loop_start, stop, Inner, Packet, inner_yield, packet_yield, Loop, loop_yield, Entry, item, looped, entry_yield, Frame, frame_yield, Member, own, framed, member_yield, is_global, Block, block_yield, File, file_yield}
use Rattle.star_grammar.specs.Tables.{Rows, no_rows, pass, open_loop, put_set, put_name, put_packet, put_value, fold, next, put_values, put_inner, put_packet_tree, put_names, put_deeper, put_stops, put_loop, put_entry, put_frame, put_member, block_kind, put_block}
use Rattle.star_grammar.specs.Stopless.{stopless_loop, stopless_entry, stopless_frame, stopless_member, stopless_block, stopless}
use Rattle.star_grammar.proofs.Alike.{Alike, next-sets, next-names, next-packets, grouped, alike-pass, alike-extra, alike-open, alike-packet, alike_set, alike-name, alike-value}

-- the rows of a loop of this number whose first name row is this one
abbrev loop_at : (set number first : ℕ) → Loop → Rows → Rows
loop_at set number first l r =
    fold (put_packet_tree (length l.names) (map length l.deeper) number 1 first 0) l.packets
    (put_stops l.stops (put_deeper set number 2 l.deeper (put_names set number 1 l.names (open_loop r))))

-- rows stay alike over these tokens on the left and those on the right
abbrev Kept : (ts us x y : List Token) (f g : Rows → Rows) → Type 0
Kept ts us x y f g = (a b : List Token) (r s : Rows) → Alike ts us (x ++ a) (y ++ b) r s → Alike ts us a b (f r) (g s)

-- what stands below a packet puts the same rows
abbrev InnerKept : (ts us : List Token) → List ℕ → Type 0
InnerKept ts us ls =
    (loop level first parent : ℕ) (i : Inner ls)
    → Kept ts us (inner_yield ls i) (inner_yield ls i) (put_inner ls loop level first parent i) (put_inner ls loop level first parent i)

module _ {ts us : List Token} where
  -- the same pieces on both sides, and pieces changed on the right
  kept-fold : {A : Type 0} (put : A → Rows → Rows) (yield : A → List Token) → ((x : A) → Kept ts us (yield x) (yield x) (put x) (put x))
      → (xs : List A) → Kept ts us (flat_map yield xs) (flat_map yield xs) (fold put xs) (fold put xs)
  unfolding flat_map
  kept-fold put yield one [] a b r s h = h
  kept-fold put yield one (x ∷ xs) a b r s h =
      let rest : List Token = flat_map yield xs in
      kept-fold put yield one xs a b (put x r) (put x s) (one x (rest ++ a) (rest ++ b) r s (grouped (yield x) rest a (yield x) rest b h))

  kept_map : {A : Type 0} (put : A → Rows → Rows) (yield : A → List Token) (m : A → A) → ((x : A) → Kept ts us (yield x) (yield (m x)) (put x) (put (m x)))
      → (xs : List A) → Kept ts us (flat_map yield xs) (flat_map yield (map m xs)) (fold put xs) (fold put (map m xs))
  unfolding flat_map
  kept_map put yield m one [] a b r s h = h
  kept_map put yield m one (x ∷ xs) a b r s h =
      let rest : List Token = flat_map yield xs in
      let rest' : List Token = flat_map yield (map m xs) in
      kept_map put yield m one xs a b (put x r) (put (m x) s) (one x (rest ++ a) (rest' ++ b) r s (grouped (yield x) rest a (yield (m x)) rest' b h))

  -- packets
  kept-values : (name packet : ℕ) (vs : List Token) → Kept ts us vs vs (put_values name packet vs) (put_values name packet vs)
  unfolding put_values
  kept-values name packet [] a b r s h = h
  kept-values name packet (v ∷ vs) a b r s h = kept-values (suc name) packet vs a b _ _ (alike-value name packet v h)

  kept-packet : (m : ℕ) (ls : List ℕ) → InnerKept ts us ls → (loop level first parent : ℕ) (p : Packet ls)
      → Kept ts us (packet_yield ls p) (packet_yield ls p) (put_packet_tree m ls loop level first parent p) (put_packet_tree m ls loop level first parent p)
  unfolding put_packet_tree
  kept-packet m ls below loop level first parent p a b r s h =
      let number : ℕ = next r.packets in
      let inner : List Token = inner_yield ls p.1 in
      subst (λ n. Alike ts us a b (put_packet_tree m ls loop level first parent p r)
      (put_inner ls loop (suc level) (first + m) n p.1 (put_values first n p.0 (put_packet loop level parent s)))) (sym (next-packets h))
      (below loop (suc level) (first + m) number p.1 a b _ _ (kept-values first number p.0 (inner ++ a) (inner ++ b) _ _
      (alike-packet loop level parent (grouped p.0 inner a p.0 inner b h))))

  kept-inner : (ls : List ℕ) → InnerKept ts us ls
  unfolding put_inner inner_yield put_packet_tree
  kept-inner [] loop level first parent i a b r s h = h
  kept-inner (m ∷ ls) loop level first parent ps a b r s h =
      let packets : List Token = flat_map (packet_yield ls) ps in
      alike-pass stop (kept-fold (put_packet_tree m ls loop level first parent) (packet_yield ls)
      (kept-packet m ls (kept-inner ls) loop level first parent) ps (stop ∷ a) (stop ∷ b) r s (grouped packets (stop ∷ []) a packets (stop ∷ []) b h))

  -- a loop's header
  kept-names : (set loop level : ℕ) (ns : List Token) → Kept ts us ns ns (put_names set loop level ns) (put_names set loop level ns)
  unfolding put_names
  kept-names set loop level [] a b r s h = h
  kept-names set loop level (n ∷ ns) a b r s h = kept-names set loop level ns a b _ _ (alike-name set loop level n h)

  kept-deeper : (set loop level : ℕ) (nss : List (List Token))
      → Kept ts us (flat_map (λ ns. loop_start ∷ ns) nss) (flat_map (λ ns. loop_start ∷ ns) nss) (put_deeper set loop level nss) (put_deeper set loop level nss)
  unfolding put_deeper flat_map
  kept-deeper set loop level [] a b r s h = h
  kept-deeper set loop level (ns ∷ nss) a b r s h =
      let rest : List Token = flat_map (λ ns. loop_start ∷ ns) nss in
      kept-deeper set loop (suc level) nss a b _ _ (kept-names set loop level ns (rest ++ a) (rest ++ b) _ _
      (alike-pass loop_start (grouped (loop_start ∷ ns) rest a (loop_start ∷ ns) rest b h)))

  alike-stops : (n : ℕ) (a b : List Token) (r s : Rows) → Alike ts us (replicate n stop ++ a) b r s → Alike ts us a b (put_stops n r) s
  unfolding put_stops
  alike-stops zero a b r s h = h
  alike-stops (suc n) a b r s h = alike-stops n a b (pass r) s (alike-extra stop h)

  kept-loop-at : (set number first : ℕ) (l : Loop)
      → Kept ts us (loop_yield l) (loop_yield (stopless_loop l)) (loop_at set number first l) (loop_at set number first (stopless_loop l))
  unfolding loop_yield stopless_loop put_stops
  kept-loop-at set number first l a b r s h =
      let ls : List ℕ = map length l.deeper in
      let ps : List Token = flat_map (packet_yield ls) l.packets in
      let stops : List Token = replicate l.stops stop in
      let header : List Token = flat_map (λ ns. loop_start ∷ ns) l.deeper in
      kept-fold (put_packet_tree (length l.names) ls number 1 first 0) (packet_yield ls)
      (kept-packet (length l.names) ls (kept-inner ls) number 1 first 0) l.packets a b _ _
      (alike-stops l.stops (ps ++ a) (ps ++ b) _ _ (grouped stops ps a [] ps b
      (kept-deeper set number 2 l.deeper (stops ++ ps ++ a) (ps ++ b) _ _ (grouped header (stops ++ ps) a header ps b
      (kept-names set number 1 l.names (header ++ (stops ++ ps) ++ a) (header ++ ps ++ b) _ _ (alike-open loop_start
      (grouped (loop_start ∷ l.names) (header ++ (stops ++ ps)) a (loop_start ∷ l.names) (header ++ ps) b h)))))))

  kept-loop : (set : ℕ) (l : Loop) → Kept ts us (loop_yield l) (loop_yield (stopless_loop l)) (put_loop set l) (put_loop set (stopless_loop l))
  unfolding put_loop
  kept-loop set l a b r s h =
      subst₂ (λ n first. Alike ts us a b (put_loop set l r) (loop_at set n first (stopless_loop l) s)) (sym (ap suc h.loops)) (sym (next-names h))
      (kept-loop-at set (suc r.loops) (next r.names) l a b r s h)

  kept_entry : (set : ℕ) (e : Entry) → Kept ts us (entry_yield e) (entry_yield (stopless_entry e)) (put_entry set e) (put_entry set (stopless_entry e))
  unfolding put_entry entry_yield stopless_entry
  kept_entry set (item n v) a b r s h =
      subst (λ k. Alike ts us a b (put_value (next r.names) 0 (put_name set 0 0 r)) (put_value k 0 (put_name set 0 0 s))) (sym (next-names h))
      (alike-value (next r.names) 0 v (alike-name set 0 0 n h))
  kept_entry set (looped l) a b r s h = kept-loop set l a b r s h

  -- frames and blocks, whatever token closes frames
  kept_frame : (close : Token) (block : ℕ) (f : Frame)
      → Kept ts us (frame_yield close f) (frame_yield close (stopless_frame f)) (put_frame block f) (put_frame block (stopless_frame f))
  unfolding put_frame frame_yield stopless_frame
  kept_frame close block f a b r s h =
      let number : ℕ = next r.sets in
      let es : List Token = flat_map entry_yield f.entries in
      let es' : List Token = flat_map entry_yield (map stopless_entry f.entries) in
      subst (λ n. Alike ts us a b (put_frame block f r) (pass (fold (put_entry n) (map stopless_entry f.entries) (put_set 2 block s)))) (sym (next-sets h))
      (alike-pass close (kept_map (put_entry number) entry_yield stopless_entry (kept_entry number) f.entries (close ∷ a) (close ∷ b) _ _
      (grouped es (close ∷ []) a es' (close ∷ []) b (alike_set 2 block f.heading h))))

  kept-member : (close : Token) (block : ℕ) (m : Member)
      → Kept ts us (member_yield close m) (member_yield close (stopless_member m)) (put_member block m) (put_member block (stopless_member m))
  unfolding put_member member_yield stopless_member
  kept-member close block (own e) a b r s h = kept_entry block e a b r s h
  kept-member close block (framed f) a b r s h = kept_frame close block f a b r s h

  kept_block : (close : Token) (x : Block) → Kept ts us (block_yield close x) (block_yield close (stopless_block x)) (put_block x) (put_block (stopless_block x))
  unfolding put_block block_yield stopless_block block_kind is_global
  kept_block close x a b r s h =
      let number : ℕ = next r.sets in
      subst (λ n. Alike ts us a b (put_block x r) (fold (put_member n) (map stopless_member x.members) (put_set (block_kind x) 0 s))) (sym (next-sets h))
      (kept_map (put_member number) (member_yield close) stopless_member (kept-member close number) x.members a b _ _ (alike_set (block_kind x) 0 x.heading h))

-- the rows of a tree and of the tree without header stops, not yet linked
pub alike-file : (close : Token) (f : File)
    → Alike (file_yield close f) (file_yield close (stopless f)) [] [] (fold put_block f no_rows) (fold put_block (stopless f) no_rows)
unfolding stopless no_rows
alike-file close f =
    kept_map put_block (block_yield close) stopless_block (kept_block close) f [] [] no_rows no_rows (record {
      left = sym (append-nil (file_yield close f));
      right = sym (append-nil (file_yield close (stopless f)));
      loops = refl;
      sets = refl;
      names = refl;
      packets = refl;
      values = refl;
    })
