-- What a run accepts is the yield of a whole tree: backward over the run, each step that is taken puts its token before what may still come.
use mathlib.Core.Path.{◌≡◌, refl, sym, ap, ◌∙◌, subst, subst₂}
use mathlib.Core.Bool.{true, cond, ◌&&◌}
use mathlib.Core.List.{List, [], ◌∷◌, ◌++◌, map, flat_map, reverse_aux, append_assoc}
use Prim.Native.Nat.{ℕ, zero, suc, ◌≤◌, ◌<◌}
use native.Mathlib.Nat.{add-suc, suc-add, add-zero, zero-add}
use native.Mathlib.Omega.{arith}
use lib.Dec.{eqb, ltb}
use lib.ListN.{length, replicate}
use borrow.Author.Tests.{ltb-true, ltb-false, eqb-true}
use Rattle.star_lex.specs.Rules.{Rules}
use Rattle.star_lex.specs.Tokens.{Token, Each}
use Rattle.star_grammar.specs.Tree.{IsValue, IsName, inner_yield, packet_yield, InnerWhole, Loop, loop_yield, LoopBy, Entry, item, looped, entry_yield, EntryBy, frame_yield, own, framed, member_yield, block_yield, IsHeading, File, file_yield, FileBy, frame_end, loop_start, stop}
use Rattle.star_grammar.specs.Tables.{Rows, no_rows, rows_of}
use Rattle.star_grammar.specs.Machine.{Sort, sort_of, Where, in_block, in_frame, Level, State, start, within, named, header, body, Step, go, refuse, between, filled, fill, value_at, begin, header_step, no_value, no_value_at, body_step, start_step, named_step, step, step_at, bad, good, end_between, end_body, end_run, run}
use Rattle.star_grammar.proofs.Rest.{Fixed, Members, Entries, InSet, Valued, Stopped, Packets, Filling, Levels, Heading, InBody, Blocks, Rest, SaneHeader, SaneBody, Sane}
use Rattle.star_grammar.proofs.Counts.{Counts}
use Rattle.star_grammar.proofs.Sorts.{KindOf, sort-kind, onward, run-onward}
use Rattle.star_grammar.proofs.Complete.{complete}
use Rattle.star_grammar.proofs.Sane.{Taken, taken-map, taken-cond, cond-case, both_left, both_right, reverse-counts, sane-kept}

-- the tokens whose kind fixes their content
frame-end-is : (t : Token) → Fixed t → t.kind ≡ 3 → t ≡ frame_end
unfolding frame_end
frame-end-is t f e = λ i. record { kind = e i; content = f.save-is e i }

loop-start-is : (t : Token) → Fixed t → t.kind ≡ 4 → t ≡ loop_start
unfolding loop_start
loop-start-is t f e = λ i. record { kind = e i; content = f.loop-is e i }

stop-token-is : (t : Token) → Fixed t → t.kind ≡ 5 → t ≡ stop
unfolding stop
stop-token-is t f e = λ i. record { kind = e i; content = f.stop_is e i }

regroup : (a b c d e f g : List Token) → a ++ (b ++ (c ++ (d ++ (e ++ (f ++ g))))) ≡ a ++ (b ++ (c ++ (d ++ e ++ f))) ++ g
regroup a b c d e f g = simp append_assoc

regroup-packet : (a b c d : List Token) → a ++ (b ++ (c ++ d)) ≡ a ++ b ++ c ++ d
regroup-packet a b c d = simp append_assoc

pub empty : {A : Type 0} (xs : List A) → length xs ≡ 0 → xs ≡ []
empty [] e = refl
empty (x ∷ xs) e = absurd (omega (arith, e))

-- a packet before others of its level
packet-packets : (n : ℕ) (inner : List ℕ) (After : List Token → Type 0) (ts : List Token) → Filling n 0 inner (Packets n inner After) ts
    → Packets n inner After ts
unfolding flat_map
packet-packets n inner After ts p = record {
  packets = (p.values, p.below) ∷ p.rest.packets;
  after = p.rest.after;
  yield =
      p.yield ∙ ap (λ (u : List Token). p.values ++ (inner_yield inner p.below ++ u)) p.rest.yield
      ∙ regroup-packet p.values (inner_yield inner p.below) (flat_map (packet_yield inner) p.rest.packets) p.rest.after;
  whole = ((sym (zero-add (length p.values)) ∙ p.count, p.are-values, p.whole), p.rest.whole);
  rest = p.rest.rest;
}

pub no-packet : (n : ℕ) (inner : List ℕ) (After : List Token → Type 0) (ts : List Token) → After ts → Packets n inner After ts
unfolding flat_map
no-packet n inner After ts a = record { packets = []; after = ts; yield = refl; whole = tt; rest = a }

-- a value before others of its packet
one_more : (n f : ℕ) (inner : List ℕ) (After : List Token → Type 0) (t : Token) (ts : List Token) → IsValue t → Filling n (suc f) inner After ts
    → Filling n f inner After (t ∷ ts)
one_more n f inner After t ts v p = record {
  values = t ∷ p.values;
  below = p.below;
  after = p.after;
  yield = ap (λ (u : List Token). t ∷ u) p.yield;
  count = omega (arith, p.count);
  are-values = (v, p.are-values);
  whole = p.whole;
  rest = p.rest;
}

module _ (rules : Rules) where
  -- the last value of a packet, before what is below it
  last-value : (w : Where) (outer : List Level) (l : Level) (inner : List ℕ) (f : ℕ) (t : Token) (ts : List Token) → IsValue t → l.names ≡ suc f
      → Rest rules (filled w outer l inner) ts → Filling l.names f inner (Levels rules w outer l.names inner) (t ∷ ts)
  unfolding filled inner_yield InnerWhole
  last-value w outer l [] f t ts v e p = record {
    values = t ∷ [];
    below = tt;
    after = ts;
    yield = refl;
    count = omega arith;
    are-values = (v, tt);
    whole = tt;
    rest = p;
  }
  last-value w outer l (m ∷ inner) f t ts v e p = record {
    values = t ∷ [];
    below = p.packets;
    after = p.rest.after;
    yield =
        ap (λ (u : List Token). t ∷ u)
        (p.yield ∙ ap (λ (u : List Token). flat_map (packet_yield inner) p.packets ++ u) p.rest.yield
        ∙ sym (append_assoc (flat_map (packet_yield inner) p.packets) (stop ∷ []) p.rest.after));
    count = omega arith;
    are-values = (v, tt);
    whole = p.whole;
    rest = p.rest.rest;
  }

  -- an entry before the rest of a set
  set-entry : (w : Where) (e : Entry) (after : List Token) → EntryBy rules e → InSet rules w after → InSet rules w (entry_yield e ++ after)
  unfolding flat_map member_yield
  set-entry (in_block s) e after we m = record {
    members = own e ∷ m.members;
    blocks = m.blocks;
    yield = ap (λ (ts : List Token). entry_yield e ++ ts) m.yield ∙ sym (append_assoc (entry_yield e) (flat_map (member_yield frame_end) m.members) (file_yield frame_end m.blocks));
    members-whole = (we, m.members-whole);
    blocks-whole = m.blocks-whole;
  }
  set-entry (in_frame b s) e after we m = record {
    entries = e ∷ m.entries;
    after = m.after;
    yield = ap (λ (ts : List Token). entry_yield e ++ ts) m.yield ∙ sym (append_assoc (entry_yield e) (flat_map entry_yield m.entries) (frame_end ∷ m.after));
    whole = (we, m.whole);
    rest = m.rest;
  }

  -- a frame before the rest of a block
  set-frame : (t : Token) (ts : List Token) → t.kind ≡ 2 → Entries rules ts → Members rules (t ∷ ts)
  unfolding flat_map member_yield frame_yield
  set-frame t ts e m = record {
    members = framed (record { heading = t; entries = m.entries }) ∷ m.rest.members;
    blocks = m.rest.blocks;
    yield = ap (λ (u : List Token). t ∷ u) (m.yield ∙ ap (λ (u : List Token). flat_map entry_yield m.entries ++ (frame_end ∷ u)) m.rest.yield ∙ simp append_assoc);
    members-whole = (record { heading = e; entries = m.whole }, m.rest.members-whole);
    blocks-whole = m.rest.blocks-whole;
  }

  -- a block's heading before what it holds and the blocks after it
  set-block : (t : Token) (ts : List Token) → IsHeading t → Members rules ts → Blocks rules (t ∷ ts)
  unfolding flat_map block_yield
  set-block t ts e m = record {
    blocks = record { heading = t; members = m.members } ∷ m.blocks;
    yield = ap (λ (u : List Token). t ∷ u) m.yield;
    whole = (record { heading = e; members = m.members-whole }, m.blocks-whole);
  }

  pub set-blocks : (ts : List Token) → Blocks rules ts → Members rules ts
  unfolding flat_map
  set-blocks ts b = record { members = []; blocks = b.blocks; yield = b.yield; members-whole = tt; blocks-whole = b.whole }

  pub set-end : (ts : List Token) → Members rules ts → Entries rules (frame_end ∷ ts)
  unfolding flat_map
  set-end ts m = record { entries = []; after = ts; yield = refl; whole = tt; rest = m }

  set-item : (w : Where) (t : Token) (ts : List Token) → t.kind ≡ 6 → Valued (InSet rules w) ts → InSet rules w (t ∷ ts)
  unfolding entry_yield
  set-item w t ts e v = rw v.yield (set-entry w (item t v.value) v.after (record { kind6 = e }, v.is_value) v.rest)

  -- a loop before the rest of a set
  module _ (w : Where) (names : List Token) (deeper : List (List Token)) (stops : ℕ) (tail : List Token)
      (p : Filling (length names) 0 (map length deeper) (Levels rules w [] (length names) (map length deeper)) tail) where
    loop_of : Loop
    loop_of = record { names = names; deeper = deeper; stops = stops; packets = (p.values, p.below) ∷ p.rest.packets }

    loop-yield : loop_start ∷ (names ++ (flat_map (λ ns. loop_start ∷ ns) deeper ++ (replicate stops stop ++ tail))) ≡ loop_yield loop_of ++ p.rest.after
    unfolding loop_of loop_yield flat_map
    loop-yield =
        ap (λ (u : List Token). loop_start ∷ (names ++ (flat_map (λ ns. loop_start ∷ ns) deeper ++ (replicate stops stop ++ u))))
        (p.yield ∙ ap (λ (u : List Token). p.values ++ (inner_yield (map length deeper) p.below ++ u)) p.rest.yield)
        ∙ regroup (loop_start ∷ names) (flat_map (λ ns. loop_start ∷ ns) deeper) (replicate stops stop) p.values
        (inner_yield (map length deeper) p.below) (flat_map (packet_yield (map length deeper)) p.rest.packets) p.rest.after

    loop-whole : 1 ≤ length names → Each (λ ns. 1 ≤ length ns) deeper → Each IsName names → Each (Each IsName) deeper → length deeper < rules.levels
        → stops ≤ length deeper → (1 ≤ stops → rules.header_stops ≡ true) → LoopBy rules loop_of
    unfolding loop_of
    loop-whole a b c d e f g = record {
      some_name = a;
      some_names = b;
      are_names = c;
      are_deeper = d;
      levels = e;
      stops_fit = f;
      stops_allowed = g;
      some_packet = omega arith;
      whole = ((sym (zero-add (length p.values)) ∙ p.count, p.are-values, p.whole), p.rest.whole);
    }

  set-loop : (w : Where) (ts : List Token) → Heading rules w [] 0 0 ts → InSet rules w (loop_start ∷ ts)
  unfolding entry_yield
  set-loop w ts h =
      let e₁ : h.first ≡ length h.names = cc (zero-add (length h.names)) in
      let e₂ : h.inner ≡ map length h.deeper = cc in
      let p : Filling (length h.names) 0 (map length h.deeper) (Levels rules w [] (length h.names) (map length h.deeper)) h.tail =
      subst₂ (λ (n : ℕ) (ls : List ℕ). Filling n 0 ls (Levels rules w [] n ls) h.tail) e₁ e₂ h.packets in
      rw (h.yield, loop-yield w h.names h.deeper h.stops h.tail p)
      (set-entry w (looped (loop_of w h.names h.deeper h.stops h.tail p)) p.rest.after
      (loop-whole w h.names h.deeper h.stops h.tail p (omega (arith, h.some_name)) h.some_names h.are_names h.are_deeper
      (omega (arith, h.levels)) (omega (arith, h.stops_fit)) h.stops_allowed) p.rest.rest)

  -- a name, a deeper level or a stop before the rest of a header
  pub heading-name : (w : Where) (before : List ℕ) (n : ℕ) (t : Token) (ts : List Token) → t.kind ≡ 6 → Heading rules w before (suc n) 0 ts
      → Heading rules w before n 0 (t ∷ ts)
  heading-name w before n t ts e h = record {
    names = t ∷ h.names;
    deeper = h.deeper;
    stops = h.stops;
    first = h.first;
    inner = h.inner;
    counts = rw (add-suc n (length h.names), ← suc-add n (length h.names)) h.counts;
    tail = h.tail;
    yield = ap (λ (u : List Token). t ∷ u) h.yield;
    some_name = omega arith;
    some_names = h.some_names;
    are_names = (record { kind6 = e }, h.are_names);
    are_deeper = h.are_deeper;
    levels = h.levels;
    stops_fit = h.stops_fit;
    stops_allowed = h.stops_allowed;
    stopped = λ x. absurd (omega (arith, x));
    packets = h.packets;
  }

  heading-deeper : (w : Where) (before : List ℕ) (n : ℕ) (ts : List Token) → 1 ≤ n → Heading rules w (n ∷ before) 0 0 ts
      → Heading rules w before n 0 (loop_start ∷ ts)
  unfolding flat_map
  heading-deeper w before n ts some h = record {
    names = [];
    deeper = h.names ∷ h.deeper;
    stops = h.stops;
    first = h.first;
    inner = h.inner;
    counts = rw (add-zero n) (rw (zero-add (length h.names)) at h.counts);
    tail = h.tail;
    yield = ap (λ (u : List Token). loop_start ∷ u) (h.yield ∙ sym (append_assoc h.names (flat_map (λ ns. loop_start ∷ ns) h.deeper) (replicate h.stops stop ++ h.tail)));
    some_name = omega arith;
    some_names = (omega (arith, h.some_name), h.some_names);
    are_names = tt;
    are_deeper = (h.are_names, h.are_deeper);
    levels = omega (arith, h.levels);
    stops_fit = omega (arith, h.stops_fit);
    stops_allowed = h.stops_allowed;
    stopped = λ x. absurd (omega (arith, x));
    packets = h.packets;
  }

  heading-stop : (w : Where) (before : List ℕ) (n s : ℕ) (ts : List Token) → rules.header_stops ≡ true → Heading rules w before n (suc s) ts
      → Heading rules w before n s (stop ∷ ts)
  unfolding flat_map
  heading-stop w before n s ts allowed h =
      let none : (length h.names ≡ 0) × (length h.deeper ≡ 0) = h.stopped (omega arith) in
      let en : h.names ≡ [] = empty h.names none.0 in
      let ed : h.deeper ≡ [] = empty h.deeper none.1 in
      record {
        names = h.names;
        deeper = h.deeper;
        stops = suc h.stops;
        first = h.first;
        inner = h.inner;
        counts = h.counts;
        tail = h.tail;
        yield = rw (en, ed) (ap (λ (u : List Token). stop ∷ u) (rw (en, ed) at h.yield));
        some_name = h.some_name;
        some_names = h.some_names;
        are_names = h.are_names;
        are_deeper = h.are_deeper;
        levels = h.levels;
        stops_fit = omega (arith, h.stops_fit);
        stops_allowed = λ x. allowed;
        stopped = λ x. none;
        packets = h.packets;
      }

  pub heading-value : (w : Where) (before : List ℕ) (n s m : ℕ) (ls : List ℕ) (ts : List Token) → 1 ≤ n → SaneHeader rules before n s
      → reverse_aux before (n ∷ []) ≡ m ∷ ls → Filling m 0 ls (Levels rules w [] m ls) ts → Heading rules w before n s ts
  unfolding flat_map
  heading-value w before n s m ls ts some h e p = record {
    names = [];
    deeper = [];
    stops = 0;
    first = m;
    inner = ls;
    counts = rw (add-zero n) e;
    tail = ts;
    yield = refl;
    some_name = omega arith;
    some_names = tt;
    are_names = tt;
    are_deeper = tt;
    levels = omega (arith, h.levels);
    stops_fit = omega (arith, h.stops_fit);
    stops_allowed = λ x. absurd (omega (arith, x));
    stopped = λ x. (refl, refl);
    packets = p;
  }

  -- a packet before the packets of its level
  pub level-packet : (w : Where) (outer : List Level) (n : ℕ) (inner : List ℕ) (ts : List Token)
      → Filling n 0 inner (Levels rules w outer n inner) ts → Levels rules w outer n inner ts
  level-packet w [] n inner ts p = packet-packets n inner (InSet rules w) ts p
  level-packet w (o ∷ outer) n inner ts p = packet-packets n inner (Stopped (Levels rules w outer o.names (n ∷ inner))) ts p

  -- a value before what comes after it in a packet
  value-filling : (w : Where) (outer : List Level) (l : Level) (inner : List ℕ) (f : ℕ) (t : Token) (ts : List Token) → IsValue t
      → f < l.names → Rest rules (cond (ltb (suc f) l.names) (body w outer l inner (suc f)) (filled w outer l inner)) ts
      → Filling l.names f inner (Levels rules w outer l.names inner) (t ∷ ts)
  value-filling w outer l inner f t ts v room =
      cond-case (λ s. Rest rules s ts → Filling l.names f inner (Levels rules w outer l.names inner) (t ∷ ts)) (ltb (suc f) l.names)
      (body w outer l inner (suc f)) (filled w outer l inner)
      (λ e. one_more l.names f inner (Levels rules w outer l.names inner) t ts v)
      (λ e. last-value w outer l inner f t ts v (omega (arith, ltb-false (suc f) l.names e)))

-- a token before what may still come after it
module _ (rules : Rules) (t : Token) (ts : List Token) (fixed : Fixed t) where
  value-back : (w : Where) (outer : List Level) (l : Level) (inner : List ℕ) (f : ℕ) (r : Rows) → IsValue t → f < l.names
      → Taken (λ s. Rest rules s ts → InBody rules w outer l inner f (t ∷ ts)) (value_at w outer l inner f r)
  unfolding value_at fill
  value-back w outer l inner zero r v room = λ p. level-packet rules w outer l.names inner (t ∷ ts) (value-filling rules w outer _ inner 0 t ts v room p)
  value-back w outer l inner (suc f) r v room = value-filling rules w outer l inner (suc f) t ts v room

  between-back : (w : Where) (k : Sort) (r : Rows) → KindOf t.kind k
      → Taken (λ s. Rest rules s ts → InSet rules w (t ∷ ts)) (between w k r)
  unfolding between
  between-back (in_block s) Sort.block r e = λ m. set-blocks rules (t ∷ ts) (set-block rules t ts (IsHeading.data_block e) m)
  between-back (in_block s) Sort.global r e = λ m. set-blocks rules (t ∷ ts) (set-block rules t ts (IsHeading.global_block e) m)
  between-back (in_block s) Sort.frame r e = set-frame rules t ts e
  between-back (in_block s) Sort.frame_end r e = tt
  between-back (in_block s) Sort.loop r e = λ h. rw (loop-start-is t fixed e) (set-loop rules (in_block s) ts h)
  between-back (in_block s) Sort.stop r e = tt
  between-back (in_block s) Sort.name r e = set-item rules (in_block s) t ts e
  between-back (in_block s) Sort.value r e = tt
  between-back (in_frame b s) Sort.block r e = tt
  between-back (in_frame b s) Sort.global r e = tt
  between-back (in_frame b s) Sort.frame r e = tt
  between-back (in_frame b s) Sort.frame_end r e = λ m. rw (frame-end-is t fixed e) (set-end rules ts m)
  between-back (in_frame b s) Sort.loop r e = λ h. rw (loop-start-is t fixed e) (set-loop rules (in_frame b s) ts h)
  between-back (in_frame b s) Sort.stop r e = tt
  between-back (in_frame b s) Sort.name r e = set-item rules (in_frame b s) t ts e
  between-back (in_frame b s) Sort.value r e = tt

  start_back : (k : Sort) (r : Rows) → KindOf t.kind k → Taken (λ s. Rest rules s ts → Blocks rules (t ∷ ts)) (start_step k r)
  unfolding start_step
  start_back Sort.block r e = set-block rules t ts (IsHeading.data_block e)
  start_back Sort.global r e = set-block rules t ts (IsHeading.global_block e)
  start_back Sort.frame r e = tt
  start_back Sort.frame_end r e = tt
  start_back Sort.loop r e = tt
  start_back Sort.stop r e = tt
  start_back Sort.name r e = tt
  start_back Sort.value r e = tt

  named_back : (w : Where) (k : Sort) (r : Rows) → KindOf t.kind k
      → Taken (λ s. Rest rules s ts → Valued (InSet rules w) (t ∷ ts)) (named_step w k r)
  unfolding named_step
  named_back w Sort.block r e = tt
  named_back w Sort.global r e = tt
  named_back w Sort.frame r e = tt
  named_back w Sort.frame_end r e = tt
  named_back w Sort.loop r e = tt
  named_back w Sort.stop r e = tt
  named_back w Sort.name r e = tt
  named_back w Sort.value r e =
      λ m. record { value = t; after = ts; yield = refl; is_value = record { low = e.0; high = e.1 }; rest = m }

  begin-back : (w : Where) (first : ℕ) (before : List ℕ) (n s : ℕ) (ls : List ℕ) (r : Rows) → IsValue t → 1 ≤ n → SaneHeader rules before n s
      → Counts ls → reverse_aux before (n ∷ []) ≡ ls
      → Taken (λ u. Rest rules u ts → Heading rules w before n s (t ∷ ts)) (begin w first ls r)
  unfolding begin value_at fill
  begin-back w first before n s [] r v some h c e = tt
  begin-back w first before n s (m ∷ ls) r v some h c e =
      λ p. heading-value rules w before n s m ls (t ∷ ts) some h e (value-filling rules w [] _ ls 0 t ts v c.0 p)

  header-back : (w : Where) (first : ℕ) (before : List ℕ) (n s : ℕ) (k : Sort) (r : Rows) → SaneHeader rules before n s → KindOf t.kind k
      → Taken (λ u. Rest rules u ts → Heading rules w before n s (t ∷ ts)) (header_step rules w first before n s k r)
  unfolding header_step
  header-back w first before n s Sort.block r h e = tt
  header-back w first before n s Sort.global r h e = tt
  header-back w first before n s Sort.frame r h e = tt
  header-back w first before n s Sort.frame_end r h e = tt
  header-back w first before n s Sort.loop r h e =
      let P : State → Type 0 = λ u. Rest rules u ts → Heading rules w before n s (t ∷ ts) in
      taken-cond P (ltb 0 n && eqb s 0) _ _
      (λ q. taken-cond P (ltb (suc (length before)) rules.levels) _ _
      (λ q' g. rw (loop-start-is t fixed e, eqb-true s 0 (both_right (ltb 0 n) (eqb s 0) q))
      (heading-deeper rules w before n ts (ltb-true 0 n (both_left (ltb 0 n) (eqb s 0) q)) g))
      (λ q'. tt))
      (λ q. tt)
  header-back w first before n s Sort.stop r h e =
      let P : State → Type 0 = λ u. Rest rules u ts → Heading rules w before n s (t ∷ ts) in
      taken-cond P (ltb 0 n && ltb s (length before)) _ _
      (λ q. taken-cond P rules.header_stops _ _ (λ q' g. rw (stop-token-is t fixed e) (heading-stop rules w before n s ts q' g)) (λ q'. tt))
      (λ q. tt)
  header-back w first before n s Sort.name r h e =
      taken-cond (λ u. Rest rules u ts → Heading rules w before n s (t ∷ ts)) (eqb s 0) _ _
      (λ q g. rw (eqb-true s 0 q) (heading-name rules w before n t ts e g))
      (λ q. tt)
  header-back w first before n s Sort.value r h e =
      taken-cond (λ u. Rest rules u ts → Heading rules w before n s (t ∷ ts)) (ltb 0 n) _ _
      (λ q. begin-back w first before n s (reverse_aux before (n ∷ [])) r (record { low = e.0; high = e.1 }) (ltb-true 0 n q) h
      (reverse-counts before (n ∷ []) h.some_names (ltb-true 0 n q, tt)) refl)
      (λ q. tt)

  no-value-back : (w : Where) (outer : List Level) (l : Level) (inner : List ℕ) (f : ℕ) (k : Sort) (r : Rows) → KindOf t.kind k
      → Taken (λ s. Rest rules s ts → InBody rules w outer l inner f (t ∷ ts)) (no_value_at w outer l inner f k r)
  unfolding no_value_at no_value
  no-value-back w outer l inner (suc f) k r e = tt
  no-value-back w [] l inner zero k r e =
      taken-map (λ s. Rest rules s ts → InSet rules w (t ∷ ts)) (λ s. Rest rules s ts → InBody rules w [] l inner 0 (t ∷ ts))
      (λ s g m. no-packet l.names inner (InSet rules w) (t ∷ ts) (g m)) (between w k r) (between-back w k r e)
  no-value-back w (o ∷ outer) l inner zero Sort.block r e = tt
  no-value-back w (o ∷ outer) l inner zero Sort.global r e = tt
  no-value-back w (o ∷ outer) l inner zero Sort.frame r e = tt
  no-value-back w (o ∷ outer) l inner zero Sort.frame_end r e = tt
  no-value-back w (o ∷ outer) l inner zero Sort.loop r e = tt
  no-value-back w (o ∷ outer) l inner zero Sort.stop r e =
      λ p. rw (stop-token-is t fixed e)
      (no-packet l.names inner _ (stop ∷ ts) (record { after = ts; yield = refl; rest = p }))
  no-value-back w (o ∷ outer) l inner zero Sort.name r e = tt
  no-value-back w (o ∷ outer) l inner zero Sort.value r e = tt

  body_back : (w : Where) (outer : List Level) (l : Level) (inner : List ℕ) (f : ℕ) (k : Sort) (r : Rows)
      → SaneBody rules outer l.names inner f → KindOf t.kind k
      → Taken (λ s. Rest rules s ts → InBody rules w outer l inner f (t ∷ ts)) (body_step w outer l inner f k r)
  unfolding body_step
  body_back w outer l inner f Sort.block r h e = no-value-back w outer l inner f Sort.block r e
  body_back w outer l inner f Sort.global r h e = no-value-back w outer l inner f Sort.global r e
  body_back w outer l inner f Sort.frame r h e = no-value-back w outer l inner f Sort.frame r e
  body_back w outer l inner f Sort.frame_end r h e = no-value-back w outer l inner f Sort.frame_end r e
  body_back w outer l inner f Sort.loop r h e = no-value-back w outer l inner f Sort.loop r e
  body_back w outer l inner f Sort.stop r h e = no-value-back w outer l inner f Sort.stop r e
  body_back w outer l inner f Sort.name r h e = no-value-back w outer l inner f Sort.name r e
  body_back w outer l inner f Sort.value r h e = value-back w outer l inner f r (record { low = e.0; high = e.1 }) h.room

  step-taken : (st : State) (k : Sort) (r : Rows) → Sane rules st → KindOf t.kind k
      → Taken (λ s. Rest rules s ts → Rest rules st (t ∷ ts)) (step rules st k r)
  unfolding step
  step-taken start k r h e = start_back k r e
  step-taken (within w) k r h e = between-back w k r e
  step-taken (named w) k r h e = named_back w k r e
  step-taken (header w first before n s) k r h e = header-back w first before n s k r h e
  step-taken (body w outer l inner f) k r h e = body_back w outer l inner f k r h e

  -- what may come after a step that is taken may come, with its token, before it
  pub step_back : (st s : State) (r r' : Rows) → Sane rules st → step_at rules st t.kind r ≡ go s r' → Rest rules s ts
      → Rest rules st (t ∷ ts)
  step_back st s r r' h e =
      subst (Taken (λ (u : State). Rest rules u ts → Rest rules st (t ∷ ts))) e
      (step-taken st (sort_of t.kind) r h (sort-kind t.kind fixed.least fixed.most))

pub bad-good : (n k : ℕ) (r : Rows) → bad n k ≡ good r → ⊥
bad-good n k r e = let z : ◌≡◌ {A = ℕ} 0 1 = cc in omega arith

-- the end where a run may end
pub end_back : (rules : Rules) (st : State) (r r' : Rows) → end_run st r ≡ good r' → Rest rules st []
unfolding end_run end_between end_body flat_map
end_back rules start r r' e = record { blocks = []; yield = refl; whole = tt }
end_back rules (within (in_block s)) r r' e = set-blocks rules [] (record { blocks = []; yield = refl; whole = tt })
end_back rules (within (in_frame b s)) r r' e = absurd (bad-good _ _ _ e)
end_back rules (named w) r r' e = absurd (bad-good _ _ _ e)
end_back rules (header w first before n s) r r' e = absurd (bad-good _ _ _ e)
end_back rules (body (in_block s) [] l inner zero) r r' e =
    no-packet l.names inner (Members rules) [] (set-blocks rules [] (record { blocks = []; yield = refl; whole = tt }))
end_back rules (body (in_frame b s) [] l inner zero) r r' e = absurd (bad-good _ _ _ e)
end_back rules (body w [] l inner (suc f)) r r' e = absurd (bad-good _ _ _ e)
end_back rules (body w (o ∷ outer) l inner f) r r' e = absurd (bad-good _ _ _ e)

-- from any sane state
pub run-back : (rules : Rules) → 1 ≤ rules.levels → (ts : List Token) (st : State) (r r' : Rows) → Each Fixed ts → Sane rules st
    → run rules st ts r ≡ good r' → Rest rules st ts
unfolding run
run-back rules least [] st r r' f h e = end_back rules st r r' e
run-back rules least (t ∷ ts) st r r' f h e = at (λ s r''. run-back rules least ts s r'' r' f.1) (step_at rules st t.kind r) refl
  where
    at : ((s : State) (r'' : Rows) → Sane rules s → run rules s ts r'' ≡ good r' → Rest rules s ts)
        → (x : Step) → step_at rules st t.kind r ≡ x → Rest rules st (t ∷ ts)
    at later (go s r'') q =
        step_back rules t ts f.0 st s r r'' h q
        (later s r'' (sane-kept rules least st s t.kind r r'' h q) (ap (onward rules ts r) (sym q) ∙ sym (run-onward rules st t ts r) ∙ e))
    at later (refuse n) q = absurd (bad-good _ _ _ (ap (onward rules ts r) (sym q) ∙ sym (run-onward rules st t ts r) ∙ e))

-- what a run accepts is the yield of a whole tree
pub sound : (rules : Rules) → 1 ≤ rules.levels → (ts : List Token) → Each Fixed ts → (r : Rows) → run rules start ts no_rows ≡ good r
    → (f : File) × (file_yield frame_end f ≡ ts) × FileBy rules f
sound rules least ts f r e =
    let b : Blocks rules ts = run-back rules least ts start no_rows r f tt e in
    (b.blocks, sym b.yield, b.whole)

-- and its rows are the tree's
pub rows-of-run : (rules : Rules) → 1 ≤ rules.levels → (ts : List Token) → Each Fixed ts → (r : Rows) → run rules start ts no_rows ≡ good r
    → (f : File) × (file_yield frame_end f ≡ ts) × FileBy rules f × (r ≡ rows_of f)
rows-of-run rules least ts h r e =
    let s : (f : File) × (file_yield frame_end f ≡ ts) × FileBy rules f = sound rules least ts h r e in
    let q : run rules start ts no_rows ≡ good (rows_of s.0) = rw s.1 at (complete rules s.0 s.2) in
    (s.0, s.1, s.2, cc)
