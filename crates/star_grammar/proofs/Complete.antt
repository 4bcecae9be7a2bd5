-- A run over a tree's yield makes the tree's rows: each piece takes its state to the state after it and puts the piece's rows, whatever follows.
use mathlib.Core.Path.{◌≡◌, refl, sym, ap, ◌∙◌, subst}
use mathlib.Core.Bool.{true, cond}
use mathlib.Core.List.{List, [], ◌∷◌, ◌++◌, map, flat_map, reverse_aux, append_assoc}
use Prim.Native.Nat.{ℕ, zero, suc, ◌+◌, ◌≤◌, ◌<◌}
use native.Mathlib.Nat.{add-suc, suc-add, add-zero, zero-add}
use native.Mathlib.Numerals.{add-one}
use native.Mathlib.Omega.{arith}
use lib.Dec.{ltb}
use lib.ListN.{length, replicate, length-map, length-append}
use borrow.Author.Tests.{lt-ltb, le-ltb}
use Rattle.star_lex.specs.Rules.{Rules}
use Rattle.star_lex.specs.Tokens.{Token, Each}
use Rattle.star_grammar.specs.Tree.{IsValue, IsName, Inner, Packet, inner_yield, packet_yield, InnerWhole, PacketWhole, Loop, loop_yield, LoopBy, Entry, item, looped, entry_yield, EntryBy, Frame, frame_yield, FrameBy, Member, own, framed, member_yield, MemberBy, Block, block_yield, IsHeading, is_global, File, file_yield, FileBy, frame_end, loop_start, stop}
use Rattle.star_grammar.specs.Tables.{Rows, no_rows, pass, open_loop, put_set, put_name, put_packet, put_value, fold, next, put_values, put_inner, put_packet_tree, put_names, put_deeper, put_stops, put_loop, put_entry, put_frame, put_member, block_kind, put_block, linked, rows_of}
use Rattle.star_grammar.specs.Machine.{Sort, sort_of, Where, in_block, in_frame, set_of, Level, parent_of, start, within, named, header, body, go, between, filled, fill, value_at, begin, header_step, no_value, no_value_at, body_step, start_step, named_step, step, step_at, good, end_between, end_body, end_run, run}
use Rattle.star_grammar.proofs.Counts.{Counts, map-counts}
use Rattle.star_grammar.proofs.Sorts.{OfSort, sort-block, sort-global, sort-frame, sort-name, sort-value, sort-frame-end, sort-loop, sort-stop, onward, run-onward, run-sort, run-go, run-alike}

-- a level of so many names, the first of this row
abbrev pub level : (names first packet : ℕ) → Level
level names first packet = record { names = names; first = first; packet = packet }

-- before a packet begins, the number of the one before is not read
any-packet-step : (rules : Rules) (w : Where) (outer : List Level) (n first k k' : ℕ) (ls : List ℕ) (s : Sort) (r : Rows)
    → step rules (body w outer (level n first k) ls 0) s r ≡ step rules (body w outer (level n first k') ls 0) s r
unfolding step body_step no_value_at no_value value_at
any-packet-step rules w outer n first k k' ls Sort.value r = refl
any-packet-step rules w [] n first k k' ls Sort.block r = refl
any-packet-step rules w [] n first k k' ls Sort.global r = refl
any-packet-step rules w [] n first k k' ls Sort.frame r = refl
any-packet-step rules w [] n first k k' ls Sort.frame_end r = refl
any-packet-step rules w [] n first k k' ls Sort.loop r = refl
any-packet-step rules w [] n first k k' ls Sort.stop r = refl
any-packet-step rules w [] n first k k' ls Sort.name r = refl
any-packet-step rules w (o ∷ outer) n first k k' ls Sort.block r = refl
any-packet-step rules w (o ∷ outer) n first k k' ls Sort.global r = refl
any-packet-step rules w (o ∷ outer) n first k k' ls Sort.frame r = refl
any-packet-step rules w (o ∷ outer) n first k k' ls Sort.frame_end r = refl
any-packet-step rules w (o ∷ outer) n first k k' ls Sort.loop r = refl
any-packet-step rules w (o ∷ outer) n first k k' ls Sort.stop r = refl
any-packet-step rules w (o ∷ outer) n first k k' ls Sort.name r = refl

pub any-packet : (rules : Rules) (w : Where) (outer : List Level) (n first k k' : ℕ) (ls : List ℕ) (ts : List Token) (r : Rows)
    → run rules (body w outer (level n first k) ls 0) ts r ≡ run rules (body w outer (level n first k') ls 0) ts r
unfolding run end_run end_body
any-packet rules w outer n first k k' ls [] r = refl
any-packet rules w outer n first k k' ls (t ∷ ts) r =
    run-alike rules (body w outer (level n first k) ls 0) (body w outer (level n first k') ls 0) t ts r
    (any-packet-step rules w outer n first k k' ls (sort_of t.kind) r)

-- the rest of a packet's values
pub fill-values : (rules : Rules) (w : Where) (outer : List Level) (n first k : ℕ) (ls : List ℕ) (f : ℕ) (vs rest : List Token) (r : Rows)
    → suc f + length vs ≡ n → Each IsValue vs
    → run rules (cond (ltb (suc f) n) (body w outer (level n first k) ls (suc f)) (filled w outer (level n first k) ls)) (vs ++ rest) r
    ≡ run rules (filled w outer (level n first k) ls) rest (put_values (suc (first + f)) k vs r)
unfolding put_values step body_step value_at fill
fill-values rules w outer n first k ls f [] rest r e h = rw (le-ltb (suc f) n (omega arith))
fill-values rules w outer n first k ls f (v ∷ vs) rest r e h =
    rw (lt-ltb (suc f) n (omega (arith, e)), ← add-suc first f)
    (run-sort rules (body w outer (level n first k) ls (suc f)) v (vs ++ rest) r Sort.value (sort-value v h.0)
    ∙ fill-values rules w outer n first k ls (suc f) vs rest (put_value (first + suc f) k r) (omega (arith, e)) h.1)

-- loops are not counted by what stands inside one
values-loops : (name packet : ℕ) (vs : List Token) (r : Rows) → (put_values name packet vs r).loops ≡ r.loops
unfolding put_values put_value
values-loops name packet [] r = refl
values-loops name packet (v ∷ vs) r = values-loops (suc name) packet vs (put_value name packet r)

fold-loops : {A : Type 0} (put : A → Rows → Rows) → ((x : A) (r : Rows) → (put x r).loops ≡ r.loops)
    → (xs : List A) (r : Rows) → (fold put xs r).loops ≡ r.loops
fold-loops put h [] r = refl
fold-loops put h (x ∷ xs) r = fold-loops put h xs (put x r) ∙ h x r

inner-loops : (ls : List ℕ) (loop level first parent : ℕ) (i : Inner ls) (r : Rows)
    → (put_inner ls loop level first parent i r).loops ≡ r.loops
unfolding put_inner pass put_packet
inner-loops [] loop level first parent i r = refl
inner-loops (m ∷ ls) loop level first parent ps r =
    fold-loops _ (λ p u. inner-loops ls loop (suc level) (first + m) (next u.packets) p.1 (put_values first (next u.packets) p.0 (put_packet loop level parent u))
    ∙ values-loops first (next u.packets) p.0 (put_packet loop level parent u)) ps r

packet-loops : (m : ℕ) (ls : List ℕ) (loop level first parent : ℕ) (p : Packet ls) (r : Rows)
    → (put_packet_tree m ls loop level first parent p r).loops ≡ r.loops
unfolding put_packet_tree put_packet
packet-loops m ls loop level first parent p r =
    inner-loops ls loop (suc level) (first + m) (next r.packets) p.1 (put_values first (next r.packets) p.0 (put_packet loop level parent r))
    ∙ values-loops first (next r.packets) p.0 (put_packet loop level parent r)

-- what stands below a packet, after its values
abbrev pub InnerRuns : (rules : Rules) → List ℕ → Type 0
InnerRuns rules ls =
    (w : Where) (outer : List Level) (n first k : ℕ) (i : Inner ls) (rest : List Token) (r : Rows) (loop : ℕ) → Counts ls → InnerWhole ls i
    → r.loops ≡ loop
    → run rules (filled w outer (level n first k) ls) (inner_yield ls i ++ rest) r
    ≡ run rules (body w outer (level n first k) ls 0) rest (put_inner ls loop (suc (suc (length outer))) (first + n) k i r)

module _ (rules : Rules) (w : Where) (ls : List ℕ) (below : InnerRuns rules ls) (counts : Counts ls) (outer : List Level) (n first k loop : ℕ) (some : 1 ≤ n) where
  packet-run : (vs : List Token) (i : Inner ls) (rest : List Token) (r : Rows) → r.loops ≡ loop → PacketWhole n ls (vs, i)
      → run rules (body w outer (level n first k) ls 0) (vs ++ inner_yield ls i ++ rest) r
      ≡ run rules (body w outer (level n first k) ls 0) rest (put_packet_tree n ls loop (suc (length outer)) first (parent_of outer) (vs, i) r)
  unfolding step body_step value_at fill put_packet_tree put_packet put_values put_value
  packet-run [] i rest r e h = absurd (omega (arith, h.0))
  packet-run (v ∷ vs) i rest r e h =
      let q : ℕ = next r.packets in
      let r₁ : Rows = put_packet r.loops (suc (length outer)) (parent_of outer) r in
      let r₂ : Rows = put_value (first + 0) q r₁ in
      let vals : Rows = put_values (suc (first + 0)) q vs r₂ in
      rw (append_assoc vs (inner_yield ls i) rest, ← e)
      (rw (add-zero first) at
      (run-sort rules (body w outer (level n first k) ls 0) v (vs ++ (inner_yield ls i ++ rest)) r Sort.value (sort-value v h.1.0)
      ∙ fill-values rules w outer n first q ls 0 vs (inner_yield ls i ++ rest) r₂ (omega (arith, h.0)) h.1.1
      ∙ below w outer n first q i rest vals r.loops counts h.2 (values-loops (suc (first + 0)) q vs r₂)
      ∙ any-packet rules w outer n first q k ls rest (put_inner ls r.loops (suc (suc (length outer))) (first + n) q i vals)))

  pub packets-run : (ps : List (Packet ls)) (rest : List Token) (r : Rows) → r.loops ≡ loop → Each (PacketWhole n ls) ps
      → run rules (body w outer (level n first k) ls 0) (flat_map (packet_yield ls) ps ++ rest) r
      ≡ run rules (body w outer (level n first k) ls 0) rest (fold (put_packet_tree n ls loop (suc (length outer)) first (parent_of outer)) ps r)
  unfolding flat_map
  packets-run [] rest r e h = refl
  packets-run (p ∷ ps) rest r e h =
      rw (append_assoc (packet_yield ls p) (flat_map (packet_yield ls) ps) rest)
      (packet-run p.0 p.1 (flat_map (packet_yield ls) ps ++ rest) r e h.0
      ∙ packets-run ps rest (put_packet_tree n ls loop (suc (length outer)) first (parent_of outer) p r)
      (packet-loops n ls loop (suc (length outer)) first (parent_of outer) p r ∙ e) h.1)

pub inner-run : (rules : Rules) (ls : List ℕ) → InnerRuns rules ls
unfolding filled inner_yield InnerWhole put_inner put_packet_tree parent_of step body_step no_value_at no_value
inner-run rules [] w outer n first k i rest r loop c h e = refl
inner-run rules (m ∷ ls) w outer n first k ps rest r loop c h e =
    rw (append_assoc (flat_map (packet_yield ls) ps) (stop ∷ []) rest)
    (packets-run rules w ls (inner-run rules ls) c.1 (level n first k ∷ outer) m (first + n) 0 loop c.0 ps (stop ∷ rest) r e h
    ∙ run-sort rules (body w (level n first k ∷ outer) (level m (first + n) 0) ls 0) stop rest
    (fold (put_packet_tree m ls loop (suc (suc (length outer))) (first + n) k) ps r) Sort.stop sort-stop)

-- the names of a level
names-loops : (set loop level : ℕ) (ns : List Token) (r : Rows) → (put_names set loop level ns r).loops ≡ r.loops
unfolding put_names put_name
names-loops set loop level [] r = refl
names-loops set loop level (x ∷ ns) r = names-loops set loop level ns (put_name set loop level r)

pub names-run : (rules : Rules) (w : Where) (first : ℕ) (before : List ℕ) (n : ℕ) (ns rest : List Token) (r : Rows) → Each IsName ns
    → run rules (header w first before n 0) (ns ++ rest) r
    ≡ run rules (header w first before (n + length ns) 0) rest (put_names (set_of w) r.loops (suc (length before)) ns r)
unfolding step header_step put_names put_name
names-run rules w first before n [] rest r h = rw (add-zero n)
names-run rules w first before n (x ∷ ns) rest r h =
    run-sort rules (header w first before n 0) x (ns ++ rest) r Sort.name (sort-name x h.0)
    ∙ names-run rules w first before (suc n) ns rest (put_name (set_of w) r.loops (suc (length before)) r) h.1
    ∙ rw (suc-add n (length ns), add-suc n (length ns))

-- the counts of a header's levels: the current one after deeper ones, and those before it
abbrev pub last_of : ℕ → List ℕ → ℕ
last_of n [] = n
last_of n (m ∷ ms) = last_of m ms

abbrev pub before_of : List ℕ → ℕ → List ℕ → List ℕ
before_of before n [] = before
before_of before n (m ∷ ms) = before_of (n ∷ before) m ms

pub last_some : (n : ℕ) (ms : List ℕ) → 1 ≤ n → Counts ms → 1 ≤ last_of n ms
last_some n [] h c = h
last_some n (m ∷ ms) h c = last_some m ms c.0 c.1

pub before-counts : (before : List ℕ) (n : ℕ) (ms : List ℕ) → Counts before → 1 ≤ n → Counts ms → Counts (before_of before n ms)
before-counts before n [] cb h c = cb
before-counts before n (m ∷ ms) cb h c = before-counts (n ∷ before) m ms (h, cb) c.0 c.1

pub before-length : (before : List ℕ) (n : ℕ) (ms : List ℕ) → length (before_of before n ms) ≡ length before + length ms
before-length before n [] = sym (add-zero (length before))
before-length before n (m ∷ ms) = before-length (n ∷ before) m ms ∙ omega arith

pub before-reverse : (before : List ℕ) (n : ℕ) (ms : List ℕ) → reverse_aux (before_of before n ms) (last_of n ms ∷ []) ≡ reverse_aux before (n ∷ ms)
before-reverse before n [] = refl
before-reverse before n (m ∷ ms) = before-reverse (n ∷ before) m ms

pub step-deeper : (rules : Rules) (w : Where) (first : ℕ) (before : List ℕ) (n : ℕ) (r : Rows) → 1 ≤ n → suc (length before) < rules.levels
    → step rules (header w first before n 0) Sort.loop r ≡ go (header w first (n ∷ before) 0 0) (pass r)
unfolding step header_step
step-deeper rules w first before n r h l = rw (lt-ltb 0 n h, lt-ltb (suc (length before)) rules.levels l)

-- the deeper levels of a header
pub deeper-run : (rules : Rules) (w : Where) (first : ℕ) (before : List ℕ) (n loop : ℕ) (nss : List (List Token)) (rest : List Token) (r : Rows)
    → 1 ≤ n → suc (length before) + length nss ≤ rules.levels → Each (λ ns. 1 ≤ length ns) nss → Each (Each IsName) nss → r.loops ≡ loop
    → run rules (header w first before n 0) (flat_map (λ ns. loop_start ∷ ns) nss ++ rest) r
    ≡ run rules (header w first (before_of before n (map length nss)) (last_of n (map length nss)) 0) rest
    (put_deeper (set_of w) loop (suc (suc (length before))) nss r)
unfolding flat_map put_deeper pass
deeper-run rules w first before n loop [] rest r h l s a e = refl
deeper-run rules w first before n loop (ns ∷ nss) rest r h l s a e =
    let P : ℕ → Type 0 = λ k.
    run rules (header w first before n 0) (flat_map (λ ns. loop_start ∷ ns) (ns ∷ nss) ++ rest) r
    ≡ run rules (header w first (before_of before n (map length (ns ∷ nss))) (last_of n (map length (ns ∷ nss))) 0) rest
    (put_deeper (set_of w) k (suc (suc (length before))) (ns ∷ nss) r) in
    subst P e (rw (append_assoc ns (flat_map (λ ns. loop_start ∷ ns) nss) rest)
    (run-go rules (header w first before n 0) loop_start (ns ++ (flat_map (λ ns. loop_start ∷ ns) nss ++ rest)) r Sort.loop
    (header w first (n ∷ before) 0 0) (pass r) sort-loop (step-deeper rules w first before n r h (omega (arith, l)))
    ∙ (rw (zero-add (length ns)) at
    (names-run rules w first (n ∷ before) 0 ns (flat_map (λ ns. loop_start ∷ ns) nss ++ rest) (pass r) a.0))
    ∙ deeper-run rules w first (n ∷ before) (length ns) r.loops nss rest
    (put_names (set_of w) r.loops (suc (suc (length before))) ns (pass r)) s.0 (omega (arith, l)) s.1 a.1
    (names-loops (set_of w) r.loops (suc (suc (length before))) ns (pass r))))

-- header stops
pub stops-run : (rules : Rules) (w : Where) (first : ℕ) (before : List ℕ) (n s k : ℕ) (rest : List Token) (r : Rows) → 1 ≤ n → s + k ≤ length before
    → (1 ≤ k → rules.header_stops ≡ true)
    → run rules (header w first before n s) (replicate k stop ++ rest) r ≡ run rules (header w first before n (s + k)) rest (put_stops k r)
unfolding put_stops step header_step
stops-run rules w first before n s zero rest r h l a = rw (add-zero s)
stops-run rules w first before n s (suc k) rest r h l a =
    run-go rules (header w first before n s) stop (replicate k stop ++ rest) r Sort.stop (header w first before n (suc s)) (pass r) sort-stop
    (rw (a (omega arith), lt-ltb 0 n h, lt-ltb s (length before) (omega arith)))
    ∙ stops-run rules w first before n (suc s) k rest (pass r) h (omega arith) (λ x. a (omega arith))
    ∙ rw (suc-add s k, add-suc s k)

-- the first value of a loop begins level 1
pub step-begin : (rules : Rules) (w : Where) (first : ℕ) (before : List ℕ) (n s m : ℕ) (ls : List ℕ) (r : Rows) → 1 ≤ n
    → reverse_aux before (n ∷ []) ≡ m ∷ ls
    → step rules (header w first before n s) Sort.value r ≡ step rules (body w [] (level m first 0) ls 0) Sort.value r
unfolding step header_step begin body_step
step-begin rules w first before n s m ls r h e = rw (lt-ltb 0 n h, e)

pub begin-values : (rules : Rules) (w : Where) (first : ℕ) (before : List ℕ) (n s m : ℕ) (ls : List ℕ) (vs rest : List Token) (r : Rows) → 1 ≤ n
    → reverse_aux before (n ∷ []) ≡ m ∷ ls → 1 ≤ length vs → Each IsValue vs
    → run rules (header w first before n s) (vs ++ rest) r ≡ run rules (body w [] (level m first 0) ls 0) (vs ++ rest) r
begin-values rules w first before n s m ls [] rest r h e l a = absurd (omega (arith, l))
begin-values rules w first before n s m ls (v ∷ vs) rest r h e l a =
    run-alike rules (header w first before n s) (body w [] (level m first 0) ls 0) v (vs ++ rest) r
    (rw (sort-value v a.0) (step-begin rules w first before n s m ls r h e))

begin-packets : (rules : Rules) (w : Where) (first : ℕ) (before : List ℕ) (n s m : ℕ) (ls : List ℕ) (ps : List (Packet ls)) (rest : List Token) (r : Rows)
    → 1 ≤ n → reverse_aux before (n ∷ []) ≡ m ∷ ls → 1 ≤ m → 1 ≤ length ps → Each (PacketWhole m ls) ps
    → run rules (header w first before n s) (flat_map (packet_yield ls) ps ++ rest) r
    ≡ run rules (body w [] (level m first 0) ls 0) (flat_map (packet_yield ls) ps ++ rest) r
unfolding flat_map
begin-packets rules w first before n s m ls [] rest r h e hm l a = absurd (omega (arith, l))
begin-packets rules w first before n s m ls (p ∷ ps) rest r h e hm l a =
    rw (
      append_assoc (packet_yield ls p) (flat_map (packet_yield ls) ps) rest,
      append_assoc p.0 (inner_yield ls p.1) (flat_map (packet_yield ls) ps ++ rest),
    )
    (begin-values rules w first before n s m ls p.0 (inner_yield ls p.1 ++ (flat_map (packet_yield ls) ps ++ rest)) r h e (omega (arith, a.0.0)) a.0.1)

-- what comes next is no value
abbrev pub NoValue : List Token → Type 0
NoValue [] = Unit {0}
NoValue (t ∷ ts) = OfSort t.kind Sort.value → ⊥

pub not-value : (kind : ℕ) (k : Sort) → OfSort kind k → (k ≡ Sort.value → ⊥) → OfSort kind Sort.value → ⊥
not-value kind k s h q = h (sym s ∙ q)

-- after a loop's packets, where no value comes: as between the entries of the set
after-loop-step : (rules : Rules) (w : Where) (l : Level) (ls : List ℕ) (s : Sort) (r : Rows) → (s ≡ Sort.value → ⊥)
    → step rules (body w [] l ls 0) s r ≡ step rules (within w) s r
unfolding step body_step no_value_at no_value
after-loop-step rules w l ls Sort.block r h = refl
after-loop-step rules w l ls Sort.global r h = refl
after-loop-step rules w l ls Sort.frame r h = refl
after-loop-step rules w l ls Sort.frame_end r h = refl
after-loop-step rules w l ls Sort.loop r h = refl
after-loop-step rules w l ls Sort.stop r h = refl
after-loop-step rules w l ls Sort.name r h = refl
after-loop-step rules w l ls Sort.value r h = absurd (h refl)

pub after-loop : (rules : Rules) (w : Where) (l : Level) (ls : List ℕ) (ts : List Token) (r : Rows) → NoValue ts
    → run rules (body w [] l ls 0) ts r ≡ run rules (within w) ts r
unfolding run end_run end_body
after-loop rules w l ls [] r h = refl
after-loop rules w l ls (t ∷ ts) r h =
    run-alike rules (body w [] l ls 0) (within w) t ts r (after-loop-step rules w l ls (sort_of t.kind) r h)

pub step_loop : (rules : Rules) (w : Where) (r : Rows)
    → step rules (within w) Sort.loop r ≡ go (header w (next r.names) [] 0 0) (open_loop r)
unfolding step between
step_loop rules (in_block s) r = refl
step_loop rules (in_frame b s) r = refl

pub step-item : (rules : Rules) (w : Where) (r : Rows) → step rules (within w) Sort.name r ≡ go (named w) (put_name (set_of w) 0 0 r)
unfolding step between set_of
step-item rules (in_block s) r = refl
step-item rules (in_frame b s) r = refl

stops-loops : (k : ℕ) (r : Rows) → (put_stops k r).loops ≡ r.loops
unfolding put_stops pass
stops-loops zero r = refl
stops-loops (suc k) r = stops-loops k (pass r)

deeper-loops : (set loop level : ℕ) (nss : List (List Token)) (r : Rows) → (put_deeper set loop level nss r).loops ≡ r.loops
unfolding put_deeper pass
deeper-loops set loop level [] r = refl
deeper-loops set loop level (ns ∷ nss) r =
    deeper-loops set loop (suc level) nss (put_names set loop level ns (pass r)) ∙ names-loops set loop level ns (pass r)

loop-run : (rules : Rules) (w : Where) (l : Loop) (rest : List Token) (r : Rows) → LoopBy rules l → NoValue rest
    → run rules (within w) (loop_yield l ++ rest) r ≡ run rules (within w) rest (put_loop (set_of w) l r)
unfolding loop_yield put_loop open_loop parent_of
loop-run rules w l rest r h nv =
    let n : ℕ = length l.names in
    let ms : List ℕ = map length l.deeper in
    let first : ℕ = next r.names in
    let loop : ℕ = suc r.loops in
    let set : ℕ = set_of w in
    let packets : List Token = flat_map (packet_yield ms) l.packets in
    let stops : List Token = replicate l.stops stop in
    let deeper : List Token = flat_map (λ ns. loop_start ∷ ns) l.deeper in
    let r₁ : Rows = put_names set loop 1 l.names (open_loop r) in
    let r₂ : Rows = put_deeper set loop 2 l.deeper r₁ in
    let r₃ : Rows = put_stops l.stops r₂ in
    let e₁ : r₁.loops ≡ loop = names-loops set loop 1 l.names (open_loop r) in
    let e₃ : r₃.loops ≡ loop = stops-loops l.stops r₂ ∙ deeper-loops set loop 2 l.deeper r₁ ∙ e₁ in
    let c : Counts ms = map-counts l.deeper h.some_names in
    rw (append_assoc l.names (deeper ++ (stops ++ packets)) rest, append_assoc deeper (stops ++ packets) rest, append_assoc stops packets rest)
    (run-go rules (within w) loop_start (l.names ++ (deeper ++ (stops ++ (packets ++ rest)))) r Sort.loop (header w first [] 0 0) (open_loop r)
    sort-loop (step_loop rules w r)
    ∙ (rw (zero-add n) at (names-run rules w first [] 0 l.names (deeper ++ (stops ++ (packets ++ rest))) (open_loop r) h.are_names))
    ∙ deeper-run rules w first [] n loop l.deeper (stops ++ (packets ++ rest)) r₁ h.some_name (omega (arith, h.levels)) h.some_names h.are_deeper e₁
    ∙ (rw (zero-add l.stops) at (stops-run rules w first (before_of [] n ms) (last_of n ms) 0 l.stops (packets ++ rest) r₂
    (last_some n ms h.some_name c) (simp (before-length, length-map) (omega (arith, h.stops_fit))) h.stops_allowed))
    ∙ begin-packets rules w first (before_of [] n ms) (last_of n ms) l.stops n ms l.packets rest r₃ (last_some n ms h.some_name c)
    (before-reverse [] n ms) h.some_name h.some_packet h.whole
    ∙ packets-run rules w ms (inner-run rules ms) c [] n first 0 loop h.some_name l.packets rest r₃ e₃ h.whole
    ∙ after-loop rules w (level n first 0) ms rest (fold (put_packet_tree n ms loop 1 first 0) l.packets r₃) nv)

entry-run : (rules : Rules) (w : Where) (e : Entry) (rest : List Token) (r : Rows) → EntryBy rules e → NoValue rest
    → run rules (within w) (entry_yield e ++ rest) r ≡ run rules (within w) rest (put_entry (set_of w) e r)
unfolding entry_yield put_entry put_name step named_step
entry-run rules w (item n v) rest r h nv =
    run-go rules (within w) n (v ∷ rest) r Sort.name (named w) (put_name (set_of w) 0 0 r) (sort-name n h.0) (step-item rules w r)
    ∙ run-sort rules (named w) v rest (put_name (set_of w) 0 0 r) Sort.value (sort-value v h.1)
    ∙ rw (length-append r.names, add-one (length r.names))
entry-run rules w (looped l) rest r h nv = loop-run rules w l rest r h nv

name≢value : Sort.name ≡ Sort.value → ⊥
name≢value e = let z : ◌≡◌ {A = ℕ} 0 1 = cc in omega arith

loop≢value : Sort.loop ≡ Sort.value → ⊥
loop≢value e = let z : ◌≡◌ {A = ℕ} 0 1 = cc in omega arith

frame≢value : Sort.frame ≡ Sort.value → ⊥
frame≢value e = let z : ◌≡◌ {A = ℕ} 0 1 = cc in omega arith

pub frame_end≢value : Sort.frame_end ≡ Sort.value → ⊥
frame_end≢value e = let z : ◌≡◌ {A = ℕ} 0 1 = cc in omega arith

block≢value : Sort.block ≡ Sort.value → ⊥
block≢value e = let z : ◌≡◌ {A = ℕ} 0 1 = cc in omega arith

global≢value : Sort.global ≡ Sort.value → ⊥
global≢value e = let z : ◌≡◌ {A = ℕ} 0 1 = cc in omega arith

-- no piece between values begins with one
entry-no-value : (rules : Rules) (e : Entry) (rest : List Token) → EntryBy rules e → NoValue (entry_yield e ++ rest)
unfolding entry_yield loop_yield
entry-no-value rules (item n v) rest h = not-value _ _ (sort-name n h.0) name≢value
entry-no-value rules (looped l) rest h = not-value _ _ sort-loop loop≢value

pub entries-no-value : (rules : Rules) (es : List Entry) (rest : List Token) → Each (EntryBy rules) es → NoValue rest
    → NoValue (flat_map entry_yield es ++ rest)
unfolding flat_map
entries-no-value rules [] rest h nv = nv
entries-no-value rules (e ∷ es) rest h nv =
    rw (append_assoc (entry_yield e) (flat_map entry_yield es) rest) (entry-no-value rules e (flat_map entry_yield es ++ rest) h.0)

pub entries-run : (rules : Rules) (w : Where) (es : List Entry) (rest : List Token) (r : Rows) → Each (EntryBy rules) es → NoValue rest
    → run rules (within w) (flat_map entry_yield es ++ rest) r ≡ run rules (within w) rest (fold (put_entry (set_of w)) es r)
unfolding flat_map
entries-run rules w [] rest r h nv = refl
entries-run rules w (e ∷ es) rest r h nv =
    rw (append_assoc (entry_yield e) (flat_map entry_yield es) rest)
    (entry-run rules w e (flat_map entry_yield es ++ rest) r h.0 (entries-no-value rules es rest h.1 nv)
    ∙ entries-run rules w es rest (put_entry (set_of w) e r) h.1 nv)

frame-run : (rules : Rules) (b : ℕ) (f : Frame) (rest : List Token) (r : Rows) → FrameBy rules f
    → run rules (within (in_block b)) (frame_yield frame_end f ++ rest) r ≡ run rules (within (in_block b)) rest (put_frame b f r)
unfolding frame_yield put_frame step between set_of
frame-run rules b f rest r h =
    let s : ℕ = next r.sets in
    rw (append_assoc (flat_map entry_yield f.entries) (frame_end ∷ []) rest)
    (run-sort rules (within (in_block b)) f.heading (flat_map entry_yield f.entries ++ (frame_end ∷ rest)) r Sort.frame (sort-frame f.heading h.heading)
    ∙ entries-run rules (in_frame b s) f.entries (frame_end ∷ rest) (put_set 2 b r) h.entries (not-value _ _ sort-frame-end frame_end≢value)
    ∙ run-sort rules (within (in_frame b s)) frame_end rest (fold (put_entry s) f.entries (put_set 2 b r)) Sort.frame_end sort-frame-end)

member-run : (rules : Rules) (b : ℕ) (m : Member) (rest : List Token) (r : Rows) → MemberBy rules m → NoValue rest
    → run rules (within (in_block b)) (member_yield frame_end m ++ rest) r ≡ run rules (within (in_block b)) rest (put_member b m r)
unfolding member_yield put_member set_of
member-run rules b (own e) rest r h nv = entry-run rules (in_block b) e rest r h nv
member-run rules b (framed f) rest r h nv = frame-run rules b f rest r h

member-no-value : (rules : Rules) (m : Member) (rest : List Token) → MemberBy rules m → NoValue (member_yield frame_end m ++ rest)
unfolding member_yield frame_yield
member-no-value rules (own e) rest h = entry-no-value rules e rest h
member-no-value rules (framed f) rest h = not-value _ _ (sort-frame f.heading h.heading) frame≢value

pub members-no-value : (rules : Rules) (ms : List Member) (rest : List Token) → Each (MemberBy rules) ms → NoValue rest
    → NoValue (flat_map (member_yield frame_end) ms ++ rest)
unfolding flat_map
members-no-value rules [] rest h nv = nv
members-no-value rules (m ∷ ms) rest h nv =
    rw (append_assoc (member_yield frame_end m) (flat_map (member_yield frame_end) ms) rest) (member-no-value rules m (flat_map (member_yield frame_end) ms ++ rest) h.0)

pub members_run : (rules : Rules) (b : ℕ) (ms : List Member) (rest : List Token) (r : Rows) → Each (MemberBy rules) ms → NoValue rest
    → run rules (within (in_block b)) (flat_map (member_yield frame_end) ms ++ rest) r ≡ run rules (within (in_block b)) rest (fold (put_member b) ms r)
unfolding flat_map
members_run rules b [] rest r h nv = refl
members_run rules b (m ∷ ms) rest r h nv =
    rw (append_assoc (member_yield frame_end m) (flat_map (member_yield frame_end) ms) rest)
    (member-run rules b m (flat_map (member_yield frame_end) ms ++ rest) r h.0 (members-no-value rules ms rest h.1 nv)
    ∙ members_run rules b ms rest (put_member b m r) h.1 nv)

pub file-no-value : (rules : Rules) (f : File) → FileBy rules f → NoValue (file_yield frame_end f)
unfolding flat_map block_yield
file-no-value rules [] h = tt
file-no-value rules (b ∷ f) h = at h.0.heading
  where
    at : IsHeading b.heading → OfSort b.heading.kind Sort.value → ⊥
    at (IsHeading.data_block e) = not-value _ _ (sort-block b.heading e) block≢value
    at (IsHeading.global_block e) = not-value _ _ (sort-global b.heading e) global≢value

-- the heading of a block, after another and at the start
heading-step : (rules : Rules) (s : ℕ) (b : Block) (r : Rows) → IsHeading b.heading
    → step_at rules (within (in_block s)) b.heading.kind r ≡ go (within (in_block (next r.sets))) (put_set (block_kind b) 0 r)
unfolding step between block_kind is_global
heading-step rules s b r (IsHeading.data_block e) = rw (sort-block b.heading e, e)
heading-step rules s b r (IsHeading.global_block e) = rw (sort-global b.heading e, e)

start-step : (rules : Rules) (s : ℕ) (t : Token) (r : Rows) → IsHeading t → step_at rules start t.kind r ≡ step_at rules (within (in_block s)) t.kind r
unfolding step start_step between
start-step rules s t r (IsHeading.data_block e) = rw (sort-block t e)
start-step rules s t r (IsHeading.global_block e) = rw (sort-global t e)

-- the blocks of a file, after one
pub blocks-run : (rules : Rules) (s : ℕ) (f : File) (r : Rows) → FileBy rules f
    → run rules (within (in_block s)) (file_yield frame_end f) r ≡ good (linked (fold put_block f r))
unfolding flat_map block_yield put_block run end_run end_between
blocks-run rules s [] r h = refl
blocks-run rules s (b ∷ f) r h =
    run-onward rules (within (in_block s)) b.heading (flat_map (member_yield frame_end) b.members ++ file_yield frame_end f) r
    ∙ ap (onward rules (flat_map (member_yield frame_end) b.members ++ file_yield frame_end f) r) (heading-step rules s b r h.0.heading)
    ∙ members_run rules (next r.sets) b.members (file_yield frame_end f) (put_set (block_kind b) 0 r) h.0.members (file-no-value rules f h.1)
    ∙ blocks-run rules (next r.sets) f (put_block b r) h.1

-- the blocks of a file, from its start
pub file-run : (rules : Rules) (f : File) (r : Rows) → FileBy rules f → run rules start (file_yield frame_end f) r ≡ good (linked (fold put_block f r))
unfolding flat_map block_yield run end_run
file-run rules [] r h = refl
file-run rules (b ∷ f) r h =
    run-alike rules start (within (in_block 0)) b.heading (flat_map (member_yield frame_end) b.members ++ file_yield frame_end f) r (start-step rules 0 b.heading r h.0.heading)
    ∙ blocks-run rules 0 (b ∷ f) r h

-- a run over the tokens of a whole tree makes the tree's rows
pub complete : (rules : Rules) (f : File) → FileBy rules f → run rules start (file_yield frame_end f) no_rows ≡ good (rows_of f)
unfolding rows_of
complete rules f h = file-run rules f no_rows h
