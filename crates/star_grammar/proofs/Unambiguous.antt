-- A row of tokens is the yield of one whole tree at most: each piece shows by its first token where it begins, and its counts or the token
-- after it show where it ends, so equal rows split into equal pieces.
use mathlib.Core.Path.{◌≡◌, refl, sym, ap, ap₂, ◌∙◌, subst}
use mathlib.Core.List.{List, [], ◌∷◌, ◌++◌, map, flat_map, append_assoc, append-nil}
use Prim.Native.Nat.{ℕ, zero, suc, ◌≤◌}
use native.Mathlib.Omega.{arith}
use lib.ListN.{length, replicate}
use Rattle.star_lex.specs.Rules.{Rules}
use Rattle.star_lex.specs.Tokens.{Token, Each}
use Rattle.star_grammar.specs.Tree.{IsValue, IsName, Inner, Packet, inner_yield, packet_yield, InnerWhole, PacketWhole, Loop, loop_yield, LoopBy, Entry, item, looped, entry_yield, EntryBy, Frame, frame_yield, FrameBy, Member, own, framed, member_yield, MemberBy, Block, block_yield, IsHeading, BlockBy, File, file_yield, FileBy, frame_end, loop_start, stop}
use Rattle.star_grammar.proofs.Counts.{Counts, map-counts}

-- a row that begins with such a token, and one that does not
abbrev Begins : (Token → Type 0) → List Token → Type 0
Begins H [] = ⊥
Begins H (t ∷ ts) = H t

abbrev NotHead : (Token → Type 0) → List Token → Type 0
NotHead H [] = Unit {0}
NotHead H (t ∷ ts) = H t → ⊥

begins-append : (H : Token → Type 0) (xs ys : List Token) → Begins H xs → Begins H (xs ++ ys)
begins-append H [] ys b = absurd b
begins-append H (x ∷ xs) ys b = b

begins-not : (H P : Token → Type 0) (xs : List Token) → ((t : Token) → H t → P t → ⊥) → Begins H xs → NotHead P xs
begins-not H P [] f b = absurd b
begins-not H P (x ∷ xs) f b = f x b

never : (H : Token → Type 0) (xs ys s : List Token) → Begins H xs → xs ++ ys ≡ s → NotHead H s → ⊥
never H [] ys s b e h = b
never H (x ∷ xs) ys [] b e h = let z : ◌≡◌ {A = ℕ} 0 1 = cc in omega arith
never H (x ∷ xs) ys (t ∷ s) b e h = h (subst H (let p : x ≡ t = cc in p) b)

-- rows of pieces: where each piece is settled by what it yields, so are all, up to a token that begins no piece
module _ {A : Type 0} (Y : A → List Token) (W : A → Type 0) (H : Token → Type 0) (Fol : List Token → Type 0)
    (begins : (a : A) → W a → Begins H (Y a)) (follows : (a : A) (s : List Token) → W a → Fol (Y a ++ s))
    (one : (a b : A) (s t : List Token) → W a → W b → Fol s → Fol t → Y a ++ s ≡ Y b ++ t → (a ≡ b) × (s ≡ t)) where
  pieces-follow : (xs : List A) (s : List Token) → Each W xs → Fol s → Fol (flat_map Y xs ++ s)
  unfolding flat_map
  pieces-follow [] s wa f = f
  pieces-follow (a ∷ xs) s wa f = rw (append_assoc (Y a) (flat_map Y xs) s) (follows a (flat_map Y xs ++ s) wa.0)

  pieces-same : (xs ys : List A) (s t : List Token) → Each W xs → Each W ys → Fol s → Fol t → NotHead H s → NotHead H t
      → flat_map Y xs ++ s ≡ flat_map Y ys ++ t → (xs ≡ ys) × (s ≡ t)
  unfolding flat_map
  pieces-same [] [] s t wa wb fs ft hs ht e = (refl, e)
  pieces-same [] (b ∷ ys) s t wa wb fs ft hs ht e =
      absurd (never H (Y b) (flat_map Y ys ++ t) s (begins b wb.0) (sym (append_assoc (Y b) (flat_map Y ys) t) ∙ sym e) hs)
  pieces-same (a ∷ xs) [] s t wa wb fs ft hs ht e =
      absurd (never H (Y a) (flat_map Y xs ++ s) t (begins a wa.0) (sym (append_assoc (Y a) (flat_map Y xs) s) ∙ e) ht)
  pieces-same (a ∷ xs) (b ∷ ys) s t wa wb fs ft hs ht e =
      let head : (a ≡ b) × (flat_map Y xs ++ s ≡ flat_map Y ys ++ t) =
      one a b (flat_map Y xs ++ s) (flat_map Y ys ++ t) wa.0 wb.0 (pieces-follow xs s wa.1 fs) (pieces-follow ys t wb.1 ft)
      (sym (append_assoc (Y a) (flat_map Y xs) s) ∙ e ∙ append_assoc (Y b) (flat_map Y ys) t) in
      let tail : (xs ≡ ys) × (s ≡ t) = pieces-same xs ys s t wa.1 wb.1 fs ft hs ht head.1 in
      (ap₂ (λ (z : A) (zs : List A). z ∷ zs) head.0 tail.0, tail.1)

-- lists of one length
same_length : (xs ys s t : List Token) → length xs ≡ length ys → xs ++ s ≡ ys ++ t → (xs ≡ ys) × (s ≡ t)
same_length [] [] s t l e = (refl, e)
same_length [] (y ∷ ys) s t l e = absurd (omega (arith, l))
same_length (x ∷ xs) [] s t l e = absurd (omega (arith, l))
same_length (x ∷ xs) (y ∷ ys) s t l e =
    let tail : (xs ≡ ys) × (s ≡ t) = same_length xs ys s t (omega (arith, l)) (let p : xs ++ s ≡ ys ++ t = cc in p) in
    (ap₂ (λ (x : Token) (xs : List Token). x ∷ xs) (let p : x ≡ y = cc in p) tail.0, tail.1)

-- lists of tokens that all have a property, up to one that has it not
same_span : (P : Token → Type 0) (xs ys s t : List Token) → Each P xs → Each P ys → NotHead P s → NotHead P t → xs ++ s ≡ ys ++ t
    → (xs ≡ ys) × (s ≡ t)
same_span P [] [] s t px py hs ht e = (refl, e)
same_span P [] (y ∷ ys) s t px py hs ht e = absurd (never P (y ∷ []) (ys ++ t) s py.0 (sym e) hs)
same_span P (x ∷ xs) [] s t px py hs ht e = absurd (never P (x ∷ []) (xs ++ s) t px.0 e ht)
same_span P (x ∷ xs) (y ∷ ys) s t px py hs ht e =
    let tail : (xs ≡ ys) × (s ≡ t) = same_span P xs ys s t px.1 py.1 hs ht (let p : xs ++ s ≡ ys ++ t = cc in p) in
    (ap₂ (λ (x : Token) (xs : List Token). x ∷ xs) (let p : x ≡ y = cc in p) tail.0, tail.1)

-- two kinds of token that never meet
IsLoop : Token → Type 0
IsLoop t = t.kind ≡ 4

IsStop : Token → Type 0
IsStop t = t.kind ≡ 5

value-no-name : (t : Token) → IsValue t → IsName t → ⊥
value-no-name t v n = omega (arith, v.low, n.kind6)

value-no-loop : (t : Token) → IsValue t → IsLoop t → ⊥
unfolding IsLoop
value-no-loop t v n = omega (arith, v.low, n)

value-no-stop : (t : Token) → IsValue t → IsStop t → ⊥
unfolding IsStop
value-no-stop t v n = omega (arith, v.low, n)

stop-no-value : IsValue stop → ⊥
unfolding stop
stop-no-value v = omega (arith, v.low)

stop-no-name : IsName stop → ⊥
unfolding stop
stop-no-name n = omega (arith, n.kind6)

stop-no-loop : IsLoop stop → ⊥
unfolding stop IsLoop
stop-no-loop n = omega (arith, n)

loop-no-name : IsName loop_start → ⊥
unfolding loop_start
loop-no-name n = omega (arith, n.kind6)

values-begin : (vs : List Token) → 1 ≤ length vs → Each IsValue vs → Begins IsValue vs
values-begin [] l v = absurd (omega (arith, l))
values-begin (x ∷ vs) l v = v.0

abbrev Anything : List Token → Type 0
Anything s = Unit {0}

-- what stands below a packet
abbrev InnerSame : List ℕ → Type 0
InnerSame ls =
    (i j : Inner ls) (s t : List Token) → Counts ls → InnerWhole ls i → InnerWhole ls j → inner_yield ls i ++ s ≡ inner_yield ls j ++ t
    → (i ≡ j) × (s ≡ t)

module _ (n : ℕ) (some : 1 ≤ n) (ls : List ℕ) (counts : Counts ls) (below : InnerSame ls) where
  packet-begins : (p : Packet ls) → PacketWhole n ls p → Begins IsValue (packet_yield ls p)
  packet-begins p w = begins-append IsValue p.0 (inner_yield ls p.1) (values-begin p.0 (omega (arith, w.0)) w.1)

  packet-same : (p q : Packet ls) (s t : List Token) → PacketWhole n ls p → PacketWhole n ls q → Anything s → Anything t
      → packet_yield ls p ++ s ≡ packet_yield ls q ++ t → (p ≡ q) × (s ≡ t)
  packet-same p q s t wp wq fs ft e =
      let own : (p.0 ≡ q.0) × (inner_yield ls p.1 ++ s ≡ inner_yield ls q.1 ++ t) =
      same_length p.0 q.0 (inner_yield ls p.1 ++ s) (inner_yield ls q.1 ++ t) (wp.0 ∙ sym wq.0)
      (sym (append_assoc p.0 (inner_yield ls p.1) s) ∙ e ∙ append_assoc q.0 (inner_yield ls q.1) t) in
      let deep : (p.1 ≡ q.1) × (s ≡ t) = below p.1 q.1 s t counts wp.2 wq.2 own.1 in
      (λ i. (own.0 i, deep.0 i), deep.1)

  packets-same : (ps qs : List (Packet ls)) (s t : List Token) → Each (PacketWhole n ls) ps → Each (PacketWhole n ls) qs
      → NotHead IsValue s → NotHead IsValue t → flat_map (packet_yield ls) ps ++ s ≡ flat_map (packet_yield ls) qs ++ t → (ps ≡ qs) × (s ≡ t)
  packets-same ps qs s t wp wq hs ht e =
      pieces-same (packet_yield ls) (PacketWhole n ls) IsValue Anything packet-begins (λ p u w. tt) packet-same ps qs s t wp wq tt tt hs ht e

  packets-begin : (ps : List (Packet ls)) (s : List Token) → 1 ≤ length ps → Each (PacketWhole n ls) ps
      → Begins IsValue (flat_map (packet_yield ls) ps ++ s)
  unfolding flat_map
  packets-begin [] s l w = absurd (omega (arith, l))
  packets-begin (p ∷ ps) s l w =
      rw (append_assoc (packet_yield ls p) (flat_map (packet_yield ls) ps) s)
      (begins-append IsValue (packet_yield ls p) (flat_map (packet_yield ls) ps ++ s) (packet-begins p w.0))

inner-same : (ls : List ℕ) → InnerSame ls
unfolding inner_yield InnerWhole
inner-same [] i j s t c wi wj e = (refl, e)
inner-same (m ∷ ls) ps qs s t c wi wj e =
    let all : (ps ≡ qs) × (stop ∷ s ≡ stop ∷ t) =
    packets-same m c.0 ls c.1 (inner-same ls) ps qs (stop ∷ s) (stop ∷ t) wi wj stop-no-value stop-no-value
    (sym (append_assoc (flat_map (packet_yield ls) ps) (stop ∷ []) s) ∙ e ∙ append_assoc (flat_map (packet_yield ls) qs) (stop ∷ []) t) in
    let tails : stop ∷ s ≡ stop ∷ t = all.1 in
    (all.0, cc)

-- header stops
stops-not-head : (P : Token → Type 0) → (P stop → ⊥) → (k : ℕ) (s : List Token) → NotHead P s → NotHead P (replicate k stop ++ s)
stops-not-head P h zero s f = f
stops-not-head P h (suc k) s f = h

stops_same : (j k : ℕ) (s t : List Token) → NotHead IsStop s → NotHead IsStop t → replicate j stop ++ s ≡ replicate k stop ++ t
    → (j ≡ k) × (s ≡ t)
unfolding IsStop stop
stops_same zero zero s t hs ht e = (refl, e)
stops_same zero (suc k) s t hs ht e = absurd (never IsStop (stop ∷ []) (replicate k stop ++ t) s refl (sym e) hs)
stops_same (suc j) zero s t hs ht e = absurd (never IsStop (stop ∷ []) (replicate j stop ++ s) t refl e ht)
stops_same (suc j) (suc k) s t hs ht e =
    let tail : (j ≡ k) × (s ≡ t) = stops_same j k s t hs ht (let p : replicate j stop ++ s ≡ replicate k stop ++ t = cc in p) in
    (ap suc tail.0, tail.1)

-- deeper levels of a header: a `loop_` and names
abbrev level_yield : List Token → List Token
level_yield ns = loop_start ∷ ns

level-same : (ns ms s t : List Token) → Each IsName ns → Each IsName ms → NotHead IsName s → NotHead IsName t
    → level_yield ns ++ s ≡ level_yield ms ++ t → (ns ≡ ms) × (s ≡ t)
level-same ns ms s t wn wm hs ht e = same_span IsName ns ms s t wn wm hs ht (cc)

level-begins : (ns : List Token) → Each IsName ns → Begins IsLoop (level_yield ns)
unfolding IsLoop loop_start
level-begins ns w = refl

levels-same : (nss mss : List (List Token)) (s t : List Token) → Each (Each IsName) nss → Each (Each IsName) mss
    → NotHead IsName s → NotHead IsName t → NotHead IsLoop s → NotHead IsLoop t
    → flat_map level_yield nss ++ s ≡ flat_map level_yield mss ++ t → (nss ≡ mss) × (s ≡ t)
levels-same =
    pieces-same level_yield (Each IsName) IsLoop (NotHead IsName) level-begins (λ ns u w. loop-no-name) level-same

levels-not-name : (nss : List (List Token)) (s : List Token) → NotHead IsName s → NotHead IsName (flat_map level_yield nss ++ s)
unfolding flat_map
levels-not-name [] s h = h
levels-not-name (ns ∷ nss) s h = loop-no-name

-- what follows a loop's names
packets_of : Loop → List Token → List Token
packets_of l s = flat_map (packet_yield (map length l.deeper)) l.packets ++ s

after_names : Loop → List Token → List Token
after_names l s = flat_map level_yield l.deeper ++ (replicate l.stops stop ++ packets_of l s)

loop-splits : (l : Loop) (s : List Token) → loop_yield l ++ s ≡ loop_start ∷ (l.names ++ after_names l s)
unfolding loop_yield after_names packets_of
loop-splits l s = simp append_assoc

module _ (rules : Rules) (l : Loop) (s : List Token) (w : LoopBy rules l) where
  packets-value : Begins IsValue (packets_of l s)
  unfolding packets_of
  packets-value =
      packets-begin (length l.names) w.some_name (map length l.deeper) (map-counts l.deeper w.some_names)
      (inner-same (map length l.deeper)) l.packets s w.some_packet w.whole

  stops-no-head : (P : Token → Type 0) → ((t : Token) → IsValue t → P t → ⊥) → (P stop → ⊥)
      → NotHead P (replicate l.stops stop ++ packets_of l s)
  stops-no-head P v h =
      stops-not-head P h l.stops (packets_of l s) (begins-not IsValue P (packets_of l s) v packets-value)

  after-no-name : NotHead IsName (after_names l s)
  unfolding after_names
  after-no-name = levels-not-name l.deeper _ (stops-no-head IsName value-no-name stop-no-name)

-- loops over the same levels are told apart by their packets
same-packets : (names : List Token) (k : ℕ) (d d' : List (List Token)) (ps : List (Packet (map length d))) (ps' : List (Packet (map length d')))
    (s t : List Token) → 1 ≤ length names → Each (λ ns. 1 ≤ length ns) d → d ≡ d'
    → Each (PacketWhole (length names) (map length d)) ps → Each (PacketWhole (length names) (map length d')) ps'
    → NotHead IsValue s → NotHead IsValue t
    → flat_map (packet_yield (map length d)) ps ++ s ≡ flat_map (packet_yield (map length d')) ps' ++ t
    → (◌≡◌ {A = Loop} (record { names = names; deeper = d; stops = k; packets = ps }) (record { names = names; deeper = d'; stops = k; packets = ps' }))
    × (s ≡ t)
same-packets names k d d' ps ps' s t some counts e w w' hs ht q = subst P e here ps' w' q
  where
    P : List (List Token) → Type 0
    P x =
        (qs : List (Packet (map length x))) → Each (PacketWhole (length names) (map length x)) qs
        → flat_map (packet_yield (map length d)) ps ++ s ≡ flat_map (packet_yield (map length x)) qs ++ t
        → (◌≡◌ {A = Loop} (record { names = names; deeper = d; stops = k; packets = ps }) (record { names = names; deeper = x; stops = k; packets = qs }))
        × (s ≡ t)

    here : P d
    here qs wq e' =
        let all : (ps ≡ qs) × (s ≡ t) =
        packets-same (length names) some (map length d) (map-counts d counts) (inner-same (map length d)) ps qs s t w wq hs ht e' in
        (λ i. record { names = names; deeper = d; stops = k; packets = all.0 i }, all.1)

loop-same : (rules : Rules) (l m : Loop) (s t : List Token) → LoopBy rules l → LoopBy rules m → NotHead IsValue s → NotHead IsValue t
    → loop_yield l ++ s ≡ loop_yield m ++ t → (l ≡ m) × (s ≡ t)
unfolding after_names packets_of
loop-same rules l m s t wl wm hs ht e =
    let start : loop_start ∷ (l.names ++ after_names l s) ≡ loop_start ∷ (m.names ++ after_names m t) = sym (loop-splits l s) ∙ e ∙ loop-splits m t in
    let names : (l.names ≡ m.names) × (after_names l s ≡ after_names m t) =
    same_span IsName l.names m.names (after_names l s) (after_names m t) wl.are_names wm.are_names
    (after-no-name rules l s wl) (after-no-name rules m t wm) (cc) in
    let deeper : (l.deeper ≡ m.deeper) × (replicate l.stops stop ++ packets_of l s ≡ replicate m.stops stop ++ packets_of m t) =
    levels-same l.deeper m.deeper _ _ wl.are_deeper wm.are_deeper
    (stops-no-head rules l s wl IsName value-no-name stop-no-name) (stops-no-head rules m t wm IsName value-no-name stop-no-name)
    (stops-no-head rules l s wl IsLoop value-no-loop stop-no-loop) (stops-no-head rules m t wm IsLoop value-no-loop stop-no-loop)
    names.1 in
    let stops : (l.stops ≡ m.stops) × (packets_of l s ≡ packets_of m t) =
    stops_same l.stops m.stops (packets_of l s) (packets_of m t) (begins-not IsValue IsStop (packets_of l s) value-no-stop (packets-value rules l s wl))
    (begins-not IsValue IsStop (packets_of m t) value-no-stop (packets-value rules m t wm)) deeper.1 in
    let packets : (◌≡◌ {A = Loop} (record { names = l.names; deeper = l.deeper; stops = l.stops; packets = l.packets })
    (record { names = l.names; deeper = m.deeper; stops = l.stops; packets = m.packets }))
    × (s ≡ t) =
    same-packets l.names l.stops l.deeper m.deeper l.packets m.packets s t wl.some_name wl.some_names
    deeper.0 wl.whole (rw names.0 wm.whole) hs ht stops.1 in
    (packets.0 ∙ (λ i. record { names = names.0 i; deeper = m.deeper; stops = stops.0 i; packets = m.packets }), packets.1)

-- an entry begins with a name or `loop_`, a member of a block with one of these or a frame's heading, a block with its heading
record Kinds (low high : ℕ) (t : Token) : Type 0 where
  least : low ≤ t.kind
  most : t.kind ≤ high

no_value_lem : (low high : ℕ) (t : Token) → high ≤ 6 → Kinds low high t → IsValue t → ⊥
no_value_lem low high t h k v = omega (arith, k.most, v.low)

entry-begins : (rules : Rules) (e : Entry) → EntryBy rules e → Begins (Kinds 4 6) (entry_yield e)
unfolding entry_yield loop_yield loop_start
entry-begins rules (item n v) w = record { least = omega (arith, w.0.kind6); most = omega (arith, w.0.kind6) }
entry-begins rules (looped l) w = record { least = omega arith; most = omega arith }

entry_follows : (rules : Rules) (e : Entry) (s : List Token) → EntryBy rules e → NotHead IsValue (entry_yield e ++ s)
entry_follows rules e s w =
    begins-not (Kinds 4 6) IsValue (entry_yield e ++ s) (λ t. no_value_lem 4 6 t (omega arith))
    (begins-append (Kinds 4 6) (entry_yield e) s (entry-begins rules e w))

name-no-loop : (n : Token) (xs ys : List Token) → IsName n → n ∷ xs ≡ loop_start ∷ ys → ⊥
unfolding loop_start
name-no-loop n xs ys w e = let p : n.kind ≡ 4 = cc in omega (arith, p, w.kind6)

entry-same : (rules : Rules) (a b : Entry) (s t : List Token) → EntryBy rules a → EntryBy rules b → NotHead IsValue s → NotHead IsValue t
    → entry_yield a ++ s ≡ entry_yield b ++ t → (a ≡ b) × (s ≡ t)
unfolding entry_yield
entry-same rules (item n v) (item m u) s t wa wb hs ht e = (cc, cc)
entry-same rules (item n v) (looped l) s t wa wb hs ht e = absurd (name-no-loop n _ _ wa.0 (e ∙ loop-splits l t))
entry-same rules (looped l) (item n v) s t wa wb hs ht e = absurd (name-no-loop n _ _ wb.0 (sym e ∙ loop-splits l s))
entry-same rules (looped l) (looped m) s t wa wb hs ht e =
    let all : (l ≡ m) × (s ≡ t) = loop-same rules l m s t wa wb hs ht e in
    (ap looped all.0, all.1)

entries-same : (rules : Rules) (xs ys : List Entry) (s t : List Token) → Each (EntryBy rules) xs → Each (EntryBy rules) ys
    → NotHead IsValue s → NotHead IsValue t → NotHead (Kinds 4 6) s → NotHead (Kinds 4 6) t
    → flat_map entry_yield xs ++ s ≡ flat_map entry_yield ys ++ t → (xs ≡ ys) × (s ≡ t)
entries-same rules =
    pieces-same entry_yield (EntryBy rules) (Kinds 4 6) (NotHead IsValue) (entry-begins rules) (entry_follows rules) (entry-same rules)

end-no-value : IsValue frame_end → ⊥
unfolding frame_end
end-no-value v = omega (arith, v.low)

end-no-entry : Kinds 4 6 frame_end → ⊥
unfolding frame_end
end-no-entry k = omega (arith, k.least)

frame_same : (rules : Rules) (f g : Frame) (s t : List Token) → FrameBy rules f → FrameBy rules g → frame_yield frame_end f ++ s ≡ frame_yield frame_end g ++ t
    → (f ≡ g) × (s ≡ t)
unfolding frame_yield
frame_same rules f g s t wf wg e =
    let heading : f.heading ≡ g.heading = cc in
    let body : flat_map entry_yield f.entries ++ (frame_end ∷ []) ++ s ≡ flat_map entry_yield g.entries ++ (frame_end ∷ []) ++ t = cc in
    let all : (f.entries ≡ g.entries) × (frame_end ∷ s ≡ frame_end ∷ t) =
    entries-same rules f.entries g.entries (frame_end ∷ s) (frame_end ∷ t) wf.entries wg.entries end-no-value end-no-value
    end-no-entry end-no-entry
    (sym (append_assoc (flat_map entry_yield f.entries) (frame_end ∷ []) s) ∙ body ∙ append_assoc (flat_map entry_yield g.entries) (frame_end ∷ []) t) in
    let tails : frame_end ∷ s ≡ frame_end ∷ t = all.1 in
    (λ i. record { heading = heading i; entries = all.0 i }, cc)

member-begins : (rules : Rules) (m : Member) → MemberBy rules m → Begins (Kinds 2 6) (member_yield frame_end m)
unfolding member_yield frame_yield
member-begins rules (own e) w = wider (entry_yield e) (entry-begins rules e w)
  where
    wider : (xs : List Token) → Begins (Kinds 4 6) xs → Begins (Kinds 2 6) xs
    wider [] b = b
    wider (x ∷ xs) b = record { least = omega (arith, b.least); most = b.most }
member-begins rules (framed f) w = record { least = omega (arith, w.heading); most = omega (arith, w.heading) }

member-follows : (rules : Rules) (m : Member) (s : List Token) → MemberBy rules m → NotHead IsValue (member_yield frame_end m ++ s)
member-follows rules m s w =
    begins-not (Kinds 2 6) IsValue (member_yield frame_end m ++ s) (λ t. no_value_lem 2 6 t (omega arith))
    (begins-append (Kinds 2 6) (member_yield frame_end m) s (member-begins rules m w))

-- an entry is no frame
entry-no-frame : (rules : Rules) (e : Entry) (f : Frame) (s t : List Token) → EntryBy rules e → FrameBy rules f
    → entry_yield e ++ s ≡ frame_yield frame_end f ++ t → ⊥
unfolding frame_yield
entry-no-frame rules e f s t we wf q =
    never (Kinds 4 6) (entry_yield e) s (frame_yield frame_end f ++ t) (entry-begins rules e we) q (λ k. omega (arith, k.least, wf.heading))

member-same : (rules : Rules) (a b : Member) (s t : List Token) → MemberBy rules a → MemberBy rules b → NotHead IsValue s → NotHead IsValue t
    → member_yield frame_end a ++ s ≡ member_yield frame_end b ++ t → (a ≡ b) × (s ≡ t)
unfolding member_yield
member-same rules (own a) (own b) s t wa wb hs ht e =
    let all : (a ≡ b) × (s ≡ t) = entry-same rules a b s t wa wb hs ht e in
    (ap own all.0, all.1)
member-same rules (own a) (framed f) s t wa wb hs ht e = absurd (entry-no-frame rules a f s t wa wb e)
member-same rules (framed f) (own a) s t wa wb hs ht e = absurd (entry-no-frame rules a f t s wb wa (sym e))
member-same rules (framed f) (framed g) s t wa wb hs ht e =
    let all : (f ≡ g) × (s ≡ t) = frame_same rules f g s t wa wb e in
    (ap framed all.0, all.1)

members-same : (rules : Rules) (xs ys : List Member) (s t : List Token) → Each (MemberBy rules) xs → Each (MemberBy rules) ys
    → NotHead IsValue s → NotHead IsValue t → NotHead (Kinds 2 6) s → NotHead (Kinds 2 6) t
    → flat_map (member_yield frame_end) xs ++ s ≡ flat_map (member_yield frame_end) ys ++ t → (xs ≡ ys) × (s ≡ t)
members-same rules =
    pieces-same (member_yield frame_end) (MemberBy rules) (Kinds 2 6) (NotHead IsValue) (member-begins rules) (member-follows rules) (member-same rules)

-- a heading or `global_` is no value and begins no member of a block
heading-no-value : (t : Token) → IsHeading t → IsValue t → ⊥
heading-no-value t (IsHeading.data_block e) v = omega (arith, v.low)
heading-no-value t (IsHeading.global_block e) v = omega (arith, v.high)

heading-no-member : (t : Token) → IsHeading t → Kinds 2 6 t → ⊥
heading-no-member t (IsHeading.data_block e) m = omega (arith, m.least)
heading-no-member t (IsHeading.global_block e) m = omega (arith, m.most)

-- what may follow a block: another, or nothing
abbrev BlockNext : List Token → Type 0
BlockNext [] = Unit {0}
BlockNext (t ∷ ts) = IsHeading t

next-not : (H : Token → Type 0) → ((t : Token) → IsHeading t → H t → ⊥) → (s : List Token) → BlockNext s → NotHead H s
next-not H f [] b = tt
next-not H f (t ∷ s) b = f t b

block-begins : (rules : Rules) (b : Block) → BlockBy rules b → Begins IsHeading (block_yield frame_end b)
unfolding block_yield
block-begins rules b w = w.heading

block-follows : (rules : Rules) (b : Block) (s : List Token) → BlockBy rules b → BlockNext (block_yield frame_end b ++ s)
unfolding block_yield
block-follows rules b s w = block-begins rules b w

block_same : (rules : Rules) (a b : Block) (s t : List Token) → BlockBy rules a → BlockBy rules b → BlockNext s → BlockNext t
    → block_yield frame_end a ++ s ≡ block_yield frame_end b ++ t → (a ≡ b) × (s ≡ t)
unfolding block_yield
block_same rules a b s t wa wb fs ft e =
    let heading : a.heading ≡ b.heading = cc in
    let all : (a.members ≡ b.members) × (s ≡ t) =
    members-same rules a.members b.members s t wa.members wb.members
    (next-not IsValue heading-no-value s fs) (next-not IsValue heading-no-value t ft) (next-not (Kinds 2 6) heading-no-member s fs) (next-not (Kinds 2 6) heading-no-member t ft) (cc) in
    (λ i. record { heading = heading i; members = all.0 i }, all.1)

-- whole trees with the same tokens are equal
pub unambiguous : (rules : Rules) (f g : File) → FileBy rules f → FileBy rules g → file_yield frame_end f ≡ file_yield frame_end g → f ≡ g
unambiguous rules f g wf wg e =
    (pieces-same (block_yield frame_end) (BlockBy rules) IsHeading BlockNext (block-begins rules) (block-follows rules) (block_same rules)
    f g [] [] wf wg tt tt tt tt (append-nil (file_yield frame_end f) ∙ e ∙ sym (append-nil (file_yield frame_end g)))).0
