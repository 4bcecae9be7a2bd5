-- Dropping the header stops of a row of tokens, part by part: what is dropped of a part depends on what stands directly before it.
use mathlib.Core.Path.{◌≡◌, refl, ap, ◌∙◌}
use mathlib.Core.Bool.{Bool, true, false, cond}
use mathlib.Core.List.{List, [], ◌∷◌, ◌++◌, flat_map}
use Prim.Native.Nat.{ℕ, zero, suc, ◌≤◌}
use native.Mathlib.Omega.{arith}
use borrow.Author.Tests.{eq-eqb, ne_eqb}
use lib.Dec.{eqb}
use lib.ListN.{length, replicate}
use Rattle.star_text.proofs.Cases.{cond-by}
use Rattle.star_lex.specs.Tokens.{Token, Each}
use Rattle.star_grammar.specs.Tree.{loop_start, stop, IsValue, IsName, Inner, Packet, inner_yield, packet_yield, InnerWhole, PacketWhole}
use Rattle.star_grammar.specs.Stopless.{is_header_stop, drop_stops, headed_after}

-- a row in two parts
pub drop-append : (headed : Bool) (xs ys : List Token) → drop_stops headed (xs ++ ys) ≡ drop_stops headed xs ++ drop_stops (headed_after headed xs) ys
unfolding drop_stops headed_after
drop-append headed [] ys = refl
drop-append headed (x ∷ xs) ys = go (is_header_stop headed x.kind) (drop-append true xs ys) (drop-append (eqb x.kind 6) xs ys)
  where
    named : Bool
    named = eqb x.kind 6

    go : (t : Bool) → drop_stops true (xs ++ ys) ≡ drop_stops true xs ++ drop_stops (headed_after true xs) ys
        → drop_stops named (xs ++ ys) ≡ drop_stops named xs ++ drop_stops (headed_after named xs) ys
        → cond t (drop_stops true (xs ++ ys)) (x ∷ drop_stops named (xs ++ ys))
        ≡ cond t (drop_stops true xs) (x ∷ drop_stops named xs) ++ drop_stops (headed_after (cond t true named) xs) ys
    go true p q = p
    go false p q = ap (λ l. x ∷ l) q

pub headed-append : (headed : Bool) (xs ys : List Token) → headed_after headed (xs ++ ys) ≡ headed_after (headed_after headed xs) ys
unfolding headed_after
headed-append headed [] ys = refl
headed-append headed (x ∷ xs) ys = headed-append (cond (is_header_stop headed x.kind) true (eqb x.kind 6)) xs ys

-- no row grows
pub drop-length : (headed : Bool) (ts : List Token) → length (drop_stops headed ts) ≤ length ts
unfolding drop_stops
drop-length headed [] = omega arith
drop-length headed (t ∷ ts) =
    cond-by (λ l. length l ≤ suc (length ts)) (is_header_stop headed t.kind) (drop_stops true ts) (t ∷ drop_stops (eqb t.kind 6) ts)
    (λ e. omega (arith, drop-length true ts)) (λ e. omega (arith, drop-length (eqb t.kind 6) ts))

-- what is left of a part of a row, and whether a name or a header stop stands directly before it and last in it
pub record Drops (before after : Bool) (ts us : List Token) : Type 0 where
  pub drops : drop_stops before ts ≡ us
  pub ends : headed_after before ts ≡ after

-- one part after another
pub joined : {a b c : Bool} {ts us xs ys : List Token} → Drops a b ts us → Drops b c xs ys → Drops a c (ts ++ xs) (us ++ ys)
joined {a} {b} {ts = ts} {us} {xs} p q =
    let middle : drop_stops a ts ++ drop_stops (headed_after a ts) xs ≡ us ++ drop_stops b xs = λ i. p.drops i ++ drop_stops (p.ends i) xs in
    record {
      drops = drop-append a ts xs ∙ middle ∙ ap (λ l. us ++ l) q.drops;
      ends = headed-append a ts xs ∙ ap (λ h. headed_after h xs) p.ends ∙ q.ends;
    }

pub drops-none : (headed : Bool) → Drops headed headed [] []
unfolding drop_stops headed_after
drops-none headed = record { drops = refl; ends = refl }

-- only a `stop_` is a header stop
no_stop : (headed : Bool) (kind : ℕ) → (kind ≡ 5 → ⊥) → is_header_stop headed kind ≡ false
unfolding is_header_stop
no_stop true kind h = ne_eqb kind 5 h
no_stop false kind h = refl

-- a token that is neither a name nor `stop_`
pub drops-plain : (headed : Bool) (t : Token) → (t.kind ≡ 5 → ⊥) → (t.kind ≡ 6 → ⊥) → Drops headed false (t ∷ []) (t ∷ [])
unfolding drop_stops headed_after
drops-plain headed t h g = record { drops = rw (no_stop headed t.kind h); ends = rw (no_stop headed t.kind h, ne_eqb t.kind 6 g) }

-- any token but a name, where none stands before it
pub drops-later : (t : Token) → (t.kind ≡ 6 → ⊥) → Drops false false (t ∷ []) (t ∷ [])
unfolding drop_stops headed_after is_header_stop
drops-later t g = record { drops = refl; ends = ne_eqb t.kind 6 g }

pub drops-name : (headed : Bool) (t : Token) → IsName t → Drops headed true (t ∷ []) (t ∷ [])
unfolding drop_stops headed_after
drops-name headed t h =
    let same : is_header_stop headed t.kind ≡ false = no_stop headed t.kind (λ e. omega (arith, h.kind6)) in
    record { drops = rw same; ends = rw (same, eq-eqb t.kind 6 h.kind6) }

pub drops-value : (headed : Bool) (t : Token) → IsValue t → Drops headed false (t ∷ []) (t ∷ [])
drops-value headed t h = drops-plain headed t (λ e. omega (arith, h.low)) (λ e. omega (arith, h.low))

-- a header stop
drops-stop : Drops true true (stop ∷ []) []
unfolding drop_stops headed_after is_header_stop stop
drops-stop = record { drops = refl; ends = refl }

pub drops-stops : (n : ℕ) → Drops true true (replicate n stop) []
drops-stops zero = drops-none true
drops-stops (suc n) = joined drops-stop (drops-stops n)

drops-loop-start : (headed : Bool) → Drops headed false (loop_start ∷ []) (loop_start ∷ [])
unfolding loop_start
drops-loop-start headed = drops-plain headed loop_start (omega arith) (omega arith)

drops-inner-stop : Drops false false (stop ∷ []) (stop ∷ [])
unfolding stop
drops-inner-stop = drops-later stop (omega arith)

-- names, one or more
drops-more-names : (ns : List Token) → Each IsName ns → Drops true true ns ns
drops-more-names [] h = drops-none true
drops-more-names (n ∷ ns) h = joined (drops-name true n h.0) (drops-more-names ns h.1)

drops-names : (headed : Bool) (ns : List Token) → 1 ≤ length ns → Each IsName ns → Drops headed true ns ns
drops-names headed [] l h = absurd (omega arith)
drops-names headed (n ∷ ns) l h = joined (drops-name headed n h.0) (drops-more-names ns h.1)

-- a level of a header, and all deeper ones
pub drops-level : (headed : Bool) (ns : List Token) → 1 ≤ length ns → Each IsName ns → Drops headed true (loop_start ∷ ns) (loop_start ∷ ns)
drops-level headed ns l h = joined (drops-loop-start headed) (drops-names false ns l h)

pub drops-deeper : (nss : List (List Token)) → Each (λ ns. 1 ≤ length ns) nss → Each (Each IsName) nss
    → Drops true true (flat_map (λ ns. loop_start ∷ ns) nss) (flat_map (λ ns. loop_start ∷ ns) nss)
unfolding flat_map
drops-deeper [] l h = drops-none true
drops-deeper (ns ∷ nss) l h = joined (drops-level true ns l.0 h.0) (drops-deeper nss l.1 h.1)

-- pieces that end in no name, one after another
pub drops-flat : {A : Type 0} (Q : A → Type 0) (f g : A → List Token) → ((x : A) → Q x → Drops false false (f x) (g x))
    → (xs : List A) → Each Q xs → Drops false false (flat_map f xs) (flat_map g xs)
unfolding flat_map
drops-flat Q f g h [] w = drops-none false
drops-flat Q f g h (x ∷ xs) w = joined (h x w.0) (drops-flat Q f g h xs w.1)

-- values
drops-more-values : (vs : List Token) → Each IsValue vs → Drops false false vs vs
drops-more-values [] h = drops-none false
drops-more-values (v ∷ vs) h = joined (drops-value false v h.0) (drops-more-values vs h.1)

drops-values : (headed : Bool) (vs : List Token) → 1 ≤ length vs → Each IsValue vs → Drops headed false vs vs
drops-values headed [] l h = absurd (omega arith)
drops-values headed (v ∷ vs) l h = joined (drops-value headed v h.0) (drops-more-values vs h.1)

-- what stands below a packet keeps all its tokens
abbrev InnerDrops : List ℕ → Type 0
InnerDrops ls = (i : Inner ls) → InnerWhole ls i → Drops false false (inner_yield ls i) (inner_yield ls i)

drops-packet : (n : ℕ) (ls : List ℕ) → InnerDrops ls → (p : Packet ls) → PacketWhole n ls p → Drops false false (packet_yield ls p) (packet_yield ls p)
drops-packet n ls below p h = joined (drops-more-values p.0 h.1) (below p.1 h.2)

drops-inner : (ls : List ℕ) → InnerDrops ls
unfolding inner_yield InnerWhole
drops-inner [] i h = drops-none false
drops-inner (m ∷ ls) ps h =
    joined (drops-flat (PacketWhole m ls) (packet_yield ls) (packet_yield ls) (drops-packet m ls (drops-inner ls)) ps h) drops-inner-stop

-- the packets of a loop, one or more, each of one value or more
pub drops-packets : (headed : Bool) (n : ℕ) (ls : List ℕ) → 1 ≤ n → (ps : List (Packet ls)) → 1 ≤ length ps → Each (PacketWhole n ls) ps
    → Drops headed false (flat_map (packet_yield ls) ps) (flat_map (packet_yield ls) ps)
unfolding flat_map
drops-packets headed n ls some [] l h = absurd (omega arith)
drops-packets headed n ls some (p ∷ ps) l h =
    joined (joined (drops-values headed p.0 (omega (arith, h.0.0)) h.0.1) (drops-inner ls p.1 h.0.2))
    (drops-flat (PacketWhole n ls) (packet_yield ls) (packet_yield ls) (drops-packet n ls (drops-inner ls)) ps h.1)
