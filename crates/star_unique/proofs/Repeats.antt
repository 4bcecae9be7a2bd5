-- The trees' rule is the tokens' rule: each piece of a tree leads from what is taken to what is taken with its names and codes behind it, and
-- repeats nothing exactly when the lists so grown are distinct.
use mathlib.Core.Path.{◌≡◌, refl, sym, ◌∙◌, ap}
use mathlib.Core.Bool.{true, false}
use mathlib.Core.List.{List, [], ◌∷◌, ◌++◌, append-nil, append_assoc, map, flat_map}
use mathlib.Core.Logic.{◌↔◌}
use Prim.Native.Nat.{ℕ, zero, suc}
use native.Mathlib.Omega.{arith}
use lib.ListN.{length, replicate}
use Rattle.star_text.specs.Names.{key}
use Rattle.star_lex.specs.Rules.{Rules}
use Rattle.star_lex.specs.Tokens.{Token, Each}
use Rattle.star_grammar.specs.Tree.{frame_end, loop_start, stop, IsName, IsValue, Inner, Packet, inner_yield, packet_yield, InnerWhole, PacketWhole, loop_yield, Entry, item, looped, entry_yield, EntryBy, frame_yield, Member, own, framed, member_yield, MemberBy, Block, block_yield, IsHeading, is_global, BlockBy, File, file_yield, FileBy}
use Rattle.star_grammar.specs.Reading.{Distinct, contents, entry_names, own_names, frame_codes, FrameDistinct, BlockDistinct, block_code, FileDistinct}
use Rattle.star_unique.specs.Repeat.{Taken, nothing, among, is_taken, takes, take_block, take_global, take_frame, end_frame, take_name, first_repeat}
use Rattle.star_unique.proofs.Seen.{takes_all}
use Rattle.star_unique.proofs.Clean.{Clean, takes-append, clean-append, repeat-clean, clean-repeat}
use Rattle.star_unique.proofs.Distinct.{distinct-among}
use Rattle.star_unique.proofs.Names.{names_in, Inside, names-append, names-names, names-values, inside-takes, inside-clean}

-- tokens inside a set that have these names
record Naming (ts : List Token) (xs : List (List ℕ)) : Type 0 where
  inside : Each Inside ts
  names : names_in ts ≡ xs

each_append : (p q : List Token) → Each Inside p → Each Inside q → Each Inside (p ++ q)
each_append [] q f g = g
each_append (t ∷ p) q f g = (f.0, each_append p q f.1 g)

naming-append : {p q : List Token} {xs ys : List (List ℕ)} → Naming p xs → Naming q ys → Naming (p ++ q) (xs ++ ys)
naming-append {p} {q} f g = record { inside = each_append p q f.inside g.inside; names = names-append p q ∙ cc }

naming-nil : Naming [] []
unfolding names_in
naming-nil = record { inside = tt; names = refl }

naming-loop : Naming (loop_start ∷ []) []
unfolding names_in loop_start
naming-loop = record { inside = (record { low = omega arith; high = omega arith }, tt); names = refl }

naming-stop : Naming (stop ∷ []) []
unfolding names_in stop
naming-stop = record { inside = (record { low = omega arith; high = omega arith }, tt); names = refl }

each-names : (ts : List Token) → Each IsName ts → Each Inside ts
each-names [] h = tt
each-names (t ∷ ts) h = (record { low = omega (arith, h.0.kind6); high = omega (arith, h.0.kind6) }, each-names ts h.1)

each-values : (ts : List Token) → Each IsValue ts → Each Inside ts
each-values [] h = tt
each-values (t ∷ ts) h = (record { low = omega (arith, h.0.low); high = omega (arith, h.0.high) }, each-values ts h.1)

naming-names : (ts : List Token) → Each IsName ts → Naming ts (contents ts)
naming-names ts h = record { inside = each-names ts h; names = names-names ts h }

naming-values : (ts : List Token) → Each IsValue ts → Naming ts []
naming-values ts h = record { inside = each-values ts h; names = names-values ts h }

-- pieces one after the other
module _ {A : Type 0} (P : A → Type 0) (f : A → List Token) where
  naming-each : (g : A → List (List ℕ)) → ((x : A) → P x → Naming (f x) (g x)) → (xs : List A) → Each P xs
      → Naming (flat_map f xs) (flat_map g xs)
  unfolding flat_map
  naming-each g n [] h = naming-nil
  naming-each g n (x ∷ xs) h = naming-append (n x h.0) (naming-each g n xs h.1)

  naming-none : ((x : A) → P x → Naming (f x) []) → (xs : List A) → Each P xs → Naming (flat_map f xs) []
  unfolding flat_map
  naming-none n [] h = naming-nil
  naming-none n (x ∷ xs) h = naming-append (n x h.0) (naming-none n xs h.1)

naming-packet : (n : ℕ) (ls : List ℕ) → ((i : Inner ls) → InnerWhole ls i → Naming (inner_yield ls i) []) → (p : Packet ls) → PacketWhole n ls p
    → Naming (packet_yield ls p) []
naming-packet n ls inner p h = naming-append (naming-values p.0 h.1) (inner p.1 h.2)

naming-inner : (ls : List ℕ) (i : Inner ls) → InnerWhole ls i → Naming (inner_yield ls i) []
unfolding inner_yield InnerWhole
naming-inner [] i h = naming-nil
naming-inner (m ∷ ls) ps h =
    naming-append (naming-none (PacketWhole m ls) (packet_yield ls) (naming-packet m ls (naming-inner ls)) ps h) naming-stop

naming-stops : (n : ℕ) → Naming (replicate n stop) []
naming-stops zero = naming-nil
naming-stops (suc n) = naming-append naming-stop (naming-stops n)

naming-level : (ns : List Token) → Each IsName ns → Naming (loop_start ∷ ns) (contents ns)
naming-level ns h = naming-append naming-loop (naming-names ns h)

naming-entry : (rules : Rules) (e : Entry) → EntryBy rules e → Naming (entry_yield e) (entry_names e)
unfolding entry_yield entry_names loop_yield
naming-entry rules (item n v) h = naming-append (naming-names (n ∷ []) (h.0, tt)) (naming-values (v ∷ []) (h.1, tt))
naming-entry rules (looped l) h =
    let ls : List ℕ = map length l.deeper in
    rw (← (append-nil (flat_map contents l.deeper)))
    (naming-append (naming-level l.names h.are_names)
    (naming-append (naming-each (Each IsName) (λ ns. loop_start ∷ ns) contents naming-level l.deeper h.are_deeper)
    (naming-append (naming-stops l.stops)
    (naming-none (PacketWhole (length l.names) ls) (packet_yield ls) (naming-packet (length l.names) ls (naming-inner ls)) l.packets h.whole))))

naming-entries : (rules : Rules) (es : List Entry) → Each (EntryBy rules) es → Naming (flat_map entry_yield es) (flat_map entry_names es)
naming-entries rules = naming-each (EntryBy rules) entry_yield entry_names (naming-entry rules)

-- between the entries of a block, and of a frame: what is taken so far
abbrev in_block : (blocks frames names : List (List ℕ)) → Taken
in_block bs fs ns = record { blocks = bs; frames = fs; names = ns; inner = []; in_frame = false }

abbrev in_frame : (blocks frames names inner : List (List ℕ)) → Taken
in_frame bs fs ns is = record { blocks = bs; frames = fs; names = ns; inner = is; in_frame = true }

module _ (bs fs : List (List ℕ)) {ts : List Token} {xs : List (List ℕ)} (n : Naming ts xs) where
  block-takes : (ns : List (List ℕ)) → takes_all (in_block bs fs ns) ts ≡ in_block bs fs (ns ++ xs)
  unfolding take_name
  block-takes ns = rw (← n.names) (inside-takes (in_block bs fs) (λ ys. refl) (λ ys t. refl) ts ns n.inside)

  block-clean : (ns : List (List ℕ)) → (Distinct ns × Clean (in_block bs fs ns) ts) ↔ Distinct (ns ++ xs)
  unfolding take_name
  block-clean ns = rw (← n.names) (inside-clean (in_block bs fs) (λ ys. refl) (λ ys t. refl) ts ns n.inside)

  frame-takes : (ns : List (List ℕ)) → takes_all (in_frame bs fs ns []) ts ≡ in_frame bs fs ns xs
  unfolding take_name
  frame-takes ns = rw (← n.names) (inside-takes (in_frame bs fs ns) (λ ys. refl) (λ ys t. refl) ts [] n.inside)

  frame-clean : (ns : List (List ℕ)) → Clean (in_frame bs fs ns []) ts ↔ Distinct xs
  unfolding take_name
  frame-clean ns =
      let e : (Unit {0} × Clean (in_frame bs fs ns []) ts) ↔ Distinct (names_in ts)
      = inside-clean (in_frame bs fs ns) (λ ys. refl) (λ ys t. refl) ts [] n.inside in
      rw (← n.names) (λ c. e.0 (tt, c), λ d. (e.1 d).1)

module _ (bs : List (List ℕ)) where
  frame-start : (fs ns : List (List ℕ)) (t : Token) → t.kind ≡ 2 → takes (in_block bs fs ns) t ≡ in_frame bs (fs ++ (key t.content ∷ [])) ns []
  unfolding takes take_frame
  frame-start fs ns t e = rw e

  frame-taken : (fs ns : List (List ℕ)) (t : Token) → t.kind ≡ 2 → is_taken (in_block bs fs ns) t ≡ among (key t.content) fs
  unfolding is_taken
  frame-taken fs ns t e = rw e

  frame-left : (fs ns is : List (List ℕ)) → takes (in_frame bs fs ns is) frame_end ≡ in_block bs fs ns
  unfolding takes end_frame frame_end
  frame-left fs ns is = refl

end-free : (s : Taken) → is_taken s frame_end ≡ false
unfolding is_taken frame_end
end-free s = refl

module _ (rules : Rules) (bs : List (List ℕ)) where
  member-takes : (m : Member) → MemberBy rules m → (fs ns : List (List ℕ))
      → takes_all (in_block bs fs ns) (member_yield frame_end m) ≡ in_block bs (fs ++ frame_codes m) (ns ++ own_names m)
  unfolding member_yield frame_codes own_names frame_yield
  member-takes (own e) h fs ns = rw append-nil (block-takes bs fs (naming-entry rules e h) ns)
  member-takes (framed f) h fs ns =
      let gs : List (List ℕ) = fs ++ (key f.heading.content ∷ []) in
      let ts : List Token = flat_map entry_yield f.entries in
      ap (λ s. takes_all s (ts ++ (frame_end ∷ []))) (frame-start bs fs ns f.heading h.heading)
      ∙ takes-append (in_frame bs gs ns []) ts (frame_end ∷ [])
      ∙ ap (λ s. takes s frame_end) (frame-takes bs gs (naming-entries rules f.entries h.entries) ns)
      ∙ frame-left bs gs ns (flat_map entry_names f.entries)
      ∙ ap (in_block bs gs) (sym (append-nil ns))

  member-clean : (m : Member) → MemberBy rules m → (fs ns : List (List ℕ))
      → (Distinct fs × Distinct ns × Clean (in_block bs fs ns) (member_yield frame_end m))
      ↔ (Distinct (fs ++ frame_codes m) × Distinct (ns ++ own_names m) × FrameDistinct m)
  unfolding member_yield frame_codes own_names frame_yield FrameDistinct
  member-clean (own e) h fs ns =
      let k : (Distinct ns × Clean (in_block bs fs ns) (entry_yield e)) ↔ Distinct (ns ++ entry_names e) = block-clean bs fs (naming-entry rules e h) ns in
      rw append-nil (λ c. (c.0, k.0 (c.1, c.2), tt), λ d. (d.0, (k.1 d.1).0, (k.1 d.1).1))
  member-clean (framed f) h fs ns =
      let gs : List (List ℕ) = fs ++ (key f.heading.content ∷ []) in
      let ts : List Token = flat_map entry_yield f.entries in
      let k : Clean (in_frame bs gs ns []) ts ↔ Distinct (flat_map entry_names f.entries) = frame-clean bs gs (naming-entries rules f.entries h.entries) ns in
      let a : Clean (in_frame bs gs ns []) (ts ++ (frame_end ∷ [])) ↔ (Clean (in_frame bs gs ns []) ts × Clean (takes_all (in_frame bs gs ns []) ts) (frame_end ∷ []))
      = clean-append (in_frame bs gs ns []) ts (frame_end ∷ []) in
      let d : (Distinct fs × (among (key f.heading.content) fs ≡ false)) ↔ Distinct gs = distinct-among fs (key f.heading.content) in
      rw (append-nil, frame-taken bs fs ns f.heading h.heading, frame-start bs fs ns f.heading h.heading) (
        λ c. (d.0 (c.0, c.2.0), c.1, k.0 (a.0 c.2.1).0),
        λ c. ((d.1 c.0).0, c.1, ((d.1 c.0).1, a.1 (k.1 c.2, (end-free (takes_all (in_frame bs gs ns []) ts), tt)))),
      )

  members-takes : (ms : List Member) → Each (MemberBy rules) ms → (fs ns : List (List ℕ))
      → takes_all (in_block bs fs ns) (flat_map (member_yield frame_end) ms) ≡ in_block bs (fs ++ flat_map frame_codes ms) (ns ++ flat_map own_names ms)
  unfolding flat_map
  members-takes [] h fs ns = rw (append-nil fs, append-nil ns)
  members-takes (m ∷ ms) h fs ns =
      rw (
        takes-append (in_block bs fs ns) (member_yield frame_end m) (flat_map (member_yield frame_end) ms),
        member-takes m h.0 fs ns,
        ← (append_assoc fs (frame_codes m) (flat_map frame_codes ms)),
        ← (append_assoc ns (own_names m) (flat_map own_names ms)),
      )
      (members-takes ms h.1 (fs ++ frame_codes m) (ns ++ own_names m))

  members-clean : (ms : List Member) → Each (MemberBy rules) ms → (fs ns : List (List ℕ))
      → (Distinct fs × Distinct ns × Clean (in_block bs fs ns) (flat_map (member_yield frame_end) ms))
      ↔ (Distinct (fs ++ flat_map frame_codes ms) × Distinct (ns ++ flat_map own_names ms) × Each FrameDistinct ms)
  unfolding flat_map
  members-clean [] h fs ns = rw (append-nil fs, append-nil ns) (λ c. c, λ c. c)
  members-clean (m ∷ ms) h fs ns =
      let gs : List (List ℕ) = fs ++ frame_codes m in
      let ws : List (List ℕ) = ns ++ own_names m in
      let ts : List Token = flat_map (member_yield frame_end) ms in
      let k : (Distinct fs × Distinct ns × Clean (in_block bs fs ns) (member_yield frame_end m)) ↔ (Distinct gs × Distinct ws × FrameDistinct m)
      = member-clean m h.0 fs ns in
      let a : Clean (in_block bs fs ns) (member_yield frame_end m ++ ts) ↔ (Clean (in_block bs fs ns) (member_yield frame_end m) × Clean (in_block bs gs ws) ts)
      = rw (← (member-takes m h.0 fs ns)) (clean-append (in_block bs fs ns) (member_yield frame_end m) ts) in
      let r : (Distinct gs × Distinct ws × Clean (in_block bs gs ws) ts) ↔ (Distinct (gs ++ flat_map frame_codes ms) × Distinct (ws ++ flat_map own_names ms) × Each FrameDistinct ms)
      = members-clean ms h.1 gs ws in
      rw (← (append_assoc fs (frame_codes m) (flat_map frame_codes ms)), ← (append_assoc ns (own_names m) (flat_map own_names ms))) (
        λ c.
            let d : Distinct gs × Distinct ws × FrameDistinct m = k.0 (c.0, c.1, (a.0 c.2).0) in
            let e : Distinct (gs ++ flat_map frame_codes ms) × Distinct (ws ++ flat_map own_names ms) × Each FrameDistinct ms = r.0 (d.0, d.1, (a.0 c.2).1) in
            (e.0, e.1, (d.2, e.2)),
        λ c.
            let d : Distinct gs × Distinct ws × Clean (in_block bs gs ws) ts = r.1 (c.0, c.1, c.2.1) in
            let e : Distinct fs × Distinct ns × Clean (in_block bs fs ns) (member_yield frame_end m) = k.1 (d.0, d.1, c.2.0) in
            (e.0, e.1, a.1 (e.2, d.2)),
      )

-- what begins a block: a heading takes its code, `global_` nothing
heading-takes : (s : Taken) (b : Block) → IsHeading b.heading → takes s b.heading ≡ in_block (s.blocks ++ block_code b) [] []
unfolding takes take_block take_global block_code is_global
heading-takes s b (IsHeading.data_block e) = rw e
heading-takes s b (IsHeading.global_block e) = rw (e, append-nil)

heading-taken : (s : Taken) (b : Block) → IsHeading b.heading
    → (Distinct s.blocks × (is_taken s b.heading ≡ false)) ↔ Distinct (s.blocks ++ block_code b)
unfolding is_taken block_code is_global
heading-taken s b (IsHeading.data_block e) = rw e (distinct-among s.blocks (key b.heading.content))
heading-taken s b (IsHeading.global_block e) = rw (e, append-nil) (λ d. d.0, λ d. (d, refl))

module _ (rules : Rules) where
  -- a block leaves its code
  block-code : (b : Block) → BlockBy rules b → (s : Taken) → (takes_all s (block_yield frame_end b)).blocks ≡ s.blocks ++ block_code b
  unfolding block_yield
  block-code b h s =
      ap (λ r. (takes_all r (flat_map (member_yield frame_end) b.members)).blocks) (heading-takes s b h.heading)
      ∙ ap (λ r. r.blocks) (members-takes rules (s.blocks ++ block_code b) b.members h.members [] [])

  block-distinct : (b : Block) → BlockBy rules b → (s : Taken)
      → (Distinct s.blocks × Clean s (block_yield frame_end b)) ↔ (Distinct (s.blocks ++ block_code b) × BlockDistinct b)
  unfolding block_yield
  block-distinct b h s =
      let bs : List (List ℕ) = s.blocks ++ block_code b in
      let ms : List Token = flat_map (member_yield frame_end) b.members in
      let d : (Distinct s.blocks × (is_taken s b.heading ≡ false)) ↔ Distinct bs = heading-taken s b h.heading in
      let k : (Unit {0} × Unit {0} × Clean (in_block bs [] []) ms) ↔ (Distinct (flat_map frame_codes b.members) × Distinct (flat_map own_names b.members) × Each FrameDistinct b.members)
      = members-clean rules bs b.members h.members [] [] in
      rw (heading-takes s b h.heading) (
        λ c. (d.0 (c.0, c.1.0), record { names = (k.0 (tt, tt, c.1.1)).1; codes = (k.0 (tt, tt, c.1.1)).0; frames = (k.0 (tt, tt, c.1.1)).2 }),
        λ c. ((d.1 c.0).0, ((d.1 c.0).1, (k.1 (c.1.codes, c.1.names, c.1.frames)).2)),
      )

  file-distinct : (f : File) → FileBy rules f → (s : Taken)
      → (Distinct s.blocks × Clean s (file_yield frame_end f)) ↔ (Distinct (s.blocks ++ flat_map block_code f) × Each BlockDistinct f)
  unfolding flat_map
  file-distinct [] h s = rw append-nil (λ c. c, λ c. c)
  file-distinct (b ∷ f) h s =
      let bs : List (List ℕ) = s.blocks ++ block_code b in
      let codes : List (List ℕ) = flat_map block_code f in
      let u : Taken = takes_all s (block_yield frame_end b) in
      let k : (Distinct s.blocks × Clean s (block_yield frame_end b)) ↔ (Distinct bs × BlockDistinct b) = block-distinct b h.0 s in
      let a : Clean s (block_yield frame_end b ++ file_yield frame_end f) ↔ (Clean s (block_yield frame_end b) × Clean u (file_yield frame_end f)) = clean-append s (block_yield frame_end b) (file_yield frame_end f) in
      let r : (Distinct bs × Clean u (file_yield frame_end f)) ↔ (Distinct (bs ++ codes) × Each BlockDistinct f)
      = rw (← (block-code b h.0 s)) (file-distinct f h.1 u) in
      rw (← (append_assoc s.blocks (block_code b) codes)) (
        λ c.
            let e : Distinct bs × BlockDistinct b = k.0 (c.0, (a.0 c.1).0) in
            let g : Distinct (bs ++ codes) × Each BlockDistinct f = r.0 (e.0, (a.0 c.1).1) in
            (g.0, (e.1, g.1)),
        λ c.
            let g : Distinct bs × Clean u (file_yield frame_end f) = r.1 (c.0, c.1.1) in
            let e : Distinct s.blocks × Clean s (block_yield frame_end b) = k.1 (g.0, c.1.0) in
            (e.0, a.1 (e.1, g.1)),
      )

  -- a whole tree is distinct exactly when its tokens repeat nothing
  pub repeat-distinct : (f : File) → FileBy rules f → FileDistinct f ↔ (first_repeat nothing (file_yield frame_end f) ≡ length (file_yield frame_end f))
  unfolding nothing
  repeat-distinct f h =
      let k : (Unit {0} × Clean nothing (file_yield frame_end f)) ↔ (Distinct (flat_map block_code f) × Each BlockDistinct f) = file-distinct f h nothing in (
        λ d. clean-repeat nothing (file_yield frame_end f) (k.1 (d.codes, d.blocks)).1,
        λ e.
            let c : Distinct (flat_map block_code f) × Each BlockDistinct f = k.0 (tt, repeat-clean nothing (file_yield frame_end f) e) in
            record { blocks = c.1; codes = c.0 },
      )
