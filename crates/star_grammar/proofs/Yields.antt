-- The yields of a tree in the two layouts: in the 1991 one each `save_` alone is `stop_`, and nothing else differs. So a tree's yield in the layout of the rules is a row exactly when its yield today is the
-- row as one of today's, where the machine takes that.
use mathlib.Core.Path.{◌≡◌, refl, sym, ap, ◌∙◌}
use mathlib.Core.Bool.{Bool, true, false, cond}
use mathlib.Core.List.{List, [], ◌∷◌, ◌++◌, map, map-append, flat_map}
use Prim.Native.Nat.{ℕ, zero, suc}
use native.Mathlib.Omega.{arith}
use lib.ListN.{length, replicate}
use Rattle.star_lex.specs.Rules.{Rules}
use Rattle.star_lex.specs.Tokens.{Token, Each}
use Rattle.star_lex.proofs.Each.{each_append}
use Rattle.star_grammar.specs.Tables.{no_rows}
use Rattle.star_grammar.specs.Machine.{start}
use Rattle.star_grammar.specs.Layout.{outside, today_from, today_row, old_token, old_row, layout_row}
use Rattle.star_grammar.specs.Tree.{frame_end, loop_start, stop, frame_close, IsName, IsValue, Inner, Packet, inner_yield, packet_yield, InnerWhole, PacketWhole, loop_yield, Entry, item, looped, entry_yield, EntryBy, frame_yield, Member, own, framed, member_yield, MemberBy, Block, block_yield, IsHeading, BlockBy, File, file_yield, FileBy}
use Rattle.star_grammar.proofs.Rest.{Fixed}
use Rattle.star_grammar.proofs.Complete.{complete}
use Rattle.star_grammar.proofs.Unambiguous.{unambiguous}
use Rattle.star_grammar.proofs.Walking.{Walks, good-walks}
use Rattle.star_grammar.proofs.Tracking.{tracked}
use Rattle.star_grammar.proofs.Layouts.{Ends, old-end, old-stays, row-there, row_back}

-- no `save_` alone
abbrev NotEnd : Token → Type 0
NotEnd t = t.kind ≡ 3 → ⊥

each-flat : {A : Type 0} (P : Token → Type 0) (Q : A → Type 0) (f : A → List Token) → ((x : A) → Q x → Each P (f x)) → (xs : List A) → Each Q xs → Each P (flat_map f xs)
unfolding flat_map
each-flat P Q f h [] g = tt
each-flat P Q f h (x ∷ xs) g = (each_append P (f x) (flat_map f xs)).1 (h x g.0, each-flat P Q f h xs g.1)

values-plain : (ts : List Token) → Each IsValue ts → Each NotEnd ts
values-plain [] h = tt
values-plain (t ∷ ts) h = ((λ e. omega (arith, h.0.low)), values-plain ts h.1)

names-plain : (ts : List Token) → Each IsName ts → Each NotEnd ts
names-plain [] h = tt
names-plain (t ∷ ts) h = ((λ e. omega (arith, h.0.kind6)), names-plain ts h.1)

stop-plain : NotEnd stop
unfolding stop
stop-plain = omega arith

loop-plain : NotEnd loop_start
unfolding loop_start
loop-plain = omega arith

stops-plain : (n : ℕ) → Each NotEnd (replicate n stop)
stops-plain zero = tt
stops-plain (suc n) = (stop-plain, stops-plain n)

packet-plain : (n : ℕ) (ls : List ℕ) → ((i : Inner ls) → InnerWhole ls i → Each NotEnd (inner_yield ls i)) → (p : Packet ls) → PacketWhole n ls p → Each NotEnd (packet_yield ls p)
packet-plain n ls inner p h = (each_append NotEnd p.0 (inner_yield ls p.1)).1 (values-plain p.0 h.1, inner p.1 h.2)

inner-plain : (ls : List ℕ) (i : Inner ls) → InnerWhole ls i → Each NotEnd (inner_yield ls i)
unfolding inner_yield InnerWhole
inner-plain [] i h = tt
inner-plain (m ∷ ls) ps h =
    (each_append NotEnd (flat_map (packet_yield ls) ps) (stop ∷ [])).1
    (each-flat NotEnd (PacketWhole m ls) (packet_yield ls) (packet-plain m ls (inner-plain ls)) ps h, (stop-plain, tt))

entry-plain : (rules : Rules) (e : Entry) → EntryBy rules e → Each NotEnd (entry_yield e)
unfolding entry_yield loop_yield
entry-plain rules (item n v) h = (each_append NotEnd (n ∷ []) (v ∷ [])).1 (names-plain (n ∷ []) (h.0, tt), values-plain (v ∷ []) (h.1, tt))
entry-plain rules (looped l) h =
    let ls : List ℕ = map length l.deeper in
    let packets : List Token = flat_map (packet_yield ls) l.packets in (
      loop-plain,
      (each_append NotEnd l.names _).1 (
        names-plain l.names h.are_names,
        (each_append NotEnd (flat_map (λ ns. loop_start ∷ ns) l.deeper) (replicate l.stops stop ++ packets)).1 (
          each-flat NotEnd (Each IsName) (λ ns. loop_start ∷ ns) (λ ns g. (loop-plain, names-plain ns g)) l.deeper h.are_deeper,
          (each_append NotEnd (replicate l.stops stop) packets).1 (
            stops-plain l.stops,
            each-flat NotEnd (PacketWhole (length l.names) ls) (packet_yield ls) (packet-plain (length l.names) ls (inner-plain ls)) l.packets h.whole,
          ),
        ),
      ),
    )

-- what is no `save_` alone stays
plain-stays : (ts : List Token) → Each NotEnd ts → old_row ts ≡ ts
unfolding old_row
plain-stays [] h = refl
plain-stays (t ∷ ts) h = ap (λ x. x ∷ old_row ts) (old-stays t h.0) ∙ ap (λ xs. t ∷ xs) (plain-stays ts h.1)

plain-ends : (ts : List Token) → Each NotEnd ts → Each Ends ts
plain-ends [] h = tt
plain-ends (t ∷ ts) h = ((λ e. absurd (h.0 e)), plain-ends ts h.1)

old-append : (p q : List Token) → old_row (p ++ q) ≡ old_row p ++ old_row q
unfolding old_row
old-append p q = map-append old_token p q

old-flat : {A : Type 0} (Q : A → Type 0) (f g : A → List Token) → ((x : A) → Q x → old_row (f x) ≡ g x) → (xs : List A) → Each Q xs → old_row (flat_map f xs) ≡ flat_map g xs
unfolding flat_map old_row
old-flat Q f g h [] w = refl
old-flat Q f g h (x ∷ xs) w = old-append (f x) (flat_map f xs) ∙ λ i. h x w.0 i ++ old-flat Q f g h xs w.1 i

end-old : old_row (frame_end ∷ []) ≡ (stop ∷ [])
unfolding old_row frame_end
end-old = ap (λ x. x ∷ []) (old-end frame_end refl)

end-ends : Ends frame_end
unfolding frame_end
end-ends e = refl

module _ (rules : Rules) where
  entries-plain : (es : List Entry) → Each (EntryBy rules) es → Each NotEnd (flat_map entry_yield es)
  entries-plain = each-flat NotEnd (EntryBy rules) entry_yield (entry-plain rules)

  member-old : (m : Member) → MemberBy rules m → old_row (member_yield frame_end m) ≡ member_yield stop m
  unfolding member_yield frame_yield old_row
  member-old (own e) h = plain-stays (entry_yield e) (entry-plain rules e h)
  member-old (framed f) h =
      let ts : List Token = flat_map entry_yield f.entries in
      let heading : old_token f.heading ≡ f.heading = old-stays f.heading (λ e. omega (arith, h.heading)) in
      let rest : old_row (ts ++ (frame_end ∷ [])) ≡ ts ++ (stop ∷ [])
      = old-append ts (frame_end ∷ []) ∙ λ i. plain-stays ts (entries-plain f.entries h.entries) i ++ end-old i in
      λ i. heading i ∷ rest i

  heading-plain : (t : Token) → IsHeading t → NotEnd t
  heading-plain t (IsHeading.data_block k) e = omega (arith, k)
  heading-plain t (IsHeading.global_block k) e = omega (arith, k)

  block-old : (b : Block) → BlockBy rules b → old_row (block_yield frame_end b) ≡ block_yield stop b
  unfolding block_yield old_row
  block-old b h =
      let heading : old_token b.heading ≡ b.heading = old-stays b.heading (heading-plain b.heading h.heading) in
      let rest : old_row (flat_map (member_yield frame_end) b.members) ≡ flat_map (member_yield stop) b.members
      = old-flat (MemberBy rules) (member_yield frame_end) (member_yield stop) member-old b.members h.members in
      λ i. heading i ∷ rest i

  pub file-old : (f : File) → FileBy rules f → old_row (file_yield frame_end f) ≡ file_yield stop f
  file-old = old-flat (BlockBy rules) (block_yield frame_end) (block_yield stop) block-old

  member-ends : (m : Member) → MemberBy rules m → Each Ends (member_yield frame_end m)
  unfolding member_yield frame_yield
  member-ends (own e) h = plain-ends (entry_yield e) (entry-plain rules e h)
  member-ends (framed f) h = (
    (λ e. absurd (omega (arith, h.heading))),
    (each_append Ends (flat_map entry_yield f.entries) (frame_end ∷ [])).1 (plain-ends (flat_map entry_yield f.entries) (entries-plain f.entries h.entries), (end-ends, tt)),
  )

  block-ends : (b : Block) → BlockBy rules b → Each Ends (block_yield frame_end b)
  unfolding block_yield
  block-ends b h =
      ((λ e. absurd (heading-plain b.heading h.heading e)), each-flat Ends (MemberBy rules) (member_yield frame_end) member-ends b.members h.members)

  file-ends : (f : File) → FileBy rules f → Each Ends (file_yield frame_end f)
  file-ends = each-flat Ends (BlockBy rules) (block_yield frame_end) block-ends

module _ (rules : Rules) where
  pub by_append : (p q : List Token) → layout_row rules (p ++ q) ≡ layout_row rules p ++ layout_row rules q
  unfolding layout_row
  by_append p q = by rules.stop_closes
    where
      by : (b : Bool) → cond b (old_row (p ++ q)) (p ++ q) ≡ cond b (old_row p) p ++ cond b (old_row q) q
      by true = old-append p q
      by false = refl

  -- a tree's yield in the layout of the rules
  pub yield-by : (f : File) → FileBy rules f → layout_row rules (file_yield frame_end f) ≡ file_yield (frame_close rules) f
  unfolding layout_row frame_close
  yield-by f h = by rules.stop_closes
    where
      by : (b : Bool) → cond b (old_row (file_yield frame_end f)) (file_yield frame_end f) ≡ file_yield (cond b stop frame_end) f
      by true = file-old rules f h
      by false = refl

  -- a row whose image the machine takes is the image's in the layout of the rules
  pub row_by : (ts : List Token) → Each Fixed ts → Walks rules start (today_row rules ts) no_rows → layout_row rules (today_row rules ts) ≡ ts
  unfolding layout_row today_row tracked
  row_by ts h = by rules.stop_closes
    where
      by : (b : Bool) → Walks rules start (cond b (today_from rules.levels (outside false) ts) ts) no_rows
          → cond b (old_row (cond b (today_from rules.levels (outside false) ts) ts)) (cond b (today_from rules.levels (outside false) ts) ts) ≡ ts
      by true w = row_back rules ts start w.0 no_rows w.1 h w.2
      by false w = refl

  -- a tree's yield in the layout of the rules, as a row of today's
  pub tree-row : (f : File) → FileBy rules f → today_row rules (file_yield (frame_close rules) f) ≡ file_yield frame_end f
  unfolding today_row frame_close tracked
  tree-row f h = by rules.stop_closes
    where
      walks : Walks rules start (file_yield frame_end f) no_rows
      walks = good-walks rules (file_yield frame_end f) start no_rows _ (complete rules f h)

      by : (b : Bool) → cond b (today_from rules.levels (outside false) (file_yield (cond b stop frame_end) f)) (file_yield (cond b stop frame_end) f) ≡ file_yield frame_end f
      by true = ap (today_from rules.levels (outside false)) (sym (file-old rules f h)) ∙ row-there rules (file_yield frame_end f) start walks.0 no_rows walks.1 (file-ends rules f h) walks.2
      by false = refl

  -- and of a row
  pub tree-today : (f : File) (ts : List Token) → FileBy rules f → file_yield (frame_close rules) f ≡ ts → today_row rules ts ≡ file_yield frame_end f
  tree-today f ts h e = ap (today_row rules) (sym e) ∙ tree-row f h

  pub today-tree : (f : File) (ts : List Token) → FileBy rules f → Each Fixed ts → Walks rules start (today_row rules ts) no_rows → file_yield frame_end f ≡ today_row rules ts
      → file_yield (frame_close rules) f ≡ ts
  today-tree f ts h g w e = sym (yield-by f h) ∙ ap (layout_row rules) e ∙ row_by ts g w

  -- two trees with one yield are equal, in each layout
  pub one-tree : (f g : File) → FileBy rules f → FileBy rules g → file_yield (frame_close rules) f ≡ file_yield (frame_close rules) g → f ≡ g
  one-tree f g wf wg e = unambiguous rules f g wf wg (sym (tree-row f wf) ∙ ap (today_row rules) e ∙ tree-row g wg)
