-- Trees without header stops: their tokens are the tree's without its header stops, they are by the rules that have none, and their names and codes are those of the tree.
use mathlib.Core.Path.{◌≡◌, refl, sym, ap, subst}
use mathlib.Core.Bool.{true, false}
use mathlib.Core.List.{List, [], ◌∷◌, ◌++◌, map, flat_map}
use Prim.Native.Nat.{ℕ}
use native.Mathlib.Omega.{arith}
use lib.ListN.{length}
use Rattle.star_lex.specs.Rules.{Rules, at_stops}
use Rattle.star_lex.specs.Tokens.{Token, Each}
use Rattle.star_grammar.specs.Tree.{frame_end, Loop, loop_yield, LoopBy, Entry, item, looped, entry_yield, EntryBy, Frame, frame_yield, FrameBy, Member, own, framed, member_yield, MemberBy, Block, block_yield, IsHeading, is_global, BlockBy, File, file_yield, FileBy}
use Rattle.star_grammar.specs.Reading.{Distinct, entry_names, own_names, frame_codes, FrameDistinct, BlockDistinct, block_code, FileDistinct}
use Rattle.star_grammar.specs.Stopless.{stopless_loop, stopless_entry, stopless_frame, stopless_member, stopless_block, stopless, drop_stops}
use Rattle.star_grammar.proofs.Dropping.{Drops, joined, drops-plain, drops-later, drops-name, drops-value, drops-stops, drops-level, drops-deeper, drops-flat, drops-packets}

-- the yield of changed pieces
flat-map : {A : Type 0} (f : A → List Token) (s : A → A) (xs : List A) → flat_map f (map s xs) ≡ flat_map (λ x. f (s x)) xs
unfolding flat_map
flat-map f s [] = refl
flat-map f s (x ∷ xs) = ap (λ l. f (s x) ++ l) (flat-map f s xs)

drops-map : {A : Type 0} (Q : A → Type 0) (f : A → List Token) (s : A → A) → ((x : A) → Q x → Drops false false (f x) (f (s x)))
    → (xs : List A) → Each Q xs → Drops false false (flat_map f xs) (flat_map f (map s xs))
drops-map Q f s h xs w = subst (Drops false false (flat_map f xs)) (sym (flat-map f s xs)) (drops-flat Q f (λ x. f (s x)) h xs w)

-- dropping what the tree has of header stops, where the token that closes frames is no name
module _ (rules : Rules) (close : Token) (plain : close.kind ≡ 6 → ⊥) where
  drops-loop : (l : Loop) → LoopBy rules l → Drops false false (loop_yield l) (loop_yield (stopless_loop l))
  unfolding loop_yield stopless_loop
  drops-loop l h =
      joined (drops-level false l.names h.some_name h.are_names)
      (joined (drops-deeper l.deeper h.some_names h.are_deeper)
      (joined (drops-stops l.stops)
      (drops-packets true (length l.names) (map length l.deeper) h.some_name l.packets h.some_packet h.whole)))

  drops_entry : (e : Entry) → EntryBy rules e → Drops false false (entry_yield e) (entry_yield (stopless_entry e))
  unfolding entry_yield stopless_entry
  drops_entry (item n v) h = joined (drops-name false n h.0) (drops-value true v h.1)
  drops_entry (looped l) h = drops-loop l h

  drops-frame : (f : Frame) → FrameBy rules f → Drops false false (frame_yield close f) (frame_yield close (stopless_frame f))
  unfolding frame_yield stopless_frame
  drops-frame f h =
      joined (drops-plain false f.heading (λ e. omega (arith, h.heading)) (λ e. omega (arith, h.heading)))
      (joined (drops-map (EntryBy rules) entry_yield stopless_entry drops_entry f.entries h.entries) (drops-later close plain))

  drops-member : (m : Member) → MemberBy rules m → Drops false false (member_yield close m) (member_yield close (stopless_member m))
  unfolding member_yield stopless_member
  drops-member (own e) h = drops_entry e h
  drops-member (framed f) h = drops-frame f h

  heading-plain : (t : Token) → IsHeading t → Drops false false (t ∷ []) (t ∷ [])
  heading-plain t (IsHeading.data_block e) = drops-later t (λ k. omega arith)
  heading-plain t (IsHeading.global_block e) = drops-later t (λ k. omega arith)

  drops-block : (b : Block) → BlockBy rules b → Drops false false (block_yield close b) (block_yield close (stopless_block b))
  unfolding block_yield stopless_block
  drops-block b h =
      joined (heading-plain b.heading h.heading) (drops-map (MemberBy rules) (member_yield close) stopless_member drops-member b.members h.members)

  pub drops-file : (f : File) → FileBy rules f → Drops false false (file_yield close f) (file_yield close (stopless f))
  unfolding stopless
  drops-file = drops-map (BlockBy rules) (block_yield close) stopless_block drops-block

-- the tokens of a tree without their header stops are those of the tree without header stops
pub drop-yield : (rules : Rules) (f : File) → FileBy rules f → drop_stops false (file_yield frame_end f) ≡ file_yield frame_end (stopless f)
unfolding frame_end
drop-yield rules f h = (drops-file rules frame_end (omega arith) f h).drops

-- by the rules
each_map : {A : Type 0} (P Q : A → Type 0) (s : A → A) → ((x : A) → P x → Q (s x)) → (xs : List A) → Each P xs → Each Q (map s xs)
each_map P Q s h [] w = tt
each_map P Q s h (x ∷ xs) w = (h x w.0, each_map P Q s h xs w.1)

module _ (rules : Rules) where
  loop-by : (l : Loop) → LoopBy rules l → LoopBy (at_stops rules false) (stopless_loop l)
  unfolding stopless_loop
  loop-by l h = record {
    some_name = h.some_name;
    some_names = h.some_names;
    are_names = h.are_names;
    are_deeper = h.are_deeper;
    levels = h.levels;
    stops_fit = omega arith;
    stops_allowed = λ e. absurd (omega (arith, e));
    some_packet = h.some_packet;
    whole = h.whole;
  }

  entry-by : (e : Entry) → EntryBy rules e → EntryBy (at_stops rules false) (stopless_entry e)
  unfolding stopless_entry
  entry-by (item n v) h = h
  entry-by (looped l) h = loop-by l h

  member-by : (m : Member) → MemberBy rules m → MemberBy (at_stops rules false) (stopless_member m)
  unfolding stopless_member stopless_frame
  member-by (own e) h = entry-by e h
  member-by (framed f) h =
      record { heading = h.heading; entries = each_map (EntryBy rules) (EntryBy (at_stops rules false)) stopless_entry entry-by f.entries h.entries }

  block-by : (b : Block) → BlockBy rules b → BlockBy (at_stops rules false) (stopless_block b)
  unfolding stopless_block
  block-by b h =
      record { heading = h.heading; members = each_map (MemberBy rules) (MemberBy (at_stops rules false)) stopless_member member-by b.members h.members }

-- a tree without header stops is by the rules that have none
pub stopless-by : (rules : Rules) (f : File) → FileBy rules f → FileBy (at_stops rules false) (stopless f)
unfolding stopless
stopless-by rules = each_map (BlockBy rules) (BlockBy (at_stops rules false)) stopless_block (block-by rules)

-- names and codes: what changed pieces have is what the pieces have
flat-same : {A : Type 0} (f : A → List (List ℕ)) (s : A → A) → ((x : A) → f (s x) ≡ f x) → (xs : List A) → flat_map f (map s xs) ≡ flat_map f xs
unfolding flat_map
flat-same f s h [] = refl
flat-same f s h (x ∷ xs) = λ i. h x i ++ flat-same f s h xs i

entry-names : (e : Entry) → entry_names (stopless_entry e) ≡ entry_names e
unfolding entry_names stopless_entry stopless_loop
entry-names (item n v) = refl
entry-names (looped l) = refl

own-names : (m : Member) → own_names (stopless_member m) ≡ own_names m
unfolding own_names stopless_member
own-names (own e) = entry-names e
own-names (framed f) = refl

frame-codes : (m : Member) → frame_codes (stopless_member m) ≡ frame_codes m
unfolding frame_codes stopless_member stopless_frame
frame-codes (own e) = refl
frame-codes (framed f) = refl

frame-distinct : (m : Member) → FrameDistinct m → FrameDistinct (stopless_member m)
unfolding FrameDistinct stopless_member stopless_frame
frame-distinct (own e) h = tt
frame-distinct (framed f) h = subst Distinct (sym (flat-same entry_names stopless_entry entry-names f.entries)) h

block-code : (b : Block) → block_code (stopless_block b) ≡ block_code b
unfolding block_code is_global stopless_block
block-code b = refl

block-distinct : (b : Block) → BlockDistinct b → BlockDistinct (stopless_block b)
unfolding stopless_block
block-distinct b h = record {
  names = subst Distinct (sym (flat-same own_names stopless_member own-names b.members)) h.names;
  codes = subst Distinct (sym (flat-same frame_codes stopless_member frame-codes b.members)) h.codes;
  frames = each_map FrameDistinct FrameDistinct stopless_member frame-distinct b.members h.frames;
}

-- names and codes stay unique
pub stopless-distinct : (f : File) → FileDistinct f → FileDistinct (stopless f)
unfolding stopless
stopless-distinct f h = record {
  blocks = each_map BlockDistinct BlockDistinct stopless_block block-distinct f h.blocks;
  codes = subst Distinct (sym (flat-same block_code stopless_block block-code f)) h.codes;
}
