-- The names and frame codes of a tree, each with the number of its set, against the sets' own lists: a set's names and codes have its number,
-- and the frames of a block are numbered after it.
use mathlib.Core.Path.{◌≡◌, refl, sym, ap, ◌∙◌}
use mathlib.Core.Bool.{Bool, true, false, cond}
use mathlib.Core.List.{List, [], ◌∷◌, ◌++◌, map, flat_map, append_assoc, map-append, Memᴰ}
use mathlib.Core.Logic.{◌↔◌, ⊎_elim}
use Prim.Native.Nat.{ℕ, zero, suc, ◌+◌, ◌-◌, ◌≤◌, ◌<◌}
use native.Mathlib.Nat.{add-zero, suc-add, add-suc}
use native.Mathlib.Numerals.{add-one}
use native.Mathlib.Omega.{arith}
use lib.ListN.{length, get_or, length-append, length-map}
use Rattle.star_text.specs.Names.{key}
use Rattle.star_grammar.specs.Tree.{Member, own, framed, Block, is_global, File}
use Rattle.star_grammar.specs.Tables.{block_kind}
use Rattle.star_grammar.specs.Reading.{entry_names, own_names, frame_codes, block_code}
use Rattle.star_grammar.proofs.RowsOf.{of, frames_of, members_names, file_names, file_sets}
use Rattle.star_find.specs.Demands.{frame_names, block_names, HoldsName, frame_kinds, block_kinds, no_codes, block_codes, HoldsFrame}

-- two lists have the same elements
pub record Alike {A : Type 0} (xs ys : List A) : Type 0 where
  pub forth : (x : A) → Memᴰ x xs → Memᴰ x ys
  pub back : (x : A) → Memᴰ x ys → Memᴰ x xs

module _ {A : Type 0} where
  after_same : (s : List A) {t u : List A} → Alike t u → Alike (s ++ t) (s ++ u)
  after_same s {t} {u} k = record { forth = λ x. both t u k.forth x; back = λ x. both u t k.back x }
    where
      both : (t u : List A) → ((x : A) → Memᴰ x t → Memᴰ x u) → (x : A) → Memᴰ x (s ++ t) → Memᴰ x (s ++ u)
      both t u h x m = ⊎_elim (mathlib.Core.List.Memᴰ.append_left u) (λ n. mathlib.Core.List.Memᴰ.append_right s (h x n)) (mathlib.Core.List.Memᴰ.append_cases s m)

  before_same : {s t : List A} (u : List A) → Alike s t → Alike (s ++ u) (t ++ u)
  before_same {s} {t} u k = record { forth = λ x. both s t k.forth x; back = λ x. both t s k.back x }
    where
      both : (s t : List A) → ((x : A) → Memᴰ x s → Memᴰ x t) → (x : A) → Memᴰ x (s ++ u) → Memᴰ x (t ++ u)
      both s t h x m = ⊎_elim (λ n. mathlib.Core.List.Memᴰ.append_left u (h x n)) (mathlib.Core.List.Memᴰ.append_right t) (mathlib.Core.List.Memᴰ.append_cases s m)

  exchanged : (s t u : List A) (x : A) → Memᴰ x (s ++ (t ++ u)) → Memᴰ x (t ++ (s ++ u))
  exchanged s t u x m =
      ⊎_elim (λ n. mathlib.Core.List.Memᴰ.append_right t (mathlib.Core.List.Memᴰ.append_left u n))
      (λ n. ⊎_elim (mathlib.Core.List.Memᴰ.append_left (s ++ u)) (λ k. mathlib.Core.List.Memᴰ.append_right t (mathlib.Core.List.Memᴰ.append_right s k)) (mathlib.Core.List.Memᴰ.append_cases t n)) (mathlib.Core.List.Memᴰ.append_cases s m)

  exchange : (s t u : List A) → Alike (s ++ (t ++ u)) (t ++ (s ++ u))
  exchange s t u = record { forth = exchanged s t u; back = exchanged t s u }

  alike_same : (s : List A) → Alike s s
  alike_same s = record { forth = λ x m. m; back = λ x m. m }

  alike-trans : {s t u : List A} → Alike s t → Alike t u → Alike s u
  alike-trans k l = record { forth = λ x m. l.forth x (k.forth x m); back = λ x m. k.back x (l.back x m) }

-- what each set holds, with the sets' numbers, where so many sets come before
abbrev numbered : (sets : ℕ) → List (List (List ℕ)) → List (ℕ × List ℕ)
numbered sets [] = []
numbered sets (xs ∷ xss) = of (suc sets) xs ++ numbered (suc sets) xss

numbered-append : (sets : ℕ) (xss yss : List (List (List ℕ))) → numbered sets (xss ++ yss) ≡ numbered sets xss ++ numbered (sets + length xss) yss
numbered-append sets [] yss = rw add-zero
numbered-append sets (xs ∷ xss) yss =
    rw (numbered-append (suc sets) xss yss, add-suc sets (length xss), ← suc-add sets (length xss))
    (sym (append_assoc (of (suc sets) xs) (numbered (suc sets) xss) (numbered (suc sets + length xss) yss)))

-- an element of one set's list
pub of-member : {s set : ℕ} {n : List ℕ} (names : List (List ℕ)) → Memᴰ (s, n) (of set names) → (s ≡ set) × Memᴰ n names
of-member {s} {set} {n} names m =
    let k : (a : List ℕ) × Memᴰ a names × (◌≡◌ {A = ℕ × List ℕ} (set, a) (s, n)) = mathlib.Core.List.Memᴰ.of_map (λ a. (set, a)) names m in
    (sym (ap (λ p. p.0) k.2), mathlib.Core.List.Memᴰ.cast (sym (ap (λ p. p.1) k.2)) k.1)

member_of : (set : ℕ) {n : List ℕ} {names : List (List ℕ)} → Memᴰ n names → Memᴰ (set, n) (of set names)
member_of set m = mathlib.Core.List.Memᴰ.map (λ n. (set, n)) m

-- a numbered element is in the list of its set
pub record InSet (sets : ℕ) (xss : List (List (List ℕ))) (set : ℕ) (x : List ℕ) : Type 0 where
  pub low : sets < set
  pub high : set ≤ sets + length xss
  pub holds : Memᴰ x (get_or xss (set - suc sets) [])

pub numbered-in : (sets : ℕ) (xss : List (List (List ℕ))) (set : ℕ) (x : List ℕ) → Memᴰ (set, x) (numbered sets xss) → InSet sets xss set x
numbered-in sets [] set x m = absurd (mathlib.Core.List.Memᴰ.not-nil m)
numbered-in sets (xs ∷ xss) set x m = ⊎_elim here (λ n. further (numbered-in (suc sets) xss set x n)) (mathlib.Core.List.Memᴰ.append_cases (of (suc sets) xs) m)
  where
    here : Memᴰ (set, x) (of (suc sets) xs) → InSet sets (xs ∷ xss) set x
    here n =
        let k : (set ≡ suc sets) × Memᴰ x xs = of-member xs n in
        let z : set - suc sets ≡ 0 = omega (arith, k.0) in
        record { low = omega (arith, k.0); high = omega (arith, k.0); holds = rw z k.1 }

    further : InSet (suc sets) xss set x → InSet sets (xs ∷ xss) set x
    further k =
        let z : set - suc sets ≡ suc (set - suc (suc sets)) = omega (arith, k.low) in
        record { low = omega (arith, k.low); high = omega (arith, k.high); holds = rw z k.holds }

in-numbered : (sets : ℕ) (xss : List (List (List ℕ))) (i : ℕ) (x : List ℕ) → Memᴰ x (get_or xss i []) → Memᴰ (suc sets + i, x) (numbered sets xss)
in-numbered sets [] i x m = absurd (mathlib.Core.List.Memᴰ.not-nil m)
in-numbered sets (xs ∷ xss) zero x m = rw add-zero (mathlib.Core.List.Memᴰ.append_left (numbered (suc sets) xss) (member_of (suc sets) m))
in-numbered sets (xs ∷ xss) (suc i) x m =
    rw (add-suc (suc sets) i, ← suc-add (suc sets) i) (mathlib.Core.List.Memᴰ.append_right (of (suc sets) xs) (in-numbered (suc sets) xss i x m))

-- names
pub frames-count : (ms : List Member) → length (flat_map frame_names ms) ≡ length (flat_map frame_codes ms)
unfolding flat_map frame_names frame_codes
frames-count [] = refl
frames-count (own e ∷ ms) = frames-count ms
frames-count (framed f ∷ ms) = ap suc (frames-count ms)

pub members-numbered : (block sets : ℕ) (ms : List Member)
    → Alike (members_names block sets ms) (of block (flat_map own_names ms) ++ numbered sets (flat_map frame_names ms))
unfolding flat_map own_names frame_names frame_codes
members-numbered block sets [] = alike_same []
members-numbered block sets (own e ∷ ms) =
    rw (
      add-zero sets,
      map-append {B = ℕ × List ℕ} (λ n. (block, n)) (entry_names e) (flat_map own_names ms),
      append_assoc (of block (entry_names e)) (of block (flat_map own_names ms)) (numbered sets (flat_map frame_names ms)),
    )
    (after_same (of block (entry_names e)) (members-numbered block sets ms))
members-numbered block sets (framed f ∷ ms) =
    let names : List (ℕ × List ℕ) = of (suc sets) (flat_map entry_names f.entries) in
    rw (add-one sets)
    (alike-trans (after_same names (members-numbered block (suc sets) ms))
    (exchange names (of block (flat_map own_names ms)) (numbered (suc sets) (flat_map frame_names ms))))

pub names-numbered : (sets : ℕ) (f : File) → Alike (file_names sets f) (numbered sets (flat_map block_names f))
unfolding flat_map block_names
names-numbered sets [] = alike_same []
names-numbered sets (b ∷ f) =
    let ms : List Member = b.members in
    let further : ℕ = suc sets + length (flat_map frame_codes ms) in
    rw (
      numbered-append (suc sets) (flat_map frame_names ms) (flat_map block_names f),
      frames-count ms,
      ← append_assoc (of (suc sets) (flat_map own_names ms)) (numbered (suc sets) (flat_map frame_names ms)) (numbered further (flat_map block_names f)),
    )
    (alike-trans (before_same (file_names further f) (members-numbered (suc sets) (suc sets) ms))
    (after_same (of (suc sets) (flat_map own_names ms) ++ numbered (suc sets) (flat_map frame_names ms)) (names-numbered further f)))

-- a name with its set's number is in the tree exactly when the set holds it
pub holds-name : (f : File) (set : ℕ) (name : List ℕ) → Memᴰ (set, key name) (file_names 0 f) ↔ HoldsName f set name
holds-name f set name = (
  λ m. let k : InSet 0 (flat_map block_names f) set (key name) = numbered-in 0 (flat_map block_names f) set (key name) ((names-numbered 0 f).forth _ m) in
      record { low = omega (arith, k.low); high = omega (arith, k.high); holds = k.holds },
  λ h. let e : suc 0 + (set - 1) ≡ set = omega (arith, h.low) in
      (names-numbered 0 f).back _ (rw e at (in-numbered 0 (flat_map block_names f) (set - 1) (key name) h.holds)),
)

pub sets-count : (sets : ℕ) (f : File) → length (file_sets sets f) ≡ length (flat_map block_names f)
unfolding flat_map block_names
sets-count sets [] = refl
sets-count sets (b ∷ f) =
    let ms : List Member = b.members in
    simp (length-append, length-map) (omega (arith, frames-count ms, sets-count (suc sets + length (flat_map frame_codes ms)) f))

-- codes of frames
no-codes-count : (ms : List Member) → length (flat_map no_codes ms) ≡ length (flat_map frame_codes ms)
unfolding flat_map no_codes frame_codes
no-codes-count [] = refl
no-codes-count (own e ∷ ms) = no-codes-count ms
no-codes-count (framed f ∷ ms) = ap suc (no-codes-count ms)

no-codes-numbered : (sets : ℕ) (ms : List Member) → numbered sets (flat_map no_codes ms) ≡ []
unfolding flat_map no_codes
no-codes-numbered sets [] = refl
no-codes-numbered sets (own e ∷ ms) = no-codes-numbered sets ms
no-codes-numbered sets (framed f ∷ ms) = no-codes-numbered (suc sets) ms

codes-numbered : (sets : ℕ) (b : Block) (f : File)
    → numbered sets (flat_map block_codes (b ∷ f))
    ≡ of (suc sets) (flat_map frame_codes b.members) ++ numbered (suc sets + length (flat_map frame_codes b.members)) (flat_map block_codes f)
unfolding flat_map block_codes
codes-numbered sets b f =
    let ms : List Member = b.members in
    rw (numbered-append (suc sets) (flat_map no_codes ms) (flat_map block_codes f), no-codes-numbered (suc sets) ms, no-codes-count ms)

frames-member : {kind parent : ℕ} {code : List ℕ} (block : ℕ) (codes : List (List ℕ)) → Memᴰ (kind, parent, code) (frames_of block codes)
    → (kind ≡ 2) × (parent ≡ block) × Memᴰ code codes
frames-member {kind} {parent} {code} block codes m =
    let k : (a : List ℕ) × Memᴰ a codes × (◌≡◌ {A = ℕ × ℕ × List ℕ} (2, block, a) (kind, parent, code)) = mathlib.Core.List.Memᴰ.of_map (λ c. (2, block, c)) codes m in
    (sym (ap (λ p. p.0) k.2), sym (ap (λ p. p.1) k.2), mathlib.Core.List.Memᴰ.cast (sym (ap (λ p. p.2) k.2)) k.1)

-- a block is no frame; a data block's code is its heading's, and a global block has none
no-frame : (b : Block) → 2 ≡ block_kind b → ⊥
unfolding block_kind
no-frame b e = go (is_global b) e
  where
    go : (t : Bool) → ◌≡◌ {A = ℕ} 2 (cond t 3 1) → ⊥
    go true q = omega arith
    go false q = omega arith

coded : (b : Block) (code : List ℕ) → ((1 ≡ block_kind b) × (code ≡ key b.heading.content)) ↔ Memᴰ code (block_code b)
unfolding block_kind block_code
coded b code = go (is_global b)
  where
    go : (t : Bool) → ((◌≡◌ {A = ℕ} 1 (cond t 3 1)) × (code ≡ key b.heading.content)) ↔ Memᴰ code (cond t [] (key b.heading.content ∷ []))
    go true = (λ h. absurd (let z : ◌≡◌ {A = ℕ} 1 3 = h.0 in omega arith), λ m. absurd (mathlib.Core.List.Memᴰ.not-nil m))
    go false = (λ h. mathlib.Core.List.Memᴰ.head h.1, λ m. (refl, mathlib.Core.List.Memᴰ.eq_of_singleton m))

-- a set of a file: the first block, a frame of it, or a set of the further blocks
set_cases {ℓ} : {P : Type ℓ} (sets kind parent : ℕ) (code : List ℕ) (b : Block) (f : File) → Memᴰ (kind, parent, code) (file_sets sets (b ∷ f))
    → (kind ≡ block_kind b → parent ≡ 0 → code ≡ key b.heading.content → P)
    → (kind ≡ 2 → parent ≡ suc sets → Memᴰ code (flat_map frame_codes b.members) → P)
    → (Memᴰ (kind, parent, code) (file_sets (suc sets + length (flat_map frame_codes b.members)) f) → P) → P
set_cases sets kind parent code b f m block frame further =
    let codes : List (List ℕ) = flat_map frame_codes b.members in
    ⊎_elim (λ e. block (ap (λ p. p.0) e) (ap (λ p. p.1) e) (ap (λ p. p.2) e))
    (λ n. ⊎_elim (λ k. let h : (kind ≡ 2) × (parent ≡ suc sets) × Memᴰ code codes = frames-member (suc sets) codes k in frame h.0 h.1 h.2)
    further (mathlib.Core.List.Memᴰ.append_cases (frames_of (suc sets) codes) n))
    (mathlib.Core.List.Memᴰ.cases_cons m)

frame-numbered : (sets : ℕ) (f : File) (set : ℕ) (code : List ℕ) → Memᴰ (2, set, code) (file_sets sets f)
    → Memᴰ (set, code) (numbered sets (flat_map block_codes f))
frame-numbered sets [] set code m = absurd (mathlib.Core.List.Memᴰ.not-nil m)
frame-numbered sets (b ∷ f) set code m =
    let codes : List (List ℕ) = flat_map frame_codes b.members in
    rw (codes-numbered sets b f)
    (set_cases sets 2 set code b f m (λ k p c. absurd (no-frame b k))
    (λ k p c. rw p (mathlib.Core.List.Memᴰ.append_left (numbered (suc sets + length codes) (flat_map block_codes f)) (member_of (suc sets) c)))
    (λ n. mathlib.Core.List.Memᴰ.append_right (of (suc sets) codes) (frame-numbered (suc sets + length codes) f set code n)))

numbered-frame : (sets : ℕ) (f : File) (set : ℕ) (code : List ℕ) → Memᴰ (set, code) (numbered sets (flat_map block_codes f))
    → Memᴰ (2, set, code) (file_sets sets f)
unfolding flat_map
numbered-frame sets [] set code m = absurd (mathlib.Core.List.Memᴰ.not-nil m)
numbered-frame sets (b ∷ f) set code m =
    let codes : List (List ℕ) = flat_map frame_codes b.members in
    mathlib.Core.List.Memᴰ.tail (⊎_elim
    (λ n. let k : (set ≡ suc sets) × Memᴰ code codes = of-member codes n in
    rw k.0 (mathlib.Core.List.Memᴰ.append_left (file_sets (suc sets + length codes) f) (mathlib.Core.List.Memᴰ.map (λ c. (2, suc sets, c)) k.1)))
    (λ n. mathlib.Core.List.Memᴰ.append_right (frames_of (suc sets) codes) (numbered-frame (suc sets + length codes) f set code n))
    (mathlib.Core.List.Memᴰ.append_cases (of (suc sets) codes) (rw (codes-numbered sets b f) at m)))

-- a frame's row with its parent and code is in the tree exactly when the parent holds a frame of that code
pub holds_frame : (f : File) (set : ℕ) (code : List ℕ) → Memᴰ (2, set, key code) (file_sets 0 f) ↔ HoldsFrame f set code
holds_frame f set code = (
  λ m. let k : InSet 0 (flat_map block_codes f) set (key code) = numbered-in 0 (flat_map block_codes f) set (key code) (frame-numbered 0 f set (key code) m) in
      record { low = omega (arith, k.low); high = omega (arith, k.high); holds = k.holds },
  λ h. let e : suc 0 + (set - 1) ≡ set = omega (arith, h.low) in
      numbered-frame 0 f set (key code) (rw e at (in-numbered 0 (flat_map block_codes f) (set - 1) (key code) h.holds)),
)

pub sets-count-codes : (sets : ℕ) (f : File) → length (file_sets sets f) ≡ length (flat_map block_codes f)
unfolding flat_map block_codes
sets-count-codes sets [] = refl
sets-count-codes sets (b ∷ f) =
    let ms : List Member = b.members in
    simp (length-append, length-map) (omega (arith, no-codes-count ms, sets-count-codes (suc sets + length (flat_map frame_codes ms)) f))

-- a data block's row is in the tree exactly when a data block has its code
pub block-code : (sets : ℕ) (f : File) (parent : ℕ) (code : List ℕ) → Memᴰ (1, parent, code) (file_sets sets f)
    → (parent ≡ 0) × Memᴰ code (flat_map block_code f)
unfolding flat_map
block-code sets [] parent code m = absurd (mathlib.Core.List.Memᴰ.not-nil m)
block-code sets (b ∷ f) parent code m =
    set_cases sets 1 parent code b f m (λ k p c. (p, mathlib.Core.List.Memᴰ.append_left (flat_map block_code f) ((coded b code).0 (k, c)))) (λ k p c. absurd (omega arith))
    (λ n. let k : (parent ≡ 0) × Memᴰ code (flat_map block_code f)
    = block-code (suc sets + length (flat_map frame_codes b.members)) f parent code n in (k.0, mathlib.Core.List.Memᴰ.append_right (block_code b) k.1))

pub code-block : (sets : ℕ) (f : File) (code : List ℕ) → Memᴰ code (flat_map block_code f) → Memᴰ (1, 0, code) (file_sets sets f)
unfolding flat_map
code-block sets [] code m = absurd (mathlib.Core.List.Memᴰ.not-nil m)
code-block sets (b ∷ f) code m =
    let codes : List (List ℕ) = flat_map frame_codes b.members in
    ⊎_elim
    (λ n. let h : (1 ≡ block_kind b) × (code ≡ key b.heading.content) = (coded b code).1 n in
    mathlib.Core.List.Memᴰ.head (λ i. (h.0 i, 0, h.1 i)))
    (λ n. mathlib.Core.List.Memᴰ.tail (mathlib.Core.List.Memᴰ.append_right (frames_of (suc sets) codes) (code-block (suc sets + length codes) f code n)))
    (mathlib.Core.List.Memᴰ.append_cases (block_code b) m)

-- the kinds of a tree's sets
frames-kinds : (block : ℕ) (ms : List Member) → map (λ x. x.0) (frames_of block (flat_map frame_codes ms)) ≡ flat_map frame_kinds ms
unfolding flat_map frame_codes frame_kinds
frames-kinds block [] = refl
frames-kinds block (own e ∷ ms) = frames-kinds block ms
frames-kinds block (framed f ∷ ms) = ap (λ ks. 2 ∷ ks) (frames-kinds block ms)

pub set-kinds : (sets : ℕ) (f : File) → map (λ x. x.0) (file_sets sets f) ≡ flat_map block_kinds f
unfolding flat_map block_kinds
set-kinds sets [] = refl
set-kinds sets (b ∷ f) =
    let codes : List (List ℕ) = flat_map frame_codes b.members in
    ap (λ ks. block_kind b ∷ ks)
    (map-append (λ x. x.0) (frames_of (suc sets) codes) (file_sets (suc sets + length codes) f)
    ∙ rw (frames-kinds (suc sets) b.members, set-kinds (suc sets + length codes) f))
