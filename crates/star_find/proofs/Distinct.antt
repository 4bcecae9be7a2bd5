-- No name stands twice in a set, in all of a tree: the names of a block or of a frame are distinct, and other sets have other numbers. So two rows of
-- one set with equal names are one row.
use mathlib.Core.Path.{◌≡◌, refl, sym, ◌∙◌, ap}
use mathlib.Core.List.{List, [], ◌∷◌, ◌++◌, map, flat_map, Memᴰ}
use mathlib.Core.Logic.{⊎_elim}
use Prim.Native.Nat.{ℕ, zero, suc, ◌+◌, ◌≤◌, ◌<◌}
use native.Mathlib.Nat.{add-zero}
use native.Mathlib.Numerals.{add-one}
use native.Mathlib.Omega.{arith}
use lib.ListN.{length, get_or, length-map, get_or-map}
use Rattle.star_text.specs.Names.{key}
use Rattle.star_lex.specs.Tokens.{Each, Placed}
use Rattle.star_grammar.specs.Tree.{Member, own, framed, File}
use Rattle.star_grammar.specs.Tables.{NameRow, Rows}
use Rattle.star_grammar.specs.Reading.{Distinct, entry_names, own_names, frame_codes, FrameDistinct, BlockDistinct, FileDistinct}
use Rattle.star_grammar.proofs.RowsOf.{of, name_in, members_names, file_names}
use Rattle.star_read.specs.Read.{tokens_only}
use Rattle.star_find.specs.Demands.{frame_names, block_names, content_of}
use Rattle.star_find.proofs.Answers.{place-member}
use Rattle.star_find.proofs.Numbered.{of-member, InSet, numbered-in, frames-count, members-numbered, names-numbered}
use Rattle.star_find.proofs.After.{content-in, RowsAfter}

-- no name with its set stands twice in the list
abbrev pub NamesDistinct : List (ℕ × List ℕ) → Type 0
NamesDistinct [] = Unit {0}
NamesDistinct (x ∷ xs) = (Memᴰ x xs → ⊥) × NamesDistinct xs

-- of two lists with no common name
names-append : (xs ys : List (ℕ × List ℕ)) → NamesDistinct xs → NamesDistinct ys → ((x : ℕ × List ℕ) → Memᴰ x xs → Memᴰ x ys → ⊥) → NamesDistinct (xs ++ ys)
names-append [] ys a b c = b
names-append (x ∷ xs) ys a b c = (
  λ m. ⊎_elim a.0 (c x (mathlib.Core.List.Memᴰ.head refl)) (mathlib.Core.List.Memᴰ.append_cases xs m),
  names-append xs ys a.1 b (λ y m. c y (mathlib.Core.List.Memᴰ.tail m)),
)

-- of one set
names_of : (set : ℕ) (names : List (List ℕ)) → Distinct names → NamesDistinct (of set names)
names_of set [] d = tt
names_of set (n ∷ names) d = (λ m. d.0 (of-member names m).1, names_of set names d.1)

-- distinct lists one after the other
distinct-left : (xs ys : List (List ℕ)) → Distinct (xs ++ ys) → Distinct xs
distinct-left [] ys d = tt
distinct-left (x ∷ xs) ys d = (λ m. d.0 (mathlib.Core.List.Memᴰ.append_left ys m), distinct-left xs ys d.1)

distinct-right : (xs ys : List (List ℕ)) → Distinct (xs ++ ys) → Distinct ys
distinct-right [] ys d = d
distinct-right (x ∷ xs) ys d = distinct-right xs ys d.1

distinct_apart : (xs ys : List (List ℕ)) → Distinct (xs ++ ys) → (x : List ℕ) → Memᴰ x xs → Memᴰ x ys → ⊥
distinct_apart [] ys d x m n = mathlib.Core.List.Memᴰ.not-nil m
distinct_apart (y ∷ xs) ys d x m n =
    ⊎_elim (λ e. d.0 (mathlib.Core.List.Memᴰ.append_right xs (mathlib.Core.List.Memᴰ.cast (sym e) n))) (λ k. distinct_apart xs ys d.1 x k n) (mathlib.Core.List.Memᴰ.cases_cons m)

-- a name of a block's members is its own, or one of a frame, whose number is after so many sets
members-cases {ℓ} : {P : Type ℓ} (block sets : ℕ) (ms : List Member) (s : ℕ) (n : List ℕ) → Memᴰ (s, n) (members_names block sets ms)
    → (s ≡ block → Memᴰ n (flat_map own_names ms) → P) → (sets < s → s ≤ sets + length (flat_map frame_codes ms) → P) → P
members-cases block sets ms s n m f g =
    ⊎_elim (λ k. let h : (s ≡ block) × Memᴰ n (flat_map own_names ms) = of-member (flat_map own_names ms) k in f h.0 h.1)
    (λ k. let h : InSet sets (flat_map frame_names ms) s n = numbered-in sets (flat_map frame_names ms) s n k in
    g h.low (omega (arith, h.high, frames-count ms)))
    (mathlib.Core.List.Memᴰ.append_cases (of block (flat_map own_names ms)) ((members-numbered block sets ms).forth (s, n) m))

-- the names of a block with its frames
members-distinct : (block sets : ℕ) (ms : List Member) → block ≤ sets → Distinct (flat_map own_names ms) → Each FrameDistinct ms
    → NamesDistinct (members_names block sets ms)
unfolding flat_map own_names frame_codes FrameDistinct
members-distinct block sets [] h d e = tt
members-distinct block sets (own x ∷ ms) h d e =
    rw (add-zero sets)
    (names-append (of block (entry_names x)) (members_names block sets ms) (names_of block (entry_names x) (distinct-left (entry_names x) (flat_map own_names ms) d))
    (members-distinct block sets ms h (distinct-right (entry_names x) (flat_map own_names ms) d) e.1)
    (λ y m n. let k : (y.0 ≡ block) × Memᴰ y.1 (entry_names x) = of-member (entry_names x) m in
    members-cases block sets ms y.0 y.1 n (λ q o. distinct_apart (entry_names x) (flat_map own_names ms) d y.1 k.1 o) (λ l u. omega (arith, k.0))))
members-distinct block sets (framed f ∷ ms) h d e =
    let names : List (List ℕ) = flat_map entry_names f.entries in
    rw (add-one sets)
    (names-append (of (suc sets) names) (members_names block (suc sets) ms) (names_of (suc sets) names e.0)
    (members-distinct block (suc sets) ms (omega arith) d e.1)
    (λ y m n. let k : (y.0 ≡ suc sets) × Memᴰ y.1 names = of-member names m in
    members-cases block (suc sets) ms y.0 y.1 n (λ q o. omega (arith, k.0)) (λ l u. omega (arith, k.0))))

-- the names of a tree
file-distinct : (sets : ℕ) (f : File) → Each BlockDistinct f → NamesDistinct (file_names sets f)
file-distinct sets [] e = tt
file-distinct sets (b ∷ f) e =
    let further : ℕ = suc sets + length (flat_map frame_codes b.members) in
    names-append (members_names (suc sets) (suc sets) b.members) (file_names further f)
    (members-distinct (suc sets) (suc sets) b.members (omega arith) e.0.names e.0.frames) (file-distinct further f e.1)
    (λ y m n. let k : InSet further (flat_map block_names f) y.0 y.1
    = numbered-in further (flat_map block_names f) y.0 y.1 ((names-numbered further f).forth y n) in
    members-cases (suc sets) (suc sets) b.members y.0 y.1 m (λ q o. omega (arith, k.low)) (λ l u. omega (arith, k.low)))

-- two places of one name are one
distinct-place : (xs : List (ℕ × List ℕ)) (d : ℕ × List ℕ) → NamesDistinct xs → (i j : ℕ) → i < length xs → j < length xs → get_or xs i d ≡ get_or xs j d → i ≡ j
distinct-place [] d k i j h l e = absurd (omega arith)
distinct-place (x ∷ xs) d k zero zero h l e = refl
distinct-place (x ∷ xs) d k zero (suc j) h l e = absurd (k.0 (mathlib.Core.List.Memᴰ.cast e (place-member xs j d (omega arith))))
distinct-place (x ∷ xs) d k (suc i) zero h l e = absurd (k.0 (mathlib.Core.List.Memᴰ.cast (sym e) (place-member xs i d (omega arith))))
distinct-place (x ∷ xs) d k (suc i) (suc j) h l e = ap suc (distinct-place xs d k.1 i j (omega arith) (omega arith) e)

-- rows of one set with equal names are one row
pub one-row : (ps : List Placed) (rows : Rows) (f : File) → FileDistinct f → RowsAfter ps rows f → (d : NameRow) (i j : ℕ) → i < length rows.names → j < length rows.names
    → (get_or rows.names i d).set ≡ (get_or rows.names j d).set
    → key (content_of ps (get_or rows.names i d).name) ≡ key (content_of ps (get_or rows.names j d).name) → i ≡ j
one-row ps rows f h k d i j a b s c =
    let make : NameRow → ℕ × List ℕ = name_in (tokens_only ps) in
    let x : NameRow = get_or rows.names i d in
    let y : NameRow = get_or rows.names j d in
    let t : (make x).1 ≡ (make y).1 = content-in ps x.name ∙ c ∙ sym (content-in ps y.name) in
    let n : length (map make rows.names) ≡ length rows.names = length-map rows.names make in
    distinct-place (map make rows.names) (make d) (rw k.names (file-distinct 0 f h.blocks)) i j (omega arith) (omega arith)
    (get_or-map make rows.names i d ∙ (λ l. (s l, t l)) ∙ sym (get_or-map make rows.names j d))
