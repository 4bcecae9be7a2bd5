-- Lookup after acceptance. The tables hold the reading's rows, so a search through a table answers the first row with the wanted bytes, and the
-- rows of names and sets are the tree's names and codes with their sets' numbers.
use mathlib.Core.Path.{◌≡◌, refl, sym, ◌∙◌, ap}
use mathlib.Core.Bool.{Bool, true, false, cond}
use mathlib.Core.List.{List, map, flat_map, Memᴰ}
use mathlib.Core.Logic.{◌⊎◌, inl, inr, ◌↔◌}
use Prim.Native.Nat.{ℕ, suc, ◌-◌, ◌≤◌, ◌<◌}
use native.Mathlib.Omega.{arith}
use lib.Dec.{eqb, leb}
use lib.ListN.{length, get_or, length-map, get_or-map}
use borrow.Author.Tests.{eqb-true, eqb-false, leb-true, leb-false}
use Rattle.star_text.specs.Outcome.{accepted}
use Rattle.star_rows.specs.Rows.{word_of, holding}
use Rattle.star_rows.proofs.Words.{word_held}
use Rattle.star_lex.proofs.Cases.{impossible}
use Rattle.star_text.specs.Names.{key}
use Rattle.star_lex.specs.Tokens.{Placed}
use Rattle.star_grammar.specs.Tree.{File}
use Rattle.star_grammar.specs.Tables.{SetRow, NameRow, Rows, set_words, name_words}
use Rattle.star_grammar.specs.Reading.{block_code}
use Rattle.star_grammar.proofs.Widths.{name-wide, set-wide}
use Rattle.star_grammar.proofs.RowsOf.{content_in, name_in, set_in, file_sets, IsToken}
use Rattle.star_lex.proofs.Each.{each_at}
use Rattle.star_read.specs.Read.{Sizes, tokens_only, Way, read_via}
use Rattle.star_find.specs.Find.{row_there, own_name, ask_globals, ask_on, find_name, find_block, find_frame, is_row, look, refused}
use Rattle.star_find.specs.Demands.{content_of, HoldsName, FirstName, block_kinds, IsKind, EarlierHolds, Reaches, NameOf, LookupByName, SetWith, LookupBlock, HoldsFrame, LookupFrame}
use Rattle.star_find.specs.declared.Found.{Found}
use Rattle.star_find.proofs.Seeking.{Sought, sought-alike, sought-either, FirstOf, asked, asked-first, asked-parent, look-sought}
use Rattle.star_find.proofs.Looking.{row-bounds}
use Rattle.star_find.proofs.Answers.{Answers, place-made, answers}
use Rattle.star_find.proofs.Asking.{or-first, or-second, NoneAfter, Asked, asked as globals-asked}
use Rattle.star_find.proofs.Numbered.{holds-name, sets-count, set-kinds, holds_frame, sets-count-codes, block-code, code-block}
use Rattle.star_find.proofs.After.{left, counted, lent-left, counts-counted, counts-fit, row_inside, content-in, token-content, RowsAfter, rows-after}

-- no row, which stands where there is none
abbrev no_name : NameRow
no_name = record { set = 0; name = 0; loop = 0; level = 0 }

abbrev no_set : SetRow
no_set = record { kind = 0; heading = 0; parent = 0 }

-- a row of a set with a name, and a row of a set with a code
abbrev HasName : (ps : List Placed) (set : ℕ) (name : List ℕ) → NameRow → Type 0
HasName ps set name x = (x.set ≡ set) × (key (content_of ps x.name) ≡ key name)

abbrev HasCode : (ps : List Placed) (kind parent : ℕ) (code : List ℕ) → SetRow → Type 0
HasCode ps kind parent code x = (x.kind ≡ kind) × (x.parent ≡ parent) × (key (content_of ps x.heading) ≡ key code)

has-name : (ps : List Placed) (set : ℕ) (name : List ℕ) (x : NameRow) → HasName ps set name x ↔ (name_in (tokens_only ps) x ≡ (set, key name))
has-name ps set name x = (
  λ p. let c : content_in (tokens_only ps) x.name ≡ key name = content-in ps x.name ∙ p.1 in λ j. (p.0 j, c j),
  λ q. (ap (λ y. y.0) q, sym (content-in ps x.name) ∙ ap (λ y. y.1) q),
)

has_code : (ps : List Placed) (kind parent : ℕ) (code : List ℕ) (x : SetRow)
    → HasCode ps kind parent code x ↔ (set_in (tokens_only ps) x ≡ (kind, parent, key code))
has_code ps kind parent code x = (
  λ p. let c : content_in (tokens_only ps) x.heading ≡ key code = content-in ps x.heading ∙ p.2 in λ j. (p.0 j, p.1 j, c j),
  λ q. (ap (λ y. y.0) q, ap (λ y. y.1) q, sym (content-in ps x.heading) ∙ ap (λ y. y.2) q),
)

-- the first row that has a name, as it is demanded
first-name : (ps : List Placed) (rows : Rows) (set : ℕ) (name : List ℕ) (row : ℕ)
    → FirstOf (λ i. HasName ps set name (get_or rows.names i no_name)) (length rows.names) row → FirstName ps rows set name row
first-name ps rows set name row p =
    let s : (i : ℕ) → get_or (map (λ r. r.set) rows.names) i 0 ≡ (get_or rows.names i no_name).set = λ i. get_or-map (λ r. r.set) rows.names i no_name in
    let t : (i : ℕ) → key (content_of ps (get_or (map (λ r. r.name) rows.names) i 0)) ≡ key (content_of ps (get_or rows.names i no_name).name)
    = λ i. ap (λ n. key (content_of ps n)) (get_or-map (λ r. r.name) rows.names i no_name) in
    record {
      low = p.low;
      high = p.high;
      of_set = s (row - 1) ∙ p.is.0;
      equal = t (row - 1) ∙ p.is.1;
      first = λ i l b q c. p.before i l b (sym (s (i - 1)) ∙ q, sym (t (i - 1)) ∙ c);
    }

set-with : (ps : List Placed) (rows : Rows) (kind parent : ℕ) (code : List ℕ) (row : ℕ)
    → FirstOf (λ i. HasCode ps kind parent code (get_or rows.sets i no_set)) (length rows.sets) row → SetWith ps rows kind parent code row
set-with ps rows kind parent code row p = record {
  low = p.low;
  high = p.high;
  of_kind = get_or-map (λ r. r.kind) rows.sets (row - 1) no_set ∙ p.is.0;
  of_parent = get_or-map (λ r. r.parent) rows.sets (row - 1) no_set ∙ p.is.1;
  equal = ap (λ n. key (content_of ps n)) (get_or-map (λ r. r.heading) rows.sets (row - 1) no_set) ∙ p.is.2;
}

-- the searches through the rows of names and of sets
looked-names : (file : List ℕ) (words : Sizes) (ps : List Placed) (rows : Rows) (name : List ℕ) (set : ℕ) → Found
looked-names file words ps rows name set =
    look (left file words ps rows) (counted ps rows) (holding name_words rows.names words.names) 4 set false 0 name (length rows.names)

looked-sets : (file : List ℕ) (words : Sizes) (ps : List Placed) (rows : Rows) (kind : ℕ) (by_parent : Bool) (parent : ℕ) (code : List ℕ) → Found
looked-sets file words ps rows kind by_parent parent code =
    look (left file words ps rows) (counted ps rows) (holding set_words rows.sets words.sets) 3 kind by_parent parent code (length rows.sets)

-- a lookup is its search, after the check of a set's number
module _ (file : List ℕ) (words : Sizes) (ps : List Placed) (rows : Rows) where
  find-name : (set : ℕ) (name : List ℕ)
      → find_name (left file words ps rows) (counted ps rows) set name
      ≡ cond (is_row (length rows.sets) set) (ask_on (holding set_words rows.sets words.sets) (looked-names file words ps rows name) set) (refused 14)
  unfolding find_name own_name row_there left counted looked-names
  find-name set name = rw (counts-fit file words ps rows)

  find-block : (code : List ℕ) → find_block (left file words ps rows) (counted ps rows) code ≡ looked-sets file words ps rows 1 false 0 code
  unfolding find_block left counted looked-sets
  find-block code = rw (counts-fit file words ps rows)

  find-frame : (set : ℕ) (code : List ℕ)
      → find_frame (left file words ps rows) (counted ps rows) set code ≡ cond (is_row (length rows.sets) set) (looked-sets file words ps rows 2 true set code) (refused 14)
  unfolding find_frame row_there left counted looked-sets
  find-frame set code = rw (counts-fit file words ps rows)

-- the rows that each search answers, and what they are in the tree
module _ (way : Way) (file : List ℕ) (words : Sizes) (ps : List Placed) (rows : Rows) (e : read_via way file words ≡ accepted (ps, rows)) (f : File) (k : RowsAfter ps rows f) where
  names-sought : (set : ℕ) (name : List ℕ)
      → Sought (λ i. HasName ps set name (get_or rows.names i no_name)) (length rows.names) (looked-names file words ps rows name set)
  unfolding looked-names left counted name_words
  names-sought set name =
      sought-alike (λ i h. let a : (asked set false 0 (name_words (get_or rows.names i no_name)) ≡ true) ↔ ((get_or rows.names i no_name).set ≡ set)
      = asked-first set 0 (name_words (get_or rows.names i no_name)) in (λ p. (a.0 p.0, p.1), λ q. (a.1 q.0, q.1)))
      (look-sought 4 name_words name-wide no_name rows.names words.names (left file words ps rows) (counted ps rows) set false 0 name (content_of ps) (omega arith)
      (λ i h. token-content way file words ps rows e (get_or rows.names i no_name).name
      (each_at (λ x. IsToken (length ps) x.name) rows.names i no_name h k.inside.name-tokens)))

  sets-sought : (kind : ℕ) (by_parent : Bool) (parent : ℕ) (code : List ℕ)
      → Sought (λ i. (asked kind by_parent parent (set_words (get_or rows.sets i no_set)) ≡ true) × (key (content_of ps (get_or rows.sets i no_set).heading) ≡ key code))
      (length rows.sets) (looked-sets file words ps rows kind by_parent parent code)
  unfolding looked-sets left counted set_words
  sets-sought kind by_parent parent code =
      look-sought 3 set_words set-wide no_set rows.sets words.sets (left file words ps rows) (counted ps rows) kind by_parent parent code (content_of ps) (omega arith)
      (λ i h. token-content way file words ps rows e (get_or rows.sets i no_set).heading
      (each_at (λ x. IsToken (length ps) x.heading) rows.sets i no_set h k.inside.headings))

  frames-sought : (set : ℕ) (code : List ℕ)
      → Sought (λ i. HasCode ps 2 set code (get_or rows.sets i no_set)) (length rows.sets) (looked-sets file words ps rows 2 true set code)
  unfolding set_words
  frames-sought set code =
      sought-alike (λ i h. let x : SetRow = get_or rows.sets i no_set in
      let a : (asked 2 true set (set_words x) ≡ true) ↔ ((x.kind ≡ 2) × (x.parent ≡ set)) = asked-parent 2 set (set_words x) in
      (λ p. ((a.0 p.0).0, (a.0 p.0).1, p.1), λ q. (a.1 (q.0, q.1), q.2)))
      (sets-sought 2 true set code)

  -- a row of kind 1 is a block's, so it has no parent
  no-parent : (i : ℕ) → i < length rows.sets → (get_or rows.sets i no_set).kind ≡ 1 → (get_or rows.sets i no_set).parent ≡ 0
  no-parent i h q =
      let x : SetRow = get_or rows.sets i no_set in
      let c : List ℕ = content_in (tokens_only ps) x.heading in
      (block-code 0 f x.parent c (rw k.sets at
      (place-made (set_in (tokens_only ps)) rows.sets i no_set (1, x.parent, c) h (λ j. (q j, x.parent, c))))).0

  blocks-sought : (code : List ℕ) → Sought (λ i. HasCode ps 1 0 code (get_or rows.sets i no_set)) (length rows.sets) (looked-sets file words ps rows 1 false 0 code)
  unfolding set_words
  blocks-sought code =
      sought-alike (λ i h. let x : SetRow = get_or rows.sets i no_set in
      let a : (asked 1 false 0 (set_words x) ≡ true) ↔ (x.kind ≡ 1) = asked-first 1 0 (set_words x) in
      (λ p. (a.0 p.0, no-parent i h (a.0 p.0), p.1), λ q. (a.1 q.0, q.2)))
      (sets-sought 1 false 0 code)

  -- sets are counted by their rows
  sets-are : length rows.sets ≡ length (file_sets 0 f)
  sets-are = sym (length-map rows.sets (set_in (tokens_only ps))) ∙ ap length k.sets

  -- the kind word of a set's row is the kind of the set
  set-kind : (set : ℕ) → 1 ≤ set → set ≤ length rows.sets
      → word_of (holding set_words rows.sets words.sets) 3 set 0 ≡ get_or (flat_map block_kinds f) (set - 1) 0
  unfolding set_words
  set-kind set low high =
      let i : ℕ = set - 1 in
      let first : ℕ × ℕ × List ℕ → ℕ = λ x. x.0 in
      ap (λ n. word_of (holding set_words rows.sets words.sets) 3 n 0) (let q : set ≡ suc (set - 1) = omega arith in q)
      ∙ word_held 3 set_words set-wide no_set rows.sets words.sets i 0 (omega arith) (omega arith)
      ∙ sym (ap first (get_or-map (set_in (tokens_only ps)) rows.sets i no_set))
      ∙ sym (get_or-map first (map (set_in (tokens_only ps)) rows.sets) i (set_in (tokens_only ps) no_set))
      ∙ ap (λ xs. get_or (map first xs) i 0) k.sets
      ∙ ap (λ ks. get_or ks i 0) (set-kinds 0 f)

  kinds-count : length (flat_map block_kinds f) ≡ length rows.sets
  kinds-count = sym (ap length (set-kinds 0 f)) ∙ length-map (file_sets 0 f) (λ x. x.0) ∙ sym sets-are

  own-answers : (name : List ℕ) (set : ℕ)
      → Answers (HoldsName f set name) (λ i. HasName ps set name (get_or rows.names i no_name)) (length rows.names) (looked-names file words ps rows name set)
  own-answers name set =
      answers (name_in (tokens_only ps)) (set, key name) (HasName ps set name) (has-name ps set name) rows.names no_name true
      (looked-names file words ps rows name set) (names-sought set name) (HoldsName f set name) (λ m. (holds-name f set name).0 (rw k.names at m))
      (λ h. (refl, rw k.names ((holds-name f set name).1 h)))

  -- what a lookup by name answers: the search through the names of the set whose name it is, or a refusal where the name is not in reach
  data Named (set : ℕ) (name : List ℕ) : Found → Type 0 where
    at : (of : ℕ) → NameOf f set name of → (looked-names file words ps rows name of).refusal ≡ 0 → Named set name (looked-names file words ps rows name of)
    nowhere : (n : ℕ) → 0 < n → (Reaches f set name → ⊥) → Named set name (refused n)

  module _ (set : ℕ) (name : List ℕ) where
    abbrev table : List ℕ
    table = holding set_words rows.sets words.sets

    abbrev ask : ℕ → Found
    ask = looked-names file words ps rows name

    -- the set is a row, and does not hold the name
    module _ (low : 1 ≤ set) (high : set ≤ length rows.sets) (not_own : HoldsName f set name → ⊥) where
      from-globals : IsKind f 1 set → Asked table ask (λ s. HoldsName f s name) (set - 1) → Named set name (ask_globals table ask (set - 1))
      from-globals block (Asked.at g l h kind holds none e) =
          let is_global : IsKind f 3 g = record { low = l; high = omega (arith, kinds-count); is = sym (set-kind g l (omega arith)) ∙ kind } in
          rw e (Named.at g
          (NameOf.nearest not_own block g (record { earlier = omega arith; is_global = is_global; holds = holds }) (nearer g none)) ((own-answers name g).0.1 holds))
        where
          nearer : (g : ℕ) → NoneAfter table (λ s. HoldsName f s name) g (set - 1) → (other : ℕ) → EarlierHolds f set name other → other ≤ g
          nearer g none other o = go (leb other g) refl
            where
              go : (t : Bool) → leb other g ≡ t → other ≤ g
              go true q = leb-true other g q
              go false q =
                  absurd (none other (leb-false other g q) (omega (arith, o.earlier))
                  (set-kind other o.is_global.low (omega (arith, o.earlier)) ∙ o.is_global.is) o.holds)
      from-globals block (Asked.nowhere none e) = rw e (Named.nowhere 13 (omega arith) never)
        where
          never : Reaches f set name → ⊥
          never (Reaches.itself h) = not_own h
          never (Reaches.earlier b g o) =
              none g (omega (arith, o.is_global.low)) (omega (arith, o.earlier))
              (set-kind g o.is_global.low (omega (arith, o.earlier)) ∙ o.is_global.is) o.holds

      from-outside : (t : Bool) → eqb (word_of table 3 set 0) 1 ≡ t → Named set name (cond t (ask_globals table ask (set - 1)) (refused 13))
      from-outside true q =
          from-globals (record { low = low; high = omega (arith, kinds-count); is = sym (set-kind set low high) ∙ eqb-true _ _ q })
          (globals-asked table ask (λ s. HoldsName f s name) (λ s. sought-either (names-sought s name)) (λ s. (own-answers name s).0.0) (λ s. (own-answers name s).0.1) (set - 1))
      from-outside false q = Named.nowhere 13 (omega arith) never
        where
          never : Reaches f set name → ⊥
          never (Reaches.itself h) = not_own h
          never (Reaches.earlier b g o) = eqb-false _ _ q (set-kind set low high ∙ b.is)

    named-row : 1 ≤ set → set ≤ length rows.sets → ((ask set).refusal ≡ 0) ⊎ (ask set ≡ refused 13) → Named set name (ask_on table ask set)
    unfolding ask_on refused
    named-row low high (inl e) =
        rw (or-first (ask set) (cond (eqb (word_of table 3 set 0) 1) (ask_globals table ask (set - 1)) (refused 13)) (λ q. omega (arith, e)))
        (Named.at set (NameOf.itself ((own-answers name set).0.0 e)) e)
    named-row low high (inr e) =
        let r : (ask set).refusal ≡ 13 = ap (λ o. o.refusal) e in
        rw (or-second (ask set) (cond (eqb (word_of table 3 set 0) 1) (ask_globals table ask (set - 1)) (refused 13)) r)
        (from-outside low high (λ h. let z : ◌≡◌ {A = ℕ} 13 0 = sym r ∙ (own-answers name set).0.1 h in omega arith) (eqb (word_of table 3 set 0) 1) refl)

    named-check : (t : Bool) → is_row (length rows.sets) set ≡ t → Named set name (cond t (ask_on table ask set) (refused 14))
    named-check true q =
        let b : (1 ≤ set) × (set ≤ length rows.sets) = row-bounds (length rows.sets) set q in
        named-row b.0 b.1 (sought-either (names-sought set name))
    named-check false q = Named.nowhere 14 (omega arith) never
      where
        outside : 1 ≤ set → set ≤ length rows.sets → ⊥
        outside low high = impossible (cc (row_inside (length rows.sets) set low high))

        never : Reaches f set name → ⊥
        never (Reaches.itself h) = outside h.low (omega (arith, h.high, sets-are, sets-count 0 f))
        never (Reaches.earlier b g o) = outside b.low (omega (arith, b.high, kinds-count))

    named : Named set name (find_name (left file words ps rows) (counted ps rows) set name)
    named = rw (find-name file words ps rows set name) (named-check (is_row (length rows.sets) set) refl)

    of-reaches : {of : ℕ} → NameOf f set name of → Reaches f set name
    of-reaches (NameOf.itself h) = Reaches.itself h
    of-reaches (NameOf.nearest n b g o m) = Reaches.earlier b g o

    name-answers : {o : Found} → Named set name o
        → ((o.refusal ≡ 0) ↔ Reaches f set name) × (o.refusal ≡ 0 → (of : ℕ) × NameOf f set name of × FirstName ps rows of name o.row)
    unfolding refused
    name-answers (Named.at of n e) = ((λ h. of-reaches n, λ h. e), λ h. (of, n, first-name ps rows of name _ ((own-answers name of).1 e)))
    name-answers (Named.nowhere n l f) = ((λ h. absurd (omega arith), λ h. absurd (f h)), λ h. absurd (omega arith))

  block-answers : (code : List ℕ)
      → Answers (Memᴰ (key code) (flat_map block_code f)) (λ i. HasCode ps 1 0 code (get_or rows.sets i no_set)) (length rows.sets)
      (find_block (left file words ps rows) (counted ps rows) code)
  block-answers code =
      rw (find-block file words ps rows code)
      (answers (set_in (tokens_only ps)) (1, 0, key code) (HasCode ps 1 0 code) (has_code ps 1 0 code) rows.sets no_set true
      (looked-sets file words ps rows 1 false 0 code) (blocks-sought code) (Memᴰ (key code) (flat_map block_code f)) (λ m. (block-code 0 f 0 (key code) (rw k.sets at m)).1)
      (λ h. (refl, rw k.sets (code-block 0 f (key code) h))))

  frame-answers : (set : ℕ) (code : List ℕ)
      → Answers (HoldsFrame f set code) (λ i. HasCode ps 2 set code (get_or rows.sets i no_set)) (length rows.sets)
      (find_frame (left file words ps rows) (counted ps rows) set code)
  frame-answers set code =
      rw (find-frame file words ps rows set code)
      (answers (set_in (tokens_only ps)) (2, set, key code) (HasCode ps 2 set code) (has_code ps 2 set code) rows.sets no_set (is_row (length rows.sets) set)
      (looked-sets file words ps rows 2 true set code) (frames-sought set code) (HoldsFrame f set code) (λ m. (holds_frame f set code).0 (rw k.sets at m))
      (λ h. (row_inside (length rows.sets) set h.low (omega (arith, h.high, sets-are, sets-count-codes 0 f)), rw k.sets ((holds_frame f set code).1 h))))

-- demand 3, fifth sentence
pub lookup-by-name : LookupByName
lookup-by-name way file words ps rows e r set name =
    let k : RowsAfter ps rows r.tree = rows-after way file words ps rows e r in
    rw (lent-left way file words ps rows e, counts-counted way file words ps rows e)
    (name-answers way file words ps rows e r.tree k set name (named way file words ps rows e r.tree k set name))

pub lookup-block : LookupBlock
lookup-block way file words ps rows e r code =
    let a : Answers (Memᴰ (key code) (flat_map block_code r.tree)) (λ i. HasCode ps 1 0 code (get_or rows.sets i no_set)) (length rows.sets)
    (find_block (left file words ps rows) (counted ps rows) code)
    = block-answers way file words ps rows e r.tree (rows-after way file words ps rows e r) code in
    rw (lent-left way file words ps rows e, counts-counted way file words ps rows e) (a.0, λ h. set-with ps rows 1 0 code _ (a.1 h))

pub lookup-frame : LookupFrame
lookup-frame way file words ps rows e r set code =
    let a : Answers (HoldsFrame r.tree set code) (λ i. HasCode ps 2 set code (get_or rows.sets i no_set)) (length rows.sets)
    (find_frame (left file words ps rows) (counted ps rows) set code)
    = frame-answers way file words ps rows e r.tree (rows-after way file words ps rows e r) set code in
    rw (lent-left way file words ps rows e, counts-counted way file words ps rows e) (a.0, λ h. set-with ps rows 2 set code _ (a.1 h))
