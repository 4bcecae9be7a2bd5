-- Laws of lookup for its code: a row number's bounds, what one row decides, and where the content of a token row lies.
use mathlib.Core.Path.{◌≡◌, refl, sym, ◌∙◌, ap}
use mathlib.Core.Bool.{Bool, true, false, cond, and-eq-true_iff}
use mathlib.Core.List.{List}
use mathlib.Core.Option.{Option, none, some}
use Prim.Native.Nat.{ℕ, suc, ◌+◌, ◌-◌, ◌*◌, ◌≤◌, ◌<◌}
use native.Mathlib.Numerals.{add-one}
use native.Mathlib.Omega.{arith}
use borrow.Author.Tests.{leb-true}
use lib.Dec.{leb}
use Rattle.std.proofs.Common.{Ok, Err}
use lib.ListN.{length, get_or, take, drop}
use Rattle.star_rows.specs.Rows.{word_of}
use Rattle.star_rows.proofs.Words.{word_row}
use Rattle.star_lex.specs.Answer.{is_some}
use Rattle.star_lex.specs.Table.{content_in}
use Rattle.star_lex.proofs.Cases.{impossible}
use Rattle.star_lex.proofs.Table.{Spans, content-inside, content-whole}
use Rattle.star_text.specs.Names.{same}
use Rattle.star_find.specs.Find.{Match, is_row, content_at, match_of, meet, seek, found, refused}
use Rattle.star_find.specs.Lending.{number, compared}
use Rattle.star_find.specs.declared.Found.{Found}
use Rattle.star_find.specs.declared.Missing.{Missing}
use Rattle.star_find.specs.declared.Missing.TheVariants.{NotFound, Outside}

pub row-bounds : (count row : ℕ) → is_row count row ≡ true → (1 ≤ row) × (row ≤ count)
unfolding is_row
row-bounds count row e =
    let (a, b) = (and-eq-true_iff (leb 1 row) (leb row count)).0 e in
    (leb-true 1 row a, leb-true row count b)

-- what one row decides
abbrev pub decided : Match → (row : ℕ) → Found → Found
decided Match.Outside row others = refused 14
decided Match.Equal row others = found row
decided Match.Other row others = others

pub meet-decides : (wanted : List ℕ) (row : ℕ) (o : Option (List ℕ)) (others : Found) → meet wanted row o others ≡ decided (match_of wanted o) row others
unfolding meet match_of
meet-decides wanted row none others = refl
meet-decides wanted row (some c) others = go (same c wanted)
  where
    go : (t : Bool) → cond t (found row) others ≡ decided (cond t Match.Equal Match.Other) row others
    go true = refl
    go false = refl

seek-row : (is_one : ℕ → Bool) (content : ℕ → Option (List ℕ)) (wanted : List ℕ) (left row : ℕ)
    → seek is_one content wanted (suc left) row
    ≡ decided (cond (is_one row) (match_of wanted (content row)) Match.Other) row (seek is_one content wanted left (suc row))
unfolding seek
seek-row is_one content wanted left row = go (is_one row)
  where
    rest : Found
    rest = seek is_one content wanted left (suc row)

    go : (t : Bool) → cond t (meet wanted row (content row) rest) rest ≡ decided (cond t (match_of wanted (content row)) Match.Other) row rest
    go true = meet-decides wanted row (content row) rest
    go false = refl

seek-at : (is_one : ℕ → Bool) (content : ℕ → Option (List ℕ)) (wanted : List ℕ) (rows row : ℕ) → row ≤ rows
    → seek is_one content wanted (rows + 1 - row) row
    ≡ decided (cond (is_one row) (match_of wanted (content row)) Match.Other) row (seek is_one content wanted (rows + 1 - (row + 1)) (row + 1))
seek-at is_one content wanted rows row h =
    ap (λ n. seek is_one content wanted n row) (let e : rows + 1 - row ≡ suc (rows + 1 - (row + 1)) = omega arith in e)
    ∙ seek-row is_one content wanted (rows + 1 - (row + 1)) row
    ∙ ap (λ n. decided (cond (is_one row) (match_of wanted (content row)) Match.Other) row (seek is_one content wanted (rows + 1 - (row + 1)) n))
    (sym (add-one row))

-- the row that was compared decides
pub seek-by : (is_one : ℕ → Bool) (content : ℕ → Option (List ℕ)) (wanted : List ℕ) (rows row : ℕ) {m : Match} → row ≤ rows
    → cond (is_one row) (match_of wanted (content row)) Match.Other ≡ m
    → seek is_one content wanted (rows + 1 - row) row ≡ decided m row (seek is_one content wanted (rows + 1 - (row + 1)) (row + 1))
seek-by is_one content wanted rows row h e =
    seek-at is_one content wanted rows row h ∙ ap (λ d. decided d row (seek is_one content wanted (rows + 1 - (row + 1)) (row + 1))) e

pub seek-over : (is_one : ℕ → Bool) (content : ℕ → Option (List ℕ)) (wanted : List ℕ) (rows row : ℕ) → rows < row
    → seek is_one content wanted (rows + 1 - row) row ≡ refused 13
unfolding seek
seek-over is_one content wanted rows row h = ap (λ n. seek is_one content wanted n row) (let e : rows + 1 - row ≡ 0 = omega arith in e)

-- what a comparison answers says how the content compares
pub compared-same : (t : Bool) → Ok t ≡ compared (cond t Match.Equal Match.Other)
compared-same true = refl
compared-same false = refl

pub compared-outside : (m : Match) {missing : Missing} → Err missing ≡ compared m → (m ≡ Match.Outside) × (missing ≡ Outside)
compared-outside Match.Outside e = (refl, cc e)
compared-outside Match.Equal e = impossible cc
compared-outside Match.Other e = impossible cc

pub compared-equal : (m : Match) → Ok true ≡ compared m → m ≡ Match.Equal
compared-equal Match.Outside e = impossible cc
compared-equal Match.Equal e = refl
compared-equal Match.Other e = impossible cc

pub compared-other : (m : Match) → Ok false ≡ compared m → m ≡ Match.Other
compared-other Match.Outside e = impossible cc
compared-other Match.Equal e = impossible cc
compared-other Match.Other e = refl

-- a refusal is no number 0
pub number-not-0 : (m : Missing) → number m ≡ 0 → ⊥
number-not-0 NotFound e = let z : ◌≡◌ {A = ℕ} 13 0 = e in omega arith
number-not-0 Outside e = let z : ◌≡◌ {A = ℕ} 14 0 = e in omega arith

pub is_none : (o : Option (List ℕ)) → is_some o ≡ false → o ≡ none
unfolding is_some
is_none none e = refl
is_none (some c) e = impossible cc

-- a token row whose content lies within the file
pub record Inside (file tokens : List ℕ) (count row : ℕ) : Type 0 where
  pub ordered : word_of tokens 3 row 1 ≤ word_of tokens 3 row 2
  pub within : word_of tokens 3 row 2 ≤ length file
  pub content-is : content_at file tokens count row
      ≡ some (take (word_of tokens 3 row 2 - word_of tokens 3 row 1) (drop (word_of tokens 3 row 1) file))

pub part-inside : (file tokens : List ℕ) (count row : ℕ) → is_some (content_at file tokens count row) ≡ true → Inside file tokens count row
unfolding content_at is_some
part-inside file tokens count row e = by_row (is_row count row) refl
  where
    by_row : (t : Bool) → is_row count row ≡ t → Inside file tokens count row
    by_row true q =
        let low : 1 ≤ row = (row-bounds count row q).0 in
        let h : is_some (content_in file tokens (row - 1)) ≡ true = rw q at e in
        let p : Spans file tokens (row - 1) = content-inside file tokens (row - 1) h in
        let a : word_of tokens 3 row 1 ≡ get_or tokens ((row - 1) * 3 + 1) 0 = word_row tokens 3 row 1 low in
        let b : word_of tokens 3 row 2 ≡ get_or tokens ((row - 1) * 3 + 2) 0 = word_row tokens 3 row 2 low in
        record {
          ordered = rw (a, b) p.ordered;
          within = rw b p.within;
          content-is = rw (q, a, b) (content-whole file tokens (row - 1) h);
        }
    by_row false q = impossible (let z : false ≡ true = rw q at e in cc)
