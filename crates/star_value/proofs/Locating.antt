-- Laws of value lookup for its code: what one row or link decides, and what locating a value answers.
use mathlib.Core.Path.{◌≡◌, refl, ◌∙◌, ap}
use mathlib.Core.Bool.{Bool, true, false, cond}
use mathlib.Core.List.{List}
use Prim.Native.Nat.{ℕ, zero, suc, ◌+◌, ◌-◌, ◌≤◌, ◌<◌}
use native.Mathlib.Numerals.{add-one}
use native.Mathlib.Omega.{arith}
use borrow.Author.Tests.{eqb-true, eqb-false, eq-eqb, ne_eqb}
use Rattle.star_lex.proofs.Cases.{impossible}
use Rattle.star_find.specs.Lending.{number, found_of}
use Rattle.star_find.specs.declared.Missing.{Missing}
use Rattle.star_find.specs.declared.Missing.TheVariants.{NotFound, Outside}
use lib.Dec.{eqb}
use Rattle.star_rows.specs.Rows.{word_of}
use Rattle.star_lex.specs.Answer.{is_some}
use Rattle.star_find.specs.Find.{Lent, is_row, content_at, found, refused, row_there}
use Rattle.star_rows.specs.declared.Counts.{Counts}
use Rattle.star_find.specs.declared.Found.{Found}
use Rattle.star_value.specs.Answers.{first_of, valued_of}
use Rattle.std.proofs.Common.{Some, None, Err}
use Rattle.star_value.specs.Values.{Located, first_value, is_link, follow, value_row, missing, located, locate, value_of}

-- what one row decides of the first value row of a name row
module _ (values : List ℕ) (name rows row : ℕ) where
  first-row : row ≤ rows → first_value values name (rows + 1 - row) row ≡ first_value values name (suc (rows + 1 - (row + 1))) row
  first-row h = ap (λ n. first_value values name n row) (let e : rows + 1 - row ≡ suc (rows + 1 - (row + 1)) = omega arith in e)

  pub first-here : row ≤ rows → word_of values 4 row 0 ≡ name → first_value values name (rows + 1 - row) row ≡ row
  unfolding first_value
  first-here h e = first-row h ∙ (rw (eq-eqb (word_of values 4 row 0) name e))

  pub first-later : row ≤ rows → (word_of values 4 row 0 ≡ name → ⊥)
      → first_value values name (rows + 1 - row) row ≡ first_value values name (rows + 1 - (row + 1)) (row + 1)
  unfolding first_value
  first-later h e = first-row h ∙ (rw (ne_eqb (word_of values 4 row 0) name e, add-one row))

  pub first-over : rows < row → first_value values name (rows + 1 - row) row ≡ 0
  unfolding first_value
  first-over h = ap (λ n. first_value values name n row) (let e : rows + 1 - row ≡ 0 = omega arith in e)

  -- a row is none where it is 0
  pub first-some : 1 ≤ row → first_of row ≡ Some row
  first-some h = rw (ne_eqb row 0 (λ e. omega (arith, e)))

-- what one link decides, where there are links left, and the row where there are none
module _ (values : List ℕ) (count name : ℕ) where
  pub follow-done : (left row : ℕ) → left ≡ 0 → follow values count name left row ≡ found row
  unfolding follow
  follow-done left row e = rw e

  pub follow-end : (left row next : ℕ) → 0 < left → next ≡ word_of values 4 row 3 → next ≡ 0 → follow values count name left row ≡ refused 13
  unfolding follow
  follow-end zero row next h e z = absurd (omega arith)
  follow-end (suc left) row next h e z = rw (← e, z)

  pub follow-outside : (left row next : ℕ) → 0 < left → next ≡ word_of values 4 row 3 → (next ≡ 0 → ⊥) → is_link values count name row next ≡ false
      → follow values count name left row ≡ refused 14
  unfolding follow
  follow-outside zero row next h e z o = absurd (omega arith)
  follow-outside (suc left) row next h e z o = rw (← e, ne_eqb next 0 z, o)

  pub follow-link : (left row next : ℕ) → 0 < left → next ≡ word_of values 4 row 3 → (next ≡ 0 → ⊥) → is_link values count name row next ≡ true
      → follow values count name left row ≡ follow values count name (left - 1) next
  unfolding follow
  follow-link zero row next h e z o = absurd (omega arith)
  follow-link (suc left) row next h e z o =
      (rw (← e, ne_eqb next 0 z, o)) ∙ ap (λ n. follow values count name n next) (let m : left ≡ suc left - 1 = omega arith in m)

  -- the k-th value row: none for k = 0 or where the name row has none, else by the links from the first
  pub value-zero : (k : ℕ) → k ≡ 0 → value_row values count name k ≡ refused 13
  unfolding value_row
  value-zero k e = rw e

  pub value-first : (k : ℕ) → 0 < k
      → value_row values count name k
      ≡ cond (eqb (first_value values name count 1) 0) (refused 13) (follow values count name (k - 1) (first_value values name count 1))
  unfolding value_row
  value-first zero h = absurd (omega arith)
  value-first (suc links) h =
      ap (λ n. cond (eqb (first_value values name count 1) 0) (refused 13) (follow values count name n (first_value values name count 1)))
      (let m : links ≡ suc links - 1 = omega arith in m)

-- what following answers: a row, or a refusal
data Followed : Found → Type 0 where
  at : (row : ℕ) → Followed (found row)
  nowhere : Followed (refused 13)
  outside : Followed (refused 14)

followed-cond : {a b : Found} (t : Bool) → Followed a → Followed b → Followed (cond t a b)
followed-cond true p q = p
followed-cond false p q = q

follow-answers : (values : List ℕ) (count name links row : ℕ) → Followed (follow values count name links row)
unfolding follow
follow-answers values count name zero row = Followed.at row
follow-answers values count name (suc links) row =
    followed-cond (eqb (word_of values 4 row 3) 0) Followed.nowhere
    (followed-cond (is_link values count name row (word_of values 4 row 3)) (follow-answers values count name links (word_of values 4 row 3)) Followed.outside)

value-answers : (values : List ℕ) (count name k : ℕ) → Followed (value_row values count name k)
unfolding value_row
value-answers values count name zero = Followed.nowhere
value-answers values count name (suc links) =
    followed-cond (eqb (first_value values name count 1) 0) Followed.nowhere (follow-answers values count name links (first_value values name count 1))

-- what locating answers: a token row with a content, or a refusal
pub data Locates (l : Lent) (c : Counts) : Located → Type 0 where
  at : (packet token : ℕ) → is_some (content_at l.file l.tokens c.tokens token) ≡ true
      → Locates l c (record { refusal = 0; packet = packet; token = token })
  nowhere : Locates l c (missing 13)
  outside : Locates l c (missing 14)

locates-cond : {l : Lent} {c : Counts} {a b : Located} (t : Bool) → Locates l c a → Locates l c b → Locates l c (cond t a b)
locates-cond true p q = p
locates-cond false p q = q

locates-row : (l : Lent) (c : Counts) (row : ℕ) → Locates l c (located l c (found row))
unfolding located found
locates-row l c row = go (is_some (content_at l.file l.tokens c.tokens token)) refl
  where
    token : ℕ
    token = word_of l.values 4 row 2

    go : (t : Bool) → is_some (content_at l.file l.tokens c.tokens token) ≡ t
        → Locates l c (cond t (record { refusal = 0; packet = word_of l.values 4 row 1; token = token }) (missing 14))
    go true e = Locates.at _ token e
    go false e = Locates.outside

locates-followed : (l : Lent) (c : Counts) (f : Found) → Followed f → Locates l c (located l c f)
unfolding located refused
locates-followed l c _ (Followed.at row) = locates-row l c row
locates-followed l c _ Followed.nowhere = Locates.nowhere
locates-followed l c _ Followed.outside = Locates.outside

pub locates : (l : Lent) (c : Counts) (name k : ℕ) → Locates l c (locate l c name k)
unfolding locate
locates l c name k =
    locates-cond (row_there l c c.names name) (locates-followed l c _ (value-answers l.values c.values name k)) Locates.outside

-- where the part of a value begins is a word of its token row: row 0 has none
start_word : (l : Lent) (c : Counts) (f : Located) → Locates l c f
    → cond (is_some (content_at l.file l.tokens c.tokens f.token)) (word_of l.tokens 3 f.token 1) 0 ≡ word_of l.tokens 3 f.token 1
unfolding missing word_of content_at is_row is_some
start_word l c _ (Locates.at packet token h) = rw h
start_word l c _ Locates.nowhere = refl
start_word l c _ Locates.outside = refl

pub located-start : (l : Lent) (c : Counts) (name k : ℕ) (f : Located) → f ≡ locate l c name k
    → cond (is_some (content_at l.file l.tokens c.tokens f.token)) (word_of l.tokens 3 f.token 1) 0 ≡ word_of l.tokens 3 f.token 1
located-start l c name k f e = start_word l c f (rw e (locates l c name k))

-- a row, or none where it is 0
pub first-given : (row : ℕ) {n : ℕ} → Some n ≡ first_of row → (n ≡ row) × (row ≡ 0 → ⊥)
first-given row {n} e = go (eqb row 0) refl
  where
    go : (t : Bool) → eqb row 0 ≡ t → (n ≡ row) × (row ≡ 0 → ⊥)
    go true q = impossible (let z : Some n ≡ None = rw q at e in cc)
    go false q = (cc (let z : Some n ≡ Some row = rw q at e in z), eqb-false row 0 q)

pub first-none : (row : ℕ) → None ≡ first_of row → row ≡ 0
first-none row e = go (eqb row 0) refl
  where
    go : (t : Bool) → eqb row 0 ≡ t → row ≡ 0
    go true q = eqb-true row 0 q
    go false q = impossible (let z : None ≡ Some row = rw q at e in cc)

-- a refusal is passed on
pub located-refused : (l : Lent) (c : Counts) (m : Missing) → located l c (found_of (Err m)) ≡ missing (number m)
unfolding located
located-refused l c NotFound = refl
located-refused l c Outside = refl

pub value-refused : (l : Lent) (m : Missing) → value_of l (missing (number m)) ≡ valued_of (Err m)
unfolding value_of missing word_of
value-refused l m = refl
