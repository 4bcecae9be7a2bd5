-- The links of a table of value rows, each of which has the next row of its name: from the first row of a name on they lead through all of its rows
-- in order, so following so many gives the row with so many of its name before it, or 13 where there are not so many.
use mathlib.Core.Path.{◌≡◌, refl, ◌∙◌, ap}
use mathlib.Core.Bool.{Bool, true, false, cond}
use mathlib.Core.List.{List, [], ◌∷◌, ◌++◌}
use mathlib.Core.Logic.{◌⊎◌, inl, inr}
use Prim.Native.Nat.{ℕ, zero, suc, ◌+◌, ◌≤◌, ◌<◌}
use native.Mathlib.Omega.{arith}
use borrow.Author.Tests.{eqb-true, eq-eqb, ne_eqb, lt-ltb, le-leb}
use lib.Dec.{eqb}
use lib.ListN.{length, get_or, length-append}
use Rattle.star_text.proofs.Cases.{cond-by}
use Rattle.star_rows.specs.Rows.{word_of}
use Rattle.star_grammar.specs.Tables.{ValueRow, value_words, first_of}
use Rattle.star_grammar.proofs.Linked.{Linked}
use Rattle.star_grammar.proofs.Linking.{no_value}
use Rattle.star_find.specs.Find.{found, refused}
use Rattle.star_value.specs.Values.{first_value, is_link, follow, value_row}
use Rattle.star_value.specs.Demands.{of_name, numbers_of, Chain}
use Rattle.star_find.specs.declared.Found.{Found}

module _ (values : List ℕ) where
  -- the rows of the table from this number on are of these names, each with the next row of its name
  abbrev pub Links : (number : ℕ) → List ValueRow → Type 0
  Links number [] = Unit {0}
  Links number (v ∷ vs) = (word_of values 4 number 0 ≡ v.name) × (word_of values 4 number 3 ≡ first_of v.name (suc number) vs) × Links (suc number) vs

  -- the words of the rows after so many are those of these rows
  abbrev pub Words : (at : ℕ) → List ValueRow → Type 0
  Words at vs = (i n : ℕ) → i < length vs → n < 4 → word_of values 4 (suc (at + i)) n ≡ get_or (value_words (get_or vs i no_value)) n 0

  first-words : (at : ℕ) (v : ValueRow) (vs : List ValueRow) → Words at (v ∷ vs) → (n : ℕ) → n < 4 → word_of values 4 (suc at) n ≡ get_or (value_words v) n 0
  first-words at v vs w n h = ap (λ m. word_of values 4 (suc m) n) (let e : at ≡ at + 0 = omega arith in e) ∙ w 0 n (omega arith) h

  next-words : (at : ℕ) (v : ValueRow) (vs : List ValueRow) → Words at (v ∷ vs) → Words (suc at) vs
  next-words at v vs w i n h j = ap (λ m. word_of values 4 (suc m) n) (let e : suc at + i ≡ at + suc i = omega arith in e) ∙ w (suc i) n (omega arith) j

  pub words-links : (at : ℕ) (vs : List ValueRow) → Words at vs → Linked (suc at) vs → Links (suc at) vs
  unfolding value_words
  words-links at [] w l = tt
  words-links at (v ∷ vs) w l =
      (first-words at v vs w 0 (omega arith), first-words at v vs w 3 (omega arith) ∙ l.0, words-links (suc at) vs (next-words at v vs w) l.1)

  module _ (name : ℕ) where
    pub first-is : (number : ℕ) (vs : List ValueRow) → Links number vs → first_value values name (length vs) number ≡ first_of name number vs
    unfolding first_value first_of
    first-is number [] l = refl
    first-is number (v ∷ vs) l = rw (l.0, first-is (suc number) vs l.2)

    -- the link of a row of the name
    own-link : (number : ℕ) (v : ValueRow) (vs : List ValueRow) → Links number (v ∷ vs) → eqb v.name name ≡ true
        → word_of values 4 number 3 ≡ first_of name (suc number) vs
    own-link number v vs l q = l.1 ∙ ap (λ n. first_of n (suc number) vs) (eqb-true v.name name q)

    chain-row : (t : Bool) (number first : ℕ) (rows : List ℕ) → 1 ≤ number → (t ≡ true → word_of values 4 number 3 ≡ first) → Chain values first rows
        → Chain values (cond t number first) (cond t (number ∷ rows) rows)
    chain-row true number first rows low e c = Chain.visit number rows low (rw (e refl) c)
    chain-row false number first rows low e c = c

    pub chain-from : (number : ℕ) (vs : List ValueRow) → 1 ≤ number → Links number vs → Chain values (first_of name number vs) (numbers_of name number vs)
    unfolding first_of numbers_of
    chain-from number [] low l = Chain.end
    chain-from number (v ∷ vs) low l =
        chain-row (eqb v.name name) number (first_of name (suc number) vs) (numbers_of name (suc number) vs) low (own-link number v vs l)
        (chain-from (suc number) vs (omega arith) l.2)

    module _ (count : ℕ) where
      -- no row, or one of the name within the count, from this number on
      abbrev Leads : (number row : ℕ) → Type 0
      Leads number row = (row ≡ 0) ⊎ ((number ≤ row) × (row ≤ count) × (word_of values 4 row 0 ≡ name))

      leads-sooner : (number row : ℕ) → Leads (suc number) row → Leads number row
      leads-sooner number row (inl z) = inl z
      leads-sooner number row (inr p) = inr (omega (arith, p.0), p.1, p.2)

      first-leads : (number : ℕ) (vs : List ValueRow) → number + length vs ≤ suc count → Links number vs → Leads number (first_of name number vs)
      unfolding first_of
      first-leads number [] h l = inl refl
      first-leads number (v ∷ vs) h l =
          cond-by (Leads number) (eqb v.name name) number (first_of name (suc number) vs)
          (λ q. inr (omega arith, omega arith, l.0 ∙ eqb-true v.name name q))
          (λ q. leads-sooner number _ (first-leads (suc number) vs (omega arith) l.2))

      -- so many links from a row on, or 13 where there is no row
      abbrev pub going : (links row : ℕ) → Found
      going links row = cond (eqb row 0) (refused 13) (follow values count name links row)

      going-here : (row : ℕ) → 1 ≤ row → going 0 row ≡ found row
      unfolding follow
      going-here row low = rw (ne_eqb row 0 (λ z. omega arith))

      follow-next : (links row next : ℕ) → word_of values 4 row 3 ≡ next → Leads (suc row) next → follow values count name (suc links) row ≡ going links next
      unfolding follow is_link
      follow-next links row next e (inl z) = rw (e, z)
      follow-next links row next e (inr p) =
          rw (e, ne_eqb next 0 (λ z. omega (arith, p.0, z)), lt-ltb row next p.0, le-leb next count p.1, eq-eqb (word_of values 4 next 0) name p.2)

      going_next : (links row next : ℕ) → 1 ≤ row → word_of values 4 row 3 ≡ next → Leads (suc row) next → going (suc links) row ≡ going links next
      going_next links row next low e h = rw (ne_eqb row 0 (λ z. omega arith)) (follow-next links row next e h)

      -- a row of the name with so many of them before it
      abbrev RowFrom : (number first : ℕ) (vs : List ValueRow) (before : ℕ) → ValueRow → Type 0
      RowFrom number first vs before v = (i : ℕ) × (i < length vs) × (going before first ≡ found (number + i)) × (get_or vs i no_value ≡ v)

      further : (number first next before behind : ℕ) (x : ValueRow) (xs : List ValueRow) (v : ValueRow) → going before first ≡ going behind next
          → RowFrom (suc number) next xs behind v → RowFrom number first (x ∷ xs) before v
      further number first next before behind x xs v e p =
          (suc p.0, omega (arith, p.1), e ∙ p.2 ∙ ap found (let z : suc number + p.0 ≡ number + suc p.0 = omega arith in z), p.3)

      row_from : (number : ℕ) (vs : List ValueRow) → 1 ≤ number → number + length vs ≤ suc count → Links number vs
          → (before : List ValueRow) (v : ValueRow) (behind : List ValueRow) → of_name name vs ≡ before ++ (v ∷ behind)
          → RowFrom number (first_of name number vs) vs (length before) v
      unfolding of_name first_of
      row_from number [] low h l before v behind e = absurd (omega (arith, simp length-append at (ap length e)))
      row_from number (x ∷ xs) low h l before v behind e =
          go (eqb x.name name) refl before e (row_from (suc number) xs (omega arith) (omega arith) l.2)
        where
          next : ℕ
          next = first_of name (suc number) xs

          go : (t : Bool) → eqb x.name name ≡ t → (before : List ValueRow) → cond t (x ∷ of_name name xs) (of_name name xs) ≡ before ++ (v ∷ behind)
              → ((before : List ValueRow) (v : ValueRow) (behind : List ValueRow) → of_name name xs ≡ before ++ (v ∷ behind) → RowFrom (suc number) next xs (length before) v)
              → RowFrom number (cond t number next) (x ∷ xs) (length before) v
          go true q [] e later = (0, omega arith, going-here number low ∙ ap found (let z : number ≡ number + 0 = omega arith in z), (cc))
          go true q (b ∷ bs) e later =
              further number number next (suc (length bs)) (length bs) x xs v
              (going_next (length bs) number next low (own-link number x xs l q) (first-leads (suc number) xs (omega arith) l.2))
              (later bs v behind (cc))
          go false q bs e later = further number next next (length bs) (length bs) x xs v refl (later bs v behind e)

      none_from : (number : ℕ) (vs : List ValueRow) → 1 ≤ number → number + length vs ≤ suc count → Links number vs
          → (links : ℕ) → length (of_name name vs) ≤ links → going links (first_of name number vs) ≡ refused 13
      unfolding of_name first_of
      none_from number [] low h l links e = refl
      none_from number (x ∷ xs) low h l links e =
          go (eqb x.name name) refl links e (none_from (suc number) xs (omega arith) (omega arith) l.2)
        where
          next : ℕ
          next = first_of name (suc number) xs

          go : (t : Bool) → eqb x.name name ≡ t → (links : ℕ) → length (cond t (x ∷ of_name name xs) (of_name name xs)) ≤ links
              → ((links : ℕ) → length (of_name name xs) ≤ links → going links next ≡ refused 13) → going links (cond t number next) ≡ refused 13
          go true q zero e later = absurd (omega arith)
          go true q (suc links) e later =
              going_next links number next low (own-link number x xs l q) (first-leads (suc number) xs (omega arith) l.2) ∙ later links (omega arith)
          go false q links e later = later links e

  -- the k-th value row, where the table has these rows
  module _ (name : ℕ) (vs : List ValueRow) (l : Links 1 vs) where
    value-going : (links : ℕ) → value_row values (length vs) name (suc links) ≡ going name (length vs) links (first_of name 1 vs)
    unfolding value_row
    value-going links = rw (first-is name 1 vs l)

    -- the row of a value with so many of its name before it
    pub value-row-is : (before : List ValueRow) (v : ValueRow) (behind : List ValueRow) → of_name name vs ≡ before ++ (v ∷ behind)
        → (i : ℕ) × (i < length vs) × (value_row values (length vs) name (suc (length before)) ≡ found (suc i)) × (get_or vs i no_value ≡ v)
    value-row-is before v behind e =
        let p : RowFrom name (length vs) 1 (first_of name 1 vs) vs (length before) v = row_from name (length vs) 1 vs (omega arith) (omega arith) l before v behind e in
        (p.0, p.1, value-going (length before) ∙ p.2 ∙ ap found (let z : 1 + p.0 ≡ suc p.0 = omega arith in z), p.3)

    pub value-row-none : (k : ℕ) → (k ≡ 0) ⊎ (length (of_name name vs) < k) → value_row values (length vs) name k ≡ refused 13
    unfolding value_row
    value-row-none zero h = refl
    value-row-none (suc links) (inl z) = absurd (omega arith)
    value-row-none (suc links) (inr h) = value-going links ∙ none_from name (length vs) 1 vs (omega arith) (omega arith) l links (omega arith)
