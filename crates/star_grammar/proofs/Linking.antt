-- Linking one value row more: the last row of its name leads to it, and it leads to none.
use mathlib.Core.Path.{◌≡◌, refl, sym, ap, ◌∙◌}
use mathlib.Core.Bool.{Bool, true, false, cond}
use mathlib.Core.List.{List, [], ◌∷◌, ◌++◌}
use Prim.Native.Nat.{ℕ, zero, suc, ◌+◌, ◌≤◌}
use native.Mathlib.Nat.{add-zero}
use native.Mathlib.Omega.{arith}
use borrow.Author.Tests.{eqb-true, eqb-false, eq-eqb, ne_eqb}
use lib.Dec.{eqb}
use lib.ListN.{length, get_or, set}
use Rattle.star_grammar.specs.Tables.{ValueRow, first_of, link_to, linked_from}
use Rattle.star_grammar.specs.Machine.{later_or, last_row}

-- no row, which stands where there is none
abbrev pub no_value : ValueRow
no_value = record { name = 0; packet = 0; value = 0; next = 0 }

pub length-linked : (number : ℕ) (vs : List ValueRow) → length (linked_from number vs) ≡ length vs
unfolding linked_from
length-linked number [] = refl
length-linked number (v ∷ vs) = ap suc (length-linked (suc number) vs)

-- the last row of a name, with one row more
pub last_more : (name : ℕ) (vs : List ValueRow) (w : ValueRow) → last_row name (vs ++ (w ∷ [])) ≡ cond (eqb w.name name) (suc (length vs)) (last_row name vs)
unfolding last_row later_or
last_more name [] w = refl
last_more name (v ∷ vs) w = ap (later_or (eqb v.name name)) (last_more name vs w) ∙ go (eqb w.name name)
  where
    go : (t : Bool) → later_or (eqb v.name name) (cond t (suc (length vs)) (last_row name vs))
        ≡ cond t (suc (suc (length vs))) (later_or (eqb v.name name) (last_row name vs))
    go true = refl
    go false = refl

pub last-same : (name : ℕ) (vs : List ValueRow) (w : ValueRow) → w.name ≡ name → last_row name (vs ++ (w ∷ [])) ≡ suc (length vs)
last-same name vs w e = last_more name vs w ∙ rw (eq-eqb w.name name e)

pub last-other : (name : ℕ) (vs : List ValueRow) (w : ValueRow) → (w.name ≡ name → ⊥) → last_row name (vs ++ (w ∷ [])) ≡ last_row name vs
last-other name vs w n = last_more name vs w ∙ rw (ne_eqb w.name name n)

later-bound : (t : Bool) (l n : ℕ) → l ≤ n → later_or t l ≤ suc n
unfolding later_or
later-bound true zero n h = omega arith
later-bound false zero n h = omega arith
later-bound t (suc l) n h = omega arith

pub last-bound : (name : ℕ) (vs : List ValueRow) → last_row name vs ≤ length vs
unfolding last_row
last-bound name [] = omega arith
last-bound name (v ∷ vs) = later-bound (eqb v.name name) (last_row name vs) (length vs) (last-bound name vs)

-- the first row of a name, with one row more
first_more : (name number : ℕ) (vs : List ValueRow) (w : ValueRow)
    → first_of name (suc number) (vs ++ (w ∷ []))
    ≡ cond (eqb (first_of name (suc number) vs) 0) (cond (eqb w.name name) (suc number + length vs) 0) (first_of name (suc number) vs)
unfolding first_of
first_more name number [] w = ap (λ n. cond (eqb w.name name) n 0) (sym (add-zero (suc number)))
first_more name number (v ∷ vs) w = go (first_more name (suc number) vs w) (eqb v.name name)
  where
    later : ℕ
    later = first_of name (suc (suc number)) vs

    go : first_of name (suc (suc number)) (vs ++ (w ∷ [])) ≡ cond (eqb later 0) (cond (eqb w.name name) (suc (suc number) + length vs) 0) later
        → (t : Bool) → cond t (suc number) (first_of name (suc (suc number)) (vs ++ (w ∷ [])))
        ≡ cond (eqb (cond t (suc number) later) 0) (cond (eqb w.name name) (suc number + suc (length vs)) 0) (cond t (suc number) later)
    go more true = rw (ne_eqb (suc number) 0 (λ z. omega arith))
    go more false =
        more
        ∙ ap (λ n. cond (eqb later 0) (cond (eqb w.name name) n 0) later) (let e : suc (suc number) + length vs ≡ suc number + suc (length vs) = omega arith in e)

-- a name has a first row exactly when it has a last one
pub none_first : (name number : ℕ) (vs : List ValueRow) → last_row name vs ≡ 0 → first_of name (suc number) vs ≡ 0
unfolding first_of last_row later_or
none_first name number [] e = refl
none_first name number (v ∷ vs) e = go (none_first name (suc number) vs) (eqb v.name name) (last_row name vs) refl e
  where
    go : (last_row name vs ≡ 0 → first_of name (suc (suc number)) vs ≡ 0) → (t : Bool) (l : ℕ) → last_row name vs ≡ l → later_or t l ≡ 0 → cond t (suc number) (first_of name (suc (suc number)) vs) ≡ 0
    go later true zero q z = absurd (omega arith)
    go later false zero q z = later q
    go later t (suc l) q z = absurd (omega arith)

none_last : (name number : ℕ) (vs : List ValueRow) → first_of name (suc number) vs ≡ 0 → last_row name vs ≡ 0
unfolding first_of last_row later_or
none_last name number [] e = refl
none_last name number (v ∷ vs) e = go (none_last name (suc number) vs) (eqb v.name name) e
  where
    go : (first_of name (suc (suc number)) vs ≡ 0 → last_row name vs ≡ 0) → (t : Bool) → cond t (suc number) (first_of name (suc (suc number)) vs) ≡ 0 → later_or t (last_row name vs) ≡ 0
    go later true z = absurd (omega arith)
    go later false z = rw (later z)

-- one row more that is not the first of its name leaves the first row as it is
same_first : (name number : ℕ) (vs : List ValueRow) (w : ValueRow) → (w.name ≡ name → first_of name (suc number) vs ≡ 0 → ⊥)
    → first_of name (suc number) (vs ++ (w ∷ [])) ≡ first_of name (suc number) vs
same_first name number vs w n = first_more name number vs w ∙ go (first_of name (suc number) vs) (eqb w.name name) refl refl
  where
    go : (f : ℕ) (t : Bool) → first_of name (suc number) vs ≡ f → eqb w.name name ≡ t → cond (eqb f 0) (cond t (suc number + length vs) 0) f ≡ f
    go zero true e q = absurd (n (eqb-true _ _ q) e)
    go zero false e q = refl
    go (suc f) t e q = rw (ne_eqb (suc f) 0 (λ z. omega arith))

-- the rows with the last row of a name leading to a row; none where it is 0
abbrev pub relinked : (last next : ℕ) → List ValueRow → List ValueRow
relinked zero next us = us
relinked (suc i) next us = set us i (link_to next (get_or us i no_value))

pub link-more : (number : ℕ) (vs : List ValueRow) (w : ValueRow)
    → linked_from number (vs ++ (w ∷ [])) ≡ relinked (last_row w.name vs) (number + length vs) (linked_from number vs) ++ (link_to 0 w ∷ [])
unfolding linked_from last_row later_or first_of link_to
link-more number [] w = refl
link-more number (v ∷ vs) w = go (last_row w.name vs) (eqb v.name w.name) refl refl (link-more (suc number) vs w)
  where
    n : ℕ
    n = number + suc (length vs)

    place : suc number + length vs ≡ n
    place = omega arith

    us : List ValueRow
    us = linked_from (suc number) vs

    head : ℕ → ValueRow
    head f = link_to f v

    go : (l : ℕ) (t : Bool) → last_row w.name vs ≡ l → eqb v.name w.name ≡ t
        → linked_from (suc number) (vs ++ (w ∷ [])) ≡ relinked l (suc number + length vs) us ++ (link_to 0 w ∷ [])
        → head (first_of v.name (suc number) (vs ++ (w ∷ []))) ∷ linked_from (suc number) (vs ++ (w ∷ []))
        ≡ relinked (later_or t l) n (head (first_of v.name (suc number) vs) ∷ us) ++ (link_to 0 w ∷ [])
    go (suc l) t e q later =
        rw (same_first v.name number vs w (λ s z. omega (arith, e, none_last w.name number vs (rw s z))), later, place)
    go zero true e q later =
        let s : v.name ≡ w.name = eqb-true _ _ q in
        rw (first_more v.name number vs w, none_first v.name number vs (rw s e), eq-eqb w.name v.name (sym s), later, place)
    go zero false e q later =
        rw (same_first v.name number vs w (λ s z. eqb-false _ _ q (sym s)), later)
