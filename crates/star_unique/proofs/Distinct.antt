-- `among` decides whether a key is in a list: by going through it. A list with one more
-- key is distinct exactly when the list is and the content is not in it.
use mathlib.Core.Path.{◌≡◌, refl, sym}
use mathlib.Core.Bool.{Bool, true, false, ◌||◌, or-true}
use mathlib.Core.List.{List, [], ◌∷◌, ◌++◌, Memᴰ}
use mathlib.Core.Logic.{◌↔◌, ⊎_elim}
use Prim.Native.Nat.{ℕ}
use Rattle.star_text.specs.Names.{equal}
use Rattle.star_text.proofs.Names.{equal-true, equal_is}
use Rattle.star_lex.proofs.Cases.{impossible}
use Rattle.star_grammar.specs.Reading.{Distinct}
use Rattle.star_unique.specs.Repeat.{among}

pub among-true : (x : List ℕ) (ys : List (List ℕ)) → among x ys ≡ true → Memᴰ x ys
unfolding among
among-true x [] e = impossible cc
among-true x (y ∷ ys) e = go (equal x y) refl e (among-true x ys)
  where
    go : (t : Bool) → equal x y ≡ t → (t || among x ys) ≡ true → (among x ys ≡ true → Memᴰ x ys) → Memᴰ x (y ∷ ys)
    go true d h rest = mathlib.Core.List.Memᴰ.head (equal-true x y d)
    go false d h rest = mathlib.Core.List.Memᴰ.tail (rest h)

pub among-member : {x : List ℕ} {ys : List (List ℕ)} → Memᴰ x ys → among x ys ≡ true
unfolding among
among-member {x} (mathlib.Core.List.Memᴰ.head {x = y} e) = rw (equal_is x y e)
among-member {x} (mathlib.Core.List.Memᴰ.tail {x = y} m) = rw (among-member m) (or-true (equal x y))

pub among-false : (x : List ℕ) (ys : List (List ℕ)) → among x ys ≡ false → Memᴰ x ys → ⊥
among-false x ys e m = impossible (cc (among-member m))

pub among-absent : (x : List ℕ) (ys : List (List ℕ)) → (Memᴰ x ys → ⊥) → among x ys ≡ false
among-absent x ys n = go (among x ys) refl
  where
    go : (t : Bool) → among x ys ≡ t → t ≡ false
    go true e = absurd (n (among-true x ys e))
    go false e = refl

pub distinct-first : (xs ys : List (List ℕ)) → Distinct (xs ++ ys) → Distinct xs
distinct-first [] ys d = tt
distinct-first (x ∷ xs) ys d = (λ m. d.0 (mathlib.Core.List.Memᴰ.append_left ys m), distinct-first xs ys d.1)

last-absent : (xs : List (List ℕ)) (x : List ℕ) → Distinct (xs ++ (x ∷ [])) → Memᴰ x xs → ⊥
last-absent [] x d m = mathlib.Core.List.Memᴰ.not-nil m
last-absent (y ∷ ys) x d m =
    ⊎_elim (λ e. d.0 (mathlib.Core.List.Memᴰ.append_right ys (mathlib.Core.List.Memᴰ.head (sym e)))) (last-absent ys x d.1) (mathlib.Core.List.Memᴰ.cases_cons m)

distinct-joined : (xs : List (List ℕ)) (x : List ℕ) → Distinct xs → (Memᴰ x xs → ⊥) → Distinct (xs ++ (x ∷ []))
distinct-joined [] x d n = (mathlib.Core.List.Memᴰ.not-nil, tt)
distinct-joined (y ∷ ys) x d n = (
  λ m. ⊎_elim d.0 (λ k. n (mathlib.Core.List.Memᴰ.head (sym (mathlib.Core.List.Memᴰ.eq_of_singleton k)))) (mathlib.Core.List.Memᴰ.append_cases ys m),
  distinct-joined ys x d.1 (λ m. n (mathlib.Core.List.Memᴰ.tail m)),
)

-- a content more
pub distinct_more : (xs : List (List ℕ)) (x : List ℕ) → (Distinct xs × (Memᴰ x xs → ⊥)) ↔ Distinct (xs ++ (x ∷ []))
distinct_more xs x = (λ h. distinct-joined xs x h.0 h.1, λ d. (distinct-first xs (x ∷ []) d, last-absent xs x d))

pub distinct-among : (xs : List (List ℕ)) (x : List ℕ) → (Distinct xs × (among x xs ≡ false)) ↔ Distinct (xs ++ (x ∷ []))
distinct-among xs x =
    let k : (Distinct xs × (Memᴰ x xs → ⊥)) ↔ Distinct (xs ++ (x ∷ [])) = distinct_more xs x in
    (λ h. k.0 (h.0, among-false x xs h.1), λ d. ((k.1 d).0, among-absent x xs (k.1 d).1))
