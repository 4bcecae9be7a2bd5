-- Laws of filling a table from a place on, and of clearing it.
use Rattle.std.proofs.Common.{◌≡◌, ℕ, ◌+◌, ◌-◌, ◌≤◌, List, [], ◌∷◌, ◌++◌, length, take, drop, replicate, refl, sym, ◌∙◌, ap, arith, length-drop}
use Rattle.std.proofs.Math.ListN.{drop_of_length-le}
use native.Mathlib.Nat.{sub-zero}
use mathlib.Core.List.{append-nil}
use lib.Seq.{take_all}
use borrow.Rule.Slice.PartMut.{put_mid}
use Rattle.std.specs.List.{FoldsTo}
use Rattle.star_rows.specs.Rows.{filled_from, cleared_from}

-- elements that are made one by one, each this one
pub folds-same : {F A : Type 0} (R : F → A → F → Type 0) (x : A) → ((p : F) (y : A) (q : F) → R p y q → y ≡ x)
    → (p : F) (xs : List A) (q : F) → FoldsTo R p xs q → xs ≡ replicate (length xs) x
folds-same R x each p [] q h = refl
folds-same R x each p (y ∷ ys) q h =
    ap (λ z. z ∷ ys) (each p y h.0 h.1) ∙ ap (λ zs. x ∷ zs) (folds-same R x each h.0 ys q h.2)

-- the part from a place on is filled
pub filled-part : {A : Type 0} (from k : ℕ) (x : A) (xs ys : List A) → ys ≡ replicate (length ys) x → length ys ≡ length xs - from
    → length xs ≤ from + k → put_mid from k xs ys ≡ filled_from from x xs
filled-part from k x xs ys e n h =
    let behind : length (drop from xs) ≤ k = omega (arith, length-drop from xs) in
    ap (λ r. take from xs ++ (ys ++ r)) (drop_of_length-le (drop from xs) behind)
    ∙ ap (λ r. take from xs ++ r) (append-nil ys ∙ e ∙ ap (λ m. replicate m x) n)

-- there is no such part
pub filled-none : {A : Type 0} (from : ℕ) (x : A) (xs : List A) → length xs ≤ from → xs ≡ filled_from from x xs
filled-none from x xs h =
    let e : length xs - from ≡ 0 = omega arith in
    rw (e, take_all from xs h) (sym (append-nil xs))

-- from the start on: every word is 0
pub cleared-whole : (words : List ℕ) → cleared_from 0 words ≡ replicate (length words) 0
cleared-whole words = rw sub-zero
