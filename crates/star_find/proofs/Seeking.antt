-- A search through rows answers the first that is asked for and has the wanted bytes, or 13 where there is none: each row is met in turn, and
-- none before it had them. On a table that holds rows it is a search through the list of rows, whatever their width.
use mathlib.Core.Path.{◌≡◌, refl, sym, ◌∙◌}
use mathlib.Core.Bool.{Bool, true, false, cond, not, ◌&&◌, ◌||◌, and-eq-true_iff}
use mathlib.Core.List.{List}
use mathlib.Core.Logic.{◌⊎◌, inl, inr, ◌↔◌}
use mathlib.Core.Option.{Option, some}
use Prim.Native.Nat.{ℕ, zero, suc, ◌+◌, ◌-◌, ◌≤◌, ◌<◌}
use native.Mathlib.Omega.{arith}
use borrow.Author.Tests.{eqb-true, eqb-false, eq-eqb}
use lib.Dec.{eqb}
use lib.ListN.{length, get_or}
use Rattle.star_rows.specs.Rows.{word_of, holding}
use Rattle.star_rows.proofs.Words.{word_held}
use Rattle.star_lex.proofs.Cases.{impossible}
use Rattle.star_text.specs.Names.{key, same}
use Rattle.star_text.proofs.Names.{same_true, same_false}
use Rattle.star_find.specs.Find.{Lent, content_at, is_wanted, seek, meet, found, refused, look}
use Rattle.star_rows.specs.declared.Counts.{Counts}
use Rattle.star_find.specs.declared.Found.{Found}

-- of so many rows, counted from 0, the first with the property answers its number, counted from 1; 13 where none has it
pub data Sought (P : ℕ → Type 0) (n : ℕ) : Found → Type 0 where
  there : (i : ℕ) → i < n → P i → ((j : ℕ) → j < i → P j → ⊥) → Sought P n (found (suc i))
  absent : ((j : ℕ) → j < n → P j → ⊥) → Sought P n (refused 13)

pub sought-alike : {P Q : ℕ → Type 0} {n : ℕ} {f : Found} → ((i : ℕ) → i < n → P i ↔ Q i) → Sought P n f → Sought Q n f
sought-alike h (Sought.there i l p b) = Sought.there i l ((h i l).0 p) (λ j k q. b j k ((h j (omega arith)).1 q))
sought-alike h (Sought.absent b) = Sought.absent (λ j l q. b j l ((h j l).1 q))

-- what is there is found
pub sought-there : {P : ℕ → Type 0} {n : ℕ} {f : Found} → Sought P n f → (i : ℕ) → i < n → P i → f.refusal ≡ 0
unfolding found
sought-there (Sought.there j k q b) i l p = refl
sought-there (Sought.absent b) i l p = absurd (b i l p)

pub sought-either : {P : ℕ → Type 0} {n : ℕ} {f : Found} → Sought P n f → (f.refusal ≡ 0) ⊎ (f ≡ refused 13)
unfolding found
sought-either (Sought.there i l p b) = inl refl
sought-either (Sought.absent b) = inr refl

-- what is found is there, the first
pub record FirstOf (P : ℕ → Type 0) (n row : ℕ) : Type 0 where
  pub low : 1 ≤ row
  pub high : row ≤ n
  pub is : P (row - 1)
  pub before : (other : ℕ) → 1 ≤ other → other < row → P (other - 1) → ⊥

pub sought-first : {P : ℕ → Type 0} {n : ℕ} {f : Found} → Sought P n f → f.refusal ≡ 0 → FirstOf P n f.row
unfolding found refused
sought-first {P} (Sought.there i l p b) e =
    let h : suc i - 1 ≡ i = omega arith in
    record { low = omega arith; high = l; is = rw h p; before = λ j low k q. b (j - 1) (omega arith) q }
sought-first (Sought.absent b) e = absurd (let z : ◌≡◌ {A = ℕ} 13 0 = e in omega arith)

below_next : (P : ℕ → Type 0) (n : ℕ) → ((j : ℕ) → j < n → P j → ⊥) → (P n → ⊥) → (j : ℕ) → j < suc n → P j → ⊥
below_next P n b h j l p = go (eqb j n) refl
  where
    go : (t : Bool) → eqb j n ≡ t → ⊥
    go true e = h (rw (eqb-true j n e) at p)
    go false e = b j (omega (arith, eqb-false j n e)) p

-- a row that is looked at and whose content is the wanted bytes
abbrev pub Hit : (is_one : ℕ → Bool) (contents : ℕ → List ℕ) (wanted : List ℕ) → ℕ → Type 0
Hit is_one contents wanted i = (is_one (suc i) ≡ true) × (key (contents i) ≡ key wanted)

module _ (is_one : ℕ → Bool) (content : ℕ → Option (List ℕ)) (wanted : List ℕ) (contents : ℕ → List ℕ) (n : ℕ)
    (inside : (i : ℕ) → i < n → content (suc i) ≡ some (contents i)) where
  seek-from : (left at : ℕ) → at + left ≡ n → ((j : ℕ) → j < at → Hit is_one contents wanted j → ⊥)
      → Sought (Hit is_one contents wanted) n (seek is_one content wanted left (suc at))
  unfolding seek meet
  seek-from zero at h b = Sought.absent (λ j l p. b j (omega arith) p)
  seek-from (suc left) at h b =
      by_row (is_one (suc at)) refl (same (contents at) wanted) refl
      (λ n. seek-from left (suc at) (omega arith) (below_next (Hit is_one contents wanted) at b n))
    where
      rest : Found
      rest = seek is_one content wanted left (suc (suc at))

      by_row : (t : Bool) → is_one (suc at) ≡ t → (s : Bool) → same (contents at) wanted ≡ s
          → ((Hit is_one contents wanted at → ⊥) → Sought (Hit is_one contents wanted) n rest)
          → Sought (Hit is_one contents wanted) n (cond (is_one (suc at)) (meet wanted (suc at) (content (suc at)) rest) rest)
      by_row true e true d later = rw (e, inside at (omega arith), d) (Sought.there at (omega arith) (e, same_true _ _ d) b)
      by_row true e false d later = rw (e, inside at (omega arith), d) (later (λ p. same_false _ _ d p.1))
      by_row false e s d later = rw e (later (λ p. impossible (cc p.0)))

  pub seek-sought : Sought (Hit is_one contents wanted) n (seek is_one content wanted n 1)
  seek-sought = seek-from n 0 (omega arith) (λ j l p. omega arith)

-- the words of a row that is asked for, by its first and, by parent, its third
abbrev pub asked : (first : ℕ) (by_parent : Bool) (parent : ℕ) → List ℕ → Bool
asked first by_parent parent ws = eqb (get_or ws 0 0) first && (not by_parent || eqb (get_or ws 2 0) parent)

pub asked-first : (first parent : ℕ) (ws : List ℕ) → (asked first false parent ws ≡ true) ↔ (get_or ws 0 0 ≡ first)
asked-first first parent ws = (λ e. eqb-true _ _ ((and-eq-true_iff _ _).0 e).0, λ e. rw (eq-eqb _ _ e))

pub asked-parent : (first parent : ℕ) (ws : List ℕ) → (asked first true parent ws ≡ true) ↔ ((get_or ws 0 0 ≡ first) × (get_or ws 2 0 ≡ parent))
asked-parent first parent ws = (
  λ e. let k : (eqb (get_or ws 0 0) first ≡ true) × (eqb (get_or ws 2 0) parent ≡ true)
      = (and-eq-true_iff (eqb (get_or ws 0 0) first) (eqb (get_or ws 2 0) parent)).0 e in (eqb-true _ _ k.0, eqb-true _ _ k.1),
  λ e. rw (eq-eqb _ _ e.0, eq-eqb _ _ e.1),
)

module _ {A : Type 0} (width : ℕ) (words : A → List ℕ) (wide : (x : A) → length (words x) ≡ width) (d : A) (xs : List A) (size : ℕ) where
  wanted-held : (first : ℕ) (by_parent : Bool) (parent : ℕ) (i : ℕ) → i < length xs → 2 < width
      → is_wanted (holding words xs size) width first by_parent parent (suc i) ≡ asked first by_parent parent (words (get_or xs i d))
  unfolding is_wanted
  wanted-held first by_parent parent i h l = rw (word_held width words wide d xs size i 0 h (omega arith), word_held width words wide d xs size i 2 h l)

  -- looking through a table that holds rows, whose second words are tokens with these contents
  pub look-sought : (l : Lent) (c : Counts) (first : ℕ) (by_parent : Bool) (parent : ℕ) (wanted : List ℕ) (contents : ℕ → List ℕ) → 2 < width
      → ((i : ℕ) → i < length xs
      → content_at l.file l.tokens c.tokens (get_or (words (get_or xs i d)) 1 0) ≡ some (contents (get_or (words (get_or xs i d)) 1 0)))
      → Sought (λ i. (asked first by_parent parent (words (get_or xs i d)) ≡ true) × (key (contents (get_or (words (get_or xs i d)) 1 0)) ≡ key wanted)) (length xs)
      (look l c (holding words xs size) width first by_parent parent wanted (length xs))
  unfolding look
  look-sought l c first by_parent parent wanted contents w inside =
      sought-alike (λ i h. let e : is_wanted (holding words xs size) width first by_parent parent (suc i) ≡ asked first by_parent parent (words (get_or xs i d))
      = wanted-held first by_parent parent i h w in (λ p. (sym e ∙ p.0, p.1), λ p. (e ∙ p.0, p.1)))
      (seek-sought (is_wanted (holding words xs size) width first by_parent parent)
      (λ row. content_at l.file l.tokens c.tokens (word_of (holding words xs size) width row 1)) wanted
      (λ i. contents (get_or (words (get_or xs i d)) 1 0)) (length xs)
      (λ i h. rw (word_held width words wide d xs size i 1 h (omega arith)) (inside i h)))
