-- Tokens inside a set: only the names among them take anything, and they repeat nothing exactly when the set's names with theirs behind
-- them are distinct.
use mathlib.Core.Path.{◌≡◌, refl, sym, ◌∙◌, ap}
use mathlib.Core.Bool.{Bool, true, false, cond}
use mathlib.Core.List.{List, [], ◌∷◌, ◌++◌, append-nil}
use mathlib.Core.Logic.{◌↔◌}
use Prim.Native.Nat.{ℕ, suc, ◌≤◌, ◌<◌}
use native.Mathlib.Omega.{arith}
use borrow.Author.Tests.{ne_eqb, eq-eqb, eqb-true, eqb-false}
use lib.Dec.{eqb}
use lib.ListN.{length}
use lib.Seq.{append_snoc}
use Rattle.star_text.specs.Names.{key}
use Rattle.star_lex.specs.Tokens.{Token, Each}
use Rattle.star_grammar.specs.Tree.{IsName, IsValue}
use Rattle.star_grammar.specs.Reading.{Distinct, contents}
use Rattle.star_unique.specs.Repeat.{Taken, among, is_taken, takes, take_name}
use Rattle.star_unique.proofs.Seen.{takes_all}
use Rattle.star_unique.proofs.Clean.{Clean}
use Rattle.star_unique.proofs.Distinct.{distinct-among}

-- the keys of the names among tokens
unfoldable pub names_in : List Token → List (List ℕ)
names_in [] = []
names_in (t ∷ ts) = cond (eqb t.kind 6) (key t.content ∷ names_in ts) (names_in ts)

-- the names of the open set
abbrev pub opened : Taken → List (List ℕ)
opened s = cond s.in_frame s.inner s.names

-- no heading, no end of a frame and no `global_`
pub record Inside (t : Token) : Type 0 where
  pub low : 3 < t.kind
  pub high : t.kind < 12

pub names-append : (p q : List Token) → names_in (p ++ q) ≡ names_in p ++ names_in q
unfolding names_in
names-append [] q = refl
names-append (t ∷ p) q = rw (names-append p q) (go (eqb t.kind 6))
  where
    go : (b : Bool) → cond b (key t.content ∷ (names_in p ++ names_in q)) (names_in p ++ names_in q) ≡ cond b (key t.content ∷ names_in p) (names_in p) ++ names_in q
    go true = refl
    go false = refl

pub names-count : (ts : List Token) → length (names_in ts) ≤ length ts
unfolding names_in
names-count [] = omega arith
names-count (t ∷ ts) = go (eqb t.kind 6) (names-count ts)
  where
    go : (b : Bool) → length (names_in ts) ≤ length ts → length (cond b (key t.content ∷ names_in ts) (names_in ts)) ≤ suc (length ts)
    go true h = omega arith
    go false h = omega arith

pub names-names : (ts : List Token) → Each IsName ts → names_in ts ≡ contents ts
unfolding names_in
names-names [] h = refl
names-names (t ∷ ts) h = rw (eq-eqb t.kind 6 h.0.kind6, names-names ts h.1)

pub names-values : (ts : List Token) → Each IsValue ts → names_in ts ≡ []
unfolding names_in
names-values [] h = refl
names-values (t ∷ ts) h = rw (ne_eqb t.kind 6 (λ e. omega (arith, h.0.low)), names-values ts h.1)

pub name-taken : (s : Taken) (t : Token) → t.kind ≡ 6 → is_taken s t ≡ among (key t.content) (opened s)
unfolding is_taken
name-taken s t e = rw e

pub name-takes : (s : Taken) (t : Token) → t.kind ≡ 6 → takes s t ≡ take_name s t
unfolding takes
name-takes s t e = rw e

pub other-taken : (s : Taken) (t : Token) → (t.kind ≡ 1 → ⊥) → (t.kind ≡ 2 → ⊥) → (t.kind ≡ 6 → ⊥) → is_taken s t ≡ false
unfolding is_taken
other-taken s t a b n = rw (ne_eqb t.kind 1 a, ne_eqb t.kind 2 b, ne_eqb t.kind 6 n)

pub other-takes : (s : Taken) (t : Token) → (t.kind ≡ 1 → ⊥) → (t.kind ≡ 12 → ⊥) → (t.kind ≡ 2 → ⊥) → (t.kind ≡ 3 → ⊥) → (t.kind ≡ 6 → ⊥)
    → takes s t ≡ s
unfolding takes
other-takes s t a g b c n = rw (ne_eqb t.kind 1 a, ne_eqb t.kind 12 g, ne_eqb t.kind 2 b, ne_eqb t.kind 3 c, ne_eqb t.kind 6 n)

inside-taken : (s : Taken) (t : Token) → Inside t → (t.kind ≡ 6 → ⊥) → is_taken s t ≡ false
inside-taken s t h n = other-taken s t (λ e. omega arith) (λ e. omega arith) n

inside-takes-nothing : (s : Taken) (t : Token) → Inside t → (t.kind ≡ 6 → ⊥) → takes s t ≡ s
inside-takes-nothing s t h n = other-takes s t (λ e. omega arith) (λ e. omega arith) (λ e. omega arith) (λ e. omega arith) n

-- a set whose names so far are a list
module _ (at : List (List ℕ) → Taken) (own : (xs : List (List ℕ)) → opened (at xs) ≡ xs)
    (more : (xs : List (List ℕ)) (t : Token) → take_name (at xs) t ≡ at (xs ++ (key t.content ∷ []))) where
  pub inside-takes : (ts : List Token) (xs : List (List ℕ)) → Each Inside ts → takes_all (at xs) ts ≡ at (xs ++ names_in ts)
  unfolding names_in
  inside-takes [] xs h = ap at (sym (append-nil xs))
  inside-takes (t ∷ ts) xs h = go (eqb t.kind 6) refl (λ ys. inside-takes ts ys h.1)
    where
      go : (b : Bool) → eqb t.kind 6 ≡ b → ((ys : List (List ℕ)) → takes_all (at ys) ts ≡ at (ys ++ names_in ts))
          → takes_all (takes (at xs) t) ts ≡ at (xs ++ cond b (key t.content ∷ names_in ts) (names_in ts))
      go true e rest = rw (name-takes (at xs) t (eqb-true t.kind 6 e), more xs t) (rest (xs ++ (key t.content ∷ [])) ∙ ap at (append_snoc xs (key t.content) (names_in ts)))
      go false e rest = rw (inside-takes-nothing (at xs) t h.0 (eqb-false t.kind 6 e)) (rest xs)

  pub inside-clean : (ts : List Token) (xs : List (List ℕ)) → Each Inside ts
      → (Distinct xs × Clean (at xs) ts) ↔ Distinct (xs ++ names_in ts)
  unfolding names_in
  inside-clean [] xs h = rw append-nil (λ d. d.0, λ d. (d, tt))
  inside-clean (t ∷ ts) xs h = go (eqb t.kind 6) refl (λ ys. inside-clean ts ys h.1)
    where
      go : (b : Bool) → eqb t.kind 6 ≡ b → ((ys : List (List ℕ)) → (Distinct ys × Clean (at ys) ts) ↔ Distinct (ys ++ names_in ts))
          → (Distinct xs × Clean (at xs) (t ∷ ts)) ↔ Distinct (xs ++ cond b (key t.content ∷ names_in ts) (names_in ts))
      go true e rest =
          let ys : List (List ℕ) = xs ++ (key t.content ∷ []) in
          rw (name-taken (at xs) t (eqb-true t.kind 6 e), own xs, name-takes (at xs) t (eqb-true t.kind 6 e), more xs t, ← append_snoc xs (key t.content) (names_in ts)) (
            λ d. (rest ys).0 ((distinct-among xs (key t.content)).0 (d.0, d.1.0), d.1.1),
            λ d.
                let k : Distinct xs × (among (key t.content) xs ≡ false) = (distinct-among xs (key t.content)).1 ((rest ys).1 d).0 in
                (k.0, (k.1, ((rest ys).1 d).1)),
          )
      go false e rest = rw (inside-taken (at xs) t h.0 (eqb-false t.kind 6 e), inside-takes-nothing (at xs) t h.0 (eqb-false t.kind 6 e)) (λ d. (rest xs).0 (d.0, d.1.1), λ d. (((rest xs).1 d).0, (refl, ((rest xs).1 d).1)))
