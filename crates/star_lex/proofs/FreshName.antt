-- Fewer than 2 to the n names leave a name of n letters free: of two next letters, one is the next in fewer than half as many, and so on
-- letter by letter until no name is left.
use mathlib.Core.Path.{◌≡◌, refl, ap}
use mathlib.Core.Bool.{Bool, true, false, cond}
use mathlib.Core.Logic.{◌≢◌, ◌⊎◌, inl, inr}
use mathlib.Core.List.Memᴰ
use mathlib.Core.List.{List, [], ◌∷◌, Memᴰ}
use Prim.Native.Nat.{ℕ, zero, suc, ◌+◌, ◌^◌, ◌≤◌, ◌<◌}
use native.Mathlib.Omega.{arith}
use borrow.Author.Tests.{ltb-true, ltb-false, eqb-true, eq-eqb}
use lib.Dec.{eqb, ltb}
use lib.ListN.{length}
use Rattle.star_text.specs.Bytes.{is_printable, all}
use Rattle.star_lex.specs.Rules.{Rules}
use Rattle.star_lex.proofs.Formed.{FormedBy, name}
use Rattle.star_lex.proofs.Cases.{impossible}

-- what follows a first byte in the names that begin with it
following : ℕ → List (List ℕ) → List (List ℕ)
following a [] = []
following a ([] ∷ ns) = following a ns
following a ((b ∷ bs) ∷ ns) = cond (eqb b a) (bs ∷ following a ns) (following a ns)

mem-following : (a : ℕ) (x : List ℕ) (ns : List (List ℕ)) → Memᴰ (a ∷ x) ns → Memᴰ x (following a ns)
unfolding following
mem-following a x [] m = absurd (Memᴰ.not-nil m)
mem-following a x ([] ∷ ns) m = go (mem-following a x ns) (Memᴰ.cases_cons m)
  where
    go : (Memᴰ (a ∷ x) ns → Memᴰ x (following a ns)) → (◌≡◌ {A = List ℕ} (a ∷ x) []) ⊎ Memᴰ (a ∷ x) ns → Memᴰ x (following a ns)
    go rest (inl e) = impossible cc
    go rest (inr m) = rest m
mem-following a x ((b ∷ bs) ∷ ns) m = go (mem-following a x ns) (Memᴰ.cases_cons m)
  where
    later : (t : Bool) → Memᴰ x (following a ns) → Memᴰ x (cond t (bs ∷ following a ns) (following a ns))
    later true m = Memᴰ.tail m
    later false m = m

    go : (Memᴰ (a ∷ x) ns → Memᴰ x (following a ns)) → (a ∷ x ≡ b ∷ bs) ⊎ Memᴰ (a ∷ x) ns → Memᴰ x (following a ((b ∷ bs) ∷ ns))
    go rest (inl e) = let q : x ≡ bs = cc in rw (eq-eqb b a (cc)) (Memᴰ.head q)
    go rest (inr m) = later (eqb b a) (rest m)

following-count : (a b : ℕ) (ns : List (List ℕ)) → a ≢ b → length (following a ns) + length (following b ns) ≤ length ns
unfolding following
following-count a b [] h = omega arith
following-count a b ([] ∷ ns) h = omega (arith, following-count a b ns h)
following-count a b ((c ∷ cs) ∷ ns) h = go (eqb c a) (eqb c b) refl refl (following-count a b ns h)
  where
    go : (s t : Bool) → eqb c a ≡ s → eqb c b ≡ t → length (following a ns) + length (following b ns) ≤ length ns
        → length (cond s (cs ∷ following a ns) (following a ns)) + length (cond t (cs ∷ following b ns) (following b ns)) ≤ suc (length ns)
    go true true e f k = absurd (omega (arith, eqb-true c a e, eqb-true c b f))
    go true false e f k = omega arith
    go false true e f k = omega arith
    go false false e f k = omega arith

-- a list of that many letters that is none of the names
record Fresh (n : ℕ) (ns : List (List ℕ)) : Type 0 where
  letters : List ℕ
  long : length letters ≡ n
  printable : all is_printable letters ≡ true
  other : Memᴰ letters ns → ⊥

fresh-cons : (a n : ℕ) (ns : List (List ℕ)) → is_printable a ≡ true → Fresh n (following a ns) → Fresh (suc n) ns
unfolding all
fresh-cons a n ns p f = record {
  letters = a ∷ f.letters;
  long = ap suc f.long;
  printable = rw (p, f.printable);
  other = λ m. f.other (mem-following a f.letters ns m);
}

fresh : (n : ℕ) (ns : List (List ℕ)) → length ns < 2 ^ n → Fresh n ns
unfolding all is_printable
fresh zero [] h = record { letters = []; long = refl; printable = refl; other = Memᴰ.not-nil }
fresh zero (x ∷ ns) h = absurd (omega arith)
fresh (suc n) ns h = go (ltb (length (following 97 ns)) (2 ^ n)) refl (fresh n (following 97 ns)) (fresh n (following 98 ns))
  where
    go : (t : Bool) → ltb (length (following 97 ns)) (2 ^ n) ≡ t
        → (length (following 97 ns) < 2 ^ n → Fresh n (following 97 ns)) → (length (following 98 ns) < 2 ^ n → Fresh n (following 98 ns))
        → Fresh (suc n) ns
    go true e f g = fresh-cons 97 n ns refl (f (omega (arith, ltb-true)))
    go false e f g =
        fresh-cons 98 n ns refl (g (omega (arith, ltb-false, following-count 97 98 ns (λ q. omega arith))))

name-formed : (rules : Rules) (x : List ℕ) → 0 < length x → length x < rules.longest → all is_printable x ≡ true → FormedBy rules (record { kind = 6; content = 95 ∷ x })
name-formed rules [] l h p = absurd (omega arith)
name-formed rules (b ∷ bs) l h p = name b bs p h

-- a name of that many letters after its underscore
pub fresh-name-of : (rules : Rules) (n : ℕ) (names : List (List ℕ)) → 0 < n → n < rules.longest → length names < 2 ^ n
    → (x : List ℕ) × FormedBy rules (record { kind = 6; content = x }) × (Memᴰ x names → ⊥)
fresh-name-of rules n names l u h =
    let f : Fresh n (following 95 names) = fresh n (following 95 names) (omega (arith, following-count 95 96 names (λ q. omega arith))) in (
      95 ∷ f.letters,
      name-formed rules f.letters (omega (arith, f.long)) (omega (arith, f.long)) f.printable,
      λ m. f.other (mem-following 95 f.letters names m),
    )

pub fresh-name : (rules : Rules) → 20 < rules.longest → (names : List (List ℕ)) → length names < 2 ^ 20
    → (x : List ℕ) × FormedBy rules (record { kind = 6; content = x }) × (Memᴰ x names → ⊥)
fresh-name rules long names h = fresh-name-of rules 20 names (omega arith) long h
