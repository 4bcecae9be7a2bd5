-- The levels of a header in an array of counts: those before the current one, innermost first, as the machine has them.
use mathlib.Core.Path.{◌≡◌, refl, sym, ◌∙◌}
use mathlib.Core.Bool.{Bool, true, false}
use mathlib.Core.List.{List, [], ◌∷◌, ◌++◌, reverse_aux}
use Prim.Native.Nat.{ℕ, zero, suc, ◌+◌, ◌-◌, ◌≤◌, ◌<◌}
use native.Mathlib.Numerals.{add-one}
use native.Mathlib.Omega.{arith}
use lib.Dec.{eqb}
use lib.ListN.{length, get_or, take, set, replicate, length-set, length-reverse_aux}
use lib.Seq.{length-take-le, take-suc-set, get_or-set_same, get_or-set_other}
use borrow.Author.Tests.{eqb-true, eqb-false}
use Rattle.star_text.specs.Bytes.{most_bytes}
use Rattle.star_parse.specs.Reader.{InLoop, Header, name_at}
use Rattle.star_parse.specs.declared.packets.LoopState.{LoopState}

-- the levels before this one, innermost first
abbrev pub outers : (level : ℕ) → List ℕ → List ℕ
outers level counts = reverse_aux (take level counts) []

reverse-last : (xs : List ℕ) (n : ℕ) (ys : List ℕ) → reverse_aux (xs ++ (n ∷ [])) ys ≡ n ∷ reverse_aux xs ys
reverse-last [] n ys = refl
reverse-last (x ∷ xs) n ys = reverse-last xs n (x ∷ ys)

reverse_twice : (xs ys zs : List ℕ) → reverse_aux (reverse_aux xs ys) zs ≡ reverse_aux ys (xs ++ zs)
reverse_twice [] ys zs = refl
reverse_twice (x ∷ xs) ys zs = reverse_twice xs (x ∷ ys) zs

-- no level has names yet
pub zeros : (n i : ℕ) → ◌≡◌ {A = ℕ} (get_or (replicate n 0) i 0) 0
zeros zero i = refl
zeros (suc n) zero = refl
zeros (suc n) (suc i) = zeros n i

pub few-none : (i : ℕ) → get_or (replicate 8 0) i 0 ≤ most_bytes
few-none i = omega (arith, zeros 8 i)

-- the names of a level that is set do not move those before it
name_set : (base : ℕ) (counts : List ℕ) (level n i : ℕ) → i ≤ level → name_at base (set counts level n) i ≡ name_at base counts i
unfolding name_at
name_set base counts level n zero h = refl
name_set base counts level n (suc i) h = rw (name_set base counts level n i (omega arith), get_or-set_other counts level i n 0 (λ e. omega arith))

-- a state of a loop before its first packet
abbrev pub opened : (counts : List ℕ) → (level first : ℕ) → LoopState
opened counts level first = record { counts = counts; levels = level + 1; level = 0; names = get_or counts 0 0; filled = 0; first = first; parent = 0 }

module _ (counts : List ℕ) (level n : ℕ) (size : length counts ≡ 8) (room : level < 8) where
  pub outers-length : length (outers level counts) ≡ level
  outers-length = length-reverse_aux (take level counts) [] ∙ rw (length-take-le level counts (omega arith)) (omega arith)

  pub outers-more : outers (level + 1) (set counts level n) ≡ n ∷ outers level counts
  outers-more = rw (add-one level, take-suc-set counts level n (omega arith)) (reverse-last (take level counts) n [])

  pub few-more : ((i : ℕ) → get_or counts i 0 ≤ most_bytes) → n ≤ most_bytes → (i : ℕ) → get_or (set counts level n) i 0 ≤ most_bytes
  few-more few h i = go (eqb i level) refl
    where
      go : (b : Bool) → eqb i level ≡ b → get_or (set counts level n) i 0 ≤ most_bytes
      go true e = rw (eqb-true i level e, get_or-set_same counts level n 0 (omega arith)) h
      go false e = rw (get_or-set_other counts level i n 0 (eqb-false i level e)) (few i)

  pub named_more : ((i : ℕ) → i < level → 0 < get_or counts i 0) → 0 < n → (i : ℕ) → i ≤ level → 0 < get_or (set counts level n) i 0
  named_more named some i h = go (eqb i level) refl
    where
      go : (b : Bool) → eqb i level ≡ b → 0 < get_or (set counts level n) i 0
      go true e = rw (eqb-true i level e, get_or-set_same counts level n 0 (omega arith)) some
      go false e = rw (get_or-set_other counts level i n 0 (eqb-false i level e)) (named i (let f : (i ≡ level → ⊥) = eqb-false i level e in omega arith))

  -- the names so far, with those of one level more
  pub name-more : (first names before : ℕ) → name_at first counts level ≡ before + 1 → names - before ≡ n → before ≤ names → name_at first (set counts level n) (level + 1) ≡ names + 1
  unfolding name_at
  name-more first names before e q h =
      rw (add-one level, name_set first counts level n level (omega arith), get_or-set_same counts level n 0 (omega arith)) (omega (arith, e, q, h))

  module _ (first : ℕ) where
    pub header-in : 0 < n → Header (opened (set counts level n) level first) (outers level counts) n
    header-in some = record {
      some = some;
      depth = omega (arith, outers-length);
      counts = reverse_twice (take level counts) [] (n ∷ [])
          ∙ sym (rw (add-one level) (take-suc-set counts level n (omega arith)));
    }

    pub loop-in : ((i : ℕ) → get_or counts i 0 ≤ most_bytes) → n ≤ most_bytes → ((i : ℕ) → i < level → 0 < get_or counts i 0) → 0 < n → first ≤ (most_bytes + 1)
        → InLoop (opened (set counts level n) level first)
    loop-in few h named some l = record {
      named = λ i k. named_more named some i (omega (arith, k));
      size = length-set counts level n ∙ size;
      some = omega arith;
      names = refl;
      limit = omega arith;
      few = few-more few h;
      first = omega arith;
    }
