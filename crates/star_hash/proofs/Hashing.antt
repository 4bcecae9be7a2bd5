-- Mixing the bytes of a list: one byte more, and none left. And homes.
use mathlib.Core.Path.{◌≡◌, ap}
use mathlib.Core.List.{List, ◌++◌}
use Prim.Native.Nat.{ℕ, ◌+◌, ◌%◌, ◌≤◌, ◌<◌}
use native.Mathlib.Nat.{mod-lt}
use native.Mathlib.Numerals.{add-one}
use lib.ListN.{length, get_or, drop, drop_of_length-le}
use lib.Seq.{drop-cons}
use Rattle.star_text.specs.Names.{key}
use Rattle.star_hash.specs.Hash.{basis, mixed, fnv, set_bytes, hash_of, home_of}

module _ (h : ℕ) (x : List ℕ) (i : ℕ) where
  pub fnv-next : i < length x → fnv h (drop i x) ≡ fnv (mixed h (get_or x i 0)) (drop (i + 1) x)
  unfolding fnv
  fnv-next k = rw (drop-cons x i 0 k, add-one)

  pub fnv-end : length x ≤ i → fnv h (drop i x) ≡ h
  unfolding fnv
  fnv-end k = rw (drop_of_length-le x k)

-- equal names of a set have one home
pub home_same : (slots set : ℕ) (x y : List ℕ) → key x ≡ key y → home_of slots set x ≡ home_of slots set y
unfolding home_of hash_of
home_same slots set x y e = ap (λ k. fnv basis (set_bytes set ++ k) % slots) e

-- a home is one of the slots
pub home-inside : (slots set : ℕ) (name : List ℕ) → 0 < slots → home_of slots set name < slots
unfolding home_of
home-inside slots set name h = mod-lt (hash_of set name) h
