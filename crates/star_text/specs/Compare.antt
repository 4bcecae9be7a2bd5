-- What comparing two names or codes answers: specification 5.4. Believed; the contracts of `compare` and `star_compare` cite it. Its `equal` is `same`, which uniqueness and lookup rest on.
use Rattle.std.specs.Prelude.{ℕ, suc, cond, List, [], ◌∷◌, length, ◌==◌}
use Rattle.star_text.specs.Names.{key, same}
use Rattle.star_text.specs.declared.Comparison.{Comparison}

-- the pairs of bytes from the front up to and including the first that differs, or all
unfoldable pub pairs_of : List ℕ → List ℕ → ℕ
pairs_of [] ys = 0
pairs_of (a ∷ xs) [] = 0
pairs_of (a ∷ xs) (b ∷ ys) = suc (cond (a == b) (pairs_of xs ys) 0)

-- equal or not, and the pairs that were compared: none where the lengths differ
unfoldable pub compare_of : List ℕ → List ℕ → Comparison
compare_of x y = record { equal = same x y; pairs = cond (length x == length y) (pairs_of (key x) (key y)) 0 }
