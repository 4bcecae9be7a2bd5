-- When two names or codes are equal: specification 5. Believed; uniqueness (star_grammar's Reading, star_unique's Repeat) and every lookup (star_find's Find) cite it.
use Rattle.std.specs.Prelude.{ℕ, Bool, true, false, ◌&&◌, List, [], ◌∷◌, ◌==◌}

-- what a name or code is compared by: its bytes
unfoldable pub key : List ℕ → List ℕ
key x = x

-- keys are equal byte by byte
unfoldable pub equal : List ℕ → List ℕ → Bool
equal [] [] = true
equal [] (b ∷ bs) = false
equal (a ∷ xs) [] = false
equal (a ∷ xs) (b ∷ bs) = a == b && equal xs bs

-- two names or codes are equal where their keys are
unfoldable pub same : List ℕ → List ℕ → Bool
same x y = equal (key x) (key y)
