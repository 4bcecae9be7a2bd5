-- What is said of the comparison of names and codes: statements alone. Believed; star's Demands cites them.
use Rattle.std.specs.Prelude.{◌≡◌, ℕ, ◌+◌, ◌<◌, ◌≤◌, true, ◌↔◌, List, length, take, ◌≢◌, slice_index}
use Rattle.star_text.specs.Compare.{compare_of}

-- it is equality of the bytes
abbrev pub CompareEqual : Type 0
CompareEqual = (x y : List ℕ) → ((compare_of x y).equal ≡ true) ↔ (x ≡ y)

-- no more pairs than either has bytes
abbrev pub ComparePairs : Type 0
ComparePairs = (x y : List ℕ) → ((compare_of x y).pairs ≤ length x) × ((compare_of x y).pairs ≤ length y)

-- no pair where the lengths differ, all where the bytes are equal, else those before the first place where they differ and the pair there
abbrev pub CompareStops : Type 0
CompareStops = ((x y : List ℕ) → (length x ≢ length y) → (compare_of x y).pairs ≡ 0)
    × ((x : List ℕ) → (compare_of x x).pairs ≡ length x)
    × ((x y : List ℕ) (i : ℕ) → length x ≡ length y → i < length x → take i x ≡ take i y → (slice_index x i ≢ slice_index y i)
    → (compare_of x y).pairs ≡ i + 1)
