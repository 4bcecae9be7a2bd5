-- The hash of a name of a set, and its home among the slots of an index: specification 19.1. Believed; what an index is, what is built and index lookup cite it.
use Rattle.std.specs.Prelude.{List, [], ◌∷◌, ◌++◌, ℕ, ◌*◌, ◌/◌, ◌%◌}
use Rattle.std.specs.Int.Bits.{bit_xor}
use Rattle.star_text.specs.Names.{key}

-- 32-bit FNV-1a: where it begins, and what it multiplies by
abbrev pub basis : ℕ
basis = 2166136261

abbrev pub prime : ℕ
prime = 16777619

-- products are taken modulo two to the 32
unfoldable pub product : (a b : ℕ) → ℕ
product a b = a * b % 4294967296

-- a byte goes in by its bits, then the product is taken
unfoldable pub mixed : (hash byte : ℕ) → ℕ
mixed hash byte = product (bit_xor hash byte) prime

unfoldable pub fnv : (hash : ℕ) → List ℕ → ℕ
fnv hash [] = hash
fnv hash (b ∷ bs) = fnv (mixed hash b) bs

-- the four bytes of a set's number, lowest first
unfoldable pub set_bytes : (set : ℕ) → List ℕ
set_bytes set = set % 256 ∷ set / 256 % 256 ∷ set / 65536 % 256 ∷ set / 16777216 % 256 ∷ []

-- the set's bytes, then the name, as names are compared
unfoldable pub hash_of : (set : ℕ) → (name : List ℕ) → ℕ
hash_of set name = fnv basis (set_bytes set ++ key name)

-- the slot where a name's row belongs, of so many
unfoldable pub home_of : (slots set : ℕ) → (name : List ℕ) → ℕ
home_of slots set name = hash_of set name % slots
