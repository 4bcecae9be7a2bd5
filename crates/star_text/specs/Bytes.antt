-- The bytes of a file: specification 2. Believed; the split, `Settles` and the contract of `first_refused` cite it.
use Rattle.std.specs.Prelude.{ℕ, Bool, true, cond, ◌&&◌, ◌||◌, List, [], ◌∷◌, length, ◌==◌, nat_le}

-- a file has at most so many bytes: refusal 1
abbrev pub most_bytes : ℕ
most_bytes = 1048576

-- blank: 9, 11, 32
unfoldable pub is_blank : ℕ → Bool
is_blank b = b == 9 || b == 11 || b == 32

-- terminate: 10, 12, 13; each ends a line
unfoldable pub is_terminate : ℕ → Bool
is_terminate b = b == 10 || b == 12 || b == 13

-- white space is both
unfoldable pub is_white : ℕ → Bool
is_white b = is_blank b || is_terminate b

-- printable: 33 to 126
unfoldable pub is_printable : ℕ → Bool
is_printable b = nat_le 33 b && nat_le b 126

-- allowed bytes are 9 to 13 and 32 to 126
unfoldable pub is_allowed : ℕ → Bool
is_allowed b = nat_le 9 b && nat_le b 13 || nat_le 32 b && nat_le b 126

-- every byte passes a test
unfoldable pub all : (ℕ → Bool) → List ℕ → Bool
all p [] = true
all p (b ∷ bs) = p b && all p bs

-- the longest first part all of whose bytes pass a test
unfoldable pub leading : (ℕ → Bool) → List ℕ → List ℕ
leading p [] = []
leading p (b ∷ bs) = cond (p b) (b ∷ leading p bs) []

-- the place of the first byte that is not allowed, or the file's length where there is none
unfoldable pub first_refused : List ℕ → ℕ
first_refused file = length (leading is_allowed file)
