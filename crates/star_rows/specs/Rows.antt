-- Rows of words in a table: specification 7.1 and 9.2. Believed; what reading leaves, what lookup reads and the contracts of star_rows cite it.
use Rattle.std.specs.Prelude.{Bool, cond, ℕ, zero, suc, ◌+◌, ◌-◌, ◌*◌, ◌/◌, leb, ltb, length, get_or, take, drop, replicate, set}
use mathlib.Core.List.{List, ◌++◌, flat_map}
use Rattle.std.proofs.lemmas.List.Edits.{sets}

-- a table of that many words that holds these rows: words after the last row are 0
unfoldable pub holding {ℓ} : {A : Type ℓ} → (A → List ℕ) → List A → ℕ → List ℕ
holding row xs words = flat_map row xs ++ replicate (words - length (flat_map row xs)) 0

-- the elements from a place on are this one
abbrev pub filled_from : {A : Type 0} → ℕ → A → List A → List A
filled_from at x xs = take at xs ++ replicate (length xs - at) x

-- the words from a place on are 0
abbrev pub cleared_from : ℕ → List ℕ → List ℕ
cleared_from at words = filled_from at 0 words

-- a row is written as the n-th of its width, counted from 0, if it fits
unfoldable pub put_row : List ℕ → ℕ → List ℕ → List ℕ
put_row row n words = cond (ltb n (length words / length row)) (sets words (n * length row) row) words

-- a word of a row is written, rows and words counted from 0, if the row fits: for contracts of star_parse
unfoldable pub put_word : (width row word value : ℕ) → List ℕ → List ℕ
put_word width row word value words = cond (ltb row (length words / width)) (set words (row * width + word) value) words

-- the rows that fit a table, all of that width, over what the table held before
unfoldable pub stored {ℓ} : {A : Type ℓ} → ℕ → (A → List ℕ) → List A → List ℕ → List ℕ
stored width row xs words =
    let first : List ℕ = flat_map row (take (length words / width) xs) in
    first ++ drop (length first) words

-- a word of a row of a table, rows counted from 1 and words from 0; 0 where there is none
unfoldable pub word_of : List ℕ → (width row word : ℕ) → ℕ
word_of table width zero word = 0
word_of table width (suc n) word = get_or table (n * width + word) 0

-- a table of so many words has room for so many rows of a width
abbrev pub has_room : (rows width words : ℕ) → Bool
has_room rows width words = leb (rows * width) words
