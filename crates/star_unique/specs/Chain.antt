-- How a repeat is looked for: names and codes lie in buckets, and each row knows the last row before it in its bucket. For contracts of star_unique's inner functions;
-- what a repeat is, specs/Repeat.antt says.
use Rattle.std.specs.Prelude.{Bool, true, false, cond, ◌&&◌, ◌||◌, List, [], ◌∷◌, ℕ, zero, suc, ◌+◌, ◌*◌, ◌/◌, ◌%◌, eqb, leb, ltb, get_or, set}
use Rattle.star_text.specs.Names.{key, same}
use Rattle.star_rows.specs.Widths.{token_width}
use Rattle.star_rows.specs.Rows.{holding}
use Rattle.star_lex.specs.Tokens.{Token, token_row}
use Rattle.star_lex.specs.Split.{tokens_of, placed}
use Rattle.star_lex.specs.Holds.{token_at}
use Rattle.star_unique.specs.declared.Scope.{Scope}

-- table 1 of a file in so many words
abbrev pub held_table : List ℕ → ℕ → List ℕ
held_table file words = holding token_row (placed (tokens_of file)) words

-- what a token is compared as: 1 a block code, 2 a frame code, 6 a name of a block, 13 a name of a frame, 0 nothing
unfoldable pub name_sort : (inside : Bool) (kind : ℕ) → ℕ
name_sort inside kind = cond (eqb kind 6) (cond inside 13 6) (cond (eqb kind 1) 1 (cond (eqb kind 2) 2 0))

-- the first row of the scope that a name or code of this sort is unique in
unfoldable pub floor_of : Scope → (sort : ℕ) → ℕ
floor_of s sort = cond (eqb sort 1) 0 (cond (eqb sort 13) s.frame s.block)

-- a heading or `global_`
unfoldable pub opens_block : (kind : ℕ) → Bool
opens_block kind = eqb kind 1 || eqb kind 12

-- a value
unfoldable pub is_value_kind : (kind : ℕ) → Bool
is_value_kind kind = leb 7 kind && ltb kind 12

-- the scopes after a token of this kind, with the row after it
unfoldable pub passed : Scope → (kind next : ℕ) → Scope
passed s kind next =
    cond (opens_block kind) (record { block = next; frame = next; inside = false })
    (cond (eqb kind 2) (record { block = s.block; frame = next; inside = true })
    (cond (eqb kind 3) (record { block = s.block; frame = s.frame; inside = false }) s))

-- the scopes before the n-th token of a row, counted from 0
unfoldable pub scope_at : (ℕ → Token) → ℕ → Scope
scope_at at zero = record { block = 0; frame = 0; inside = false }
scope_at at (suc n) = passed (scope_at at n) (at n).kind (suc n)

unfoldable pub sort_at : (ℕ → Token) → ℕ → ℕ
sort_at at n = name_sort (scope_at at n).inside (at n).kind

-- the hash of a name or code, of 20 bits
unfoldable pub mix : ℕ → List ℕ → ℕ
mix h [] = h
mix h (b ∷ bs) = mix ((h * 2685 + b) % 1048576) bs

unfoldable pub hash_of : (sort : ℕ) → List ℕ → ℕ
hash_of sort x = mix (sort % 1048576) (key x)

-- its bucket: the low 12 bits
unfoldable pub bucket_of : (sort : ℕ) → List ℕ → ℕ
bucket_of sort x = hash_of sort x % 4096

-- its sign, which tells most names and codes of one bucket apart before they are compared: the sort, and above it the other 8 bits
unfoldable pub sign_of : (sort : ℕ) → List ℕ → ℕ
sign_of sort x = sort + hash_of sort x / 4096 * 16

-- the bucket of a token; 4096 where it is no name or code
unfoldable pub bucket_at : (ℕ → Token) → ℕ → ℕ
bucket_at at n = cond (eqb (sort_at at n) 0) 4096 (bucket_of (sort_at at n) (at n).content)

-- the last row below n, counted from 1, that lies in a bucket, or 0
unfoldable pub latest : (ℕ → ℕ) → (bucket n : ℕ) → ℕ
latest f b zero = 0
latest f b (suc m) = cond (eqb (f m) b) (suc m) (latest f b m)

-- the kind word of a row that was passed
unfoldable pub mark_at : (ℕ → Token) → ℕ → ℕ
mark_at at n = cond (eqb (sort_at at n) 0) (at n).kind (sign_of (sort_at at n) (at n).content + latest (bucket_at at) (bucket_at at n) n * 4096)

-- the kind that a marked word stands for
unfoldable pub unmarked_kind : ℕ → ℕ
unmarked_kind word = cond (eqb (word % 16) 13) 6 (word % 16)

-- the kinds of the rows of a table, marked or not
unfoldable pub kinds_in : List ℕ → ℕ → ℕ
kinds_in words n = unmarked_kind (get_or words (n * token_width) 0)

-- a table with the kinds of so many rows put back
unfoldable pub unmarked : (rows : ℕ) → List ℕ → List ℕ
unmarked zero words = words
unmarked (suc n) words = set (unmarked n words) (n * token_width) (kinds_in (unmarked n words) n)

-- the tokens of a file, with these kinds
abbrev pub token_by : (file : List ℕ) (kinds : ℕ → ℕ) → ℕ → Token
token_by file kinds n = record { kind = kinds n; content = (token_at file n).content }

-- a row of tokens with these kinds, the first of which has this number
unfoldable pub with_kinds : (kinds : ℕ → ℕ) (first : ℕ) → List Token → List Token
with_kinds kinds n [] = []
with_kinds kinds n (t ∷ ts) = record { kind = kinds n; content = t.content } ∷ with_kinds kinds (suc n) ts

-- a token before the n-th, not before the floor, is of this sort and equal to these bytes
unfoldable pub earlier : (ℕ → Token) → (sort : ℕ) → List ℕ → (floor n : ℕ) → Bool
earlier at sort x floor zero = false
earlier at sort x floor (suc m) = earlier at sort x floor m || (leb floor m && (eqb (sort_at at m) sort && same x (at m).content))

-- the n-th token is a name or code that is taken
unfoldable pub taken_at : (ℕ → Token) → ℕ → Bool
taken_at at n =
    cond (eqb (sort_at at n) 0) false (earlier at (sort_at at n) (at n).content (floor_of (scope_at at n) (sort_at at n)) n)
