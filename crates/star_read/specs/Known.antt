-- The cases that specification 15 marks to be proved, over the definitions. Believed; proofs/Known.antt proves it. `/` in a comment stands for byte 10.
use Rattle.std.specs.Prelude.{◌≡◌, List, [], ◌∷◌, map, ℕ}
use Rattle.star_text.specs.Outcome.{refused, accepted}
use Rattle.star_lex.specs.Tokens.{Token}
use Rattle.star_lex.specs.Plain.{plain_of}
use Rattle.star_read.specs.Read.{ReadOutcome, Sizes, tokens_only, read_of}
use Rattle.star_read.specs.Answer.{tables, tables_of}

-- tables of so many words each
abbrev pub of_words : ℕ → Sizes
of_words n = record { tokens = n; sets = n; names = n; packets = n; values = n }

-- the tokens of an accepted file
unfoldable pub read_tokens : ReadOutcome → List Token
read_tokens (refused n place) = []
read_tokens (accepted (ps, rows)) = tokens_only ps

-- `data_a/loop_/_x/loop_/_y/1 2 3 stop_ 4 stop_/`
abbrev pub full_case : List ℕ
full_case = (100 ∷ 97 ∷ 116 ∷ 97 ∷ 95 ∷ 97 ∷ 10 ∷ 108 ∷ 111 ∷ 111 ∷ 112 ∷ 95 ∷ 10 ∷ 95 ∷ 120 ∷ 10 ∷ 108 ∷ 111 ∷ 111 ∷ 112 ∷ 95 ∷ 10 ∷ 95 ∷ 121 ∷ 10 ∷ 49 ∷ 32 ∷ 50 ∷ 32 ∷ 51 ∷ 32 ∷ 115 ∷ 116 ∷ 111 ∷ 112 ∷ 95 ∷ 32 ∷ 52 ∷ 32 ∷ 115 ∷ 116 ∷ 111 ∷ 112 ∷ 95 ∷ 10 ∷ [])

abbrev pub Known : Type 0
Known =
    -- the full case: tokens, sets, names, packets and values, each in a table of just their words
    (tables_of (read_of full_case (record { tokens = 33; sets = 3; names = 8; packets = 12; values = 16 }))
    (record { tokens = 33; sets = 3; names = 8; packets = 12; values = 16 })
    ≡ tables (1 ∷ 5 ∷ 6 ∷ 4 ∷ 7 ∷ 12 ∷ 6 ∷ 13 ∷ 15 ∷ 4 ∷ 16 ∷ 21 ∷ 6 ∷ 22 ∷ 24 ∷ 7 ∷ 25 ∷ 26 ∷ 7 ∷ 27 ∷ 28 ∷ 7 ∷ 29 ∷ 30 ∷ 5 ∷ 31 ∷ 36 ∷ 7 ∷ 37 ∷ 38 ∷ 5 ∷ 39 ∷ 44 ∷ []) (1 ∷ 1 ∷ 0 ∷ []) (1 ∷ 3 ∷ 1 ∷ 1 ∷ 1 ∷ 5 ∷ 1 ∷ 2 ∷ [])
    (1 ∷ 1 ∷ 0 ∷ 1 ∷ 2 ∷ 1 ∷ 1 ∷ 2 ∷ 1 ∷ 1 ∷ 1 ∷ 0 ∷ [])
    (1 ∷ 1 ∷ 6 ∷ 4 ∷ 2 ∷ 2 ∷ 7 ∷ 3 ∷ 2 ∷ 3 ∷ 8 ∷ 0 ∷ 1 ∷ 4 ∷ 10 ∷ 0 ∷ []))
    -- its plain form, `data_a/loop_/_x/loop_/_y/1/2/3/stop_/4/stop_/`
    × (plain_of (read_tokens (read_of full_case (of_words 100)))
    ≡ (100 ∷ 97 ∷ 116 ∷ 97 ∷ 95 ∷ 97 ∷ 10 ∷ 108 ∷ 111 ∷ 111 ∷ 112 ∷ 95 ∷ 10 ∷ 95 ∷ 120 ∷ 10 ∷ 108 ∷ 111 ∷ 111 ∷ 112 ∷ 95 ∷ 10 ∷ 95 ∷ 121 ∷ 10 ∷ 49 ∷ 10 ∷ 50 ∷ 10 ∷ 51 ∷ 10 ∷ 115 ∷ 116 ∷ 111 ∷ 112 ∷ 95 ∷ 10 ∷ 52 ∷ 10 ∷ 115 ∷ 116 ∷ 111 ∷ 112 ∷ 95 ∷ 10 ∷ []))
    -- the empty file is accepted, with no rows
    × (tables_of (read_of [] (of_words 0)) (of_words 0) ≡ tables [] [] [] [] [])
    -- `data_`
    × (read_of (100 ∷ 97 ∷ 116 ∷ 97 ∷ 95 ∷ []) (of_words 100) ≡ refused 3 0)
    -- `loop_`
    × (read_of (108 ∷ 111 ∷ 111 ∷ 112 ∷ 95 ∷ []) (of_words 100) ≡ refused 8 0)
    -- `data_a _x`
    × (read_of (100 ∷ 97 ∷ 116 ∷ 97 ∷ 95 ∷ 97 ∷ 32 ∷ 95 ∷ 120 ∷ []) (of_words 100) ≡ refused 8 9)
    -- `data_a _x 1 _x 2`
    × (read_of (100 ∷ 97 ∷ 116 ∷ 97 ∷ 95 ∷ 97 ∷ 32 ∷ 95 ∷ 120 ∷ 32 ∷ 49 ∷ 32 ∷ 95 ∷ 120 ∷ 32 ∷ 50 ∷ []) (of_words 100) ≡ refused 9 12)
    -- `data_a loop_ _x _y 1 2 3`
    × (read_of (100 ∷ 97 ∷ 116 ∷ 97 ∷ 95 ∷ 97 ∷ 32 ∷ 108 ∷ 111 ∷ 111 ∷ 112 ∷ 95 ∷ 32 ∷ 95 ∷ 120 ∷ 32 ∷ 95 ∷ 121 ∷ 32 ∷ 49 ∷ 32 ∷ 50 ∷ 32 ∷ 51 ∷ []) (of_words 100) ≡ refused 10 24)
    -- `data_a loop_ _x loop_ _y 1 2`
    × (read_of (100 ∷ 97 ∷ 116 ∷ 97 ∷ 95 ∷ 97 ∷ 32 ∷ 108 ∷ 111 ∷ 111 ∷ 112 ∷ 95 ∷ 32 ∷ 95 ∷ 120 ∷ 32 ∷ 108 ∷ 111 ∷ 111 ∷ 112 ∷ 95 ∷ 32 ∷ 95 ∷ 121 ∷ 32 ∷ 49 ∷ 32 ∷ 50 ∷ []) (of_words 100) ≡ refused 10 28)
    -- `data_a loop_ _x 1 stop_`
    × (read_of (100 ∷ 97 ∷ 116 ∷ 97 ∷ 95 ∷ 97 ∷ 32 ∷ 108 ∷ 111 ∷ 111 ∷ 112 ∷ 95 ∷ 32 ∷ 95 ∷ 120 ∷ 32 ∷ 49 ∷ 32 ∷ 115 ∷ 116 ∷ 111 ∷ 112 ∷ 95 ∷ []) (of_words 100) ≡ refused 8 18)
    -- `data_a/_x/;p/;q`
    × (read_of (100 ∷ 97 ∷ 116 ∷ 97 ∷ 95 ∷ 97 ∷ 10 ∷ 95 ∷ 120 ∷ 10 ∷ 59 ∷ 112 ∷ 10 ∷ 59 ∷ 113 ∷ []) (of_words 100) ≡ refused 6 10)
    -- `data_a _x 'it's'`: the value `it's`
    × (map (λ t. t.content) (read_tokens (read_of (100 ∷ 97 ∷ 116 ∷ 97 ∷ 95 ∷ 97 ∷ 32 ∷ 95 ∷ 120 ∷ 32 ∷ 39 ∷ 105 ∷ 116 ∷ 39 ∷ 115 ∷ 39 ∷ []) (of_words 100)))
    ≡ ((97 ∷ []) ∷ (95 ∷ 120 ∷ []) ∷ (105 ∷ 116 ∷ 39 ∷ 115 ∷ []) ∷ []))
