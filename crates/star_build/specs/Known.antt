-- Known values of the hash, from the test set of its authors, and known indexes: specification 15.5. Believed; proofs/Known.antt proves it.
use Rattle.std.specs.Prelude.{◌≡◌, [], ◌∷◌}
use Rattle.star_text.specs.Outcome.{refused}
use Rattle.star_read.specs.Known.{of_words, full_case}
use Rattle.star_read.specs.Read.{read_of}
use Rattle.star_hash.specs.Hash.{basis, fnv, hash_of}
use Rattle.star_index.specs.Index.{check_of}
use Rattle.star_build.specs.Build.{filled, build_of, slots_of}

abbrev pub IndexKnown : Type 0
IndexKnown =
    -- no byte, `a`, `b`, `fo`, `foo`, `foobar`
    (fnv basis [] ≡ 2166136261)
    × (fnv basis (97 ∷ []) ≡ 3826002220)
    × (fnv basis (98 ∷ []) ≡ 3876335077)
    × (fnv basis (102 ∷ 111 ∷ []) ≡ 1646454850)
    × (fnv basis (102 ∷ 111 ∷ 111 ∷ []) ≡ 2851307223)
    × (fnv basis (102 ∷ 111 ∷ 111 ∷ 98 ∷ 97 ∷ 114 ∷ []) ≡ 3214735720)
    -- `_x` of set 1, and of set 258, whose bytes are 2, 1, 0, 0
    × (hash_of 1 (95 ∷ 120 ∷ []) ≡ 1710824635)
    × (hash_of 258 (95 ∷ 120 ∷ []) ≡ 2733557923)
    -- the names `_x` and `_y` of the full case in 2 slots, in 3 and in 8
    × (build_of full_case (of_words 16384) 2 ≡ refused 7 8)
    × (slots_of (build_of full_case (of_words 16384) 3) 3 ≡ (0 ∷ 1 ∷ 2 ∷ []))
    × (slots_of (build_of full_case (of_words 16384) 8) 8 ≡ (2 ∷ 0 ∷ 0 ∷ 1 ∷ 0 ∷ 0 ∷ 0 ∷ 0 ∷ []))
    -- the index in 3 slots is accepted; with the rows in other slots, with a row twice and with one missing it is not
    × (check_of full_case (of_words 16384) (0 ∷ 1 ∷ 2 ∷ []) ≡ read_of full_case (of_words 16384))
    × (check_of full_case (of_words 16384) (2 ∷ 0 ∷ 1 ∷ []) ≡ refused 15 0)
    × (check_of full_case (of_words 16384) (1 ∷ 1 ∷ 2 ∷ 0 ∷ []) ≡ refused 15 0)
    × (check_of full_case (of_words 16384) (0 ∷ 1 ∷ 0 ∷ []) ≡ refused 15 0)
    -- two rows whose home is the last of three slots: the second goes round the end
    × (filled (λ row. 2) (0 ∷ 0 ∷ 0 ∷ []) 2 ≡ (2 ∷ 0 ∷ 1 ∷ []))
