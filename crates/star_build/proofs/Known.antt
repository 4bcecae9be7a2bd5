-- The known values and indexes, as the definitions compute.
use mathlib.Core.Path.{refl, sym, ◌∙◌, ap}
use mathlib.Core.List.{[], ◌∷◌}
use Rattle.star_text.specs.Outcome.{need}
use Rattle.star_text.specs.Names.{key}
use Rattle.star_read.specs.Known.{of_words, full_case}
use Rattle.star_read.proofs.Known.{full_tokens, full_rows, full-read}
use Rattle.star_find.specs.Demands.{content_of}
use Rattle.star_hash.specs.Hash.{product, mixed, fnv, set_bytes, hash_of, home_of}
use Rattle.star_slots.specs.Slots.{next_slot}
use Rattle.star_index.specs.Index.{row_home, all_below, is_from_to, occurrences, is_full, is_indexed}
use Rattle.star_index.proofs.Exactly.{check-read}
use Rattle.star_build.specs.Build.{first_free, entered, filled, built, slots_of}
use Rattle.star_build.specs.Known.{IndexKnown}
use Rattle.star_build.proofs.Building.{build-read}

pub index-known : IndexKnown
unfolding need key content_of product mixed fnv set_bytes hash_of home_of row_home all_below is_from_to occurrences is_full is_indexed next_slot first_free entered filled built slots_of
index-known = (
  refl,
  refl,
  refl,
  refl,
  refl,
  refl,
  refl,
  refl,
  build-read full_case (of_words 16384) 2 (full_tokens, full_rows) full-read,
  ap (λ o. slots_of o 3) (build-read full_case (of_words 16384) 3 (full_tokens, full_rows) full-read),
  ap (λ o. slots_of o 8) (build-read full_case (of_words 16384) 8 (full_tokens, full_rows) full-read),
  check-read full_case (of_words 16384) (0 ∷ 1 ∷ 2 ∷ []) (full_tokens, full_rows) full-read ∙ sym full-read,
  check-read full_case (of_words 16384) (2 ∷ 0 ∷ 1 ∷ []) (full_tokens, full_rows) full-read,
  check-read full_case (of_words 16384) (1 ∷ 1 ∷ 2 ∷ 0 ∷ []) (full_tokens, full_rows) full-read,
  check-read full_case (of_words 16384) (0 ∷ 1 ∷ 0 ∷ []) (full_tokens, full_rows) full-read,
  refl,
)
