-- The numbers of a progress are those of its track, and the arrays that the code writes are the lists of the definitions.
use mathlib.Core.Path.{◌≡◌}
use mathlib.Core.List.{List, [], ◌∷◌, ◌++◌}
use Prim.Native.Nat.{ℕ, suc, ◌+◌, ◌-◌, ◌≤◌, ◌<◌}
use native.Mathlib.Numerals.{add-one}
use native.Mathlib.Omega.{arith}
use lib.ListN.{length, get_or, take, set}
use lib.Seq.{length-take-le, take-suc-set, take-set-lt, get_or-take}
use Rattle.star_text.specs.Bytes.{most_bytes}
use Rattle.star_grammar.specs.Layout.{one_more}
use Rattle.star_frames.specs.Tracked.{part_of, level_of, filled_of, track_of, Ready}
use Rattle.star_frames.specs.declared.progress.Progress.{Progress}

module _ (p : Progress) (k : Ready p) where
  pub levels-is : length (take p.levels p.counts) ≡ p.levels
  levels-is = length-take-le p.levels p.counts (omega (arith, k.tracks.size, k.tracks.fits))

  -- in a loop there is a level
  pub level_in : (part_of p.part ≡ 0 → ⊥) → level_of p.part < p.levels
  unfolding track_of
  level_in h = omega (arith, k.bounded.level h, levels-is)

  pub count-in : (i : ℕ) → i < p.levels → get_or p.counts i 0 ≤ most_bytes
  unfolding track_of
  count-in i h = omega (arith, k.bounded.few i, get_or-take p.levels p.counts i 0 h)

  pub filled_in : filled_of p.part ≤ most_bytes
  unfolding track_of
  filled_in = k.bounded.filled

module _ (counts : List ℕ) (levels : ℕ) where
  -- a level more
  pub level-more : levels < length counts → take (levels + 1) (set counts levels 0) ≡ take levels counts ++ (0 ∷ [])
  level-more h = rw (add-one levels) (take-suc-set counts levels 0 h)

  -- a name more
  pub name-more : levels ≤ length counts → 0 < levels → take levels (set counts (levels - 1) (get_or counts (levels - 1) 0 + 1)) ≡ one_more (take levels counts)
  unfolding one_more
  name-more h some =
      rw (length-take-le levels counts h, get_or-take levels counts (levels - 1) 0 (omega arith), add-one (get_or counts (levels - 1) 0))
      (take-set-lt levels counts (levels - 1) (suc (get_or counts (levels - 1) 0)) (omega arith))
