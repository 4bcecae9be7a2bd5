-- How far a row has come, as the code has it. For contracts of star_frames' inner functions.
use Rattle.std.specs.Prelude.{◌≡◌, ℕ, ◌≤◌, ◌<◌, length, get_or, take}
use Rattle.star_text.specs.Bytes.{most_bytes}
use Rattle.star_grammar.specs.Layout.{Track, track}
use Rattle.star_frames.specs.declared.progress.Part.{Part}
use Rattle.star_frames.specs.declared.progress.Part.TheVariants.{Outside, Header, Packets}
use Rattle.star_frames.specs.declared.progress.Progress.{Progress}

-- the numbers that a part stands for: of the part, of the level and of the values
abbrev pub part_of : Part → ℕ
part_of Outside = 0
part_of Header = 1
part_of (Packets level filled) = 2

abbrev pub level_of : Part → ℕ
level_of Outside = 0
level_of Header = 0
level_of (Packets level filled) = level

abbrev pub filled_of : Part → ℕ
filled_of Outside = 0
filled_of Header = 0
filled_of (Packets level filled) = filled

-- the track that a progress stands for
unfoldable pub track_of : Progress → Track
track_of p = track p.inside (part_of p.part) (take p.levels p.counts) (level_of p.part) (filled_of p.part)

-- it stands for this track, and its levels are within the array
pub record Tracks (p : Progress) (t : Track) : Type 0 where
  pub size : length p.counts ≡ 8
  pub fits : p.levels ≤ 8
  pub is : track_of p ≡ t

-- no number of a track is above this one, and in a loop its level is one of the loop's
pub record Bounded (n : ℕ) (t : Track) : Type 0 where
  pub levels : length t.counts ≤ 8
  pub few : (i : ℕ) → get_or t.counts i 0 ≤ n
  pub filled : t.filled ≤ n
  pub level : (t.part ≡ 0 → ⊥) → t.level < length t.counts

-- a progress that can count one more
pub record Ready (p : Progress) : Type 0 where
  pub tracks : Tracks p (track_of p)
  pub bounded : Bounded most_bytes (track_of p)
