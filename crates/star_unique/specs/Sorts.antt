-- The numbers of the sorts that names and codes are compared as. For contracts of star_unique's inner functions.
use Rattle.std.specs.Prelude.{ℕ, Option, Some, None}
use Rattle.star_unique.specs.declared.Sort.{Sort}
use Rattle.star_unique.specs.declared.Sort.TheVariants.{BlockCode, FrameCode, Name, FrameName}

-- the number of a sort, as `name_sort` has it
abbrev pub number : Sort → ℕ
number BlockCode = 1
number FrameCode = 2
number Name = 6
number FrameName = 13

-- 0 where there is none
abbrev pub number_of : Option Sort → ℕ
number_of None = 0
number_of (Some sort) = number sort
