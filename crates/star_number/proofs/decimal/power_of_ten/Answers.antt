-- `power_of_ten` meets its contract: the table has the float of each power.
use mathlib.Core.Path.{◌≡◌, refl}
use mathlib.Core.List.{List, map}
use Prim.Native.Nat.{ℕ, ◌≤◌, ◌^◌, min}
use native.Mathlib.Omega.{arith}
use lib.Ieee.{Float as F64, of_bits, of_int}
use lib.ListN.{get_or}
use Rattle.std.specs.List.{range_with_len}
use Rattle.std.proofs.lemmas.List.FromFn.{get_or-map-range_with_len}
use Rattle.star_number.specs.Number.{most_power, exact}
use Rattle.star_number.specs.Held.{ten_to}
use Rattle.star_number.proofs.decimal.power_of_ten.Goals as goal

abbrev powers : List F64
powers = map (λ k. exact (10 ^ k)) (range_with_len 0 23)

read : (table : List F64) (k : ℕ) (d : F64) → table ≡ powers → k ≤ most_power → get_or table k d ≡ exact (10 ^ k)
read table k d e h = rw e (get_or-map-range_with_len (λ n. exact (10 ^ n)) 0 23 k k d (omega arith) (omega arith))

pub returns : goal.returns
unfolding ten_to exact of_bits of_int
returns c = rw c.min.ensures (read _ (min c.args.tens most_power) _ refl (omega arith))
