-- The numbers of names of a loop's levels: one or more at each.
use mathlib.Core.List.{List, [], ◌∷◌, map}
use Prim.Native.Nat.{ℕ, ◌≤◌}
use lib.ListN.{length}
use Rattle.star_lex.specs.Tokens.{Token, Each}

abbrev pub Counts : List ℕ → Type 0
Counts ls = Each (λ m. 1 ≤ m) ls

pub map-counts : (nss : List (List Token)) → Each (λ ns. 1 ≤ length ns) nss → Counts (map length nss)
map-counts [] h = tt
map-counts (ns ∷ nss) h = (h.0, map-counts nss h.1)
