-- What is taken after a row of tokens.
use mathlib.Core.List.{List, [], ◌∷◌}
use Rattle.star_lex.specs.Tokens.{Token}
use Rattle.star_unique.specs.Repeat.{Taken, takes}

abbrev pub takes_all : Taken → List Token → Taken
takes_all s [] = s
takes_all s (t ∷ ts) = takes_all (takes s t) ts
