-- Linked value rows: linking keeps names, and the next row of each is the first one of its name behind it.
use mathlib.Core.Path.{◌≡◌, refl, sym, ap}
use mathlib.Core.Bool.{cond}
use mathlib.Core.List.{List, [], ◌∷◌}
use Prim.Native.Nat.{ℕ, suc}
use lib.Dec.{eqb}
use Rattle.star_grammar.specs.Tree.{File}
use Rattle.star_grammar.specs.Tables.{ValueRow, first_of, link_to, linked_from, linked, rows_of}

-- each row's next row is the first one of its name behind it
abbrev pub Linked : (number : ℕ) → List ValueRow → Type 0
Linked number [] = Unit {0}
Linked number (v ∷ vs) = (v.next ≡ first_of v.name (suc number) vs) × Linked (suc number) vs

-- linking keeps names
pub first-linked : (name number from : ℕ) (vs : List ValueRow) → first_of name number (linked_from from vs) ≡ first_of name number vs
unfolding first_of linked_from link_to
first-linked name number from [] = refl
first-linked name number from (v ∷ vs) = ap (cond (eqb v.name name) number) (first-linked name (suc number) (suc from) vs)

pub linked-rows : (number : ℕ) (vs : List ValueRow) → Linked number (linked_from number vs)
unfolding linked_from link_to
linked-rows number [] = tt
linked-rows number (v ∷ vs) = (sym (first-linked v.name (suc number) (suc number) vs), linked-rows (suc number) vs)

-- the value rows of a tree are linked
pub tree-linked : (f : File) → Linked 1 (rows_of f).values
unfolding rows_of linked
tree-linked f = linked-rows 1 _
