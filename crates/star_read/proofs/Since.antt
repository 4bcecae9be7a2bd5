-- A value has come since the last name or `loop_` exactly when the marks say so: going along the tokens, a value sets the mark, a name and a
-- `loop_` clear it, and no other token changes it.
use mathlib.Core.Path.{◌≡◌, refl, ap, ◌∙◌}
use mathlib.Core.Bool.{Bool, true, false}
use mathlib.Core.List.{List, [], ◌∷◌, ◌++◌}
use Prim.Native.Nat.{ℕ}
use native.Mathlib.Omega.{arith}
use Rattle.star_lex.specs.Tokens.{Token, Each}
use Rattle.star_lex.proofs.Cases.{impossible}
use Rattle.star_lex.proofs.Each.{each_append}
use Rattle.star_grammar.specs.Machine.{Sort, sort_of}
use Rattle.star_grammar.proofs.Rest.{Fixed}
use Rattle.star_grammar.proofs.Sorts.{KindOf, sort-kind, sort-value}
use Rattle.star_grammar.proofs.Marks.{mark, marks}
use Rattle.star_read.specs.Demands.{ValueSince}

-- a token of a kind of its sort: one as files have them
abbrev pub Sorted : Token → Type 0
Sorted t = KindOf t.kind (sort_of t.kind)

pub each-sorted : (ts : List Token) → Each Fixed ts → Each Sorted ts
each-sorted [] f = tt
each-sorted (t ∷ ts) f = (sort-kind t.kind f.0.least f.0.most, each-sorted ts f.1)

abbrev NotName : Token → Type 0
NotName t = t.kind ≡ 6 → ⊥

abbrev NotLoop : Token → Type 0
NotLoop t = t.kind ≡ 4 → ⊥

marks-append : (b : Bool) (p q : List Token) → marks b (p ++ q) ≡ marks (marks b p) q
marks-append b [] q = refl
marks-append b (t ∷ p) q = marks-append (mark (sort_of t.kind) b) p q

mark-stays : (n : ℕ) (k : Sort) → KindOf n k → (n ≡ 6 → ⊥) → (n ≡ 4 → ⊥) → mark k true ≡ true
mark-stays n Sort.block e a b = refl
mark-stays n Sort.global e a b = refl
mark-stays n Sort.frame e a b = refl
mark-stays n Sort.frame_end e a b = refl
mark-stays n Sort.loop e a b = absurd (b e)
mark-stays n Sort.stop e a b = refl
mark-stays n Sort.name e a b = absurd (a e)
mark-stays n Sort.value e a b = refl

marks_stay : (ts : List Token) → Each Sorted ts → Each NotName ts → Each NotLoop ts → marks true ts ≡ true
marks_stay [] f a b = refl
marks_stay (t ∷ ts) f a b =
    ap (λ c. marks c ts) (mark-stays t.kind (sort_of t.kind) f.0 a.0 b.0) ∙ marks_stay ts f.1 a.1 b.1

pub since-marks : (p : List Token) → Each Sorted p → ValueSince p → marks false p ≡ true
since-marks p f v =
    ap (marks false) v.is ∙ marks-append false v.before (v.value ∷ v.since)
    ∙ ap (λ k. marks (mark k (marks false v.before)) v.since) (sort-value v.value v.is_value)
    ∙ marks_stay v.since ((each_append Sorted v.before (v.value ∷ v.since)).0 (rw v.is at f)).1.1 v.no_name v.no_loop

-- where the mark comes from: from before the tokens, which have no name and no `loop_`, or from a value among them
data From (b : Bool) (p : List Token) : Type 0 where
  still : b ≡ true → Each NotName p → Each NotLoop p → From b p
  since : ValueSince p → From b p

since-later : (t : Token) (p : List Token) → ValueSince p → ValueSince (t ∷ p)
since-later t p v = record {
  before = t ∷ v.before;
  value = v.value;
  since = v.since;
  is = ap (λ xs. t ∷ xs) v.is;
  is_value = v.is_value;
  no_name = v.no_name;
  no_loop = v.no_loop;
}

from-later : (b : Bool) (t : Token) (p : List Token) (k : Sort) → KindOf t.kind k → From (mark k b) p → From b (t ∷ p)
from-later b t p k h (From.since v) = From.since (since-later t p v)
from-later b t p Sort.block h (From.still e n l) = From.still e ((λ q. omega arith), n) ((λ q. omega arith), l)
from-later b t p Sort.global h (From.still e n l) = From.still e ((λ q. omega arith), n) ((λ q. omega arith), l)
from-later b t p Sort.frame h (From.still e n l) = From.still e ((λ q. omega arith), n) ((λ q. omega arith), l)
from-later b t p Sort.frame_end h (From.still e n l) = From.still e ((λ q. omega arith), n) ((λ q. omega arith), l)
from-later b t p Sort.loop h (From.still e n l) = impossible cc
from-later b t p Sort.stop h (From.still e n l) = From.still e ((λ q. omega arith), n) ((λ q. omega arith), l)
from-later b t p Sort.name h (From.still e n l) = impossible cc
from-later b t p Sort.value h (From.still e n l) =
    From.since (record { before = []; value = t; since = p; is = refl; is_value = record { low = h.0; high = h.1 }; no_name = n; no_loop = l })

marks-from : (b : Bool) (p : List Token) → Each Sorted p → marks b p ≡ true → From b p
marks-from b [] f e = From.still e tt tt
marks-from b (t ∷ p) f e = from-later b t p (sort_of t.kind) f.0 (marks-from (mark (sort_of t.kind) b) p f.1 e)

pub marks-since : (p : List Token) → Each Sorted p → marks false p ≡ true → ValueSince p
marks-since p f e = at (marks-from false p f e)
  where
    at : From false p → ValueSince p
    at (From.still d n l) = impossible cc
    at (From.since v) = v
