-- The sorts of the code by their numbers, and what stands at a place.
use mathlib.Core.Path.{◌≡◌, refl, sym, ap, ◌∙◌}
use mathlib.Core.List.{List}
use Prim.Native.Nat.{ℕ, ◌*◌, ◌≤◌, ◌<◌}
use native.Mathlib.Omega.{arith}
use lib.ListN.{get_or}
use Rattle.star_grammar.specs.Machine as Machine
use Rattle.star_grammar.specs.Machine.{sort_of}
use Rattle.star_grammar.specs.Sorted.{meant}
use Rattle.star_grammar.specs.declared.sort.Sort.{Sort}
use Rattle.star_grammar.specs.declared.sort.Sort.TheVariants.{Block, Frame, FrameEnd, Loop, Stop, Name, Value, Global}
use Rattle.star_text.specs.Refusal.{number}
use Rattle.star_text.specs.declared.refusal.Reason.{Reason}
use Rattle.star_text.specs.declared.refusal.Reason.TheVariants.{TooLong, BadByte, IllFormed, LongName, OpenQuote, OpenField, NoRoom, OutOfPlace, Taken, Incomplete, TooDeep, NoLayout, NoIndex, HeaderStop}
use Rattle.star_parse.specs.Reached.{coded}
use Rattle.star_parse.specs.Reader.{sort_number, number_of, sort_at, Ahead}
use Rattle.star_parse.proofs.Ahead.{sort-in, sort-past}

-- no reason has the number 0
pub number-some : (r : Reason) → number r ≡ 0 → ⊥
number-some TooLong e = omega arith
number-some BadByte e = omega arith
number-some IllFormed e = omega arith
number-some LongName e = omega arith
number-some OpenQuote e = omega arith
number-some OpenField e = omega arith
number-some NoRoom e = omega arith
number-some OutOfPlace e = omega arith
number-some Taken e = omega arith
number-some Incomplete e = omega arith
number-some TooDeep e = omega arith
number-some NoLayout e = omega arith
number-some NoIndex e = omega arith
number-some HeaderStop e = omega arith

pub coded-some : (k : Sort) → coded k ≡ 0 → ⊥
coded-some Block e = omega arith
coded-some Frame e = omega arith
coded-some FrameEnd e = omega arith
coded-some Loop e = omega arith
coded-some Stop e = omega arith
coded-some Name e = omega arith
coded-some Value e = omega arith
coded-some Global e = omega arith

coded-meant : (k : Sort) → sort_number (meant k) ≡ coded k
unfolding sort_number
coded-meant Block = refl
coded-meant Frame = refl
coded-meant FrameEnd = refl
coded-meant Loop = refl
coded-meant Stop = refl
coded-meant Name = refl
coded-meant Value = refl
coded-meant Global = refl

-- two sorts with one number are one
sort_coded : ℕ → Sort
sort_coded n = back (sort_of n)
  where
    back : Machine.Sort → Sort
    back Machine.block = Block
    back Machine.frame = Frame
    back Machine.frame_end = FrameEnd
    back Machine.loop = Loop
    back Machine.stop = Stop
    back Machine.name = Name
    back Machine.value = Value
    back Machine.global = Global

coded-back : (k : Sort) → sort_coded (coded k) ≡ k
unfolding sort_of sort_coded
coded-back Block = refl
coded-back Frame = refl
coded-back FrameEnd = refl
coded-back Loop = refl
coded-back Stop = refl
coded-back Name = refl
coded-back Value = refl
coded-back Global = refl

coded-same : (j k : Sort) → coded j ≡ coded k → j ≡ k
coded-same j k e = sym (coded-back j) ∙ ap sort_coded e ∙ coded-back k

module _ (count : ℕ) (words : List ℕ) (at : ℕ) where
  -- the sort of the token at a place
  module _ (own : Sort) (h : at < count) (e : meant own ≡ sort_of (get_or words (at * 3) 0)) where
    own-at : sort_at count words at ≡ coded own
    unfolding number_of
    own-at = sort-in count words at h ∙ sym (ap sort_number e) ∙ coded-meant own

    pub ahead-own : (sort : Sort) → own ≡ sort → Ahead count words at (coded sort)
    ahead-own sort s = record { is = own-at ∙ ap coded s; token = h }

    pub ahead-other : (sort : Sort) → (own ≡ sort → ⊥) → sort_at count words at ≡ coded sort → ⊥
    ahead-other sort n q = n (coded-same own sort (sym own-at ∙ q))

  -- past the last token
  pub ahead-none : (sort : Sort) → count ≤ at → sort_at count words at ≡ coded sort → ⊥
  ahead-none sort h q = coded-some sort (sym q ∙ sort-past count words at h)
