-- What a number that no kind has stands between: nothing; and so kinds that have no delimiters.
use mathlib.Core.Path.{◌≡◌, refl}
use mathlib.Core.Logic.{◌⊎◌, inl, inr}
use mathlib.Core.List.{List, []}
use Prim.Native.Nat.{ℕ, ◌<◌}
use native.Mathlib.Omega.{arith}
use borrow.Author.Tests.{ne_eqb}
use Rattle.star_lex.specs.Rules.{today}
use Rattle.star_lex.specs.Tokens.{opening}
use Rattle.star_lex.specs.Plain.{closing}
use Rattle.star_lex.specs.Kinds.{number}
use Rattle.star_lex.specs.declared.kind.Kind.{Kind}
use Rattle.star_lex.specs.declared.kind.Kind.TheVariants.{Block, Frame, FrameEnd, Loop, Stop, Name, Word, Reference, SingleQuoted, DoubleQuoted, Field, Global}

pub no-opening : (n : ℕ) → (n ≡ 0) ⊎ (12 < n) → [] ≡ opening n
unfolding opening
no-opening n (inl e) = rw e
no-opening n (inr h) =
    rw (ne_eqb n 1 (λ q. omega arith), ne_eqb n 2 (λ q. omega arith), ne_eqb n 8 (λ q. omega arith), ne_eqb n 9 (λ q. omega arith), ne_eqb n 10 (λ q. omega arith), ne_eqb n 11 (λ q. omega arith))

pub no-closing : (n : ℕ) (content : List ℕ) → (n ≡ 0) ⊎ (12 < n) → [] ≡ closing today n content
unfolding closing
no-closing n content (inl e) = rw e
no-closing n content (inr h) = rw (ne_eqb n 9 (λ q. omega arith), ne_eqb n 10 (λ q. omega arith), ne_eqb n 11 (λ q. omega arith))

pub other-opening : (k : Kind) → (k ≡ Block → ⊥) → (k ≡ Frame → ⊥) → (k ≡ Reference → ⊥) → (k ≡ SingleQuoted → ⊥) → (k ≡ DoubleQuoted → ⊥) → (k ≡ Field → ⊥)
    → [] ≡ opening (number k)
unfolding opening
other-opening Block a b c d e f = absurd (a refl)
other-opening Frame a b c d e f = absurd (b refl)
other-opening FrameEnd a b c d e f = refl
other-opening Loop a b c d e f = refl
other-opening Stop a b c d e f = refl
other-opening Name a b c d e f = refl
other-opening Word a b c d e f = refl
other-opening Reference a b c d e f = absurd (c refl)
other-opening SingleQuoted a b c d e f = absurd (d refl)
other-opening DoubleQuoted a b c d e f = absurd (e refl)
other-opening Field a b c d e f = absurd (f refl)
other-opening Global a b c d e f = refl

pub other-closing : (k : Kind) (content : List ℕ) → (k ≡ SingleQuoted → ⊥) → (k ≡ DoubleQuoted → ⊥) → (k ≡ Field → ⊥) → [] ≡ closing today (number k) content
unfolding closing
other-closing Block content a b c = refl
other-closing Frame content a b c = refl
other-closing FrameEnd content a b c = refl
other-closing Loop content a b c = refl
other-closing Stop content a b c = refl
other-closing Name content a b c = refl
other-closing Word content a b c = refl
other-closing Reference content a b c = refl
other-closing SingleQuoted content a b c = absurd (a refl)
other-closing DoubleQuoted content a b c = absurd (b refl)
other-closing Field content a b c = absurd (c refl)
other-closing Global content a b c = refl
