-- The numbers of the kinds of tokens: specification 7.2.
use Rattle.std.specs.Prelude.{◌≡◌, ◌⊎◌, ◌<◌, ℕ, Result, MatchResult}
use Rattle.star_lex.specs.declared.kind.Kind.{Kind}
use Rattle.star_lex.specs.declared.kind.Kind.TheVariants.{Block, Frame, FrameEnd, Loop, Stop, Name, Word, Reference, SingleQuoted, DoubleQuoted, Field, Global}
use Rattle.star_lex.specs.declared.kind.NoKind.{NoKind}

abbrev pub number : Kind → ℕ
number Block = 1
number Frame = 2
number FrameEnd = 3
number Loop = 4
number Stop = 5
number Name = 6
number Word = 7
number Reference = 8
number SingleQuoted = 9
number DoubleQuoted = 10
number Field = 11
number Global = 12

-- the kind with this number, or an error where none has it
abbrev pub Decodes : ℕ → Result Kind NoKind → Type 0
Decodes word r = MatchResult r (λ kind. number kind ≡ word) (λ e. (e.0 ≡ word) × ((word ≡ 0) ⊎ (12 < word)))
