-- `is_limited` meets its contract, by the kind.
use mathlib.Core.Path.{◌≡◌, refl}
use mathlib.Core.Bool.{true, false}
use mathlib.Core.Logic.{◌⊎◌, inl, inr}
use Rattle.star_lex.specs.Kinds.{number}
use Rattle.star_lex.specs.Fits.{is_limited}
use Rattle.star_lex.specs.declared.kind.Kind.{Kind}
use Rattle.star_lex.specs.declared.kind.Kind.TheVariants.{Block, Frame, FrameEnd, Loop, Stop, Name, Word, Reference, SingleQuoted, DoubleQuoted, Field, Global}
use Rattle.star_check.proofs.is_limited.Goals as goal

limited : (k : Kind) → (k ≡ Block) ⊎ ((k ≡ Frame) ⊎ (k ≡ Name)) → true ≡ is_limited (number k)
unfolding is_limited
limited k (inl e) = rw e
limited k (inr (inl e)) = rw e
limited k (inr (inr e)) = rw e

unlimited : (k : Kind) → (k ≡ Block → ⊥) → (k ≡ Frame → ⊥) → (k ≡ Name → ⊥) → false ≡ is_limited (number k)
unfolding is_limited
unlimited Block f g h = absurd (f refl)
unlimited Frame f g h = absurd (g refl)
unlimited FrameEnd f g h = refl
unlimited Loop f g h = refl
unlimited Stop f g h = refl
unlimited Name f g h = absurd (h refl)
unlimited Word f g h = refl
unlimited Reference f g h = refl
unlimited SingleQuoted f g h = refl
unlimited DoubleQuoted f g h = refl
unlimited Field f g h = refl
unlimited Global f g h = refl

pub returns-in-Block : goal.returns-in-Block
returns-in-Block c = limited c.args.kind c.in-Block.is

pub returns-in_default : goal.returns-in_default
returns-in_default c = unlimited c.args.kind c.in_default.not-Block c.in_default.not-Frame c.in_default.not-Name
