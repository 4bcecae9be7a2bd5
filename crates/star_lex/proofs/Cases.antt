-- Cases of a computed choice, each with the equation that it leaves: by matching on what is tested.
use mathlib.Core.Path.{◌≡◌, refl}
use mathlib.Core.List.{List}
use mathlib.Core.Option.{Option, none, some}
use Prim.Native.Nat.{ℕ}
pub use Rattle.star_text.proofs.Cases.{impossible, cond_cases, cond-by}
use Rattle.star_lex.specs.Split.{Lexeme, either}

pub either-cases {κ} : {P : Type κ} (o : Option (List ℕ)) (f : List ℕ → Lexeme) (other z : Lexeme) → either o f other ≡ z
    → ((cs : List ℕ) → o ≡ some cs → f cs ≡ z → P) → (o ≡ none → other ≡ z → P) → P
unfolding either
either-cases none f other z e g h = h refl e
either-cases (some cs) f other z e g h = g cs refl e
