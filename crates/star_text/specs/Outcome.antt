-- What a call that may refuse gives: specification 8. Believed; the split, reading, and every call that reads first cite it.
use Rattle.std.specs.Prelude.{ℕ, Bool, cond}

-- refusal and place, or what is accepted
pub data Outcome (A : Type 0) : Type 0 where
  refused : (number place : ℕ) → Outcome A
  accepted : A → Outcome A

-- goes on from what is accepted; a refusal stays
unfoldable pub then : {A B : Type 0} → Outcome A → (A → Outcome B) → Outcome B
then (refused n place) f = refused n place
then (accepted a) f = f a

-- a refusal and its place, unless the condition holds
unfoldable pub need : {A : Type 0} → Bool → (number place : ℕ) → Outcome A → Outcome A
need holds n place o = cond holds o (refused n place)

-- an answer's refusal and place, both 0 when accepted
unfoldable pub refusal_of : {A : Type 0} → Outcome A → ℕ
refusal_of (refused n place) = n
refusal_of (accepted a) = 0

unfoldable pub place_of : {A : Type 0} → Outcome A → ℕ
place_of (refused n place) = place
place_of (accepted a) = 0
