-- Laws of outcomes: what a chain of checks that accepts, or refuses, tells of each check; and what an answer's number and place tell of the outcome.
use Rattle.std.proofs.Common.{◌≡◌, ℕ, Bool, true, false, refl}
use Rattle.star_text.specs.Outcome.{Outcome, refused, accepted, then, need, refusal_of, place_of}
use Rattle.star_text.proofs.Cases.{impossible}

pub refused≢accepted : {A : Type 0} (n place : ℕ) (a : A) → refused n place ≡ accepted a → ⊥
refused≢accepted n place a e = impossible cc

pub accepted-same : {A : Type 0} {a b : A} → accepted a ≡ accepted b → a ≡ b
accepted-same e = cc

-- checks that hold and that fail
pub need-true : {A : Type 0} {holds : Bool} (n place : ℕ) (o : Outcome A) → holds ≡ true → need holds n place o ≡ o
unfolding need
need-true n place o e = rw e

pub need-false : {A : Type 0} {holds : Bool} (n place : ℕ) (o : Outcome A) → holds ≡ false → need holds n place o ≡ refused n place
unfolding need
need-false n place o e = rw e

-- what is accepted has passed each check
pub need-accepted : {A : Type 0} (holds : Bool) (n place : ℕ) (o : Outcome A) (a : A) → need holds n place o ≡ accepted a
    → (holds ≡ true) × (o ≡ accepted a)
unfolding need
need-accepted true n place o a e = (refl, e)
need-accepted false n place o a e = impossible cc

pub then-accepted : {A B : Type 0} (o : Outcome A) (f : A → Outcome B) (b : B) → then o f ≡ accepted b
    → (a : A) × (o ≡ accepted a) × (f a ≡ accepted b)
unfolding then
then-accepted (refused n place) f b e = impossible cc
then-accepted (accepted a) f b e = (a, refl, e)

-- the same goes on in the same way
pub then_same : {A B : Type 0} (o : Outcome A) (f g : A → Outcome B) → ((a : A) → f a ≡ g a) → then o f ≡ then o g
unfolding then
then_same (refused n place) f g h = refl
then_same (accepted a) f g h = h a

-- a refusal is the first check's that fails
pub need-refused {κ} : {A : Type 0} {P : Type κ} (holds : Bool) (n place : ℕ) (o : Outcome A) (m at : ℕ) → need holds n place o ≡ refused m at
    → (holds ≡ true → o ≡ refused m at → P) → (holds ≡ false → n ≡ m → place ≡ at → P) → P
unfolding need
need-refused true n place o m at e f g = f refl e
need-refused false n place o m at e f g = let a : n ≡ m = cc in let b : place ≡ at = cc in g refl a b

pub then-refused {κ} : {A B : Type 0} {P : Type κ} (o : Outcome A) (f : A → Outcome B) (m at : ℕ) → then o f ≡ refused m at
    → (o ≡ refused m at → P) → ((a : A) → o ≡ accepted a → f a ≡ refused m at → P) → P
unfolding then
then-refused (refused n place) f m at e g h = let a : n ≡ m = cc in let b : place ≡ at = cc in g (rw (a, b))
then-refused (accepted a) f m at e g h = h a refl e

-- no refusal has the number 0
abbrev pub NotZero : {A : Type 0} → Outcome A → Type 0
NotZero o = (n place : ℕ) → o ≡ refused n place → n ≡ 0 → ⊥

-- the outcome by the number and the place that are answered
pub told-refused : {A : Type 0} (o : Outcome A) (n place : ℕ) → n ≡ refusal_of o → place ≡ place_of o → (n ≡ 0 → ⊥) → o ≡ refused n place
unfolding refusal_of place_of
told-refused (refused m at) n place e d f = cc
told-refused (accepted a) n place e d f = absurd (f e)

pub told-accepted : {A : Type 0} (o : Outcome A) → NotZero o → refusal_of o ≡ 0 → (a : A) × (o ≡ accepted a)
unfolding refusal_of
told-accepted (refused n place) f e = absurd (f n place refl e)
told-accepted (accepted a) f e = (a, refl)
