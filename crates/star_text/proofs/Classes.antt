-- The class table: a table whose 256 entries pass one computed test has the class of each byte, and what such a table says of a byte is so.
use Rattle.std.proofs.Common.{◌≡◌, ℕ, zero, suc, ◌<◌, Bool, true, false, not, ◌&&◌, T, eqb, ltb, leb, List, get_or, refl, ap, ◌∙◌, not-suc-le-zero, arith, eqb→eq, le-ltb, lt-ltb, eqb-true, leb-false, leb-true}
use mathlib.Core.Bool.{beq}
use borrow.Author.Tests.{eqb-false}
use Rattle.star_text.specs.Bytes.{is_blank, is_terminate, is_white, is_printable, leading}
use Rattle.star_text.specs.Classes.{class_of, Classes, class_in, white_in, terminate_in, below_in}
use Rattle.star_text.proofs.Run.{run_agree}

pub both_left : (a b : Bool) → T (a && b) → T a
both_left true b t = tt
both_left false b t = t

pub both_right : (a b : Bool) → T (a && b) → T b
both_right true b t = t
both_right false b t = absurd t

-- each number below another passes the test
unfoldable pub below : (ℕ → Bool) → ℕ → Bool
below f zero = true
below f (suc n) = f n && below f n

pub below_at : (f : ℕ → Bool) (n b : ℕ) → T (below f n) → b < n → T (f b)
unfolding below
below_at f zero b t h = absurd (not-suc-le-zero h)
below_at f (suc n) b t h = go (below_at f n b (both_right (f n) (below f n) t)) (eqb b n) refl
  where
    go : (b < n → T (f b)) → (same : Bool) → eqb b n ≡ same → T (f b)
    go rest true e = rw (eqb-true b n e) (both_left (f n) (below f n) t)
    go rest false e = rest (omega (arith, eqb-false b n e))

-- the entry of a byte is its class
unfoldable pub right : List ℕ → ℕ → Bool
right table b = eqb (class_in table b) (class_of b)

pub classes-right : (table : List ℕ) → T (below (right table) 256) → Classes table
unfolding right
classes-right table t = record { class = λ b h. eqb→eq (class_in table b) (class_of b) (below_at (right table) 256 b t h) }

-- what the class of a byte says of it
says : ℕ → Bool
says b = beq (leb 2 (class_of b)) (is_white b) && beq (leb 3 (class_of b)) (is_terminate b)

passes : T (below says 256)
unfolding below says class_of is_white is_blank is_terminate is_printable
passes = tt

beq-eq : (a b : Bool) → T (beq a b) → a ≡ b
beq-eq true true t = refl
beq-eq true false t = absurd t
beq-eq false true t = absurd t
beq-eq false false t = refl

ltb-not-leb : (a b : ℕ) → ltb a b ≡ not (leb b a)
ltb-not-leb a b = go (leb b a) refl
  where
    go : (t : Bool) → leb b a ≡ t → ltb a b ≡ not t
    go true e = le-ltb a b (leb-true b a e)
    go false e = lt-ltb a b (leb-false b a e)

module _ {table : List ℕ} (c : Classes table) where
  module _ (b : ℕ) (h : b < 256) where
    said : T (says b)
    said = below_at says 256 b passes h

    pub white-is : white_in table b ≡ is_white b
    unfolding says
    white-is = rw (c.class b h) (beq-eq (leb 2 (class_of b)) (is_white b) (both_left (beq (leb 2 (class_of b)) (is_white b)) _ said))

    pub terminate-is : terminate_in table b ≡ is_terminate b
    unfolding says
    terminate-is = rw (c.class b h) (beq-eq (leb 3 (class_of b)) (is_terminate b) (both_right (beq (leb 2 (class_of b)) (is_white b)) _ said))

    -- classes below that of white space and of line ends
    pub below-white : below_in table 2 b ≡ not (is_white b)
    below-white = ltb-not-leb (class_in table b) 2 ∙ ap not white-is

    pub below-terminate : below_in table 3 b ≡ not (is_terminate b)
    below-terminate = ltb-not-leb (class_in table b) 3 ∙ ap not terminate-is

  -- runs of bytes by their classes
  pub run-word : (file : List ℕ) → ((i : ℕ) → get_or file i 0 < 256) → leading (below_in table 2) file ≡ leading (λ b. not (is_white b)) file
  run-word file bytes = run_agree (below_in table 2) (λ b. not (is_white b)) below-white file bytes

  pub run-line : (file : List ℕ) → ((i : ℕ) → get_or file i 0 < 256) → leading (below_in table 3) file ≡ leading (λ b. not (is_terminate b)) file
  run-line file bytes = run_agree (below_in table 3) (λ b. not (is_terminate b)) below-terminate file bytes
