-- Which contents a kind of token may have.
use mathlib.Core.Path.{◌≡◌, refl}
use mathlib.Core.Bool.{Bool, true, false, not, ◌&&◌}
use mathlib.Core.List.{List, [], ◌∷◌}
use mathlib.Core.Option.{none}
use Prim.Native.Nat.{ℕ, ◌≤◌}
use lib.Dec.{eqb}
use lib.ListN.{length}
use Rattle.star_text.specs.Bytes.{is_terminate, is_white, is_printable, is_allowed, all}
use Rattle.star_lex.specs.Rules.{Rules, today}
use Rattle.star_lex.specs.Tokens.{Token, data_word, save_word, loop_word, stop_word, global_word}
use Rattle.star_lex.specs.Split.{after, line_end, closes}

-- the first byte is white space
unfoldable pub starts_white : List ℕ → Bool
starts_white [] = false
starts_white (b ∷ bs) = is_white b

-- no terminate, and no quote followed by white space
unfoldable pub quotable : ℕ → List ℕ → Bool
quotable q [] = true
quotable q (b ∷ bs) = not (is_terminate b) && (not (eqb b q && starts_white bs) && quotable q bs)

-- no text field closes within
unfoldable pub fieldable : (rules : Rules) → List ℕ → Bool
fieldable rules [] = true
fieldable rules (b ∷ bs) = not (closes rules (b ∷ bs)) && fieldable rules bs

-- it is the line ends' rule that decides
pub fieldable-same : (rules others : Rules) → rules.pairs ≡ others.pairs → (c : List ℕ) → fieldable rules c ≡ fieldable others c
unfolding fieldable closes line_end
fieldable-same rules others e [] = refl
fieldable-same rules others e (b ∷ bs) = rw (fieldable-same rules others e bs, e)

-- a word that no other rule takes: it begins with none of `#`, quotes, `_` and the five keywords, and with `$` only where that is all
pub record Ordinary (first : ℕ) (others : List ℕ) : Type 0 where
  pub no-comment : eqb first 35 ≡ false
  pub no-quote : eqb first 39 ≡ false
  pub no-double : eqb first 34 ≡ false
  pub no_name : eqb first 95 ≡ false
  pub no-reference : eqb first 36 ≡ true → others ≡ []
  pub no-data : after data_word (first ∷ others) ≡ none
  pub no-save : after save_word (first ∷ others) ≡ none
  pub no_loop : after loop_word (first ∷ others) ≡ none
  pub no_stop : after stop_word (first ∷ others) ≡ none
  pub no-global : after global_word (first ∷ others) ≡ none

-- the contents that each kind may have, by the rules
pub data FormedBy (rules : Rules) : Token → Type 0 where
  block : (first : ℕ) (others : List ℕ) → all is_printable (first ∷ others) ≡ true → length (first ∷ others) ≤ rules.longest
      → FormedBy rules (record { kind = 1; content = first ∷ others })
  frame : (first : ℕ) (others : List ℕ) → all is_printable (first ∷ others) ≡ true → length (first ∷ others) ≤ rules.longest
      → FormedBy rules (record { kind = 2; content = first ∷ others })
  frame_end : FormedBy rules (record { kind = 3; content = save_word })
  loop : FormedBy rules (record { kind = 4; content = loop_word })
  stop : FormedBy rules (record { kind = 5; content = stop_word })
  name : (first : ℕ) (others : List ℕ) → all is_printable (first ∷ others) ≡ true → length (95 ∷ first ∷ others) ≤ rules.longest
      → FormedBy rules (record { kind = 6; content = 95 ∷ first ∷ others })
  word : (first : ℕ) (others : List ℕ) → all is_printable (first ∷ others) ≡ true → Ordinary first others
      → FormedBy rules (record { kind = 7; content = first ∷ others })
  reference : (first : ℕ) (others : List ℕ) → all is_printable (first ∷ others) ≡ true
      → FormedBy rules (record { kind = 8; content = first ∷ others })
  single : (c : List ℕ) → all is_allowed c ≡ true → quotable 39 c ≡ true → FormedBy rules (record { kind = 9; content = c })
  double : (c : List ℕ) → all is_allowed c ≡ true → quotable 34 c ≡ true → FormedBy rules (record { kind = 10; content = c })
  text : (c : List ℕ) → all is_allowed c ≡ true → fieldable rules c ≡ true → FormedBy rules (record { kind = 11; content = c })
  global : FormedBy rules (record { kind = 12; content = global_word })

-- by today's rules
abbrev pub WellFormed : Token → Type 0
WellFormed t = FormedBy today t
