-- Every token of a split is well formed for its kind: each was read as a lexeme of bytes that are all allowed.
use mathlib.Core.Path.{◌≡◌, refl, sym, ◌∙◌}
use mathlib.Core.Bool.{Bool, true}
use mathlib.Core.List.{List, map}
use Prim.Native.Nat.{ℕ}
use native.Mathlib.Omega.{arith}
use Rattle.star_text.specs.Bytes.{is_allowed, all}
use Rattle.star_lex.specs.Rules.{Rules, today, at_levels}
use Rattle.star_lex.specs.Tokens.{Token, Placed, Each}
use Rattle.star_text.specs.Outcome.{accepted}
use Rattle.star_lex.specs.Split.{tokens_by, tokens_of}
use Rattle.star_lex.proofs.Formed.{FormedBy, WellFormed, fieldable-same, block, frame, frame_end, loop, stop, name, word, reference, single, double, text, global}
use Rattle.star_text.proofs.Bytes.{all_tail}
use Rattle.star_lex.proofs.Lexemes.{lexeme-token}
use Rattle.star_lex.proofs.Steps.{Steps, ends, within, passes, takes, accepted-steps, accepted-allowed}

steps-well-formed : (rules : Rules) {skip : ℕ} {line : Bool} {at : ℕ} {bs : List ℕ} {ps : List Placed} → Steps rules skip line at bs ps → all is_allowed bs ≡ true
    → Each (FormedBy rules) (map (λ p. p.token) ps)
steps-well-formed rules ends a = tt
steps-well-formed rules (within {b = b} {bs = bs} s) a = steps-well-formed rules s (all_tail is_allowed b bs a)
steps-well-formed rules (passes {b = b} {bs = bs} more e s) a = steps-well-formed rules s (all_tail is_allowed b bs a)
steps-well-formed rules (takes {line} {b = b} {bs = bs} more t e s) a =
    ((lexeme-token rules line b bs more t a e).formed, steps-well-formed rules s (all_tail is_allowed b bs a))

-- by any rules
pub well-formed-by : (rules : Rules) (file : List ℕ) (ps : List Placed) → tokens_by rules file ≡ accepted ps → Each (FormedBy rules) (map (λ p. p.token) ps)
well-formed-by rules file ps e = steps-well-formed rules (accepted-steps rules file ps e) (accepted-allowed rules file ps e)

pub split-well-formed : (file : List ℕ) (ps : List Placed) → tokens_of file ≡ accepted ps → Each WellFormed (map (λ p. p.token) ps)
split-well-formed = well-formed-by today

-- line ends and how long names and codes may be decide it
pub formed-same : {rules others : Rules} {t : Token} → rules.pairs ≡ others.pairs → rules.longest ≡ others.longest → FormedBy rules t → FormedBy others t
formed-same p l (block x xs e h) = block x xs e (omega (arith, l, h))
formed-same p l (frame x xs e h) = frame x xs e (omega (arith, l, h))
formed-same p l frame_end = frame_end
formed-same p l loop = loop
formed-same p l stop = stop
formed-same p l (name x xs e h) = name x xs e (omega (arith, l, h))
formed-same p l (word x xs e o) = word x xs e o
formed-same p l (reference x xs e) = reference x xs e
formed-same p l (single c a e) = single c a e
formed-same p l (double c a e) = double c a e
formed-same {rules} {others} p l (text c a e) = text c a (fieldable-same others rules (sym p) c ∙ e)
formed-same p l global = global

-- the number of levels has no part in it
pub formed-levels : {rules : Rules} {t : Token} (n : ℕ) → FormedBy rules t → FormedBy (at_levels rules n) t
formed-levels n h = formed-same refl refl h
