-- From the answer on the tokens to reading in a layout: a refusal of the tokens is reading's, and after it come the grammar and the room.
use mathlib.Core.Path.{◌≡◌}
use mathlib.Core.Bool.{Bool}
use mathlib.Core.List.{List}
use lib.ListN.{length}
use Rattle.star_text.specs.Outcome.{refused, accepted, then}
use Rattle.star_lex.specs.Rules.{layout_rules, at_stops}
use Rattle.star_lex.specs.Tokens.{Placed}
use Rattle.star_lex.specs.Split.{tokens_of, placed}
use Rattle.star_lex.specs.Answer.{tokens_in}
use Rattle.star_lex.proofs.Answers.{tokens-accepted}
use Rattle.star_unique.specs.Compared.{Compared, compared_of}
use Rattle.star_unique.proofs.Comparing.{compared-refused}
use Rattle.star_read.specs.Read.{Sizes, rows_fit, grammar_of, read_by}
use Rattle.star_read.proofs.InLayout.{stops-tokens}
use Prim.Native.Nat.{ℕ}

pub read-refused : (layout : ℕ) (stops : Bool) (file : List ℕ) (w : Sizes) (r : Compared) → r ≡ compared_of layout (tokens_in file w.tokens) → (r.refusal ≡ 0 → ⊥)
    → read_by (at_stops (layout_rules layout) stops) file w ≡ refused r.refusal r.place
unfolding read_by then
read-refused layout stops file w r e f = rw (stops-tokens layout stops file w.tokens, compared-refused layout (tokens_in file w.tokens) r e f)

pub read-after : (layout : ℕ) (stops : Bool) (file : List ℕ) (w : Sizes) (ps : List Placed) → tokens_in file w.tokens ≡ accepted ps
    → read_by (at_stops (layout_rules layout) stops) file w ≡ then (grammar_of (at_stops (layout_rules layout) stops) (length file) (placed (tokens_of file))) (rows_fit w)
unfolding read_by placed then
read-after layout stops file w ps e = rw (stops-tokens layout stops file w.tokens, e, tokens-accepted file w.tokens ps e)
