-- `lexeme` meets its contract: the rules are tried in their order.
use mathlib.Core.Path.{◌≡◌, refl, sym, ◌∙◌, ap}
use Prim.Native.Nat.{◌+◌}
use native.Mathlib.Nat.{add-zero}
use native.Mathlib.Omega.{arith}
use borrow.Author.Tests.{eq-eqb, ne_eqb}
use lib.ListN.{length, get_or, drop}
use lib.Seq.{get_or-drop}
use Rattle.star_text.specs.Bytes.{is_white}
use Rattle.star_text.proofs.Classes.{white-is, run-line}
use Rattle.star_lex.specs.Tokens.{opening}
use Rattle.star_lex.specs.Split.{lexeme, quoted, quoted_lexeme}
use Rattle.star_lex.specs.Answer.{Gap, scanned_at}
use Rattle.star_split.proofs.lexeme.Goals.{After-is_white}
use Rattle.star_split.proofs.lexeme.Goals as goal

-- the byte is white space
white : (c : After-is_white) → c.is_white.result ≡ is_white (get_or c.args.file.now c.args.at 0)
white c =
    c.is_white.ensures
    ∙ white-is c.requires.classes _ (omega (arith, c.shared_slice_known-2-1.given c.args.at))

pub returns-then-is_white : goal.returns-then-is_white
unfolding lexeme scanned_at
returns-then-is_white c = rw ((sym (white (goal.at.returns-then-is_white c).After-is_white) ∙ c.if-is_white.true), add-zero)

pub returns-then-b-eq35 : goal.returns-then-b-eq35
unfolding lexeme scanned_at
returns-then-b-eq35 c =
    rw ((sym (white (goal.at.returns-then-b-eq35 c).After-is_white) ∙ c.if-is_white.false), eq-eqb _ 35 c.if-b-eq35.true)
    (ap Gap (c.run_end.ensures ∙ ap (λ r. c.args.at + 1 + length r) (run-line c.requires.classes (drop (c.args.at + 1) c.args.file.now)
    (λ i. rw get_or-drop (omega (arith, c.shared_slice_known-1.given (c.args.at + 1 + i)))))))

pub returns-then-opens_field : goal.returns-then-opens_field
unfolding lexeme scanned_at
returns-then-opens_field c =
    rw ((sym (white (goal.at.returns-then-opens_field c).After-is_white) ∙ c.if-is_white.false), ne_eqb _ 35 c.if-b-eq35.false, (sym c.opens_field.ensures ∙ c.if-opens_field.true)) c.text_field.ensures

pub quoted_string-requires : goal.quoted_string-requires
unfolding opening
quoted_string-requires c =
    record { at_in_bounds = c.requires.at_in_bounds; kind_len = refl; quote_value = sym (white (goal.at.quoted_string-requires c).After-is_white) ∙ c.if-is_white.false; classes = c.requires.classes }

pub returns-then-b-eq39 : goal.returns-then-b-eq39
unfolding lexeme scanned_at
returns-then-b-eq39 c =
    rw ((sym (white (goal.at.returns-then-b-eq39 c).After-is_white) ∙ c.if-is_white.false), ne_eqb _ 35 c.if-b-eq35.false, (sym c.opens_field.ensures ∙ c.if-opens_field.false), eq-eqb _ 39 c.if-b-eq39.true)
    (c.quoted_string.ensures ∙ ap (λ n. scanned_at c.args.at (quoted_lexeme 9 (quoted n (drop (c.args.at + 1) c.args.file.now)))) c.if-b-eq39.true)

pub quoted_string-requires-then-b-eq34 : goal.quoted_string-requires-then-b-eq34
unfolding opening
quoted_string-requires-then-b-eq34 c =
    record { at_in_bounds = c.requires.at_in_bounds; kind_len = refl; quote_value = sym (white (goal.at.quoted_string-requires-then-b-eq34 c).After-is_white) ∙ c.if-is_white.false; classes = c.requires.classes }

pub returns-then-b-eq34 : goal.returns-then-b-eq34
unfolding lexeme scanned_at
returns-then-b-eq34 c =
    rw ((sym (white (goal.at.returns-then-b-eq34 c).After-is_white) ∙ c.if-is_white.false), ne_eqb _ 35 c.if-b-eq35.false, (sym c.opens_field.ensures ∙ c.if-opens_field.false), ne_eqb _ 39 c.if-b-eq39.false, eq-eqb _ 34 c.if-b-eq34.true)
    (c.quoted_string-then-b-eq34.ensures ∙ ap (λ n. scanned_at c.args.at (quoted_lexeme 10 (quoted n (drop (c.args.at + 1) c.args.file.now)))) c.if-b-eq34.true)

pub word_at-requires : goal.word_at-requires
word_at-requires c =
    record { at_in_bounds = c.requires.at_in_bounds; at_value = sym (white (goal.at.word_at-requires c).After-is_white) ∙ c.if-is_white.false; classes = c.requires.classes }

pub returns : goal.returns
unfolding lexeme scanned_at
returns c =
    rw ((sym (white (goal.at.returns c).After-is_white) ∙ c.if-is_white.false), ne_eqb _ 35 c.if-b-eq35.false, (sym c.opens_field.ensures ∙ c.if-opens_field.false), ne_eqb _ 39 c.if-b-eq39.false, ne_eqb _ 34 c.if-b-eq34.false) c.word_at.ensures
