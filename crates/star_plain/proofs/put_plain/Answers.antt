-- `put_plain` meets its contract: what follows the plain form is cleared, and all where it is too long.
use mathlib.Core.Path.{◌≡◌, sym, ◌∙◌, ap}
use native.Mathlib.Omega.{arith}
use lib.ListN.{length}
use Rattle.star_plain.specs.Kept.{plain_rows, plain_in, has_place}
use Rattle.star_plain.proofs.Putting.{fill-clear}
use Rattle.star_plain.proofs.Taken.{Within, taken-within, cleared-whole, no_place, has-place}
use Rattle.star_plain.proofs.put_plain.Goals.{After-has_place, After-rows_taken-rows}
use Rattle.star_plain.proofs.put_plain.Goals as goal

within : (c : After-rows_taken-rows) → Within c.args.file.now c.args.tokens.now c.rows_taken-rows.result
within c = taken-within _ _ c.args.count _ c.rows_taken-rows.ensures

size : (c : After-has_place) → c.plain_length-size.result ≡ length (plain_in c.args.without c.args.file.now c.args.tokens.now c.args.count)
size c =
    let args = c.args in
    c.plain_length-size.ensures ∙ ap (λ n. length (plain_rows args.without args.file.now args.tokens.now n)) c.rows_taken-rows.ensures

-- what `has_place` answers of that form
placed : (c : After-has_place) → c.has_place.result ≡ has_place (length (plain_in c.args.without c.args.file.now c.args.tokens.now c.args.count)) (length c.args.out.now)
placed c = c.has_place.ensures ∙ ap (λ n. has_place n (length c.args.out.now)) (size c)

pub plain_length-size-requires : goal.plain_length-size-requires
plain_length-size-requires c = record { file_len_bound = (within c).small; count_le_most_bytes = (within c).few; count_in_bounds = (within c).held }

pub returns-then-not-has_place : goal.returns-then-not-has_place
returns-then-not-has_place c =
    record { value = size (goal.at.returns-then-not-has_place c).After-has_place; out_after = cleared-whole _ (c.clear_from.ensures 0 (λ _ e. e)) ∙ sym (no_place _ (plain_in c.args.without c.args.file.now c.args.tokens.now c.args.count) (sym (placed (goal.at.returns-then-not-has_place c).After-has_place) ∙ c.if-not-has_place.true)) }

pub put_tokens-requires : goal.put_tokens-requires
put_tokens-requires c =
    let (fits, stands) = has-place _ (plain_in c.args.without c.args.file.now c.args.tokens.now c.args.count) (sym (placed (goal.at.put_tokens-requires c).After-has_place) ∙ c.if-not-has_place.false) in
    record { count_in_bounds = (within (goal.at.put_tokens-requires c).After-rows_taken-rows).held; count_in_bounds_2 = omega (arith, fits, size (goal.at.put_tokens-requires c).After-has_place, c.plain_length-size.ensures) }

pub returns : goal.returns
returns c =
    let args = c.args in
    let (fits, stands) = has-place (length args.out.now) (plain_in c.args.without c.args.file.now c.args.tokens.now c.args.count) (sym (placed (goal.at.returns c).After-has_place) ∙ c.if-not-has_place.false) in
    let same : plain_rows args.without args.file.now args.tokens.now c.rows_taken-rows.result ≡ plain_in c.args.without c.args.file.now c.args.tokens.now c.args.count
    = ap (plain_rows args.without args.file.now args.tokens.now) c.rows_taken-rows.ensures in record {
      value = size (goal.at.returns c).After-has_place;
      out_after = fill-clear (plain_in c.args.without c.args.file.now c.args.tokens.now c.args.count) args.out.now _ (size (goal.at.returns c).After-has_place) (omega (arith, fits, size (goal.at.returns c).After-has_place)) (rw same at c.put_tokens.ensures) (c.clear_from-2.ensures 0 (λ _ e. e))
          ∙ rw (size (goal.at.returns c).After-has_place) (sym stands);
    }
