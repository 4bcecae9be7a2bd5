-- Of a table that holds a file's tokens the rows that are taken are those tokens.
use mathlib.Core.Path.{◌≡◌, refl, sym, ◌∙◌, ap}
use mathlib.Core.Bool.{Bool}
use mathlib.Core.List.{List, [], ◌∷◌, ◌++◌}
use Prim.Native.Nat.{ℕ, zero, suc, ◌*◌, ◌≤◌}
use native.Mathlib.Omega.{arith}
use borrow.Author.Tests.{le-leb}
use lib.ListN.{length, take}
use lib.Seq.{take-suc, take_all}
use Rattle.star_rows.specs.Widths.{token_width}
use Rattle.star_lex.specs.Plain.{plain_of}
use Rattle.star_lex.specs.Holds.{Holds, file_tokens, token_at}
use Rattle.star_lex.proofs.Held.{held-row, held-content, count-tokens, count_small}
use Rattle.star_plain.specs.Kept.{kept_row, token_in, first_tokens, rows_taken, plain_in}

module _ (file words : List ℕ) (count : ℕ) (h : Holds file words count) where
  held_first : (n : ℕ) → n ≤ count → first_tokens file words n ≡ take n (file_tokens file)
  unfolding first_tokens
  held_first zero g = refl
  held_first (suc n) g =
      let t : token_in file words n ≡ token_at file n = rw ((held-row file words count h n (omega arith)).kind, held-content file words count h n (omega arith)) in
      ap (λ ts. ts ++ (token_in file words n ∷ [])) (held_first n (omega arith)) ∙ ap (λ u. take n (file_tokens file) ++ (u ∷ [])) t
      ∙ sym (take-suc (file_tokens file) n _ (omega (arith, count-tokens file words count h)))

  held-taken : rows_taken file words count ≡ count
  unfolding rows_taken
  held-taken = rw (le-leb _ _ h.small, le-leb _ _ (count_small file words count h), le-leb (count * token_width) (length words) (omega (arith, h.room, h.count_is)))

  pub held_plain : (without : Bool) → plain_in without file words count ≡ plain_of (kept_row without (file_tokens file))
  held_plain without =
      ap (λ n. plain_of (kept_row without (first_tokens file words n))) held-taken
      ∙ ap (λ ts. plain_of (kept_row without ts)) (held_first count (omega arith) ∙ take_all count (file_tokens file) (omega (arith, count-tokens file words count h)))
