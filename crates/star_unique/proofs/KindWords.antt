-- The kinds of tokens: those of a file are small, a small kind word stands for itself, and a table that holds the tokens has their kinds.
use mathlib.Core.Path.{◌≡◌, refl, sym, ◌∙◌, ap}
use mathlib.Core.List.{List, [], ◌∷◌, map}
use Prim.Native.Nat.{ℕ, zero, suc, ◌+◌, ◌%◌, ◌≤◌, ◌<◌}
use native.Mathlib.Nat.{add-zero, zero-add, add-suc, suc-add}
use native.Mathlib.Omega.{arith}
use borrow.Author.Tests.{ne_eqb}
use lib.ListN.{length, get_or}
use Rattle.star_lex.specs.Tokens.{Token, Each}
use Rattle.star_text.specs.Outcome.{refused, accepted}
use Rattle.star_lex.specs.Split.{Split, tokens_of, placed}
use Rattle.star_lex.specs.Holds.{Holds, file_tokens, token_at}
use Rattle.star_lex.proofs.Formed.{WellFormed, block, frame, frame_end, loop, stop, name, word, reference, single, double, text, global}
use Rattle.star_lex.proofs.WellFormed.{split-well-formed}
use Rattle.star_lex.proofs.Each.{each_at}
use Rattle.star_lex.proofs.Held.{nowhere, held-row, count-tokens}
use Rattle.star_unique.specs.Chain.{unmarked_kind, kinds_in, token_by, with_kinds}

pub unmark-small : (w : ℕ) → w ≤ 12 → unmarked_kind w ≡ w
unfolding unmarked_kind
unmark-small w h =
    let same : w % 16 ≡ w = omega arith in
    rw (same, ne_eqb w 13 (λ e. absurd (omega arith)))

-- tokens with other kinds
module _ (kinds : ℕ → ℕ) where
  pub length-kinds : (first : ℕ) (ts : List Token) → length (with_kinds kinds first ts) ≡ length ts
  unfolding with_kinds
  length-kinds first [] = refl
  length-kinds first (t ∷ ts) = ap suc (length-kinds (suc first) ts)

  kinds-at : (first : ℕ) (ts : List Token) (n : ℕ) (d : Token) → n < length ts
      → get_or (with_kinds kinds first ts) n d ≡ record { kind = kinds (first + n); content = (get_or ts n d).content }
  unfolding with_kinds
  kinds-at first [] n d h = absurd (omega arith)
  kinds-at first (t ∷ ts) zero d h = rw add-zero
  kinds-at first (t ∷ ts) (suc n) d h = rw (add-suc, ← suc-add) (kinds-at (suc first) ts n d (omega arith))

  -- their own kinds change nothing
  kinds-same : (first : ℕ) (ts : List Token) (d : Token) → ((n : ℕ) → n < length ts → kinds (first + n) ≡ (get_or ts n d).kind) → with_kinds kinds first ts ≡ ts
  unfolding with_kinds
  kinds-same first [] d same = refl
  kinds-same first (t ∷ ts) d same =
      let here : kinds first ≡ t.kind = ap kinds (sym (add-zero first)) ∙ same 0 (omega arith) in
      rw (here, kinds-same (suc first) ts d (λ n h. rw (suc-add, ← add-suc) (same (suc n) (omega arith))))

kind-small : (t : Token) → WellFormed t → t.kind ≤ 12
kind-small t (block first others a l) = omega arith
kind-small t (frame first others a l) = omega arith
kind-small t frame_end = omega arith
kind-small t loop = omega arith
kind-small t stop = omega arith
kind-small t (name first others a l) = omega arith
kind-small t (word first others a o) = omega arith
kind-small t (reference first others a) = omega arith
kind-small t (single c a q) = omega arith
kind-small t (double c a q) = omega arith
kind-small t (text c a f) = omega arith
kind-small t global = omega arith

pub all-formed : (file : List ℕ) → Each WellFormed (file_tokens file)
unfolding placed
all-formed file = go (tokens_of file) refl
  where
    go : (s : Split) → tokens_of file ≡ s → Each WellFormed (map (λ p. p.token) (placed s))
    go (refused n place) e = tt
    go (accepted ps) e = split-well-formed file ps e

-- the tokens of a file
module _ (file words : List ℕ) (count : ℕ) (h : Holds file words count) where
  few : (n : ℕ) → n < length (file_tokens file) → n < count
  few n k = omega (arith, count-tokens file words count h)

  pub token-by : (kinds : ℕ → ℕ) (n : ℕ) → n < count → get_or (with_kinds kinds 0 (file_tokens file)) n nowhere.token ≡ token_by file kinds n
  token-by kinds n below =
      kinds-at kinds 0 (file_tokens file) n _ (omega (arith, count-tokens file words count h)) ∙ rw zero-add

  -- their kinds are small
  pub kind-below : (n : ℕ) → n < count → (token_at file n).kind ≤ 12
  kind-below n below =
      kind-small _ (each_at WellFormed (file_tokens file) n _ (omega (arith, count-tokens file words count h)) (all-formed file))

  -- a table that holds them has their kinds
  pub kinds-held : with_kinds (kinds_in words) 0 (file_tokens file) ≡ file_tokens file
  unfolding kinds_in
  kinds-held =
      kinds-same (kinds_in words) 0 (file_tokens file) nowhere.token (λ n k. rw zero-add (ap unmarked_kind (held-row file words count h n (few n k)).kind ∙ unmark-small _ (kind-below n (few n k))))
