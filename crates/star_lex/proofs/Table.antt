-- Laws of the content that a row of table 1 spans: what the checks in their order leave of the definition.
use mathlib.Core.Path.{◌≡◌, refl, ◌∙◌}
use mathlib.Core.Bool.{Bool, true, false, cond, ◌&&◌}
use mathlib.Core.List.{List, []}
use mathlib.Core.Option.{Option, none, some}
use Prim.Native.Nat.{ℕ, ◌+◌, ◌-◌, ◌*◌, ◌≤◌, ◌<◌}
use borrow.Author.Tests.{le-leb, lt-leb, leb-true}
use lib.Dec.{leb}
use lib.ListN.{length, get_or, take, drop}
use Rattle.star_rows.specs.Widths.{token_width}
use Rattle.star_lex.specs.Tokens.{opening}
use Rattle.star_lex.specs.Answer.{is_some}
use Rattle.star_lex.specs.Table.{part_of, content_in, or_empty, start_in, first_byte}
use Rattle.star_lex.proofs.Cases.{impossible}

module _ (file : List ℕ) (start end : ℕ) where
  pub part-whole : start ≤ end → end ≤ length file → part_of file start end ≡ some (take (end - start) (drop start file))
  unfolding part_of
  part-whole h k = rw (le-leb start end h, le-leb end (length file) k)

  pub part-backward : end < start → part_of file start end ≡ none
  unfolding part_of
  part-backward h = rw (lt-leb start end h)

  -- whether it is a part, where it is not backward
  pub part-some : start ≤ end → is_some (part_of file start end) ≡ leb end (length file)
  unfolding part_of is_some
  part-some h = rw (le-leb start end h) (go (leb end (length file)))
    where
      go : (t : Bool) → is_some (cond t (some (take (end - start) (drop start file))) none) ≡ t
      go true = refl
      go false = refl

  -- a part lies within the file
  pub part-inside : is_some (part_of file start end) ≡ true → (start ≤ end) × (end ≤ length file)
  unfolding part_of is_some
  part-inside = go (leb start end) refl (leb end (length file)) refl
    where
      go : (t : Bool) → leb start end ≡ t → (s : Bool) → leb end (length file) ≡ s
          → is_some (cond (t && s) (some (take (end - start) (drop start file))) none) ≡ true → (start ≤ end) × (end ≤ length file)
      go true e true d h = (leb-true _ _ e, leb-true _ _ d)
      go true e false d h = impossible cc
      go false e s d h = impossible cc

-- a row of the words that spans a part of the file
pub record Spans (file words : List ℕ) (n : ℕ) : Type 0 where
  pub row : n * token_width + token_width ≤ length words
  pub ordered : get_or words (n * token_width + 1) 0 ≤ get_or words (n * token_width + 2) 0
  pub within : get_or words (n * token_width + 2) 0 ≤ length file

module _ (file words : List ℕ) (n : ℕ) where
  pub content-row : n * token_width + token_width ≤ length words → content_in file words n ≡ part_of file (get_or words (n * token_width + 1) 0) (get_or words (n * token_width + 2) 0)
  unfolding content_in
  content-row h = rw (le-leb (n * token_width + token_width) (length words) h)

  pub content-none : length words < n * token_width + token_width → content_in file words n ≡ none
  unfolding content_in
  content-none h = rw (lt-leb (n * token_width + token_width) (length words) h)

  -- the row of a content is there, and spans it
  pub content-inside : is_some (content_in file words n) ≡ true → Spans file words n
  unfolding content_in is_some
  content-inside = go (leb (n * token_width + token_width) (length words)) refl
    where
      go : (t : Bool) → leb (n * token_width + token_width) (length words) ≡ t → is_some (cond t (part_of file (get_or words (n * token_width + 1) 0) (get_or words (n * token_width + 2) 0)) none) ≡ true
          → Spans file words n
      go true e h = let k = part-inside file _ _ h in record { row = leb-true _ _ e; ordered = k.0; within = k.1 }
      go false e h = impossible cc

  pub content-whole : is_some (content_in file words n) ≡ true
      → content_in file words n ≡ some (take (get_or words (n * token_width + 2) 0 - get_or words (n * token_width + 1) 0) (drop (get_or words (n * token_width + 1) 0) file))
  content-whole h =
      let k = content-inside h in
      content-row k.row ∙ part-whole file _ _ k.ordered k.within

  pub start-some : is_some (content_in file words n) ≡ true → start_in file words n ≡ get_or words (n * token_width + 1) 0
  unfolding start_in
  start-some h = rw h

  pub start_none : is_some (content_in file words n) ≡ false → start_in file words n ≡ 0
  unfolding start_in
  start_none h = rw h

-- the first byte of a token
module _ (words : List ℕ) (n : ℕ) where
  pub first-row : n * token_width + token_width ≤ length words → first_byte words n ≡ get_or words (n * token_width + 1) 0 - length (opening (get_or words (n * token_width) 0))
  unfolding first_byte
  first-row h = rw (le-leb (n * token_width + token_width) (length words) h)

  pub first-none : length words < n * token_width + token_width → first_byte words n ≡ 0
  unfolding first_byte
  first-none h = rw (lt-leb (n * token_width + token_width) (length words) h)

-- what there is, and what stands for it where there is none
pub some_of : (o : Option (List ℕ)) → is_some o ≡ true → o ≡ some (or_empty o)
unfolding is_some or_empty
some_of none h = impossible cc
some_of (some c) h = refl

pub empty-none : (o : Option (List ℕ)) → is_some o ≡ false → or_empty o ≡ []
unfolding is_some or_empty
empty-none none h = refl
empty-none (some c) h = impossible cc
