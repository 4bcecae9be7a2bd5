-- Reading with a lower limit of names and codes: after the split nothing sees the limit, so what differs is refusal 4.
use mathlib.Core.Path.{◌≡◌, refl, sym, ◌∙◌, ap}
use mathlib.Core.Bool.{Bool, true, false, ◌&&◌}
use mathlib.Core.Logic.{inl, inr}
use mathlib.Core.List.{List, [], ◌∷◌}
use Prim.Native.Nat.{ℕ, ◌≤◌, ◌<◌}
use borrow.Author.Tests.{leb-true, leb-false, le-leb, lt-leb}
use lib.Dec.{leb}
use lib.ListN.{length}
use Rattle.star_text.specs.Bytes.{most_bytes}
use Rattle.star_text.specs.Outcome.{refused, accepted, then, need}
use Rattle.star_text.proofs.Cases.{impossible}
use Rattle.star_text.proofs.Outcome.{refused≢accepted, then_same}
use Rattle.star_lex.specs.Rules.{Rules, at_longest}
use Rattle.star_lex.specs.Tokens.{Placed}
use Rattle.star_lex.specs.Fits.{fits, all_fit}
use Rattle.star_lex.specs.Split.{tokens_by}
use Rattle.star_lex.specs.Answer.{tokens_in_by}
use Rattle.star_lex.proofs.Longest.{SameOrFour, cut, tokens-cut, tokens-lower, cut_all, cut-first, cut-accepted}
use Rattle.star_grammar.specs.Tables.{Rows, no_rows}
use Rattle.star_grammar.specs.Machine.{start}
use Rattle.star_grammar.proofs.Longest.{run-longest}
use Rattle.star_grammar.specs.Layout.{today_row}
use Rattle.star_unique.specs.Repeat.{nothing, first_repeat}
use Rattle.star_read.specs.Read.{FileRows, Sizes, tokens_only, decide, grammar_of, rows_fit, read_by}
use Rattle.star_read.specs.Demands.{Tokenized, FirstLonger, OldFilesReadAsBefore, OldBenchRefuses, OldBenchSameOrFour}
use Rattle.star_read.proofs.Demand3.{read-tokens}

module _ (rules : Rules) (old : ℕ) where
  -- the grammar sees kinds, names and codes, and no limit of their bytes
  grammar-longest : (size : ℕ) (ps : List Placed) → grammar_of (at_longest rules old) size ps ≡ grammar_of rules size ps
  unfolding grammar_of today_row
  grammar-longest size ps = ap (decide size ps (first_repeat nothing (today_row rules (tokens_only ps)))) (run-longest rules old start (today_row rules (tokens_only ps)) no_rows)

  -- a file that splits in the same way is read in the same way
  split-read : (file : List ℕ) (words : Sizes) → tokens_by (at_longest rules old) file ≡ tokens_by rules file
      → read_by (at_longest rules old) file words ≡ read_by rules file words
  unfolding read_by tokens_in_by
  split-read file words e =
      rw e (then_same (tokens_in_by rules file words.tokens) _ _ (λ ps. ap (λ o. then o (rows_fit words)) (grammar-longest (length file) ps)))

  -- refusal 4 comes after 1 and before all others
  read-four : (file : List ℕ) (words : Sizes) (place : ℕ) → tokens_by (at_longest rules old) file ≡ refused 4 place → length file ≤ most_bytes
      → read_by (at_longest rules old) file words ≡ refused 4 place
  unfolding read_by tokens_in_by need then
  read-four file words place e h = rw (le-leb (length file) most_bytes h, e)

  read-large : (some : Rules) (file : List ℕ) (words : Sizes) → most_bytes < length file → read_by some file words ≡ refused 1 0
  unfolding read_by tokens_in_by need then
  read-large some file words h = rw (lt-leb (length file) most_bytes h)

  -- a split that is refused with 4: the size is checked before it
  four : (file : List ℕ) (words : Sizes) (place : ℕ) → tokens_by (at_longest rules old) file ≡ refused 4 place
      → SameOrFour (read_by (at_longest rules old) file words) (read_by rules file words)
  four file words place e = by (leb (length file) most_bytes) refl
    where
      by : (t : Bool) → leb (length file) most_bytes ≡ t → SameOrFour (read_by (at_longest rules old) file words) (read_by rules file words)
      by true q = inr (place, read-four file words place e (leb-true (length file) most_bytes q))
      by false q =
          let large : most_bytes < length file = leb-false (length file) most_bytes q in
          inl (read-large (at_longest rules old) file words large ∙ sym (read-large rules file words large))

  module _ (h : old ≤ rules.longest) where
    -- a file all of whose names and codes fit is read in the same way
    pub fits_read : (file : List ℕ) (words : Sizes) (ps : List Placed) (rows : Rows) → read_by rules file words ≡ accepted (ps, rows)
        → all_fit old (tokens_only ps) ≡ true → (others : Sizes) → read_by (at_longest rules old) file others ≡ read_by rules file others
    fits_read file words ps rows e f others =
        let s : tokens_by rules file ≡ accepted ps = (read-tokens rules file words ps rows e).0.splits in
        split-read file others (tokens-cut rules old h file ps s ∙ cut_all old ps f ∙ sym s)

    -- and one that the lower limit accepts has no others
    pub read_fits : (file : List ℕ) (words : Sizes) (ps : List Placed) (rows : Rows) → read_by rules file words ≡ accepted (ps, rows)
        → (read : FileRows) → read_by (at_longest rules old) file words ≡ accepted read → all_fit old (tokens_only ps) ≡ true
    read_fits file words ps rows e (qs, us) d =
        cut-accepted old ps qs
        (sym (tokens-cut rules old h file ps (read-tokens rules file words ps rows e).0.splits) ∙ (read-tokens (at_longest rules old) file words qs us d).0.splits)

pub old-bench-same-or-four : OldBenchSameOrFour
old-bench-same-or-four rules old h file words = by (tokens-lower rules old h file)
  where
    by : SameOrFour (tokens_by (at_longest rules old) file) (tokens_by rules file) → SameOrFour (read_by (at_longest rules old) file words) (read_by rules file words)
    by (inl e) = inl (split-read rules old file words e)
    by (inr (place, e)) = four rules old file words place e

pub old-files-read-as-before : OldFilesReadAsBefore
old-files-read-as-before rules old h file words read e = by (old-bench-same-or-four rules old h file words)
  where
    by : SameOrFour (read_by (at_longest rules old) file words) (read_by rules file words) → read_by rules file words ≡ accepted read
    by (inl d) = sym d ∙ e
    by (inr (place, d)) = absurd (refused≢accepted 4 place read (sym d ∙ e))

pub old-bench-refuses : OldBenchRefuses
old-bench-refuses rules old h file words ps rows e place f others =
    let t : Tokenized rules file words ps = (read-tokens rules file words ps rows e).0 in
    rw f.place_is
    (read-four rules old file others f.longer.at
    (tokens-cut rules old h file ps t.splits ∙ ap (cut old) f.is ∙ cut-first old f.earlier f.longer f.later f.earlier_fit f.no_fit)
    t.small)

-- where not all fit there is a first that is longer
pub first-longer : (most : ℕ) (ps : List Placed) → all_fit most (tokens_only ps) ≡ false → (place : ℕ) × FirstLonger most ps place
unfolding all_fit
first-longer most [] e = impossible cc
first-longer most (p ∷ ps) e = by (fits most p.token) refl e (first-longer most ps)
  where
    by : (f : Bool) → fits most p.token ≡ f → (f && all_fit most (tokens_only ps)) ≡ false
        → (all_fit most (tokens_only ps) ≡ false → (place : ℕ) × FirstLonger most ps place) → (place : ℕ) × FirstLonger most (p ∷ ps) place
    by false f d rest = (p.at, record { earlier = []; longer = p; later = ps; is = refl; earlier_fit = tt; no_fit = f; place_is = refl })
    by true f d rest =
        let (place, l) = rest d in (
          place,
          record {
            earlier = p ∷ l.earlier;
            longer = l.longer;
            later = l.later;
            is = ap (λ qs. p ∷ qs) l.is;
            earlier_fit = (f, l.earlier_fit);
            no_fit = l.no_fit;
            place_is = l.place_is;
          },
        )
