-- The rules of the two layouts: they split a file as today's do, with header stops and without; layout 0 is today's, and no number but 0 and 1 is a layout.
use mathlib.Core.Path.{◌≡◌, refl, sym, ◌∙◌, ap}
use mathlib.Core.Bool.{Bool, true, false, cond}
use mathlib.Core.List.{List}
use Prim.Native.Nat.{ℕ, ◌≤◌, ◌<◌}
use borrow.Author.Tests.{leb-true, le-leb, lt-leb}
use lib.Dec.{eqb, leb}
use Rattle.star_text.specs.Outcome.{refused, accepted, need}
use Rattle.star_text.proofs.Outcome.{need-accepted}
use Rattle.star_lex.specs.Rules.{Rules, today, old_headers, rules1991, at_stops, layout_rules}
use Rattle.star_lex.specs.Split.{tokens_by, tokens_of}
use Rattle.star_lex.specs.Answer.{tokens_in_by, tokens_in}
use Rattle.star_lex.proofs.SameRules.{tokens-same, tokens-1991}
use Rattle.star_read.specs.Read.{FileRows, Sizes, read_by, read_in, read_of}
use Rattle.star_read.specs.Demands.{Usable, ByLayout}
use Rattle.star_read.proofs.Usable.{today-usable, usable-1991}

-- what holds of the rules of each layout
layout-cases : (P : Rules → Type 0) → P rules1991 → P today → (layout : ℕ) → P (layout_rules layout)
unfolding layout_rules
layout-cases P f g layout = by (eqb layout 1)
  where
    by : (b : Bool) → P (cond b rules1991 today)
    by true = f
    by false = g

pub layout-usable : (layout : ℕ) → Usable (layout_rules layout)
layout-usable = layout-cases Usable usable-1991 today-usable

pub layout-split : (layout : ℕ) (file : List ℕ) → tokens_by (layout_rules layout) file ≡ tokens_of file
layout-split layout file = layout-cases (λ rules. tokens_by rules file ≡ tokens_of file) (tokens-1991 file) refl layout

-- today's rules and those of 1991 have no header stops
no-stops : (layout : ℕ) → at_stops (layout_rules layout) false ≡ layout_rules layout
no-stops = layout-cases (λ rules. at_stops rules false ≡ rules) refl refl

-- with header stops a file splits as without
pub old-split : (file : List ℕ) → tokens_by old_headers file ≡ tokens_of file
old-split = tokens-same old_headers today refl refl

pub stops-split : (layout : ℕ) (stops : Bool) (file : List ℕ) → tokens_by (at_stops (layout_rules layout) stops) file ≡ tokens_of file
stops-split layout stops file = tokens-same (at_stops (layout_rules layout) stops) (layout_rules layout) refl refl file ∙ layout-split layout file

pub stops-tokens : (layout : ℕ) (stops : Bool) (file : List ℕ) (words : ℕ) → tokens_in_by (at_stops (layout_rules layout) stops) file words ≡ tokens_in file words
unfolding tokens_in_by
stops-tokens layout stops file words = rw (stops-split layout stops file)

-- a number that is no layout's is refused, whatever the file
pub in-none : (layout : ℕ) (file : List ℕ) (words : Sizes) → 1 < layout → read_in layout file words ≡ refused 14 0
unfolding read_in need
in-none layout file words h = ap (λ known. need known 14 0 (read_by (layout_rules layout) file words)) (lt-leb layout 1 h)

pub in-today : (file : List ℕ) (words : Sizes) → read_in 0 file words ≡ read_of file words
unfolding read_in layout_rules need
in-today file words = refl

module _ (layout : ℕ) (file : List ℕ) (words : Sizes) where
  pub in-accepted : (read : FileRows) → read_in layout file words ≡ accepted read → (layout ≤ 1) × (read_by (layout_rules layout) file words ≡ accepted read)
  unfolding read_in
  in-accepted read e = let (l, h) = need-accepted (leb layout 1) 14 0 _ read e in (leb-true layout 1 l, h)

  pub in_layout : layout ≤ 1 → read_in layout file words ≡ read_by (layout_rules layout) file words
  unfolding read_in need
  in_layout h = rw (le-leb layout 1 h)

  -- and so without header stops
  pub in-stopless : layout ≤ 1 → read_in layout file words ≡ read_by (at_stops (layout_rules layout) false) file words
  in-stopless h = in_layout h ∙ ap (λ rules. read_by rules file words) (sym (no-stops layout))

pub by_layout : ByLayout
by_layout layout file words = (in_layout layout file words, in-none layout file words)
