-- The row of a tree in one layout is, in the other, the tree's row there: a reading in one layout has a reading of the same tree in the other.
use mathlib.Core.Path.{◌≡◌, refl, sym, ◌∙◌, ap}
use mathlib.Core.Bool.{false}
use mathlib.Core.List.{List}
use Prim.Native.Nat.{ℕ, ◌-◌, ◌≤◌}
use native.Mathlib.Omega.{arith}
use Rattle.star_text.proofs.Cases.{cond-by}
use lib.Dec.{eqb}
use Rattle.star_lex.specs.Rules.{Rules, today, rules1991, layout_rules}
use Rattle.star_lex.specs.Tokens.{Token}
use Rattle.star_grammar.specs.Tree.{frame_close, File, file_yield, FileBy}
use Rattle.star_grammar.specs.Layout.{today_row, layout_row}
use Rattle.star_grammar.specs.Reading.{ReadingBy}
use Rattle.star_grammar.proofs.OtherRules.{file-by}
use Rattle.star_grammar.proofs.Yields.{tree-row, tree-today, yield-by}
use Rattle.star_convert.specs.Convert.{other_row}

-- what holds of the rules of each layout
layout-cases : (P : Rules → Type 0) → P rules1991 → P today → (layout : ℕ) → P (layout_rules layout)
unfolding layout_rules
layout-cases P f g layout = cond-by P (eqb layout 1) rules1991 today (λ e. f) (λ e. g)

levels-are : (layout : ℕ) → (layout_rules layout).levels ≡ 8
levels-are = layout-cases (λ rules. rules.levels ≡ 8) refl refl

stops-are : (layout : ℕ) → (layout_rules layout).header_stops ≡ false
stops-are = layout-cases (λ rules. rules.header_stops ≡ false) refl refl

pub whole-other : (layout : ℕ) (f : File) → FileBy (layout_rules layout) f → FileBy (layout_rules (1 - layout)) f
whole-other layout =
    file-by (layout_rules layout) (layout_rules (1 - layout)) (omega (arith, levels-are layout, levels-are (1 - layout))) (λ e. stops-are (1 - layout) ∙ sym (stops-are layout) ∙ e)

-- the row of a tree, in the other layout
pub other-yield : (layout : ℕ) (f : File) → FileBy (layout_rules layout) f
    → other_row layout (file_yield (frame_close (layout_rules layout)) f) ≡ file_yield (frame_close (layout_rules (1 - layout))) f
unfolding other_row
other-yield layout f h =
    ap (layout_row (layout_rules (1 - layout))) (tree-row (layout_rules layout) f h) ∙ yield-by (layout_rules (1 - layout)) f (whole-other layout f h)

module _ (layout : ℕ) (ts : List Token) (r : ReadingBy (layout_rules layout) ts) where
  pub other-tree : other_row layout ts ≡ file_yield (frame_close (layout_rules (1 - layout))) r.tree
  other-tree = ap (other_row layout) (sym r.yield) ∙ other-yield layout r.tree r.whole

  unfoldable pub other-reading : ReadingBy (layout_rules (1 - layout)) (other_row layout ts)
  other-reading = record { tree = r.tree; yield = sym other-tree; whole = whole-other layout r.tree r.whole; distinct = r.distinct }

  -- the row as one of today's, and back
  pub today-back : layout_row (layout_rules layout) (today_row (layout_rules layout) ts) ≡ ts
  today-back =
      ap (layout_row (layout_rules layout)) (tree-today (layout_rules layout) r.tree ts r.whole r.yield)
      ∙ yield-by (layout_rules layout) r.tree r.whole ∙ r.yield

  -- over and back
  pub other-back : layout ≤ 1 → other_row (1 - layout) (other_row layout ts) ≡ ts
  other-back h =
      let back : 1 - (1 - layout) ≡ layout = omega arith in
      ap (other_row (1 - layout)) other-tree ∙ other-yield (1 - layout) r.tree (whole-other layout r.tree r.whole)
      ∙ ap (λ n. file_yield (frame_close (layout_rules n)) r.tree) back ∙ r.yield
