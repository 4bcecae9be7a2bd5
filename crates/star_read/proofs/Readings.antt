-- The readings of a row of tokens, seen from the machine: a row has a reading exactly when the run over it, as today's layout has it, accepts and it repeats nothing, and the
-- rows of the run are the reading's.
use mathlib.Core.Path.{◌≡◌}
use mathlib.Core.List.{List}
use Prim.Native.Nat.{◌≤◌}
use Rattle.star_lex.specs.Rules.{Rules}
use Rattle.star_lex.specs.Tokens.{Token, Each}
use Rattle.star_lex.proofs.Formed.{FormedBy}
use Rattle.star_grammar.specs.Tree.{File, frame_end, frame_close, file_yield, FileBy}
use Rattle.star_grammar.specs.Tables.{Rows, no_rows, rows_of}
use Rattle.star_grammar.specs.Reading.{ReadingBy}
use Rattle.star_grammar.specs.Machine.{start, good, run}
use Rattle.star_grammar.specs.Layout.{today_row}
use Rattle.star_grammar.proofs.Complete.{complete}
use Rattle.star_grammar.proofs.Sound.{rows-of-run}
use Rattle.star_grammar.proofs.Formed.{each-fixed}
use Rattle.star_grammar.proofs.Walking.{good-walks}
use Rattle.star_grammar.proofs.Yields.{tree-today, today-tree}
use Rattle.star_grammar.proofs.Images.{row-fixed}
use Rattle.star_unique.specs.Repeat.{nothing}
use Rattle.star_unique.proofs.Clean.{Clean, clean-repeat, repeat-clean}
use Rattle.star_unique.proofs.Repeats.{repeat-distinct}

module _ (rules : Rules) where
  pub yield-run : (f : File) (ts : List Token) → file_yield (frame_close rules) f ≡ ts → FileBy rules f → run rules start (today_row rules ts) no_rows ≡ good (rows_of f)
  yield-run f ts e w = rw (tree-today rules f ts w e) (complete rules f w)

  pub reading-run : (ts : List Token) (r : ReadingBy rules ts) → run rules start (today_row rules ts) no_rows ≡ good (rows_of r.tree)
  reading-run ts r = yield-run r.tree ts r.yield r.whole

  pub reading-clean : (ts : List Token) → ReadingBy rules ts → Clean nothing (today_row rules ts)
  reading-clean ts r =
      rw (tree-today rules r.tree ts r.whole r.yield) (repeat-clean nothing (file_yield frame_end r.tree)
      ((repeat-distinct rules r.tree r.whole).0 r.distinct))

  -- a whole tree of tokens that repeat nothing
  pub tree-reading : (ts : List Token) (f : File) → file_yield (frame_close rules) f ≡ ts → FileBy rules f → Clean nothing (file_yield frame_end f) → ReadingBy rules ts
  tree-reading ts f e w c = record {
    tree = f;
    yield = e;
    whole = w;
    distinct = (repeat-distinct rules f w).1 (clean-repeat nothing (file_yield frame_end f) c);
  }

  pub run-reading : 1 ≤ rules.levels → (ts : List Token) (rows : Rows) → Each (FormedBy rules) ts → run rules start (today_row rules ts) no_rows ≡ good rows
      → Clean nothing (today_row rules ts) → (r : ReadingBy rules ts) × (rows ≡ rows_of r.tree)
  unfolding tree-reading
  run-reading least ts rows h e c =
      let s : (f : File) × (file_yield frame_end f ≡ today_row rules ts) × FileBy rules f × (rows ≡ rows_of f)
      = rows-of-run rules least (today_row rules ts) (row-fixed rules ts (each-fixed rules ts h)) rows e in
      let y : file_yield (frame_close rules) s.0 ≡ ts
      = today-tree rules s.0 ts s.2 (each-fixed rules ts h) (good-walks rules (today_row rules ts) start no_rows rows e) s.1 in
      (tree-reading ts s.0 y s.2 (rw s.1 c), s.3)
