-- `close_word` meets its contract: the word of the layout that is not this one.
use mathlib.Core.Path.{◌≡◌, refl}
use Prim.Native.Nat.{◌-◌}
use native.Mathlib.Omega.{arith}
use Rattle.star_lex.specs.Rules.{layout_rules}
use Rattle.star_lex.specs.Tokens.{save_word, stop_word}
use Rattle.star_grammar.specs.Tree.{frame_end, stop, frame_close}
use Rattle.star_convert.proofs.frames.close_word.Goals as goal

pub returns-then-layout-eq0 : goal.returns-then-layout-eq0
unfolding layout_rules frame_close stop frame_end stop_word save_word
returns-then-layout-eq0 c = rw c.if-layout-eq0.true refl

pub returns : goal.returns
unfolding layout_rules frame_close stop frame_end stop_word save_word
returns c =
    let other : 1 - c.args.layout ≡ 0 = omega (arith, c.if-layout-eq0.false) in
    rw other refl
