-- `byte_at` meets its contract: past the end no byte stands.
use mathlib.Core.Path.{◌≡◌, sym, ◌∙◌, ap}
use mathlib.Core.List.{List}
use Prim.Native.Nat.{ℕ}
use native.Mathlib.Omega.{arith}
use borrow.Author.Tests.{ltb-true, ltb-false}
use denote.Bor.{Bor}
use lib.Dec.{eqb, ltb}
use lib.ListN.{length, get_or, drop}
use Rattle.std.specs.Prelude.{Option, Some, None}
use Rattle.std.specs.Option.{is_some, option_eq, option_map, option_copied, unwrap_or}
use Rattle.star_lex.specs.Split.{starts}
use Rattle.star_lex.proofs.Closing.{starts-in, starts-end}
use Rattle.star_lex.proofs.scan.byte_at.Goals as goal

-- the byte that is got there, if any
got : (file : List ℕ) (at b : ℕ) (r : Option (Bor ℕ)) → is_some r ≡ ltb at (length file) → unwrap_or (option_map (λ (x : Bor ℕ). x.now) r) 0 ≡ get_or file at 0
    → option_eq eqb (option_copied r) (Some b) ≡ starts b (drop at file)
got file at b None p q = sym (starts-end file at b (ltb-false at (length file) (sym p)))
got file at b (Some x) p q = ap (λ y. eqb y b) q ∙ sym (starts-in file at b (ltb-true at (length file) (sym p)))

pub returns : goal.returns
returns c =
    c.eq.ensures
    ∙ ap (λ o. option_eq eqb o (Some c.args.b)) c.copied.ensures
    ∙ got c.args.file.now c.args.at c.args.b c.get.result c.get.ensures.lookup.0 (c.get.ensures.lookup.4 (omega arith) 0)
