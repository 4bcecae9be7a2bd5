-- `read_layout` meets its contract: a number that is no layout's is refused first.
use mathlib.Core.Path.{◌≡◌, subst}
use mathlib.Core.Bool.{false}
use Prim.Native.Nat.{ℕ, ◌≤◌}
use native.Mathlib.Omega.{arith}
use Rattle.star_lex.specs.Rules.{layout_rules, at_stops}
use Rattle.star_read.specs.Read.{read_by, read_in}
use Rattle.star_read.specs.Answer.{held, sizes}
use Rattle.star_read.specs.Judged.{layout_number}
use Rattle.star_read.specs.declared.Layout.{Layout}
use Rattle.star_read.specs.declared.Layout.TheVariants.{Today, Of1991}
use Rattle.star_read.proofs.Lent.{gives_at}
use Rattle.star_read.proofs.InLayout.{in-none, in-stopless}
use Rattle.star_read.proofs.read_layout.Goals as goal

-- its number is 0 or 1
known : (layout : Layout) → layout_number layout ≤ 1
known Today = omega arith
known Of1991 = omega arith

pub returns-in-Ok-clause-reads : goal.returns-in-Ok-clause-reads
returns-in-Ok-clause-reads c =
    let layout = c.in-Ok.layout in
    let file = c.args.file.now in
    let words = sizes (held c.args.tables.now) in
    let P : ℕ → Type 0 = λ n. read_in n file words ≡ read_by (at_stops (layout_rules (layout_number layout)) false) file words in
    gives_at (subst P c.in-Ok.ensures (in-stopless (layout_number layout) file words (known layout))) c.read_as.ensures.gives

pub returns-in-Err-clause-reads : goal.returns-in-Err-clause-reads
returns-in-Err-clause-reads c = gives_at (in-none c.args.layout c.args.file.now _ c.in-Err.ensures) c.refuse_for.ensures.gives
