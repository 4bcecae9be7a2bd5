-- `first_value` meets its contract: the answer from a row on is the answer from the first row on.
use Rattle.std.proofs.Common.{◌≡◌, ◌+◌, sym, ap, ◌∙◌, arith}
use Rattle.star_value.specs.Answers.{first_of}
use Rattle.star_value.proofs.Locating.{first-here, first-later, first-over, first-some}
use Rattle.star_value.proofs.first_value.Goals as goal

pub returns-then-word-name : goal.returns-then-word-name
returns-then-word-name c =
    let a = c.args in
    let same : c.word.result ≡ a.name = omega (arith, c.if-word-name.true) in
    let here = sym (first-here a.values.now a.name a.rows c.loop-row.row (omega arith) (sym c.word.ensures ∙ same)) ∙ c.loop-row.invariant in
    sym (first-some a.values.now a.name a.rows c.loop-row.row (omega arith)) ∙ ap first_of here

pub loop-row-preserved : goal.loop-row-preserved
loop-row-preserved c =
    let a = c.args in
    sym (first-later a.values.now a.name a.rows c.loop-row.row (omega arith) (λ z. omega (arith, c.if-word-name.false, c.word.ensures, z))) ∙ c.loop-row.invariant

pub returns-else-word-name : goal.returns-else-word-name
returns-else-word-name c =
    let a = c.args in
    let later = sym (first-later a.values.now a.name a.rows c.loop-row.row (omega arith) (λ z. omega (arith, c.if-word-name.false, c.word.ensures, z))) ∙ c.loop-row.invariant in
    ap first_of (sym (first-over a.values.now a.name a.rows (c.loop-row.row + 1) (omega arith)) ∙ later)

pub returns : goal.returns
returns c =
    let a = c.args in
    ap first_of (sym (first-over a.values.now a.name a.rows c.loop-row.row (omega arith)) ∙ c.loop-row.invariant)
