-- `put_linked` meets its contract: the link is written first, and the row over it; a row that fits has no row before it that does not.
use mathlib.Core.Path.{sym, ap, ◌∙◌}
use mathlib.Core.List.{[], ◌∷◌}
use Prim.Native.Nat.{◌-◌, ◌*◌, ◌/◌, ◌<◌}
use native.Mathlib.Numerals.{add-one, add-two, add-three}
use native.Mathlib.Omega.{arith}
use lib.ListN.{length, set, length-set}
use Rattle.star_rows.specs.Rows.{put_row}
use Rattle.star_rows.proofs.Stored.{put-fits, put_full}
use Rattle.star_rows.proofs.WordPut.{word_fits, word-full}
use Rattle.star_parse.proofs.progress.put_linked.Goals as goal

pub bounds-values-at : goal.bounds-values-at
bounds-values-at c = simp length-set (omega arith)

pub bounds-values-at-then-n-rows : goal.bounds-values-at-then-n-rows
bounds-values-at-then-n-rows c = simp length-set (omega arith)

pub bounds-values-at-then-n-rows-2 : goal.bounds-values-at-then-n-rows-2
bounds-values-at-then-n-rows-2 c = simp length-set (omega arith)

pub bounds-values-at-then-n-rows-3 : goal.bounds-values-at-then-n-rows-3
bounds-values-at-then-n-rows-3 c = simp length-set (omega arith)

pub returns-then-n-rows : goal.returns-then-n-rows
returns-then-n-rows c =
    let l = c.args in
    let fits : l.n < length l.values.now / 4 = c.if-n-rows.true in
    let less : l.n - l.back < length l.values.now / 4 = omega arith in
    simp (add-one, add-two, add-three)
    (sym (ap (put_row (l.name ∷ l.packet ∷ l.token ∷ 0 ∷ []) l.n) (word_fits 4 (l.n - l.back) 3 l.number l.values.now less
    ∙ ap (λ i. set l.values.now i l.number) (add-three ((l.n - l.back) * 4))) ∙ put-fits _ _ _ (rw length-set fits)))

pub returns-then-before-rows : goal.returns-then-before-rows
returns-then-before-rows c =
    let l = c.args in
    sym (ap (put_row (l.name ∷ l.packet ∷ l.token ∷ 0 ∷ []) l.n) (word_fits 4 (l.n - l.back) 3 l.number l.values.now c.if-before-rows.true)
    ∙ put_full _ _ _ (rw length-set c.if-n-rows.false))

pub returns-else-before-rows : goal.returns-else-before-rows
returns-else-before-rows c =
    let l = c.args in
    sym (ap (put_row (l.name ∷ l.packet ∷ l.token ∷ 0 ∷ []) l.n) (word-full 4 (l.n - l.back) 3 l.number l.values.now c.if-before-rows.false)
    ∙ put_full _ _ _ c.if-n-rows.false)
