-- `power` meets its contract.
use Rattle.star_number.proofs.Powers.{held_both, held_below, held-above}
use Rattle.star_number.proofs.scan.SignedRun.power.Goals as goal

pub returns-then-self : goal.returns-then-self
returns-then-self c =
    let a = c.args in
    rw c.if-self.true (held_both a.self.value a.after c.min-tens.result (rw (c.min.ensures, c.min-then-self.ensures) at c.min-tens.ensures))

pub returns-then-after-self : goal.returns-then-after-self
returns-then-after-self c =
    let a = c.args in
    rw (c.if-self.false, c.min-then-after-self.ensures) (held_below a.self.value a.after c.if-after-self.true)

pub returns-else-after-self : goal.returns-else-after-self
returns-else-after-self c =
    let a = c.args in
    rw (c.if-self.false, c.min-else-after-self.ensures) (held-above a.self.value a.after c.if-after-self.false)
