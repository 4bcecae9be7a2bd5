-- `follow` meets its contract: the links left from a row on give the answer of all links from the first row on.
use Rattle.std.proofs.Common.{◌≡◌, ◌-◌, ◌+◌, sym, ◌∙◌, arith}
use Rattle.star_find.specs.Find.{found, refused}
use Rattle.star_value.proofs.Locating.{follow-done, follow-end, follow-outside, follow-link}
use Rattle.star_value.proofs.follow.Goals as goal

pub returns-then-next-eq0 : goal.returns-then-next-eq0
unfolding refused
returns-then-next-eq0 c =
    let last : c.word-next.result ≡ 0 = omega (arith, c.if-next-eq0.true) in
    sym (follow-end _ _ _ (c.args.links - c.loop.counter) c.loop.at c.word-next.result (omega arith) c.word-next.ensures last) ∙ c.loop.invariant

pub returns-then-not-is_link : goal.returns-then-not-is_link
unfolding refused
returns-then-not-is_link c =
    sym (follow-outside _ _ _ (c.args.links - c.loop.counter) c.loop.at c.word-next.result (omega arith) c.word-next.ensures
    (λ z. omega (arith, c.if-next-eq0.false, z)) (sym c.is_link.ensures ∙ c.if-not-is_link.true)) ∙ c.loop.invariant

pub loop-preserved : goal.loop-preserved
loop-preserved c =
    rw (let q : c.args.links - (c.loop.counter + 1) ≡ c.args.links - c.loop.counter - 1 = omega arith in q)
    (sym (follow-link _ _ _ (c.args.links - c.loop.counter) c.loop.at c.word-next.result (omega arith) c.word-next.ensures
    (λ z. omega (arith, c.if-next-eq0.false, z)) (sym c.is_link.ensures ∙ c.if-not-is_link.false)) ∙ c.loop.invariant)

pub returns : goal.returns
unfolding found
returns c = sym (follow-done _ _ _ (c.args.links - c.loop.counter) c.loop.at (omega arith)) ∙ c.loop.invariant
