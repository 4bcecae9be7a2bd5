-- `is_headed` meets its contract: each turn passes over one `stop_`, before which stands what stands after it.
use mathlib.Core.Path.{◌≡◌, refl, sym, ◌∙◌, ap}
use Prim.Native.Nat.{ℕ, suc, ◌-◌, ◌≤◌}
use native.Mathlib.Omega.{arith}
use Rattle.star_plain.specs.Kept.{headed_at}
use Rattle.star_plain.proofs.Keeping.{headed-stop, headed-other, headed-none}
use Rattle.star_plain.proofs.plain.is_headed.Goals as goal

pub loop-m-init : goal.loop-m-init
loop-m-init c = λ file. refl

-- the row before
one_less : (m : ℕ) → 1 ≤ m → suc (m - 1) ≡ m
one_less m h = omega arith

pub returns-then-kind-ne-STOP : goal.returns-then-kind-ne-STOP
returns-then-kind-ne-STOP c =
    let m : ℕ = c.loop-m.m in
    let words = c.args.tokens.now in
    λ file. sym (headed-other file words (m - 1) c.if-kind-ne-STOP.true) ∙ ap (λ k. headed_at file words k) (one_less m (omega arith)) ∙ c.loop-m.invariant file

pub loop-m-preserved : goal.loop-m-preserved
loop-m-preserved c =
    let m : ℕ = c.loop-m.m in
    let words = c.args.tokens.now in
    λ file. sym (headed-stop file words (m - 1) c.if-kind-ne-STOP.false) ∙ ap (λ k. headed_at file words k) (one_less m (omega arith)) ∙ c.loop-m.invariant file

pub returns : goal.returns
returns c =
    let zero : c.loop-m.m ≡ 0 = omega (arith, c.loop-m-test.false) in
    let words = c.args.tokens.now in
    λ file. sym (headed-none file words) ∙ ap (λ k. headed_at file words k) (sym zero) ∙ c.loop-m.invariant file
