-- `fits_old` meets its contract, by the kind.
use mathlib.Core.Path.{◌≡◌, sym, ◌∙◌, ap}
use mathlib.Core.Bool.{true, false}
use mathlib.Core.Logic.{◌⊎◌, inl, inr}
use Prim.Native.Nat.{ℕ, ◌<◌}
use native.Mathlib.Omega.{arith}
use borrow.Author.Tests.{ne_eqb}
use Rattle.star_lex.specs.Fits.{is_limited, fits}
use Rattle.star_check.proofs.fits_old.Goals as goal

-- a number that no kind has
no_kind : (n : ℕ) → (n ≡ 0) ⊎ (12 < n) → is_limited n ≡ false
unfolding is_limited
no_kind n (inl e) = rw e
no_kind n (inr h) = rw (ne_eqb n 1 (λ e. omega arith), ne_eqb n 2 (λ e. omega arith), ne_eqb n 6 (λ e. omega arith))

pub returns-then-not-is_limited : goal.returns-then-not-is_limited
unfolding fits
returns-then-not-is_limited c =
    let free = ap is_limited (sym c.in-Ok.ensures) ∙ sym c.is_limited.ensures ∙ c.if-not-is_limited.true in
    rw (c.if-not-is_limited.true, free)

pub returns-else-not-is_limited : goal.returns-else-not-is_limited
unfolding fits
returns-else-not-is_limited c =
    let bound = ap is_limited (sym c.in-Ok.ensures) ∙ sym c.is_limited.ensures ∙ c.if-not-is_limited.false in
    rw bound c.is_short.ensures

pub returns-in-Err : goal.returns-in-Err
unfolding fits
returns-in-Err c = rw (no_kind c.args.kind c.in-Err.ensures.1)
