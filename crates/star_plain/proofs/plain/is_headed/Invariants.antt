use mathlib.Core.Path.{◌≡◌}
use mathlib.Core.List.{List}
use Prim.Native.Nat.{ℕ}
use Rattle.star_plain.specs.Kept.{headed_at}
use Rattle.star_plain.proofs.plain.is_headed.Given as goal

abbrev pub invariant-loop-m : goal.invariant-loop-m
invariant-loop-m l = (file : List ℕ) → headed_at file l.tokens l.m ≡ headed_at file l.tokens l.n
