-- The machine sees how many levels there may be and whether headers have stops, and no other rule: not how long names and codes may be, nor what closes a frame.
use mathlib.Core.Path.{◌≡◌, refl, sym, ◌∙◌, ap}
use mathlib.Core.List.{List, [], ◌∷◌}
use Prim.Native.Nat.{ℕ}
use Rattle.star_lex.specs.Rules.{Rules, today, rules1991, at_longest}
use Rattle.star_lex.specs.Tokens.{Token}
use Rattle.star_grammar.specs.Tables.{Rows}
use Rattle.star_grammar.specs.Machine.{Sort, block, global, frame, frame_end, loop, stop, name, value, sort_of, Where, State, start, within, named, header, body, Step, go, refuse, header_step, step, step_at, run}
use Rattle.star_grammar.proofs.Sorts.{onward, run-onward}

module _ (rules others : Rules) (l : rules.levels ≡ others.levels) (h : rules.header_stops ≡ others.header_stops) where
  header-same : (w : Where) (first : ℕ) (before : List ℕ) (n c : ℕ) (k : Sort) (r : Rows) → header_step rules w first before n c k r ≡ header_step others w first before n c k r
  unfolding header_step
  header-same w first before n c block r = refl
  header-same w first before n c global r = refl
  header-same w first before n c frame r = refl
  header-same w first before n c frame_end r = refl
  header-same w first before n c loop r = rw l
  header-same w first before n c stop r = rw h
  header-same w first before n c name r = refl
  header-same w first before n c value r = refl

  step_same : (st : State) (k : Sort) (r : Rows) → step rules st k r ≡ step others st k r
  unfolding step
  step_same start k r = refl
  step_same (within w) k r = refl
  step_same (named w) k r = refl
  step_same (header w first before n c) k r = header-same w first before n c k r
  step_same (body w outer l inner f) k r = refl

  pub run-same : (st : State) (ts : List Token) (r : Rows) → run rules st ts r ≡ run others st ts r
  unfolding run
  run-same st [] r = refl
  run-same st (t ∷ ts) r =
      run-onward rules st t ts r
      ∙ ap (onward rules ts r) (step_same st (sort_of t.kind) r)
      ∙ at (step_at others st t.kind r) (λ s u. run-same s ts u)
      ∙ sym (run-onward others st t ts r)
    where
      at : (x : Step) → ((s : State) (u : Rows) → run rules s ts u ≡ run others s ts u) → onward rules ts r x ≡ onward others ts r x
      at (go s u) later = later s u
      at (refuse n) later = refl

pub run-longest : (rules : Rules) (most : ℕ) (st : State) (ts : List Token) (r : Rows) → run (at_longest rules most) st ts r ≡ run rules st ts r
run-longest rules most = run-same (at_longest rules most) rules refl refl

pub run-1991 : (st : State) (ts : List Token) (r : Rows) → run rules1991 st ts r ≡ run today st ts r
run-1991 = run-same rules1991 today refl refl
