-- How large the numbers of a track become: none is above the number of tokens that were passed.
use mathlib.Core.Path.{◌≡◌, refl}
use mathlib.Core.Bool.{Bool, true, false, ◌&&◌}
use mathlib.Core.List.{List, [], ◌∷◌, ◌++◌}
use Prim.Native.Nat.{ℕ, zero, suc, ◌-◌, ◌≤◌, ◌<◌}
use native.Mathlib.Omega.{arith}
use lib.Dec.{eqb, ltb}
use borrow.Author.Tests.{eqb-true, ltb-true}
use lib.ListN.{length, get_or, set, length-set, length-append}
use Rattle.star_text.proofs.Cases.{cond-by, both}
use Rattle.star_grammar.specs.Machine.{Sort, block, global, frame, frame_end, loop, stop, name, value, sort_of}
use Rattle.star_grammar.specs.Layout.{Track, outside, one_more, pass_loop, pass_name, pass_stop, fill_one, pass_value, pass_sort, pass_kind, today_kind, track_at}
use Rattle.star_frames.specs.Tracked.{Bounded}

-- a level with no name yet
few-level : (counts : List ℕ) (i : ℕ) → get_or (counts ++ (0 ∷ [])) i 0 ≡ get_or counts i 0
few-level [] zero = refl
few-level [] (suc i) = refl
few-level (x ∷ counts) zero = refl
few-level (x ∷ counts) (suc i) = few-level counts i

-- one of these numbers is another
few-set : (counts : List ℕ) (n i j v : ℕ) → ((k : ℕ) → get_or counts k 0 ≤ n) → v ≤ n → get_or (set counts j v) i 0 ≤ n
few-set [] n i j v few h = few i
few-set (x ∷ counts) n zero zero v few h = h
few-set (x ∷ counts) n zero (suc j) v few h = few 0
few-set (x ∷ counts) n (suc i) zero v few h = few (suc i)
few-set (x ∷ counts) n (suc i) (suc j) v few h = few-set counts n i j v (λ k. few (suc k)) h

bounded-outside : (n : ℕ) (inside : Bool) → Bounded n (outside inside)
unfolding outside
bounded-outside n inside = record { levels = omega arith; few = λ i. omega arith; filled = omega arith; level = λ h. absurd (h refl) }

module _ (n : ℕ) (t : Track) (b : Bounded n t) where
  bounded-on : Bounded (suc n) t
  bounded-on = record {
    levels = b.levels;
    few = λ i. omega (arith, b.few i);
    filled = omega (arith, b.filled);
    level = b.level;
  }

  in-part : (k : ℕ) → eqb t.part (suc k) ≡ true → t.level < length t.counts
  in-part k e = b.level (λ z. omega (arith, eqb-true t.part (suc k) e))

  bounded-loop : Bounded (suc n) (pass_loop 8 t)
  unfolding pass_loop
  bounded-loop =
      cond-by (Bounded (suc n)) (eqb t.part 1) _ _
      (λ e. cond-by (Bounded (suc n)) (ltb (length t.counts) 8) _ _
      (λ d. record {
        levels = omega (arith, length-append t.counts (0 ∷ []), ltb-true (length t.counts) 8 d);
        few = λ i. omega (arith, few-level t.counts i, b.few i);
        filled = omega arith;
        level = λ h. omega (arith, length-append t.counts (0 ∷ []));
      })
      (λ d. bounded-outside (suc n) false))
      (λ e. record { levels = omega arith; few = λ i. omega (arith, few-level [] i); filled = omega arith; level = λ h. omega arith })

  few-more : (i : ℕ) → get_or (one_more t.counts) i 0 ≤ suc n
  unfolding one_more
  few-more i = few-set t.counts (suc n) i (length t.counts - 1) _ (λ j. omega (arith, b.few j)) (omega (arith, b.few (length t.counts - 1)))

  bounded-name : Bounded (suc n) (pass_name t)
  unfolding pass_name one_more
  bounded-name =
      cond-by (Bounded (suc n)) (eqb t.part 1) _ _
      (λ e. record {
        levels = omega (arith, length-set t.counts (length t.counts - 1) (suc (get_or t.counts (length t.counts - 1) 0)), b.levels);
        few = few-more;
        filled = omega arith;
        level = λ h. omega (arith, length-set t.counts (length t.counts - 1) (suc (get_or t.counts (length t.counts - 1) 0)), in-part 0 e);
      })
      (λ e. bounded-outside (suc n) t.inside)

  bounded-stop : Bounded (suc n) (pass_stop t)
  unfolding pass_stop
  bounded-stop =
      cond-by (Bounded (suc n)) (eqb t.part 2 && eqb t.filled 0) _ _
      (λ e. record {
        levels = b.levels;
        few = λ i. omega (arith, b.few i);
        filled = omega arith;
        level = λ h. omega (arith, in-part 1 (both (eqb t.part 2) (eqb t.filled 0) e).0);
      })
      (λ e. bounded-on)

  bounded-fill : (level filled : ℕ) → level < length t.counts → filled ≤ n → Bounded (suc n) (fill_one t.inside t.counts level filled)
  unfolding fill_one
  bounded-fill level filled h l =
      cond-by (Bounded (suc n)) (ltb (suc filled) (get_or t.counts level 0)) _ _
      (λ e. record { levels = b.levels; few = λ i. omega (arith, b.few i); filled = omega arith; level = λ g. h })
      (λ e. cond-by (Bounded (suc n)) (ltb (suc level) (length t.counts)) _ _
      (λ d. record { levels = b.levels; few = λ i. omega (arith, b.few i); filled = omega arith; level = λ g. ltb-true (suc level) (length t.counts) d })
      (λ d. record { levels = b.levels; few = λ i. omega (arith, b.few i); filled = omega arith; level = λ g. h }))

  bounded-value : Bounded (suc n) (pass_value t)
  unfolding pass_value
  bounded-value =
      cond-by (Bounded (suc n)) (eqb t.part 1) _ _ (λ e. bounded-fill 0 0 (omega (arith, in-part 0 e)) (omega arith))
      (λ e. cond-by (Bounded (suc n)) (eqb t.part 2) _ _ (λ d. bounded-fill t.level t.filled (in-part 1 d) b.filled) (λ d. bounded-on))

  bounded-sort : (s : Sort) → Bounded (suc n) (pass_sort 8 t s)
  unfolding pass_sort
  bounded-sort block = bounded-outside (suc n) false
  bounded-sort global = bounded-outside (suc n) false
  bounded-sort frame = bounded-outside (suc n) true
  bounded-sort frame_end = bounded-outside (suc n) false
  bounded-sort loop = bounded-loop
  bounded-sort stop = bounded-stop
  bounded-sort name = bounded-name
  bounded-sort value = bounded-value

-- no number is above that of the tokens before
pub track-bounded : (kinds : ℕ → ℕ) (n : ℕ) → Bounded n (track_at 8 kinds n)
unfolding track_at pass_kind
track-bounded kinds zero = bounded-outside 0 false
track-bounded kinds (suc n) = bounded-sort n (track_at 8 kinds n) (track-bounded kinds n) (sort_of (today_kind (track_at 8 kinds n) (kinds n)))

-- nor above any larger one
pub bounded-up : (m n : ℕ) (t : Track) → m ≤ n → Bounded m t → Bounded n t
bounded-up m n t h b = record {
  levels = b.levels;
  few = λ i. omega (arith, b.few i);
  filled = omega (arith, b.filled);
  level = b.level;
}
