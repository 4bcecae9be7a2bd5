-- The levels of a loop as the reader's state has them: what is inside the current level begins with the next one of the array.
use mathlib.Core.Path.{◌≡◌, refl, sym, ap, ◌∙◌}
use mathlib.Core.List.{List, [], ◌∷◌, reverse_aux}
use Prim.Native.Nat.{ℕ, suc, ◌+◌, ◌<◌}
use native.Mathlib.Numerals.{add-one}
use native.Mathlib.Omega.{arith}
use lib.ListN.{length, get_or, take, drop, drop_of_length-le}
use lib.Seq.{drop-cons, get_or-take, length-take-le}
use Rattle.star_grammar.specs.Machine.{Where, Level, parent_of, body, filled}
use Rattle.star_grammar.specs.Tables.{Rows}
use Rattle.star_parse.specs.Reader.{InLoop, Outermost, Header, Around, name_at, Columns, inner_of, level_of, deeper_of, at_level}
use Rattle.star_parse.specs.declared.packets.LoopState.{LoopState}

module _ (s : LoopState) (h : InLoop s) where
  levels-length : length (take s.levels s.counts) ≡ s.levels
  levels-length = length-take-le s.levels s.counts (omega (arith, h.size, h.limit))

  -- the last level
  pub inner-none : s.level + 1 ≡ s.levels → inner_of s ≡ []
  unfolding inner_of
  inner-none e = drop_of_length-le (take s.levels s.counts) {i = suc s.level} (rw levels-length (omega (arith, e)))

  -- after a packet's values: the last level again
  pub filled-last : (w : Where) (outer : List Level) (packet : ℕ) → s.level + 1 ≡ s.levels
      → filled w outer (level_of s packet) (inner_of s) ≡ body w outer (level_of s packet) (inner_of s) 0
  unfolding filled
  filled-last w outer packet e = rw (inner-none e)

  -- level 1, where a header ends
  pub outermost : (outer : List ℕ) (n : ℕ) → Outermost s → Header s outer n → reverse_aux outer (n ∷ []) ≡ (level_of s 0).names ∷ inner_of s
  unfolding inner_of
  outermost outer n o e =
      e.counts
      ∙ ap (λ k. drop k (take s.levels s.counts)) (sym o.level)
      ∙ drop-cons (take s.levels s.counts) s.level 0 (rw levels-length h.some)
      ∙ ap (λ k. k ∷ drop (suc s.level) (take s.levels s.counts)) (get_or-take s.levels s.counts s.level 0 h.some)

  pub around-none : Outermost s → Around s [] s.first
  unfolding parent_of name_at
  around-none o = record { depth = sym o.level; parent = sym o.parent; first = sym (ap (name_at s.first s.counts) o.level) }

  -- the level inside
  module _ (packet : ℕ) (l : s.level + 1 < s.levels) (d : LoopState) (e : d ≡ deeper_of s packet) where
    pub deeper-in : InLoop d
    deeper-in = rw e (record {
      size = h.size;
      some = l;
      names = refl;
      limit = h.limit;
      few = h.few;
      named = h.named;
      first = omega (arith, h.first, h.names, h.few s.level);
    })

    -- the next level, and those inside it
    pub inner-some : (level_of d 0).names ∷ inner_of d ≡ inner_of s
    unfolding inner_of
    inner-some =
        rw (e, add-one s.level)
        (sym (drop-cons (take s.levels s.counts) (suc s.level) 0 (rw levels-length (omega (arith, l)))
        ∙ ap (λ n. n ∷ drop (suc (suc s.level)) (take s.levels s.counts))
        (get_or-take s.levels s.counts (suc s.level) 0 (omega (arith, l)))))

    -- after a packet's values: before the packets of the level inside
    pub filled-deeper : (w : Where) (outer : List Level)
        → filled w outer (level_of s packet) (inner_of s) ≡ at_level w (level_of s packet ∷ outer) d
    unfolding filled
    filled-deeper w outer =
        ap (filled w outer (level_of s packet)) (sym inner-some)
        ∙ ap (λ n. body w (level_of s packet ∷ outer) (record { names = (level_of d 0).names; first = n; packet = 0 }) (inner_of d) 0)
        (ap (λ n. s.first + n) (sym h.names) ∙ sym (ap (λ x. x.first) e))

    pub around-deeper : (outer : List Level) (base : ℕ) → Around s outer base → Around d (level_of s packet ∷ outer) base
    unfolding parent_of name_at
    around-deeper outer base a =
        rw e (record { depth = omega (arith, a.depth); parent = refl; first = rw (add-one s.level, h.names) (ap (λ n. n + get_or s.counts s.level 0) a.first) })

    -- the columns of a loop are the same at each level
    pub columns-deeper : (base : ℕ) (began : List ℕ) (rows : Rows) → Columns base s.counts s.levels began rows → Columns base d.counts d.levels began rows
    columns-deeper base began rows c = rw e c

    pub columns-back : (base : ℕ) (began : List ℕ) (rows : Rows) → Columns base d.counts d.levels began rows → Columns base s.counts s.levels began rows
    columns-back base began rows c = rw e at c
