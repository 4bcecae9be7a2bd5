-- From each sane state a run accepts every row that may still come: the lemmas on pieces of trees, put together for the pieces of the row.
use mathlib.Core.Path.{◌≡◌, refl, ◌∙◌}
use mathlib.Core.Bool.{true}
use mathlib.Core.List.{List, [], ◌∷◌, ◌++◌, map, flat_map, reverse_aux}
use Prim.Native.Nat.{ℕ, zero, suc, ◌+◌, ◌≤◌, ◌<◌}
use native.Mathlib.Nat.{add-zero}
use native.Mathlib.Omega.{arith}
use lib.ListN.{length, replicate, length-map}
use borrow.Author.Tests.{lt-ltb}
use Rattle.star_lex.specs.Rules.{Rules}
use Rattle.star_lex.specs.Tokens.{Token, Each}
use Rattle.star_grammar.specs.Tree.{IsValue, inner_yield, file_yield, frame_end, loop_start, stop}
use Rattle.star_grammar.specs.Tables.{Rows, fold, put_entry, put_member, put_block, put_names, put_stops, put_values, linked}
use Rattle.star_grammar.specs.Machine.{Sort, Where, in_block, in_frame, set_of, Level, State, start, within, named, header, body, between, filled, no_value, no_value_at, body_step, named_step, step, Run, good, run}
use Rattle.star_grammar.proofs.Rest.{Members, InSet, Valued, Filling, Levels, Heading, InBody, Blocks, Rest, SaneHeader, SaneBody, Sane}
use Rattle.star_grammar.proofs.Counts.{Counts, map-counts}
use Rattle.star_grammar.proofs.Sorts.{sort-value, sort-frame-end, sort-stop, run-sort}
use Rattle.star_grammar.proofs.Sane.{reverse-counts}
use Rattle.star_grammar.proofs.Complete.{level, fill-values, packets-run, inner-run, names-run, last_of, before_of, last_some, before-length, before-reverse, before-counts, deeper-run, stops-run, begin-values, NoValue, not-value, after-loop, entries-no-value, entries-run, members-no-value, members_run, file-no-value, blocks-run, file-run, frame_end≢value}
use Rattle.star_grammar.proofs.Sound.{empty, level-packet}

-- a run that accepts
abbrev pub Good : Run → Type 0
Good x = (r : Rows) × (x ≡ good r)

module _ (rules : Rules) where
  accepts-members : (s : ℕ) (ts : List Token) (r : Rows) → Members rules ts → Good (run rules (within (in_block s)) ts r)
  accepts-members s ts r m = (
    linked (fold put_block m.blocks (fold (put_member s) m.members r)),
    rw m.yield
        (members_run rules s m.members (file_yield frame_end m.blocks) r m.members-whole (file-no-value rules m.blocks m.blocks-whole)
        ∙ blocks-run rules s m.blocks (fold (put_member s) m.members r) m.blocks-whole),
  )

  accepts-set : (w : Where) (ts : List Token) (r : Rows) → InSet rules w ts → Good (run rules (within w) ts r)
  unfolding step between set_of
  accepts-set (in_block s) ts r m = accepts-members s ts r m
  accepts-set (in_frame b s) ts r m =
      rw (
        m.yield,
        entries-run rules (in_frame b s) m.entries (frame_end ∷ m.after) r m.whole (not-value _ _ sort-frame-end frame_end≢value),
        run-sort rules (within (in_frame b s)) frame_end m.after (fold (put_entry s) m.entries r) Sort.frame_end sort-frame-end,
      )
      (accepts-members b m.after _ m.rest)

  set-no-value : (w : Where) (ts : List Token) → InSet rules w ts → NoValue ts
  set-no-value (in_block s) ts m =
      rw m.yield (members-no-value rules m.members (file_yield frame_end m.blocks) m.members-whole (file-no-value rules m.blocks m.blocks-whole))
  set-no-value (in_frame b s) ts m =
      rw m.yield (entries-no-value rules m.entries (frame_end ∷ m.after) m.whole (not-value _ _ sort-frame-end frame_end≢value))

  accepts-levels : (w : Where) (outer : List Level) (n first k : ℕ) (inner : List ℕ) (ts : List Token) (r : Rows) → Each (λ o. 1 ≤ o.names) outer
      → 1 ≤ n → Counts inner → Levels rules w outer n inner ts → Good (run rules (body w outer (level n first k) inner 0) ts r)
  unfolding step body_step no_value_at no_value
  accepts-levels w [] n first k inner ts r co some ci p =
      rw (
        p.yield,
        packets-run rules w inner (inner-run rules inner) ci [] n first k r.loops some p.packets p.after r refl p.whole,
        after-loop rules w (level n first k) inner p.after _ (set-no-value w p.after p.rest),
      )
      (accepts-set w p.after _ p.rest)
  accepts-levels w (o ∷ outer) n first k inner ts r co some ci p =
      rw (
        p.yield,
        packets-run rules w inner (inner-run rules inner) ci (o ∷ outer) n first k r.loops some p.packets p.after r refl p.whole,
        p.rest.yield,
        run-sort rules (body w (o ∷ outer) (level n first k) inner 0) stop p.rest.after _ Sort.stop sort-stop,
      )
      (accepts-levels w outer o.names o.first o.packet (n ∷ inner) p.rest.after _ co.1 co.0 (some, ci) p.rest.rest)

  filling-run : (w : Where) (outer : List Level) (n first k : ℕ) (inner : List ℕ) (f : ℕ) (vs rest : List Token) (r : Rows) → suc f < n
      → suc f + length vs ≡ n → Each IsValue vs
      → run rules (body w outer (level n first k) inner (suc f)) (vs ++ rest) r
      ≡ run rules (filled w outer (level n first k) inner) rest (put_values (suc (first + f)) k vs r)
  filling-run w outer n first k inner f vs rest r room e a = rw (lt-ltb (suc f) n room) at (fill-values rules w outer n first k inner f vs rest r e a)

  accepts-filling : (w : Where) (outer : List Level) (n first k : ℕ) (inner : List ℕ) (f : ℕ) (ts : List Token) (r : Rows)
      → SaneBody rules outer n inner (suc f) → Filling n (suc f) inner (Levels rules w outer n inner) ts
      → Good (run rules (body w outer (level n first k) inner (suc f)) ts r)
  accepts-filling w outer n first k inner f ts r h p =
      let vals : Rows = put_values (suc (first + f)) k p.values r in
      rw (
        p.yield,
        filling-run w outer n first k inner f p.values (inner_yield inner p.below ++ p.after) r h.room p.count p.are-values,
        inner-run rules inner w outer n first k p.below p.after vals vals.loops h.some-inner p.whole refl,
      )
      (accepts-levels w outer n first k inner p.after _ h.some-outer (omega (arith, h.room)) h.some-inner p.rest)

  -- the stops of a header, and its packets
  accepts-tail : (w : Where) (first : ℕ) (before : List ℕ) (n s stops m : ℕ) (inner : List ℕ) (tail : List Token) (r : Rows)
      → 1 ≤ n → Counts before → s + stops ≤ length before → (1 ≤ stops → rules.header_stops ≡ true) → reverse_aux before (n ∷ []) ≡ m ∷ inner
      → Filling m 0 inner (Levels rules w [] m inner) tail
      → Good (run rules (header w first before n s) (replicate stops stop ++ tail) r)
  accepts-tail w first before n s stops m inner tail r some cb l a e p =
      let c : Counts (m ∷ inner) = rw e at (reverse-counts before (n ∷ []) cb (some, tt)) in
      rw (stops-run rules w first before n s stops tail r some l a)
      (begun c p.yield)
    where
      begun : Counts (m ∷ inner) → tail ≡ p.values ++ (inner_yield inner p.below ++ p.after)
          → Good (run rules (header w first before n (s + stops)) tail (put_stops stops r))
      begun c q =
          rw (
            q,
            begin-values rules w first before n (s + stops) m inner p.values (inner_yield inner p.below ++ p.after) (put_stops stops r) some e
                (omega (arith, p.count, c.0)) p.are-values,
            ← q,
          )
          (accepts-levels w [] m first 0 inner tail (put_stops stops r) tt c.0 c.1 (level-packet rules w [] m inner tail p))

  accepts-header : (w : Where) (first : ℕ) (before : List ℕ) (n s : ℕ) (ts : List Token) (r : Rows) → SaneHeader rules before n s
      → Heading rules w before n s ts → Good (run rules (header w first before n s) ts r)
  unfolding flat_map
  accepts-header w first before n zero ts r h p =
      let ms : List ℕ = map length p.deeper in
      let c : Counts ms = map-counts p.deeper p.some_names in
      let r₁ : Rows = put_names (set_of w) r.loops (suc (length before)) p.names r in
      rw (
        p.yield,
        names-run rules w first before n p.names (flat_map (λ ns. loop_start ∷ ns) p.deeper ++ (replicate p.stops stop ++ p.tail)) r p.are_names,
        deeper-run rules w first before (n + length p.names) r₁.loops p.deeper (replicate p.stops stop ++ p.tail) r₁ p.some_name
            (omega (arith, p.levels)) p.some_names p.are_deeper refl,
      )
      (accepts-tail w first (before_of before (n + length p.names) ms) (last_of (n + length p.names) ms) 0 p.stops p.first p.inner p.tail _
      (last_some (n + length p.names) ms p.some_name c)
      (before-counts before (n + length p.names) ms h.some_names p.some_name c)
      (simp (before-length, length-map) (omega (arith, p.stops_fit))) p.stops_allowed
      (before-reverse before (n + length p.names) ms ∙ p.counts) p.packets)
  accepts-header w first before n (suc s) ts r h p =
      let none : (length p.names ≡ 0) × (length p.deeper ≡ 0) = p.stopped (omega arith) in
      let en : p.names ≡ [] = empty p.names none.0 in
      let ed : p.deeper ≡ [] = empty p.deeper none.1 in
      rw (p.yield, en, ed)
      (accepts-tail w first before n (suc s) p.stops p.first p.inner p.tail r (h.stopped (omega arith)) h.some_names
      (omega (arith, p.stops_fit, none.1)) p.stops_allowed (rw (en, ed, add-zero n) at p.counts) p.packets)

  accepts-blocks : (ts : List Token) (r : Rows) → Blocks rules ts → Good (run rules start ts r)
  accepts-blocks ts r p = (linked (fold put_block p.blocks r), rw p.yield (file-run rules p.blocks r p.whole))

  accepts-value : (w : Where) (ts : List Token) (r : Rows) → Valued (InSet rules w) ts → Good (run rules (named w) ts r)
  unfolding step named_step
  accepts-value w ts r p =
      rw (p.yield, run-sort rules (named w) p.value p.after r Sort.value (sort-value p.value p.is_value))
      (accepts-set w p.after _ p.rest)

  accepts-body : (w : Where) (outer : List Level) (l : Level) (inner : List ℕ) (f : ℕ) (ts : List Token) (r : Rows)
      → SaneBody rules outer l.names inner f → InBody rules w outer l inner f ts → Good (run rules (body w outer l inner f) ts r)
  accepts-body w outer l inner zero ts r h p =
      accepts-levels w outer l.names l.first l.packet inner ts r h.some-outer h.room h.some-inner p
  accepts-body w outer l inner (suc f) ts r h p = accepts-filling w outer l.names l.first l.packet inner f ts r h p

  -- a run from a sane state accepts each row that may still come
  pub accepts : (st : State) (ts : List Token) (r : Rows) → Sane rules st → Rest rules st ts → Good (run rules st ts r)
  accepts start ts r h p = accepts-blocks ts r p
  accepts (within w) ts r h p = accepts-set w ts r p
  accepts (named w) ts r h p = accepts-value w ts r p
  accepts (header w first before n s) ts r h p = accepts-header w first before n s ts r h p
  accepts (body w outer l inner f) ts r h p = accepts-body w outer l inner f ts r h p
