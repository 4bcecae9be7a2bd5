-- The number of a refusal after a row that the machine takes: why a step refuses is why the row with the token begins no file, with any names,
-- with any number of levels and with header stops.
use mathlib.Core.Path.{◌≡◌, refl, ap, ◌∙◌, subst}
use mathlib.Core.Bool.{true, false}
use mathlib.Core.List.{List, [], ◌∷◌, ◌++◌, Memᴰ}
use Prim.Native.Nat.{ℕ, ◌+◌, ◌≤◌}
use native.Mathlib.Omega.{arith}
use Rattle.star_lex.specs.Rules.{Rules, at_levels, at_stops}
use Rattle.star_lex.specs.Tokens.{Token, Each}
use Rattle.star_lex.proofs.Formed.{FormedBy}
use Rattle.star_lex.proofs.Cases.{impossible}
use Rattle.star_lex.proofs.Each.{each_append, each-implies}
use Rattle.star_lex.proofs.WellFormed.{formed-same, formed-levels}
use Rattle.star_lex.proofs.SameRules.{tokens-same}
use Rattle.star_lex.proofs.FreshName.{fresh-name-of}
use Rattle.star_grammar.specs.Tables.{Rows, no_rows}
use Rattle.star_grammar.specs.Machine.{Sort, sort_of, State, start, go, refuse, step, step_at, bad, end_run, walk}
use Rattle.star_grammar.proofs.Sorts.{sort-name, step-sort}
use Rattle.star_grammar.proofs.Formed.{each-fixed}
use Rattle.star_grammar.specs.Layout.{today_row}
use Rattle.star_grammar.specs.Tree.{frame_close, IsName}
use Rattle.star_grammar.proofs.Images.{row_image, row_snoc, same-image, row-marks, row-stops, image-stops, more-row, any-row}
use Rattle.star_grammar.proofs.OtherRules.{file-by}
use Rattle.star_grammar.proofs.Walking.{Walks, walk_step, halted}
use Rattle.star_grammar.proofs.Limits.{walk-limit, walks-limit, walk-stops}
use Rattle.star_grammar.proofs.Refusals.{InPacket, Refusal, refusal, packet-name, EndRefusal, end-refusal}
use Rattle.star_grammar.proofs.Marks.{Marked, marks, walk-marked, packet-marked, Outside, outside}
use Rattle.star_read.specs.Demands.{Usable, BeginsShape, ValueSince, NoName, NumberAt, NumberAtEnd}
use Rattle.star_read.proofs.Begin.{shape-walks, walks-shape}
use Rattle.star_read.proofs.Since.{Sorted, each-sorted, since-marks, marks-since}

module _ (rules : Rules) (usable : Usable rules) (p : List Token) (formed : Each (FormedBy rules) p) (st : State) (r : Rows)
    (w : walk rules start (today_row rules p) no_rows ≡ go st r) where
  -- a name is one in each layout
  name-step : (some : Rules) (x : Token) → IsName x → step_at some st (row_image rules p x).kind r ≡ step some st Sort.name r
  name-step some x n =
      ap (λ y. step_at some st y.kind r) (same-image rules p x (λ e. omega (arith, n.kind6)) (λ e. omega (arith, n.kind6))) ∙ step-sort some st x.kind r Sort.name (sort-name x n)

  no_name : InPacket st → NoName rules p
  no_name h x n b =
      halted rules start st (today_row rules p) (row_image rules p x) no_rows r 10 w (name-step rules x n ∙ packet-name rules st r h)
      (subst (λ ts. Walks rules start ts no_rows) (row_snoc rules p x) (shape-walks rules (p ++ (x ∷ [])) b))

  sorted : Each Sorted p
  sorted = each-sorted p (each-fixed rules p formed)

  marked : Marked st (marks false p)
  marked = subst (Marked st) (row-marks rules false p) (walk-marked rules start st (today_row rules p) no_rows r false w refl)

  value-since : InPacket st → ValueSince p
  value-since h = marks-since p sorted (packet-marked st (marks false p) h marked)

  -- after a token of this kind a file may go on
  goes_on : (limit : ℕ) → rules.levels ≤ limit → (t : Token) → FormedBy rules t → (s : State) (u : Rows)
      → step_at (at_levels rules limit) st (row_image rules p t).kind r ≡ go s u → BeginsShape (at_levels rules limit) (p ++ (t ∷ []))
  goes_on limit l t h s u e =
      walks-shape (at_levels rules limit) (record { some_level = omega (arith, usable.some_level); long_names = usable.long_names }) (p ++ (t ∷ []))
      (each-implies (FormedBy rules) (FormedBy (at_levels rules limit)) (λ x. formed-levels limit) (p ++ (t ∷ []))
      ((each_append (FormedBy rules) p (t ∷ [])).1 (formed, (h, tt)))) (
        s,
        u,
        ap (λ ts. walk (at_levels rules limit) start ts no_rows) (more-row rules limit l p (st, r, w) t)
            ∙ walk_step (at_levels rules limit) start st (today_row rules p) (row_image rules p t) no_rows r s u (walk-limit rules limit l start st (today_row rules p) no_rows r w) e,
      )

  outside-packet : (InPacket st → ⊥) → ValueSince p → NoName rules p → ⊥
  outside-packet h v n = at (outside st h)
    where
      at : Outside st → ⊥
      at (Outside.valueless f) =
          let a : marks false p ≡ false = f (marks false p) marked in
          let b : marks false p ≡ true = since-marks p sorted v in
          impossible cc
      at (Outside.nameable f) =
          let x : (x : List ℕ) × FormedBy rules (record { kind = 6; content = x }) × (Memᴰ x [] → ⊥)
          = fresh-name-of rules 1 [] (omega arith) (omega (arith, usable.long_names)) (omega arith) in
          let t : Token = record { kind = 6; content = x.0 } in
          let g : (s : State) × (u : Rows) × (step rules st Sort.name r ≡ go s u) = f rules r in
          n t (record { kind6 = refl }) (goes_on rules.levels (omega arith) t x.1 g.0 g.1 (name-step rules t (record { kind6 = refl }) ∙ g.2))

  pub number-end : (n i : ℕ) → end_run st r ≡ bad n i → NumberAtEnd rules p n
  number-end n i e = at (end-refusal st r n i e)
    where
      at : {n : ℕ} → EndRefusal st n → NumberAtEnd rules p n
      at (EndRefusal.packet h) = NumberAtEnd.packet (value-since h) (no_name h)
      at (EndRefusal.other h) = NumberAtEnd.other (outside-packet h)

  module _ (t : Token) where
    -- a step at a sort that no number of levels takes
    never : (m : ℕ) → ((l : ℕ) → step (at_levels rules l) st (sort_of (row_image rules p t).kind) r ≡ refuse m)
        → (limit : ℕ) → BeginsShape (at_levels rules limit) (p ++ (t ∷ [])) → ⊥
    never m f limit b =
        let more : ℕ = limit + rules.levels in
        let k : Walks (at_levels rules limit) start (today_row (at_levels rules limit) (p ++ (t ∷ []))) no_rows = shape-walks (at_levels rules limit) (p ++ (t ∷ [])) b in
        halted (at_levels rules more) start st (today_row rules p) (row_image rules p t) no_rows r m (walk-limit rules more (omega arith) start st (today_row rules p) no_rows r w)
        (f more)
        (subst (λ ts. Walks (at_levels rules more) start ts no_rows) (any-row rules limit p t (st, r, w) k)
        (walks-limit (at_levels rules limit) more (omega arith) start (today_row (at_levels rules limit) (p ++ (t ∷ []))) no_rows k))

    -- a step that refuses: no file begins
    none : (m : ℕ) → step_at rules st (row_image rules p t).kind r ≡ refuse m → BeginsShape rules (p ++ (t ∷ [])) → ⊥
    none m e b =
        halted rules start st (today_row rules p) (row_image rules p t) no_rows r m w e
        (subst (λ ts. Walks rules start ts no_rows) (row_snoc rules p t) (shape-walks rules (p ++ (t ∷ [])) b))

-- rules with header stops are usable, and tokens are formed by them as before
stops-usable : {rules : Rules} → Usable rules → Usable (at_stops rules true)
stops-usable u = record { some_level = u.some_level; long_names = u.long_names }

stops-formed : {rules : Rules} {t : Token} → FormedBy rules t → FormedBy (at_stops rules true) t
stops-formed h = formed-same refl refl h

module _ (rules : Rules) (usable : Usable rules) (p : List Token) (formed : Each (FormedBy rules) p) (st : State) (r : Rows)
    (w : walk rules start (today_row rules p) no_rows ≡ go st r) where
  -- the same row by the old rules
  old-formed : Each (FormedBy (at_stops rules true)) p
  old-formed = each-implies (FormedBy rules) (FormedBy (at_stops rules true)) (λ x. stops-formed) p formed

  old-walk : walk (at_stops rules true) start (today_row (at_stops rules true) p) no_rows ≡ go st r
  old-walk = ap (λ ts. walk (at_stops rules true) start ts no_rows) (row-stops rules true p) ∙ walk-stops rules start st (today_row rules p) no_rows r w

  module _ (t : Token) (h : FormedBy rules t) where
    -- a step there
    old-step : (some : Rules) → step_at some st (row_image (at_stops rules true) p t).kind r ≡ step_at some st (row_image rules p t).kind r
    old-step some = ap (λ (x : Token). step_at some st x.kind r) (image-stops rules true p t)

    old-never : (m : ℕ) → ((l : ℕ) → step (at_levels (at_stops rules true) l) st (sort_of (row_image rules p t).kind) r ≡ refuse m)
        → (limit : ℕ) → BeginsShape (at_levels (at_stops rules true) limit) (p ++ (t ∷ [])) → ⊥
    old-never m f = never (at_stops rules true) (stops-usable usable) p old-formed st r old-walk t m (λ l. old-step (at_levels (at_stops rules true) l) ∙ f l)

    number-of : (n : ℕ) → step_at rules st (row_image rules p t).kind r ≡ refuse n → Refusal rules st (sort_of (row_image rules p t).kind) r n → NumberAt rules p t n
    number-of n e (Refusal.retired s u g) =
        NumberAt.retired (none rules usable p formed st r w t 16 e)
        (goes_on (at_stops rules true) (stops-usable usable) p old-formed st r old-walk rules.levels (omega arith) t (stops-formed h) s u (old-step (at_stops rules true) ∙ g))
    number-of n e (Refusal.deep d more l s u g) =
        NumberAt.deep (none (at_stops rules true) (stops-usable usable) p old-formed st r old-walk t 11 (old-step (at_stops rules true) ∙ d)) more
        (goes_on rules usable p formed st r w more l t h s u g)
    number-of n e (Refusal.packet i f) = NumberAt.packet (old-never 10 f) (value-since rules usable p formed st r w i) (no_name rules usable p formed st r w i)
    number-of n e (Refusal.other i f) = NumberAt.other (old-never 8 f) (outside-packet rules usable p formed st r w i)

    pub number-token : (n : ℕ) → step_at rules st (row_image rules p t).kind r ≡ refuse n → NumberAt rules p t n
    number-token n e = number-of n e (refusal rules st (sort_of (row_image rules p t).kind) r n e)

-- what begins a file does by the old rules
shape-old : {rules : Rules} {p : List Token} → BeginsShape rules p → BeginsShape (at_stops rules true) p
unfolding frame_close
shape-old {rules} b = record {
  file = b.file;
  tokens = b.tokens;
  splits = tokens-same (at_stops rules true) rules refl refl b.file ∙ b.splits;
  tree = b.tree;
  yield = b.yield;
  whole = file-by rules (at_stops rules true) (omega arith) (λ e. refl) b.tree b.whole;
  rest = b.rest;
  starts = b.starts;
}

-- the numbers exclude one another
pub numbers-exclude : {rules : Rules} {p : List Token} {t : Token} {m n : ℕ} → NumberAt rules p t m → NumberAt rules p t n → m ≡ n
numbers-exclude {rules} (NumberAt.taken b) (NumberAt.taken b') = refl
numbers-exclude {rules} (NumberAt.taken b) (NumberAt.retired f' b') = absurd (f' b)
numbers-exclude {rules} (NumberAt.taken b) (NumberAt.deep f' l' b') = absurd (f' (shape-old b))
numbers-exclude {rules} (NumberAt.taken b) (NumberAt.packet f' v' w') = absurd (f' rules.levels (shape-old b))
numbers-exclude {rules} (NumberAt.taken b) (NumberAt.other f' o') = absurd (f' rules.levels (shape-old b))
numbers-exclude {rules} (NumberAt.retired f b) (NumberAt.taken b') = absurd (f b')
numbers-exclude {rules} (NumberAt.retired f b) (NumberAt.retired f' b') = refl
numbers-exclude {rules} (NumberAt.retired f b) (NumberAt.deep f' l' b') = absurd (f' b)
numbers-exclude {rules} (NumberAt.retired f b) (NumberAt.packet f' v' w') = absurd (f' rules.levels b)
numbers-exclude {rules} (NumberAt.retired f b) (NumberAt.other f' o') = absurd (f' rules.levels b)
numbers-exclude {rules} (NumberAt.deep f l b) (NumberAt.taken b') = absurd (f (shape-old b'))
numbers-exclude {rules} (NumberAt.deep f l b) (NumberAt.retired f' b') = absurd (f b')
numbers-exclude {rules} (NumberAt.deep f l b) (NumberAt.deep f' l' b') = refl
numbers-exclude {rules} (NumberAt.deep f l b) (NumberAt.packet f' v' w') = absurd (f' l (shape-old b))
numbers-exclude {rules} (NumberAt.deep f l b) (NumberAt.other f' o') = absurd (f' l (shape-old b))
numbers-exclude {rules} (NumberAt.packet f v w) (NumberAt.taken b') = absurd (f rules.levels (shape-old b'))
numbers-exclude {rules} (NumberAt.packet f v w) (NumberAt.retired f' b') = absurd (f rules.levels b')
numbers-exclude {rules} (NumberAt.packet f v w) (NumberAt.deep f' l' b') = absurd (f l' (shape-old b'))
numbers-exclude {rules} (NumberAt.packet f v w) (NumberAt.packet f' v' w') = refl
numbers-exclude {rules} (NumberAt.packet f v w) (NumberAt.other f' o') = absurd (o' v w)
numbers-exclude {rules} (NumberAt.other f o) (NumberAt.taken b') = absurd (f rules.levels (shape-old b'))
numbers-exclude {rules} (NumberAt.other f o) (NumberAt.retired f' b') = absurd (f rules.levels b')
numbers-exclude {rules} (NumberAt.other f o) (NumberAt.deep f' l' b') = absurd (f l' (shape-old b'))
numbers-exclude {rules} (NumberAt.other f o) (NumberAt.packet f' v' w') = absurd (o v' w')
numbers-exclude {rules} (NumberAt.other f o) (NumberAt.other f' o') = refl

pub end-numbers-exclude : {rules : Rules} {p : List Token} {m n : ℕ} → NumberAtEnd rules p m → NumberAtEnd rules p n → m ≡ n
end-numbers-exclude (NumberAtEnd.packet v w) (NumberAtEnd.packet v' w') = refl
end-numbers-exclude (NumberAtEnd.packet v w) (NumberAtEnd.other o) = absurd (o v w)
end-numbers-exclude (NumberAtEnd.other o) (NumberAtEnd.packet v w) = absurd (o v w)
end-numbers-exclude (NumberAtEnd.other o) (NumberAtEnd.other o') = refl
