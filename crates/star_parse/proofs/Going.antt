-- How a read goes on: over each token that the state takes, to the refusal where it takes none, and from a state to one that runs alike.
use mathlib.Core.Path.{◌≡◌, refl, sym, ap, ◌∙◌}
use mathlib.Core.Bool.{true}
use mathlib.Core.List.{List, [], ◌∷◌, reverse_aux}
use Prim.Native.Nat.{ℕ, zero, suc, ◌+◌, ◌-◌, ◌≤◌, ◌<◌}
use native.Mathlib.Numerals.{add-one}
use native.Mathlib.Omega.{arith}
use lib.ListN.{length, get_or, drop}
use borrow.Author.Tests.{lt-ltb, le-ltb}
use Rattle.star_lex.specs.Rules.{Rules}
use Rattle.star_lex.specs.Tokens.{Token}
use Rattle.star_rows.specs.Rows.{put_word}
use Rattle.star_grammar.specs.Tables.{Rows, next, pass, open_loop, put_set, put_name, put_packet, put_value, linked}
use Rattle.star_grammar.specs.Machine.{Sort, sort_of, Where, in_block, in_frame, set_of, Level, parent_of, State, start, within, named, header, body, go, between, filled, fill, value_at, header_step, no_value, no_value_at, body_step, start_step, named_step, step, Run, good, end_between, end_run, run}
use Rattle.star_parse.specs.Parsed.{kind_tokens, FourTables, four_tables}
use Rattle.star_parse.specs.Reader.{sort_number, number_of, ahead, Headed, Moved, Misplaced, RowPut, Matches, AtWith, ComesWith, Unvalued, At, Whole, name_at, back_to, Columns, Filling, partly}
use Rattle.star_parse.specs.Reached.{Progress}
use Rattle.star_grammar.proofs.Sorts.{onward, run-alike}
use Rattle.star_parse.proofs.Ahead.{run-ahead, run_end, drop-next}
use Rattle.star_parse.proofs.Columns.{columns-pass, columns-packet, filling-none, filling-back, filling-more, item_back, item-more, named_more}
use Rattle.star_parse.proofs.Counted.{matches-pass, matches-open, matches-set, matches-name, matches-packet, matches-value}
use Rattle.star_parse.proofs.Refusing.{Refuses, partial-refuses}
use Rattle.star_grammar.proofs.Complete.{level, any-packet, NoValue, after-loop, step-begin, step_loop, step-item, step-deeper}

no_value_lem : (ts : List Token) → (ahead ts ≡ 7 → ⊥) → NoValue ts
unfolding ahead number_of sort_number
no_value_lem [] h = tt
no_value_lem (t ∷ ts) h = λ v. h (ap sort_number v)

closed-step : (rules : Rules) (b : ℕ) (k : Sort) (r : Rows) → (sort_number k ≡ 2 → ⊥) → (sort_number k ≡ 4 → ⊥) → (sort_number k ≡ 6 → ⊥)
    → step rules start k r ≡ step rules (within (in_block b)) k r
unfolding step start_step between sort_number
closed-step rules b Sort.block r f l n = refl
closed-step rules b Sort.global r f l n = refl
closed-step rules b Sort.frame r f l n = absurd (f refl)
closed-step rules b Sort.frame_end r f l n = refl
closed-step rules b Sort.loop r f l n = absurd (l refl)
closed-step rules b Sort.stop r f l n = refl
closed-step rules b Sort.name r f l n = absurd (n refl)
closed-step rules b Sort.value r f l n = refl

block_closed : (rules : Rules) (b : ℕ) (ts : List Token) (r : Rows) → (ahead ts ≡ 2 → ⊥) → (ahead ts ≡ 4 → ⊥) → (ahead ts ≡ 6 → ⊥)
    → run rules start ts r ≡ run rules (within (in_block b)) ts r
unfolding ahead number_of run end_run end_between
block_closed rules b [] r f l n = refl
block_closed rules b (t ∷ ts) r f l n =
    run-alike rules start (within (in_block b)) t ts r (closed-step rules b (sort_of t.kind) r f l n)

module _ {rules : Rules} (tokens : List Token) (before : FourTables) (outcome : Run) where
  -- over the next token
  step-on : (k : Sort) (put : Rows → Rows) {from to : State} {From To : Rows → Type 0} {p r : Progress} {t u : FourTables}
      → AtWith rules tokens before outcome from From p t → ahead (drop p.at tokens) ≡ sort_number k → r.at ≡ p.at + 1
      → ((rows : Rows) → Matches before rows p t → step rules from k rows ≡ go to (put rows))
      → ((rows : Rows) → Matches before rows p t → From rows → Matches before (put rows) r u)
      → ((rows : Rows) → Matches before rows p t → From rows → To (put rows)) → AtWith rules tokens before outcome to To r u
  step-on k put {from} {to} {p = p} {r = r} a e n s m h = record {
    rows = put a.rows;
    matches = m a.rows a.matches a.holds;
    holds = h a.rows a.matches a.holds;
    left = ap (λ ts. run rules to ts (put a.rows)) (sym (drop-next tokens p.at r.at n))
        ∙ ap (onward rules (drop 1 (drop p.at tokens)) a.rows) (sym (s a.rows a.matches))
        ∙ sym (run-ahead rules from (drop p.at tokens) a.rows k e)
        ∙ a.left;
  }

  -- a state that runs alike from here
  pub alike : {from to : State} {Holds : Rows → Type 0} {p : Progress} {t : FourTables} → AtWith rules tokens before outcome from Holds p t
      → ((rows : Rows) → run rules to (drop p.at tokens) rows ≡ run rules from (drop p.at tokens) rows) → AtWith rules tokens before outcome to Holds p t
  alike a e = record { rows = a.rows; matches = a.matches; left = e a.rows ∙ a.left; holds = a.holds }

  -- something else that holds of the rows
  pub becomes : {st : State} {From To : Rows → Type 0} {p : Progress} {t : FourTables} → ((rows : Rows) → Matches before rows p t → From rows → To rows)
      → AtWith rules tokens before outcome st From p t → AtWith rules tokens before outcome st To p t
  becomes f a = record { rows = a.rows; matches = a.matches; left = a.left; holds = f a.rows a.matches a.holds }

  -- no refusal yet
  pub comes : {st : State} {Holds : Rows → Type 0} {p : Progress} {t : FourTables} → p.refusal ≡ 0 → AtWith rules tokens before outcome st Holds p t
      → ComesWith rules tokens before outcome st Holds p t
  comes e a = record { goes = λ _. a; ends = λ n. absurd (n e) }

  -- refused before
  pub stays : {from to : State} {From To : Rows → Type 0} {p : Progress} {t : FourTables} → (p.refusal ≡ 0 → ⊥) → ComesWith rules tokens before outcome from From p t
      → ComesWith rules tokens before outcome to To p t
  stays n k = record { goes = λ e. absurd (n e); ends = k.ends }

  -- from a state to another, unless refused
  pub onto : {from to : State} {From To : Rows → Type 0} {p : Progress} {t : FourTables}
      → (AtWith rules tokens before outcome from From p t → AtWith rules tokens before outcome to To p t) → ComesWith rules tokens before outcome from From p t
      → ComesWith rules tokens before outcome to To p t
  onto f k = record { goes = λ e. f (k.goes e); ends = k.ends }

  -- refused at the next token
  pub refused : {from to : State} {From To : Rows → Type 0} {p r : Progress} {t u : FourTables} (number : ℕ) → 0 < number
      → AtWith rules tokens before outcome from From p t → Refuses rules from number (drop p.at tokens) → Misplaced p number r → ComesWith rules tokens before outcome to To r u
  refused {p = p} {r = r} number some a f q = record {
    goes = λ z. absurd (omega (arith, q.refusal));
    ends = λ _. sym a.left ∙ f a.rows ∙ rw (q.refusal, q.at, a.matches.at);
  }

  -- what begins blocks and frames, and `save_`
  over-heading : (k : Sort) (kind : ℕ) → ((rows : Rows) → step rules start k rows ≡ go (within (in_block (next rows.sets))) (put_set kind 0 rows))
      → {p r : Progress} {t : FourTables} {sets : List ℕ} → At rules tokens before outcome start p t → ahead (drop p.at tokens) ≡ sort_number k
      → RowPut (kind ∷ (p.at + 1) ∷ 0 ∷ []) p.sets t.sets sets (Moved p 1 0 1 0 0 0 r)
      → At rules tokens before outcome (within (in_block r.sets)) r (four_tables sets t.names t.packets t.values)
  unfolding put_set
  over-heading k kind s {p} {r} {t} a e q =
      step-on k (put_set kind 0) a e q.counted.at
      (λ rows m. s rows ∙ ap (λ n. go (within (in_block n)) (put_set kind 0 rows)) (omega (arith, m.sets, q.counted.sets)))
      (λ rows m h. matches-set before rows p r t m kind 0 _ q) (λ rows m h. h)

  pub over-frame : {b : ℕ} {p r : Progress} {t : FourTables} {sets : List ℕ} → At rules tokens before outcome (within (in_block b)) p t
      → ahead (drop p.at tokens) ≡ 2 → RowPut (2 ∷ (p.at + 1) ∷ b ∷ []) p.sets t.sets sets (Moved p 1 0 1 0 0 0 r)
      → At rules tokens before outcome (within (in_frame b r.sets)) r (four_tables sets t.names t.packets t.values)
  unfolding step between sort_number put_set
  over-frame {b} {p} {r} {t} a e q =
      step-on Sort.frame (put_set 2 b) a e q.counted.at
      (λ rows m. ap (λ n. go (within (in_frame b n)) (put_set 2 b rows)) (omega (arith, m.sets, q.counted.sets)))
      (λ rows m h. matches-set before rows p r t m 2 b _ q) (λ rows m h. h)

  pub over-frame-end : {b s : ℕ} {p r : Progress} {t : FourTables} → At rules tokens before outcome (within (in_frame b s)) p t
      → ahead (drop p.at tokens) ≡ 3 → Moved p 1 0 0 0 0 0 r → At rules tokens before outcome (within (in_block b)) r t
  unfolding step between sort_number pass
  over-frame-end {p = p} {r = r} {t = t} a e v =
      step-on Sort.frame_end pass a e v.at (λ rows m. refl) (λ rows m h. matches-pass before rows p r t m v) (λ rows m h. h)

  -- an item's name and its value
  pub over-name : {w : Where} {set : ℕ} {p r : Progress} {t : FourTables} {names : List ℕ} → At rules tokens before outcome (within w) p t → set_of w ≡ set
      → ahead (drop p.at tokens) ≡ 6 → RowPut (set ∷ (p.at + 1) ∷ 0 ∷ 0 ∷ []) p.names t.names names (Moved p 1 0 0 1 0 0 r)
      → AtWith rules tokens before outcome (named w) (λ rows. Unvalued (length rows.names) rows) r (four_tables t.sets names t.packets t.values)
  unfolding sort_number
  over-name {w} {set} {p} {r} {t} a s e q =
      step-on Sort.name (put_name set 0 0) a e q.counted.at
      (λ rows m. step-item rules w rows ∙ ap (λ n. go (named w) (put_name n 0 0 rows)) s)
      (λ rows m h. matches-name before rows p r t m set 0 0 _ q) (λ rows m h. named_more set 0 0 rows h)

  pub over-item-value : {w : Where} {p r : Progress} {t : FourTables} {values : List ℕ}
      → AtWith rules tokens before outcome (named w) (λ rows. Unvalued (length rows.names) rows) p t → ahead (drop p.at tokens) ≡ 7
      → RowPut (p.names ∷ 0 ∷ (p.at + 1) ∷ 0 ∷ []) p.values (put_word 4 (p.values - 0) 3 (p.values + 1) t.values) values (Moved p 1 0 0 0 0 1 r)
      → At rules tokens before outcome (within w) r (four_tables t.sets t.names t.packets values)
  unfolding step named_step sort_number
  over-item-value {w} {p} {r} {t} a e q =
      step-on Sort.value (put_value p.names 0) a e q.counted.at
      (λ rows m. ap (λ n. go (within w) (put_value n 0 rows)) (sym m.names))
      (λ rows m h. matches-value before rows p r t m p.names 0 0 _ (rw m.names (item_back rows h)) q) (λ rows m h. rw m.names (item-more 0 rows h))

  -- the header of a loop
  pub over-loop : {w : Where} {p r : Progress} {t : FourTables} → At rules tokens before outcome (within w) p t → ahead (drop p.at tokens) ≡ 4
      → Moved p 1 1 0 0 0 0 r → AtWith rules tokens before outcome (header w (r.names + 1) [] 0 0) (Unvalued (r.names + 1)) r t
  unfolding sort_number open_loop
  over-loop {w} {p} {r} {t} a e v =
      step-on Sort.loop open_loop a e v.at
      (λ rows m. step_loop rules w rows ∙ ap (λ n. go (header w n [] 0 0) (open_loop rows)) (omega (arith, m.names, v.names)))
      (λ rows m h. matches-open before rows p r t m v) (λ rows m h name l. h name (omega (arith, m.names, v.names, l)))

  pub over-level-name : {w : Where} {first set number : ℕ} {outer : List ℕ} {n : ℕ} {p r : Progress} {t : FourTables} {names : List ℕ}
      → AtWith rules tokens before outcome (header w first outer n 0) (Unvalued first) p t → set_of w ≡ set → suc (length outer) ≡ number → ahead (drop p.at tokens) ≡ 6
      → RowPut (set ∷ (p.at + 1) ∷ p.loops ∷ number ∷ []) p.names t.names names (Moved p 1 0 0 1 0 0 r)
      → AtWith rules tokens before outcome (header w first outer (suc n) 0) (Unvalued first) r (four_tables t.sets names t.packets t.values)
  unfolding step header_step sort_number put_name
  over-level-name {w} {first} {set} {number} {outer} {n} {p} {r} {t} a s d e q =
      step-on Sort.name (put_name set p.loops number) a e q.counted.at
      (λ rows m. rw (s, d, m.loops))
      (λ rows m h. matches-name before rows p r t m set p.loops number _ q) (λ rows m h. h)

  pub over-level : {w : Where} {first : ℕ} {outer : List ℕ} {n : ℕ} {p r : Progress} {t : FourTables}
      → AtWith rules tokens before outcome (header w first outer n 0) (Unvalued first) p t → ahead (drop p.at tokens) ≡ 4 → 0 < n
      → suc (length outer) < rules.levels → Moved p 1 0 0 0 0 0 r → AtWith rules tokens before outcome (header w first (n ∷ outer) 0 0) (Unvalued first) r t
  unfolding sort_number pass
  over-level {w} {first} {outer} {n} {p} {r} {t} a e some l v =
      step-on Sort.loop pass a e v.at (λ rows m. step-deeper rules w first outer n rows some l) (λ rows m h. matches-pass before rows p r t m v)
      (λ rows m h. h)

  pub over-header-stop : {w : Where} {first : ℕ} {outer : List ℕ} {n s : ℕ} {p r : Progress} {t : FourTables} → rules.header_stops ≡ true
      → AtWith rules tokens before outcome (header w first outer n s) (Unvalued first) p t → ahead (drop p.at tokens) ≡ 5 → 0 < n → s < length outer
      → Moved p 1 0 0 0 0 0 r → AtWith rules tokens before outcome (header w first outer n (suc s)) (Unvalued first) r t
  unfolding step header_step sort_number pass
  over-header-stop {w} {first} {outer} {n} {s} {p} {r} {t} allowed a e some l v =
      step-on Sort.stop pass a e v.at (λ rows m. rw (lt-ltb 0 n some, lt-ltb s (length outer) l, allowed)) (λ rows m h. matches-pass before rows p r t m v)
      (λ rows m h. h)

  -- where a header ends with a value, level 1 begins
  pub begins : {w : Where} {first : ℕ} {outer : List ℕ} {n s m : ℕ} {inner : List ℕ} {Holds : Rows → Type 0} {p : Progress} {t : FourTables}
      → AtWith rules tokens before outcome (header w first outer n s) Holds p t → ahead (drop p.at tokens) ≡ 7 → 0 < n → reverse_aux outer (n ∷ []) ≡ m ∷ inner
      → AtWith rules tokens before outcome (body w [] (level m first 0) inner 0) Holds p t
  unfolding sort_number
  begins {w} {first} {outer} {n} {s} {m} {inner} {p = p} a e some q =
      alike a (λ rows. run-ahead rules (body w [] (level m first 0) inner 0) (drop p.at tokens) rows Sort.value e
      ∙ ap (onward rules (drop 1 (drop p.at tokens)) rows) (sym (step-begin rules w first outer n s m inner rows some q))
      ∙ sym (run-ahead rules (header w first outer n s) (drop p.at tokens) rows Sort.value e))

  -- the values of a packet
  module _ (base : ℕ) (counts : List ℕ) (levels depth : ℕ) (began : List ℕ) (back : ℕ) (deep : depth < levels) where
    pub over_first : {w : Where} {outer : List Level} {first k number parent f : ℕ} {inner : List ℕ} {p q r : Progress} {t : FourTables} {packets values : List ℕ}
        → AtWith rules tokens before outcome (body w outer (level (get_or counts depth 0) first k) inner 0) (Columns base counts levels began) p t
        → ahead (drop p.at tokens) ≡ 7 → suc (length outer) ≡ number → parent_of outer ≡ parent → f ≡ 0 → first ≡ name_at base counts depth
        → 0 < get_or counts depth 0 → back ≡ back_to (get_or began depth 0) p.values
        → RowPut (p.loops ∷ number ∷ parent ∷ []) p.packets t.packets packets (Moved p 0 0 0 0 1 0 q)
        → RowPut ((first + f) ∷ q.packets ∷ (q.at + 1) ∷ 0 ∷ []) q.values (put_word 4 (q.values - back) 3 (q.values + 1) t.values) values (Moved q 1 0 0 0 0 1 r)
        → AtWith rules tokens before outcome (partly w outer (level (get_or counts depth 0) first q.packets) inner (f + 1)) (Filling base counts levels depth (f + 1) began) r
        (four_tables t.sets t.names packets values)
    unfolding step body_step value_at fill sort_number partly
    over_first {w} {outer} {first} {k} {number} {parent} {f} {inner} {p} {q} {r} {t} a e d u z at some b g h =
        let put : Rows → Rows = λ rows. put_packet rows.loops number parent rows in
        let begun : (rows : Rows) → Columns base counts levels began rows → Filling base counts levels depth f began (put rows)
        = λ rows c. rw z (filling-none base counts levels depth began (put rows) deep (columns-packet base counts levels began rows.loops number parent rows c)) in
        let is : first + f ≡ name_at base counts depth + f = ap (λ n. n + f) at in
        let room : f < get_or counts depth 0 = omega (arith, z, some) in
        step-on Sort.value (λ rows. put_value (first + f) q.packets (put rows)) a e (omega (arith, g.counted.at, h.counted.at))
        (λ rows m. rw (z, d, u)
        (ap (λ x. go (partly w outer (level (get_or counts depth 0) first x) inner 1) (put_value (first + 0) x (put rows))) (omega (arith, m.packets, g.counted.packets))))
        (λ rows m c.
        let k = matches-packet before rows p q t m number parent _ g in
        matches-value before (put rows) q r _ k (first + f) q.packets back _
        (filling-back base counts levels depth f (first + f) q.packets began (put rows) deep room is (begun rows c) back
        (b ∙ ap (back_to (get_or began depth 0)) (omega (arith, k.values, g.counted.values, z)))) h)
        (λ rows m c. filling-more base counts levels depth f (first + f) q.packets began (put rows) deep room is (begun rows c))

    module _ (w : Where) (outer : List Level) (first packet : ℕ) (inner : List ℕ) where
      pub over-value : (f : ℕ) {p r : Progress} {t : FourTables} {values : List ℕ}
          → AtWith rules tokens before outcome (partly w outer (level (get_or counts depth 0) first packet) inner f) (Filling base counts levels depth f began) p t
          → 0 < f → f < get_or counts depth 0 → ahead (drop p.at tokens) ≡ 7 → first ≡ name_at base counts depth
          → back ≡ back_to (get_or began depth 0) (p.values - f)
          → RowPut ((first + f) ∷ packet ∷ (p.at + 1) ∷ 0 ∷ []) p.values (put_word 4 (p.values - back) 3 (p.values + 1) t.values) values (Moved p 1 0 0 0 0 1 r)
          → AtWith rules tokens before outcome (partly w outer (level (get_or counts depth 0) first packet) inner (f + 1)) (Filling base counts levels depth (f + 1) began) r
          (four_tables t.sets t.names t.packets values)
      unfolding step body_step value_at fill sort_number partly
      over-value zero a some room e at b g = absurd (omega arith)
      over-value (suc f) {p} {r} {t} a some room e at b g =
          let is : first + suc f ≡ name_at base counts depth + suc f = ap (λ n. n + suc f) at in
          rw (add-one (suc f))
          (step-on Sort.value (put_value (first + suc f) packet) (rw (lt-ltb (suc f) (get_or counts depth 0) room) at a) e g.counted.at (λ rows m. refl)
          (λ rows m c. matches-value before rows p r t m (first + suc f) packet back _
          (filling-back base counts levels depth (suc f) (first + suc f) packet began rows deep room is c back (rw m.values at b)) g)
          (λ rows m c. rw (add-one (suc f)) at (filling-more base counts levels depth (suc f) (first + suc f) packet began rows deep room is c)))

  module _ (w : Where) (outer : List Level) (l : Level) (inner : List ℕ) where
    -- a packet that has all its values
    pub full : (f : ℕ) {Holds : Rows → Type 0} {p : Progress} {t : FourTables} → AtWith rules tokens before outcome (partly w outer l inner f) Holds p t → l.names ≤ f
        → AtWith rules tokens before outcome (filled w outer l inner) Holds p t
    unfolding partly
    full f a h = rw (le-ltb f l.names h) at a

    -- no value where the packet is not full
    pub not_full : (f : ℕ) {From To : Rows → Type 0} {p r : Progress} {t u : FourTables} {to : State} → AtWith rules tokens before outcome (partly w outer l inner f) From p t
        → 0 < f → f < l.names → (ahead (drop p.at tokens) ≡ 7 → ⊥) → Misplaced p 10 r → ComesWith rules tokens before outcome to To r u
    unfolding partly
    not_full zero a some room h q = absurd (omega arith)
    not_full (suc f) {p = p} a some room h q =
        refused 10 (omega arith) (rw (lt-ltb (suc f) l.names room) at a) (partial-refuses rules w outer l inner f (drop p.at tokens) h) q

  -- `stop_` closes an inner level
  pub over-stop : {w : Where} {o l : Level} {outer : List Level} {inner : List ℕ} {base : ℕ} {counts : List ℕ} {levels : ℕ} {began : List ℕ} {p r : Progress} {t : FourTables}
      → AtWith rules tokens before outcome (body w (o ∷ outer) l inner 0) (Columns base counts levels began) p t → ahead (drop p.at tokens) ≡ 5
      → Moved p 1 0 0 0 0 0 r → AtWith rules tokens before outcome (body w outer o (l.names ∷ inner) 0) (Columns base counts levels began) r t
  unfolding step body_step no_value_at no_value sort_number
  over-stop {base = base} {counts} {levels} {began} {p} {r} {t} a e v =
      step-on Sort.stop pass a e v.at (λ rows m. refl) (λ rows m h. matches-pass before rows p r t m v) (λ rows m h. columns-pass base counts levels began rows h)

  -- between packets, the number of the one before is not read
  pub unpacked : {w : Where} {outer : List Level} {n first k : ℕ} {inner : List ℕ} {Holds : Rows → Type 0} {p : Progress} {t : FourTables}
      → AtWith rules tokens before outcome (body w outer (level n first k) inner 0) Holds p t → AtWith rules tokens before outcome (body w outer (level n first 0) inner 0) Holds p t
  unpacked {w} {outer} {n} {first} {k} {inner} {p = p} a = alike a (λ rows. any-packet rules w outer n first 0 k inner (drop p.at tokens) rows)

  -- after the packets of level 1, where no value comes
  pub leaves : {w : Where} {l : Level} {inner : List ℕ} {Holds : Rows → Type 0} {p : Progress} {t : FourTables} → AtWith rules tokens before outcome (body w [] l inner 0) Holds p t
      → (ahead (drop p.at tokens) ≡ 7 → ⊥) → AtWith rules tokens before outcome (within w) Holds p t
  leaves {w} {l} {inner} {p = p} a h = alike a (λ rows. sym (after-loop rules w l inner (drop p.at tokens) rows (no_value_lem (drop p.at tokens) h)))

  -- in a block where no entry and no frame comes: as before a block
  pub closes : {b : ℕ} {p : Progress} {t : FourTables} → At rules tokens before outcome (within (in_block b)) p t → (ahead (drop p.at tokens) ≡ 2 → ⊥)
      → (ahead (drop p.at tokens) ≡ 4 → ⊥) → (ahead (drop p.at tokens) ≡ 6 → ⊥) → At rules tokens before outcome start p t
  closes {b} {p} a f l n = alike a (λ rows. block_closed rules b (drop p.at tokens) rows f l n)

  -- the end before a block
  pub accepts : {p : Progress} {t : FourTables} → (a : At rules tokens before outcome start p t) → ahead (drop p.at tokens) ≡ 0 → good (linked a.rows) ≡ outcome
  unfolding end_run
  accepts {p} a e = sym (run_end rules start (drop p.at tokens) a.rows e) ∙ a.left

  -- refused, so that the whole read is
  pub whole-refused : (count : ℕ) {st : State} {Holds : Rows → Type 0} {p : Progress} {t : FourTables} → (p.refusal ≡ 0 → ⊥) → ComesWith rules tokens before outcome st Holds p t
      → Whole count outcome before p t
  whole-refused count n k = record { accepts = λ e. absurd (n e); refuses = k.ends }

-- over what begins a block
pub over-block : {rules : Rules} (count : ℕ) (tokens : List ℕ) (before : FourTables) (outcome : Run) (kind : ℕ) {p r : Progress} {t : FourTables} {sets : List ℕ}
    → At rules (kind_tokens count tokens) before outcome start p t → Headed count tokens p.at kind
    → RowPut (kind ∷ (p.at + 1) ∷ 0 ∷ []) p.sets t.sets sets (Moved p 1 0 1 0 0 0 r)
    → At rules (kind_tokens count tokens) before outcome (within (in_block r.sets)) r (four_tables sets t.names t.packets t.values)
unfolding step start_step sort_number
over-block count tokens before outcome _ a (Headed.data_block h) q = over-heading (kind_tokens count tokens) before outcome Sort.block 1 (λ rows. refl) a h.is q
over-block count tokens before outcome _ a (Headed.global_block h) q = over-heading (kind_tokens count tokens) before outcome Sort.global 3 (λ rows. refl) a h.is q
