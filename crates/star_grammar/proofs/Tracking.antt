-- What is tracked of a row in the 1991 layout is what a state of the machine has of it: whether a frame is open, the part of a loop, the numbers of names of its levels, the level and the values of its
-- packet. A step that is taken leads from what one state has to what the next has.
use mathlib.Core.Path.{◌≡◌, refl, ap, ◌∙◌}
use mathlib.Core.Bool.{Bool, true, false, ◌&&◌}
use mathlib.Core.List.{List, [], ◌∷◌, ◌++◌, map, reverse_aux}
use Prim.Native.Nat.{ℕ, zero, suc, ◌+◌, ◌-◌}
use native.Mathlib.Omega.{arith}
use lib.Dec.{eqb, ltb}
use lib.ListN.{length, get_or, set, length-map, length-reverse_aux}
use borrow.Author.Tests.{lt-ltb, le-ltb, ne_eqb}
use Rattle.star_lex.specs.Rules.{Rules}
use Rattle.star_grammar.specs.Tables.{Rows, pass}
use Rattle.star_grammar.specs.Machine.{Sort, Where, in_block, in_frame, Level, State, start, within, named, header, body, go, between, filled, fill, value_at, begin, header_step, no_value, no_value_at, body_step, start_step, named_step, step}
use Rattle.star_grammar.specs.Layout.{Track, track, outside, is_between, pass_loop, one_more, pass_name, pass_stop, fill_one, pass_value, pass_sort}
use Rattle.star_grammar.proofs.Sane.{Taken, taken-cond, cond-case}

unfoldable pub is_frame : Where → Bool
is_frame (in_block s) = false
is_frame (in_frame b s) = true

abbrev names_of : List Level → List ℕ
names_of outer = map (λ l. l.names) outer

-- what is tracked of a row that has come to a state
unfoldable pub tracked : State → Track
tracked start = outside false
tracked (within w) = outside (is_frame w)
tracked (named w) = outside (is_frame w)
tracked (header w first before n s) = track (is_frame w) 1 (reverse_aux before (n ∷ [])) 0 0
tracked (body w outer l inner f) = track (is_frame w) 2 (reverse_aux (names_of outer) (l.names ∷ inner)) (length outer) f

-- the place after a list that is put in reverse before another
get_d_after : (xs ys : List ℕ) (k : ℕ) → get_or (reverse_aux xs ys) (length xs + k) 0 ≡ get_or ys k 0
get_d_after [] ys k = ap (λ i. get_or ys i 0) (omega arith)
get_d_after (x ∷ xs) ys k = ap (λ i. get_or (reverse_aux xs (x ∷ ys)) i 0) (omega arith) ∙ get_d_after xs (x ∷ ys) (suc k)

set_after : (xs ys : List ℕ) (k v : ℕ) → set (reverse_aux xs ys) (length xs + k) v ≡ reverse_aux xs (set ys k v)
set_after [] ys k v = ap (λ i. set ys i v) (omega arith)
set_after (x ∷ xs) ys k v = ap (λ i. set (reverse_aux xs (x ∷ ys)) i v) (omega arith) ∙ set_after xs (x ∷ ys) (suc k) v

append-after : (xs ys zs : List ℕ) → reverse_aux xs ys ++ zs ≡ reverse_aux xs (ys ++ zs)
append-after [] ys zs = refl
append-after (x ∷ xs) ys zs = append-after xs (x ∷ ys) zs

-- the names of the level that a header is in
header-length : (before : List ℕ) (n : ℕ) → length (reverse_aux before (n ∷ [])) ≡ suc (length before)
header-length before n = length-reverse_aux before (n ∷ []) ∙ omega arith

header-more : (before : List ℕ) (n : ℕ) → one_more (reverse_aux before (n ∷ [])) ≡ reverse_aux before (suc n ∷ [])
unfolding one_more
header-more before n =
    let i : length (reverse_aux before (n ∷ [])) - 1 ≡ length before + 0 = omega (arith, header-length before n) in
    rw (i, get_d_after before (n ∷ []) 0) (set_after before (n ∷ []) 0 (suc n))

-- a value of a packet
level-names : (outer : List Level) (n : ℕ) (inner : List ℕ) → get_or (reverse_aux (names_of outer) (n ∷ inner)) (length outer) 0 ≡ n
level-names outer n inner =
    ap (λ i. get_or (reverse_aux (names_of outer) (n ∷ inner)) i 0) (omega (arith, length-map outer (λ (l : Level). l.names))) ∙ get_d_after (names_of outer) (n ∷ inner) 0

levels-length : (outer : List Level) (n : ℕ) (inner : List ℕ) → length (reverse_aux (names_of outer) (n ∷ inner)) ≡ length outer + suc (length inner)
levels-length outer n inner = length-reverse_aux (names_of outer) (n ∷ inner) ∙ ap (λ i. i + suc (length inner)) (length-map outer (λ (l : Level). l.names))

abbrev Fills : (w : Where) (outer : List Level) (l : Level) (inner : List ℕ) (f : ℕ) → State → Type 0
Fills w outer l inner f s = fill_one (is_frame w) (reverse_aux (names_of outer) (l.names ∷ inner)) (length outer) f ≡ tracked s

filled-tracked : (w : Where) (outer : List Level) (l : Level) (inner : List ℕ) (f : ℕ) → ltb (suc f) l.names ≡ false → Fills w outer l inner f (filled w outer l inner)
unfolding filled fill_one tracked
filled-tracked w outer l [] f e =
    rw (level-names outer l.names [], e, le-ltb (suc (length outer)) (length (reverse_aux (names_of outer) (l.names ∷ []))) (omega (arith, levels-length outer l.names [])))
filled-tracked w outer l (m ∷ inner) f e =
    rw (level-names outer l.names (m ∷ inner), e, lt-ltb (suc (length outer)) (length (reverse_aux (names_of outer) (l.names ∷ m ∷ inner))) (omega (arith, levels-length outer l.names (m ∷ inner))))

fill-tracked : (w : Where) (outer : List Level) (l : Level) (inner : List ℕ) (f : ℕ) (r : Rows) → Taken (Fills w outer l inner f) (fill w outer l inner f r)
unfolding fill fill_one tracked
fill-tracked w outer l inner f r =
    cond-case (Fills w outer l inner f) (ltb (suc f) l.names) (body w outer l inner (suc f)) (filled w outer l inner)
    (λ e. rw (level-names outer l.names inner, e)) (filled-tracked w outer l inner f)

value-tracked : (w : Where) (outer : List Level) (l : Level) (inner : List ℕ) (f : ℕ) (r : Rows) → Taken (Fills w outer l inner f) (value_at w outer l inner f r)
unfolding value_at
value-tracked w outer l inner zero r = fill-tracked w outer _ inner 0 _
value-tracked w outer l inner (suc f) r = fill-tracked w outer l inner (suc f) r

module _ (rules : Rules) where
  -- from what a state has to what the next has
  abbrev Follows : State → Sort → State → Type 0
  Follows st k s = pass_sort rules.levels (tracked st) k ≡ tracked s

  begin-tracked : (w : Where) (first : ℕ) (ls : List ℕ) (r : Rows) → Taken (λ s. fill_one (is_frame w) ls 0 0 ≡ tracked s) (begin w first ls r)
  unfolding begin
  begin-tracked w first [] r = tt
  begin-tracked w first (m ∷ inner) r = value-tracked w [] _ inner 0 r

  header-tracked : (w : Where) (first : ℕ) (before : List ℕ) (n s : ℕ) (k : Sort) (r : Rows)
      → Taken (Follows (header w first before n s) k) (header_step rules w first before n s k r)
  unfolding header_step tracked pass_sort pass_loop pass_name pass_stop pass_value
  header-tracked w first before n s Sort.block r = tt
  header-tracked w first before n s Sort.global r = tt
  header-tracked w first before n s Sort.frame r = tt
  header-tracked w first before n s Sort.frame_end r = tt
  header-tracked w first before n s Sort.loop r =
      taken-cond (Follows (header w first before n s) Sort.loop) (ltb 0 n && eqb s 0) _ _
      (λ e. taken-cond (Follows (header w first before n s) Sort.loop) (ltb (suc (length before)) rules.levels) (go (header w first (n ∷ before) 0 0) (pass r)) _
      (λ d. rw (header-length before n, d) (ap (λ c. track (is_frame w) 1 c 0 0) (append-after before (n ∷ []) (0 ∷ [])))) (λ d. tt))
      (λ e. tt)
  header-tracked w first before n s Sort.stop r =
      taken-cond (Follows (header w first before n s) Sort.stop) (ltb 0 n && ltb s (length before)) _ _
      (λ e. taken-cond (Follows (header w first before n s) Sort.stop) rules.header_stops (go (header w first before n (suc s)) (pass r)) _ (λ d. refl) (λ d. tt)) (λ e. tt)
  header-tracked w first before n s Sort.name r =
      taken-cond (Follows (header w first before n s) Sort.name) (eqb s 0) _ _ (λ e. ap (λ c. track (is_frame w) 1 c 0 0) (header-more before n)) (λ e. tt)
  header-tracked w first before n s Sort.value r =
      taken-cond (Follows (header w first before n s) Sort.value) (ltb 0 n) _ _ (λ e. begin-tracked w first (reverse_aux before (n ∷ [])) r) (λ e. tt)

  -- between the entries of a set, in no header
  between-tracked : (w : Where) (t : Track) → t.inside ≡ is_frame w → (t.part ≡ 1 → ⊥) → (k : Sort) (r : Rows)
      → Taken (λ s. pass_sort rules.levels t k ≡ tracked s) (between w k r)
  unfolding between tracked pass_sort pass_loop pass_name is_frame
  between-tracked (in_block s) t e n Sort.block r = refl
  between-tracked (in_block s) t e n Sort.global r = refl
  between-tracked (in_block s) t e n Sort.frame r = refl
  between-tracked (in_block s) t e n Sort.frame_end r = tt
  between-tracked (in_block s) t e n Sort.loop r = rw (ne_eqb t.part 1 n, e)
  between-tracked (in_block s) t e n Sort.stop r = tt
  between-tracked (in_block s) t e n Sort.name r = rw (ne_eqb t.part 1 n, e)
  between-tracked (in_block s) t e n Sort.value r = tt
  between-tracked (in_frame b s) t e n Sort.block r = tt
  between-tracked (in_frame b s) t e n Sort.global r = tt
  between-tracked (in_frame b s) t e n Sort.frame r = tt
  between-tracked (in_frame b s) t e n Sort.frame_end r = refl
  between-tracked (in_frame b s) t e n Sort.loop r = rw (ne_eqb t.part 1 n, e)
  between-tracked (in_frame b s) t e n Sort.stop r = tt
  between-tracked (in_frame b s) t e n Sort.name r = rw (ne_eqb t.part 1 n, e)
  between-tracked (in_frame b s) t e n Sort.value r = tt

  no-value-tracked : (w : Where) (outer : List Level) (l : Level) (inner : List ℕ) (f : ℕ) (k : Sort) (r : Rows)
      → Taken (Follows (body w outer l inner f) k) (no_value_at w outer l inner f k r)
  unfolding no_value_at no_value tracked pass_sort pass_stop
  no-value-tracked w outer l inner (suc f) k r = tt
  no-value-tracked w [] l inner zero k r = between-tracked w _ refl (omega arith) k r
  no-value-tracked w (o ∷ outer) l inner zero Sort.block r = tt
  no-value-tracked w (o ∷ outer) l inner zero Sort.global r = tt
  no-value-tracked w (o ∷ outer) l inner zero Sort.frame r = tt
  no-value-tracked w (o ∷ outer) l inner zero Sort.frame_end r = tt
  no-value-tracked w (o ∷ outer) l inner zero Sort.loop r = tt
  no-value-tracked w (o ∷ outer) l inner zero Sort.stop r = ap (λ i. track (is_frame w) 2 (reverse_aux (names_of outer) (o.names ∷ l.names ∷ inner)) i 0) (omega arith)
  no-value-tracked w (o ∷ outer) l inner zero Sort.name r = tt
  no-value-tracked w (o ∷ outer) l inner zero Sort.value r = tt

  body-tracked : (w : Where) (outer : List Level) (l : Level) (inner : List ℕ) (f : ℕ) (k : Sort) (r : Rows)
      → Taken (Follows (body w outer l inner f) k) (body_step w outer l inner f k r)
  unfolding body_step tracked pass_sort pass_value
  body-tracked w outer l inner f Sort.block r = no-value-tracked w outer l inner f Sort.block r
  body-tracked w outer l inner f Sort.global r = no-value-tracked w outer l inner f Sort.global r
  body-tracked w outer l inner f Sort.frame r = no-value-tracked w outer l inner f Sort.frame r
  body-tracked w outer l inner f Sort.frame_end r = no-value-tracked w outer l inner f Sort.frame_end r
  body-tracked w outer l inner f Sort.loop r = no-value-tracked w outer l inner f Sort.loop r
  body-tracked w outer l inner f Sort.stop r = no-value-tracked w outer l inner f Sort.stop r
  body-tracked w outer l inner f Sort.name r = no-value-tracked w outer l inner f Sort.name r
  body-tracked w outer l inner f Sort.value r = value-tracked w outer l inner f r

  start-tracked : (k : Sort) (r : Rows) → Taken (Follows start k) (start_step k r)
  unfolding start_step tracked pass_sort is_frame
  start-tracked Sort.block r = refl
  start-tracked Sort.global r = refl
  start-tracked Sort.frame r = tt
  start-tracked Sort.frame_end r = tt
  start-tracked Sort.loop r = tt
  start-tracked Sort.stop r = tt
  start-tracked Sort.name r = tt
  start-tracked Sort.value r = tt

  named-tracked : (w : Where) (k : Sort) (r : Rows) → Taken (Follows (named w) k) (named_step w k r)
  unfolding named_step tracked pass_sort pass_value outside
  named-tracked w Sort.block r = tt
  named-tracked w Sort.global r = tt
  named-tracked w Sort.frame r = tt
  named-tracked w Sort.frame_end r = tt
  named-tracked w Sort.loop r = tt
  named-tracked w Sort.stop r = tt
  named-tracked w Sort.name r = tt
  named-tracked w Sort.value r = refl

  pub step-tracked : (st : State) (k : Sort) (r : Rows) → Taken (Follows st k) (step rules st k r)
  unfolding step tracked outside
  step-tracked start k r = start-tracked k r
  step-tracked (within w) k r = between-tracked w _ refl (omega arith) k r
  step-tracked (named w) k r = named-tracked w k r
  step-tracked (header w first before n s) k r = header-tracked w first before n s k r
  step-tracked (body w outer l inner f) k r = body-tracked w outer l inner f k r

-- where the tests of a token of today's layout stand: `save_` is taken where a frame is open and no level inside it; `stop_` is taken elsewhere; `global_` is taken where no frame is open
module _ (rules : Rules) where
  -- a frame is open, between its entries
  abbrev Closing : State → Type 0
  Closing st = ((tracked st).inside ≡ true) × (is_between (tracked st) ≡ true)

  between-end : (w : Where) (st : State) → (tracked st).inside ≡ is_frame w → is_between (tracked st) ≡ true → (r : Rows) → Taken (λ s. Closing st) (between w Sort.frame_end r)
  unfolding between is_frame
  between-end (in_block s) st e b r = tt
  between-end (in_frame c s) st e b r = (e, b)

  pub end-taken : (st : State) (r : Rows) → Taken (λ s. Closing st) (step rules st Sort.frame_end r)
  unfolding step start_step named_step header_step body_step no_value_at no_value tracked is_between outside
  end-taken start r = tt
  end-taken (within w) r = between-end w (within w) refl refl r
  end-taken (named w) r = tt
  end-taken (header w first before n s) r = tt
  end-taken (body w outer l inner (suc f)) r = tt
  end-taken (body w [] l inner zero) r = between-end w (body w [] l inner 0) refl refl r
  end-taken (body w (o ∷ outer) l inner zero) r = tt

  pub stop-taken : (st : State) (r : Rows) → Taken (λ s. is_between (tracked st) ≡ false) (step rules st Sort.stop r)
  unfolding step start_step named_step header_step body_step no_value_at no_value between tracked is_between outside
  stop-taken start r = tt
  stop-taken (within (in_block s)) r = tt
  stop-taken (within (in_frame b s)) r = tt
  stop-taken (named w) r = tt
  stop-taken (header w first before n s) r =
      taken-cond (λ _. false ≡ false) (ltb 0 n && ltb s (length before)) _ _
      (λ e. taken-cond (λ _. false ≡ false) rules.header_stops (go (header w first before n (suc s)) (pass r)) _ (λ d. refl) (λ d. tt)) (λ e. tt)
  stop-taken (body w outer l inner (suc f)) r = tt
  stop-taken (body (in_block s) [] l inner zero) r = tt
  stop-taken (body (in_frame b s) [] l inner zero) r = tt
  stop-taken (body w (o ∷ outer) l inner zero) r = ap (λ b. b && true) (ne_eqb (suc (length outer)) 0 (omega arith))

  pub global-taken : (st : State) (r : Rows) → Taken (λ s. (tracked st).inside ≡ false) (step rules st Sort.global r)
  unfolding step start_step named_step header_step body_step no_value_at no_value between tracked outside is_frame
  global-taken start r = refl
  global-taken (within (in_block s)) r = refl
  global-taken (within (in_frame b s)) r = tt
  global-taken (named w) r = tt
  global-taken (header w first before n s) r = tt
  global-taken (body w outer l inner (suc f)) r = tt
  global-taken (body (in_block s) [] l inner zero) r = refl
  global-taken (body (in_frame b s) [] l inner zero) r = tt
  global-taken (body w (o ∷ outer) l inner zero) r = tt
