-- Whatever a walk has read can be ended as a file: the completion of the state that it came to may still come there, and the walk's tokens stand before it.
use mathlib.Core.Path.{◌≡◌, refl, sym, ap, ◌∙◌, subst₂}
use mathlib.Core.List.{List, [], ◌∷◌, ◌++◌, flat_map, reverse_aux, append_assoc}
use Prim.Native.Nat.{ℕ, zero, suc, ◌+◌, ◌-◌, ◌≤◌}
use native.Mathlib.Omega.{arith}
use lib.ListN.{length, replicate, length-replicate, length-reverse_aux}
use Rattle.star_lex.specs.Rules.{Rules}
use Rattle.star_lex.specs.Tokens.{Token, Each}
use Rattle.star_grammar.specs.Tree.{IsValue, IsName, inner_yield, InnerWhole, File, file_yield, FileBy, frame_end, stop}
use Rattle.star_grammar.specs.Tables.{Rows, no_rows, rows_of}
use Rattle.star_grammar.specs.Machine.{Where, in_block, in_frame, Level, State, start, within, named, header, body, Step, go, refuse, step_at, run, walk}
use Rattle.star_grammar.proofs.Rest.{Fixed, InSet, Stopped, Filling, Levels, Heading, Blocks, Rest, SaneHeader, Sane, zero_word, set_ending, packet_ending, one_packet, counts_of, ending, completion}
use Rattle.star_grammar.proofs.Sorts.{onward, run-onward}
use Rattle.star_grammar.proofs.Sane.{sane-kept}
use Rattle.star_grammar.proofs.Complete.{complete}
use Rattle.star_grammar.proofs.Sound.{no-packet, set-blocks, set-end, heading-name, heading-value, step_back, bad-good}

-- what a step leads to, in a walk
abbrev pub walk_on : (rules : Rules) → List Token → Step → Step
walk_on rules ts (go s r) = walk rules s ts r
walk_on rules ts (refuse n) = refuse n

pub walk-on : (rules : Rules) (st : State) (t : Token) (ts : List Token) (r : Rows)
    → walk rules st (t ∷ ts) r ≡ walk_on rules ts (step_at rules st t.kind r)
unfolding walk
walk-on rules st t ts r = at (step_at rules st t.kind r) refl
  where
    at : (x : Step) → step_at rules st t.kind r ≡ x → walk rules st (t ∷ ts) r ≡ walk_on rules ts x
    at (go s r') e = rw (e, walk)
    at (refuse n) e = rw (e, walk)

pub refuse-go : (n : ℕ) (s : State) (r : Rows) → refuse n ≡ go s r → ⊥
refuse-go n s r e = let z : ◌≡◌ {A = ℕ} 0 1 = cc in omega arith

-- a property of states that goes back over each step of a walk
pub walk-induction : (rules : Rules) (P : State → List Token → Rows → Type 0) (st' : State) (r' : Rows)
    → P st' [] r'
    → ((st s : State) (t : Token) (p : List Token) (r r'' : Rows) → step_at rules st t.kind r ≡ go s r'' → P s p r'' → P st (t ∷ p) r)
    → (p : List Token) (st : State) (r : Rows) → walk rules st p r ≡ go st' r' → P st p r
unfolding walk
walk-induction rules P st' r' base back [] st r e =
    subst₂ (λ (s : State) (u : Rows). P s [] u) (let q : st' ≡ st = cc in q) (let q : r' ≡ r = cc in q) base
walk-induction rules P st' r' base back (t ∷ p) st r e =
    at (walk-induction rules P st' r' base back p) (step_at rules st t.kind r) refl
  where
    at : ((s : State) (u : Rows) → walk rules s p u ≡ go st' r' → P s p u) → (x : Step) → step_at rules st t.kind r ≡ x → P st (t ∷ p) r
    at later (go s u) q = back st s t p r u q (later s u (ap (walk_on rules p) (sym q) ∙ sym (walk-on rules st t p r) ∙ e))
    at later (refuse n) q = absurd (refuse-go n st' r' (ap (walk_on rules p) (sym q) ∙ sym (walk-on rules st t p r) ∙ e))

-- a run goes on from where a walk came to
pub walk-run : (rules : Rules) (st st' : State) (p ts : List Token) (r r' : Rows) → walk rules st p r ≡ go st' r'
    → run rules st (p ++ ts) r ≡ run rules st' ts r'
walk-run rules st st' p ts r r' e =
    walk-induction rules (λ s q u. run rules s (q ++ ts) u ≡ run rules st' ts r') st' r' refl
    (λ s s' t q u u' h later. run-onward rules s t (q ++ ts) u ∙ ap (onward rules (q ++ ts) u) h ∙ later) p st r e

-- so does a walk
pub walk-append : (rules : Rules) (st st' : State) (p ts : List Token) (r r' : Rows) → walk rules st p r ≡ go st' r'
    → walk rules st (p ++ ts) r ≡ walk rules st' ts r'
walk-append rules st st' p ts r r' e =
    walk-induction rules (λ s q u. walk rules s (q ++ ts) u ≡ walk rules st' ts r') st' r' refl
    (λ s s' t q u u' h later. walk-on rules s t (q ++ ts) u ∙ ap (walk_on rules (q ++ ts)) h ∙ later) p st r e

-- a walk leads to sane states
pub walk-sane : (rules : Rules) → 1 ≤ rules.levels → (st st' : State) (p : List Token) (r r' : Rows) → Sane rules st → walk rules st p r ≡ go st' r'
    → Sane rules st'
walk-sane rules least st st' p r r' h e =
    walk-induction rules (λ s q u. Sane rules s → Sane rules st') st' r' (λ h'. h')
    (λ s s' t q u u' g later h'. later (sane-kept rules least s s' t.kind u u' h' g)) p st r e h

-- what may still come after a walk may come, with its tokens, before it
pub walk-back : (rules : Rules) → 1 ≤ rules.levels → (st st' : State) (p ts : List Token) (r r' : Rows) → Each Fixed p → Sane rules st
    → walk rules st p r ≡ go st' r' → Rest rules st' ts → Rest rules st (p ++ ts)
walk-back rules least st st' p ts r r' f h e c =
    walk-induction rules (λ s q u. Each Fixed q → Sane rules s → Rest rules s (q ++ ts)) st' r' (λ f' h'. c)
    (λ s s' t q u u' g later f' h'. step_back rules t (q ++ ts) f'.0 s s' u u' h' g
    (later f'.1 (sane-kept rules least s s' t.kind u u' h' g))) p st r e f h

-- the tokens that end a file are the word 0, `stop_` and `save_`
module _ (P : Token → Type 0) (pz : P zero_word) (ps : P stop) (pe : P frame_end) where
  each-replicate : (n : ℕ) (t : Token) → P t → Each P (replicate n t)
  each-replicate zero t h = tt
  each-replicate (suc n) t h = (h, each-replicate n t h)

  each_append : (xs ys : List Token) → Each P xs → Each P ys → Each P (xs ++ ys)
  each_append [] ys a b = b
  each_append (x ∷ xs) ys a b = (a.0, each_append xs ys a.1 b)

  each_set : (w : Where) → Each P (set_ending w)
  each_set (in_block s) = tt
  each_set (in_frame b s) = (pe, tt)

  each-packet : (inner : List ℕ) → Each P (packet_ending inner)
  each-packet [] = tt
  each-packet (m ∷ inner) = (ps, tt)

  each-one : (ls : List ℕ) → Each P (one_packet ls)
  each-one [] = tt
  each-one (m ∷ inner) = each_append (replicate m zero_word) (packet_ending inner) (each-replicate m zero_word pz) (each-packet inner)

  pub each-ending : (st : State) → Each P (ending st)
  each-ending start = tt
  each-ending (within w) = each_set w
  each-ending (named w) = (pz, each_set w)
  each-ending (header w first before n s) = each_append (one_packet (counts_of before n)) (set_ending w) (each-one (counts_of before n)) (each_set w)
  each-ending (body w outer l inner zero) =
      each_append (replicate (length outer) stop) (set_ending w) (each-replicate (length outer) stop ps) (each_set w)
  each-ending (body w outer l inner (suc f)) =
      each_append (replicate (l.names - suc f) zero_word) (packet_ending inner ++ (replicate (length outer) stop ++ set_ending w))
      (each-replicate (l.names - suc f) zero_word pz)
      (each_append (packet_ending inner) (replicate (length outer) stop ++ set_ending w) (each-packet inner)
      (each_append (replicate (length outer) stop) (set_ending w) (each-replicate (length outer) stop ps) (each_set w)))

zero-is-value : IsValue zero_word
unfolding zero_word
zero-is-value = record { low = omega arith; high = omega arith }

zero-values : (n : ℕ) → Each IsValue (replicate n zero_word)
zero-values zero = tt
zero-values (suc n) = (zero-is-value, zero-values n)

module _ (rules : Rules) where
  set_rest : (w : Where) → InSet rules w (set_ending w)
  unfolding flat_map
  set_rest (in_block s) = set-blocks rules [] (record { blocks = []; yield = refl; whole = tt })
  set_rest (in_frame b s) = set-end rules [] (set-blocks rules [] (record { blocks = []; yield = refl; whole = tt }))

  levels-rest : (w : Where) (outer : List Level) (n : ℕ) (inner : List ℕ)
      → Levels rules w outer n inner (replicate (length outer) stop ++ set_ending w)
  levels-rest w [] n inner = no-packet n inner (InSet rules w) (set_ending w) (set_rest w)
  levels-rest w (o ∷ outer) n inner =
      no-packet n inner (Stopped (Levels rules w outer o.names (n ∷ inner))) (stop ∷ (replicate (length outer) stop ++ set_ending w))
      (record { after = replicate (length outer) stop ++ set_ending w; yield = refl; rest = levels-rest w outer o.names (n ∷ inner) })

  -- the values that a packet lacks, and nothing below it
  filling-rest : (n f k : ℕ) (inner : List ℕ) (After : List Token → Type 0) (ts : List Token) → f + k ≡ n → After ts
      → Filling n f inner After (replicate k zero_word ++ (packet_ending inner ++ ts))
  unfolding inner_yield InnerWhole flat_map
  filling-rest n f k [] After ts e a = record {
    values = replicate k zero_word;
    below = tt;
    after = ts;
    yield = refl;
    count = rw length-replicate e;
    are-values = zero-values k;
    whole = tt;
    rest = a;
  }
  filling-rest n f k (m ∷ inner) After ts e a = record {
    values = replicate k zero_word;
    below = [];
    after = ts;
    yield = refl;
    count = rw length-replicate e;
    are-values = zero-values k;
    whole = tt;
    rest = a;
  }

  heading-rest : (w : Where) (before : List ℕ) (n s : ℕ) → 1 ≤ n → SaneHeader rules before n s
      → Heading rules w before n s (one_packet (reverse_aux before (n ∷ [])) ++ set_ending w)
  heading-rest w before n s some h = at (reverse_aux before (n ∷ [])) refl
    where
      at : (ls : List ℕ) → reverse_aux before (n ∷ []) ≡ ls → Heading rules w before n s (one_packet ls ++ set_ending w)
      at [] e = absurd (omega (arith, rw length-reverse_aux at (ap length e)))
      at (m ∷ ls) e =
          rw (append_assoc (replicate m zero_word) (packet_ending ls) (set_ending w))
          (heading-value rules w before n s m ls (replicate m zero_word ++ (packet_ending ls ++ set_ending w)) some h e
          (filling-rest m 0 m ls (Levels rules w [] m ls) (set_ending w) (omega arith) (levels-rest w [] m ls)))

  -- the completion of a sane state may come there
  pub completion-rest : (st : State) (x : Token) → Sane rules st → IsName x → Rest rules st (completion st x)
  unfolding flat_map
  completion-rest start x h n = record { blocks = []; yield = refl; whole = tt }
  completion-rest (within w) x h n = set_rest w
  completion-rest (named w) x h n =
      record { value = zero_word; after = set_ending w; yield = refl; is_value = zero-is-value; rest = set_rest w }
  completion-rest (header w first before zero zero) x h n =
      heading-name rules w before 0 x (one_packet (reverse_aux before (1 ∷ [])) ++ set_ending w) n.kind6
      (heading-rest w before 1 0 (omega arith)
      (record { some_names = h.some_names; levels = h.levels; stops_fit = h.stops_fit; stops_allowed = h.stops_allowed; stopped = omega arith }))
  completion-rest (header w first before zero (suc s)) x h n = absurd (omega (arith, h.stopped (omega arith)))
  completion-rest (header w first before (suc m) s) x h n = heading-rest w before (suc m) s (omega arith) h
  completion-rest (body w outer l inner zero) x h n = levels-rest w outer l.names inner
  completion-rest (body w outer l inner (suc f)) x h n =
      filling-rest l.names (suc f) (l.names - suc f) inner (Levels rules w outer l.names inner) (replicate (length outer) stop ++ set_ending w)
      (omega (arith, h.room)) (levels-rest w outer l.names inner)

-- what a walk from the start has read begins a whole file
pub rest-alive : (rules : Rules) → 1 ≤ rules.levels → (p : List Token) → Each Fixed p → (st : State) (r : Rows) → walk rules start p no_rows ≡ go st r
    → (x : Token) → IsName x → (f : File) × (file_yield frame_end f ≡ p ++ completion st x) × FileBy rules f
rest-alive rules least p f st r e x n =
    let b : Blocks rules (p ++ completion st x) =
    walk-back rules least start st p (completion st x) no_rows r f tt e
    (completion-rest rules st x (walk-sane rules least start st p no_rows r tt e) n) in
    (b.blocks, sym b.yield, b.whole)

-- a token that a step refuses after a walk from the start continues no whole file
pub dead : (rules : Rules) (p : List Token) (st : State) (r : Rows) → walk rules start p no_rows ≡ go st r → (t : Token) (n : ℕ)
    → step_at rules st t.kind r ≡ refuse n → (f : File) → FileBy rules f → (ts : List Token) → file_yield frame_end f ≡ p ++ (t ∷ ts) → ⊥
dead rules p st r e t n q f w ts y =
    bad-good n r.tokens (rows_of f)
    (ap (onward rules ts r) (sym q) ∙ sym (run-onward rules st t ts r) ∙ sym (walk-run rules start st p (t ∷ ts) no_rows r e)
    ∙ ap (λ (u : List Token). run rules start u no_rows) (sym y) ∙ complete rules f w)
