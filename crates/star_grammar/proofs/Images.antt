-- A row in the layout of the rules as one of today's, token by token: what each token is there depends on those before it alone. A first part, one token more, more levels.
use mathlib.Core.Path.{◌≡◌, refl, sym, ap, ◌∙◌, subst}
use mathlib.Core.Bool.{Bool, true, false, cond, ◌&&◌}
use mathlib.Core.List.{List, [], ◌∷◌, ◌++◌}
use Prim.Native.Nat.{ℕ, zero, suc, ◌+◌, ◌≤◌, ◌<◌}
use native.Mathlib.Omega.{arith}
use lib.Dec.{eqb}
use lib.ListN.{length, get_or, take}
use lib.Seq.{take-suc}
use borrow.Author.Tests.{eqb-true, ne_eqb}
use Rattle.star_lex.specs.Rules.{Rules, at_levels, at_stops}
use Rattle.star_lex.specs.Tokens.{Token, Each, save_word, loop_word, stop_word}
use Rattle.star_grammar.specs.Tables.{Rows, no_rows}
use Rattle.star_grammar.specs.Machine.{sort_of, State, start, Step, go, refuse, step_at, walk}
use Rattle.star_grammar.specs.Layout.{Track, outside, is_between, today_kind, pass_kind, today_token, today_from, today_row, track_at, today_kind_at}
use Rattle.star_grammar.proofs.Rest.{Fixed}
use Rattle.star_grammar.proofs.Alive.{walk_on, walk-on, refuse-go}
use Rattle.star_grammar.proofs.Walking.{Walks}
use Rattle.star_grammar.proofs.Limits.{step-limit}
use Rattle.star_grammar.proofs.Marks.{mark, marks}
use Rattle.star_grammar.proofs.Tracking.{tracked}
use Rattle.star_grammar.proofs.Layouts.{kind-stays, token-stays, next-tracked}

-- a token of the 1991 layout, or of today's, as one of today's
unfoldable pub image : (old : Bool) → Track → Token → Token
image true t x = today_token t x
image false t x = x

unfoldable pub image_from : (old : Bool) (most : ℕ) → Track → List Token → List Token
image_from old most t [] = []
image_from old most t (x ∷ xs) = image old t x ∷ image_from old most (pass_kind most t (image old t x).kind) xs

-- how far a row has come after tokens
unfoldable pub track_after : (old : Bool) (most : ℕ) → Track → List Token → Track
track_after old most t [] = t
track_after old most t (x ∷ xs) = track_after old most (pass_kind most t (image old t x).kind) xs

from_old : (most : ℕ) (t : Track) (ts : List Token) → today_from most t ts ≡ image_from true most t ts
unfolding today_from image_from image today_token
from_old most t [] = refl
from_old most t (x ∷ xs) = ap (λ ys. today_token t x ∷ ys) (from_old most (pass_kind most t (today_kind t x.kind)) xs)

from-today : (most : ℕ) (t : Track) (ts : List Token) → ts ≡ image_from false most t ts
unfolding image_from image
from-today most t [] = refl
from-today most t (x ∷ xs) = ap (λ ys. x ∷ ys) (from-today most (pass_kind most t x.kind) xs)

-- a token after a row, as one of today's
unfoldable pub row_image : Rules → List Token → Token → Token
row_image rules p t = image rules.stop_closes (track_after rules.stop_closes rules.levels (outside false) p) t

pub row-image : (rules : Rules) (ts : List Token) → today_row rules ts ≡ image_from rules.stop_closes rules.levels (outside false) ts
unfolding today_row
row-image rules ts = by rules.stop_closes
  where
    by : (b : Bool) → cond b (today_from rules.levels (outside false) ts) ts ≡ image_from b rules.levels (outside false) ts
    by true = from_old rules.levels (outside false) ts
    by false = from-today rules.levels (outside false) ts

module _ (old : Bool) (most : ℕ) where
  image-append : (t : Track) (p q : List Token) → image_from old most t (p ++ q) ≡ image_from old most t p ++ image_from old most (track_after old most t p) q
  unfolding image_from track_after
  image-append t [] q = refl
  image-append t (x ∷ p) q = ap (λ ys. image old t x ∷ ys) (image-append (pass_kind most t (image old t x).kind) p q)

  image-length : (t : Track) (p : List Token) → length (image_from old most t p) ≡ length p
  unfolding image_from
  image-length t [] = refl
  image-length t (x ∷ p) = ap suc (image-length (pass_kind most t (image old t x).kind) p)

module _ (rules : Rules) where
  -- what follows a row, as today's
  unfoldable pub row_more : List Token → List Token → List Token
  row_more p q = image_from rules.stop_closes rules.levels (track_after rules.stop_closes rules.levels (outside false) p) q

  pub row-append : (p q : List Token) → today_row rules (p ++ q) ≡ today_row rules p ++ row_more p q
  unfolding row_more
  row-append p q =
      row-image rules (p ++ q) ∙ image-append rules.stop_closes rules.levels (outside false) p q
      ∙ ap (λ ys. ys ++ image_from rules.stop_closes rules.levels (track_after rules.stop_closes rules.levels (outside false) p) q) (sym (row-image rules p))

  pub row_snoc : (p : List Token) (t : Token) → today_row rules (p ++ (t ∷ [])) ≡ today_row rules p ++ (row_image rules p t ∷ [])
  unfolding row_more row_image image_from
  row_snoc p t = row-append p (t ∷ [])

  pub row-length : (p : List Token) → length (today_row rules p) ≡ length p
  row-length p = ap length (row-image rules p) ∙ image-length rules.stop_closes rules.levels (outside false) p

-- header stops have no part in it
pub row-stops : (rules : Rules) (b : Bool) (p : List Token) → today_row (at_stops rules b) p ≡ today_row rules p
unfolding today_row
row-stops rules b p = refl

pub image-stops : (rules : Rules) (b : Bool) (p : List Token) (t : Token) → row_image (at_stops rules b) p t ≡ row_image rules p t
unfolding row_image
image-stops rules b p t = refl

-- tokens that have no other kind today
pub image-same : (old : Bool) (t : Track) (x : Token) → (x.kind ≡ 3 → ⊥) → (x.kind ≡ 5 → ⊥) → image old t x ≡ x
unfolding image
image-same true t x n m = token-stays t x (λ e. absurd (n e)) (kind-stays t x.kind n (rw (ne_eqb x.kind 5 m)))
image-same false t x n m = refl

pub same-image : (rules : Rules) (p : List Token) (x : Token) → (x.kind ≡ 3 → ⊥) → (x.kind ≡ 5 → ⊥) → row_image rules p x ≡ x
unfolding row_image
same-image rules p x n m = image-same rules.stop_closes _ x n m

-- tokens as files have them have images as files have them
fixed-kind : (kind : ℕ) (content : List ℕ) → (1 ≤ kind) × (kind ≤ 12) → (kind ≡ 3 → content ≡ save_word) → (kind ≡ 4 → content ≡ loop_word) → (kind ≡ 5 → content ≡ stop_word)
    → Fixed (record { kind = kind; content = cond (eqb kind 3) save_word content })
fixed-kind kind content h s l p = by (eqb kind 3) refl
  where
    by : (b : Bool) → eqb kind 3 ≡ b → Fixed (record { kind = kind; content = cond b save_word content })
    by true e =
        let k : kind ≡ 3 = eqb-true kind 3 e in
        record { least = h.0; most = h.1; save-is = λ _. refl; loop-is = λ q. absurd (omega arith); stop_is = λ q. absurd (omega arith) }
    by false e = record { least = h.0; most = h.1; save-is = s; loop-is = l; stop_is = p }

token-fixed : (t : Track) (x : Token) → Fixed x → Fixed (today_token t x)
unfolding today_token today_kind
token-fixed t x h = by t.inside (eqb x.kind 3) (eqb x.kind 5 && is_between t)
  where
    stays : Fixed (record { kind = x.kind; content = cond (eqb x.kind 3) save_word x.content })
    stays = fixed-kind x.kind x.content (h.least, h.most) h.save-is h.loop-is h.stop_is

    by : (i a b : Bool)
        → Fixed (record { kind = cond i (cond a 12 (cond b 3 x.kind)) x.kind; content = cond (eqb (cond i (cond a 12 (cond b 3 x.kind)) x.kind) 3) save_word x.content })
    by true true b = fixed-kind 12 x.content (omega arith) (λ e. absurd (omega arith)) (λ e. absurd (omega arith)) (λ e. absurd (omega arith))
    by true false true = record { least = omega arith; most = omega arith; save-is = λ e. refl; loop-is = λ e. absurd (omega arith); stop_is = λ e. absurd (omega arith) }
    by true false false = stays
    by false a b = stays

image-fixed : (old : Bool) (t : Track) (x : Token) → Fixed x → Fixed (image old t x)
unfolding image
image-fixed true t x h = token-fixed t x h
image-fixed false t x h = h

from-fixed : (old : Bool) (most : ℕ) (t : Track) (ts : List Token) → Each Fixed ts → Each Fixed (image_from old most t ts)
unfolding image_from
from-fixed old most t [] h = tt
from-fixed old most t (x ∷ xs) h = (image-fixed old t x h.0, from-fixed old most (pass_kind most t (image old t x).kind) xs h.1)

pub row-fixed : (rules : Rules) (ts : List Token) → Each Fixed ts → Each Fixed (today_row rules ts)
row-fixed rules ts h = rw (row-image rules ts) (from-fixed rules.stop_closes rules.levels (outside false) ts h)

-- an image is no value, name or `loop_` that was none, so it sets and clears the same marks
kind-mark : (t : Track) (k : ℕ) (b : Bool) → mark (sort_of (today_kind t k)) b ≡ mark (sort_of k) b
unfolding today_kind sort_of
kind-mark t k b = by t.inside (eqb k 3) refl (eqb k 5) refl (is_between t)
  where
    by : (i a : Bool) → eqb k 3 ≡ a → (c : Bool) → eqb k 5 ≡ c → (d : Bool) → mark (sort_of (cond i (cond a 12 (cond (c && d) 3 k)) k)) b ≡ mark (sort_of k) b
    by false a e c q d = refl
    by true true e c q d = rw (eqb-true k 3 e)
    by true false e true q true = rw (eqb-true k 5 q)
    by true false e true q false = refl
    by true false e false q d = refl

image-mark : (old : Bool) (t : Track) (x : Token) (b : Bool) → mark (sort_of (image old t x).kind) b ≡ mark (sort_of x.kind) b
unfolding image today_token
image-mark true t x b = kind-mark t x.kind b
image-mark false t x b = refl

from-marks : (old : Bool) (most : ℕ) (t : Track) (b : Bool) (ts : List Token) → marks b (image_from old most t ts) ≡ marks b ts
unfolding image_from
from-marks old most t b [] = refl
from-marks old most t b (x ∷ xs) = from-marks old most (pass_kind most t (image old t x).kind) (mark (sort_of (image old t x).kind) b) xs ∙ ap (λ c. marks c xs) (image-mark old t x b)

pub row-marks : (rules : Rules) (b : Bool) (ts : List Token) → marks b (today_row rules ts) ≡ marks b ts
row-marks rules b ts = ap (marks b) (row-image rules ts) ∙ from-marks rules.stop_closes rules.levels (outside false) b ts

-- more levels than a row needs
module _ (rules : Rules) (more : ℕ) (least : rules.levels ≤ more) (old : Bool) where
  abbrev Alike : Track → List Token → Type 0
  Alike t p = (image_from old more t p ≡ image_from old rules.levels t p) × (track_after old more t p ≡ track_after old rules.levels t p)

  from-levels : (p : List Token) (st s : State) (r u : Rows) → walk rules st (image_from old rules.levels (tracked st) p) r ≡ go s u → Alike (tracked st) p
  unfolding image_from track_after
  from-levels [] st s r u e = (refl, refl)
  from-levels (x ∷ p) st s r u e = at (from-levels p) (step_at rules st (image old (tracked st) x).kind r) refl
    where
      y : Token
      y = image old (tracked st) x

      next : Track
      next = pass_kind rules.levels (tracked st) y.kind

      at : ((st s : State) (r u : Rows) → walk rules st (image_from old rules.levels (tracked st) p) r ≡ go s u → Alike (tracked st) p) → (z : Step) → step_at rules st y.kind r ≡ z
          → Alike (tracked st) (x ∷ p)
      at later (go s' u') q =
          let a : next ≡ tracked s' = next-tracked rules st s' r u' y.kind q in
          let b : pass_kind more (tracked st) y.kind ≡ tracked s' = next-tracked (at_levels rules more) st s' r u' y.kind (step-limit rules more least st s' (sort_of y.kind) r u' q) in
          let on : walk rules s' (image_from old rules.levels next p) u' ≡ go s u
          = ap (walk_on rules (image_from old rules.levels next p)) (sym q) ∙ sym (walk-on rules st y (image_from old rules.levels next p) r) ∙ e in
          let k : Alike (tracked s') p = later s' s u' u (subst (λ t. walk rules s' (image_from old rules.levels t p) u' ≡ go s u) a on) in (
            ap (λ t. y ∷ image_from old more t p) b ∙ ap (λ ys. y ∷ ys) k.0 ∙ ap (λ t. y ∷ image_from old rules.levels t p) (sym a),
            ap (λ t. track_after old more t p) b ∙ k.1 ∙ ap (λ t. track_after old rules.levels t p) (sym a),
          )
      at later (refuse n) q =
          absurd (refuse-go n s u (ap (walk_on rules (image_from old rules.levels next p)) (sym q) ∙ sym (walk-on rules st y (image_from old rules.levels next p) r) ∙ e))

module _ (rules : Rules) (more : ℕ) (least : rules.levels ≤ more) (p : List Token) (w : Walks rules start (today_row rules p) no_rows) where
  alike : Alike rules more least rules.stop_closes (outside false) p
  unfolding tracked
  alike = from-levels rules more least rules.stop_closes p start w.0 no_rows w.1 (ap (λ ts. walk rules start ts no_rows) (sym (row-image rules p)) ∙ w.2)

  pub row-levels : today_row (at_levels rules more) p ≡ today_row rules p
  row-levels = row-image (at_levels rules more) p ∙ alike.0 ∙ sym (row-image rules p)

  pub image-levels : (t : Token) → row_image (at_levels rules more) p t ≡ row_image rules p t
  unfolding row_image
  image-levels t = ap (λ k. image rules.stop_closes k t) alike.1

  -- one token more, with any number of levels that is not smaller
  pub more-row : (t : Token) → today_row (at_levels rules more) (p ++ (t ∷ [])) ≡ today_row rules p ++ (row_image rules p t ∷ [])
  more-row t = row_snoc (at_levels rules more) p t ∙ λ i. row-levels i ++ (image-levels t i ∷ [])

-- and with any that takes it
pub any-row : (rules : Rules) (limit : ℕ) (p : List Token) (t : Token) → Walks rules start (today_row rules p) no_rows
    → Walks (at_levels rules limit) start (today_row (at_levels rules limit) (p ++ (t ∷ []))) no_rows
    → today_row (at_levels rules limit) (p ++ (t ∷ [])) ≡ today_row rules p ++ (row_image rules p t ∷ [])
any-row rules limit p t w v =
    sym (row-levels (at_levels rules limit) (limit + rules.levels) (omega arith) (p ++ (t ∷ [])) v) ∙ more-row rules (limit + rules.levels) (omega arith) p w t

-- the kinds of a row, place by place
module _ (old : Bool) (most : ℕ) where
  after-append : (t : Track) (p q : List Token) → track_after old most t (p ++ q) ≡ track_after old most (track_after old most t p) q
  unfolding track_after
  after-append t [] q = refl
  after-append t (x ∷ p) q = after-append (pass_kind most t (image old t x).kind) p q

  image-at : (t : Track) (ts : List Token) (n : ℕ) (d : Token) → n < length ts → get_or (image_from old most t ts) n d ≡ image old (track_after old most t (take n ts)) (get_or ts n d)
  unfolding image_from track_after
  image-at t [] n d h = absurd (omega arith)
  image-at t (x ∷ xs) zero d h = refl
  image-at t (x ∷ xs) (suc n) d h = image-at (pass_kind most t (image old t x).kind) xs n d (omega arith)

module _ (most : ℕ) (kinds : ℕ → ℕ) (ts : List Token) (d : Token) (same : (m : ℕ) → m < length ts → kinds m ≡ (get_or ts m d).kind) where
  track-after : (n : ℕ) → n ≤ length ts → track_at most kinds n ≡ track_after true most (outside false) (take n ts)
  unfolding track_at track_after image today_token
  track-after zero h = refl
  track-after (suc n) h =
      let here : track_at most kinds n ≡ track_after true most (outside false) (take n ts) = track-after n (omega arith) in
      (λ i. pass_kind most (here i) (today_kind (here i) (same n (omega arith) i)))
      ∙ sym (ap (track_after true most (outside false)) (take-suc ts n d (omega arith)) ∙ after-append true most (outside false) (take n ts) (get_or ts n d ∷ []))

  pub today-at : (n : ℕ) → n < length ts → today_kind_at most kinds n ≡ (get_or (today_from most (outside false) ts) n d).kind
  unfolding today_kind_at image today_token
  today-at n h =
      let here : track_at most kinds n ≡ track_after true most (outside false) (take n ts) = track-after n (omega arith) in
      (λ i. today_kind (here i) (same n h i))
      ∙ sym (ap (λ (x : Token). x.kind) (image-at true most (outside false) ts n d h))
      ∙ ap (λ xs. (get_or xs n d).kind) (sym (from_old most (outside false) ts))
