-- Rows of the two layouts: a row that today's machine takes goes into the 1991 layout and back to itself, and so does a row of 1991 whose image it takes. So a tree's yield in the layout of the rules is the
-- row exactly when its yield today is the row's image.
use mathlib.Core.Path.{◌≡◌, refl, sym, ap, ◌∙◌, subst}
use mathlib.Core.Bool.{Bool, true, false, cond, ◌&&◌}
use mathlib.Core.List.{List, [], ◌∷◌}
use Prim.Native.Nat.{ℕ}
use lib.Dec.{eqb}
use borrow.Author.Tests.{eqb-true, eqb-false, eq-eqb, ne_eqb}
use Rattle.star_lex.specs.Rules.{Rules}
use Rattle.star_lex.specs.Tokens.{Token, Each, save_word, stop_word}
use Rattle.star_text.proofs.Cases.{impossible, cond-by}
use Rattle.star_grammar.specs.Tables.{Rows}
use Rattle.star_grammar.specs.Machine.{Sort, sort_of, State, Step, go, refuse, step, step_at, walk}
use Rattle.star_grammar.specs.Layout.{Track, is_between, today_kind, pass_sort, pass_kind, today_token, today_from, old_token, old_row}
use Rattle.star_grammar.specs.Tree.{stop}
use Rattle.star_grammar.proofs.Rest.{Fixed}
use Rattle.star_grammar.proofs.Sane.{Taken, both_left, both_right}
use Rattle.star_grammar.proofs.Alive.{walk_on, walk-on, refuse-go, walk-induction}
use Rattle.star_grammar.proofs.Tracking.{tracked, step-tracked, end-taken, stop-taken, global-taken}

-- a `save_` alone has that word
abbrev pub Ends : Token → Type 0
Ends t = t.kind ≡ 3 → t.content ≡ save_word

-- a step that is taken, and what holds where it is
taken_here : (P : State → Type 0) (x : Step) (s : State) (u : Rows) → Taken P x → x ≡ go s u → P s
taken_here P x s u h e = rw e at h

-- a token by its kind and content
token-is : (x : Token) (kind : ℕ) (content : List ℕ) → x.kind ≡ kind → x.content ≡ content → record { kind = kind; content = content } ≡ x
token-is x kind content e c = λ i. record { kind = sym e i; content = sym c i }

module _ (t : Track) where
  pub kind-stays : (k : ℕ) → (k ≡ 3 → ⊥) → (eqb k 5 && is_between t) ≡ false → today_kind t k ≡ k
  unfolding today_kind
  kind-stays k n e = cond-by (λ kind. kind ≡ k) t.inside _ _ (λ i. rw (ne_eqb k 3 n, e)) (λ i. refl)

  kind-free : (k : ℕ) → t.inside ≡ false → today_kind t k ≡ k
  unfolding today_kind
  kind-free k e = rw e

  -- a `save_` alone in a frame
  kind-lone : (k : ℕ) → t.inside ≡ true → k ≡ 3 → today_kind t k ≡ 12
  unfolding today_kind
  kind-lone k i e = rw (i, e)

  kind-closed : (k : ℕ) → t.inside ≡ true → k ≡ 5 → is_between t ≡ true → today_kind t k ≡ 3
  unfolding today_kind
  kind-closed k i e b = rw (b, i, e)

  pub token-stays : (x : Token) → Ends x → today_kind t x.kind ≡ x.kind → today_token t x ≡ x
  unfolding today_token
  token-stays x h e = token-is x (today_kind t x.kind) _ (sym e) (by (eqb (today_kind t x.kind) 3) refl)
    where
      by : (b : Bool) → eqb (today_kind t x.kind) 3 ≡ b → x.content ≡ cond b save_word x.content
      by true d = h (sym e ∙ eqb-true _ 3 d)
      by false d = refl

  today-kind : (x : Token) → today_kind t x.kind ≡ (today_token t x).kind
  unfolding today_token
  today-kind x = refl

  -- the `stop_` that closes a frame
  end-there : (y : Token) → y.kind ≡ 3 → y.content ≡ save_word → t.inside ≡ true → is_between t ≡ true → today_token t stop ≡ y
  unfolding today_token today_kind stop
  end-there y e c i b = rw (b, i) (token-is y 3 save_word e c)

pub old-end : (y : Token) → y.kind ≡ 3 → old_token y ≡ stop
unfolding old_token
old-end y e = rw (eq-eqb y.kind 3 e)

pub old-stays : (y : Token) → (y.kind ≡ 3 → ⊥) → old_token y ≡ y
unfolding old_token
old-stays y n = rw (ne_eqb y.kind 3 n)

stop_is : (t : Token) → t.kind ≡ 5 → t.content ≡ stop_word → stop ≡ t
unfolding stop
stop_is t e c = token-is t 5 stop_word e c

sort-end : (k : ℕ) → k ≡ 3 → sort_of k ≡ Sort.frame_end
unfolding sort_of
sort-end k e = ap sort_of e

sort-stop : (k : ℕ) → k ≡ 5 → sort_of k ≡ Sort.stop
unfolding sort_of
sort-stop k e = ap sort_of e

sort-global : (k : ℕ) → k ≡ 12 → sort_of k ≡ Sort.global
unfolding sort_of
sort-global k e = ap sort_of e

module _ (rules : Rules) (st s : State) (r u : Rows) where
  sort-taken : (P : Type 0) (kind : ℕ) (k : Sort) → sort_of kind ≡ k → Taken (λ _. P) (step rules st k r) → step_at rules st kind r ≡ go s u → P
  sort-taken P kind k q h e = taken_here (λ _. P) (step_at rules st kind r) s u (rw q h) e

  pub next-tracked : (kind : ℕ) → step_at rules st kind r ≡ go s u → pass_kind rules.levels (tracked st) kind ≡ tracked s
  unfolding pass_kind
  next-tracked kind e = taken_here (λ s. pass_sort rules.levels (tracked st) (sort_of kind) ≡ tracked s) (step_at rules st kind r) s u (step-tracked rules st (sort_of kind) r) e

  -- today's token is the image of what it is in 1991
  token-there : (y : Token) → Ends y → step_at rules st y.kind r ≡ go s u → today_token (tracked st) (old_token y) ≡ y
  token-there y h e = by (eqb y.kind 3) refl (eqb y.kind 5) refl
    where
      by : (b : Bool) → eqb y.kind 3 ≡ b → (c : Bool) → eqb y.kind 5 ≡ c → today_token (tracked st) (old_token y) ≡ y
      by true d c q =
          let k : y.kind ≡ 3 = eqb-true y.kind 3 d in
          let closes : ((tracked st).inside ≡ true) × (is_between (tracked st) ≡ true) = sort-taken _ y.kind Sort.frame_end (sort-end y.kind k) (end-taken rules st r) e in
          ap (today_token (tracked st)) (old-end y k) ∙ end-there (tracked st) y k (h k) closes.0 closes.1
      by false d true q =
          let inner : is_between (tracked st) ≡ false = sort-taken _ y.kind Sort.stop (sort-stop y.kind (eqb-true y.kind 5 q)) (stop-taken rules st r) e in
          ap (today_token (tracked st)) (old-stays y (eqb-false y.kind 3 d))
          ∙ token-stays (tracked st) y h (kind-stays (tracked st) y.kind (eqb-false y.kind 3 d) (rw (q, inner)))
      by false d false q =
          ap (today_token (tracked st)) (old-stays y (eqb-false y.kind 3 d))
          ∙ token-stays (tracked st) y h (kind-stays (tracked st) y.kind (eqb-false y.kind 3 d) (rw q))

  -- and back
  token_back : (t : Token) → Fixed t → step_at rules st (today_kind (tracked st) t.kind) r ≡ go s u → old_token (today_token (tracked st) t) ≡ t
  token_back t h e = by (tracked st).inside refl (eqb t.kind 3) refl (eqb t.kind 5 && is_between (tracked st)) refl
    where
      same : today_kind (tracked st) t.kind ≡ t.kind → (t.kind ≡ 3 → ⊥) → old_token (today_token (tracked st) t) ≡ t
      same k n = ap old_token (token-stays (tracked st) t h.save-is k) ∙ old-stays t n

      by : (i : Bool) → (tracked st).inside ≡ i → (b : Bool) → eqb t.kind 3 ≡ b → (c : Bool) → (eqb t.kind 5 && is_between (tracked st)) ≡ c
          → old_token (today_token (tracked st) t) ≡ t
      by true p true d c q =
          let k : t.kind ≡ 3 = eqb-true t.kind 3 d in
          let free : (tracked st).inside ≡ false = sort-taken _ (today_kind (tracked st) t.kind) Sort.global (sort-global _ (kind-lone (tracked st) t.kind p k)) (global-taken rules st r) e in
          impossible cc
      by false p true d c q =
          let k : t.kind ≡ 3 = eqb-true t.kind 3 d in
          let closes : ((tracked st).inside ≡ true) × (is_between (tracked st) ≡ true) =
          sort-taken _ (today_kind (tracked st) t.kind) Sort.frame_end (sort-end _ (kind-free (tracked st) t.kind p ∙ k)) (end-taken rules st r) e in
          let i : (tracked st).inside ≡ true = closes.0 in
          impossible cc
      by i p false d false q = same (kind-stays (tracked st) t.kind (eqb-false t.kind 3 d) q) (eqb-false t.kind 3 d)
      by true p false d true q =
          let k : t.kind ≡ 5 = eqb-true t.kind 5 (both_left (eqb t.kind 5) (is_between (tracked st)) q) in
          old-end (today_token (tracked st) t) (sym (today-kind (tracked st) t) ∙ kind-closed (tracked st) t.kind p k (both_right (eqb t.kind 5) (is_between (tracked st)) q)) ∙ stop_is t k (h.stop_is k)
      by false p false d true q = same (kind-free (tracked st) t.kind p) (eqb-false t.kind 3 d)

-- rows from a state on
module _ (rules : Rules) where
  pub row-there : (ys : List Token) (st s : State) (r u : Rows) → Each Ends ys → walk rules st ys r ≡ go s u → today_from rules.levels (tracked st) (old_row ys) ≡ ys
  unfolding today_from old_row
  row-there ys st s r u h e =
      walk-induction rules (λ st' q v. Each Ends q → today_from rules.levels (tracked st') (old_row q) ≡ q) s u (λ h. refl)
      (λ st' s' t q v v' g later h.
      let here : today_token (tracked st') (old_token t) ≡ t = token-there rules st' s' v v' t h.0 g in
      let kind : today_kind (tracked st') (old_token t).kind ≡ t.kind = today-kind (tracked st') (old_token t) ∙ ap (λ x. x.kind) here in
      ap (λ x. x ∷ today_from rules.levels (pass_kind rules.levels (tracked st') (today_kind (tracked st') (old_token t).kind)) (old_row q)) here
      ∙ ap (λ k. t ∷ today_from rules.levels k (old_row q)) (ap (pass_kind rules.levels (tracked st')) kind ∙ next-tracked rules st' s' v v' t.kind g)
      ∙ ap (λ xs. t ∷ xs) (later h.1))
      ys st r e h

  pub row_back : (ts : List Token) (st s : State) (r u : Rows) → Each Fixed ts → walk rules st (today_from rules.levels (tracked st) ts) r ≡ go s u
      → old_row (today_from rules.levels (tracked st) ts) ≡ ts
  unfolding today_from today_token old_row
  row_back [] st s r u h e = refl
  row_back (t ∷ ts) st s r u h e = at (row_back ts) (step_at rules st (today_kind (tracked st) t.kind) r) refl
    where
      next : Track
      next = pass_kind rules.levels (tracked st) (today_kind (tracked st) t.kind)

      at : ((st s : State) (r u : Rows) → Each Fixed ts → walk rules st (today_from rules.levels (tracked st) ts) r ≡ go s u → old_row (today_from rules.levels (tracked st) ts) ≡ ts)
          → (x : Step) → step_at rules st (today_kind (tracked st) t.kind) r ≡ x → old_row (today_from rules.levels (tracked st) (t ∷ ts)) ≡ (t ∷ ts)
      at later (go s' u') q =
          let tr : next ≡ tracked s' = next-tracked rules st s' r u' (today_kind (tracked st) t.kind) q in
          let on : walk rules s' (today_from rules.levels next ts) u' ≡ go s u
          = ap (walk_on rules (today_from rules.levels next ts)) (sym q) ∙ sym (walk-on rules st (today_token (tracked st) t) (today_from rules.levels next ts) r) ∙ e in
          ap (λ x. x ∷ old_row (today_from rules.levels next ts)) (token_back rules st s' r u' t h.0 q)
          ∙ ap (λ k. t ∷ old_row (today_from rules.levels k ts)) tr
          ∙ ap (λ xs. t ∷ xs) (later s' s u' u h.1 (subst (λ k. walk rules s' (today_from rules.levels k ts) u' ≡ go s u) tr on))
      at later (refuse n) q =
          absurd (refuse-go n s u (ap (walk_on rules (today_from rules.levels next ts)) (sym q) ∙ sym (walk-on rules st (today_token (tracked st) t) (today_from rules.levels next ts) r) ∙ e))
