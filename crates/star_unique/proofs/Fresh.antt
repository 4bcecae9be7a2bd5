-- A name that is none of those before it, and tokens that are no name or code, repeat nothing: what a set takes are keys of names that
-- came before.
use mathlib.Core.Path.{◌≡◌, refl}
use mathlib.Core.Bool.{Bool, true, false, cond}
use mathlib.Core.List.Memᴰ
use mathlib.Core.List.{List, [], ◌∷◌, ◌++◌, Memᴰ}
use mathlib.Core.Logic.{⊎_elim}
use Prim.Native.Nat.{ℕ}
use native.Mathlib.Omega.{arith}
use borrow.Author.Tests.{ne_eqb}
use lib.Dec.{eqb}
use Rattle.star_text.specs.Names.{key}
use Rattle.star_lex.specs.Tokens.{Token, Each}
use Rattle.star_grammar.specs.Tree.{frame_end, stop}
use Rattle.star_unique.specs.Repeat.{Taken, nothing, takes, take_block, take_global, take_frame, end_frame, take_name}
use Rattle.star_unique.proofs.Seen.{takes_all}
use Rattle.star_unique.proofs.Clean.{Clean, clean-append}
use Rattle.star_unique.proofs.Distinct.{among-absent}
use Rattle.star_unique.proofs.Names.{names_in, opened, name-taken, other-taken}

-- no name and no code
pub record Quiet (t : Token) : Type 0 where
  pub no_block : t.kind ≡ 1 → ⊥
  pub no-frame : t.kind ≡ 2 → ⊥
  pub no_name : t.kind ≡ 6 → ⊥

pub quiet-stop : Quiet stop
unfolding stop
quiet-stop = omega arith

pub quiet-end : Quiet frame_end
unfolding frame_end
quiet-end = omega arith

quiet-clean : (s : Taken) (ts : List Token) → Each Quiet ts → Clean s ts
quiet-clean s [] h = tt
quiet-clean s (t ∷ ts) h = (other-taken s t h.0.no_block h.0.no-frame h.0.no_name, quiet-clean (takes s t) ts h.1)

-- after tokens that repeat nothing, tokens that are no name or code
pub quiet-after : (s : Taken) (p c : List Token) → Clean s p → Each Quiet c → Clean s (p ++ c)
quiet-after s p c h q = (clean-append s p c).1 (h, quiet-clean (takes_all s p) c q)

quiet-names : (ts : List Token) → Each Quiet ts → names_in ts ≡ []
unfolding names_in
quiet-names [] h = refl
quiet-names (t ∷ ts) h = rw (ne_eqb t.kind 6 h.0.no_name) (quiet-names ts h.1)

-- a key that no set has as a name
record Fresh (x : List ℕ) (s : Taken) : Type 0 where
  names : Memᴰ x s.names → ⊥
  inner : Memᴰ x s.inner → ⊥

cond-holds {ℓ κ} : {A : Type ℓ} (P : A → Type κ) (b : Bool) (y z : A) → P y → P z → P (cond b y z)
cond-holds P true y z f g = f
cond-holds P false y z f g = g

module _ (x : List ℕ) where
  opened-fresh : (s : Taken) → Fresh x s → Memᴰ x (opened s) → ⊥
  opened-fresh s h = cond-holds (λ ys. Memᴰ x ys → ⊥) s.in_frame s.inner s.names h.inner h.names

  absent_more : (ys : List (List ℕ)) (y : List ℕ) → (Memᴰ x ys → ⊥) → (x ≡ y → ⊥) → Memᴰ x (ys ++ (y ∷ [])) → ⊥
  absent_more ys y f g m = ⊎_elim f (λ k. g (Memᴰ.eq_of_singleton k)) (Memᴰ.append_cases ys m)

  name-fresh : (s : Taken) (t : Token) → Fresh x s → (x ≡ key t.content → ⊥) → Fresh x (take_name s t)
  unfolding take_name
  name-fresh s t h n =
      cond-holds (Fresh x) s.in_frame _ _
      (record { names = h.names; inner = absent_more s.inner (key t.content) h.inner n })
      (record { names = absent_more s.names (key t.content) h.names n; inner = h.inner })

  -- another token
  takes-fresh : (s : Taken) (t : Token) (ts : List Token) → Fresh x s → (Memᴰ x (names_in (t ∷ ts)) → ⊥) → Fresh x (takes s t)
  unfolding takes names_in take_block take_global take_frame end_frame
  takes-fresh s t ts h n =
      cond-holds (Fresh x) (eqb t.kind 1) _ _ (record { names = Memᴰ.not-nil; inner = Memᴰ.not-nil })
      (cond-holds (Fresh x) (eqb t.kind 12) _ _ (record { names = Memᴰ.not-nil; inner = Memᴰ.not-nil })
      (cond-holds (Fresh x) (eqb t.kind 2) _ _ (record { names = h.names; inner = Memᴰ.not-nil })
      (cond-holds (Fresh x) (eqb t.kind 3) _ _ (record { names = h.names; inner = Memᴰ.not-nil }) (go (eqb t.kind 6) n))))
    where
      go : (b : Bool) → (Memᴰ x (cond b (key t.content ∷ names_in ts) (names_in ts)) → ⊥) → Fresh x (cond b (take_name s t) s)
      go true m = name-fresh s t h (λ e. m (Memᴰ.head e))
      go false m = h

  later-absent : (t : Token) (ts : List Token) → (Memᴰ x (names_in (t ∷ ts)) → ⊥) → Memᴰ x (names_in ts) → ⊥
  unfolding names_in
  later-absent t ts n m = n (cond-holds (λ ys. Memᴰ x ys) (eqb t.kind 6) _ _ (Memᴰ.tail m) m)

  takes-all-fresh : (s : Taken) (ts : List Token) → Fresh x s → (Memᴰ x (names_in ts) → ⊥) → Fresh x (takes_all s ts)
  takes-all-fresh s [] h n = h
  takes-all-fresh s (t ∷ ts) h n = takes-all-fresh (takes s t) ts (takes-fresh s t ts h n) (later-absent t ts n)

nothing-fresh : (x : List ℕ) → Fresh x nothing
unfolding nothing
nothing-fresh x = record { names = Memᴰ.not-nil; inner = Memᴰ.not-nil }

-- after tokens that repeat nothing, a name that is none of theirs, among tokens that are no name or code
pub fresh-after : (p a b : List Token) (x : Token) → Clean nothing p → x.kind ≡ 6 → (Memᴰ (key x.content) (names_in p) → ⊥)
    → Each Quiet a → Each Quiet b → Clean nothing (p ++ (a ++ (x ∷ b)))
fresh-after p a b x h e n f g =
    let s : Taken = takes_all nothing p in
    let k : Fresh (key x.content) (takes_all s a)
    = takes-all-fresh (key x.content) s a (takes-all-fresh (key x.content) nothing p (nothing-fresh (key x.content)) n)
    (rw (quiet-names a f) Memᴰ.not-nil) in
    (clean-append nothing p (a ++ (x ∷ b))).1 (
      h,
      (clean-append s a (x ∷ b)).1 (
        quiet-clean s a f,
        (
          rw (name-taken (takes_all s a) x e) (among-absent (key x.content) (opened (takes_all s a)) (opened-fresh (key x.content) (takes_all s a) k)),
          quiet-clean (takes (takes_all s a) x) b g,
        ),
      ),
    )
