-- A name or code is taken exactly when an equal one of its sort stands in its scope.
use mathlib.Core.Path.{◌≡◌, refl, sym, ◌∙◌}
use mathlib.Core.Bool.{Bool, true, false, cond, ◌||◌, or-false, or_assoc}
use mathlib.Core.List.{List, [], ◌∷◌, ◌++◌}
use Prim.Native.Nat.{ℕ, suc, ◌≤◌}
use native.Mathlib.Omega.{arith}
use lib.Dec.{eqb}
use borrow.Author.Tests.{eqb-true, eqb-false, eq-eqb, ne_eqb, le-leb}
use Rattle.star_text.specs.Names.{key, equal, same}
use Rattle.star_lex.specs.Tokens.{Token}
use Rattle.star_lex.proofs.Cases.{impossible}
use Rattle.star_unique.specs.Repeat.{Taken, nothing, among, is_taken, takes, take_block, take_global, take_frame, end_frame, take_name}
use Rattle.star_unique.specs.Chain.{name_sort, floor_of, opens_block, passed, scope_at, sort_at, earlier, taken_at}
use Rattle.star_unique.specs.declared.Scope.{Scope}
use Rattle.star_unique.proofs.Chain.{earlier-floor, earlier-other}

among-more : (x : List ℕ) (ys : List (List ℕ)) (y : List ℕ) → among x (ys ++ (y ∷ [])) ≡ (among x ys || equal x y)
unfolding among
among-more x [] y = or-false (equal x y)
among-more x (z ∷ ys) y = rw (among-more x ys y) (sym (or_assoc (equal x z) (among x ys) (equal x y)))

-- what is taken and the scopes agree on where a content stands
pub record Agrees (at : ℕ → Token) (x : List ℕ) (s : Taken) (c : Scope) (n : ℕ) : Type 0 where
  pub blocks : among (key x) s.blocks ≡ earlier at 1 x 0 n
  pub frames : among (key x) s.frames ≡ earlier at 2 x c.block n
  pub names : among (key x) s.names ≡ earlier at 6 x c.block n
  pub inside : s.in_frame ≡ c.inside
  pub inner : c.inside ≡ true → among (key x) s.inner ≡ earlier at 13 x c.frame n
  pub block_within : c.block ≤ n
  pub frame-within : c.frame ≤ n

pub agrees-nothing : (at : ℕ → Token) (x : List ℕ) → Agrees at x nothing (scope_at at 0) 0
unfolding scope_at nothing earlier among
agrees-nothing at x = record {
  blocks = refl;
  frames = refl;
  names = refl;
  inside = refl;
  inner = λ e. refl;
  block_within = omega arith;
  frame-within = omega arith;
}

module _ (at : ℕ → Token) (x : List ℕ) (s : Taken) (c : Scope) (n : ℕ) (a : Agrees at x s c n) where
  earlier-unsorted : (sort floor : ℕ) → (sort_at at n ≡ sort → ⊥) → earlier at sort x floor n ≡ earlier at sort x floor (suc n)
  earlier-unsorted sort floor h = sym (earlier-other at sort x floor n (rw (ne_eqb (sort_at at n) sort h)))

  earlier-taken : (sort floor : ℕ) → sort_at at n ≡ sort → floor ≤ n → (ys : List (List ℕ)) → among (key x) ys ≡ earlier at sort x floor n
      → among (key x) (ys ++ (key (at n).content ∷ [])) ≡ earlier at sort x floor (suc n)
  unfolding earlier same
  earlier-taken sort floor e h ys q = among-more (key x) ys (key (at n).content) ∙ rw (q, eq-eqb (sort_at at n) sort e, le-leb floor n h)

  earlier-fresh : (sort : ℕ) → among (key x) [] ≡ earlier at sort x (suc n) (suc n)
  unfolding among
  earlier-fresh sort = sym (earlier-floor at sort x (suc n) (suc n) (omega arith))

  after_block : sort_at at n ≡ 1 → Agrees at x (take_block s (at n)) (record { block = suc n; frame = suc n; inside = false }) (suc n)
  unfolding take_block
  after_block e = record {
    blocks = earlier-taken 1 0 e (omega arith) s.blocks a.blocks;
    frames = earlier-fresh 2;
    names = earlier-fresh 6;
    inside = refl;
    inner = λ f. impossible cc;
    block_within = omega arith;
    frame-within = omega arith;
  }

  after-global : sort_at at n ≡ 0 → Agrees at x (take_global s) (record { block = suc n; frame = suc n; inside = false }) (suc n)
  unfolding take_global
  after-global e = record {
    blocks = a.blocks ∙ earlier-unsorted 1 0 (λ q. absurd (omega arith));
    frames = earlier-fresh 2;
    names = earlier-fresh 6;
    inside = refl;
    inner = λ f. impossible cc;
    block_within = omega arith;
    frame-within = omega arith;
  }

  after_frame : sort_at at n ≡ 2 → Agrees at x (take_frame s (at n)) (record { block = c.block; frame = suc n; inside = true }) (suc n)
  unfolding take_frame
  after_frame e = record {
    blocks = a.blocks ∙ earlier-unsorted 1 0 (λ q. absurd (omega arith));
    frames = earlier-taken 2 c.block e a.block_within s.frames a.frames;
    names = a.names ∙ earlier-unsorted 6 c.block (λ q. absurd (omega arith));
    inside = refl;
    inner = λ f. earlier-fresh 13;
    block_within = omega (arith, a.block_within);
    frame-within = omega arith;
  }

  after-end : sort_at at n ≡ 0 → Agrees at x (end_frame s) (record { block = c.block; frame = c.frame; inside = false }) (suc n)
  unfolding end_frame
  after-end e = record {
    blocks = a.blocks ∙ earlier-unsorted 1 0 (λ q. absurd (omega arith));
    frames = a.frames ∙ earlier-unsorted 2 c.block (λ q. absurd (omega arith));
    names = a.names ∙ earlier-unsorted 6 c.block (λ q. absurd (omega arith));
    inside = refl;
    inner = λ f. impossible cc;
    block_within = omega (arith, a.block_within);
    frame-within = omega (arith, a.frame-within);
  }

  after-other : sort_at at n ≡ 0 → Agrees at x s c (suc n)
  after-other e = record {
    blocks = a.blocks ∙ earlier-unsorted 1 0 (λ q. absurd (omega arith));
    frames = a.frames ∙ earlier-unsorted 2 c.block (λ q. absurd (omega arith));
    names = a.names ∙ earlier-unsorted 6 c.block (λ q. absurd (omega arith));
    inside = a.inside;
    inner = λ f. a.inner f ∙ earlier-unsorted 13 c.frame (λ q. absurd (omega arith));
    block_within = omega (arith, a.block_within);
    frame-within = omega (arith, a.frame-within);
  }

  after-inner : c.inside ≡ true → sort_at at n ≡ 13 → Agrees at x (take_name s (at n)) c (suc n)
  unfolding take_name
  after-inner f e = rw (a.inside ∙ f) (record {
    blocks = a.blocks ∙ earlier-unsorted 1 0 (λ q. absurd (omega arith));
    frames = a.frames ∙ earlier-unsorted 2 c.block (λ q. absurd (omega arith));
    names = a.names ∙ earlier-unsorted 6 c.block (λ q. absurd (omega arith));
    inside = sym f;
    inner = λ g. earlier-taken 13 c.frame e a.frame-within s.inner (a.inner f);
    block_within = omega (arith, a.block_within);
    frame-within = omega (arith, a.frame-within);
  })

  after-name : c.inside ≡ false → sort_at at n ≡ 6 → Agrees at x (take_name s (at n)) c (suc n)
  unfolding take_name
  after-name f e = rw (a.inside ∙ f) (record {
    blocks = a.blocks ∙ earlier-unsorted 1 0 (λ q. absurd (omega arith));
    frames = a.frames ∙ earlier-unsorted 2 c.block (λ q. absurd (omega arith));
    names = earlier-taken 6 c.block e a.block_within s.names a.names;
    inside = sym f;
    inner = λ g. impossible cc;
    block_within = omega (arith, a.block_within);
    frame-within = omega (arith, a.frame-within);
  })

  -- one token more
  pub agrees-next : c ≡ scope_at at n → Agrees at x (takes s (at n)) (passed c (at n).kind (suc n)) (suc n)
  unfolding takes take_block take_frame take_name passed opens_block sort_at name_sort
  agrees-next e = go (eqb (at n).kind 1) refl (eqb (at n).kind 12) refl (eqb (at n).kind 2) refl (eqb (at n).kind 3) refl (eqb (at n).kind 6) refl
    where
      sort-is : (k : ℕ) → (at n).kind ≡ k → sort_at at n ≡ name_sort c.inside k
      sort-is k d = rw (e, d)

      sort-other : ((at n).kind ≡ 1 → ⊥) → ((at n).kind ≡ 2 → ⊥) → ((at n).kind ≡ 6 → ⊥) → sort_at at n ≡ 0
      sort-other f g h = rw (ne_eqb (at n).kind 6 h, ne_eqb (at n).kind 1 f, ne_eqb (at n).kind 2 g)

      named : (b : Bool) → c.inside ≡ b → (at n).kind ≡ 6 → Agrees at x (take_name s (at n)) c (suc n)
      named true f d = after-inner f (sort-is 6 d ∙ rw f)
      named false f d = after-name f (sort-is 6 d ∙ rw f)

      -- by the kind
      known : (k : ℕ) → eqb (at n).kind k ≡ true → (at n).kind ≡ k
      known k d = eqb-true (at n).kind k d

      go : (p : Bool) → eqb (at n).kind 1 ≡ p → (o : Bool) → eqb (at n).kind 12 ≡ o → (q : Bool) → eqb (at n).kind 2 ≡ q → (r : Bool)
          → eqb (at n).kind 3 ≡ r → (t : Bool) → eqb (at n).kind 6 ≡ t → Agrees at x (takes s (at n)) (passed c (at n).kind (suc n)) (suc n)
      go true d o l q f r g t h = rw (known 1 d) (after_block (sort-is 1 (known 1 d)))
      go false d true l q f r g t h = rw (known 12 l) (after-global (sort-is 12 (known 12 l)))
      go false d false l true f r g t h = rw (known 2 f) (after_frame (sort-is 2 (known 2 f)))
      go false d false l false f true g t h = rw (known 3 g) (after-end (sort-is 3 (known 3 g)))
      go false d false l false f false g true h = rw (known 6 h) (named c.inside refl (known 6 h))
      go false d false l false f false g false h = rw (d, l, f, g, h) (after-other (sort-other (eqb-false _ _ d) (eqb-false _ _ f) (eqb-false _ _ h)))

-- a token is taken as its sort and scope say
pub taken_is : (at : ℕ → Token) (s : Taken) (n : ℕ) → Agrees at (at n).content s (scope_at at n) n → taken_at at n ≡ is_taken s (at n)
unfolding taken_at is_taken sort_at name_sort floor_of
taken_is at s n a = go (scope_at at n).inside refl (eqb (at n).kind 6) refl (eqb (at n).kind 1) refl (eqb (at n).kind 2) refl
  where
    go : (i : Bool) → (scope_at at n).inside ≡ i → (p : Bool) → eqb (at n).kind 6 ≡ p → (q : Bool) → eqb (at n).kind 1 ≡ q → (r : Bool)
        → eqb (at n).kind 2 ≡ r
        → cond (eqb (cond p (cond i 13 6) (cond q 1 (cond r 2 0))) 0) false
        (earlier at (cond p (cond i 13 6) (cond q 1 (cond r 2 0))) (at n).content (floor_of (scope_at at n) (cond p (cond i 13 6) (cond q 1 (cond r 2 0)))) n)
        ≡ cond q (among (key (at n).content) s.blocks) (cond r (among (key (at n).content) s.frames) (cond p (among (key (at n).content) (cond s.in_frame s.inner s.names)) false))
    go i e true d true f r g = absurd (omega (arith, eqb-true (at n).kind 6 d, eqb-true (at n).kind 1 f))
    go i e true d false f true g = absurd (omega (arith, eqb-true (at n).kind 6 d, eqb-true (at n).kind 2 g))
    go true e true d false f false g = rw (a.inside, e) (sym (a.inner e))
    go false e true d false f false g = rw (a.inside, e) (sym a.names)
    go i e false d true f r g = sym a.blocks
    go i e false d false f true g = sym a.frames
    go i e false d false f false g = refl
