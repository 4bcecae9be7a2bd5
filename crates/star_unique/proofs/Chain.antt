-- The rows of a bucket, followed from the last, are all that can be equal: equal contents of one sort lie in one bucket.
use mathlib.Core.Path.{◌≡◌, refl, sym, ◌∙◌, ap}
use mathlib.Core.Bool.{Bool, true, false, cond, ◌&&◌, ◌||◌}
use mathlib.Core.List.{List, [], ◌∷◌}
use Prim.Native.Nat.{ℕ, zero, suc, ◌+◌, ◌*◌, ◌%◌, ◌≤◌, ◌<◌}
use native.Mathlib.Nat.{mod-lt}
use native.Mathlib.Omega.{arith}
use lib.Dec.{eqb, leb}
use borrow.Author.Tests.{eqb-true, eqb-false, eq-eqb, ne_eqb, le-leb, lt-leb}
use Rattle.star_lex.specs.Tokens.{Token}
use Rattle.star_text.proofs.Cases.{impossible, both}
use Rattle.star_text.specs.Names.{key, same}
use Rattle.star_unique.specs.Chain.{sort_at, mix, hash_of, bucket_of, sign_of, bucket_at, latest, earlier}
use Rattle.star_text.proofs.Names.{same_true}

module _ (f : ℕ → ℕ) (b : ℕ) where
  pub latest-within : (n : ℕ) → latest f b n ≤ n
  unfolding latest
  latest-within zero = omega arith
  latest-within (suc m) = go (eqb (f m) b) (latest-within m)
    where
      go : (t : Bool) → latest f b m ≤ m → cond t (suc m) (latest f b m) ≤ suc m
      go true h = omega arith
      go false h = omega arith

  pub latest-again : (n : ℕ) → latest f b n ≡ latest f b (latest f b n)
  unfolding latest
  latest-again zero = refl
  latest-again (suc m) = go (eqb (f m) b) refl (latest-again m)
    where
      go : (t : Bool) → eqb (f m) b ≡ t → latest f b m ≡ latest f b (latest f b m)
          → cond t (suc m) (latest f b m) ≡ latest f b (cond t (suc m) (latest f b m))
      go true e h = rw e
      go false e h = h

  -- a row that is its own last lies in the bucket
  pub latest-in : (m : ℕ) → suc m ≡ latest f b (suc m) → f m ≡ b
  unfolding latest
  latest-in m e = go (eqb (f m) b) refl e
    where
      go : (t : Bool) → eqb (f m) b ≡ t → suc m ≡ cond t (suc m) (latest f b m) → f m ≡ b
      go true d h = eqb-true (f m) b d
      go false d h = absurd (omega (arith, latest-within m))

mix-below : (h : ℕ) (x : List ℕ) → h < 1048576 → mix h x < 1048576
unfolding mix
mix-below h [] k = k
mix-below h (c ∷ x) k = mix-below ((h * 2685 + c) % 1048576) x (mod-lt (h * 2685 + c) (omega arith))

hash-below : (sort : ℕ) (x : List ℕ) → hash_of sort x < 1048576
unfolding hash_of
hash-below sort x = mix-below (sort % 1048576) (key x) (mod-lt sort (omega arith))

pub bucket-below : (sort : ℕ) (x : List ℕ) → bucket_of sort x < 4096
unfolding bucket_of
bucket-below sort x = mod-lt (hash_of sort x) (omega arith)

-- a sign has its sort
module _ (sort : ℕ) (x : List ℕ) (small : sort < 16) where
  pub sign_below : sign_of sort x < 4096
  unfolding sign_of
  sign_below = omega (arith, hash-below sort x)

  pub sign-sort : sign_of sort x % 16 ≡ sort
  unfolding sign_of
  sign-sort = omega arith

sign_same : (sort : ℕ) (x y : List ℕ) → key x ≡ key y → sign_of sort y ≡ sign_of sort x
unfolding sign_of hash_of
sign_same sort x y e = rw e

-- of equal names or codes the signs tell what the sorts tell
pub sign-tells : (s t : ℕ) (x y : List ℕ) → s < 16 → t < 16 → (eqb (sign_of s y) (sign_of t x) && same x y) ≡ (eqb s t && same x y)
sign-tells s t x y h k = go (same x y) refl (eqb s t) refl
  where
    none : (b : Bool) → (b && false) ≡ false
    none true = refl
    none false = refl

    go : (e : Bool) → same x y ≡ e → (d : Bool) → eqb s t ≡ d → (eqb (sign_of s y) (sign_of t x) && e) ≡ (d && e)
    go false e d q = none (eqb (sign_of s y) (sign_of t x)) ∙ sym (none d)
    go true e true q = rw (eq-eqb _ _ (sign_same s x y (same_true x y e) ∙ ap (λ i. sign_of i x) (eqb-true s t q)))
    go true e false q =
        rw (ne_eqb (sign_of s y) (sign_of t x) (λ g. eqb-false s t q (sym (sign-sort s y h) ∙ ap (λ i. i % 16) g ∙ sign-sort t x k)))

module _ (at : ℕ → Token) (n : ℕ) where
  pub bucket-named : (sort_at at n ≡ 0 → ⊥) → bucket_at at n ≡ bucket_of (sort_at at n) (at n).content
  unfolding bucket_at
  bucket-named h = rw (ne_eqb (sort_at at n) 0 h)

  pub bucket-none : sort_at at n ≡ 0 → bucket_at at n ≡ 4096
  unfolding bucket_at
  bucket-none e = rw (eq-eqb (sort_at at n) 0 e)

  -- a row in a bucket is a name or code
  pub bucket-sort : bucket_at at n < 4096 → sort_at at n ≡ 0 → ⊥
  bucket-sort h e = absurd (omega (arith, bucket-none e))

module _ (at : ℕ → Token) (sort : ℕ) (x : List ℕ) (floor : ℕ) where
  pub earlier-floor : (n : ℕ) → n ≤ floor → earlier at sort x floor n ≡ false
  unfolding earlier
  earlier-floor zero h = refl
  earlier-floor (suc m) h = rw (earlier-floor m (omega arith), lt-leb floor m (omega arith))

  -- a token that is not equal adds nothing
  pub earlier-other : (m : ℕ) → (eqb (sort_at at m) sort && same x (at m).content) ≡ false → earlier at sort x floor (suc m) ≡ earlier at sort x floor m
  unfolding earlier
  earlier-other m e = go (earlier at sort x floor m) (leb floor m) (eqb (sort_at at m) sort && same x (at m).content) e
    where
      go : (s l t : Bool) → t ≡ false → (s || (l && t)) ≡ s
      go true l t e = refl
      go false true t e = e
      go false false t e = refl

  pub earlier-here : (m : ℕ) → floor ≤ m → (eqb (sort_at at m) sort && same x (at m).content) ≡ true → earlier at sort x floor (suc m) ≡ true
  unfolding earlier
  earlier-here m h e = rw (e, le-leb floor m h) (go (earlier at sort x floor m))
    where
      go : (s : Bool) → (s || true) ≡ true
      go true = refl
      go false = refl

  -- what is not in the bucket is not equal
  pub earlier-last : (sort ≡ 0 → ⊥) → (n : ℕ) → earlier at sort x floor (latest (bucket_at at) (bucket_of sort x) n) ≡ earlier at sort x floor n
  unfolding latest bucket_of hash_of
  earlier-last some zero = refl
  earlier-last some (suc m) = go (eqb (bucket_at at m) (bucket_of sort x)) refl (earlier-last some m)
    where
      differs : (t : Bool) → (eqb (sort_at at m) sort && same x (at m).content) ≡ t → (bucket_at at m ≡ bucket_of sort x → ⊥) → t ≡ false
      differs false e d = refl
      differs true e d =
          let q : (eqb (sort_at at m) sort ≡ true) × (same x (at m).content ≡ true) = both _ _ e in
          let s : sort_at at m ≡ sort = eqb-true _ _ q.0 in
          let c : key x ≡ key (at m).content = same_true _ _ q.1 in
          absurd (d (bucket-named at m (λ z. some (sym s ∙ z)) ∙ rw (s, ← c)))

      go : (t : Bool) → eqb (bucket_at at m) (bucket_of sort x) ≡ t
          → earlier at sort x floor (latest (bucket_at at) (bucket_of sort x) m) ≡ earlier at sort x floor m
          → earlier at sort x floor (cond t (suc m) (latest (bucket_at at) (bucket_of sort x) m)) ≡ earlier at sort x floor (suc m)
      go true e h = refl
      go false e h =
          h ∙ sym (earlier-other m (differs (eqb (sort_at at m) sort && same x (at m).content) refl (λ b. impossible (let z : eqb (bucket_at at m) (bucket_of sort x) ≡ true = eq-eqb _ _ b in cc))))
