-- Laws of `leading`: how far it goes, seen from a place of the list.
use Rattle.std.proofs.Common.{◌≡◌, ℕ, zero, suc, ◌+◌, ◌<◌, ◌≤◌, Bool, true, false, cond, not, ltb, List, [], ◌∷◌, length, get_or, take, drop, sym, refl, ap, ◌∙◌, suc-le-suc, zero-le, add-zero, add-suc, suc-add, add-one, arith, drop_of_length-le, drop-cons, ltb-false, ltb-true}
use Rattle.std.specs.Prelude.{Some, None, position}
use Rattle.std.specs.List.{position_or_len}
use Rattle.std.specs.Option.{unwrap_or}
use Rattle.star_text.specs.Bytes.{leading}

module _ (p : ℕ → Bool) (xs : List ℕ) (at : ℕ) where
  -- past a byte that passes
  pub run-goes : at < length xs → p (get_or xs at 0) ≡ true
      → at + length (leading p (drop at xs)) ≡ at + 1 + length (leading p (drop (at + 1) xs))
  unfolding leading
  run-goes h e = rw (drop-cons xs at 0 h, e, add-one) (add-suc _ _ ∙ sym (suc-add _ _))

  -- at a byte that fails
  pub run-stops : at < length xs → p (get_or xs at 0) ≡ false → at + length (leading p (drop at xs)) ≡ at
  unfolding leading
  run-stops h e = rw (drop-cons xs at 0 h, e) (add-zero at)

  -- at the end
  pub run_ends : length xs ≤ at → at + length (leading p (drop at xs)) ≡ at
  unfolding leading
  run_ends h = rw (drop_of_length-le xs h) (add-zero at)

module _ (p : ℕ → Bool) where
  pub run_length : (xs : List ℕ) → length (leading p xs) ≤ length xs
  unfolding leading
  run_length [] = zero-le
  run_length (x ∷ xs) = cond-le (p x) (run_length xs)
    where
      cond-le : (t : Bool) → length (leading p xs) ≤ length xs → length (cond t (x ∷ leading p xs) []) ≤ suc (length xs)
      cond-le true h = suc-le-suc h
      cond-le false h = zero-le

  -- it is a first part
  pub run_take : (xs : List ℕ) → take (length (leading p xs)) xs ≡ leading p xs
  unfolding leading
  run_take [] = refl
  run_take (x ∷ xs) = cond-take (p x) (run_take xs)
    where
      cond-take : (t : Bool) → take (length (leading p xs)) xs ≡ leading p xs
          → take (length (cond t (x ∷ leading p xs) [])) (x ∷ xs) ≡ cond t (x ∷ leading p xs) []
      cond-take true e = ap (λ r. x ∷ r) e
      cond-take false e = refl

  run_prefix : (xs : List ℕ) → position_or_len (λ x. not (p x)) xs ≡ length (leading p xs)
  unfolding leading
  run_prefix [] = refl
  run_prefix (x ∷ xs) = go (p x) (run_prefix xs)
    where
      go : (t : Bool) → position_or_len (λ x. not (p x)) xs ≡ length (leading p xs)
          → cond (not (not t)) (1 + position_or_len (λ x. not (p x)) xs) 0 ≡ length (cond t (x ∷ leading p xs) [])
      go true e = omega (arith, e)
      go false e = refl

  -- the place of the first that fails, or the length
  pub run_position : (xs : List ℕ) → unwrap_or (position (λ x. not (p x)) xs) (length xs) ≡ length (leading p xs)
  run_position xs = go (ltb n (length xs)) refl
    where
      n : ℕ
      n = position_or_len (λ x. not (p x)) xs

      go : (t : Bool) → ltb n (length xs) ≡ t → unwrap_or (cond t (Some n) None) (length xs) ≡ length (leading p xs)
      go true q = run_prefix xs
      go false q = omega (arith, ltb-false _ _ q, run_prefix xs, run_length xs)

-- tests that agree on bytes give the same run of bytes
pub run_agree : (p q : ℕ → Bool) → ((b : ℕ) → b < 256 → p b ≡ q b) → (xs : List ℕ) → ((i : ℕ) → get_or xs i 0 < 256) → leading p xs ≡ leading q xs
unfolding leading
run_agree p q f [] h = refl
run_agree p q f (x ∷ xs) h = rw (f x (h 0), run_agree p q f xs (λ i. h (suc i)))

-- what holds of each of four places
pub each-of-four : (P : ℕ → Type 0) → P 0 → P 1 → P 2 → P 3 → (k : ℕ) → k < 4 → P k
each-of-four P a b c d zero h = a
each-of-four P a b c d (suc zero) h = b
each-of-four P a b c d (suc (suc zero)) h = c
each-of-four P a b c d (suc (suc (suc zero))) h = d
each-of-four P a b c d (suc (suc (suc (suc k)))) h = absurd (omega arith)

-- past four bytes that pass
module _ (p : ℕ → Bool) (xs : List ℕ) where
  goes_to : (m n : ℕ) → n ≡ m + 1 → m < length xs → p (get_or xs m 0) ≡ true → m + length (leading p (drop m xs)) ≡ n + length (leading p (drop n xs))
  goes_to m n e h q = rw e (run-goes p xs m h q)

  pub run-goes-four : (at : ℕ) → at + 3 < length xs → ((k : ℕ) → k < 4 → p (get_or xs (at + k) 0) ≡ true)
      → at + length (leading p (drop at xs)) ≡ at + 4 + length (leading p (drop (at + 4) xs))
  run-goes-four at h f =
      goes_to at (at + 1) refl (omega arith) (rw add-zero at (f 0 (omega arith)))
      ∙ goes_to (at + 1) (at + 2) (omega arith) (omega arith) (f 1 (omega arith))
      ∙ goes_to (at + 2) (at + 3) (omega arith) (omega arith) (f 2 (omega arith))
      ∙ goes_to (at + 3) (at + 4) (omega arith) (omega arith) (f 3 (omega arith))

pub never {ℓ} : {P : Type ℓ} → false ≡ true → P
never e =
    let z : ◌≡◌ {A = ℕ} 0 1 = ap (λ t. cond t 1 0) e in
    absurd (omega arith)

-- a run from a place, byte by byte
module _ (p : ℕ → Bool) (xs : List ℕ) where
  run-first : (m k : ℕ) → length (leading p (drop m xs)) ≡ suc k
      → (m < length xs) × (p (get_or xs m 0) ≡ true) × (length (leading p (drop (m + 1) xs)) ≡ k)
  unfolding leading
  run-first m k e = inside (ltb m (length xs)) refl
    where
      byte : m < length xs → (t : Bool) → p (get_or xs m 0) ≡ t → (m < length xs) × (p (get_or xs m 0) ≡ true) × (length (leading p (drop (m + 1) xs)) ≡ k)
      byte h true q = (h, q, rw add-one (omega (arith, rw (drop-cons xs m 0 h, q) at e)))
      byte h false q = absurd (omega (arith, rw (drop-cons xs m 0 h, q) at e))

      inside : (t : Bool) → ltb m (length xs) ≡ t → (m < length xs) × (p (get_or xs m 0) ≡ true) × (length (leading p (drop (m + 1) xs)) ≡ k)
      inside true q = byte (ltb-true m (length xs) q) (p (get_or xs m 0)) refl
      inside false q = absurd (omega (arith, rw (drop_of_length-le xs (ltb-false m (length xs) q)) at e))

  -- what each byte of a run leaves as it is, the run does
  pub run-keeps {ℓ} : {A : Type ℓ} (f : ℕ → A) → ((m : ℕ) → m < length xs → p (get_or xs m 0) ≡ true → f m ≡ f (m + 1))
      → (k m : ℕ) → length (leading p (drop m xs)) ≡ k → f m ≡ f (m + k)
  run-keeps f step zero m e = rw add-zero
  run-keeps f step (suc k) m e =
      let r : (m < length xs) × (p (get_or xs m 0) ≡ true) × (length (leading p (drop (m + 1) xs)) ≡ k) = run-first m k e in
      step m r.0 r.1 ∙ run-keeps f step k (m + 1) r.2 ∙ ap f (omega arith)

  -- the byte after a run fails
  pub run-fails : (k m : ℕ) → length (leading p (drop m xs)) ≡ k → m + k < length xs → p (get_or xs (m + k) 0) ≡ false
  unfolding leading
  run-fails zero m e h = rw add-zero (byte (p (get_or xs m 0)) refl)
    where
      byte : (t : Bool) → p (get_or xs m 0) ≡ t → t ≡ false
      byte true q = absurd (omega (arith, rw (drop-cons xs m 0 (omega arith), q) at e))
      byte false q = refl
  run-fails (suc k) m e h =
      let r : (m < length xs) × (p (get_or xs m 0) ≡ true) × (length (leading p (drop (m + 1) xs)) ≡ k) = run-first m k e in
      let s : m + 1 + k ≡ m + suc k = omega arith in
      rw s at (run-fails k (m + 1) r.2 (omega arith))
