-- Bytes that lie within bounds are allowed, and a file all of whose bytes are allowed has none that is refused.
use Rattle.std.proofs.Common.{◌≡◌, ℕ, suc, ◌+◌, ◌<◌, ◌≤◌, Bool, true, false, ltb, leb, List, [], ◌∷◌, length, get_or, refl, ap, arith, ltb-false, ltb-true, le-leb, leb-false}
use Rattle.star_text.specs.Bytes.{is_allowed, leading, first_refused}

-- of the first bytes none is below one bound or above another, and none above 13 is near 13
abbrev pub Within : List ℕ → (low high over at : ℕ) → Type 0
Within file low high over at =
    (k : ℕ) → k < at → (low ≤ get_or file k 0) × (get_or file k 0 ≤ high) × (14 ≤ get_or file k 0 → over + 14 ≤ get_or file k 0)

pub within_more : (file : List ℕ) (low high over at low' high' over' a : ℕ) → Within file low high over at
    → (low' ≤ low) × (low' ≤ get_or file at 0) → (high ≤ high') × (get_or file at 0 ≤ high')
    → (over' ≤ over) × (over' ≤ a) → (14 ≤ get_or file at 0 → a + 14 ≡ get_or file at 0)
    → Within file low' high' over' (at + 1)
within_more file low high over at low' high' over' a w l h o f k less = go (ltb k at) refl
  where
    go : (t : Bool) → ltb k at ≡ t → (low' ≤ get_or file k 0) × (get_or file k 0 ≤ high') × (14 ≤ get_or file k 0 → over' + 14 ≤ get_or file k 0)
    go true e =
        let v = w k (ltb-true k at e) in
        (omega (arith, v.0, l.0), omega (arith, v.1, h.0), λ q. omega (arith, v.2 q, o.0))
    go false e =
        let s : k ≡ at = omega (arith, ltb-false k at e, less) in
        rw s (l.1, h.1, λ q. omega (arith, f q, o.1))

allowed-by : (b : ℕ) → 9 ≤ b → b ≤ 126 → (14 ≤ b → 32 ≤ b) → is_allowed b ≡ true
unfolding is_allowed
allowed-by b h k f = go (leb b 13) refl
  where
    go : (t : Bool) → leb b 13 ≡ t → is_allowed b ≡ true
    go true e = rw (le-leb 9 b h, e)
    go false e = rw (le-leb 9 b h, e, le-leb 32 b (f (leb-false b 13 e)), le-leb b 126 k)

all-run : (p : ℕ → Bool) (xs : List ℕ) → ((k : ℕ) → k < length xs → p (get_or xs k 0) ≡ true) → length (leading p xs) ≡ length xs
unfolding leading
all-run p [] f = refl
all-run p (x ∷ xs) f = rw (f 0 (omega arith)) (ap suc (all-run p xs (λ k h. f (suc k) (omega (arith, h)))))

pub within-allowed : (file : List ℕ) (low high over : ℕ) → Within file low high over (length file) → 9 ≤ low → high ≤ 126 → 18 ≤ over
    → first_refused file ≡ length file
unfolding first_refused
within-allowed file low high over w l h o =
    all-run is_allowed file (λ k less. let v = w k less in
    allowed-by (get_or file k 0) (omega (arith, v.0, l)) (omega (arith, v.1, h)) (λ q. omega (arith, v.2 q, o)))
