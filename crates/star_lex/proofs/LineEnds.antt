-- Where a line ends and a text field closes: what the first two bytes decide, and that bytes put behind change nothing that is decided.
use mathlib.Core.Path.{◌≡◌, refl, sym, ◌∙◌, ap}
use mathlib.Core.Bool.{Bool, true, false, cond, ◌&&◌, and-eq-true_iff, and-false, not-eq-not, true≢false}
use mathlib.Core.List.{List, [], ◌∷◌, ◌++◌}
use Prim.Native.Nat.{ℕ, zero, suc, ◌≤◌, ◌<◌}
use native.Mathlib.Omega.{arith}
use borrow.Author.Tests.{leb-true, ne_eqb}
use lib.Dec.{eqb, leb}
use lib.ListN.{length, get_or, drop}
use Rattle.star_text.specs.Bytes.{is_terminate}
use Rattle.star_lex.specs.Rules.{Rules}
use Rattle.star_lex.specs.Split.{starts, line_end, closes, close_length}
use Rattle.star_lex.specs.Plain.{ends}

pub terminate-not-semicolon : (z : ℕ) → is_terminate z ≡ true → eqb z 59 ≡ false
unfolding is_terminate
terminate-not-semicolon z e = ne_eqb z 59 (λ q. true≢false (sym e ∙ ap is_terminate q))

return-terminates : (b : ℕ) → is_terminate b ≡ false → eqb b 13 ≡ false
unfolding is_terminate
return-terminates b e = ne_eqb b 13 (λ q. true≢false (sym (ap is_terminate q) ∙ e))

starts_more : (a : ℕ) (bs others : List ℕ) → starts a bs ≡ true → starts a (bs ++ others) ≡ true
unfolding starts
starts_more a [] others e = absurd (true≢false (sym e))
starts_more a (b ∷ bs) others e = e

pub starts-inside : (a n : ℕ) (bs : List ℕ) → starts a (drop n bs) ≡ true → n < length bs
unfolding starts
starts-inside a zero [] e = absurd (true≢false (sym e))
starts-inside a zero (b ∷ bs) e = omega arith
starts-inside a (suc n) [] e = absurd (true≢false (sym e))
starts-inside a (suc n) (b ∷ bs) e = omega (arith, starts-inside a n bs e)

pub starts-append : (a : ℕ) (c z : List ℕ) → starts a z ≡ false → starts a (c ++ z) ≡ starts a c
unfolding starts
starts-append a [] z e = e
starts-append a (b ∷ c) z e = refl

pub ends_last : (a : ℕ) (bs : List ℕ) (n : ℕ) → length bs ≡ suc n → ends a bs ≡ eqb (get_or bs n 0) a
unfolding ends
ends_last a [] n e = absurd (omega arith)
ends_last a (b ∷ []) n e = let z : n ≡ 0 = omega arith in rw z
ends_last a (b ∷ c ∷ bs) n e =
    let z : n ≡ suc (length bs) = omega arith in
    rw z (ends_last a (c ∷ bs) (length bs) refl)

pub ends-none : (a : ℕ) (bs : List ℕ) → length bs ≡ 0 → ends a bs ≡ false
unfolding ends
ends-none a [] e = refl
ends-none a (b ∷ bs) e = absurd (omega arith)

module _ (rules : Rules) where
  -- only a terminate begins a line end
  pub no-line-end : (b : ℕ) (bs : List ℕ) → is_terminate b ≡ false → line_end rules (b ∷ bs) ≡ 0
  unfolding line_end
  no-line-end b bs e = rw (return-terminates b e, and-false rules.pairs, e)

  -- one byte by itself, two where it is 13 and 10 follows
  pub line-end-one : (b : ℕ) (bs : List ℕ) → is_terminate b ≡ true → (rules.pairs && (eqb b 13 && starts 10 bs)) ≡ false → line_end rules (b ∷ bs) ≡ 1
  unfolding line_end
  line-end-one b bs t e = rw (e, t)

  pub line-end-two : (b : ℕ) (bs : List ℕ) → (rules.pairs && (eqb b 13 && starts 10 bs)) ≡ true → line_end rules (b ∷ bs) ≡ 2
  unfolding line_end
  line-end-two b bs e = rw e

  -- a text field closes where the line ends before `;`
  pub closes-not : (b : ℕ) (bs : List ℕ) → is_terminate b ≡ false → closes rules (b ∷ bs) ≡ false
  unfolding closes
  closes-not b bs e = rw (no-line-end b bs e)

  pub closes-first : (b : ℕ) (bs : List ℕ) → closes rules (b ∷ bs) ≡ true → is_terminate b ≡ true
  closes-first b bs e = not-eq-not.0 (λ f. true≢false (sym e ∙ closes-not b bs f))

  -- a byte that makes no pair with the next closes a field where it ends a line and `;` follows
  pub closes-lone : (b : ℕ) (bs : List ℕ) → (rules.pairs && (eqb b 13 && starts 10 bs)) ≡ false → closes rules (b ∷ bs) ≡ (is_terminate b && starts 59 bs)
  unfolding closes line_end
  closes-lone b bs e = go (is_terminate b) refl
    where
      go : (t : Bool) → is_terminate b ≡ t → closes rules (b ∷ bs) ≡ (t && starts 59 bs)
      go true f = rw (e, f)
      go false f = rw (e, f)

  -- of two bytes and those after them
  pub closes-two : (b c : ℕ) (s : List ℕ)
      → closes rules (b ∷ c ∷ s) ≡ cond (rules.pairs && (eqb b 13 && eqb c 10)) (starts 59 s) (is_terminate b && eqb c 59)
  unfolding closes line_end starts
  closes-two b c s = go (rules.pairs && (eqb b 13 && eqb c 10)) refl
    where
      go : (p : Bool) → (rules.pairs && (eqb b 13 && eqb c 10)) ≡ p → closes rules (b ∷ c ∷ s) ≡ cond p (starts 59 s) (is_terminate b && eqb c 59)
      go true e = rw e
      go false e = closes-lone b (c ∷ s) e

  -- before bytes that begin with no `;`, it closes only where it did
  pub closes-last : (b : ℕ) (z : List ℕ) → starts 59 z ≡ false → (rules.pairs && (eqb b 13 && starts 10 z)) ≡ false → closes rules (b ∷ z) ≡ false
  closes-last b z n e = closes-lone b z e ∙ rw (n, and-false (is_terminate b))

  closes-one : (b : ℕ) → closes rules (b ∷ []) ≡ false
  unfolding starts
  closes-one b = closes-last b [] refl (rw (and-false (eqb b 13), and-false rules.pairs))

  -- where a field closes, it closes before any bytes put behind
  pub closes-more : (s others : List ℕ) → closes rules s ≡ true → closes rules (s ++ others) ≡ true
  unfolding closes line_end
  closes-more [] others e = absurd (true≢false (sym e))
  closes-more (b ∷ []) others e = absurd (true≢false (sym e ∙ closes-one b))
  closes-more (b ∷ c ∷ s) others e =
      closes-two b c (s ++ others) ∙ go (rules.pairs && (eqb b 13 && eqb c 10)) (sym (closes-two b c s) ∙ e)
    where
      go : (p : Bool) → cond p (starts 59 s) (is_terminate b && eqb c 59) ≡ true → cond p (starts 59 (s ++ others)) (is_terminate b && eqb c 59) ≡ true
      go true h = starts_more 59 s others h
      go false h = h

  pub closes_before : (b c : ℕ) (s z : List ℕ) → starts 59 z ≡ false → closes rules (b ∷ c ∷ (s ++ z)) ≡ closes rules (b ∷ c ∷ s)
  closes_before b c s z n =
      closes-two b c (s ++ z)
      ∙ ap (λ r. cond (rules.pairs && (eqb b 13 && eqb c 10)) r (is_terminate b && eqb c 59)) (starts-append 59 s z n)
      ∙ sym (closes-two b c s)

  -- what closes a field is of the bytes
  pub closes-within : (bs : List ℕ) → closes rules bs ≡ true → (2 ≤ close_length rules bs) × (close_length rules bs ≤ length bs)
  unfolding closes close_length
  closes-within bs e =
      let (l, s) = (and-eq-true_iff (leb 1 (line_end rules bs)) (starts 59 (drop (line_end rules bs) bs))).0 e in
      (omega (arith, leb-true 1 (line_end rules bs) l), omega (arith, starts-inside 59 (line_end rules bs) bs s))
