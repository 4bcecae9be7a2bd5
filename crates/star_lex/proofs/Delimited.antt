-- Contents between delimiters: `quoted` and `field` stop at the first closing delimiter, so they find a content that holds none, and what
-- they find holds none. By induction on the bytes.
use mathlib.Core.Path.{◌≡◌, refl, sym, ◌∙◌, ap}
use mathlib.Core.Bool.{true, false, not, ◌&&◌, and-eq-true_iff, not-eq-not, true≢false}
use mathlib.Core.List.{List, [], ◌∷◌, ◌++◌}
use mathlib.Core.Option.{some, map-eq-some_iff}
use Prim.Native.Nat.{ℕ}
use borrow.Author.Tests.{not-true, eqb-true, eq-eqb}
use lib.Dec.{eqb}
use Rattle.star_text.specs.Bytes.{is_blank, is_terminate, is_white}
use Rattle.star_lex.specs.Rules.{Rules}
use Rattle.star_lex.specs.Split.{starts, white_next, quoted, line_end, closes, field}
use Rattle.star_lex.specs.Plain.{ends}
use Rattle.star_lex.proofs.Formed.{quotable, fieldable, starts_white}
use Rattle.star_lex.proofs.LineEnds.{terminate-not-semicolon, closes-first, closes-more, closes-last, closes_before}
use Rattle.star_lex.proofs.Cases.{impossible, cond_cases}

-- of a list before a byte that is not white space, the first byte decides
white_next-append : (c : List ℕ) (q : ℕ) (rest : List ℕ) → is_white q ≡ false → white_next (c ++ q ∷ rest) ≡ starts_white c
unfolding white_next starts_white
white_next-append [] q rest e = e
white_next-append (b ∷ c) q rest e = refl

pub quoted-append : (q : ℕ) (c rest : List ℕ) → is_white q ≡ false → quotable q c ≡ true → quoted q (c ++ q ∷ 10 ∷ rest) ≡ some c
unfolding quoted quotable white_next is_white is_blank is_terminate
quoted-append q [] rest w e = rw (eq-eqb q q refl)
quoted-append q (b ∷ c) rest w e =
    let (u, k) = (and-eq-true_iff (not (is_terminate b)) (not (eqb b q && starts_white c) && quotable q c)).0 e in
    let (v, l) = (and-eq-true_iff (not (eqb b q && starts_white c)) (quotable q c)).0 k in
    rw (white_next-append c q (10 ∷ rest) w, not-true (eqb b q && starts_white c) v, not-true (is_terminate b) u, quoted-append q c rest w l)

-- a field's content before what closes it; `rest` makes no pair with the content's last byte
pub field-append : (rules : Rules) (c rest : List ℕ) → closes rules rest ≡ true → (rules.pairs && (ends 13 c && starts 10 rest)) ≡ false
    → fieldable rules c ≡ true → field rules (c ++ rest) ≡ some c
unfolding field fieldable starts ends closes line_end
field-append rules c [] u n e = absurd (true≢false (sym u))
field-append rules [] (z ∷ rest) u n e = rw u
field-append rules (b ∷ []) (z ∷ rest) u n e =
    rw (closes-last rules b (z ∷ rest) (terminate-not-semicolon z (closes-first rules z rest u)) n) (rw u)
field-append rules (b ∷ d ∷ c) (z ∷ rest) u n e =
    let (k, l) = (and-eq-true_iff (not (closes rules (b ∷ d ∷ c))) (fieldable rules (d ∷ c))).0 e in
    rw (
      closes_before rules b d c (z ∷ rest) (terminate-not-semicolon z (closes-first rules z rest u)),
      not-true (closes rules (b ∷ d ∷ c)) k,
      field-append rules (d ∷ c) (z ∷ rest) u n l,
    )

pub quoted-some : (q : ℕ) (bs c : List ℕ) → is_white q ≡ false → quoted q bs ≡ some c
    → (rest : List ℕ) × (bs ≡ c ++ q ∷ rest) × (quotable q c ≡ true)
unfolding quoted quotable
quoted-some q [] c w e = impossible cc
quoted-some q (b ∷ bs) c w e =
    cond_cases (eqb b q && white_next bs) _ _ _ e
    (λ k h.
    let s : b ≡ q = eqb-true b q ((and-eq-true_iff (eqb b q) (white_next bs)).0 k).0 in
    let n : c ≡ [] = cc in
    rw n (bs, rw s, refl))
    (λ k h.
    cond_cases (is_terminate b) _ _ _ h
    (λ u g. impossible cc)
    (λ u g.
    let (d, f, n) = (map-eq-some_iff (λ (l : List ℕ). b ∷ l) (quoted q bs)).0 g in
    let (rest, s, l) = quoted-some q bs d w f in
    let m : (eqb b q && starts_white d) ≡ false = rw (s, white_next-append d q rest w) at k in
    rw (← n) (rest, ap (λ r. b ∷ r) s, rw (u, m, l))))

-- what a field's content is: it stands before what closes the field, and the field closes nowhere in it
pub field-some : (rules : Rules) (bs c : List ℕ) → field rules bs ≡ some c
    → (rest : List ℕ) × (bs ≡ c ++ rest) × (closes rules rest ≡ true) × (fieldable rules c ≡ true)
unfolding field fieldable
field-some rules [] c e = impossible cc
field-some rules (b ∷ bs) c e =
    cond_cases (closes rules (b ∷ bs)) _ _ _ e
    (λ k h.
    let n : c ≡ [] = cc in
    rw n (b ∷ bs, refl, k, refl))
    (λ k h.
    let (d, f, n) = (map-eq-some_iff (λ (l : List ℕ). b ∷ l) (field rules bs)).0 h in
    let (rest, s, u, l) = field-some rules bs d f in
    let m : closes rules (b ∷ d) ≡ false = not-eq-not.0 (λ t. true≢false (sym (closes-more rules (b ∷ d) rest t) ∙ ap (λ r. closes rules (b ∷ r)) (sym s) ∙ k)) in
    rw (← n) (rest, ap (λ r. b ∷ r) s, u, rw (m, l)))
