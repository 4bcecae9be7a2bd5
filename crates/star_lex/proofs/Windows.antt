-- A file as Windows writes it splits as with 10 alone: line ends stand between tokens and within text fields, where each takes one byte more.
use mathlib.Core.Path.{◌≡◌, refl, sym, ◌∙◌, ap}
use mathlib.Core.Bool.{Bool, true, false, cond, not, ◌&&◌, and-false, true≢false}
use mathlib.Core.List.{List, [], ◌∷◌, ◌++◌, map}
use mathlib.Core.Option
use mathlib.Core.Option.{Option, none, some}
use Prim.Native.Nat.{ℕ, suc, ◌+◌}
use native.Mathlib.Numerals.{add-one}
use native.Mathlib.Omega.{arith}
use borrow.Author.Tests.{not-true, eqb-true, ne_eqb, le-leb}
use lib.Dec.{eqb}
use lib.ListN.{length, take, drop, length-append, take-append-drop}
use lib.Seq.{take-append-add, drop-append_seam}
use Rattle.star_text.specs.Outcome.{accepted, then, need}
use Rattle.star_text.specs.Bytes.{is_blank, is_terminate, is_white, is_allowed, all, leading, first_refused}
use Rattle.star_text.proofs.Bytes.{not-white-not-terminate, all_head, all_tail, run-all}
use Rattle.star_text.proofs.Run.{run_take}
use Rattle.star_text.proofs.Cases.{both}
use Rattle.star_lex.specs.Rules.{Rules}
use Rattle.star_lex.specs.Tokens.{Token, Placed}
use Rattle.star_lex.specs.Split.{Lexeme, gap, token, faulty, starts, white_next, quoted, line_end, closes, close_length, field, word_lexeme, word_from, quoted_lexeme, field_lexeme, lexeme, more_of, before, enter, split, tokens_by}
use Rattle.star_lex.specs.Demands.{no_pair, windows, windows_token, WindowsSplits}
use Rattle.star_lex.proofs.Formed.{starts_white, quotable}
use Rattle.star_lex.proofs.Cases.{impossible, cond-by}
use Rattle.star_lex.proofs.LineEnds.{closes-two, closes-lone}
use Rattle.star_lex.proofs.Delimited.{quoted-some, field-some}
use Rattle.star_lex.proofs.NoPair.{no_pair-head, no_pair-tail, no_pair-drop}
use Rattle.star_lex.proofs.Steps.{Steps, ends, within, passes, takes, accepted-steps, accepted-allowed}
use Rattle.star_lex.proofs.Bound.{More, word_more}

-- by the first byte: 10, or another that stays
windows-cases {ℓ} : (b : ℕ) (bs : List ℕ) (P : List ℕ → Type ℓ) → (b ≡ 10 → P (13 ∷ 10 ∷ windows bs)) → (eqb b 10 ≡ false → P (b ∷ windows bs)) → P (windows (b ∷ bs))
unfolding windows
windows-cases b bs P f g = cond-by P (eqb b 10) _ _ (λ e. f (eqb-true b 10 e)) g

windows-append : (xs ys : List ℕ) → windows (xs ++ ys) ≡ windows xs ++ windows ys
unfolding windows
windows-append [] ys = refl
windows-append (x ∷ xs) ys = go (eqb x 10) refl (windows-append xs ys)
  where
    go : (t : Bool) → eqb x 10 ≡ t → windows (xs ++ ys) ≡ windows xs ++ windows ys → windows (x ∷ (xs ++ ys)) ≡ windows (x ∷ xs) ++ windows ys
    go true e h = rw (e, h)
    go false e h = rw (e, h)

-- no pair is made
windows-starts-10 : (bs : List ℕ) → starts 10 (windows bs) ≡ false
unfolding windows starts
windows-starts-10 [] = refl
windows-starts-10 (b ∷ bs) = windows-cases b bs (λ ws. starts 10 ws ≡ false) (λ e. refl) (λ e. e)

windows-starts-59 : (bs : List ℕ) → starts 59 (windows bs) ≡ starts 59 bs
unfolding windows starts
windows-starts-59 [] = refl
windows-starts-59 (b ∷ bs) = windows-cases b bs (λ ws. starts 59 ws ≡ eqb b 59) (λ e. rw e) (λ e. refl)

windows-white : (bs : List ℕ) → white_next (windows bs) ≡ white_next bs
unfolding windows white_next is_white is_blank is_terminate
windows-white [] = refl
windows-white (b ∷ bs) = windows-cases b bs (λ ws. white_next ws ≡ is_white b) (λ e. rw e) (λ e. refl)

-- what has no line end stays
windows-same : (xs : List ℕ) → all (λ b. not (is_terminate b)) xs ≡ true → windows xs ≡ xs
unfolding windows all is_terminate
windows-same [] e = refl
windows-same (x ∷ xs) e =
    windows-cases x xs (λ ws. ws ≡ x ∷ xs)
    (λ q. absurd (true≢false (sym (ap is_terminate q) ∙ not-true (is_terminate x) (all_head (λ b. not (is_terminate b)) x xs e))))
    (λ q. ap (λ r. x ∷ r) (windows-same xs (all_tail (λ b. not (is_terminate b)) x xs e)))

windows-run : (p : ℕ → Bool) → p 10 ≡ false → p 13 ≡ false → (bs : List ℕ) → leading p (windows bs) ≡ leading p bs
unfolding windows leading
windows-run p f g [] = refl
windows-run p f g (b ∷ bs) =
    windows-cases b bs (λ ws. leading p ws ≡ cond (p b) (b ∷ leading p bs) []) (λ e. rw (e, f, g)) (λ e. rw (windows-run p f g bs))

run-windows : (p : ℕ → Bool) → p 10 ≡ false → (bs : List ℕ) → windows (leading p bs) ≡ leading p bs
unfolding windows leading
run-windows p f [] = refl
run-windows p f (b ∷ bs) = go (p b) refl (run-windows p f bs)
  where
    go : (t : Bool) → p b ≡ t → windows (leading p bs) ≡ leading p bs → windows (cond t (b ∷ leading p bs) []) ≡ cond t (b ∷ leading p bs) []
    go true e h =
        windows-cases b (leading p bs) (λ ws. ws ≡ b ∷ leading p bs) (λ q. absurd (true≢false (sym e ∙ ap p q ∙ f))) (λ q. ap (λ r. b ∷ r) h)
    go false e h = refl

-- what is left after a first part
windows-drop : (n : ℕ) (bs : List ℕ) → drop (length (windows (take n bs))) (windows bs) ≡ windows (drop n bs)
windows-drop n bs =
    ap (drop (length (windows (take n bs)))) (ap windows (sym (take-append-drop n bs)) ∙ windows-append (take n bs) (drop n bs))
    ∙ drop-append_seam (windows (take n bs)) (windows (drop n bs))

-- a lexeme of the same bytes as Windows writes them
unfoldable windows_lexeme : List ℕ → Lexeme → Lexeme
windows_lexeme bs (gap more) = gap (length (windows (take more bs)))
windows_lexeme bs (token more t) = token (length (windows (take more bs))) (windows_token t)
windows_lexeme bs (faulty n) = faulty n

cond-windows : (bs : List ℕ) (t : Bool) (x y u v : Lexeme) → u ≡ windows_lexeme bs x → v ≡ windows_lexeme bs y → cond t u v ≡ windows_lexeme bs (cond t x y)
cond-windows bs true x y u v e f = e
cond-windows bs false x y u v e f = f

-- a comment
gap-windows : (bs : List ℕ) → gap (length (leading (λ c. not (is_terminate c)) (windows bs))) ≡ windows_lexeme bs (gap (length (leading (λ c. not (is_terminate c)) bs)))
unfolding windows_lexeme is_terminate
gap-windows bs =
    let p : ℕ → Bool = λ c. not (is_terminate c) in
    ap (λ r. gap (length r)) (windows-run p refl refl bs ∙ sym (ap windows (run_take p bs) ∙ run-windows p refl bs))

-- a word
word-windows : (rules : Rules) (b : ℕ) (bs : List ℕ) → word_from rules b (windows bs) ≡ windows_lexeme bs (word_from rules b bs)
unfolding word_from windows_lexeme windows_token is_white is_blank is_terminate
word-windows rules b bs =
    rw (windows-run (λ c. not (is_white c)) refl refl bs)
    (go (word_lexeme rules (length w) (b ∷ w)) (word_more rules (length w) (b ∷ w)))
  where
    w : List ℕ
    w = leading (λ c. not (is_white c)) bs

    go : (l : Lexeme) → More (length w) l → l ≡ windows_lexeme bs l
    go (gap n) h = absurd h
    go (token n t) h =
        let p : ℕ → Bool = λ c. not (is_white c) in
        let z : length (windows (take n bs)) ≡ n = ap length (ap windows (ap (λ k. take k bs) h.0 ∙ run_take p bs) ∙ run-windows p refl bs) ∙ sym h.0 in
        rw (z, h.1)
    go (faulty n) h = refl

-- a quoted string
not_white : (a q : ℕ) → is_white q ≡ false → is_white a ≡ true → eqb a q ≡ false
not_white a q g h = ne_eqb a q (λ e. true≢false (sym h ∙ ap is_white e ∙ g))

quoted-windows : (q : ℕ) → is_white q ≡ false → (bs : List ℕ) → quoted q (windows bs) ≡ quoted q bs
unfolding windows quoted is_white is_blank is_terminate
quoted-windows q g [] = refl
quoted-windows q g (b ∷ bs) =
    windows-cases b bs (λ ws. quoted q ws ≡ quoted q (b ∷ bs)) (λ e. rw (e, not_white 13 q g refl, not_white 10 q g refl))
    (λ e. rw (windows-white bs, quoted-windows q g bs))

quotable-line : (q : ℕ) (c : List ℕ) → quotable q c ≡ true → all (λ b. not (is_terminate b)) c ≡ true
unfolding quotable all
quotable-line q [] e = refl
quotable-line q (b ∷ c) e =
    let (u, k) = both (not (is_terminate b)) (not (eqb b q && starts_white c) && quotable q c) e in
    rw (u, quotable-line q c (both (not (eqb b q && starts_white c)) (quotable q c) k).1)

string_bytes : (q : ℕ) (c rest : List ℕ) → is_white q ≡ false → quotable q c ≡ true → windows (take (suc (length c)) (c ++ q ∷ rest)) ≡ c ++ q ∷ []
unfolding all
string_bytes q c rest g u =
    let n : suc (length c) ≡ length c + 1 = omega arith in
    let w : windows (q ∷ []) ≡ q ∷ [] = windows-same (q ∷ []) (rw (not-white-not-terminate q g)) in
    rw (n, take-append-add c (q ∷ rest) 1, windows-append c (q ∷ []), windows-same c (quotable-line q c u)) (ap (λ r. c ++ r) w)

string-windows : (kind q : ℕ) → is_white q ≡ false → eqb kind 11 ≡ false → (bs : List ℕ)
    → quoted_lexeme kind (quoted q (windows bs)) ≡ windows_lexeme bs (quoted_lexeme kind (quoted q bs))
unfolding quoted_lexeme windows_lexeme windows_token
string-windows kind q g k bs = rw (quoted-windows q g bs) (go (quoted q bs) refl)
  where
    go : (o : Option (List ℕ)) → quoted q bs ≡ o → quoted_lexeme kind o ≡ windows_lexeme bs (quoted_lexeme kind o)
    go none e = refl
    go (some c) e =
        let (rest, s, u) = quoted-some q bs c g e in
        let l : windows (take (suc (length c)) bs) ≡ c ++ q ∷ [] = ap (λ r. windows (take (suc (length c)) r)) s ∙ string_bytes q c rest g u in
        let n : length (windows (take (suc (length c)) bs)) ≡ suc (length c) = ap length l ∙ length-append c (q ∷ []) ∙ add-one (length c) in
        rw (n, k)

-- a text field's content, a byte more
content-ten : (s : Bool) (o : Option (List ℕ))
    → cond s (some []) (Option.map (λ c. 13 ∷ c) (cond s (some []) (Option.map (λ c. 10 ∷ c) (Option.map windows o)))) ≡ Option.map windows (cond s (some []) (Option.map (λ c. 10 ∷ c) o))
unfolding windows
content-ten true o = refl
content-ten false none = refl
content-ten false (some c) = refl

content-other : (b : ℕ) → eqb b 10 ≡ false → (s : Bool) (o : Option (List ℕ))
    → cond s (some []) (Option.map (λ c. b ∷ c) (Option.map windows o)) ≡ Option.map windows (cond s (some []) (Option.map (λ c. b ∷ c) o))
unfolding windows
content-other b e true o = refl
content-other b e false none = refl
content-other b e false (some c) = rw e

-- a text field
module _ (rules : Rules) (pairs : rules.pairs ≡ true) where
  closes-ten : (bs : List ℕ) → closes rules (10 ∷ bs) ≡ starts 59 bs
  unfolding is_terminate
  closes-ten bs = closes-lone rules 10 bs (and-false rules.pairs)

  closes-pair : (bs : List ℕ) → closes rules (13 ∷ 10 ∷ bs) ≡ starts 59 bs
  closes-pair bs = closes-two rules 13 10 bs ∙ rw pairs

  closes-other : (b : ℕ) (bs : List ℕ) → (eqb b 13 && starts 10 bs) ≡ false → closes rules (b ∷ windows bs) ≡ closes rules (b ∷ bs)
  closes-other b bs n =
      closes-lone rules b (windows bs) (rw (windows-starts-10 bs, and-false (eqb b 13), and-false rules.pairs))
      ∙ ap (λ s. is_terminate b && s) (windows-starts-59 bs)
      ∙ sym (closes-lone rules b bs (rw (n, and-false rules.pairs)))

  field-windows : (bs : List ℕ) → no_pair bs ≡ true → field rules (windows bs) ≡ Option.map windows (field rules bs)
  unfolding windows field
  field-windows [] e = refl
  field-windows (b ∷ bs) e =
      windows-cases b bs (λ ws. field rules ws ≡ Option.map windows (field rules (b ∷ bs)))
      (λ z.
      rw (z, closes-pair (windows bs), closes-ten (windows bs), closes-ten bs, windows-starts-59 bs, field-windows bs (no_pair-tail b bs e))
      (content-ten (starts 59 bs) (field rules bs)))
      (λ z.
      rw (closes-other b bs (no_pair-head b bs e), field-windows bs (no_pair-tail b bs e))
      (content-other b z (closes rules (b ∷ bs)) (field rules bs)))

  close-two : (b c : ℕ) (r : List ℕ) → (rules.pairs && (eqb b 13 && eqb c 10)) ≡ false → is_terminate b ≡ true → c ≡ 59
      → close_length rules (windows (b ∷ c ∷ r)) ≡ length (windows (take (close_length rules (b ∷ c ∷ r)) (b ∷ c ∷ r)))
  unfolding close_length windows line_end starts
  close-two b c r n t z =
      rw (n, t, z)
      (windows-cases b (59 ∷ r) (λ ws. line_end rules ws + 1 ≡ length (windows (b ∷ 59 ∷ []))) (λ y. rw (y, pairs))
      (λ y. rw (y, and-false (eqb b 13), and-false rules.pairs, t)))

  -- what closes a field
  close-windows : (rest : List ℕ) → no_pair rest ≡ true → closes rules rest ≡ true → close_length rules (windows rest) ≡ length (windows (take (close_length rules rest) rest))
  unfolding closes line_end starts
  close-windows [] e u = absurd (true≢false (sym u))
  close-windows (b ∷ []) e u = absurd (true≢false (sym u ∙ closes-lone rules b [] (rw (and-false (eqb b 13), and-false rules.pairs)) ∙ and-false (is_terminate b)))
  close-windows (b ∷ c ∷ r) e u =
      let n : (rules.pairs && (eqb b 13 && eqb c 10)) ≡ false = rw (no_pair-head b (c ∷ r) e, and-false rules.pairs) in
      let t : (is_terminate b ≡ true) × (eqb c 59 ≡ true) = both (is_terminate b) (eqb c 59) (sym (closes-lone rules b (c ∷ r) n) ∙ u) in
      close-two b c r n t.0 (eqb-true c 59 t.1)

  -- with what closes it, so many bytes
  text-length : (bs c rest : List ℕ) → bs ≡ c ++ rest → no_pair bs ≡ true → closes rules rest ≡ true
      → length (windows c) + close_length rules (drop (length (windows c)) (windows bs)) ≡ length (windows (take (length c + close_length rules (drop (length c) bs)) bs))
  text-length bs c rest s e u =
      let d : drop (length c) bs ≡ rest = ap (drop (length c)) s ∙ drop-append_seam c rest in
      let f : drop (length (windows c)) (windows bs) ≡ windows rest
      = ap (drop (length (windows c))) (ap windows s ∙ windows-append c rest) ∙ drop-append_seam (windows c) (windows rest) in
      rw (f, d, close-windows rest (rw d at (no_pair-drop (length c) bs e)) u, s, take-append-add c rest (close_length rules rest), windows-append c (take (close_length rules rest) rest), length-append)

  text-windows : (bs : List ℕ) → no_pair bs ≡ true
      → field_lexeme rules (field rules (windows bs)) (windows bs) ≡ windows_lexeme bs (field_lexeme rules (field rules bs) bs)
  unfolding field_lexeme windows_lexeme windows_token
  text-windows bs e = rw (field-windows bs e) (go (field rules bs) refl)
    where
      go : (o : Option (List ℕ)) → field rules bs ≡ o → field_lexeme rules (Option.map windows o) (windows bs) ≡ windows_lexeme bs (field_lexeme rules o bs)
      go none q = refl
      go (some c) q =
          let (rest, s, u, v) = field-some rules bs c q in
          rw (text-length bs c rest s e u, windows-drop (length c + close_length rules (drop (length c) bs)) bs, windows-white)
          (cond-windows bs (white_next (drop (length c + close_length rules (drop (length c) bs)) bs)) _ _ _ _ refl refl)

  lexeme-windows : (line : Bool) (b : ℕ) (bs : List ℕ) → no_pair bs ≡ true → lexeme rules line b (windows bs) ≡ windows_lexeme bs (lexeme rules line b bs)
  unfolding lexeme windows_lexeme windows is_white is_blank is_terminate
  lexeme-windows line b bs e =
      cond-windows bs (is_white b) _ _ _ _ refl
      (cond-windows bs (eqb b 35) _ _ _ _ (gap-windows bs)
      (cond-windows bs (line && eqb b 59) _ _ _ _ (text-windows bs e)
      (cond-windows bs (eqb b 39) _ _ _ _ (string-windows 9 39 refl refl bs)
      (cond-windows bs (eqb b 34) _ _ _ _ (string-windows 10 34 refl refl bs) (word-windows rules b bs)))))

  -- what a split gives of the bytes as Windows writes them, from a place on
  abbrev Splits : (skip : ℕ) (line : Bool) (from : ℕ) → List ℕ → List Placed → Type 0
  Splits skip line from ws ps = (qs : List Placed) × (split rules skip line from ws ≡ accepted qs) × (map (λ p. p.token) qs ≡ map windows_token (map (λ p. p.token) ps))

  inside-windows : (skip : ℕ) (line : Bool) (from b : ℕ) (bs : List ℕ) (ps : List Placed) → ((next : ℕ) → Splits (length (windows (take skip bs))) false next (windows bs) ps)
      → Splits (length (windows (b ∷ take skip bs))) line from (windows (b ∷ bs)) ps
  unfolding windows split
  inside-windows skip line from b bs ps rest = go (eqb b 10) refl
    where
      go : (t : Bool) → eqb b 10 ≡ t → Splits (length (windows (b ∷ take skip bs))) line from (windows (b ∷ bs)) ps
      go true e = rw e (rest (suc (suc from)))
      go false e = rw e (rest (suc from))

  gap_step : (line : Bool) (from b : ℕ) (bs : List ℕ) (ps : List Placed) (more : ℕ) → no_pair bs ≡ true → lexeme rules line b bs ≡ gap more
      → ((next : ℕ) → Splits (length (windows (take more bs))) (is_terminate b) next (windows bs) ps) → Splits 0 line from (windows (b ∷ bs)) ps
  unfolding windows_lexeme windows split enter more_of lexeme is_white is_blank is_terminate
  gap_step line from b bs ps more e q rest =
      windows-cases b bs (λ ws. Splits 0 line from ws ps) (λ z. let y : more ≡ 0 = (let w : gap 0 ≡ gap more = rw z at q in cc) in (rw (y, z) at (rest (suc (suc from)))))
      (λ z. rw (lexeme-windows line b bs e, q) (rest (suc from)))

  token-step : (line : Bool) (from at b : ℕ) (bs : List ℕ) (ps : List Placed) (more : ℕ) (t : Token) → no_pair bs ≡ true → lexeme rules line b bs ≡ token more t
      → ((next : ℕ) → Splits (length (windows (take more bs))) (is_terminate b) next (windows bs) ps)
      → Splits 0 line from (windows (b ∷ bs)) (record { at = at; token = t } ∷ ps)
  unfolding windows_lexeme split enter more_of before then lexeme is_white is_blank is_terminate
  token-step line from at b bs ps more t e q rest =
      windows-cases b bs (λ ws. Splits 0 line from ws (record { at = at; token = t } ∷ ps)) (λ z. impossible (let y : lexeme rules line 10 bs ≡ token more t = rw z at q in cc))
      (λ z.
      let (qs, f, g) = rest (suc from) in
      (record { at = from; token = windows_token t } ∷ qs, rw (lexeme-windows line b bs e, q) (rw f), ap (λ r. windows_token t ∷ r) g))

  split-windows : {skip : ℕ} {line : Bool} {at : ℕ} {bs : List ℕ} {ps : List Placed} → Steps rules skip line at bs ps → no_pair bs ≡ true → (from : ℕ)
      → Splits (length (windows (take skip bs))) line from (windows bs) ps
  unfolding windows split
  split-windows ends e from = ([], refl, refl)
  split-windows (within {skip} {line} {at} {b} {bs} {ps} s) e from = inside-windows skip line from b bs ps (λ next. split-windows s (no_pair-tail b bs e) next)
  split-windows (passes {line} {at} {b} {bs} {ps} more q s) e from = gap_step line from b bs ps more (no_pair-tail b bs e) q (λ next. split-windows s (no_pair-tail b bs e) next)
  split-windows (takes {line} {at} {b} {bs} {ps} more t q s) e from = token-step line from at b bs ps more t (no_pair-tail b bs e) q (λ next. split-windows s (no_pair-tail b bs e) next)

windows-allowed : (bs : List ℕ) → all is_allowed bs ≡ true → all is_allowed (windows bs) ≡ true
unfolding windows all is_allowed
windows-allowed [] e = refl
windows-allowed (b ∷ bs) e =
    windows-cases b bs (λ ws. all is_allowed ws ≡ true) (λ z. windows-allowed bs (all_tail is_allowed b bs e))
    (λ z. rw (all_head is_allowed b bs e, windows-allowed bs (all_tail is_allowed b bs e)))

pub windows-splits : WindowsSplits
unfolding tokens_by first_refused need windows
windows-splits rules pairs file e ps h =
    let (qs, f, g) = split-windows rules pairs (accepted-steps rules file ps h) e 0 in (
      qs,
      rw (run-all is_allowed (windows file) (windows-allowed file (accepted-allowed rules file ps h)), le-leb (length (windows file)) (length (windows file)) (omega arith)) f,
      g,
    )
