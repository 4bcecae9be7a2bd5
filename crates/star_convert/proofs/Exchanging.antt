-- Rows of today's layout in two layouts: their plain forms differ in the words that close frames, which stand in the same places.
use mathlib.Core.Path.{◌≡◌, refl, sym, ◌∙◌, ap, subst}
use mathlib.Core.Bool.{Bool, true, false, cond}
use mathlib.Core.List.{List, [], ◌∷◌, ◌++◌, map, flat_map, append_assoc}
use Prim.Native.Nat.{ℕ, zero, suc, ◌+◌, ◌≤◌, ◌<◌}
use native.Mathlib.Omega.{arith}
use borrow.Author.Tests.{eqb-true, eqb-false}
use lib.Dec.{eqb}
use lib.ListN.{length, get_or, take, drop, length-append, length-map, length-take, take-append-drop}
use lib.Seq.{drop_at, take_all}
use Rattle.star_text.proofs.Cases.{cond-by}
use Rattle.star_lex.specs.Rules.{Rules, today}
use Rattle.star_lex.specs.Tokens.{Token, Each, opening, save_word, stop_word}
use Rattle.star_lex.specs.Plain.{closing, indent, plain_token, plain_by, plain_of}
use Rattle.star_lex.proofs.Formed.{WellFormed}
use Rattle.star_lex.proofs.Formed as Formed
use Rattle.star_lex.proofs.Each.{each_at}
use Rattle.star_grammar.specs.Tree.{frame_end, stop}
use Rattle.star_grammar.specs.Layout.{old_token, old_row, layout_row}
use Rattle.star_grammar.proofs.Rest.{Fixed}
use Rattle.star_grammar.proofs.Layouts.{old-end, old-stays}
use Rattle.star_plain.specs.Put.{token_of, Put, Filled}
use Rattle.star_plain.proofs.Putting.{fill-put, fill-kept}
use Rattle.star_plain.proofs.Prefix.{plain_first, plain-append, plain-next, plain-within}

-- a token of today's layout in one whose frames `stop_` closes, or not
abbrev pub laid : (old : Bool) → Token → Token
laid old u = cond old (old_token u) u

abbrev close : (old : Bool) → Token
close old = cond old stop frame_end

pub row_laid : (rules : Rules) (us : List Token) → layout_row rules us ≡ map (laid rules.stop_closes) us
unfolding layout_row old_row
row_laid rules us = by rules.stop_closes
  where
    same : (us : List Token) → us ≡ map (λ u. u) us
    same [] = refl
    same (u ∷ us) = ap (λ xs. u ∷ xs) (same us)

    by : (b : Bool) → cond b (map old_token us) us ≡ map (laid b) us
    by true = refl
    by false = same us

-- what closes a frame is one word of five bytes
laid_end : (old : Bool) (u : Token) → Fixed u → u.kind ≡ 3 → laid old u ≡ close old
unfolding frame_end
laid_end true u h k = old-end u k
laid_end false u h k = λ i. record { kind = k i; content = h.save-is k i }

laid-stays : (old : Bool) (u : Token) → (u.kind ≡ 3 → ⊥) → laid old u ≡ u
laid-stays true u f = old-stays u f
laid-stays false u f = refl

plain-close : (old : Bool) → plain_token today (close old) ≡ (close old).content ++ (10 ∷ [])
unfolding plain_token indent opening closing stop frame_end stop_word save_word
plain-close true = refl
plain-close false = refl

long-close : (old : Bool) → length (close old).content ≡ 5
unfolding stop frame_end stop_word save_word
long-close true = refl
long-close false = refl

long-end : (old : Bool) → length (plain_token today (token_of 3 (close old).content)) ≡ length (plain_token today (close old))
unfolding plain_token indent opening closing stop frame_end stop_word save_word
long-end true = refl
long-end false = refl

-- a word at the start of a token's plain form, and what comes after it
record Exchanged (word before after : List ℕ) : Type 0 where
  stood : List ℕ
  rest : List ℕ
  was : before ≡ stood ++ rest
  is : after ≡ word ++ rest
  long : length stood ≡ length word

-- over a token of this kind
abbrev pub over : (old : Bool) (kind : ℕ) → List ℕ
over old kind = cond (eqb kind 3) (close old).content []

exchanged : (old new : Bool) (u : Token) → Fixed u → Exchanged (over new u.kind) (plain_token today (laid old u)) (plain_token today (laid new u))
exchanged old new u h = by (eqb u.kind 3) refl
  where
    by : (b : Bool) → eqb u.kind 3 ≡ b → Exchanged (cond b (close new).content []) (plain_token today (laid old u)) (plain_token today (laid new u))
    by true e =
        let k : u.kind ≡ 3 = eqb-true u.kind 3 e in
        record {
          stood = (close old).content;
          rest = 10 ∷ [];
          was = ap (plain_token today) (laid_end old u h k) ∙ plain-close old;
          is = ap (plain_token today) (laid_end new u h k) ∙ plain-close new;
          long = long-close old ∙ sym (long-close new);
        }
    by false e =
        let k : u.kind ≡ 3 → ⊥ = eqb-false u.kind 3 e in
        record {
          stood = [];
          rest = plain_token today u;
          was = ap (plain_token today) (laid-stays old u k);
          is = ap (plain_token today) (laid-stays new u k);
          long = refl;
        }

-- its length, by its kind of today's layout and its content
pub laid-length : (old : Bool) (u : Token) → Fixed u → length (plain_token today (token_of u.kind (laid old u).content)) ≡ length (plain_token today (laid old u))
laid-length old u h = by (eqb u.kind 3) refl
  where
    by : (b : Bool) → eqb u.kind 3 ≡ b → length (plain_token today (token_of u.kind (laid old u).content)) ≡ length (plain_token today (laid old u))
    by true e =
        let k : u.kind ≡ 3 = eqb-true u.kind 3 e in
        let l : laid old u ≡ close old = laid_end old u h k in
        ap (λ x. length (plain_token today x)) (λ i. token_of (k i) (l i).content) ∙ long-end old ∙ ap (λ x. length (plain_token today x)) (sym l)
    by false e = ap (λ x. length (plain_token today x)) (λ i. token_of u.kind (laid-stays old u (eqb-false u.kind 3 e) i).content) ∙ ap (λ x. length (plain_token today x)) (sym (laid-stays old u (eqb-false u.kind 3 e)))

same_length : (old new : Bool) (u : Token) → Fixed u → length (plain_token today (laid old u)) ≡ length (plain_token today (laid new u))
same_length old new u h =
    let x : Exchanged (over new u.kind) (plain_token today (laid old u)) (plain_token today (laid new u)) = exchanged old new u h in
    omega (arith, ap length x.was ∙ length-append x.stood x.rest, ap length x.is ∙ length-append (over new u.kind) x.rest, x.long)

first-length : (old new : Bool) (us : List Token) → Each Fixed us → (n : ℕ) → length (plain_first n (map (laid old) us)) ≡ length (plain_first n (map (laid new) us))
unfolding plain_by flat_map
first-length old new us h zero = refl
first-length old new [] h (suc n) = refl
first-length old new (u ∷ us) h (suc n) =
    length-append (plain_token today (laid old u)) (plain_first n (map (laid old) us))
    ∙ (λ i. same_length old new u h.0 i + first-length old new us h.1 n i)
    ∙ sym (length-append (plain_token today (laid new u)) (plain_first n (map (laid new) us)))

pub laid-at : (old : Bool) (us : List Token) (n : ℕ) (d e : Token) → n < length us → get_or (map (laid old) us) n d ≡ laid old (get_or us n e)
laid-at old [] n d e h = absurd (omega arith)
laid-at old (u ∷ us) zero d e h = refl
laid-at old (u ∷ us) (suc n) d e h = laid-at old us n d e (omega arith)

-- one token more of an output that begins with the plain form in one layout, and gets that in the other
module _ (old new : Bool) (us : List Token) (fixed : Each Fixed us) (out₀ : List ℕ) (begins : take (length (plain_of (map (laid old) us))) out₀ ≡ plain_of (map (laid old) us)) where
  abbrev ts : List Token
  ts = map (laid old) us

  abbrev os : List Token
  os = map (laid new) us

  begins-long : length (plain_of ts) ≤ length out₀
  begins-long = omega (arith, ap length begins, length-take (length (plain_of ts)) out₀)

  -- what stands after its first tokens
  begins-first : (n : ℕ) → out₀ ≡ plain_first n ts ++ (plain_of (drop n ts) ++ drop (length (plain_of ts)) out₀)
  begins-first n =
      sym (take-append-drop (length (plain_of ts)) out₀)
      ∙ ap (λ l. l ++ drop (length (plain_of ts)) out₀) (begins ∙ ap plain_of (sym (take-append-drop n ts)) ∙ plain-append (take n ts) (drop n ts))
      ∙ append_assoc (plain_first n ts) (plain_of (drop n ts)) (drop (length (plain_of ts)) out₀)

  module _ (n : ℕ) (d : Token) (below : n < length us) where
    abbrev u : Token
    u = get_or us n d

    x : Exchanged (over new u.kind) (plain_token today (laid old u)) (plain_token today (laid new u))
    x = exchanged old new u (each_at Fixed us n d below fixed)

    -- its length, and the bytes before it
    abbrev size : ℕ
    size = length (plain_token today (token_of u.kind (laid old u).content))

    next-old : plain_first (n + 1) ts ≡ plain_first n ts ++ plain_token today (laid old u)
    next-old = plain-next n ts d (omega (arith, length-map us (laid old))) ∙ ap (λ t. plain_first n ts ++ plain_token today t) (laid-at old us n d d below)

    next-new : plain_first (n + 1) os ≡ plain_first n os ++ plain_token today (laid new u)
    next-new = plain-next n os d (omega (arith, length-map us (laid new))) ∙ ap (λ t. plain_first n os ++ plain_token today t) (laid-at new us n d d below)

    size_is : length (over new u.kind) + length x.rest ≡ size
    size_is =
        sym (laid-length old u (each_at Fixed us n d below fixed) ∙ ap length x.was ∙ length-append x.stood x.rest ∙ ap (λ k. k + length x.rest) x.long)

    pub word-within : length (over new u.kind) ≤ size
    word-within = omega (arith, size_is)

    pub within : length (plain_first n os) + size ≤ length out₀
    within =
        omega (
          arith,
          begins-long,
          plain-within (n + 1) ts,
          ap length next-old ∙ length-append (plain_first n ts) (plain_token today (laid old u)),
          laid-length old u (each_at Fixed us n d below fixed),
          first-length old new us fixed n,
        )

    pub turn : {out after : List ℕ} {at next : ℕ} → Filled (plain_first n os) out₀ out at → Put (over new u.kind) at out after next
        → Filled (plain_first (n + 1) os) out₀ after (at + size)
    turn {out} {after} {at} {next} f p =
        let w : List ℕ = over new u.kind in
        let tail : List ℕ = plain_of (drop (n + 1) ts) ++ drop (length (plain_of ts)) out₀ in
        let stands : out₀ ≡ (plain_first n ts ++ x.stood) ++ (x.rest ++ tail)
        = begins-first (n + 1) ∙ ap (λ l. l ++ tail) (next-old ∙ ap (λ l. plain_first n ts ++ l) x.was ∙ sym (append_assoc (plain_first n ts) x.stood x.rest))
        ∙ append_assoc (plain_first n ts ++ x.stood) x.rest tail in
        let long : length (plain_first n ts ++ x.stood) ≡ length (plain_first n os ++ w)
        = length-append (plain_first n ts) x.stood ∙ (λ i. first-length old new us fixed n i + x.long i) ∙ sym (length-append (plain_first n os) w) in
        let left : drop (length (plain_first n os ++ w)) out₀ ≡ x.rest ++ tail
        = ap (drop (length (plain_first n os ++ w))) stands ∙ drop_at (plain_first n ts ++ x.stood) (x.rest ++ tail) (length (plain_first n os ++ w)) long in
        let k : Filled ((plain_first n os ++ w) ++ x.rest) out₀ after (next + length x.rest) = fill-kept (fill-put f p) x.rest tail left in
        let bytes : (plain_first n os ++ w) ++ x.rest ≡ plain_first (n + 1) os
        = append_assoc (plain_first n os) w x.rest ∙ ap (λ l. plain_first n os ++ l) (sym x.is) ∙ sym next-new in
        let count : next + length x.rest ≡ at + size = omega (arith, p.ends, size_is) in
        subst (λ b. Filled b out₀ after (at + size)) bytes (subst (λ c. Filled ((plain_first n os ++ w) ++ x.rest) out₀ after c) count k)

  -- after the last
  pub turned : (n : ℕ) → length us ≤ n → {out : List ℕ} {at : ℕ} → Filled (plain_first n os) out₀ out at → out ≡ plain_of os ++ drop (length (plain_of ts)) out₀
  turned n h f =
      let all : plain_first n os ≡ plain_of os = ap plain_of (take_all n os (omega (arith, length-map us (laid new)))) in
      let all_old : plain_first n ts ≡ plain_of ts = ap plain_of (take_all n ts (omega (arith, length-map us (laid old)))) in
      let long : length (plain_first n os) ≡ length (plain_of ts) = sym (first-length old new us fixed n) ∙ ap length all_old in
      f.leaves ∙ λ i. all i ++ drop (long i) out₀

-- the plain forms of a row in two layouts have as many bytes
pub rows-length : (rules others : Rules) (us : List Token) → Each Fixed us → length (plain_of (layout_row others us)) ≡ length (plain_of (layout_row rules us))
rows-length rules others us h =
    let all : (b : Bool) → plain_first (length us) (map (laid b) us) ≡ plain_of (map (laid b) us)
    = λ b. ap plain_of (take_all (length us) (map (laid b) us) (omega (arith, length-map us (laid b)))) in
    ap (λ ts. length (plain_of ts)) (row_laid others us)
    ∙ ap length (sym (all others.stop_closes)) ∙ first-length others.stop_closes rules.stop_closes us h (length us) ∙ ap length (all rules.stop_closes)
    ∙ ap (λ ts. length (plain_of ts)) (sym (row_laid rules us))

-- no token of the 1991 layout has the kind of a `save_` alone
old-bare : (u : Token) → (old_token u).kind ≡ 3 → ⊥
unfolding old_token stop
old-bare u = cond-by (λ (t : Token). t.kind ≡ 3 → ⊥) (eqb u.kind 3) _ u (λ e. omega arith) (λ e. eqb-false u.kind 3 e)

pub laid-bare : (us : List Token) (n : ℕ) (d : Token) → n < length us → (get_or (map (laid true) us) n d).kind ≡ 3 → ⊥
laid-bare us n d h e = old-bare (get_or us n d) (ap (λ (t : Token). t.kind) (sym (laid-at true us n d d h)) ∙ e)

-- a row that is well formed in one layout is so in the other
formed-close : (old : Bool) → WellFormed (close old)
unfolding stop frame_end
formed-close true = Formed.stop
formed-close false = Formed.frame_end

pub laid-formed : (old new : Bool) (us : List Token) → Each Fixed us → Each WellFormed (map (laid old) us) → Each WellFormed (map (laid new) us)
laid-formed old new [] h w = tt
laid-formed old new (u ∷ us) h w = (by (eqb u.kind 3) refl, laid-formed old new us h.1 w.1)
  where
    by : (b : Bool) → eqb u.kind 3 ≡ b → WellFormed (laid new u)
    by true e = subst WellFormed (sym (laid_end new u h.0 (eqb-true u.kind 3 e))) (formed-close new)
    by false e =
        let k : u.kind ≡ 3 → ⊥ = eqb-false u.kind 3 e in
        subst WellFormed (laid-stays old u k ∙ sym (laid-stays new u k)) w.0
