-- Table 1 of a layout with the kinds of today's: its spans are the file's, its kinds are those of the tokens as today's layout has them, and what repeats in the one repeats in the other, since no name and no code
-- differs.
use mathlib.Core.Path.{◌≡◌, refl, sym, ◌∙◌, ap}
use mathlib.Core.Bool.{Bool, true, false, cond, ◌&&◌}
use mathlib.Core.List.{List, [], ◌∷◌}
use Prim.Native.Nat.{ℕ, suc, ◌+◌, ◌≤◌, ◌<◌}
use native.Mathlib.Nat.{zero-add}
use native.Mathlib.Omega.{arith}
use borrow.Author.Tests.{eqb-true, eqb-false}
use lib.Dec.{eqb}
use lib.ListN.{length, get_or}
use Rattle.star_lex.specs.Rules.{today, rules1991, layout_rules}
use Rattle.star_lex.specs.Tokens.{Token, save_word}
use Rattle.star_lex.specs.Holds.{Holds, file_tokens}
use Rattle.star_lex.proofs.Held.{nowhere, held-row, count-tokens, count_small}
use Rattle.star_grammar.specs.Layout.{Track, outside, is_between, today_kind, pass_kind, today_token, today_from, today_row, track_at, today_kind_at}
use Rattle.star_grammar.proofs.Images.{today-at}
use Rattle.star_frames.specs.Frames.{kind_of, closed_frames, as_today}
use Rattle.star_frames.proofs.Retagging.{Retagged}
use Rattle.star_frames.proofs.Closing.{closed-by}
use Rattle.star_unique.specs.Repeat.{Taken, nothing, is_taken, takes, first_repeat}
use Rattle.star_unique.specs.Chain.{kinds_in, with_kinds}
use Rattle.star_unique.specs.Marked.{Spans, Plain}
use Rattle.star_unique.proofs.KindWords.{unmark-small, kind-below, kinds-held}
use Rattle.star_unique.proofs.Marks.{holds-spans}
use Rattle.star_unique.proofs.Marking.{holds_plain}

-- two rows with the same kinds, and the same contents but for what closes a frame
data Alike : List Token → List Token → Type 0 where
  none : Alike [] []
  more : {x y : Token} {xs ys : List Token} → x.kind ≡ y.kind → ((x.kind ≡ 3 → ⊥) → x.content ≡ y.content) → Alike xs ys → Alike (x ∷ xs) (y ∷ ys)

alike-taken : (s : Taken) (x y : Token) → x.kind ≡ y.kind → ((x.kind ≡ 3 → ⊥) → x.content ≡ y.content) → (is_taken s x ≡ is_taken s y) × (takes s x ≡ takes s y)
unfolding is_taken takes
alike-taken s x y e c = by (eqb x.kind 3) refl
  where
    by : (b : Bool) → eqb x.kind 3 ≡ b → (is_taken s x ≡ is_taken s y) × (takes s x ≡ takes s y)
    by true d =
        let k : x.kind ≡ 3 = eqb-true x.kind 3 d in
        let l : y.kind ≡ 3 = sym e ∙ k in
        (rw (k, l), rw (k, l))
    by false d =
        let content : x.content ≡ y.content = c (eqb-false x.kind 3 d) in
        let same : x ≡ y = λ i. record { kind = e i; content = content i } in
        (ap (is_taken s) same, ap (takes s) same)

alike-repeat : (s : Taken) {xs ys : List Token} → Alike xs ys → first_repeat s xs ≡ first_repeat s ys
unfolding first_repeat
alike-repeat s Alike.none = refl
alike-repeat s (Alike.more {x} {y} {xs} {ys} e c rest) =
    let (taken, after) = alike-taken s x y e c in
    (λ i. cond (taken i) 0 (suc (first_repeat (after i) xs))) ∙ ap (λ n. cond (is_taken s y) 0 (suc n)) (alike-repeat (takes s y) rest)

-- tokens with the kinds of today's layout
kinds-alike : (most : ℕ) (kinds : ℕ → ℕ) (ts : List Token) (t : Track) (first : ℕ) (d : Token)
    → ((m : ℕ) → m < length ts → kinds (first + m) ≡ (get_or (today_from most t ts) m d).kind) → Alike (with_kinds kinds first ts) (today_from most t ts)
unfolding with_kinds today_from today_token
kinds-alike most kinds [] t first d same = Alike.none
kinds-alike most kinds (x ∷ ts) t first d same =
    let here : kinds first ≡ today_kind t x.kind = ap kinds (omega arith) ∙ same 0 (omega arith) in
    Alike.more here (λ n. by (eqb (today_kind t x.kind) 3) refl n here)
    (kinds-alike most kinds ts (pass_kind most t (today_kind t x.kind)) (suc first) d (λ m h. ap kinds (omega arith) ∙ same (suc m) (omega arith)))
  where
    by : (b : Bool) → eqb (today_kind t x.kind) 3 ≡ b → (kinds first ≡ 3 → ⊥) → kinds first ≡ today_kind t x.kind → x.content ≡ cond b save_word x.content
    by true e n here = absurd (n (here ∙ eqb-true (today_kind t x.kind) 3 e))
    by false e n here = refl

-- a kind of today's layout is small
today-small : (t : Track) (k : ℕ) → k ≤ 12 → today_kind t k ≤ 12
unfolding today_kind
today-small t k h = by t.inside (eqb k 3) (eqb k 5 && is_between t)
  where
    by : (i a b : Bool) → cond i (cond a 12 (cond b 3 k)) k ≤ 12
    by true true b = omega arith
    by true false true = omega arith
    by true false false = h
    by false a b = h

module _ (file words : List ℕ) (count : ℕ) (h : Holds file words count) where
  module _ (after : List ℕ) (r : Retagged (today_kind_at 8 (kind_of words)) count words after) where
    closed-spans : Spans file after count
    closed-spans =
        let s : Spans file words count = holds-spans file words count h in
        let n : length words ≡ length after = sym r.size in record {
          table = rw (← n) s.table;
          size = rw (← n) s.size;
          starts = λ m. r.starts m ∙ rw (← n) (s.starts m);
          ends = λ m. r.ends m ∙ rw (← n) (s.ends m);
        }

    closed-plain : Plain file after count
    unfolding today_kind_at
    closed-plain = record {
      spans = closed-spans;
      small = λ m below. rw (r.rows m below) (today-small (track_at 8 (kind_of words) m) (kind_of words m) (rw (held-row file words count h m below).kind (kind-below file words count h m below)));
    }

    closed-kind : (m : ℕ) → m < length (file_tokens file) → kinds_in after m ≡ (get_or (today_from 8 (outside false) (file_tokens file)) m nowhere.token).kind
    unfolding kinds_in
    closed-kind m below =
        let few : m < count = omega (arith, count-tokens file words count h) in
        unmark-small _ (closed-plain.small m few) ∙ r.rows m few
        ∙ today-at 8 (kind_of words) (file_tokens file) nowhere.token (λ i k. (held-row file words count h i (omega (arith, count-tokens file words count h))).kind) m below

    closed-repeat : first_repeat nothing (with_kinds (kinds_in after) 0 (file_tokens file)) ≡ first_repeat nothing (today_from 8 (outside false) (file_tokens file))
    closed-repeat =
        alike-repeat nothing (kinds-alike 8 (kinds_in after) (file_tokens file) (outside false) 0 nowhere.token (λ m k. ap (kinds_in after) (zero-add m) ∙ closed-kind m k))

  closed : Retagged (today_kind_at 8 (kind_of words)) count words (closed_frames count words)
  closed = closed-by count words (omega (arith, h.room, h.count_is)) (count_small file words count h)

  -- the table that names and codes are compared by
  pub today-plain : (layout : ℕ) → Plain file (as_today layout count words) count
  unfolding as_today
  today-plain layout = by (eqb layout 1)
    where
      by : (b : Bool) → Plain file (cond b (closed_frames count words) words) count
      by true = closed-plain (closed_frames count words) closed
      by false = holds_plain file words count h

  pub today-repeat : (layout : ℕ) → first_repeat nothing (with_kinds (kinds_in (as_today layout count words)) 0 (file_tokens file)) ≡ first_repeat nothing (today_row (layout_rules layout) (file_tokens file))
  unfolding as_today layout_rules today_row
  today-repeat layout = by (eqb layout 1)
    where
      by : (b : Bool) → first_repeat nothing (with_kinds (kinds_in (cond b (closed_frames count words) words)) 0 (file_tokens file))
          ≡ first_repeat nothing (cond (cond b rules1991 today).stop_closes (today_from (cond b rules1991 today).levels (outside false) (file_tokens file)) (file_tokens file))
      by true = closed-repeat (closed_frames count words) closed
      by false = ap (first_repeat nothing) (kinds-held file words count h)
