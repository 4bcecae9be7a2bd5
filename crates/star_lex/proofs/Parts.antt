-- Every token of a split is a part of the file, after the one before it: a lexeme's bytes stand where it was read, and the split goes on
-- after them.
use mathlib.Core.Path.{◌≡◌, refl, sym, ap}
use mathlib.Core.Bool.{Bool, true}
use mathlib.Core.List.{List, [], ◌∷◌, ◌++◌}
use Prim.Native.Nat.{ℕ, suc, ◌+◌, ◌≤◌, ◌<◌}
use native.Mathlib.Nat.{add-suc, suc-add}
use native.Mathlib.Numerals.{add-one}
use native.Mathlib.Omega.{arith}
use lib.ListN.{length, take, drop, length-append, length-drop}
use lib.Seq.{drop-drop, drop-append_seam, take-append_seam}
use Rattle.star_text.specs.Bytes.{is_allowed, all}
use Rattle.star_lex.specs.Rules.{Rules, today}
use Rattle.star_lex.specs.Tokens.{Token, Placed, Each, opening, data_word, save_word, loop_word, stop_word, global_word}
use Rattle.star_text.specs.Outcome.{accepted}
use Rattle.star_lex.specs.Split.{tokens_by, tokens_of}
use Rattle.star_lex.proofs.Formed.{FormedBy, block, frame, frame_end, loop, stop, name, word, reference, single, double, text, global}
use Rattle.star_text.proofs.Bytes.{all_tail}
use Rattle.star_lex.proofs.Lexemes.{TokenAt, lexeme-token}
use Rattle.star_lex.proofs.Steps.{Steps, ends, within, passes, takes, accepted-steps, accepted-allowed}

-- a token whose content is a part of the file
pub record PartOf (file : List ℕ) (p : Placed) : Type 0 where
  pub whole : p.at + length (opening p.token.kind) + length p.token.content ≤ length file
  pub content : p.token.content ≡ take (length p.token.content) (drop (p.at + length (opening p.token.kind)) file)
  pub first : p.at < length file

drop-tail : (file : List ℕ) (at b : ℕ) (bs : List ℕ) → drop at file ≡ b ∷ bs → drop (suc at) file ≡ bs
drop-tail file at b bs e = rw (← (add-one at), ← (drop-drop 1 at file), e)

token-part : (rules : Rules) (file : List ℕ) (at b : ℕ) (bs : List ℕ) (more : ℕ) (t : Token) → drop at file ≡ b ∷ bs → TokenAt rules b bs more t
    → PartOf file (record { at = at; token = t })
token-part rules file at b bs more t d k = record {
  whole = omega (arith, simp length-drop at (ap length d), simp length-append at (ap length k.bytes));
  content = rw (← (drop-drop (length (opening t.kind)) at file), d, k.bytes, drop-append_seam (opening t.kind) (t.content ++ k.rest)) (sym (take-append_seam t.content k.rest));
  first = omega (arith, simp length-drop at (ap length d));
}

module _ (file : List ℕ) where
  steps-parts : (rules : Rules) {skip : ℕ} {line : Bool} {at : ℕ} {bs : List ℕ} {ps : List Placed} → Steps rules skip line at bs ps → all is_allowed bs ≡ true
      → drop at file ≡ bs → Each (PartOf file) ps
  steps-parts rules ends a d = tt
  steps-parts rules (within {at = at} {b = b} {bs = bs} s) a d = steps-parts rules s (all_tail is_allowed b bs a) (drop-tail file at b bs d)
  steps-parts rules (passes {at = at} {b = b} {bs = bs} more e s) a d = steps-parts rules s (all_tail is_allowed b bs a) (drop-tail file at b bs d)
  steps-parts rules (takes {line} {at} {b} {bs} more t e s) a d =
      (token-part rules file at b bs more t d (lexeme-token rules line b bs more t a e), steps-parts rules s (all_tail is_allowed b bs a) (drop-tail file at b bs d))

pub parts-by : (rules : Rules) (file : List ℕ) (ps : List Placed) → tokens_by rules file ≡ accepted ps → Each (λ p. PartOf file p) ps
parts-by rules file ps e = steps-parts file rules (accepted-steps rules file ps e) (accepted-allowed rules file ps e) refl

pub split_parts : (file : List ℕ) (ps : List Placed) → tokens_of file ≡ accepted ps → Each (λ p. PartOf file p) ps
split_parts = parts-by today

steps-count : (rules : Rules) {skip : ℕ} {line : Bool} {at : ℕ} {bs : List ℕ} {ps : List Placed} → Steps rules skip line at bs ps → length ps ≤ length bs
steps-count rules ends = omega arith
steps-count rules (within s) = omega (arith, steps-count rules s)
steps-count rules (passes more e s) = omega (arith, steps-count rules s)
steps-count rules (takes more t e s) = omega (arith, steps-count rules s)

pub count_by : (rules : Rules) (file : List ℕ) (ps : List Placed) → tokens_by rules file ≡ accepted ps → length ps ≤ length file
count_by rules file ps e = steps-count rules (accepted-steps rules file ps e)

pub split-count : (file : List ℕ) (ps : List Placed) → tokens_of file ≡ accepted ps → length ps ≤ length file
split-count = count_by today

-- where a token's content ends
abbrev pub content_end : Placed → ℕ
content_end p = p.at + length (opening p.token.kind) + length p.token.content

-- the tokens begin at this place or later, and each where the content of the one before has ended
abbrev pub Ordered : ℕ → List Placed → Type 0
Ordered from [] = Unit {0}
Ordered from (p ∷ ps) = (from ≤ p.at) × (p.at < content_end p) × Ordered (content_end p) ps

Ordered-from : (m n : ℕ) (ps : List Placed) → m ≤ n → Ordered n ps → Ordered m ps
Ordered-from m n [] h o = tt
Ordered-from m n (p ∷ ps) h o = (omega arith, o.1, o.2)

formed-long : (rules : Rules) {t : Token} → FormedBy rules t → 0 < length (opening t.kind) + length t.content
unfolding opening data_word save_word loop_word stop_word global_word
formed-long rules (block x xs e h) = omega arith
formed-long rules (frame x xs e h) = omega arith
formed-long rules frame_end = omega arith
formed-long rules loop = omega arith
formed-long rules stop = omega arith
formed-long rules (name x xs e h) = omega arith
formed-long rules (word x xs e o) = omega arith
formed-long rules (reference x xs e) = omega arith
formed-long rules (single c a e) = omega arith
formed-long rules (double c a e) = omega arith
formed-long rules (text c a e) = omega arith
formed-long rules global = omega arith

steps-ordered : (rules : Rules) {skip : ℕ} {line : Bool} {at : ℕ} {bs : List ℕ} {ps : List Placed} → Steps rules skip line at bs ps → all is_allowed bs ≡ true
    → Ordered (at + skip) ps
steps-ordered rules ends a = tt
steps-ordered rules (within {b = b} {bs = bs} s) a = rw (add-suc, ← suc-add) (steps-ordered rules s (all_tail is_allowed b bs a))
steps-ordered rules (passes {at = at} {b = b} {bs = bs} {ps = ps} more e s) a =
    Ordered-from (at + 0) (suc at + more) ps (omega arith) (steps-ordered rules s (all_tail is_allowed b bs a))
steps-ordered rules (takes {line} {at} {b} {bs} {ps} more t e s) a =
    let k : TokenAt rules b bs more t = lexeme-token rules line b bs more t a e in
    let h : 0 < length (opening t.kind) + length t.content = formed-long rules k.formed in (
      omega arith,
      omega arith,
      Ordered-from (content_end (record { at = at; token = t })) (suc at + more) ps (omega (arith, k.within)) (steps-ordered rules s (all_tail is_allowed b bs a)),
    )

pub ordered-by : (rules : Rules) (file : List ℕ) (ps : List Placed) → tokens_by rules file ≡ accepted ps → Ordered 0 ps
ordered-by rules file ps e = steps-ordered rules (accepted-steps rules file ps e) (accepted-allowed rules file ps e)

pub split-ordered : (file : List ℕ) (ps : List Placed) → tokens_of file ≡ accepted ps → Ordered 0 ps
split-ordered = ordered-by today
