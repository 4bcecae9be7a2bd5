-- Where strings and text fields close, seen from a place of the file: what one byte decides.
use mathlib.Core.Path.{◌≡◌, refl, sym, ◌∙◌, ap}
use mathlib.Core.Bool.{Bool, true, false, cond, ◌&&◌, and-false}
use mathlib.Core.List.{List, [], ◌∷◌}
use mathlib.Core.Option.{Option, none, some, map}
use Prim.Native.Nat.{ℕ, suc, ◌+◌, ◌≤◌, ◌<◌}
use native.Mathlib.Nat.{add-zero, add-suc, suc-add}
use native.Mathlib.Numerals.{add-one}
use native.Mathlib.Omega.{arith}
use borrow.Author.Tests.{not-true, not-false, eqb-true}
use lib.Dec.{eqb}
use lib.ListN.{length, get_or, drop, drop_of_length-le}
use lib.Seq.{drop-cons, drop-drop}
use Rattle.star_text.specs.Bytes.{is_terminate, is_white, leading}
use Rattle.star_text.specs.Classes.{Classes, below_in}
use Rattle.star_text.proofs.Cases.{both}
use Rattle.star_text.proofs.Classes.{below-terminate}
use Rattle.star_text.proofs.Run.{run-keeps, run-fails}
use Rattle.star_lex.specs.Rules.{Rules, today}
use Rattle.star_lex.specs.Split.{quoted, line_end, closes, field, starts, white_next}
use Rattle.star_lex.specs.Answer.{end_of}
use Rattle.star_lex.specs.LineEnd.{LineEnd}
use Rattle.star_lex.proofs.LineEnds.{starts-inside, line-end-one, line-end-two, closes-not}

module _ (file : List ℕ) (at : ℕ) where
  pub white-in : at < length file → white_next (drop at file) ≡ is_white (get_or file at 0)
  unfolding white_next
  white-in h = rw (drop-cons file at 0 h)

  pub white-end : length file ≤ at → white_next (drop at file) ≡ true
  unfolding white_next
  white-end h = rw (drop_of_length-le file h)

  pub starts-in : (b : ℕ) → at < length file → starts b (drop at file) ≡ eqb (get_or file at 0) b
  unfolding starts
  starts-in b h = rw (drop-cons file at 0 h)

  pub starts-end : (b : ℕ) → length file ≤ at → starts b (drop at file) ≡ false
  unfolding starts
  starts-end b h = rw (drop_of_length-le file h)

-- a content with one byte more before it
end-cons : (size at b : ℕ) (o : Option (List ℕ)) → end_of size at (map (λ c. b ∷ c) o) ≡ end_of size (at + 1) o
unfolding end_of
end-cons size at b none = refl
end-cons size at b (some c) = rw add-one (add-suc at (length c) ∙ sym (suc-add at (length c)))

end-here : (size at : ℕ) (stops : Bool) (o : Option (List ℕ)) → end_of size at (cond stops (some []) o) ≡ cond stops at (end_of size at o)
unfolding end_of
end-here size at true o = add-zero at
end-here size at false o = refl

end_line : (size at : ℕ) (stops : Bool) (o : Option (List ℕ)) → end_of size at (cond stops none o) ≡ cond stops size (end_of size at o)
unfolding end_of
end_line size at true o = refl
end_line size at false o = refl

module _ (size : ℕ) (file : List ℕ) (at : ℕ) where
  pub quote-at : (q : ℕ) → at < length file
      → end_of size at (quoted q (drop at file))
      ≡ cond (eqb (get_or file at 0) q && white_next (drop (at + 1) file)) at
      (cond (is_terminate (get_or file at 0)) size (end_of size (at + 1) (quoted q (drop (at + 1) file))))
  unfolding quoted
  quote-at q h =
      rw (drop-cons file at 0 h, end-here, end_line, end-cons size at (get_or file at 0) (quoted q (drop (suc at) file)), add-one)

  pub quote-over : (q : ℕ) → length file ≤ at → end_of size at (quoted q (drop at file)) ≡ size
  unfolding quoted end_of
  quote-over q h = rw (drop_of_length-le file h)

  pub field_at : (rules : Rules) → at < length file
      → end_of size at (field rules (drop at file)) ≡ cond (closes rules (drop at file)) at (end_of size (at + 1) (field rules (drop (at + 1) file)))
  unfolding field
  field_at rules h =
      rw (drop-cons file at 0 h, end-here, end-cons size at (get_or file at 0) (field rules (drop (suc at) file)), add-one)

  pub field-over : (rules : Rules) → length file ≤ at → end_of size at (field rules (drop at file)) ≡ size
  unfolding field end_of
  field-over rules h = rw (drop_of_length-le file h)

-- a byte that ends no line closes no field
pub field-inside : (size : ℕ) (file : List ℕ) (at : ℕ) (rules : Rules) → at < length file → is_terminate (get_or file at 0) ≡ false
    → end_of size at (field rules (drop at file)) ≡ end_of size (at + 1) (field rules (drop (at + 1) file))
field-inside size file at rules h e =
    field_at size file at rules h ∙ rw (drop-cons file at 0 h, closes-not rules (get_or file at 0) (drop (suc at) file) e)

-- the next line end from a place on, by the run of bytes that end no line
pub line-end : {table : List ℕ} → Classes table → (file : List ℕ) (from : ℕ) → ((i : ℕ) → get_or file i 0 < 256)
    → LineEnd file from (from + length (leading (below_in table 3) (drop from file)))
line-end {table} c file from bytes = record {
  further = omega arith;
  ends = λ h. not-false _ (sym (below-terminate c (get_or file (from + size) 0) (bytes (from + size))) ∙ run-fails below file size from refl h);
  closes = sym (run-keeps below file (λ m. end_of (length file) m (field today (drop m file))) over size from refl);
}
  where
    below : ℕ → Bool
    below b = below_in table 3 b

    size : ℕ
    size = length (leading below (drop from file))

    over : (m : ℕ) → m < length file → below (get_or file m 0) ≡ true
        → end_of (length file) m (field today (drop m file)) ≡ end_of (length file) (m + 1) (field today (drop (m + 1) file))
    over m h e =
        field-inside (length file) file m today h
        (not-true (is_terminate (get_or file m 0)) (sym (below-terminate c (get_or file m 0) (bytes m)) ∙ e))

-- the line end at a place, as its two bytes tell it
module _ (rules : Rules) (file : List ℕ) (at : ℕ) (inside : at < length file) (ends : is_terminate (get_or file at 0) ≡ true) where
  pub line-end-pair : (rules.pairs && (eqb (get_or file at 0) 13 && starts 10 (drop (at + 1) file))) ≡ true → line_end rules (drop at file) ≡ 2
  line-end-pair e = rw (drop-cons file at 0 inside, ← add-one at) (line-end-two rules (get_or file at 0) (drop (at + 1) file) e)

  pub line-end-lone : (rules.pairs && (eqb (get_or file at 0) 13 && starts 10 (drop (at + 1) file))) ≡ false → line_end rules (drop at file) ≡ 1
  line-end-lone e = rw (drop-cons file at 0 inside, ← add-one at) (line-end-one rules (get_or file at 0) (drop (at + 1) file) ends e)

closes-after : (rules : Rules) (file : List ℕ) (at : ℕ) → line_end rules (drop at file) ≡ 1 → closes rules (drop at file) ≡ starts 59 (drop (at + 1) file)
unfolding closes
closes-after rules file at e = rw (e, drop-drop)

closes-after-pair : (rules : Rules) (file : List ℕ) (at : ℕ) → line_end rules (drop at file) ≡ 2 → closes rules (drop at file) ≡ starts 59 (drop (at + 2) file)
unfolding closes
closes-after-pair rules file at e = rw (e, drop-drop)

-- from a line end on, a field closes there or is sought after it
abbrev Sought : (rules : Rules) (file : List ℕ) (size at next : ℕ) → Type 0
Sought rules file size at next =
    end_of size at (field rules (drop at file)) ≡ cond (starts 59 (drop next file)) at (end_of size next (field rules (drop next file)))

sought-lone : (rules : Rules) (file : List ℕ) (size at : ℕ) → at < length file → line_end rules (drop at file) ≡ 1 → Sought rules file size at (at + 1)
sought-lone rules file size at h e = field_at size file at rules h ∙ rw (closes-after rules file at e)

-- the 10 of a pair closes only what the pair closes
sought-pair : (rules : Rules) (file : List ℕ) (size at : ℕ) → at < length file → starts 10 (drop (at + 1) file) ≡ true → line_end rules (drop at file) ≡ 2
    → Sought rules file size at (at + 2)
unfolding is_terminate
sought-pair rules file size at h t e =
    let i : at + 1 < length file = starts-inside 10 (at + 1) file t in
    let b : get_or file (at + 1) 0 ≡ 10 = eqb-true (get_or file (at + 1) 0) 10 (sym (starts-in file (at + 1) 10 i) ∙ t) in
    let l : line_end rules (drop (at + 1) file) ≡ 1 = line-end-lone rules file (at + 1) i (ap is_terminate b) (rw b (and-false rules.pairs)) in
    let f : at + 1 + 1 ≡ at + 2 = omega arith in
    field_at size file at rules h
    ∙ rw (closes-after-pair rules file at e, sought-lone rules file size (at + 1) i l, f)
    (go (starts 59 (drop (at + 2) file)))
  where
    go : (s : Bool) → cond s at (cond s (at + 1) (end_of size (at + 2) (field rules (drop (at + 2) file)))) ≡ cond s at (end_of size (at + 2) (field rules (drop (at + 2) file)))
    go true = refl
    go false = refl

pub field-line : (rules : Rules) (file : List ℕ) (size at : ℕ) → at < length file → is_terminate (get_or file at 0) ≡ true
    → Sought rules file size at (at + line_end rules (drop at file))
field-line rules file size at h e = go (rules.pairs && (eqb (get_or file at 0) 13 && starts 10 (drop (at + 1) file))) refl
  where
    go : (p : Bool) → (rules.pairs && (eqb (get_or file at 0) 13 && starts 10 (drop (at + 1) file))) ≡ p → Sought rules file size at (at + line_end rules (drop at file))
    go true q =
        let l : line_end rules (drop at file) ≡ 2 = line-end-pair rules file at h e q in
        rw l (sought-pair rules file size at h (both (eqb (get_or file at 0) 13) _ (both rules.pairs _ q).1).1 l)
    go false q =
        let l : line_end rules (drop at file) ≡ 1 = line-end-lone rules file at h e q in
        rw l (sought-lone rules file size at h l)
