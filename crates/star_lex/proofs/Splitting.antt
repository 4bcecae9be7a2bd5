-- The split, seen from a place of the file: the lexeme that stands there, and the split from behind it. A lexeme lies within the file.
use mathlib.Core.Path.{◌≡◌, refl, sym, ◌∙◌, ap, subst}
use mathlib.Core.Bool.{Bool, true, false, not, ◌&&◌, or-true}
use mathlib.Core.List.{List, [], ◌∷◌, ◌++◌}
use mathlib.Core.Option.{Option, none, some}
use Prim.Native.Nat.{ℕ, zero, suc, ◌+◌, ◌-◌, ◌≤◌, ◌<◌, zero-le}
use native.Mathlib.Nat.{add-zero, add-suc, suc-add}
use native.Mathlib.Numerals.{add-one}
use native.Mathlib.Omega.{arith}
use lib.Dec.{eqb}
use lib.ListN.{length, get_or, drop, length-append, length-drop, drop_of_length-le}
use lib.Seq.{drop-cons, drop-drop, drop-append_seam}
use Rattle.star_rows.specs.Widths.{token_width}
use Rattle.star_rows.specs.Rows.{put_row, stored}
use Rattle.star_rows.proofs.Stored.{stored-none, stored_more}
use Rattle.star_text.specs.Bytes.{is_blank, is_terminate, is_white, leading}
use Rattle.star_text.proofs.Run.{run_length}
use Rattle.star_lex.specs.Rules.{today}
use Rattle.star_lex.specs.Tokens.{Token, Placed, opening, token_row}
use Rattle.star_text.specs.Outcome.{refused, accepted, then}
use Rattle.star_lex.specs.Split.{Lexeme, gap, token, faulty, Split, white_next, quoted, close_length, field, quoted_lexeme, field_lexeme, word_lexeme, word_from, lexeme, more_of, before, enter, split}
use Rattle.star_lex.specs.Answer.{Gap, Token as FoundToken, Fault, scanned_at}
use Rattle.star_lex.proofs.Cases.{impossible, cond-by}
use Rattle.star_lex.proofs.LineEnds.{closes-within}
use Rattle.star_lex.proofs.Delimited.{quoted-some, field-some}
use Rattle.star_lex.proofs.Lexing.{Shaped, word-shaped}

-- bytes that belong to a lexeme already read are passed over
split-skip-false : (n at : ℕ) (bs : List ℕ) → split today n false at bs ≡ split today 0 false (at + n) (drop n bs)
unfolding split
split-skip-false zero at bs = rw add-zero
split-skip-false (suc n) at [] = refl
split-skip-false (suc n) at (b ∷ bs) = rw (add-suc, ← suc-add) (split-skip-false n (suc at) bs)

split-skip : (n at : ℕ) (line : Bool) (bs : List ℕ) → (line ≡ true → n ≡ 0) → split today n line at bs ≡ split today 0 line (at + n) (drop n bs)
unfolding split
split-skip n at false bs h = split-skip-false n at bs
split-skip n at true bs h = rw (h refl, add-zero)

-- a terminate is a lexeme by itself
terminate-alone : (line : Bool) (b : ℕ) (bs : List ℕ) → is_terminate b ≡ true → more_of (lexeme today line b bs) ≡ 0
unfolding lexeme more_of is_white
terminate-alone line b bs e = rw (e, or-true)

drop_here : (file : List ℕ) (at : ℕ) → at < length file → drop at file ≡ get_or file at 0 ∷ drop (at + 1) file
drop_here file at h = drop-cons file at 0 h ∙ ap (λ n. get_or file at 0 ∷ drop n file) (sym (add-one at))

pub split_at : (file : List ℕ) (at : ℕ) (line : Bool) → at < length file
    → split today 0 line at (drop at file)
    ≡ enter at (lexeme today line (get_or file at 0) (drop (at + 1) file))
    (split today 0 (is_terminate (get_or file at 0)) (at + 1 + more_of (lexeme today line (get_or file at 0) (drop (at + 1) file)))
    (drop (at + 1 + more_of (lexeme today line (get_or file at 0) (drop (at + 1) file))) file))
unfolding split
split_at file at line h =
    let b : ℕ = get_or file at 0 in
    let n : ℕ = more_of (lexeme today line b (drop (at + 1) file)) in
    rw (drop_here file at h)
    (ap (enter at (lexeme today line b (drop (at + 1) file)))
    (ap (λ k. split today n (is_terminate b) k (drop (at + 1) file)) (sym (add-one at))
    ∙ split-skip n (at + 1) (is_terminate b) (drop (at + 1) file) (terminate-alone line b (drop (at + 1) file))
    ∙ ap (split today 0 (is_terminate b) (at + 1 + n)) (drop-drop n (at + 1) file)))

-- tokens before what follows them
abbrev pub all_before : List Placed → Split → Split
all_before [] s = s
all_before (p ∷ ps) s = before p (all_before ps s)

pub all-before-snoc : (ps : List Placed) (p : Placed) (s : Split) → all_before (ps ++ (p ∷ [])) s ≡ all_before ps (before p s)
all-before-snoc [] p s = refl
all-before-snoc (q ∷ ps) p s = ap (before q) (all-before-snoc ps p s)

pub all-before-refused : (ps : List Placed) (n place : ℕ) → all_before ps (refused n place) ≡ refused n place
unfolding before then
all-before-refused [] n place = refl
all-before-refused (p ∷ ps) n place = ap (before p) (all-before-refused ps n place)

pub all-before-accepted : (ps : List Placed) → all_before ps (accepted []) ≡ accepted ps
unfolding before then
all-before-accepted [] = refl
all-before-accepted (p ∷ ps) = ap (before p) (all-before-accepted ps)

-- a lexeme lies within the bytes that follow its first, and a fault is one of 3 to 6
abbrev pub Within : (size : ℕ) → Lexeme → Type 0
Within size (gap more) = more ≤ size
Within size (token more t) = (more ≤ size) × (length (opening t.kind) + length t.content ≤ suc more)
Within size (faulty n) = (3 ≤ n) × (n ≤ 6)

field-within : (bs : List ℕ) (o : Option (List ℕ)) → field today bs ≡ o → Within (length bs) (field_lexeme today o bs)
unfolding field_lexeme opening
field-within bs none e = (omega arith, omega arith)
field-within bs (some c) e =
    let (rest, s, u, v) = field-some today bs c e in
    let n : length bs ≡ length c + length rest = simp length-append at (ap length s) in
    let w = closes-within today rest u in
    let d : drop (length c) bs ≡ rest = ap (drop (length c)) s ∙ drop-append_seam c rest in
    rw d (cond-by (Within (length bs)) (white_next (drop (length c + close_length today rest) bs)) _ _ (λ q. (omega arith, omega arith)) (λ q. (omega arith, omega arith)))

quoted-within : (q kind : ℕ) (bs : List ℕ) (o : Option (List ℕ)) → is_white q ≡ false → length (opening kind) ≡ 1 → quoted q bs ≡ o
    → Within (length bs) (quoted_lexeme kind o)
unfolding quoted_lexeme
quoted-within q kind bs none w k e = (omega arith, omega arith)
quoted-within q kind bs (some c) w k e =
    let (rest, s, u) = quoted-some q bs c w e in
    let n : length bs ≡ length c + suc (length rest) = simp length-append at (ap length s) in
    (omega arith, omega arith)

run-within : (p : ℕ → Bool) (b : ℕ) (bs : List ℕ) → Within (length bs) (word_lexeme today (length (leading p bs)) (b ∷ leading p bs))
run-within p b bs = go (word_lexeme today (length w) (b ∷ w)) (word-shaped today (length w) (b ∷ w)) (run_length p bs)
  where
    w : List ℕ
    w = leading p bs

    go : (l : Lexeme) → Shaped (length w) (suc (length w)) l → length w ≤ length bs → Within (length bs) l
    go (gap m) h k = absurd h
    go (token m t) h k = (omega arith, omega arith)
    go (faulty n) h k = h

word-within : (b : ℕ) (bs : List ℕ) → Within (length bs) (word_from today b bs)
unfolding word_from
word-within b bs = run-within _ b bs

pub lexeme-within : (line : Bool) (b : ℕ) (bs : List ℕ) → Within (length bs) (lexeme today line b bs)
unfolding lexeme opening is_white is_blank is_terminate
lexeme-within line b bs =
    cond-by (Within n) (is_white b) _ _ (λ e. zero-le)
    (λ e. cond-by (Within n) (eqb b 35) _ _ (λ e. run_length (λ c. not (is_terminate c)) bs)
    (λ e. cond-by (Within n) (line && eqb b 59) _ _ (λ e. field-within bs (field today bs) refl)
    (λ e. cond-by (Within n) (eqb b 39) _ _ (λ e. quoted-within 39 9 bs (quoted 39 bs) refl refl refl)
    (λ e. cond-by (Within n) (eqb b 34) _ _ (λ e. quoted-within 34 10 bs (quoted 34 bs) refl refl refl) (λ e. word-within b bs)))))
  where
    n : ℕ
    n = length bs

before-refused : (p : Placed) (s : Split) (n place : ℕ) → before p s ≡ refused n place → s ≡ refused n place
unfolding before then
before-refused p (refused m q) n place e = e
before-refused p (accepted ps) n place e = impossible cc

-- a refusal of 3 to 6 at one of the places from here on
abbrev pub Faulty : (at size n place : ℕ) → Type 0
Faulty at size n place = (3 ≤ n) × (n ≤ 6) × (at ≤ place) × (place < at + size)

later-faulty : (at size n place : ℕ) → Faulty (suc at) size n place → Faulty at (suc size) n place
later-faulty at size n place h = (h.0, h.1, omega arith, omega arith)

enter-refused : (at size : ℕ) (l : Lexeme) → Within size l → (n place : ℕ) {rest : Split}
    → (rest ≡ refused n place → Faulty (suc at) size n place) → enter at l rest ≡ refused n place → Faulty at (suc size) n place
unfolding enter
enter-refused at size (gap more) w n place f e = later-faulty at size n place (f e)
enter-refused at size (token more t) w n place {rest} f e = later-faulty at size n place (f (before-refused _ rest n place e))
enter-refused at size (faulty m) w n place f e =
    let q : m ≡ n = cc in
    let r : at ≡ place = cc in
    (omega arith, omega arith, omega arith, omega arith)

-- the split refuses with 3 to 6 alone, at a byte of the file
pub split-refused : (skip : ℕ) (line : Bool) (at : ℕ) (bs : List ℕ) (n place : ℕ) → split today skip line at bs ≡ refused n place
    → Faulty at (length bs) n place
unfolding split
split-refused skip line at [] n place e = impossible cc
split-refused zero line at (b ∷ bs) n place e =
    enter-refused at (length bs) (lexeme today line b bs) (lexeme-within line b bs) n place
    (split-refused (more_of (lexeme today line b bs)) (is_terminate b) (suc at) bs n place) e
split-refused (suc skip) line at (b ∷ bs) n place e = later-faulty at (length bs) n place (split-refused skip false (suc at) bs n place e)

-- what is found tells the lexeme
gap_of : (at next : ℕ) (l : Lexeme) → scanned_at at l ≡ Gap next → (more : ℕ) × (l ≡ gap more) × (next ≡ at + 1 + more)
unfolding scanned_at
gap_of at next (gap m) e = (m, refl, cc)
gap_of at next (token m t) e = impossible cc
gap_of at next (faulty n) e = impossible cc

record TokenFound (at k start end next : ℕ) (l : Lexeme) : Type 0 where
  more : ℕ
  found : Token
  is : l ≡ token more found
  row : k ∷ start ∷ end ∷ [] ≡ token_row (record { at = at; token = found })
  past : next ≡ at + 1 + more
  ends : end ≡ start + length found.content
  begins : start ≡ at + length (opening found.kind)

token-of : (at k start end next : ℕ) (l : Lexeme) → scanned_at at l ≡ FoundToken k start end next → TokenFound at k start end next l
unfolding scanned_at token_row
token-of at k start end next (gap m) e = impossible cc
token-of at k start end next (token m t) e =
    let a : t.kind ≡ k = cc in
    let b : at + length (opening t.kind) ≡ start = cc in
    let d : at + length (opening t.kind) + length t.content ≡ end = cc in
    let f : at + 1 + m ≡ next = cc in
    record { more = m; found = t; is = refl; row = cc; past = sym f; ends = cc; begins = sym b }
token-of at k start end next (faulty n) e = impossible cc

fault-of : (at n : ℕ) (l : Lexeme) → scanned_at at l ≡ Fault n → l ≡ faulty n
unfolding scanned_at
fault-of at n (gap m) e = impossible cc
fault-of at n (token m t) e = impossible cc
fault-of at n (faulty m) e = let q : m ≡ n = cc in ap faulty q

-- the tokens found so far, and what is left
pub record Progress (file table₀ table : List ℕ) (at count : ℕ) (line : Bool) : Type 0 where
  pub done : List Placed
  pub so_far : split today 0 true 0 file ≡ all_before done (split today 0 line at (drop at file))
  pub counted : count ≡ length done
  pub rows : table ≡ stored token_width token_row done table₀
  pub few : count ≤ at
  pub inside : at ≤ length file

pub row-wide : (p : Placed) → length (token_row p) ≡ token_width
unfolding token_row
row-wide p = refl

pub progress_start : (file table : List ℕ) → Progress file table table 0 0 true
progress_start file table = record {
  done = [];
  so_far = refl;
  counted = refl;
  rows = stored-none token_width token_row row-wide (omega arith) table;
  few = zero-le;
  inside = zero-le;
}

module _ {file table₀ table : List ℕ} {at count : ℕ} {line : Bool} (p : Progress file table₀ table at count line) (h : at < length file) where
  rest : List ℕ
  rest = drop (at + 1) file

  here : Lexeme
  here = lexeme today line (get_or file at 0) rest

  after-here : (l : Lexeme) → here ≡ l → split today 0 true 0 file
      ≡ all_before p.done (enter at l (split today 0 (is_terminate (get_or file at 0)) (at + 1 + more_of l) (drop (at + 1 + more_of l) file)))
  unfolding here rest
  after-here l e =
      p.so_far
      ∙ ap (all_before p.done) (split_at file at line h
      ∙ ap (λ m. enter at m (split today 0 (is_terminate (get_or file at 0)) (at + 1 + more_of m) (drop (at + 1 + more_of m) file))) e)

  room : (l : Lexeme) → here ≡ l → Within (length file - (at + 1)) l
  unfolding here rest
  room l e = subst (Within (length file - (at + 1))) e (rw (length-drop (at + 1) file) at (lexeme-within line (get_or file at 0) rest))

  pub turn_gap : {next : ℕ} → scanned_at at (lexeme today line (get_or file at 0) (drop (at + 1) file)) ≡ Gap next
      → Progress file table₀ table next count (is_terminate (get_or file at 0)) × (at < next)
  unfolding here rest enter more_of
  turn_gap {next} e =
      let (m, q, r) = gap_of at next here e in
      let t : Bool = is_terminate (get_or file at 0) in (
        record {
          done = p.done;
          so_far = after-here (gap m) q ∙ ap (λ n. all_before p.done (split today 0 t n (drop n file))) (sym r);
          counted = p.counted;
          rows = p.rows;
          few = omega (arith, p.few);
          inside = omega (arith, room (gap m) q);
        },
        omega arith,
      )

  pub turn-token : {k start end next : ℕ} → scanned_at at (lexeme today line (get_or file at 0) (drop (at + 1) file)) ≡ FoundToken k start end next
      → Progress file table₀ (put_row (k ∷ start ∷ end ∷ []) count table) next (count + 1) (is_terminate (get_or file at 0))
      × (at < next) × (start ≤ length file) × (end ≤ length file)
  unfolding here rest enter more_of
  turn-token {k} {start} {end} {next} e =
      let f = token-of at k start end next here e in
      let t : Bool = is_terminate (get_or file at 0) in
      let q : Placed = record { at = at; token = f.found } in
      let w = room (token f.more f.found) f.is in (
        record {
          done = p.done ++ (q ∷ []);
          so_far =
              after-here (token f.more f.found) f.is
              ∙ sym (all-before-snoc p.done q _)
              ∙ ap (λ n. all_before (p.done ++ (q ∷ [])) (split today 0 t n (drop n file))) (sym f.past);
          counted = rw length-append (omega (arith, p.counted));
          rows =
              ap (λ r. put_row r count table) f.row
              ∙ ap (λ n. put_row (token_row q) n table) p.counted
              ∙ ap (put_row (token_row q) (length p.done)) p.rows
              ∙ sym (stored_more token_width token_row row-wide (omega arith) p.done q table₀);
          few = omega (arith, p.few, f.past);
          inside = omega (arith, w.0, f.past);
        },
        omega (arith, f.past),
        omega (arith, w.0, w.1, f.begins),
        omega (arith, w.0, w.1, f.begins, f.ends),
      )

  pub turn-fault : {n : ℕ} → scanned_at at (lexeme today line (get_or file at 0) (drop (at + 1) file)) ≡ Fault n → split today 0 true 0 file ≡ refused n at
  unfolding here rest enter
  turn-fault {n} e = after-here (faulty n) (fault-of at n here e) ∙ all-before-refused p.done n at

-- nothing is left
pub finished : {file table₀ table : List ℕ} {at count : ℕ} {line : Bool} (p : Progress file table₀ table at count line) → length file ≤ at
    → split today 0 true 0 file ≡ accepted p.done
unfolding split
finished {file} {at = at} {line = line} p h =
    p.so_far ∙ ap (λ r. all_before p.done (split today 0 line at r)) (drop_of_length-le file h) ∙ all-before-accepted p.done
