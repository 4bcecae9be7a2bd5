-- The split with a lower limit of names and codes: each lexeme is the same or, for a longer name or code, refusal 4. So a file that splits gives the same tokens up to the first
-- that is longer, and a file that does not gives the same refusal or 4.
use mathlib.Core.Path.{◌≡◌, refl, ◌∙◌, ap}
use mathlib.Core.Bool.{Bool, true, false, cond, ◌&&◌}
use mathlib.Core.Logic.{◌⊎◌, inl, inr}
use mathlib.Core.List.{List, [], ◌∷◌, ◌++◌, map}
use mathlib.Core.Option.{Option, none, some}
use Prim.Native.Nat.{ℕ, zero, suc, ◌+◌, ◌≤◌}
use native.Mathlib.Omega.{arith}
use borrow.Author.Tests.{leb-true, le-leb}
use lib.Dec.{eqb, leb}
use lib.ListN.{length, drop}
use Rattle.star_text.specs.Outcome.{Outcome, refused, accepted, then, need}
use Rattle.star_text.specs.Bytes.{is_terminate, is_white, first_refused}
use Rattle.star_text.proofs.Cases.{impossible, both}
use Rattle.star_text.proofs.Outcome.{need-true, need-accepted}
use Rattle.star_lex.specs.Rules.{Rules, at_longest}
use Rattle.star_lex.specs.Tokens.{Token, Placed, Each, data_word, save_word, loop_word, stop_word, global_word}
use Rattle.star_lex.specs.Fits.{is_limited, fits, all_fit}
use Rattle.star_lex.specs.Split.{Lexeme, gap, token, faulty, Split, after, either, white_next, line_end, closes, close_length, field, limited, block_word, frame_word, alone, name_word, reference_word, word_lexeme, word_from, quoted, quoted_lexeme, field_lexeme, lexeme, more_of, before, enter, split, tokens_by}
use Rattle.star_lex.proofs.Steps.{Steps, ends, within, passes, takes, before-accepted, accepted-steps}

-- a lexeme by the lower limit
abbrev at_most : ℕ → Lexeme → Lexeme
at_most most (gap more) = gap more
at_most most (token more t) = cond (fits most t) (token more t) (faulty 4)
at_most most (faulty n) = faulty n

-- the tokens of a file that splits, by the lower limit
abbrev pub cut : ℕ → List Placed → Split
cut most [] = accepted []
cut most (p ∷ ps) = cond (fits most p.token) (before p (cut most ps)) (refused 4 p.at)

-- a choice and a case, both by the lower limit
cond-lower : (most : ℕ) (t : Bool) (x y u v : Lexeme) → x ≡ at_most most u → y ≡ at_most most v → cond t x y ≡ at_most most (cond t u v)
cond-lower most true x y u v e f = e
cond-lower most false x y u v e f = f

either-lower : (most : ℕ) (o : Option (List ℕ)) (f g : List ℕ → Lexeme) (x y : Lexeme) → ((c : List ℕ) → f c ≡ at_most most (g c)) → x ≡ at_most most y
    → either o f x ≡ at_most most (either o g y)
unfolding either
either-lower most none f g x y h e = e
either-lower most (some c) f g x y h e = h c

-- what has no limit
alone-lower : (most more kind : ℕ) (word : List ℕ) → is_limited kind ≡ false → (bs : List ℕ) → alone more kind word bs ≡ at_most most (alone more kind word bs)
unfolding alone fits
alone-lower most more kind word e [] = rw e
alone-lower most more kind word e (b ∷ bs) = refl

reference-lower : (most more : ℕ) (bs : List ℕ) → reference_word more bs ≡ at_most most (reference_word more bs)
unfolding reference_word fits is_limited
reference-lower most more [] = refl
reference-lower most more (b ∷ bs) = refl

quoted-lower : (most kind : ℕ) → is_limited kind ≡ false → (o : Option (List ℕ)) → quoted_lexeme kind o ≡ at_most most (quoted_lexeme kind o)
unfolding quoted_lexeme fits
quoted-lower most kind e none = refl
quoted-lower most kind e (some c) = rw e

-- a token before what follows it, by the number of its bytes after the first
taken-cut : (most at more : ℕ) (t : Token) (rest : ℕ → Split) (ps : List Placed) → rest more ≡ cut most ps
    → enter at (at_most most (token more t)) (rest (more_of (at_most most (token more t)))) ≡ cut most (record { at = at; token = t } ∷ ps)
unfolding enter more_of
taken-cut most at more t rest ps e = by (fits most t)
  where
    by : (f : Bool) → enter at (cond f (token more t) (faulty 4)) (rest (more_of (cond f (token more t) (faulty 4)))) ≡ cond f (before (record { at = at; token = t }) (cut most ps)) (refused 4 at)
    by true = ap (before (record { at = at; token = t })) e
    by false = refl

-- the same, or refusal 4
abbrev pub SameOrFour : {A : Type 0} → Outcome A → Outcome A → Type 0
SameOrFour low high = (low ≡ high) ⊎ ((place : ℕ) × (low ≡ refused 4 place))

before-lower : (p : Placed) (low high : Split) → SameOrFour low high → SameOrFour (before p low) (before p high)
unfolding before then
before-lower p low high (inl e) = inl (ap (before p) e)
before-lower p low high (inr (place, e)) = inr (place, rw e)

entered-lower : (most at : ℕ) (low high : ℕ → Split) → ((more : ℕ) → SameOrFour (low more) (high more)) → (l : Lexeme)
    → SameOrFour (enter at (at_most most l) (low (more_of (at_most most l)))) (enter at l (high (more_of l)))
unfolding enter more_of
entered-lower most at low high h (gap more) = h more
entered-lower most at low high h (token more t) = by (fits most t)
  where
    by : (f : Bool) → SameOrFour (enter at (cond f (token more t) (faulty 4)) (low (more_of (cond f (token more t) (faulty 4))))) (before (record { at = at; token = t }) (high more))
    by true = before-lower (record { at = at; token = t }) (low more) (high more) (h more)
    by false = inr (at, refl)
entered-lower most at low high h (faulty n) = inl refl

text-lower : (most more : ℕ) (c : List ℕ) (closed : Bool)
    → cond closed (token more (record { kind = 11; content = c })) (faulty 6) ≡ at_most most (cond closed (token more (record { kind = 11; content = c })) (faulty 6))
unfolding fits is_limited
text-lower most more c true = refl
text-lower most more c false = refl

module _ (rules : Rules) (old : ℕ) (h : old ≤ rules.longest) where
  limited-lower : (more kind : ℕ) → is_limited kind ≡ true → (c : List ℕ) → limited (at_longest rules old) more kind c ≡ at_most old (limited rules more kind c)
  unfolding limited fits
  limited-lower more kind e c = by (leb (length c) old) refl
    where
      by : (t : Bool) → leb (length c) old ≡ t → limited (at_longest rules old) more kind c ≡ at_most old (limited rules more kind c)
      by true q = rw (q, le-leb (length c) rules.longest (omega (arith, leb-true (length c) old q)), e, q)
      by false q = over (leb (length c) rules.longest) refl
        where
          over : (t : Bool) → leb (length c) rules.longest ≡ t → limited (at_longest rules old) more kind c ≡ at_most old (limited rules more kind c)
          over true p = rw (q, p, e, q)
          over false p = rw (q, p)

  block-lower : (more : ℕ) (bs : List ℕ) → block_word (at_longest rules old) more bs ≡ at_most old (block_word rules more bs)
  unfolding block_word is_limited
  block-lower more [] = refl
  block-lower more (b ∷ bs) = limited-lower more 1 refl (b ∷ bs)

  frame-lower : (more : ℕ) (bs : List ℕ) → frame_word (at_longest rules old) more bs ≡ at_most old (frame_word rules more bs)
  unfolding frame_word fits is_limited
  frame-lower more [] = refl
  frame-lower more (b ∷ bs) = limited-lower more 2 refl (b ∷ bs)

  name-lower : (more : ℕ) (bs : List ℕ) → name_word (at_longest rules old) more bs ≡ at_most old (name_word rules more bs)
  unfolding name_word is_limited
  name-lower more [] = refl
  name-lower more (b ∷ bs) = limited-lower more 6 refl (95 ∷ b ∷ bs)

  word-lower : (more : ℕ) (w : List ℕ) → word_lexeme (at_longest rules old) more w ≡ at_most old (word_lexeme rules more w)
  unfolding word_lexeme fits is_limited
  word-lower more w =
      either-lower old (after data_word w) _ _ _ _ (block-lower more)
      (either-lower old (after save_word w) _ _ _ _ (frame-lower more)
      (either-lower old (after loop_word w) _ _ _ _ (alone-lower old more 4 loop_word refl)
      (either-lower old (after stop_word w) _ _ _ _ (alone-lower old more 5 stop_word refl)
      (either-lower old (after global_word w) _ _ _ _ (alone-lower old more 12 global_word refl)
      (either-lower old (after (95 ∷ []) w) _ _ _ _ (name-lower more)
      (either-lower old (after (36 ∷ []) w) _ _ _ _ (reference-lower old more) refl))))))

  -- line ends are the same
  line_end-lower : (bs : List ℕ) → line_end (at_longest rules old) bs ≡ line_end rules bs
  unfolding line_end
  line_end-lower [] = refl
  line_end-lower (b ∷ bs) = refl

  field-lower : (bs : List ℕ) → field (at_longest rules old) bs ≡ field rules bs
  unfolding field closes
  field-lower [] = refl
  field-lower (b ∷ bs) = rw (line_end-lower (b ∷ bs), field-lower bs)

  closed-lower : (o : Option (List ℕ)) (bs : List ℕ) → field_lexeme (at_longest rules old) o bs ≡ at_most old (field_lexeme rules o bs)
  unfolding field_lexeme close_length
  closed-lower none bs = refl
  closed-lower (some c) bs =
      let more : ℕ = length c + (line_end rules (drop (length c) bs) + 1) in
      rw (line_end-lower (drop (length c) bs)) (text-lower old more c (white_next (drop more bs)))

  text-field-lower : (bs : List ℕ) → field_lexeme (at_longest rules old) (field (at_longest rules old) bs) bs ≡ at_most old (field_lexeme rules (field rules bs) bs)
  text-field-lower bs = rw (field-lower bs) (closed-lower (field rules bs) bs)

  -- a lexeme
  lexeme-lower : (line : Bool) (b : ℕ) (bs : List ℕ) → lexeme (at_longest rules old) line b bs ≡ at_most old (lexeme rules line b bs)
  unfolding lexeme word_from is_limited
  lexeme-lower line b bs =
      cond-lower old (is_white b) _ _ _ _ refl
      (cond-lower old (eqb b 35) _ _ _ _ refl
      (cond-lower old (line && eqb b 59) _ _ _ _ (text-field-lower bs)
      (cond-lower old (eqb b 39) _ _ _ _ (quoted-lower old 9 refl (quoted 39 bs))
      (cond-lower old (eqb b 34) _ _ _ _ (quoted-lower old 10 refl (quoted 34 bs)) (word-lower _ _)))))

  -- a split that accepts
  steps-cut : {skip : ℕ} {line : Bool} {at : ℕ} {bs : List ℕ} {ps : List Placed} → Steps rules skip line at bs ps → split (at_longest rules old) skip line at bs ≡ cut old ps
  unfolding split enter more_of
  steps-cut ends = refl
  steps-cut (within s) = steps-cut s
  steps-cut (passes {line} {at} {b} {bs} {ps} more e s) = rw (lexeme-lower line b bs, e) (steps-cut s)
  steps-cut (takes {line} {at} {b} {bs} {ps} more t e s) =
      rw (lexeme-lower line b bs, e) (taken-cut old at more t (λ n. split (at_longest rules old) n (is_terminate b) (suc at) bs) ps (steps-cut s))

  -- the tokens of a file that splits
  pub tokens-cut : (file : List ℕ) (ps : List Placed) → tokens_by rules file ≡ accepted ps → tokens_by (at_longest rules old) file ≡ cut old ps
  unfolding tokens_by
  tokens-cut file ps e =
      let allowed : leb (length file) (first_refused file) ≡ true = (need-accepted (leb (length file) (first_refused file)) 2 _ _ ps e).0 in
      need-true 2 (first_refused file) _ allowed ∙ steps-cut (accepted-steps rules file ps e)

  -- any split
  split-lower : (skip : ℕ) (line : Bool) (at : ℕ) (bs : List ℕ) → SameOrFour (split (at_longest rules old) skip line at bs) (split rules skip line at bs)
  unfolding split
  split-lower skip line at [] = inl refl
  split-lower zero line at (b ∷ bs) =
      rw (lexeme-lower line b bs)
      (entered-lower old at (λ n. split (at_longest rules old) n (is_terminate b) (suc at) bs) (λ n. split rules n (is_terminate b) (suc at) bs)
      (λ n. split-lower n (is_terminate b) (suc at) bs) (lexeme rules line b bs))
  split-lower (suc skip) line at (b ∷ bs) = split-lower skip false (suc at) bs

  pub tokens-lower : (file : List ℕ) → SameOrFour (tokens_by (at_longest rules old) file) (tokens_by rules file)
  unfolding tokens_by need
  tokens-lower file = by (leb (length file) (first_refused file))
    where
      by : (t : Bool) → SameOrFour (cond t (split (at_longest rules old) 0 true 0 file) (refused 2 (first_refused file))) (cond t (split rules 0 true 0 file) (refused 2 (first_refused file)))
      by true = split-lower 0 true 0 file
      by false = inl refl

-- all tokens fit
pub cut_all : (most : ℕ) (ps : List Placed) → all_fit most (map (λ p. p.token) ps) ≡ true → cut most ps ≡ accepted ps
unfolding all_fit before then
cut_all most [] e = refl
cut_all most (p ∷ ps) e =
    let (f, g) = both (fits most p.token) (all_fit most (map (λ p. p.token) ps)) e in
    rw (f, cut_all most ps g)

-- and where not all do, the first that is longer
pub cut-first : (most : ℕ) (earlier : List Placed) (p : Placed) (later : List Placed) → Each (λ q. fits most q.token ≡ true) earlier → fits most p.token ≡ false
    → cut most (earlier ++ (p ∷ later)) ≡ refused 4 p.at
unfolding before then
cut-first most [] p later h e = rw e
cut-first most (q ∷ qs) p later h e = rw (h.0, cut-first most qs p later h.1 e)

-- what is accepted by the lower limit fits
pub cut-accepted : (most : ℕ) (ps qs : List Placed) → cut most ps ≡ accepted qs → all_fit most (map (λ p. p.token) ps) ≡ true
unfolding all_fit
cut-accepted most [] qs e = refl
cut-accepted most (p ∷ ps) qs e = by (fits most p.token) refl e (cut-accepted most ps)
  where
    by : (f : Bool) → fits most p.token ≡ f → cond f (before p (cut most ps)) (refused 4 p.at) ≡ accepted qs
        → ((rs : List Placed) → cut most ps ≡ accepted rs → all_fit most (map (λ p. p.token) ps) ≡ true)
        → (fits most p.token && all_fit most (map (λ p. p.token) ps)) ≡ true
    by true f d rest = let (rs, k, g) = before-accepted p (cut most ps) qs d in rw (f, rest rs k)
    by false f d rest = impossible cc
