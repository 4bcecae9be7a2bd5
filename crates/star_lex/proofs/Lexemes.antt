-- What a token lexeme is: its bytes stand where it was read, and it is well formed, since each rule that gives a token has tested just
-- what the kind asks.
use mathlib.Core.Path.{◌≡◌, refl, sym, ◌∙◌, ap}
use mathlib.Core.Bool.{Bool, true, false, not, ◌&&◌, and-eq-true_iff, true≢false}
use mathlib.Core.List.{List, [], ◌∷◌, ◌++◌, append-nil, append_assoc}
use mathlib.Core.Option.{Option, none, some}
use Prim.Native.Nat.{ℕ, suc, ◌+◌, ◌≤◌}
use native.Mathlib.Omega.{arith}
use borrow.Author.Tests.{leb-true, eqb-true}
use lib.Dec.{eqb, leb}
use lib.ListN.{length, drop, length-append}
use Rattle.star_text.specs.Bytes.{is_blank, is_terminate, is_white, is_printable, is_allowed, all, leading}
use Rattle.star_lex.specs.Rules.{Rules}
use Rattle.star_lex.specs.Tokens.{Token, opening, data_word, save_word, loop_word, stop_word, global_word}
use Rattle.star_lex.specs.Split.{token, after, white_next, quoted, close_length, field, limited, block_word, frame_word, alone, name_word, reference_word, word_lexeme, word_from, quoted_lexeme, field_lexeme, lexeme}
use Rattle.star_lex.proofs.Formed.{FormedBy, Ordinary, quotable, block, frame, frame_end, loop, stop, name, word, reference, single, double, text, global}
use Rattle.star_text.proofs.Bytes.{eqb_comm, allowed-printable, all_head, all_tail, all_append, run-append-drop, all-printable-run}
use Rattle.star_lex.proofs.Cases.{impossible, cond_cases, either-cases}
use Rattle.star_lex.proofs.Words.{after-append}
use Rattle.star_lex.proofs.Delimited.{quoted-some, field-some}

-- a word's token: the word's bytes
record WordOf (rules : Rules) (more : ℕ) (w : List ℕ) (m : ℕ) (t : Token) : Type 0 where
  length-is : m ≡ more
  bytes : w ≡ opening t.kind ++ t.content
  formed : FormedBy rules t

limited-token : (rules : Rules) (more kind : ℕ) (c : List ℕ) (m : ℕ) (t : Token) → limited rules more kind c ≡ token m t
    → (m ≡ more) × (t ≡ record { kind = kind; content = c }) × (length c ≤ rules.longest)
unfolding limited
limited-token rules more kind c m t e =
    cond_cases (leb (length c) rules.longest) _ _ _ e (λ q h. (cc, cc, leb-true (length c) rules.longest q)) (λ q h. impossible cc)

block_word-token : (rules : Rules) (more : ℕ) (cs : List ℕ) (m : ℕ) (t : Token) → all is_printable (data_word ++ cs) ≡ true → block_word rules more cs ≡ token m t
    → WordOf rules more (data_word ++ cs) m t
unfolding block_word opening data_word all is_printable
block_word-token rules more [] m t p e = impossible cc
block_word-token rules more (x ∷ xs) m t p e =
    let (f, g, h) = limited-token rules more 1 (x ∷ xs) m t e in
    rw g (record { length-is = f; bytes = refl; formed = block x xs p h })

frame_word-token : (rules : Rules) (more : ℕ) (cs : List ℕ) (m : ℕ) (t : Token) → all is_printable (save_word ++ cs) ≡ true → frame_word rules more cs ≡ token m t
    → WordOf rules more (save_word ++ cs) m t
unfolding frame_word opening save_word all is_printable
frame_word-token rules more [] m t p e =
    let g : record { kind = 3; content = save_word } ≡ t = cc in
    rw (← g) (record { length-is = cc; bytes = refl; formed = frame_end })
frame_word-token rules more (x ∷ xs) m t p e =
    let (f, g, h) = limited-token rules more 2 (x ∷ xs) m t e in
    rw g (record { length-is = f; bytes = refl; formed = frame x xs p h })

alone-token : (rules : Rules) (more kind : ℕ) (w cs : List ℕ) (m : ℕ) (t : Token) → opening kind ≡ []
    → FormedBy rules (record { kind = kind; content = w }) → alone more kind w cs ≡ token m t → WordOf rules more (w ++ cs) m t
unfolding alone
alone-token rules more kind w [] m t o f e =
    let g : record { kind = kind; content = w } ≡ t = cc in
    rw (← g) (record { length-is = cc; bytes = rw (o, append-nil); formed = f })
alone-token rules more kind w (x ∷ xs) m t o f e = impossible cc

name_word-token : (rules : Rules) (more : ℕ) (cs : List ℕ) (m : ℕ) (t : Token) → all is_printable cs ≡ true → name_word rules more cs ≡ token m t
    → WordOf rules more (95 ∷ cs) m t
unfolding name_word opening
name_word-token rules more [] m t p e = impossible cc
name_word-token rules more (x ∷ xs) m t p e =
    let (f, g, h) = limited-token rules more 6 (95 ∷ x ∷ xs) m t e in
    rw g (record { length-is = f; bytes = refl; formed = name x xs p h })

reference_word-token : (rules : Rules) (more : ℕ) (cs : List ℕ) (m : ℕ) (t : Token) → all is_printable cs ≡ true → reference_word more cs ≡ token m t
    → WordOf rules more (36 ∷ cs) m t
unfolding reference_word opening all is_printable after data_word save_word loop_word stop_word global_word
reference_word-token rules more [] m t p e =
    let g : record { kind = 7; content = 36 ∷ [] } ≡ t = cc in
    let o : Ordinary 36 [] = search in
    rw (← g) (record { length-is = cc; bytes = refl; formed = word 36 [] refl o })
reference_word-token rules more (x ∷ xs) m t p e =
    let g : record { kind = 8; content = x ∷ xs } ≡ t = cc in
    rw (← g) (record { length-is = cc; bytes = refl; formed = reference x xs p })

after-one-none : (a x : ℕ) (xs : List ℕ) → after (a ∷ []) (x ∷ xs) ≡ none → eqb x a ≡ false
unfolding after
after-one-none a x xs e = rw (eqb_comm x a) (cond_cases (eqb a x) _ _ _ e (λ q h. impossible cc) (λ q h. q))

module _ (rules : Rules) (more x : ℕ) (xs : List ℕ) (m : ℕ) (t : Token) (p : all is_printable (x ∷ xs) ≡ true) where
  printable-after : (ps cs : List ℕ) → after ps (x ∷ xs) ≡ some cs → all is_printable (ps ++ cs) ≡ true
  printable-after ps cs e = rw (after-append ps (x ∷ xs) cs e) at p

  word_lexeme-token : eqb x 35 ≡ false → eqb x 39 ≡ false → eqb x 34 ≡ false → word_lexeme rules more (x ∷ xs) ≡ token m t → WordOf rules more (x ∷ xs) m t
  unfolding word_lexeme opening all is_printable
  word_lexeme-token no-comment no-quote no-double e =
      either-cases (after data_word (x ∷ xs)) (block_word rules more) _ _ e
      (λ cs q h. rw (after-append data_word (x ∷ xs) cs q) (block_word-token rules more cs m t (printable-after data_word cs q) h))
      (λ no-data e₁.
      either-cases (after save_word (x ∷ xs)) (frame_word rules more) _ _ e₁
      (λ cs q h. rw (after-append save_word (x ∷ xs) cs q) (frame_word-token rules more cs m t (printable-after save_word cs q) h))
      (λ no-save e₂.
      either-cases (after loop_word (x ∷ xs)) (alone more 4 loop_word) _ _ e₂
      (λ cs q h. rw (after-append loop_word (x ∷ xs) cs q) (alone-token rules more 4 loop_word cs m t refl loop h))
      (λ no_loop e₃.
      either-cases (after stop_word (x ∷ xs)) (alone more 5 stop_word) _ _ e₃
      (λ cs q h. rw (after-append stop_word (x ∷ xs) cs q) (alone-token rules more 5 stop_word cs m t refl stop h))
      (λ no_stop e₄.
      either-cases (after global_word (x ∷ xs)) (alone more 12 global_word) _ _ e₄
      (λ cs q h. rw (after-append global_word (x ∷ xs) cs q) (alone-token rules more 12 global_word cs m t refl global h))
      (λ no-global e₅.
      either-cases (after (95 ∷ []) (x ∷ xs)) (name_word rules more) _ _ e₅
      (λ cs q h. rw (after-append (95 ∷ []) (x ∷ xs) cs q) (name_word-token rules more cs m t (printable-after (95 ∷ []) cs q) h))
      (λ no_name e₆.
      either-cases (after (36 ∷ []) (x ∷ xs)) (reference_word more) _ _ e₆
      (λ cs q h. rw (after-append (36 ∷ []) (x ∷ xs) cs q) (reference_word-token rules more cs m t (printable-after (36 ∷ []) cs q) h))
      (λ no-reference e₇.
      let g : record { kind = 7; content = x ∷ xs } ≡ t = cc in
      let o : Ordinary x xs = record {
        no-comment = no-comment;
        no-quote = no-quote;
        no-double = no-double;
        no_name = after-one-none 95 x xs no_name;
        no-reference = λ h. absurd (true≢false (sym h ∙ after-one-none 36 x xs no-reference));
        no-data = no-data;
        no-save = no-save;
        no_loop = no_loop;
        no_stop = no_stop;
        no-global = no-global;
      } in
      rw (← g) (record { length-is = cc; bytes = refl; formed = word x xs p o }))))))))

-- a token at a place: its bytes stand there
pub record TokenAt (rules : Rules) (b : ℕ) (bs : List ℕ) (more : ℕ) (t : Token) : Type 0 where
  pub rest : List ℕ
  pub bytes : b ∷ bs ≡ opening t.kind ++ (t.content ++ rest)
  pub within : length (opening t.kind) + length t.content ≤ suc more
  pub formed : FormedBy rules t

allowed-part : (b : ℕ) (bs c rest : List ℕ) → bs ≡ c ++ rest → all is_allowed (b ∷ bs) ≡ true → all is_allowed c ≡ true
allowed-part b bs c rest s a =
    ((and-eq-true_iff (all is_allowed c) (all is_allowed rest)).0 (rw (s, all_append is_allowed c rest) at (all_tail is_allowed b bs a))).0

field_lexeme-token : (rules : Rules) (b : ℕ) (bs : List ℕ) (more : ℕ) (t : Token) → b ≡ 59 → all is_allowed (b ∷ bs) ≡ true
    → field_lexeme rules (field rules bs) bs ≡ token more t → TokenAt rules b bs more t
unfolding field_lexeme opening
field_lexeme-token rules b bs more t n a e = go (field rules bs) refl e
  where
    go : (o : Option (List ℕ)) → field rules bs ≡ o → field_lexeme rules o bs ≡ token more t → TokenAt rules b bs more t
    go none q h = impossible cc
    go (some c) q h =
        cond_cases (white_next (drop (length c + close_length rules (drop (length c) bs)) bs)) _ _ _ h
        (λ w g.
        let (rest, s, u, l) = field-some rules bs c q in
        let r : record { kind = 11; content = c } ≡ t = cc in
        let v : length c + close_length rules (drop (length c) bs) ≡ more = cc in
        rw (← r, n) (record {
          rest = rest;
          bytes = ap (λ r. 59 ∷ r) s;
          within = omega arith;
          formed = text c (allowed-part b bs c rest s a) l;
        }))
        (λ w g. impossible cc)

quoted_lexeme-token : (rules : Rules) (kind q b : ℕ) (bs : List ℕ) (more : ℕ) (t : Token) → b ≡ q → is_white q ≡ false → opening kind ≡ q ∷ []
    → ((c : List ℕ) → all is_allowed c ≡ true → quotable q c ≡ true → FormedBy rules (record { kind = kind; content = c }))
    → all is_allowed (b ∷ bs) ≡ true → quoted_lexeme kind (quoted q bs) ≡ token more t → TokenAt rules b bs more t
unfolding quoted_lexeme
quoted_lexeme-token rules kind q b bs more t n w o f a e = go (quoted q bs) refl e
  where
    go : (o : Option (List ℕ)) → quoted q bs ≡ o → quoted_lexeme kind o ≡ token more t → TokenAt rules b bs more t
    go none q h = impossible cc
    go (some d) k h =
        let (rest, s, l) = quoted-some q bs d w k in
        let r : record { kind = kind; content = d } ≡ t = cc in
        let v : suc (length d) ≡ more = cc in
        rw (← r, n) (record {
          rest = q ∷ rest;
          bytes = rw o (ap (λ r. q ∷ r) s);
          within = rw o (omega arith);
          formed = f d (allowed-part b bs d (q ∷ rest) s a) l;
        })

word-token : (rules : Rules) (b : ℕ) (bs : List ℕ) (more : ℕ) (t : Token) → all is_allowed (b ∷ bs) ≡ true
    → is_white b ≡ false → eqb b 35 ≡ false → eqb b 39 ≡ false → eqb b 34 ≡ false
    → word_lexeme rules (length (leading (λ c. not (is_white c)) bs)) (b ∷ leading (λ c. not (is_white c)) bs) ≡ token more t → TokenAt rules b bs more t
unfolding all
word-token rules b bs more t a no-white no-comment no-quote no-double e =
    let w : List ℕ = leading (λ c. not (is_white c)) bs in
    let p : all is_printable (b ∷ w) ≡ true = rw (allowed-printable b (all_head is_allowed b bs a) no-white, all-printable-run bs (all_tail is_allowed b bs a)) in
    let o : WordOf rules (length w) (b ∷ w) more t = word_lexeme-token rules (length w) b w more t p no-comment no-quote no-double e in
    record {
      rest = drop (length w) bs;
      bytes =
          ap (λ r. b ∷ r) (run-append-drop (λ c. not (is_white c)) bs)
          ∙ (ap (λ r. r ++ drop (length w) bs) o.bytes ∙ append_assoc (opening t.kind) t.content (drop (length w) bs));
      within = omega (arith, o.length-is, simp length-append at (ap length o.bytes));
      formed = o.formed;
    }

pub lexeme-token : (rules : Rules) (line : Bool) (b : ℕ) (bs : List ℕ) (more : ℕ) (t : Token) → all is_allowed (b ∷ bs) ≡ true → lexeme rules line b bs ≡ token more t
    → TokenAt rules b bs more t
unfolding lexeme word_from is_white is_blank is_terminate opening
lexeme-token rules line b bs more t a e =
    cond_cases (is_white b) _ _ _ e (λ k h. impossible cc)
    (λ no-white e₁.
    cond_cases (eqb b 35) _ _ _ e₁ (λ k h. impossible cc)
    (λ no-comment e₂.
    cond_cases (line && eqb b 59) _ _ _ e₂
    (λ k h. field_lexeme-token rules b bs more t (eqb-true b 59 ((and-eq-true_iff line (eqb b 59)).0 k).1) a h)
    (λ k e₃.
    cond_cases (eqb b 39) _ _ _ e₃ (λ k h. quoted_lexeme-token rules 9 39 b bs more t (eqb-true b 39 k) refl refl single a h)
    (λ no-quote e₄.
    cond_cases (eqb b 34) _ _ _ e₄ (λ k h. quoted_lexeme-token rules 10 34 b bs more t (eqb-true b 34 k) refl refl double a h)
    (λ no-double e₅. word-token rules b bs more t a no-white no-comment no-quote no-double e₅)))))
