-- The plain form of well_formed tokens splits into them again: at a token's first byte the rule of its kind is the first that fits, and it
-- stops at the token's last byte; the byte 10 after it ends the line, so that the next token begins at a line's start.
use mathlib.Core.Path.{◌≡◌, refl, sym, ◌∙◌, ap}
use mathlib.Core.Bool.{Bool, true, false, cond, not, ◌&&◌, and-true, and-false}
use mathlib.Core.List.{List, [], ◌∷◌, ◌++◌, map, flat_map, append_assoc, append-nil}
use mathlib.Core.Option.{none, some}
use Prim.Native.Nat.{ℕ, suc, ◌+◌, ◌≤◌}
use native.Mathlib.Nat.{add-suc, suc-add, add-zero, zero-add}
use native.Mathlib.Numerals.{add-one}
use native.Mathlib.Omega.{arith}
use borrow.Author.Tests.{le-leb, eqb-true}
use lib.Dec.{eqb}
use lib.ListN.{length, drop, length-append}
use lib.Seq.{drop-append_seam}
use Rattle.star_text.specs.Bytes.{is_blank, is_terminate, is_white, is_printable, is_allowed, all, first_refused}
use Rattle.star_lex.specs.Rules.{Rules, today}
use Rattle.star_lex.specs.Tokens.{Token, Placed, Each, opening, data_word, save_word, loop_word, stop_word, global_word}
use Rattle.star_text.specs.Outcome.{accepted, then, need}
use Rattle.star_lex.specs.Split.{token, after, starts, white_next, quoted, line_end, closes, close_length, field, limited, block_word, frame_word, alone, name_word, reference_word, either, word_lexeme, word_from, quoted_lexeme, field_lexeme, lexeme, more_of, before, enter, split, tokens_by, tokens_of}
use Rattle.star_lex.specs.Plain.{ends, newline, closing, indent, plain_token, plain_by, plain_of}
use Rattle.star_lex.proofs.Formed.{FormedBy, WellFormed, Ordinary, quotable, fieldable, block, frame, frame_end, loop, stop, name, word, reference, single, double, text, global}
use Rattle.star_text.proofs.Bytes.{eqb_comm, printable-not-white, printable-allowed, not-white-not-terminate, all_head, all_tail, all_append, all-cond, all-implies, run-append, run-all}
use Rattle.star_text.proofs.Cases.{both}
use Rattle.star_lex.proofs.Cases.{cond-by}
use Rattle.star_lex.proofs.Delimited.{quoted-append, field-append}

-- the split goes over bytes that belong to a lexeme already read
pub split-skip : (rules : Rules) (xs rest : List ℕ) (at : ℕ) → split rules (length xs) false at (xs ++ rest) ≡ split rules 0 false (at + length xs) rest
unfolding split
split-skip rules [] rest at = rw add-zero
split-skip rules (x ∷ xs) rest at = rw (add-suc, ← suc-add) (split-skip rules xs rest (suc at))

-- a token with its delimiters
abbrev body : (rules : Rules) → Token → List ℕ
body rules t = opening t.kind ++ (t.content ++ closing rules t.kind t.content)

-- at the first byte of a token before a line end, the split finds that token
record Reads (rules : Rules) (line : Bool) (t : Token) : Type 0 where
  first : ℕ
  others : List ℕ
  bytes : body rules t ≡ first ∷ others
  stays : is_terminate first ≡ false
  reads : (rest : List ℕ) → lexeme rules line first (others ++ 10 ∷ rest) ≡ token (length others) t

split-body : (rules : Rules) (line : Bool) (t : Token) (at : ℕ) (rest : List ℕ) → Reads rules line t
    → split rules 0 line at (body rules t ++ 10 ∷ rest) ≡ before (record { at = at; token = t }) (split rules 0 true (suc (at + length (body rules t))) rest)
unfolding split enter more_of lexeme is_white is_blank is_terminate
split-body rules line t at rest r = rw r.bytes (rw (r.reads rest, r.stays) (rw (split-skip rules r.others (10 ∷ rest) (suc at), add-suc, suc-add)))

-- a word's first byte opens nothing else
record Opens (line : Bool) (b : ℕ) : Type 0 where
  no-white : is_white b ≡ false
  no-comment : eqb b 35 ≡ false
  no_text : (line && eqb b 59) ≡ false
  no-quote : eqb b 39 ≡ false
  no-double : eqb b 34 ≡ false

lexeme-word : (rules : Rules) (line : Bool) (b : ℕ) (xs rest : List ℕ) → Opens line b → all is_printable xs ≡ true
    → lexeme rules line b (xs ++ 10 ∷ rest) ≡ word_lexeme rules (length xs) (b ∷ xs)
unfolding lexeme word_from is_white is_blank is_terminate
lexeme-word rules line b xs rest o e =
    rw (
      o.no-white,
      o.no-comment,
      o.no_text,
      o.no-quote,
      o.no-double,
      run-append (λ c. not (is_white c)) xs 10 rest (all-implies is_printable (λ c. not (is_white c)) (λ c q. ap not (printable-not-white c q)) xs e) refl,
    )

reads_word : (rules : Rules) (line : Bool) (b : ℕ) (xs : List ℕ) (t : Token) → Opens line b → all is_printable xs ≡ true → body rules t ≡ b ∷ xs
    → word_lexeme rules (length xs) (b ∷ xs) ≡ token (length xs) t → Reads rules line t
reads_word rules line b xs t o e h k = record {
  first = b;
  others = xs;
  bytes = h;
  stays = not-white-not-terminate b o.no-white;
  reads = λ rest. lexeme-word rules line b xs rest o e ∙ k;
}

reads-block : (rules : Rules) (x : ℕ) (xs : List ℕ) → all is_printable (x ∷ xs) ≡ true → length (x ∷ xs) ≤ rules.longest
    → Reads rules true (record { kind = 1; content = x ∷ xs })
unfolding opening closing data_word word_lexeme either after block_word limited is_white is_blank is_terminate all is_printable
reads-block rules x xs e h =
    reads_word rules true 100 (97 ∷ 116 ∷ 97 ∷ 95 ∷ x ∷ xs) _ (search) e (rw append-nil) (rw (le-leb (length (x ∷ xs)) rules.longest h))

reads-frame : (rules : Rules) (x : ℕ) (xs : List ℕ) → all is_printable (x ∷ xs) ≡ true → length (x ∷ xs) ≤ rules.longest
    → Reads rules true (record { kind = 2; content = x ∷ xs })
unfolding opening closing data_word save_word word_lexeme either after frame_word limited is_white is_blank is_terminate all is_printable
reads-frame rules x xs e h =
    reads_word rules true 115 (97 ∷ 118 ∷ 101 ∷ 95 ∷ x ∷ xs) _ (search) e (rw append-nil) (rw (le-leb (length (x ∷ xs)) rules.longest h))

reads-frame-end : (rules : Rules) → Reads rules true (record { kind = 3; content = save_word })
unfolding opening closing data_word save_word word_lexeme either after frame_word is_white is_blank is_terminate all is_printable
reads-frame-end rules = reads_word rules true 115 (97 ∷ 118 ∷ 101 ∷ 95 ∷ []) _ (search) refl refl refl

reads-loop : (rules : Rules) → Reads rules true (record { kind = 4; content = loop_word })
unfolding opening closing data_word save_word loop_word word_lexeme either after alone is_white is_blank is_terminate all is_printable
reads-loop rules = reads_word rules true 108 (111 ∷ 111 ∷ 112 ∷ 95 ∷ []) _ (search) refl refl refl

reads-stop : (rules : Rules) → Reads rules true (record { kind = 5; content = stop_word })
unfolding opening closing data_word save_word loop_word stop_word word_lexeme either after alone is_white is_blank is_terminate all is_printable
reads-stop rules = reads_word rules true 115 (116 ∷ 111 ∷ 112 ∷ 95 ∷ []) _ (search) refl refl refl

reads-global : (rules : Rules) → Reads rules true (record { kind = 12; content = global_word })
unfolding opening closing data_word save_word loop_word stop_word global_word word_lexeme either after alone is_white is_blank is_terminate all is_printable
reads-global rules = reads_word rules true 103 (108 ∷ 111 ∷ 98 ∷ 97 ∷ 108 ∷ 95 ∷ []) _ (search) refl refl refl

reads-name : (rules : Rules) (x : ℕ) (xs : List ℕ) → all is_printable (x ∷ xs) ≡ true → length (95 ∷ x ∷ xs) ≤ rules.longest
    → Reads rules true (record { kind = 6; content = 95 ∷ x ∷ xs })
unfolding opening closing data_word save_word loop_word stop_word global_word word_lexeme either after name_word limited is_white is_blank is_terminate
reads-name rules x xs e h =
    reads_word rules true 95 (x ∷ xs) _ (search) e (rw append-nil) (rw (le-leb (length (95 ∷ x ∷ xs)) rules.longest h))

reads-reference : (rules : Rules) (x : ℕ) (xs : List ℕ) → all is_printable (x ∷ xs) ≡ true → Reads rules true (record { kind = 8; content = x ∷ xs })
unfolding opening closing data_word save_word loop_word stop_word global_word word_lexeme either after reference_word is_white is_blank is_terminate
reads-reference rules x xs e =
    reads_word rules true 36 (x ∷ xs) _ (search) e (rw append-nil) refl

word_lexeme-ordinary : (rules : Rules) (more x : ℕ) (xs : List ℕ) → Ordinary x xs → word_lexeme rules more (x ∷ xs) ≡ token more (record { kind = 7; content = x ∷ xs })
unfolding word_lexeme either after reference_word
word_lexeme-ordinary rules more x xs o =
    rw (o.no-data, o.no-save, o.no_loop, o.no_stop, o.no-global, eqb_comm 95 x, o.no_name, eqb_comm 36 x) (go (eqb x 36) refl)
  where
    go : (t : Bool) → eqb x 36 ≡ t → either (cond t (some xs) none) (reference_word more) (token more (record { kind = 7; content = x ∷ xs })) ≡ token more (record { kind = 7; content = x ∷ xs })
    go true q = rw (o.no-reference q, eqb-true x 36 q)
    go false q = refl

reads-ordinary : (rules : Rules) (line : Bool) (x : ℕ) (xs : List ℕ) → all is_printable (x ∷ xs) ≡ true → Ordinary x xs → (line && eqb x 59) ≡ false
    → Reads rules line (record { kind = 7; content = x ∷ xs })
unfolding opening closing
reads-ordinary rules line x xs e o n =
    reads_word rules line x xs _
    (record {
      no-white = printable-not-white x (all_head is_printable x xs e);
      no-comment = o.no-comment;
      no_text = n;
      no-quote = o.no-quote;
      no-double = o.no-double;
    }) (all_tail is_printable x xs e) (rw append-nil) (word_lexeme-ordinary rules (length xs) x xs o)

quoted_lexeme-append : (kind q : ℕ) (c rest : List ℕ) → is_white q ≡ false → quotable q c ≡ true
    → quoted_lexeme kind (quoted q ((c ++ q ∷ []) ++ 10 ∷ rest)) ≡ token (length (c ++ q ∷ [])) (record { kind = kind; content = c })
unfolding quoted_lexeme
quoted_lexeme-append kind q c rest w e = rw (append_assoc, quoted-append q c rest w e, length-append, add-one)

reads-single : (rules : Rules) (c : List ℕ) → quotable 39 c ≡ true → Reads rules true (record { kind = 9; content = c })
unfolding opening closing lexeme is_white is_blank is_terminate
reads-single rules c e = record {
  first = 39;
  others = c ++ 39 ∷ [];
  bytes = refl;
  stays = refl;
  reads = λ rest. quoted_lexeme-append 9 39 c rest refl e;
}

reads-double : (rules : Rules) (c : List ℕ) → quotable 34 c ≡ true → Reads rules true (record { kind = 10; content = c })
unfolding opening closing lexeme is_white is_blank is_terminate
reads-double rules c e = record {
  first = 34;
  others = c ++ 34 ∷ [];
  bytes = refl;
  stays = refl;
  reads = λ rest. quoted_lexeme-append 10 34 c rest refl e;
}

-- what the writer puts after a text field's content closes it, and makes no pair with the content's last byte
newline-closes : (rules : Rules) (c rest : List ℕ) → closes rules (newline rules c ++ 59 ∷ rest) ≡ true
unfolding newline closes line_end starts is_terminate
newline-closes rules c rest =
    cond-by (λ z. closes rules (z ++ 59 ∷ rest) ≡ true) (rules.pairs && ends 13 c) _ _
    (λ e. rw (both rules.pairs (ends 13 c) e).0)
    (λ e. rw (and-false rules.pairs))

newline-apart : (rules : Rules) (c rest : List ℕ) → (rules.pairs && (ends 13 c && starts 10 (newline rules c ++ rest))) ≡ false
unfolding newline starts
newline-apart rules c rest =
    cond-by (λ z. (rules.pairs && (ends 13 c && starts 10 (z ++ rest))) ≡ false) (rules.pairs && ends 13 c) _ _
    (λ e. ap (λ t. rules.pairs && t) (and-false (ends 13 c)) ∙ and-false rules.pairs)
    (λ e. rw (and-true (ends 13 c), e))

newline-length : (rules : Rules) (c rest : List ℕ) → close_length rules (newline rules c ++ 59 ∷ rest) ≡ length (newline rules c ++ 59 ∷ [])
unfolding newline close_length line_end starts is_terminate
newline-length rules c rest =
    cond-by (λ z. close_length rules (z ++ 59 ∷ rest) ≡ length (z ++ 59 ∷ [])) (rules.pairs && ends 13 c) _ _
    (λ e. rw (both rules.pairs (ends 13 c) e).0)
    (λ e. rw (and-false rules.pairs))

field_lexeme-append : (rules : Rules) (c rest : List ℕ) → fieldable rules c ≡ true
    → field_lexeme rules (field rules ((c ++ (newline rules c ++ 59 ∷ [])) ++ 10 ∷ rest)) ((c ++ (newline rules c ++ 59 ∷ [])) ++ 10 ∷ rest)
    ≡ token (length (c ++ (newline rules c ++ 59 ∷ []))) (record { kind = 11; content = c })
unfolding field_lexeme white_next is_white is_blank is_terminate
field_lexeme-append rules c rest e =
    let close : List ℕ = newline rules c ++ 59 ∷ [] in
    let s : (c ++ close) ++ 10 ∷ rest ≡ c ++ (newline rules c ++ 59 ∷ 10 ∷ rest) = simp append_assoc in
    let f : field rules (c ++ (newline rules c ++ 59 ∷ 10 ∷ rest)) ≡ some c = field-append rules c (newline rules c ++ 59 ∷ 10 ∷ rest) (newline-closes rules c (10 ∷ rest)) (newline-apart rules c (59 ∷ 10 ∷ rest)) e in
    let n : length c + close_length rules (drop (length c) (c ++ (newline rules c ++ 59 ∷ 10 ∷ rest))) ≡ length (c ++ close)
    = rw (drop-append_seam c (newline rules c ++ 59 ∷ 10 ∷ rest), newline-length rules c (10 ∷ rest), length-append c close) in
    let w : drop (length (c ++ close)) (c ++ (newline rules c ++ 59 ∷ 10 ∷ rest)) ≡ 10 ∷ rest = ap (drop (length (c ++ close))) (sym s) ∙ drop-append_seam (c ++ close) (10 ∷ rest) in
    rw (s, f, n, w)

reads-text : (rules : Rules) (c : List ℕ) → fieldable rules c ≡ true → Reads rules true (record { kind = 11; content = c })
unfolding opening closing lexeme is_white is_blank is_terminate
reads-text rules c e = record {
  first = 59;
  others = c ++ (newline rules c ++ 59 ∷ []);
  bytes = refl;
  stays = refl;
  reads = λ rest. field_lexeme-append rules c rest e;
}

-- a token's bytes stand at the line's start or after one blank, and are read there
data Stands (rules : Rules) (t : Token) : Type 0 where
  bare : indent t ≡ [] → Reads rules true t → Stands rules t
  indented : indent t ≡ 32 ∷ [] → Reads rules false t → Stands rules t

stands : (rules : Rules) {t : Token} → FormedBy rules t → Stands rules t
unfolding indent starts
stands rules (block x xs e h) = bare refl (reads-block rules x xs e h)
stands rules (frame x xs e h) = bare refl (reads-frame rules x xs e h)
stands rules frame_end = bare refl (reads-frame-end rules)
stands rules loop = bare refl (reads-loop rules)
stands rules stop = bare refl (reads-stop rules)
stands rules (name x xs e h) = bare refl (reads-name rules x xs e h)
stands rules (word x xs e o) = go (eqb x 59) refl
  where
    go : (t : Bool) → eqb x 59 ≡ t → Stands rules (record { kind = 7; content = x ∷ xs })
    go true q = indented (rw q) (reads-ordinary rules false x xs e o refl)
    go false q = bare (rw q) (reads-ordinary rules true x xs e o q)
stands rules (reference x xs e) = bare refl (reads-reference rules x xs e)
stands rules (single c a e) = bare refl (reads-single rules c e)
stands rules (double c a e) = bare refl (reads-double rules c e)
stands rules (text c a e) = bare refl (reads-text rules c e)
stands rules global = bare refl (reads-global rules)

plain_token-append : (rules : Rules) (t : Token) (rest : List ℕ) → plain_token rules t ++ rest ≡ indent t ++ (body rules t ++ 10 ∷ rest)
unfolding plain_token
plain_token-append rules t rest = simp append_assoc

length-plainToken : (rules : Rules) (t : Token) → length (plain_token rules t) ≡ length (indent t) + suc (length (body rules t))
unfolding plain_token
length-plainToken rules t = simp length-append (omega arith)

-- a token's plain form at a line's start: its first byte comes after what indents it
split_plain : (rules : Rules) (t : Token) (at : ℕ) (rest : List ℕ) → Stands rules t
    → split rules 0 true at (plain_token rules t ++ rest)
    ≡ before (record { at = at + length (indent t); token = t }) (split rules 0 true (at + length (plain_token rules t)) rest)
unfolding split enter more_of lexeme is_white is_blank is_terminate
split_plain rules t at rest (bare e r) = rw (plain_token-append, length-plainToken, e) (rw (split-body rules true t at rest r, add-zero, zero-add, add-suc))
split_plain rules t at rest (indented e r) =
    let q : suc (suc at + length (body rules t)) ≡ at + (1 + suc (length (body rules t))) = omega arith in
    rw (plain_token-append, length-plainToken, e) (rw (split-body rules false t (suc at) rest r, q, add-one))

split-plainOf : (rules : Rules) (ts : List Token) (at : ℕ) → Each (FormedBy rules) ts
    → (ps : List Placed) × (split rules 0 true at (plain_by rules ts) ≡ accepted ps) × (map (λ p. p.token) ps ≡ ts)
unfolding plain_by flat_map split before then
split-plainOf rules [] at ws = ([], refl, refl)
split-plainOf rules (t ∷ ts) at ws =
    let (ps, e, h) = split-plainOf rules ts (at + length (plain_token rules t)) ws.1 in
    (record { at = at + length (indent t); token = t } ∷ ps, rw (split_plain rules t at (plain_by rules ts) (stands rules ws.0), e), rw h)

printables-allowed : (xs : List ℕ) → all is_printable xs ≡ true → all is_allowed xs ≡ true
printables-allowed = all-implies is_printable is_allowed printable-allowed

allowed-content : (rules : Rules) {t : Token} → FormedBy rules t → all is_allowed t.content ≡ true
unfolding all is_allowed save_word loop_word stop_word global_word
allowed-content rules (block x xs e h) = printables-allowed (x ∷ xs) e
allowed-content rules (frame x xs e h) = printables-allowed (x ∷ xs) e
allowed-content rules frame_end = refl
allowed-content rules loop = refl
allowed-content rules stop = refl
allowed-content rules (name x xs e h) = printables-allowed (x ∷ xs) e
allowed-content rules (word x xs e o) = printables-allowed (x ∷ xs) e
allowed-content rules (reference x xs e) = printables-allowed (x ∷ xs) e
allowed-content rules (single c a e) = a
allowed-content rules (double c a e) = a
allowed-content rules (text c a e) = a
allowed-content rules global = refl

allowed-opening : (kind : ℕ) → all is_allowed (opening kind) ≡ true
unfolding opening all is_allowed data_word save_word
allowed-opening kind = search (all-cond is_allowed) depth 8

allowed-newline : (rules : Rules) (content : List ℕ) → all is_allowed (newline rules content ++ 59 ∷ []) ≡ true
unfolding newline all is_allowed
allowed-newline rules content = cond-by (λ z. all is_allowed (z ++ 59 ∷ []) ≡ true) (rules.pairs && ends 13 content) _ _ (λ e. refl) (λ e. refl)

allowed-closing : (rules : Rules) (kind : ℕ) (content : List ℕ) → all is_allowed (closing rules kind content) ≡ true
unfolding closing all is_allowed
allowed-closing rules kind content = search (all-cond is_allowed, allowed-newline rules content) depth 8

allowed-indent : (t : Token) → all is_allowed (indent t) ≡ true
unfolding indent all is_allowed
allowed-indent t = search (all-cond is_allowed) depth 8

allowed-plain : (rules : Rules) {t : Token} → FormedBy rules t → all is_allowed (plain_token rules t) ≡ true
unfolding plain_token all is_allowed
allowed-plain rules {t} w = simp (all_append is_allowed, allowed-indent t, allowed-opening t.kind, allowed-content rules w, allowed-closing rules t.kind t.content)

allowed-plainOf : (rules : Rules) (ts : List Token) → Each (FormedBy rules) ts → all is_allowed (plain_by rules ts) ≡ true
unfolding plain_by flat_map all
allowed-plainOf rules [] ws = refl
allowed-plainOf rules (t ∷ ts) ws = rw (all_append is_allowed, allowed-plain rules ws.0, allowed-plainOf rules ts ws.1)

pub lex-plain-by : (rules : Rules) (ts : List Token) → Each (FormedBy rules) ts → (ps : List Placed) × (tokens_by rules (plain_by rules ts) ≡ accepted ps) × (map (λ p. p.token) ps ≡ ts)
unfolding tokens_by first_refused need
lex-plain-by rules ts ws =
    let (ps, e, h) = split-plainOf rules ts 0 ws in
    (ps, rw (run-all is_allowed (plain_by rules ts) (allowed-plainOf rules ts ws), le-leb (length (plain_by rules ts)) (length (plain_by rules ts)) (omega arith)) e, h)

pub lex-plain : (ts : List Token) → Each WellFormed ts → (ps : List Placed) × (tokens_of (plain_of ts) ≡ accepted ps) × (map (λ p. p.token) ps ≡ ts)
lex-plain = lex-plain-by today
