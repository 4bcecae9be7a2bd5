-- What an answer tells of the outcome. Reading's answer decides that of writing, with the length of the plain form; and from that answer follow the tables and the output. What is written of a reading is
-- said for any row that is made of its tokens: writing has the row itself, converting that of the other layout, and dropping header stops that without them.
use mathlib.Core.Path.{◌≡◌, refl, sym, ◌∙◌, ap, subst}
use mathlib.Core.Bool.{Bool, true, false, cond, ◌&&◌}
use mathlib.Core.List.{List, [], ◌++◌, flat_map}
use Prim.Native.Nat.{ℕ, ◌-◌, ◌*◌, ◌≤◌, ◌<◌}
use native.Mathlib.Nat.{sub-zero}
use native.Mathlib.Omega.{arith}
use borrow.Author.Tests.{leb-true, le-leb, lt-leb}
use lib.Dec.{leb}
use lib.ListN.{length, replicate}
use Rattle.std.specs.Prelude.{Result, Ok, Err, is_err}
use Rattle.star_text.specs.declared.refusal.Refusal.{Refusal}
use Rattle.star_text.proofs.Refusals.{number-some}
use Rattle.star_text.specs.Outcome.{refused, accepted, then, need}
use Rattle.star_text.proofs.Outcome.{accepted-same, need-accepted, need-refused, then-accepted, then-refused, NotZero}
use Rattle.star_text.specs.Bytes.{most_bytes}
use Rattle.star_text.proofs.Cases.{cond-by}
use Rattle.star_rows.specs.Widths.{token_width}
use Rattle.star_lex.specs.Rules.{layout_rules}
use Rattle.star_lex.specs.Tokens.{Token, Placed}
use Rattle.star_lex.specs.Plain.{plain_by, plain_of}
use Rattle.star_lex.proofs.Cases.{impossible}
use Rattle.star_grammar.specs.Tables.{Rows}
use Rattle.star_grammar.specs.Stopless.{drop_stops}
use Rattle.star_lex.specs.Holds.{Holds, file_tokens}
use Rattle.star_read.specs.Read.{FileRows, ReadOutcome, Sizes, tokens_only, read_in, read_old, Way, read_via, read_of}
use Rattle.star_read.specs.Answer.{read_answer, reading_of, Tables, sizes, Leaves}
use Rattle.star_read.specs.declared.Answer.{Answer}
use Rattle.star_read.proofs.Accepted.{number_in, answer-rows, answer-refused, tokens-are, number-via, tokens-via}
use Rattle.star_plain.specs.Kept.{kept_row, first_tokens, rows_taken, plain_in, room_with}
use Rattle.star_plain.proofs.Held.{held_plain}
use Rattle.star_write.specs.Write.{Writing, written, plain_fits, write_of, write_in, drop_of, writing_of}
use Rattle.star_write.specs.Answer.{bytes_of, output_of, write_answer, written_of, Leaving, Writes, WritesIn}
use Rattle.star_write.specs.declared.Written.{Written}
use Rattle.star_write.specs.declared.PlainForm.{PlainForm}

-- what is written after reading: the plain form of a row that is made of the tokens
abbrev pub writing_by : ReadOutcome → (row : List Token → List Token) → (room : ℕ) → Writing
writing_by o row room = then o (λ read. plain_fits room read (plain_of (row (tokens_only read.0))))

-- what was written: the file was accepted, and the plain form is within the size limit and the output
pub record Wrote (o : ReadOutcome) (row : List Token → List Token) (room : ℕ) (ps : List Placed) (rows : Rows) (plain : List ℕ) : Type 0 where
  pub reads : o ≡ accepted (ps, rows)
  pub plain_is : plain_of (row (tokens_only ps)) ≡ plain
  pub small : length plain ≤ most_bytes
  pub fits : length plain ≤ room

pub wrote_by : (o : ReadOutcome) (row : List Token → List Token) (room : ℕ) (ps : List Placed) (rows : Rows) (plain : List ℕ)
    → writing_by o row room ≡ written ps rows plain → Wrote o row room ps rows plain
unfolding plain_fits
wrote_by o row room ps rows plain e =
    let (read, reads, h) = then-accepted o _ ((ps, rows), plain) e in
    let p : List ℕ = plain_of (row (tokens_only read.0)) in
    let (s, k) = need-accepted (leb (length p) most_bytes) 1 0 _ _ h in
    let (r, q) = need-accepted (leb (length p) room) 7 6 _ _ k in
    let both : ◌≡◌ {A = FileRows × List ℕ} (read, p) ((ps, rows), plain) = accepted-same q in
    let is : p ≡ plain = ap (λ b. b.1) both in
    record {
      reads = reads ∙ ap (λ b. accepted b.0) both;
      plain_is = ap (λ b. plain_of (row (tokens_only b.0.0))) (sym both) ∙ is;
      small = omega (arith, leb-true (length p) most_bytes s, ap length is);
      fits = omega (arith, leb-true (length p) room r, ap length is);
    }

pub wrote : (file : List ℕ) (words : Sizes) (room : ℕ) (ps : List Placed) (rows : Rows) (plain : List ℕ)
    → write_of file words room ≡ written ps rows plain → Wrote (read_of file words) (λ ts. ts) room ps rows plain
unfolding write_of
wrote file words room ps rows plain e = wrote_by (read_of file words) (λ ts. ts) room ps rows plain e

pub dropped : (file : List ℕ) (words : Sizes) (room : ℕ) (ps : List Placed) (rows : Rows) (plain : List ℕ) → drop_of file words room ≡ written ps rows plain
    → Wrote (read_old file words) (drop_stops false) room ps rows plain
unfolding drop_of
dropped file words room ps rows plain e = wrote_by (read_old file words) (drop_stops false) room ps rows plain e

-- today's layout is layout 0
pub writes-today : (file : List ℕ) (before after : Tables) (room out : List ℕ) (r : Written) → WritesIn 0 file before after room out r → Writes file before after room out r
unfolding write_in write_of read_in layout_rules need
writes-today file before after room out r w = w

-- the answer of a written file by reading's counts and the size
abbrev pub counted : ℕ → Answer → Written
counted size r = record {
  refusal = 0;
  place = 0;
  length = size;
  tokens = r.tokens;
  sets = r.sets;
  names = r.names;
  packets = r.packets;
  values = r.values;
}

-- what is answered after reading's answer, where the plain form of a row that is made of the tokens is this
module _ (o : ReadOutcome) (row : List Token → List Token) (plain : List ℕ) (is : (ps : List Placed) (rows : Rows) → o ≡ accepted (ps, rows) → plain_of (row (tokens_only ps)) ≡ plain)
    (r : Answer) (e : r ≡ read_answer o) (room : ℕ) where
  refuses-by : (r.refusal ≡ 0 → ⊥) → writing_by o row room ≡ refused r.refusal r.place
  unfolding then
  refuses-by f = rw (answer-refused o r e f)

  module _ (f : NotZero o) (z : r.refusal ≡ 0) where
    accepts : (ps : List Placed) × (rows : Rows) × (o ≡ accepted (ps, rows))
    accepts = answer-rows o f r e z

    after-reading : writing_by o row room ≡ plain_fits room (accepts.0, accepts.1) plain
    unfolding then
    after-reading = ap (λ u. writing_by u row room) accepts.2 ∙ ap (plain_fits room (accepts.0, accepts.1)) (is accepts.0 accepts.1 accepts.2)

    too_long : most_bytes < length plain → writing_by o row room ≡ refused 1 0
    unfolding plain_fits need
    too_long h = rw (after-reading, lt-leb _ _ h)

    too_short : length plain ≤ most_bytes → room < length plain → writing_by o row room ≡ refused 7 6
    unfolding plain_fits need
    too_short h k = rw (after-reading, le-leb _ _ h, lt-leb _ _ k)

    fits-output : length plain ≤ most_bytes → length plain ≤ room → counted (length plain) r ≡ write_answer (writing_by o row room)
    unfolding plain_fits need write_answer reading_of bytes_of read_answer
    fits-output h k =
        let w : writing_by o row room ≡ written accepts.0 accepts.1 plain = rw (after-reading, le-leb _ _ h, le-leb _ _ k) in
        ap (counted (length plain)) (e ∙ ap read_answer accepts.2) ∙ sym (ap write_answer w)

-- a room with a plain form is the output where that is written, and else all 0
fits-room : (room : ℕ) (read : FileRows) (plain : List ℕ) → output_of (plain_fits room read plain) room ≡ room_with room plain
unfolding plain_fits need output_of bytes_of room_with
fits-room room read plain = by (leb (length plain) most_bytes) (leb (length plain) room)
  where
    by : (b c : Bool) → output_of (need b 1 0 (need c 7 6 (accepted (read, plain)))) room ≡ cond (b && c) (plain ++ replicate (room - length plain) 0) (replicate room 0)
    by true true = refl
    by true false = ap (λ n. replicate n 0) (sub-zero room)
    by false c = ap (λ n. replicate n 0) (sub-zero room)

-- of no rows nothing is written
none_rows : (without : Bool) (file words : List ℕ) → plain_in without file words 0 ≡ []
unfolding rows_taken first_tokens drop_stops plain_by flat_map
none_rows without file words = cond-by (λ (n : ℕ). plain_of (kept_row without (first_tokens file words n)) ≡ []) (leb (length file) most_bytes && (leb 0 most_bytes && leb (0 * token_width) (length words))) 0 0 (λ e. by without) (λ e. by without)
  where
    by : (b : Bool) → plain_of (kept_row b (first_tokens file words 0)) ≡ []
    by true = refl
    by false = refl

none-room : (room n place : ℕ) → room_with room [] ≡ output_of (refused n place) room
unfolding room_with output_of bytes_of
none-room room n place = rw (le-leb 0 room (omega arith))

-- the plain form of what is kept of the tokens that are read is that of the file's tokens
pub kept-via : (way : Way) (file : List ℕ) (words : Sizes) (without : Bool) (ps : List Placed) (rows : Rows) → read_via way file words ≡ accepted (ps, rows)
    → plain_of (kept_row without (tokens_only ps)) ≡ plain_of (kept_row without (file_tokens file))
kept-via way file words without ps rows e = ap (λ ts. plain_of (kept_row without ts)) (tokens-via file words ps rows way e)

-- so in a layout or as an old file
module _ (way : Way) (file : List ℕ) (words : Sizes) (without : Bool) (r : Answer) (e : r ≡ read_answer (read_via way file words)) (room : ℕ) where
  abbrev form : List ℕ
  form = plain_of (kept_row without (file_tokens file))

  pub via-refused : (r.refusal ≡ 0 → ⊥) → writing_of (read_via way file words) without room ≡ refused r.refusal r.place
  via-refused = refuses-by (read_via way file words) (kept_row without) form (kept-via way file words without) r e room

  module _ (z : r.refusal ≡ 0) where
    pub via-long : most_bytes < length form → writing_of (read_via way file words) without room ≡ refused 1 0
    via-long = too_long (read_via way file words) (kept_row without) form (kept-via way file words without) r e room (number-via file words way) z

    pub via-short : length form ≤ most_bytes → room < length form → writing_of (read_via way file words) without room ≡ refused 7 6
    via-short = too_short (read_via way file words) (kept_row without) form (kept-via way file words without) r e room (number-via file words way) z

    -- the output holds the form where it fits
    via-room : (plain : List ℕ) → plain ≡ form → room_with room plain ≡ output_of (writing_of (read_via way file words) without room) room
    via-room plain p =
        ap (room_with room) p ∙ sym (fits-room room _ form)
        ∙ sym (ap (λ w. output_of w room) (after-reading (read_via way file words) (kept_row without) form (kept-via way file words without) r e room (number-via file words way) z))

    pub via-fits : length form ≤ most_bytes → length form ≤ room → counted (length form) r ≡ write_answer (writing_of (read_via way file words) without room)
    via-fits = fits-output (read_via way file words) (kept_row without) form (kept-via way file words without) r e room (number-via file words way) z

-- the output, by the room with the plain form of the rows that reading counts
pub via-output : (way : Way) (file : List ℕ) (words : Sizes) (without : Bool) (r : Answer) → r ≡ read_answer (read_via way file words) → (room : ℕ) (table : List ℕ)
    → (r.refusal ≡ 0 → Holds file table r.tokens)
    → room_with room (plain_in without file table r.tokens) ≡ output_of (writing_of (read_via way file words) without room) room
unfolding then read_answer
via-output way file words without r e room table h = go (read_via way file words) refl
  where
    go : (o : ReadOutcome) → read_via way file words ≡ o → room_with room (plain_in without file table r.tokens) ≡ output_of (writing_of (read_via way file words) without room) room
    go (refused n place) d =
        let none : r.tokens ≡ 0 = ap (λ a. a.tokens) (e ∙ ap read_answer d) in
        ap (λ k. room_with room (plain_in without file table k)) none ∙ ap (room_with room) (none_rows without file table) ∙ none-room room n place
        ∙ sym (ap (λ o. output_of (writing_of o without room) room) d)
    go (accepted (ps, rows)) d =
        let z : r.refusal ≡ 0 = ap (λ a. a.refusal) (e ∙ ap read_answer d) in
        via-room way file words without r e room z _ (held_plain file table r.tokens (h z) without)

-- an answer of another number: the outcome is that refusal
pub writing-refused : (o : Writing) (a : Written) → a ≡ write_answer o → (a.refusal ≡ 0 → ⊥) → o ≡ refused a.refusal a.place
unfolding write_answer reading_of bytes_of read_answer
writing-refused (refused n place) a e f =
    let k : a.refusal ≡ n = ap (λ t. t.refusal) e in
    let l : a.place ≡ place = ap (λ t. t.place) e in
    cc
writing-refused (accepted (read, plain)) a e f = absurd (f (ap (λ t. t.refusal) e))

-- no refusal has the number 0
writing-number : (o : ReadOutcome) (row : List Token → List Token) (room : ℕ) → NotZero o → NotZero (writing_by o row room)
unfolding plain_fits
writing-number o row room f n place e z =
    then-refused o _ n place e (λ h. f n place h z)
    (λ read d h. need-refused _ 1 0 _ n place h
    (λ s k. need-refused _ 7 6 _ n place k (λ r w. impossible cc) (λ r m i. omega arith)) (λ s m i. omega arith))

-- an answer of refusal 0: the plain form is written
pub record SuccessBy (o : ReadOutcome) (row : List Token → List Token) (plain : List ℕ) (room : ℕ) (a : Written) : Type 0 where
  pub ps : List Placed
  pub rows : Rows
  pub outcome : writing_by o row room ≡ written ps rows plain
  pub reads : o ≡ accepted (ps, rows)
  pub count : a.tokens ≡ length ps
  pub size : a.length ≡ length plain
  pub fits : a.length ≤ room

pub success-by : (o : ReadOutcome) (row : List Token → List Token) (plain : List ℕ) → ((ps : List Placed) (rows : Rows) → o ≡ accepted (ps, rows) → plain_of (row (tokens_only ps)) ≡ plain)
    → NotZero o → (room : ℕ) (a : Written) → a ≡ write_answer (writing_by o row room) → a.refusal ≡ 0 → SuccessBy o row plain room a
unfolding write_answer reading_of bytes_of read_answer
success-by o row plain is f room a e z = go (writing_by o row room) refl e
  where
    go : (w : Writing) → writing_by o row room ≡ w → a ≡ write_answer w → SuccessBy o row plain room a
    go (refused n place) d h = absurd (writing-number o row room f n place d (sym (ap (λ t. t.refusal) h) ∙ z))
    go (accepted ((ps, rows), bytes)) d h =
        let w : Wrote o row room ps rows bytes = wrote_by o row room ps rows bytes d in
        let same : bytes ≡ plain = sym w.plain_is ∙ is ps rows w.reads in
        let long : a.length ≡ length bytes = ap (λ t. t.length) h in
        record {
          ps = ps;
          rows = rows;
          outcome = d ∙ ap (written ps rows) same;
          reads = w.reads;
          count = ap (λ t. t.tokens) h;
          size = long ∙ ap length same;
          fits = omega (arith, w.fits);
        }

-- in a layout
pub record Success (layout : ℕ) (file : List ℕ) (words : Sizes) (room : ℕ) (a : Written) : Type 0 where
  pub ps : List Placed
  pub rows : Rows
  pub outcome : write_in layout file words room ≡ written ps rows (plain_of (file_tokens file))
  pub reads : read_in layout file words ≡ accepted (ps, rows)
  pub count : a.tokens ≡ length ps
  pub size : a.length ≡ length (plain_of (file_tokens file))
  pub fits : a.length ≤ room

-- its plain form is that of the file's tokens
pub plain_in_lem : (layout : ℕ) (file : List ℕ) (words : Sizes) (ps : List Placed) (rows : Rows) → read_in layout file words ≡ accepted (ps, rows)
    → plain_of (tokens_only ps) ≡ plain_of (file_tokens file)
plain_in_lem layout file words ps rows e = ap plain_of (tokens-are layout file words ps rows e)

pub success : (layout : ℕ) (file : List ℕ) (words : Sizes) (room : ℕ) (a : Written) → a ≡ write_answer (write_in layout file words room) → a.refusal ≡ 0
    → Success layout file words room a
unfolding write_in
success layout file words room a e z =
    let s : SuccessBy (read_in layout file words) (λ ts. ts) (plain_of (file_tokens file)) room a
    = success-by (read_in layout file words) (λ ts. ts) (plain_of (file_tokens file)) (plain_in_lem layout file words) (number_in layout file words) room a e z in
    record { ps = s.ps; rows = s.rows; outcome = s.outcome; reads = s.reads; count = s.count; size = s.size; fits = s.fits }

-- the tables, refused and written
pub refused-tables : {o : Writing} {n place : ℕ} {words : Sizes} {t : Tables} → o ≡ refused n place → Leaves (refused n place) words t
    → Leaves (reading_of o) words t
unfolding reading_of
refused-tables {words = words} {t = t} e l = subst (λ o. Leaves (reading_of o) words t) (sym e) l

-- of any outcome that is written
module _ {o : ReadOutcome} {w : Writing} {plain : List ℕ} {ps : List Placed} {rows : Rows} (reads : o ≡ accepted (ps, rows)) (outcome : w ≡ written ps rows plain) where
  pub tables-by : {words : Sizes} {t : Tables} → Leaves o words t → Leaves (reading_of w) words t
  unfolding reading_of
  tables-by {words} {t} k = subst (λ u. Leaves u words t) (reads ∙ sym (ap reading_of outcome)) k

-- an answer is a refusal where its number is not 0
pub told-err : (r : Result PlainForm Refusal) → is_err r ≡ true → (written_of r).refusal ≡ 0 → ⊥
told-err (Ok f) e z = impossible cc
told-err (Err d) e z = number-some d.reason z

pub told-ok : (r : Result PlainForm Refusal) → is_err r ≡ false → (written_of r).refusal ≡ 0
told-ok (Ok f) e = refl
told-ok (Err d) e = impossible cc

-- what is left in tables of the same sizes is the same
pub leaving-at : {w : Writing} {before mid after : Tables} {room out : List ℕ} {r : Written} → sizes before ≡ sizes mid → Leaving w mid after room out r → Leaving w before after room out r
leaving-at {w} {after = after} e l = record { answer = l.answer; leaves = subst (λ s. Leaves (reading_of w) s after) (sym e) l.leaves; output = l.output }
