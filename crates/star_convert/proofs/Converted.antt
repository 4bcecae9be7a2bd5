-- What conversion gives, by what writing in the file's own layout gives: the same refusals, and on acceptance the same tables and length, since the plain form in the other layout has as many bytes.
use mathlib.Core.Path.{◌≡◌, refl, sym, ◌∙◌, ap, subst}
use mathlib.Core.Bool.{Bool, true, false}
use mathlib.Core.List.{List, ◌++◌}
use Prim.Native.Nat.{ℕ, ◌-◌}
use lib.Dec.{leb}
use lib.ListN.{length, replicate, take, drop}
use lib.Seq.{take-append_seam, drop-append_seam}
use Rattle.star_text.specs.Outcome.{refused, accepted, then, need}
use Rattle.star_text.specs.Bytes.{most_bytes}
use Rattle.star_lex.specs.Tokens.{Placed}
use Rattle.star_lex.specs.Plain.{plain_of}
use Rattle.star_lex.specs.Holds.{Holds, file_tokens}
use Rattle.star_grammar.specs.Tables.{Rows}
use Rattle.star_read.specs.Read.{ReadOutcome, Sizes, tokens_only, read_in}
use Rattle.star_read.specs.Answer.{reading_of, read_answer, Tables, sizes, Leaves}
use Rattle.star_read.proofs.Accepted.{tokens-are, left_in}
use Rattle.star_write.specs.Write.{Writing, written, plain_fits, write_in}
use Rattle.star_write.specs.Answer.{write_answer, bytes_of, output_of, Leaving, WritesIn}
use Rattle.star_write.specs.declared.Written.{Written}
use Rattle.star_write.proofs.Outcomes.{Wrote, wrote_by, counted, writing-refused, Success}
use Rattle.star_convert.specs.Convert.{other_row, convert_of, Converts}
use Rattle.star_convert.proofs.Converting.{as_long}

pub converted : (layout : ℕ) (file : List ℕ) (words : Sizes) (room : ℕ) (ps : List Placed) (rows : Rows) (plain : List ℕ)
    → convert_of layout file words room ≡ written ps rows plain → Wrote (read_in layout file words) (other_row layout) room ps rows plain
unfolding convert_of
converted layout file words room ps rows plain e = wrote_by (read_in layout file words) (other_row layout) room ps rows plain e

-- what is written, with the plain form in the other layout for that in the file's own
unfoldable pub turned : (layout : ℕ) → Writing → Writing
turned layout (refused n place) = refused n place
turned layout (accepted (read, plain)) = accepted (read, plain_of (other_row layout (tokens_only read.0)))

-- the tests of the length are the same
fits-turned : (layout : ℕ) (ps : List Placed) (rows : Rows) (room : ℕ) → length (plain_of (other_row layout (tokens_only ps))) ≡ length (plain_of (tokens_only ps))
    → plain_fits room (ps, rows) (plain_of (other_row layout (tokens_only ps))) ≡ turned layout (plain_fits room (ps, rows) (plain_of (tokens_only ps)))
unfolding plain_fits need turned
fits-turned layout ps rows room e = rw e (by (leb (length (plain_of (tokens_only ps))) most_bytes) (leb (length (plain_of (tokens_only ps))) room))
  where
    by : (small fits : Bool)
        → need small 1 0 (need fits 7 6 (written ps rows (plain_of (other_row layout (tokens_only ps))))) ≡ turned layout (need small 1 0 (need fits 7 6 (written ps rows (plain_of (tokens_only ps)))))
    by false fits = refl
    by true false = refl
    by true true = refl

module _ (layout : ℕ) (file : List ℕ) (words : Sizes) (room : ℕ) where
  convert-turned : convert_of layout file words room ≡ turned layout (write_in layout file words room)
  unfolding convert_of write_in then turned
  convert-turned = by (read_in layout file words) refl
    where
      by : (o : ReadOutcome) → read_in layout file words ≡ o
          → then o (λ read. plain_fits room read (plain_of (other_row layout (tokens_only read.0)))) ≡ turned layout (then o (λ read. plain_fits room read (plain_of (tokens_only read.0))))
      by (refused n place) e = refl
      by (accepted (ps, rows)) e =
          let same : tokens_only ps ≡ file_tokens file = tokens-are layout file words ps rows e in
          fits-turned layout ps rows room
          (ap (λ ts. length (plain_of (other_row layout ts))) same ∙ as_long layout file words ps rows e ∙ ap (λ ts. length (plain_of ts)) (sym same))

  refused-alike : (a : Written) → a ≡ write_answer (write_in layout file words room) → (a.refusal ≡ 0 → ⊥) → write_in layout file words room ≡ convert_of layout file words room
  unfolding turned
  refused-alike a e f =
      let is : write_in layout file words room ≡ refused a.refusal a.place = writing-refused _ a e f in
      is ∙ sym (convert-turned ∙ ap (turned layout) is)

-- a refusal is that of writing
pub refuses-alike : (layout : ℕ) (file : List ℕ) {before after : Tables} {room out : List ℕ} {r : Written} → WritesIn layout file before after room out r → (r.refusal ≡ 0 → ⊥)
    → Converts layout file before after room out r
refuses-alike layout file {before} {after} {room} {out} {r} w f =
    subst (λ o. Leaving o before after room out r) (refused-alike layout file (sizes before) (length room) r w.answer f) w

-- where the file is written in its own layout
module _ {layout : ℕ} {file : List ℕ} {words : Sizes} {room : ℕ} {a : Written} (d : Success layout file words room a) where
  abbrev own : List ℕ
  own = plain_of (file_tokens file)

  abbrev other : List ℕ
  other = plain_of (other_row layout (file_tokens file))

  outcome : convert_of layout file words room ≡ written d.ps d.rows other
  unfolding turned
  outcome =
      convert-turned layout file words room ∙ ap (turned layout) d.outcome
      ∙ ap (λ ts. written d.ps d.rows (plain_of (other_row layout ts))) (tokens-are layout file words d.ps d.rows d.reads)

  long : length other ≡ length own
  long = as_long layout file words d.ps d.rows d.reads

  pub same_answer : write_answer (write_in layout file words room) ≡ write_answer (convert_of layout file words room)
  unfolding write_answer bytes_of reading_of read_answer
  same_answer =
      ap write_answer d.outcome ∙ ap (λ n. counted n (read_answer (accepted (d.ps, d.rows)))) (sym long) ∙ sym (ap write_answer outcome)

  pub same_tables : {t : Tables} → Leaves (reading_of (write_in layout file words room)) words t → Leaves (reading_of (convert_of layout file words room)) words t
  unfolding reading_of
  same_tables {t} l = subst (λ o. Leaves o words t) (ap reading_of d.outcome ∙ sym (ap reading_of outcome)) l

  -- table 1 and the output as writing leaves them
  pub holds-written : (t : Tables) → Leaves (reading_of (write_in layout file words room)) words t → Holds file t.tokens a.tokens
  unfolding reading_of
  holds-written t l =
      left_in layout file words d.ps d.rows d.reads t a.tokens (subst (λ o. Leaves o words t) (ap reading_of d.outcome ∙ sym d.reads) l) d.count

  pub begins-own : (out : List ℕ) → out ≡ output_of (write_in layout file words room) room → take (length own) out ≡ own
  unfolding output_of bytes_of
  begins-own out e = ap (take (length own)) (e ∙ ap (λ w. output_of w room) d.outcome) ∙ take-append_seam own _

  -- the output with the words exchanged
  pub output-turned : (before after : List ℕ) → before ≡ output_of (write_in layout file words room) room → after ≡ other ++ drop (length own) before
      → after ≡ output_of (convert_of layout file words room) room
  unfolding output_of bytes_of
  output-turned before after e f =
      f ∙ ap (λ l. other ++ drop (length own) l) (e ∙ ap (λ w. output_of w room) d.outcome) ∙ ap (λ l. other ++ l) (drop-append_seam own _)
      ∙ ap (λ n. other ++ replicate (room - n) 0) (sym long) ∙ sym (ap (λ w. output_of w room) outcome)
