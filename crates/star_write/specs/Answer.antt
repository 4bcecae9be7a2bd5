-- What writing answers, and what it leaves in the lent tables and the output: specification 12.6 and 12.7. Believed; the contracts of `write`, `write_layout` and `drop_header_stops`, converting and the demands cite it.
use Rattle.std.specs.Prelude.{◌≡◌, List, [], ◌++◌, ℕ, ◌-◌, length, replicate, Result, Ok, Err}
use Rattle.star_text.specs.Refusal.{number}
use Rattle.star_text.specs.declared.refusal.Refusal.{Refusal}
use Rattle.star_text.specs.Outcome.{refused, accepted}
use Rattle.star_read.specs.Answer.{read_answer, reading_of, Tables, sizes, Leaves}
use Rattle.star_read.specs.declared.Answer.{Answer}
use Rattle.star_write.specs.Write.{Writing, write_of, write_in, drop_of}
use Rattle.star_write.specs.declared.Written.{Written}
use Rattle.star_write.specs.declared.PlainForm.{PlainForm}

-- the bytes that are written
unfoldable pub bytes_of : Writing → List ℕ
bytes_of (refused n place) = []
bytes_of (accepted (read, plain)) = plain

-- the output, of so many bytes: those past the end are 0
unfoldable pub output_of : Writing → (room : ℕ) → List ℕ
output_of w room = bytes_of w ++ replicate (room - length (bytes_of w)) 0

-- refusal and place, the length, and the five row counts
unfoldable pub write_answer : Writing → Written
write_answer w =
    let r : Answer = read_answer (reading_of w) in
    record {
      refusal = r.refusal;
      place = r.place;
      length = length (bytes_of w);
      tokens = r.tokens;
      sets = r.sets;
      names = r.names;
      packets = r.packets;
      values = r.values;
    }

-- what a call tells that answers a plain form that was written, or a refusal
abbrev pub written_of : Result PlainForm Refusal → Written
written_of (Ok f) = record {
  refusal = 0;
  place = 0;
  length = f.length;
  tokens = f.counts.tokens;
  sets = f.counts.sets;
  names = f.counts.names;
  packets = f.counts.packets;
  values = f.counts.values;
}
written_of (Err r) = record { refusal = number r.reason; place = r.place; length = 0; tokens = 0; sets = 0; names = 0; packets = 0; values = 0 }

-- the answer, every word of the five tables and every byte of the output are an outcome's
pub record Leaving (w : Writing) (before after : Tables) (room out : List ℕ) (r : Written) : Type 0 where
  pub answer : r ≡ write_answer w
  pub leaves : Leaves (reading_of w) (sizes before) after
  pub output : out ≡ output_of w (length room)

-- the contract of writing
abbrev pub Writes : (file : List ℕ) (before after : Tables) (room out : List ℕ) → Written → Type 0
Writes file before after room out r = Leaving (write_of file (sizes before) (length room)) before after room out r

-- and in a layout
abbrev pub WritesIn : (layout : ℕ) (file : List ℕ) (before after : Tables) (room out : List ℕ) → Written → Type 0
WritesIn layout file before after room out r = Leaving (write_in layout file (sizes before) (length room)) before after room out r

-- the contract of dropping header stops: the tables hold the reading of the old file
abbrev pub DropsStops : (file : List ℕ) (before after : Tables) (room out : List ℕ) → Written → Type 0
DropsStops file before after room out r = Leaving (drop_of file (sizes before) (length room)) before after room out r
