-- `listing` meets its contract: an input that is too long is not read, and any other is read into tables of 16,384 words.
use native.Mathlib.Omega.{arith}
use Rattle.star_list.specs.Listing.{too_long, line}
use Rattle.star_list.proofs.Putting.{put_all}
use Rattle.star_list.proofs.Reading.{listing-long, listing-read, put-words}
use Rattle.star_list.proofs.listing.listing.Goals as goal

pub returns-then-input-gt-MOST_BYTES : goal.returns-then-input-gt-MOST_BYTES
unfolding line too_long
returns-then-input-gt-MOST_BYTES c =
    let put = put_all c.put_bytes.ensures in
    rw (listing-long c.args.input.now (omega arith)) record { value = put.0; out_after = put.1 }

pub returns : goal.returns
returns c =
    let input = c.args.input.now in
    let put = put_all (put-words input 16384 c.put_reading.ensures) in
    rw (listing-read input (omega arith)) record { value = put.0; out_after = put.1 }
