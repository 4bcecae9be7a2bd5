use Rattle.std.proofs.Common.{◌+◌, ◌*◌, ◌≤◌, take}
use Rattle.star_text.specs.Bytes.{most_bytes}
use Rattle.star_lex.specs.Holds.{file_tokens}
use Rattle.star_list.specs.Listing.{code_lines}
use Rattle.star_list.specs.Put.{PutWithin}
use Rattle.star_list.proofs.listing.put_codes.Given as goal

abbrev pub invariant-loop-n : goal.invariant-loop-n
invariant-loop-n l =
    (l.n ≤ l.count) × PutWithin (code_lines (take l.n (file_tokens l.file))) 0 l.initial.out l.out l.at × (l.at ≤ l.n * (most_bytes + 1))
