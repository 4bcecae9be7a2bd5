-- `rows_taken` meets its contract: the tests are those of the definition.
use Prim.Native.Nat.{◌*◌, ◌≤◌, ◌<◌}
use native.Mathlib.Omega.{arith}
use borrow.Author.Tests.{le-leb, lt-leb}
use lib.ListN.{length}
use Rattle.star_text.specs.Bytes.{most_bytes}
use Rattle.star_plain.specs.Kept.{rows_taken}
use Rattle.star_plain.proofs.rows_taken.Goals as goal

pub returns-then-file-gt-MOST_BYTES : goal.returns-then-file-gt-MOST_BYTES
unfolding rows_taken
returns-then-file-gt-MOST_BYTES c =
    let args = c.args in
    let far : most_bytes < length args.file.now = omega (arith, c.if-file-gt-MOST_BYTES.true) in
    rw (lt-leb (length args.file.now) most_bytes far)

pub returns-then-count-gt-MOST_BYTES : goal.returns-then-count-gt-MOST_BYTES
unfolding rows_taken
returns-then-count-gt-MOST_BYTES c =
    let args = c.args in
    let far : most_bytes < args.count = omega (arith, c.if-count-gt-MOST_BYTES.true) in
    rw (le-leb (length args.file.now) most_bytes (omega arith), lt-leb args.count most_bytes far)

pub overflow_mul-count : goal.overflow_mul-count
overflow_mul-count c = omega arith

pub returns-then-count-tokens : goal.returns-then-count-tokens
unfolding rows_taken
returns-then-count-tokens c =
    let args = c.args in
    let far : length args.tokens.now < args.count * 3 = omega (arith, c.if-count-tokens.true) in
    rw (le-leb (length args.file.now) most_bytes (omega arith), le-leb args.count most_bytes (omega arith), lt-leb (args.count * 3) (length args.tokens.now) far)

pub returns : goal.returns
unfolding rows_taken
returns c =
    let args = c.args in
    let near : args.count * 3 ≤ length args.tokens.now = omega (arith, c.if-count-tokens.false) in
    rw (le-leb (length args.file.now) most_bytes (omega arith), le-leb args.count most_bytes (omega arith), le-leb (args.count * 3) (length args.tokens.now) near)
