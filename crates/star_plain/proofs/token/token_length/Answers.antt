-- `token_length` meets its contract: it adds up the lengths of the parts, of which all but the content are short.
use mathlib.Core.Path.{◌≡◌, refl}
use mathlib.Core.List.{List}
use Prim.Native.Nat.{ℕ, ◌+◌, ◌≤◌}
use native.Mathlib.Omega.{arith}
use lib.ListN.{length}
use Rattle.star_lex.specs.Rules.{today}
use Rattle.star_lex.specs.Tokens.{opening}
use Rattle.star_lex.specs.Plain.{closing, indent, plain_token}
use Rattle.star_plain.specs.Put.{token_of}
use Rattle.star_plain.proofs.Lengths.{short-opening, short-closing, short-indent, length-plain}
use Rattle.star_plain.proofs.token.token_length.Goals as goal

-- the parts around the content are short
parts : (kind : ℕ) (content before after back : List ℕ) → before ≡ indent (token_of kind content) → after ≡ opening kind → back ≡ closing today kind content
    → (length before + length after ≤ 6) × (length back ≤ 3) × (length before + length after + length content + length back + 1 ≡ length (plain_token today (token_of kind content)))
parts kind content before after back p q r =
    rw (p, q, r)
    (omega (arith, short-indent (token_of kind content), short-opening kind), short-closing kind content, omega (arith, length-plain (token_of kind content)))

pub overflow_add-result : goal.overflow_add-result
overflow_add-result c =
    omega (arith, (parts c.args.kind c.args.content.now _ _ _ c.indent.ensures c.opening.ensures refl).0)

pub overflow_add-result-2 : goal.overflow_add-result-2
overflow_add-result-2 c =
    let p = parts c.args.kind c.args.content.now _ _ _ c.indent.ensures c.opening.ensures c.closing.ensures in
    omega (arith, p.0, p.1)

pub overflow_add-result-3 : goal.overflow_add-result-3
overflow_add-result-3 c =
    let p = parts c.args.kind c.args.content.now _ _ _ c.indent.ensures c.opening.ensures c.closing.ensures in
    omega (arith, p.0, p.1)

pub returns : goal.returns
returns c = (parts c.args.kind c.args.content.now _ _ _ c.indent.ensures c.opening.ensures c.closing.ensures).2
