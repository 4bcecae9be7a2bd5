-- `quoted_string` meets its contract: the string ends within the file exactly where it closes.
use mathlib.Core.Path.{◌≡◌, sym, ◌∙◌}
use Prim.Native.Nat.{◌+◌, ◌≤◌}
use native.Mathlib.Omega.{arith}
use lib.ListN.{length, drop}
use Rattle.star_lex.specs.Kinds.{number}
use Rattle.star_lex.specs.Split.{quoted}
use Rattle.star_lex.specs.Answer.{end_of}
use Rattle.star_lex.proofs.Lexing.{quote-open, quote-within, quote-token}
use Rattle.star_split.proofs.quoted_string.Goals.{After-quote_end-end}
use Rattle.star_split.proofs.quoted_string.Goals as goal

-- where the string ends
end_is : (c : After-quote_end-end)
    → c.quote_end-end.result
    ≡ end_of (length c.args.file.now) (c.args.at + 1) (quoted c.args.quote (drop (c.args.at + 1) c.args.file.now))
end_is c = c.quote_end-end.ensures c.requires.classes

pub overflow_add-result-else-end-file : goal.overflow_add-result-else-end-file
overflow_add-result-else-end-file c =
    let w : c.quote_end-end.result + 1 ≤ length c.args.file.now = rw (end_is (goal.at.overflow_add-result-else-end-file c).After-quote_end-end)
    (quote-within c.args.file.now c.args.at c.requires.at_in_bounds c.args.quote (number c.args.kind) c.requires.quote_value (λ e. c.if-end-file.false (end_is (goal.at.overflow_add-result-else-end-file c).After-quote_end-end ∙ e))) in
    omega arith

pub returns-then-end-file : goal.returns-then-end-file
returns-then-end-file c =
    sym (quote-open c.args.file.now c.args.at c.requires.at_in_bounds c.args.quote (number c.args.kind) c.requires.quote_value (sym (end_is (goal.at.returns-then-end-file c).After-quote_end-end) ∙ c.if-end-file.true))

pub returns-else-end-file : goal.returns-else-end-file
returns-else-end-file c =
    rw (end_is (goal.at.returns-else-end-file c).After-quote_end-end) (sym (quote-token c.args.file.now c.args.at c.requires.at_in_bounds c.args.quote (number c.args.kind) c.requires.quote_value c.requires.kind_len
    (λ e. c.if-end-file.false (end_is (goal.at.returns-else-end-file c).After-quote_end-end ∙ e))))
