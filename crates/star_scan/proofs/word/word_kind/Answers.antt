-- `word_kind` meets its contract: the first byte tells which rules may hold.
use mathlib.Core.Path.{◌≡◌, sym, ◌∙◌, ap}
use mathlib.Core.List.{List}
use Prim.Native.Nat.{ℕ, ◌-◌}
use native.Mathlib.Omega.{arith}
use lib.ListN.{length, take, drop, length-drop}
use Rattle.std.proofs.lemmas.List.{take_all}
use Rattle.star_lex.specs.Rules.{today}
use Rattle.star_lex.specs.Tokens.{data_word, save_word, loop_word, stop_word, global_word}
use Rattle.star_lex.specs.Answer.{word_answer}
use Rattle.star_lex.proofs.Words.{after-some, after_none, word-data, word-d, word-global, word-g, word-loop, word-l, word-save, word-stop, word-s, word-name, word-reference, word-other, word-empty}
use Rattle.star_scan.proofs.word.word_kind.Goals as goal

-- the part after the first byte
rest-is : (w : List ℕ) → take (length w - 1) (drop 1 w) ≡ drop 1 w
rest-is w = take_all (length w - 1) (drop 1 w) (omega (arith, length-drop 1 w))

pub returns-in_default : goal.returns-in_default
unfolding word_answer
returns-in_default c = λ more. sym (ap word_answer (word-empty today more c.args.word.now (omega arith)))

pub returns-in-Some : goal.returns-in-Some
unfolding data_word
returns-in-Some c = λ more.
    c.block.ensures more ∙ sym (ap word_answer (word-data today more c.args.word.now _ (after-some data_word _ _ c.in-Some.ensures.cases.0 c.in-Some.ensures.cases.1)))

pub returns-in-None : goal.returns-in-None
unfolding data_word word_answer
returns-in-None c = λ more. sym (ap word_answer (word-d today more c.args.word.now c.in-100.is (after_none data_word _ c.in-None.ensures.cases)))

pub returns-in-Some-strip_prefix : goal.returns-in-Some-strip_prefix
unfolding global_word
returns-in-Some-strip_prefix c = λ more.
    c.alone.ensures more global_word ∙ sym (ap word_answer (word-global today more c.args.word.now c.in-103.is _ (after-some global_word _ _ c.in-Some-strip_prefix.ensures.cases.0 c.in-Some-strip_prefix.ensures.cases.1)))

pub returns-in-None-strip_prefix : goal.returns-in-None-strip_prefix
unfolding global_word word_answer
returns-in-None-strip_prefix c = λ more. sym (ap word_answer (word-g today more c.args.word.now c.in-103.is (after_none global_word _ c.in-None-strip_prefix.ensures.cases)))

pub returns-in-Some-strip_prefix-2 : goal.returns-in-Some-strip_prefix-2
unfolding loop_word
returns-in-Some-strip_prefix-2 c = λ more.
    c.alone-in-Some-strip_prefix-2.ensures more loop_word ∙ sym (ap word_answer (word-loop today more c.args.word.now c.in-108.is _ (after-some loop_word _ _ c.in-Some-strip_prefix-2.ensures.cases.0 c.in-Some-strip_prefix-2.ensures.cases.1)))

pub returns-in-None-strip_prefix-2 : goal.returns-in-None-strip_prefix-2
unfolding loop_word word_answer
returns-in-None-strip_prefix-2 c = λ more. sym (ap word_answer (word-l today more c.args.word.now c.in-108.is (after_none loop_word _ c.in-None-strip_prefix-2.ensures.cases)))

pub returns-in-Some-strip_prefix-3 : goal.returns-in-Some-strip_prefix-3
unfolding save_word
returns-in-Some-strip_prefix-3 c = λ more.
    c.frame.ensures more ∙ sym (ap word_answer (word-save today more c.args.word.now c.in-115.is _ (after-some save_word _ _ c.in-Some-strip_prefix-3.ensures.cases.0 c.in-Some-strip_prefix-3.ensures.cases.1)))

pub returns-in-Some-strip_prefix-4 : goal.returns-in-Some-strip_prefix-4
unfolding stop_word save_word
returns-in-Some-strip_prefix-4 c = λ more.
    c.alone-in-Some-strip_prefix-4.ensures more stop_word ∙ sym (ap word_answer (word-stop today more c.args.word.now c.in-115.is (after_none save_word _ c.in-None-strip_prefix-3.ensures.cases) _ (after-some stop_word _ _ c.in-Some-strip_prefix-4.ensures.cases.0 c.in-Some-strip_prefix-4.ensures.cases.1)))

pub returns-in-None-strip_prefix-4 : goal.returns-in-None-strip_prefix-4
unfolding stop_word save_word word_answer
returns-in-None-strip_prefix-4 c = λ more. sym (ap word_answer (word-s today more c.args.word.now c.in-115.is (after_none save_word _ c.in-None-strip_prefix-3.ensures.cases) (after_none stop_word _ c.in-None-strip_prefix-4.ensures.cases)))

pub returns-in-95 : goal.returns-in-95
returns-in-95 c = λ more.
    let w = c.args.word.now in
    rw (rest-is w) at (c.name.ensures more) ∙ sym (ap word_answer (word-name today more w c.in-len1-up.len_at_least (omega arith)))

pub returns-in-36 : goal.returns-in-36
returns-in-36 c = λ more.
    let w = c.args.word.now in
    rw (rest-is w) at (c.reference.ensures more) ∙ sym (ap word_answer (word-reference today more w c.in-len1-up.len_at_least (omega arith)))

pub returns-in_default-first : goal.returns-in_default-first
unfolding word_answer
returns-in_default-first c = λ more.
    sym (ap word_answer (word-other today more c.args.word.now (λ e. omega arith) (λ e. omega arith) (λ e. omega arith) (λ e. omega arith) (λ e. omega arith) (λ e. omega arith)))
