-- The split of a file into tokens: specification 2.2 and 3, and refusals 2 to 6 of specification 8.1. Believed; `Settles`, the demands on reading and the contracts of star_lex, star_scan and star_split cite it.
use Rattle.std.specs.Prelude.{Bool, true, false, cond, not, ◌&&◌, List, [], ◌∷◌, ℕ, zero, suc, ◌+◌, eqb, leb, length, drop}
use Rattle.std.proofs.Math.Option.{Option, none, some, map}
use Rattle.star_text.specs.Outcome.{Outcome, refused, accepted, then, need}
use Rattle.star_text.specs.Bytes.{is_terminate, is_white, leading, first_refused}
use Rattle.star_lex.specs.Rules.{Rules, today}
use Rattle.star_lex.specs.Tokens.{Token, Placed, data_word, save_word, loop_word, stop_word, global_word}

-- what stands at a place outside tokens: white space or a comment; a token; or refusal 3 to 6. With how many bytes follow its first.
pub data Lexeme : Type 0 where
  gap : (more : ℕ) → Lexeme
  token : (more : ℕ) → Token → Lexeme
  faulty : (number : ℕ) → Lexeme

-- what the split of a file gives: refusal and place, or the tokens
abbrev pub Split : Type 0
Split = Outcome (List Placed)

-- what follows a first part, where the list begins with it
unfoldable pub after : List ℕ → List ℕ → Option (List ℕ)
after [] bs = some bs
after (a ∷ ps) [] = none
after (a ∷ ps) (b ∷ bs) = cond (eqb a b) (after ps bs) none

-- the first byte is this one
unfoldable pub starts : ℕ → List ℕ → Bool
starts a [] = false
starts a (b ∷ bs) = eqb b a

-- the next byte is white space; the end of the file counts as white space after
unfoldable pub white_next : List ℕ → Bool
white_next [] = true
white_next (b ∷ bs) = is_white b

-- the content of a quoted string, from after its quote: it closes at the first equal quote followed by white space or the end, with no
-- terminate before it
unfoldable pub quoted : ℕ → List ℕ → Option (List ℕ)
quoted q [] = none
quoted q (b ∷ bs) =
    cond (eqb b q && white_next bs) (some []) (cond (is_terminate b) none (map (λ c. b ∷ c) (quoted q bs)))

-- how many bytes a line end that begins here takes; 0 where none begins
unfoldable pub line_end : (rules : Rules) → List ℕ → ℕ
line_end rules [] = 0
line_end rules (b ∷ bs) = cond (rules.pairs && (eqb b 13 && starts 10 bs)) 2 (cond (is_terminate b) 1 0)

-- a text field closes here: a line end that is directly followed by `;`
unfoldable pub closes : (rules : Rules) → List ℕ → Bool
closes rules bs = leb 1 (line_end rules bs) && starts 59 (drop (line_end rules bs) bs)

-- how many bytes close it
unfoldable pub close_length : (rules : Rules) → List ℕ → ℕ
close_length rules bs = line_end rules bs + 1

-- the content of a text field, from after its `;`: up to where it first closes
unfoldable pub field : (rules : Rules) → List ℕ → Option (List ℕ)
field rules [] = none
field rules (b ∷ bs) = cond (closes rules (b ∷ bs)) (some []) (map (λ c. b ∷ c) (field rules bs))

-- a name or code of more bytes than the rules allow is refusal 4
unfoldable pub limited : (rules : Rules) → ℕ → ℕ → List ℕ → Lexeme
limited rules more kind content = cond (leb (length content) rules.longest) (token more (record { kind = kind; content = content })) (faulty 4)

-- a heading's code, from after its `data_`
unfoldable pub block_word : (rules : Rules) → ℕ → List ℕ → Lexeme
block_word rules more [] = faulty 3
block_word rules more (b ∷ bs) = limited rules more 1 (b ∷ bs)

unfoldable pub frame_word : (rules : Rules) → ℕ → List ℕ → Lexeme
frame_word rules more [] = token more (record { kind = 3; content = save_word })
frame_word rules more (b ∷ bs) = limited rules more 2 (b ∷ bs)

-- a word that stands alone: anything after it is ill formed
unfoldable pub alone : ℕ → ℕ → List ℕ → List ℕ → Lexeme
alone more kind word [] = token more (record { kind = kind; content = word })
alone more kind word (b ∷ bs) = faulty 3

-- a name, from after its underscore
unfoldable pub name_word : (rules : Rules) → ℕ → List ℕ → Lexeme
name_word rules more [] = faulty 3
name_word rules more (b ∷ bs) = limited rules more 6 (95 ∷ b ∷ bs)

-- what follows `$`
unfoldable pub reference_word : ℕ → List ℕ → Lexeme
reference_word more [] = token more (record { kind = 7; content = 36 ∷ [] })
reference_word more (b ∷ bs) = token more (record { kind = 8; content = b ∷ bs })

unfoldable pub either : Option (List ℕ) → (List ℕ → Lexeme) → Lexeme → Lexeme
either none f other = other
either (some bs) f other = f bs

-- a word by its bytes: kinds 1 to 8 and 12, or ill formed
unfoldable pub word_lexeme : (rules : Rules) → ℕ → List ℕ → Lexeme
word_lexeme rules more w =
    either (after data_word w) (block_word rules more)
    (either (after save_word w) (frame_word rules more)
    (either (after loop_word w) (alone more 4 loop_word)
    (either (after stop_word w) (alone more 5 stop_word)
    (either (after global_word w) (alone more 12 global_word)
    (either (after (95 ∷ []) w) (name_word rules more)
    (either (after (36 ∷ []) w) (reference_word more)
    (token more (record { kind = 7; content = w }))))))))

-- a word: all bytes up to white space or the end
unfoldable pub word_from : (rules : Rules) → ℕ → List ℕ → Lexeme
word_from rules b bs = let w : List ℕ = leading (λ c. not (is_white c)) bs in word_lexeme rules (length w) (b ∷ w)

unfoldable pub quoted_lexeme : ℕ → Option (List ℕ) → Lexeme
quoted_lexeme kind none = faulty 5
quoted_lexeme kind (some c) = token (suc (length c)) (record { kind = kind; content = c })

-- the byte after the closing `;` must be white space or the end
unfoldable pub field_lexeme : (rules : Rules) → Option (List ℕ) → List ℕ → Lexeme
field_lexeme rules none bs = faulty 6
field_lexeme rules (some c) bs =
    let more : ℕ = length c + close_length rules (drop (length c) bs) in
    cond (white_next (drop more bs)) (token more (record { kind = 11; content = c })) (faulty 6)

-- at a token's start, the first rule that fits holds: whether the byte is the first of its line, the byte, and those after it
unfoldable pub lexeme : (rules : Rules) → Bool → ℕ → List ℕ → Lexeme
lexeme rules line b bs =
    cond (is_white b) (gap 0)
    (cond (eqb b 35) (gap (length (leading (λ c. not (is_terminate c)) bs)))
    (cond (line && eqb b 59) (field_lexeme rules (field rules bs) bs)
    (cond (eqb b 39) (quoted_lexeme 9 (quoted 39 bs))
    (cond (eqb b 34) (quoted_lexeme 10 (quoted 34 bs))
    (word_from rules b bs)))))

unfoldable pub more_of : Lexeme → ℕ
more_of (gap more) = more
more_of (token more t) = more
more_of (faulty n) = 0

-- a token before those that follow it
unfoldable pub before : Placed → Split → Split
before p s = then s (λ ps. accepted (p ∷ ps))

-- a lexeme at a place, and what follows it: the first faulty token decides
unfoldable pub enter : ℕ → Lexeme → Split → Split
enter at (gap more) rest = rest
enter at (token more t) rest = before (record { at = at; token = t }) rest
enter at (faulty n) rest = refused n at

-- what is left of a file, of which the next bytes belong to a lexeme already read: whether a line starts here, and the offset
unfoldable pub split : (rules : Rules) → (skip : ℕ) → (line : Bool) → (at : ℕ) → List ℕ → Split
split rules skip line at [] = accepted []
split rules zero line at (b ∷ bs) = let l : Lexeme = lexeme rules line b bs in enter at l (split rules (more_of l) (is_terminate b) (suc at) bs)
split rules (suc skip) line at (b ∷ bs) = split rules skip false (suc at) bs

-- refusal 2 over the whole file, then the first faulty token of 3 to 6; the start of the file counts as a line start
unfoldable pub tokens_by : (rules : Rules) → List ℕ → Split
tokens_by rules file = need (leb (length file) (first_refused file)) 2 (first_refused file) (split rules 0 true 0 file)

-- by today's rules
abbrev pub tokens_of : List ℕ → Split
tokens_of file = tokens_by today file

-- the tokens, none where the file is refused
unfoldable pub placed : Split → List Placed
placed (refused n place) = []
placed (accepted ps) = ps
