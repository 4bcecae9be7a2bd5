-- What converting from one layout into the other gives: specification 20.7 and 20.8. Believed; the contract of `convert` and the demands cite it.
use Rattle.std.specs.Prelude.{List, ℕ, ◌-◌, length}
use Rattle.star_text.specs.Outcome.{then}
use Rattle.star_lex.specs.Rules.{layout_rules}
use Rattle.star_lex.specs.Tokens.{Token}
use Rattle.star_lex.specs.Plain.{plain_of}
use Rattle.star_grammar.specs.Layout.{today_row, layout_row}
use Rattle.star_read.specs.Read.{Sizes, tokens_only, read_in}
use Rattle.star_read.specs.Answer.{Tables, sizes}
use Rattle.star_write.specs.Write.{Writing, plain_fits}
use Rattle.star_write.specs.Answer.{Leaving}
use Rattle.star_write.specs.declared.Written.{Written}

-- a row of tokens in a layout, 0 or 1, as one of the other: what closes frames is exchanged, and all else stays
unfoldable pub other_row : (layout : ℕ) → List Token → List Token
other_row layout ts = layout_row (layout_rules (1 - layout)) (today_row (layout_rules layout) ts)

-- what is written when a file is read in one layout and written in the other
unfoldable pub convert_of : (layout : ℕ) → List ℕ → Sizes → (room : ℕ) → Writing
convert_of layout file words room = then (read_in layout file words) (λ read. plain_fits room read (plain_of (other_row layout (tokens_only read.0))))

-- the contract of converting from a layout into the other: the tables hold the reading of the file as it was read
abbrev pub Converts : (layout : ℕ) (file : List ℕ) (before after : Tables) (room out : List ℕ) → Written → Type 0
Converts layout file before after room out r = Leaving (convert_of layout file (sizes before) (length room)) before after room out r
