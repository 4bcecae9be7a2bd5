-- What `lexeme` of star_split and its parts find, as `scanned_at` says it. For their contracts.
use Rattle.std.specs.Prelude.{Result, Ok, Err}
use Rattle.star_text.specs.declared.refusal.Reason.{Reason}
use Rattle.star_text.specs.Refusal.{number as reason_number}
use Rattle.star_lex.specs.Kinds.{number}
use Rattle.star_lex.specs.Answer.{Scanned, Gap, Token, Fault}
use Rattle.star_split.specs.declared.Found.{Found}
use Rattle.star_split.specs.declared.Found.TheVariants.{Gap as FoundGap, Token as FoundToken}

abbrev pub scanned : Result Found Reason → Scanned
scanned (Ok (FoundGap next)) = Gap next
scanned (Ok (FoundToken kind start end next)) = Token (number kind) start end next
scanned (Err reason) = Fault (reason_number reason)
