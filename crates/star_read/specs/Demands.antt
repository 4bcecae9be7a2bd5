-- What is demanded of reading: statements alone, over readings (star_grammar's specs/Reading.antt) and the split of a file. Believed; star's Demands cites it.
use Rattle.std.specs.Prelude.{◌≡◌, true, false, ◌⊎◌, ◌↔◌, List, [], ◌∷◌, ◌++◌, map, ℕ, ◌*◌, ◌≤◌, ◌<◌, length}
use Rattle.star_text.specs.Outcome.{refused, accepted}
use Rattle.star_rows.specs.Widths.{token_width, set_width, name_width, packet_width, value_width}
use Rattle.star_text.specs.Bytes.{most_bytes}
use Rattle.star_lex.specs.Rules.{Rules, today, layout_rules, at_levels, at_longest, at_stops}
use Rattle.star_lex.specs.Tokens.{Token, Placed, Each}
use Rattle.star_lex.specs.Split.{tokens_by}
use Rattle.star_lex.specs.Fits.{fits}
use Rattle.star_lex.specs.Demands.{no_pair, windows, windows_token}
use Rattle.star_grammar.specs.Tree.{File, file_yield, frame_close, FileBy, IsName, IsValue}
use Rattle.star_grammar.specs.Tables.{Rows, rows_of}
use Rattle.star_grammar.specs.Reading.{ReadingBy}
use Rattle.star_read.specs.Answer.{read_answer, Tables, zero_tables, tables_of}
use Rattle.star_read.specs.declared.Answer.{Answer}
use Rattle.star_read.specs.Read.{FileRows, ReadOutcome, Sizes, tokens_only, read_by, read_in}

-- rules by which every file that is begun can be completed: loops have a level, and names may be so long that a file within the size limit has not
-- taken all of them
pub record Usable (rules : Rules) : Type 0 where
  pub some_level : 1 ≤ rules.levels
  pub long_names : 22 ≤ rules.longest

-- a row of tokens begins a file, of any length, that by the rules splits into tokens and has a reading, when the file's first tokens have
-- the same kinds and contents
pub record Begins (rules : Rules) (p : List Token) : Type 0 where
  pub file : List ℕ
  pub tokens : List Placed
  pub splits : tokens_by rules file ≡ accepted tokens
  pub reading : ReadingBy rules (tokens_only tokens)
  pub rest : List Token
  pub starts : tokens_only tokens ≡ p ++ rest

-- tables 2 to 5 have room for rows
pub record Room (words : Sizes) (rows : Rows) : Type 0 where
  pub sets : length rows.sets * set_width ≤ words.sets
  pub names : length rows.names * name_width ≤ words.names
  pub packets : length rows.packets * packet_width ≤ words.packets
  pub values : length rows.values * value_width ≤ words.values

-- a file within the size limit that splits into these tokens, and a table 1 with room for them
pub record Tokenized (rules : Rules) (file : List ℕ) (words : Sizes) (ps : List Placed) : Type 0 where
  pub small : length file ≤ most_bytes
  pub splits : tokens_by rules file ≡ accepted ps
  pub room : length ps * token_width ≤ words.tokens

-- such a file, and tables 2 to 5 with room for the rows of its reading, if it has one
pub record Fair (rules : Rules) (file : List ℕ) (words : Sizes) (ps : List Placed) : Type 0 where
  pub tokenized : Tokenized rules file words ps
  pub rooms : (r : ReadingBy rules (tokens_only ps)) → Room words (rows_of r.tree)

-- a token of the file that, with those before it, begins no file, while those before it do; or, if there is none, the file's length
pub data FirstBad (rules : Rules) (file : List ℕ) (ps : List Placed) (place : ℕ) : Type 0 where
  token : (p : List Placed) (t : Placed) (q : List Placed) → ps ≡ p ++ (t ∷ q) → place ≡ t.at → Begins rules (tokens_only p)
      → (Begins rules (tokens_only (p ++ (t ∷ []))) → ⊥) → FirstBad rules file ps place
  end : place ≡ length file → Begins rules (tokens_only ps) → FirstBad rules file ps place

-- demand 3, first sentence: accepted exactly when it has a reading
abbrev pub AcceptedExactly : Type 0
AcceptedExactly = (rules : Rules) → Usable rules → (file : List ℕ) (words : Sizes) (ps : List Placed) → Fair rules file words ps
    → ((rows : Rows) × (read_by rules file words ≡ accepted (ps, rows))) ↔ ReadingBy rules (tokens_only ps)

-- second: any two readings are equal
abbrev pub OneReading : Type 0
OneReading = (rules : Rules) (ts : List Token) (r s : ReadingBy rules ts) → r.tree ≡ s.tree

-- third: after acceptance tables and counts are those of the reading
abbrev pub RowsOfReading : Type 0
RowsOfReading = (rules : Rules) → Usable rules → (file : List ℕ) (words : Sizes) (ps : List Placed) (rows : Rows)
    → read_by rules file words ≡ accepted (ps, rows)
    → (tokens_by rules file ≡ accepted ps) × (r : ReadingBy rules (tokens_only ps)) × (rows ≡ rows_of r.tree)

-- fourth: the place of a refusal
abbrev pub PlaceOfRefusal : Type 0
PlaceOfRefusal = (rules : Rules) → Usable rules → (file : List ℕ) (words : Sizes) (ps : List Placed) → Fair rules file words ps
    → (n place : ℕ) → read_by rules file words ≡ refused n place → FirstBad rules file ps place

-- the same by the rules, with nothing to be unique
pub record BeginsShape (rules : Rules) (p : List Token) : Type 0 where
  pub file : List ℕ
  pub tokens : List Placed
  pub splits : tokens_by rules file ≡ accepted tokens
  pub tree : File
  pub yield : file_yield (frame_close rules) tree ≡ tokens_only tokens
  pub whole : FileBy rules tree
  pub rest : List Token
  pub starts : tokens_only tokens ≡ p ++ rest

-- a value has come since the last name or `loop_`
pub record ValueSince (p : List Token) : Type 0 where
  pub before : List Token
  pub value : Token
  pub since : List Token
  pub is : p ≡ before ++ (value ∷ since)
  pub is_value : IsValue value
  pub no_name : Each (λ t. t.kind ≡ 6 → ⊥) since
  pub no_loop : Each (λ t. t.kind ≡ 4 → ⊥) since

-- no name at all may come next
abbrev pub NoName : (rules : Rules) → List Token → Type 0
NoName rules p = (x : Token) → IsName x → BeginsShape rules (p ++ (x ∷ [])) → ⊥

-- the number of refusal of a token after a row that begins a file, which it does not with the token: 16 where it does by the old rules, which allow header stops; 11 where it does with
-- more levels; 10 and 8 where it does by the old rules with no number of levels
pub data NumberAt (rules : Rules) (p : List Token) (t : Token) : ℕ → Type 0 where
  taken : BeginsShape rules (p ++ (t ∷ [])) → NumberAt rules p t 9
  retired : (BeginsShape rules (p ++ (t ∷ [])) → ⊥) → BeginsShape (at_stops rules true) (p ++ (t ∷ [])) → NumberAt rules p t 16
  deep : (BeginsShape (at_stops rules true) (p ++ (t ∷ [])) → ⊥) → (limit : ℕ) → BeginsShape (at_levels rules limit) (p ++ (t ∷ [])) → NumberAt rules p t 11
  packet : ((limit : ℕ) → BeginsShape (at_levels (at_stops rules true) limit) (p ++ (t ∷ [])) → ⊥) → ValueSince p → NoName rules p → NumberAt rules p t 10
  other : ((limit : ℕ) → BeginsShape (at_levels (at_stops rules true) limit) (p ++ (t ∷ [])) → ⊥) → (ValueSince p → NoName rules p → ⊥) → NumberAt rules p t 8

-- the number of refusal at the end of a row that begins a file
pub data NumberAtEnd (rules : Rules) (p : List Token) : ℕ → Type 0 where
  packet : ValueSince p → NoName rules p → NumberAtEnd rules p 10
  other : (ValueSince p → NoName rules p → ⊥) → NumberAtEnd rules p 8

-- which of 8 to 11 and 16 is given
abbrev pub RefusalNumber : Type 0
RefusalNumber = (rules : Rules) → Usable rules → (file : List ℕ) (words : Sizes) (ps : List Placed) → Fair rules file words ps
    → (n place : ℕ) → read_by rules file words ≡ refused n place
    → ((p : List Placed) (t : Placed) (q : List Placed) → ps ≡ p ++ (t ∷ q) → Begins rules (tokens_only p)
    → (Begins rules (tokens_only (p ++ (t ∷ []))) → ⊥) → NumberAt rules (tokens_only p) t.token n)
    × (Begins rules (tokens_only ps) → NumberAtEnd rules (tokens_only ps) n)

-- 8 to 11 and 16 exclude one another, at a token and at the end
abbrev pub NumbersExclude : Type 0
NumbersExclude = (rules : Rules)
    → ((p : List Token) (t : Token) (m n : ℕ) → NumberAt rules p t m → NumberAt rules p t n → m ≡ n)
    × ((p : List Token) (m n : ℕ) → NumberAtEnd rules p m → NumberAtEnd rules p n → m ≡ n)

-- a `global_` that is refused is 8 or 10: it has no code that is taken, and opens no level
abbrev pub GlobalNumber : Type 0
GlobalNumber = (rules : Rules) → Usable rules → (file : List ℕ) (words : Sizes) (ps : List Placed) → Fair rules file words ps
    → (n place : ℕ) → read_by rules file words ≡ refused n place
    → (p : List Placed) (t : Placed) (q : List Placed) → ps ≡ p ++ (t ∷ q) → Begins rules (tokens_only p)
    → (Begins rules (tokens_only (p ++ (t ∷ []))) → ⊥) → t.token.kind ≡ 12 → (n ≡ 8) ⊎ (n ≡ 10)

-- where `stop_` closes frames, a `save_` alone stands in no file, and where a file is refused at one the number is 8 or 10
abbrev pub SaveNumber : Type 0
SaveNumber = (rules : Rules) → Usable rules → rules.stop_closes ≡ true
    → ((p : List Token) (t : Token) → t.kind ≡ 3 → Begins rules (p ++ (t ∷ [])) → ⊥)
    × ((file : List ℕ) (words : Sizes) (ps : List Placed) → Fair rules file words ps → (n place : ℕ) → read_by rules file words ≡ refused n place
    → (p : List Placed) (t : Placed) (q : List Placed) → ps ≡ p ++ (t ∷ q) → Begins rules (tokens_only p) → t.token.kind ≡ 3 → (n ≡ 8) ⊎ (n ≡ 10))

-- refusal and place where a file has no reading: of the first token that, with those before it, begins no file, or of the file's end
pub data Bad (rules : Rules) (file : List ℕ) (ps : List Placed) : (number place : ℕ) → Type 0 where
  token : (n : ℕ) (p : List Placed) (t : Placed) (q : List Placed) → ps ≡ p ++ (t ∷ q) → Begins rules (tokens_only p)
      → (Begins rules (tokens_only (p ++ (t ∷ []))) → ⊥) → NumberAt rules (tokens_only p) t.token n → Bad rules file ps n t.at
  end : (n : ℕ) → Begins rules (tokens_only ps) → NumberAtEnd rules (tokens_only ps) n → Bad rules file ps n (length file)

-- the lowest of tables 2 to 5 that is too short for its rows
pub data Short (words : Sizes) (rows : Rows) : (table : ℕ) → Type 0 where
  sets : words.sets < length rows.sets * set_width → Short words rows 2
  names : length rows.sets * set_width ≤ words.sets → words.names < length rows.names * name_width → Short words rows 3
  packets : length rows.sets * set_width ≤ words.sets → length rows.names * name_width ≤ words.names → words.packets < length rows.packets * packet_width
      → Short words rows 4
  values : length rows.sets * set_width ≤ words.sets → length rows.names * name_width ≤ words.names → length rows.packets * packet_width ≤ words.packets
      → words.values < length rows.values * value_width → Short words rows 5

-- what reading gives, of any file and any tables: the refusals in order of checking, or the rows of the reading
pub data Settles (rules : Rules) (file : List ℕ) (words : Sizes) : ReadOutcome → Type 0 where
  over_size : most_bytes < length file → Settles rules file words (refused 1 0)
  unsplit : (n place : ℕ) → length file ≤ most_bytes → tokens_by rules file ≡ refused n place → Settles rules file words (refused n place)
  no_token_room : (ps : List Placed) → length file ≤ most_bytes → tokens_by rules file ≡ accepted ps → words.tokens < length ps * token_width
      → Settles rules file words (refused 7 1)
  no_reading : (ps : List Placed) (n place : ℕ) → Tokenized rules file words ps → (ReadingBy rules (tokens_only ps) → ⊥) → Bad rules file ps n place
      → Settles rules file words (refused n place)
  no_room : (ps : List Placed) (table : ℕ) → Tokenized rules file words ps → (r : ReadingBy rules (tokens_only ps)) → Short words (rows_of r.tree) table
      → Settles rules file words (refused 7 table)
  reads : (ps : List Placed) → Tokenized rules file words ps → (r : ReadingBy rules (tokens_only ps)) → Room words (rows_of r.tree)
      → Settles rules file words (accepted (ps, rows_of r.tree))

-- reading is settled for every file and any tables
abbrev pub ReadingSettled : Type 0
ReadingSettled = (rules : Rules) → Usable rules → (file : List ℕ) (words : Sizes) → Settles rules file words (read_by rules file words)

-- and there is one outcome
abbrev pub OneOutcome : Type 0
OneOutcome = (rules : Rules) → Usable rules → (file : List ℕ) (words : Sizes) (o u : ReadOutcome) → Settles rules file words o
    → Settles rules file words u → o ≡ u

-- the numbers that reading gives, each with the places that it may have in a file of that many bytes
pub data Numbered (size : ℕ) : (number place : ℕ) → Type 0 where
  over_size : Numbered size 1 0
  byte : (n place : ℕ) → 2 ≤ n → n ≤ 6 → place < size → Numbered size n place
  table : (place : ℕ) → 1 ≤ place → place ≤ 5 → Numbered size 7 place
  token : (n place : ℕ) → 8 ≤ n → n ≤ 11 → place < size → Numbered size n place
  retired : (place : ℕ) → place < size → Numbered size 16 place
  end : (n : ℕ) → (n ≡ 8) ⊎ (n ≡ 10) → Numbered size n size

-- a file within the size limit that by the rules splits into tokens which have a reading
pub record HasReadingBy (rules : Rules) (file : List ℕ) : Type 0 where
  pub small : length file ≤ most_bytes
  pub tokens : List Placed
  pub splits : tokens_by rules file ≡ accepted tokens
  pub reading : ReadingBy rules (tokens_only tokens)

-- by today's rules
abbrev pub HasReading : (file : List ℕ) → Type 0
HasReading file = HasReadingBy today file

-- the answer and the tables of a refusal: no rows, and every word 0
abbrev pub refusal_answer : (n place : ℕ) → Answer
refusal_answer n place = record { refusal = n; place = place; tokens = 0; sets = 0; names = 0; packets = 0; values = 0 }

-- demand 1, of reading in a layout: its answer is 0 and 0 only with a reading; else one of the numbers with its place, no rows, and every word 0; a number that is no layout's is 14
pub data ReadAnswer (layout : ℕ) (file : List ℕ) (words : Sizes) : Answer → Tables → Type 0 where
  acceptance : (r : Answer) (t : Tables) → layout ≤ 1 → r.refusal ≡ 0 → r.place ≡ 0 → HasReadingBy (layout_rules layout) file → ReadAnswer layout file words r t
  refusal : (n place : ℕ) → layout ≤ 1 → Numbered (length file) n place → ReadAnswer layout file words (refusal_answer n place) (zero_tables words)
  no_layout : 1 < layout → ReadAnswer layout file words (refusal_answer 14 0) (zero_tables words)

abbrev pub ReadAnswers : Type 0
ReadAnswers = (layout : ℕ) (file : List ℕ) (words : Sizes) → ReadAnswer layout file words (read_answer (read_in layout file words)) (tables_of (read_in layout file words) words)

-- as Windows writes it, an accepted file without 13, 10 is accepted, within the size limit and with room: with the same rows of tables 2 to 5, and the
-- same tokens but for the line ends within text fields
abbrev pub WindowsReads : Type 0
WindowsReads = (rules : Rules) → Usable rules → rules.pairs ≡ true → (file : List ℕ) (words : Sizes) (ps : List Placed) (rows : Rows)
    → no_pair file ≡ true → read_by rules file words ≡ accepted (ps, rows) → length (windows file) ≤ most_bytes
    → (others : Sizes) → length ps * token_width ≤ others.tokens → Room others rows
    → (qs : List Placed) × (read_by rules (windows file) others ≡ accepted (qs, rows)) × (tokens_only qs ≡ map windows_token (tokens_only ps))

-- a file that is accepted with a lower limit of names and codes is accepted, with the same tokens and rows
abbrev pub OldFilesReadAsBefore : Type 0
OldFilesReadAsBefore = (rules : Rules) (old : ℕ) → old ≤ rules.longest → (file : List ℕ) (words : Sizes) (read : FileRows)
    → read_by (at_longest rules old) file words ≡ accepted read → read_by rules file words ≡ accepted read

-- the place of the first name or code of more than so many bytes: its token's first byte
pub record FirstLonger (most : ℕ) (ps : List Placed) (place : ℕ) : Type 0 where
  pub earlier : List Placed
  pub longer : Placed
  pub later : List Placed
  pub is : ps ≡ earlier ++ (longer ∷ later)
  pub earlier_fit : Each (λ p. fits most p.token ≡ true) earlier
  pub no_fit : fits most longer.token ≡ false
  pub place_is : place ≡ longer.at

-- an accepted file with a longer name or code is refusal 4 with the lower limit, at the first such, whatever tables are lent
abbrev pub OldBenchRefuses : Type 0
OldBenchRefuses = (rules : Rules) (old : ℕ) → old ≤ rules.longest → (file : List ℕ) (words : Sizes) (ps : List Placed) (rows : Rows)
    → read_by rules file words ≡ accepted (ps, rows) → (place : ℕ) → FirstLonger old ps place
    → (others : Sizes) → read_by (at_longest rules old) file others ≡ refused 4 place

-- of any file and any tables a lower limit gives the same outcome or refusal 4
abbrev pub OldBenchSameOrFour : Type 0
OldBenchSameOrFour = (rules : Rules) (old : ℕ) → old ≤ rules.longest → (file : List ℕ) (words : Sizes)
    → (read_by (at_longest rules old) file words ≡ read_by rules file words)
    ⊎ ((place : ℕ) × (read_by (at_longest rules old) file words ≡ refused 4 place))

-- reading in a layout, 0 or 1, is reading by its rules; any other number is 14 at 0, whatever the file
abbrev pub ByLayout : Type 0
ByLayout = (layout : ℕ) (file : List ℕ) (words : Sizes)
    → (layout ≤ 1 → read_in layout file words ≡ read_by (layout_rules layout) file words) × (1 < layout → read_in layout file words ≡ refused 14 0)

-- of any file and any tables, reading without header stops gives what reading with them gives, or 16
abbrev pub SameOrSixteen : Type 0
SameOrSixteen = (rules : Rules) (file : List ℕ) (words : Sizes)
    → (read_by (at_stops rules false) file words ≡ read_by (at_stops rules true) file words)
    ⊎ ((place : ℕ) × (read_by (at_stops rules false) file words ≡ refused 16 place))
