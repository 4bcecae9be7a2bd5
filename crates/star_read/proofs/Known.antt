-- The cases that specification 15 marks to be proved hold by computing the definitions.
use mathlib.Core.Path.{◌≡◌, refl}
use mathlib.Core.List.{List, [], ◌∷◌, flat_map}
use Rattle.star_text.specs.Outcome.{accepted, then, need}
use Rattle.star_text.specs.Names.{key, equal}
use Rattle.star_text.specs.Bytes.{is_blank, is_terminate, is_white, is_printable, is_allowed, leading, first_refused}
use Rattle.star_rows.specs.Rows.{holding}
use Rattle.star_lex.specs.Tokens.{Placed, token_row, opening, data_word, save_word, loop_word, stop_word, global_word}
use Rattle.star_lex.specs.Split.{after, starts, white_next, quoted, line_end, closes, close_length, field, limited, block_word, frame_word, alone, name_word, reference_word, either, word_lexeme, word_from, quoted_lexeme, field_lexeme, lexeme, more_of, before, enter, split, tokens_by}
use Rattle.star_lex.specs.Plain.{ends, newline, closing, indent, plain_token, plain_by}
use Rattle.star_lex.specs.Answer.{tokens_in_by, tokens_fit}
use Rattle.star_grammar.specs.Tables.{Rows, no_rows, pass, open_loop, put_set, put_name, put_packet, put_value, first_of, link_to, linked_from, linked, set_words, name_words, packet_words, value_words}
use Rattle.star_grammar.specs.Machine.{sort_of, set_of, parent_of, between, filled, fill, value_at, begin, header_step, no_value, no_value_at, body_step, start_step, named_step, step, end_between, end_body, end_run, run as machine-run}
use Rattle.star_grammar.specs.Layout.{today_row}
use Rattle.star_unique.specs.Repeat.{among, nothing, is_taken, take_block, take_frame, end_frame, take_name, takes, first_repeat}
use Rattle.star_read.specs.Read.{token_place, decide, grammar_of, room_for, rows_fit, read_by, read_of}
use Rattle.star_read.specs.Answer.{tables_of}
use Rattle.star_read.specs.Known.{Known, read_tokens, of_words, full_case}

pub known : Known
unfolding flat_map is_blank is_terminate is_white is_printable is_allowed leading first_refused holding token_row opening data_word save_word loop_word stop_word global_word after starts white_next quoted line_end closes close_length field limited block_word frame_word alone name_word reference_word either word_lexeme word_from quoted_lexeme field_lexeme lexeme more_of before enter split tokens_by ends newline closing indent plain_token plain_by tokens_in_by tokens_fit then need no_rows pass open_loop put_set put_name put_packet put_value first_of link_to linked_from linked set_words name_words packet_words value_words sort_of set_of parent_of between filled fill value_at begin header_step no_value no_value_at body_step start_step named_step step end_between end_body end_run machine-run key equal among nothing is_taken take_block take_frame end_frame take_name takes first_repeat token_place decide today_row grammar_of room_for rows_fit read_by tables_of read_tokens
known = (refl, refl, refl, refl, refl, refl, refl, refl, refl, refl, refl, refl)

-- the tokens and the rows of the full case
abbrev pub full_tokens : List Placed
full_tokens =
    record { at = 0; token = record { kind = 1; content = 97 ∷ [] } } ∷
    record { at = 7; token = record { kind = 4; content = 108 ∷ 111 ∷ 111 ∷ 112 ∷ 95 ∷ [] } } ∷
    record { at = 13; token = record { kind = 6; content = 95 ∷ 120 ∷ [] } } ∷
    record { at = 16; token = record { kind = 4; content = 108 ∷ 111 ∷ 111 ∷ 112 ∷ 95 ∷ [] } } ∷
    record { at = 22; token = record { kind = 6; content = 95 ∷ 121 ∷ [] } } ∷
    record { at = 25; token = record { kind = 7; content = 49 ∷ [] } } ∷
    record { at = 27; token = record { kind = 7; content = 50 ∷ [] } } ∷
    record { at = 29; token = record { kind = 7; content = 51 ∷ [] } } ∷
    record { at = 31; token = record { kind = 5; content = 115 ∷ 116 ∷ 111 ∷ 112 ∷ 95 ∷ [] } } ∷
    record { at = 37; token = record { kind = 7; content = 52 ∷ [] } } ∷
    record { at = 39; token = record { kind = 5; content = 115 ∷ 116 ∷ 111 ∷ 112 ∷ 95 ∷ [] } } ∷
    []

abbrev pub full_rows : Rows
full_rows =
    record {
      tokens = 11;
      loops = 1;
      sets = record { kind = 1; heading = 1; parent = 0 } ∷ [];
      names = record { set = 1; name = 3; loop = 1; level = 1 } ∷ record { set = 1; name = 5; loop = 1; level = 2 } ∷ [];
      packets = record { loop = 1; level = 1; parent = 0 } ∷ record { loop = 1; level = 2; parent = 1 } ∷ record { loop = 1; level = 2; parent = 1 } ∷ record { loop = 1; level = 1; parent = 0 } ∷ [];
      values = record { name = 1; packet = 1; value = 6; next = 4 } ∷ record { name = 2; packet = 2; value = 7; next = 3 } ∷ record { name = 2; packet = 3; value = 8; next = 0 } ∷ record { name = 1; packet = 4; value = 10; next = 0 } ∷ [];
    }

-- in tables of so many words as the program has
pub full-read : read_of full_case (of_words 16384) ≡ accepted (full_tokens, full_rows)
unfolding is_blank is_terminate is_white is_printable is_allowed leading first_refused data_word save_word loop_word stop_word global_word after starts white_next quoted line_end closes close_length field limited block_word frame_word alone name_word reference_word either word_lexeme word_from quoted_lexeme field_lexeme lexeme more_of before enter split tokens_by tokens_in_by tokens_fit then need no_rows pass open_loop put_set put_name put_packet put_value first_of link_to linked_from linked sort_of set_of parent_of between filled fill value_at begin header_step no_value no_value_at body_step start_step named_step step end_between end_body end_run machine-run key equal among nothing is_taken take_block take_frame end_frame take_name takes first_repeat token_place decide today_row grammar_of room_for rows_fit read_by
full-read = refl

pub empty-read : read_of [] (of_words 16384) ≡ accepted ([], no_rows)
unfolding leading first_refused split tokens_by tokens_in_by tokens_fit then need no_rows linked_from linked end_run machine-run nothing first_repeat decide today_row grammar_of room_for rows_fit read_by
empty-read = refl
