-- The words of a row of tables 2 to 5.
use mathlib.Core.Path.{◌≡◌, refl}
use lib.ListN.{length}
use Rattle.star_rows.specs.Widths.{set_width, name_width, packet_width, value_width}
use Rattle.star_grammar.specs.Tables.{SetRow, NameRow, PacketRow, ValueRow, set_words, name_words, packet_words, value_words}

-- the words of a row are as many as the table is wide
pub set-wide : (x : SetRow) → length (set_words x) ≡ set_width
unfolding set_words
set-wide x = refl

pub name-wide : (x : NameRow) → length (name_words x) ≡ name_width
unfolding name_words
name-wide x = refl

pub packet-wide : (x : PacketRow) → length (packet_words x) ≡ packet_width
unfolding packet_words
packet-wide x = refl

pub value-wide : (x : ValueRow) → length (value_words x) ≡ value_width
unfolding value_words
value-wide x = refl
