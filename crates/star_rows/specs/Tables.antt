-- The five lent tables, as a call that is lent them leaves them. For contracts of what takes them by `&mut Tables`: what such a call writes stands in the caller's own tables.
use Rattle.std.specs.Prelude.{◌≡◌, length}
use Rattle.star_rows.specs.declared.Tables.{Tables}

-- the tables are those that were lent, each with as many words
pub record Same (before after : Tables) : Type 0 where
  pub tokens : after.tokens.ghost_name ≡ before.tokens.ghost_name
  pub sets : after.sets.ghost_name ≡ before.sets.ghost_name
  pub names : after.names.ghost_name ≡ before.names.ghost_name
  pub packets : after.packets.ghost_name ≡ before.packets.ghost_name
  pub values : after.values.ghost_name ≡ before.values.ghost_name
  pub token_words : length after.tokens.now ≡ length before.tokens.now
  pub set_words : length after.sets.now ≡ length before.sets.now
  pub name_words : length after.names.now ≡ length before.names.now
  pub packet_words : length after.packets.now ≡ length before.packets.now
  pub value_words : length after.values.now ≡ length before.values.now
