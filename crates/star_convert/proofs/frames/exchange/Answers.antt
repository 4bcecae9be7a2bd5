-- `exchange` meets its contract: the words are exchanged while table 1 has the kinds of today's layout, and its own kinds come back, since the 1991 layout has no `save_` alone.
use mathlib.Core.Path.{◌∙◌, ap}
use Rattle.star_frames.specs.Frames.{from_today}
use Rattle.star_convert.proofs.TodayTable.{table-back}
use Rattle.star_convert.proofs.Converting.{no-save}
use Rattle.star_convert.proofs.frames.exchange.Goals as goal

pub put_closes-requires : goal.put_closes-requires
put_closes-requires c =
    record {
      holds_today = record { table = c.args.tokens.now; holds = c.requires.holds; today = c.to_today.ensures };
      reading_by = c.requires.reading_by;
      out_value = c.requires.out_value;
    }

pub returns : goal.returns
returns c =
    record {
      out_after = c.put_closes.ensures;
      tokens_unchanged = c.from_today.ensures
          ∙ ap (from_today c.args.layout c.args.count) c.to_today.ensures
          ∙ table-back c.args.layout c.args.count c.args.tokens.now (no-save c.args.layout c.args.file.now c.requires.reading_by c.args.tokens.now c.args.count c.requires.holds);
    }
