-- `star_fits_32` is `fits_32` of the crate below, with its tables and its answer as C has them.
use mathlib.Core.Path.{◌≡◌, sym}
use borrow.Author.Rules.{rules}
use Rattle.star.proofs.star_fits_32.Goals as goal

pub returns : goal.returns
returns c =
    let held = c.fits_32.new.tables in
    let tokens : held.tokens.now ≡ c.tokens-1.given.0 = search rules in
    let sets : held.sets.now ≡ c.sets-1.given.0 = search rules in
    let names : held.names.now ≡ c.names-1.given.0 = search rules in
    let packets : held.packets.now ≡ c.packets-1.given.0 = search rules in
    let values : held.values.now ≡ c.values-1.given.0 = search rules in
    rw (c.from.ensures, sym tokens, sym sets, sym names, sym packets, sym values) c.fits_32.ensures.checked
