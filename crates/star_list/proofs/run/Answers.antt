use Rattle.std.proofs.Common.{arith, take, length-take-le}
use Rattle.star_list.proofs.Whole.{known_listing, on_ok}
use Rattle.star_list.proofs.run.Goals as goal

pub returns : goal.returns
returns g c =
    let read = c.in_ok-count.ensures in
    let file = take c.in_ok-count.count c.read_full.new.room in
    on_ok c.write_listing.result
    (λ h. known_listing _ _ _ _ file read.bytes (λ q. read.end (omega (arith, q, length-take-le _ _ read.within, c.read_full.auto.room))) h)
    c.write_listing.ensures
