use Rattle.std.proofs.Common.{arith, length-take, subst, replicate}
use Rattle.std.specs.Io.KnownBytes.{Appends}
use Rattle.star_list.specs.Listing.{listing_of}
use Rattle.star_list.proofs.Fits.{size_fits, listing-fits}
use Rattle.star_list.proofs.Whole.{whole, on_ok}
use Rattle.star_list.proofs.write_listing.Goals as goal

pub slice_bounds-out-end : goal.slice_bounds-out-end
slice_bounds-out-end g c = omega (arith, size_fits _ c.listing-size.ensures.value, c.listing-size.auto.out)

pub slice_bounds-write_all-end : goal.slice_bounds-write_all-end
slice_bounds-write_all-end g c = rw length-take (omega (arith, size_fits _ c.listing-size.ensures.value, c.listing-size.auto.out))

pub returns : goal.returns
returns g c =
    let shown = whole (listing_of c.args.input.now) (replicate 8217 0) _ c.listing-size.result c.listing-size.ensures.value (listing-fits c.args.input.now) c.listing-size.ensures.out_after in
    on_ok c.write_all.result (λ h. subst (Appends _ _) shown h) c.write_all.ensures.bytes
