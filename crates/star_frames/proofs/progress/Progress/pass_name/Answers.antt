-- `pass_name` meets its contract in a header: there is a level, and its names are few.
use mathlib.Core.Path.{ap, ◌∙◌}
use Prim.Native.Nat.{◌+◌, ◌-◌, ◌<◌}
use native.Mathlib.Omega.{arith}
use lib.ListN.{length-set, get_or}
use Rattle.star_grammar.specs.Layout.{track, pass_name}
use Rattle.star_frames.specs.Tracked.{track_of}
use Rattle.star_frames.proofs.Tracking.{level_in, name-more}
use Rattle.star_frames.proofs.progress.Progress.pass_name.Goals as goal

pub returns-in-Header : goal.returns-in-Header
unfolding pass_name track_of
returns-in-Header c =
    let p = c.args.self in
    let k = c.requires.tracks in
    let some : 0 < p.levels = omega (arith, level_in p c.requires (λ e. omega (arith, rw c.in-Header.is at e))) in
    rw c.in-Header.is record {
      size = length-set p.counts (p.levels - 1) (get_or p.counts (p.levels - 1) 0 + 1) ∙ k.size;
      fits = k.fits;
      is = ap (λ counts. track p.inside 1 counts 0 0) (name-more p.counts p.levels (omega (arith, k.size, k.fits)) some);
    }
