-- `hash` meets its contract: the set's bytes are mixed in from the lowest on, then the name.
use Rattle.std.proofs.Common.{◌∙◌, ap}
use Rattle.star_text.specs.Names.{key}
use Rattle.star_hash.specs.Hash.{basis, fnv, set_bytes, hash_of}
use Rattle.star_hash.proofs.hash.Goals as goal

pub returns : goal.returns
unfolding hash_of set_bytes fnv key
returns c =
    c.fnv.ensures
    ∙ ap (λ h. fnv h c.args.name.now) (c.fnv-of_set.ensures ∙ ap (λ bs. fnv basis bs) c.to_le_bytes-bytes.ensures)
