use Rattle.bounds.specs.Walk.{image_small}
use Rattle.bounds.proofs.node_placed.Goals as goal

pub in_image-requires : goal.in_image-requires
in_image-requires c =
    (rw c.image_length.ensures (image_small _), c.requires.1, c.requires.2)
