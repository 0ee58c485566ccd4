use Rattle.std.proofs.Common.{length, sym}
use Rattle.offset_classes.specs.Forest.{IsSolution}
use Rattle.offset_classes.proofs.Tying.{known_places}
use Rattle.offset_classes.proofs.solving.solution.Goals as goal

pub returns-in_ok-places-in-None : goal.returns-in_ok-places-in-None
unfolding IsSolution
returns-in_ok-places-in-None c = known_places c.args.equations.now (length c.args.nodes.now) c.tie_all.new.nodes c.in_ok-places-in-None.field-0.items (sym c.tie_all.auto.nodes) c.requires.below
    c.in-None.ensures.solved c.in_ok-places-in-None.ensures
