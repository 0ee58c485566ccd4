use Rattle.name_classes.proofs.SignLemmas.{sets_of}
use Rattle.translator.proofs.heading.heading.Goals as goal

pub dummies-requires : goal.dummies-requires
dummies-requires c = sets_of c.args.unit.now c.args.signs.now c.requires.signs
