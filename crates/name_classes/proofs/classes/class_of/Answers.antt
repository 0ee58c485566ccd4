use Rattle.std.proofs.Common.{ap, ◌∙◌}
use Rattle.f_tree.specs.declared.names.Class.{Class}
use Rattle.f_tree.specs.Attributes as written
use Rattle.name_classes.specs.KnownSigns.{signs_in}
use Rattle.name_classes.proofs.SignLemmas.{class_found, sets_of}
use Rattle.name_classes.proofs.classes.class_of.Goals as goal

pub class_by-requires : goal.class_by-requires
class_by-requires c = sets_of c.args.unit.now c.args.signs.now c.requires

pub returns : goal.returns
returns c =
    c.class_by.ensures ∙ ap (λ (own : Class). written.class_by own (signs_in c.args.signs.now c.args.name.now)) c.own_class.ensures
    ∙ class_found c.args.unit.now c.args.signs.now c.args.name.now c.requires
