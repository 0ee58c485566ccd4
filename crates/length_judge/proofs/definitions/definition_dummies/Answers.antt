use Rattle.name_table.specs.Named.{names_in}
use Rattle.length_judge.proofs.KnownLaws.{dummies_Assign, dummies_other, dummies_as, no_dummies}
use Rattle.length_judge.proofs.definitions.definition_dummies.Goals as goal

pub returns-in-Assign : goal.returns-in-Assign
returns-in-Assign c = dummies_as c.assigned_dummies.result _ _ (dummies_Assign (names_in c.args.arrays.now) c.args.body.now c.in-Assign.target _ c.in-Assign.is) c.assigned_dummies.ensures

pub returns-in_default : goal.returns-in_default
returns-in_default c = no_dummies _ _ c.new.ensures.items (dummies_other (names_in c.args.arrays.now) c.args.body.now c.in_default.not-Assign)
