use Rattle.std.proofs.Common.{sym, subst}
use Rattle.edit_rules.specs.Walks.{Steps, reach}
use Rattle.edit_rules.specs.declared.format_walk.Step.TheVariants as step
use Rattle.edit_rules.proofs.WalkSteps.{joint_on}
use Rattle.edit_rules.proofs.format_walk.FormatWalk.joint.Goals as goal

pub returns : goal.returns
returns c again rest stands p =
    subst (λ walk. Steps c.args.wants c.args.text.now again rest (reach stands) (step.On walk)) (sym c.moved.ensures)
    (joint_on c.args.text.now again rest c.args.self.now stands c.args.behind c.args.wants c.requires.behind c.requires.within p)
