use Rattle.std.proofs.Common.{sym, subst, true}
use Rattle.edit_rules.specs.Walks.{Steps, reach}
use Rattle.edit_rules.specs.declared.edits.Edit.TheVariants as edit
use Rattle.edit_rules.specs.declared.format_walk.Step.TheVariants as step
use Rattle.edit_rules.proofs.WalkSteps.{colon_on, colon_done}
use Rattle.edit_rules.proofs.format_walk.FormatWalk.colon.Goals as goal

pub returns-then-wants : goal.returns-then-wants
returns-then-wants c again rest stands p =
    subst (λ wants. Steps wants c.args.text.now again rest (reach stands) (step.On c.moved.result)) (sym c.if-wants.true)
    (subst (λ walk. Steps true c.args.text.now again rest (reach stands) (step.On walk)) (sym c.moved.ensures)
    (colon_on c.args.text.now again rest c.args.self.now stands c.args.behind p c.requires.behind c.requires.within))

pub returns-else-wants : goal.returns-else-wants
returns-else-wants c again rest stands p =
    subst (λ wants. Steps wants c.args.text.now again rest (reach stands) (step.Gives edit.Done c.args.self.now)) (sym c.if-wants.false)
    (colon_done c.args.text.now again rest c.args.self.now stands c.args.behind p)
