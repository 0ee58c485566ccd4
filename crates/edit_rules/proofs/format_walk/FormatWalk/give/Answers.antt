use Rattle.std.proofs.Common.{sym, subst, ◌∙◌}
use Rattle.edit_rules.specs.Walks.{Steps, Given, reach}
use Rattle.edit_rules.specs.declared.edits.Edit.TheVariants as edit
use Rattle.edit_rules.specs.declared.format_walk.Step.TheVariants as step
use Rattle.edit_rules.proofs.WalkSteps.{give_on, give_done, give_answer}
use Rattle.edit_rules.proofs.format_walk.FormatWalk.give.Goals as goal

pub returns-then-weight-eq0 : goal.returns-then-weight-eq0
returns-then-weight-eq0 c again rest stands p =
    subst (λ walk. Steps c.args.wants c.args.text.now again rest (reach stands) (step.On walk)) (sym c.moved.ensures)
    (give_on c.args.text.now again rest c.args.self.now stands c.args.times c.args.edit c.args.behind p c.args.wants c.requires.behind c.requires.within (sym c.weight_of-weight.ensures ∙ c.if-weight-eq0.true))

pub returns-then-pauses : goal.returns-then-pauses
returns-then-pauses c again rest stands p =
    subst (λ wants. Given wants c.args.text.now again rest c.args.self.now edit.Done) (sym (c.pauses.ensures.wants c.if-pauses.true))
    (give_done c.args.text.now again rest c.args.self.now stands c.args.times c.args.edit c.args.behind p (sym c.weight_of-weight.ensures ∙ c.pauses.ensures.weight c.if-pauses.true))

pub returns : goal.returns
returns c again rest stands p =
    give_answer c.args.text.now again rest c.args.self.now stands c.args.times c.args.edit c.args.behind p c.args.wants c.given.result c.requires.within
    (λ z. c.if-weight-eq0.false (c.weight_of-weight.ensures ∙ z)) (λ f z. c.pauses.ensures.no c.if-pauses.false f (c.weight_of-weight.ensures ∙ z)) c.given.ensures.last c.given.ensures.more
