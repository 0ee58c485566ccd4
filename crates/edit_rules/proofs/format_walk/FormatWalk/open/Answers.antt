use Rattle.std.proofs.Common.{◌≡◌, ◌==◌, if◌then◌else◌, ◌+◌, suc, sym, ap, ◌∙◌, subst, arith}
use Rattle.edit_rules.specs.Walks.{Given, GoesOn, reach}
use Rattle.edit_rules.specs.declared.edits.Edit.TheVariants as edit
use Rattle.edit_rules.specs.declared.format_walk.FormatWalk.{FormatWalk}
use Rattle.edit_rules.proofs.WalkSteps.{open_on, open_passed, open_done}
use Rattle.edit_rules.proofs.format_walk.FormatWalk.open.Goals as goal

pub returns-then-group-gt1 : goal.returns-then-group-gt1
returns-then-group-gt1 c again rest stands p =
    let walk : FormatWalk = c.args.self.now in
    let next : FormatWalk = c.entered.result in
    let deeper : walk.depth + 1 ≡ suc walk.depth = omega arith in
    subst (λ (w : FormatWalk). GoesOn c.args.wants c.args.text.now again rest (reach stands) w)
    (sym (c.entered.ensures.fields ∙ ap (λ d. let w : FormatWalk = record next { place = c.args.behind; left = 0; again = (if walk.depth == 0 then walk.place else walk.again); depth = d } in w) deeper))
    (open_on c.args.text.now again rest walk stands c.args.times c.args.behind p c.args.wants next.groups c.entered.ensures.this c.entered.ensures.others c.requires.behind c.requires.within
    _ _ c.weigh-group.ensures.value c.if-group-gt1.true)

pub returns-then-pauses : goal.returns-then-pauses
returns-then-pauses c again rest stands p =
    subst (λ wants. Given wants c.args.text.now again rest c.args.self.now edit.Done) (sym (c.pauses.ensures.wants c.if-pauses.true))
    (open_done c.args.text.now again rest c.args.self.now stands c.args.times c.args.behind p _ _ c.weigh-group.ensures.value (c.pauses.ensures.weight c.if-pauses.true))

pub returns : goal.returns
returns c again rest stands p =
    subst (λ (walk : FormatWalk). GoesOn c.args.wants c.args.text.now again rest (reach stands) walk) (sym c.passed.ensures)
    (open_passed c.args.text.now again rest c.args.self.now stands c.args.times c.args.behind p c.args.wants c.weigh-group.result.behind (omega arith) c.weigh-group.ensures.within c.weigh-group.result.weight
    c.weigh-group.ensures.value (omega arith) (λ f z. c.pauses.ensures.no c.if-pauses.false f z))
