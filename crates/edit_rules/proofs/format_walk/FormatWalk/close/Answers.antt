use Rattle.std.proofs.Common.{◌≡◌, ◌-◌, ◌≤◌, suc, drop, sym, subst, arith}
use Rattle.edit_rules.specs.Walks.{GoesOn, reach, group_of}
use Rattle.edit_rules.specs.declared.format_walk.FormatWalk.{FormatWalk}
use Rattle.edit_rules.proofs.WalkSteps.{closed, pop, turn}
use Rattle.edit_rules.proofs.format_walk.FormatWalk.close.Goals as goal

pub returns-then-group-eq0 : goal.returns-then-group-eq0
returns-then-group-eq0 c again rest stands p =
    let text = c.args.text.now in
    let walk : FormatWalk = c.args.self.now in
    subst (λ (next : FormatWalk). GoesOn c.args.wants text again rest (reach stands) next) (sym c.left_group.ensures)
    (pop text again rest walk stands c.args.wants (walk.depth - 1) (let e : walk.depth ≡ suc (walk.depth - 1) = omega arith in e) c.args.behind
    (closed text again rest walk stands (drop c.args.behind text) p) c.requires.behind c.requires.within c.if-group-eq0.true)

pub returns : goal.returns
returns c again rest stands p =
    let text = c.args.text.now in
    let walk : FormatWalk = c.args.self.now in
    subst (λ (next : FormatWalk). GoesOn c.args.wants text again rest (reach stands) next) (sym c.turned.ensures.fields)
    (turn text again rest walk stands c.args.wants (walk.depth - 1) (let e : walk.depth ≡ suc (walk.depth - 1) = omega arith in e) c.args.behind
    (closed text again rest walk stands (drop c.args.behind text) p) c.requires.behind c.requires.within c.turned.result.groups
    (let o : 1 ≤ (group_of walk.groups (walk.depth - 1)).left = grind (arith, c.if-group-eq0.false) in o) c.turned.ensures.this c.turned.ensures.others)
