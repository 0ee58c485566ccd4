use Rattle.std.proofs.Common.{true, drop, sym, subst}
use Rattle.edit_rules.specs.Walks.{Given}
use Rattle.edit_rules.specs.declared.edits.Edit.TheVariants as edit
use Rattle.edit_rules.specs.declared.format_walk.FormatWalk.{FormatWalk}
use Rattle.edit_rules.proofs.WalkSteps.{closed, end_done, end_none, end_again}
use Rattle.edit_rules.proofs.format_walk.FormatWalk.end.Goals as goal

pub returns-then-not-wants : goal.returns-then-not-wants
returns-then-not-wants c again rest stands p =
    let text = c.args.text.now in
    let at = drop c.args.behind text in
    subst (λ wants. Given wants text again rest c.args.self.now edit.Done) (sym c.if-not-wants.true)
    (end_done text again rest c.args.self.now stands c.requires.outside at (closed text again rest c.args.self.now stands at p))

pub returns-then-list-eq3 : goal.returns-then-list-eq3
returns-then-list-eq3 c again rest stands p =
    let text = c.args.text.now in
    let at = drop c.args.behind text in
    subst (λ wants. Given wants text again rest c.moved.result edit.NextRecord) (sym c.if-not-wants.false)
    (subst (λ (walk : FormatWalk). Given true text again rest walk edit.NextRecord) (sym c.moved.ensures)
    (end_again text again rest c.args.self.now stands c.requires.outside at (closed text again rest c.args.self.now stands at p) _ _ c.weigh-list.ensures.value c.if-list-eq3.true))

pub returns : goal.returns
returns c again rest stands p =
    let text = c.args.text.now in
    let at = drop c.args.behind text in
    subst (λ wants. Given wants text again rest c.args.self.now edit.NoDescriptor) (sym c.if-not-wants.false)
    (end_none text again rest c.args.self.now stands c.requires.outside at (closed text again rest c.args.self.now stands at p) _ _ c.weigh-list.ensures.value c.if-list-eq3.false)
