use Rattle.std.proofs.Common.{◌<◌, ◌≤◌, length, get_or, ap, subst, ◌∙◌}
use Rattle.std.proofs.lemmas.List.{take_all}
use Rattle.f_tree.specs.declared.statements.Stmt.{Stmt}
use Rattle.std.proofs.Common.{List}
use Rattle.f_tree.specs.Attributes.{option_list, named_dummies, entry_names_in, entry_dummies_in}
use Rattle.name_classes.specs.KnownSigns.{AreEntries}
use Rattle.name_classes.proofs.SignLemmas.{lists_behind}
use Rattle.name_classes.proofs.entries.entry_names.Goals as goal

pub loop-statement-init : goal.loop-statement-init
loop-statement-init c = c.in_ok-names.ensures

pub loop-statement-preserved : goal.loop-statement-preserved
loop-statement-preserved c =
    let u = c.args.unit.now in
    let ss = u.statements in
    let i = c.loop-statement.statement-index in
    let s = c.statement-item.result in
    let known = c.loop-statement.invariant in
    let noted = c.in_ok-note_entry.ensures in
    let h = subst (λ (ts : List Stmt). i < length ts) c.as_slice-statement-items.ensures c.loop-statement-test.true in
    let is = c.statement-item.is ∙ ap (λ (ts : List Stmt). get_or ts i s) c.as_slice-statement-items.ensures in
    record {
      own_names = lists_behind entry_names_in (option_list u.name) ss i s s _ _ h is known.own_names noted.own_names;
      dummies = lists_behind entry_dummies_in (named_dummies u.dummies) ss i s s _ _ h is known.dummies noted.dummies;
    }

pub returns : goal.returns
returns c =
    subst (λ ss. AreEntries c.args.unit.now ss c.loop-statement.names)
    (take_all c.loop-statement.statement-index c.args.unit.now.statements (subst (λ (ts : List Stmt). length ts ≤ c.loop-statement.statement-index) c.as_slice-statement-items.ensures c.loop-statement-test.false))
    c.loop-statement.invariant
