use Rattle.std.proofs.Common.{subst, arith}
use Rattle.std.proofs.lemmas.List.{take_all}
use Rattle.f_tree.specs.Attributes.{assigned_with_list_in, with_list, called}
use Rattle.name_table.specs.Named.{names_in}
use Rattle.name_classes.specs.StatedNames.{used_as_in}
use Rattle.name_classes.specs.KnownSigns.{AreUsed}
use Rattle.name_classes.proofs.SignLemmas.{lists_more}
use Rattle.name_classes.proofs.used.used_names.Goals as goal

pub loop-statement-init : goal.loop-statement-init
loop-statement-init c = c.no_names-names.ensures (names_in c.args.arrays.now)

pub loop-statement-preserved : goal.loop-statement-preserved
loop-statement-preserved c =
    let ss = c.args.statements.now in
    let i = c.loop-statement.statement-index in
    let s = c.statement-item.result in
    let arrays = names_in c.args.arrays.now in
    let known = c.loop-statement.invariant in
    let noted = c.in_ok-note_statement.ensures in
    record {
      assigned = lists_more assigned_with_list_in ss i s s _ _ c.loop-statement-test.true c.statement-item.is known.assigned noted.assigned;
      with_list = lists_more (used_as_in with_list arrays) ss i s s _ _ c.loop-statement-test.true c.statement-item.is known.with_list noted.with_list;
      called = lists_more (used_as_in called arrays) ss i s s _ _ c.loop-statement-test.true c.statement-item.is known.called noted.called;
    }

pub returns : goal.returns
returns c =
    subst (λ ss. AreUsed (names_in c.args.arrays.now) ss c.loop-statement.names) (take_all c.loop-statement.statement-index c.args.statements.now (omega arith)) c.loop-statement.invariant
