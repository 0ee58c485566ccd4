use Rattle.std.proofs.Common.{refl, ap, ◌∙◌, ◌+◌, length, arith}
use Rattle.c_tree.specs.Drafts.{joined, drafted}
use Rattle.c_tree.specs.Flat as flat
use Rattle.c_tree.specs.LinkedExpressions.{linked}
use Rattle.c_tree.specs.FlatForm.{body_of_all, sequence, one, next_item}
use Rattle.first_names.specs.FirstNames.{first_of}
use Rattle.expression_linker.specs.NamesInScope.{scope_of}
use Rattle.flat_linker.specs.Parts.{guarded, skipped, tested_at, turns}
use Rattle.flat_linker.proofs.StatementForms.{at-Set, at-SetCall, at-Call, at-Empty, at-Block, at-Label, at-Goto, at-Return, at-ReturnCall, at-only, at-both, at-Switch, at-For, at-DoWhile}
use Rattle.flat_linker.proofs.PutLaws.{body-as, body-more, body-same, seq-lost}
use Rattle.flat_linker.proofs.FormLaws.{branched, gone, guarded-same, skipped-same, only-same, both-same, turns-same, for-same, do-same}
use Rattle.flat_linker.proofs.LoopLaws.{list-more, list-lost, list-end}
use Rattle.flat_linker.proofs.statements.+statement.Goals as goal

pub put_statement-returns-in-Set : goal.put_statement-returns-in-Set
put_statement-returns-in-Set t c =
    body-as (scope_of c.args.known.now.scope.now) (first_of c.args.known.now.labels.now) c.put_assignment.result _ _ c.args.out.now c.put_assignment.new.out (at-Set _ _ _ c.in-Set.is) c.put_assignment.ensures

pub put_statement-returns-in-SetCall : goal.put_statement-returns-in-SetCall
put_statement-returns-in-SetCall t c =
    body-as (scope_of c.args.known.now.scope.now) (first_of c.args.known.now.labels.now) c.put_kept_call.result _ _ c.args.out.now c.put_kept_call.new.out (at-SetCall _ _ _ c.in-SetCall.is) c.put_kept_call.ensures

pub put_statement-returns-in-Call : goal.put_statement-returns-in-Call
put_statement-returns-in-Call t c =
    body-as (scope_of c.args.known.now.scope.now) (first_of c.args.known.now.labels.now) c.put_call.result _ _ c.args.out.now c.put_call.new.out (at-Call _ _ c.in-Call.is) c.put_call.ensures

pub put_statement-returns-in-Empty : goal.put_statement-returns-in-Empty
put_statement-returns-in-Empty t c =
    body-as (scope_of c.args.known.now.scope.now) (first_of c.args.known.now.labels.now) c.put.result _ _ c.args.out.now c.put.new.out (at-Empty _ c.in-Empty.is) c.put.ensures

pub put_statement-returns-in-Block : goal.put_statement-returns-in-Block
put_statement-returns-in-Block t c =
    body-as (scope_of c.args.known.now.scope.now) (first_of c.args.known.now.labels.now) c.put_statements.result _ _ c.args.out.now c.put_statements.new.out (at-Block _ _ _ c.in-Block.is c.as_slice.ensures) c.put_statements.ensures

pub put_statement-returns-in-Label : goal.put_statement-returns-in-Label
put_statement-returns-in-Label t c =
    body-as (scope_of c.args.known.now.scope.now) (first_of c.args.known.now.labels.now) c.put_statement.result _ _ c.args.out.now c.put_statement.new.out (at-Label _ _ _ _ c.in-Label.is c.get.ensures) c.put_statement.ensures

pub put_statement-returns-in-Goto : goal.put_statement-returns-in-Goto
put_statement-returns-in-Goto t c =
    body-as (scope_of c.args.known.now.scope.now) (first_of c.args.known.now.labels.now) c.put_jump.result _ _ c.args.out.now c.put_jump.new.out (at-Goto _ _ _ c.in-Goto.is c.as_slice-in-Goto.ensures)
    (c.put_jump.ensures (scope_of c.args.known.now.scope.now))

pub put_statement-returns-in-Return : goal.put_statement-returns-in-Return
put_statement-returns-in-Return t c =
    body-as (scope_of c.args.known.now.scope.now) (first_of c.args.known.now.labels.now) c.put_return.result _ _ c.args.out.now c.put_return.new.out (at-Return _ _ c.in-Return.is) c.put_return.ensures

pub put_statement-returns-in-ReturnCall : goal.put_statement-returns-in-ReturnCall
put_statement-returns-in-ReturnCall t c =
    body-as (scope_of c.args.known.now.scope.now) (first_of c.args.known.now.labels.now) c.put_return_call.result _ _ c.args.out.now c.put_return_call.new.out (at-ReturnCall _ _ c.in-ReturnCall.is) c.put_return_call.ensures

pub put_statement-returns-in-None : goal.put_statement-returns-in-None
put_statement-returns-in-None t c =
    body-as (scope_of c.args.known.now.scope.now) (first_of c.args.known.now.labels.now) c.put_arm.result _ _ c.args.out.now c.put_arm.new.out (at-only _ _ _ _ _ c.in-If.is c.in-None.is c.as_slice-in-None.ensures)
    (body-same (scope_of c.args.known.now.scope.now) (first_of c.args.known.now.labels.now) c.put_arm.result _ _ c.args.out.now c.put_arm.new.out
    (only-same (scope_of c.args.known.now.scope.now) (first_of c.args.known.now.labels.now) c.in-If.test (body_of_all c.as_slice-in-None.result.now) c.args.out.now) c.put_arm.ensures)

pub put_statement-returns-in_err-put_arm-in-Some : goal.put_statement-returns-in_err-put_arm-in-Some
put_statement-returns-in_err-put_arm-in-Some t c =
    body-as (scope_of c.args.known.now.scope.now) (first_of c.args.known.now.labels.now) c.from_residual.result _ _ c.args.out.now c.put_arm-in-Some.new.out (at-both _ _ c.in-Some.second _ c.in-Some.second _ _ c.in-If.is c.in-Some.is c.as_slice-in-Some.ensures refl)
    (body-same (scope_of c.args.known.now.scope.now) (first_of c.args.known.now.labels.now) c.from_residual.result _ _ c.args.out.now c.put_arm-in-Some.new.out
    (both-same (scope_of c.args.known.now.scope.now) (first_of c.args.known.now.labels.now) c.in-If.test (body_of_all c.as_slice-in-Some.result.now) (body_of_all c.in-Some.second) c.args.out.now)
    (seq-lost (scope_of c.args.known.now.scope.now) (first_of c.args.known.now.labels.now) c.from_residual.result _ (guarded c.in-If.test (body_of_all c.as_slice-in-Some.result.now) 1) (skipped (body_of_all c.in-Some.second)) c.args.out.now c.put_arm-in-Some.new.out _ c.from_residual.ensures.1 c.in_err-put_arm-in-Some.ensures))

pub put_statement-returns-in_ok-put_arm-in-Some : goal.put_statement-returns-in_ok-put_arm-in-Some
put_statement-returns-in_ok-put_arm-in-Some t c =
    body-as (scope_of c.args.known.now.scope.now) (first_of c.args.known.now.labels.now) c.put_other_arm.result _ _ c.args.out.now c.put_other_arm.new.out (at-both _ _ _ _ _ _ _ c.in-If.is c.in-Some.is c.as_slice-in-Some.ensures c.as_slice-in-Some-2.ensures)
    (body-same (scope_of c.args.known.now.scope.now) (first_of c.args.known.now.labels.now) c.put_other_arm.result _ _ c.args.out.now c.put_other_arm.new.out
    (both-same (scope_of c.args.known.now.scope.now) (first_of c.args.known.now.labels.now) c.in-If.test (body_of_all c.as_slice-in-Some.result.now) (body_of_all c.as_slice-in-Some-2.result.now) c.args.out.now)
    (body-more (scope_of c.args.known.now.scope.now) (first_of c.args.known.now.labels.now) c.put_other_arm.result (guarded c.in-If.test (body_of_all c.as_slice-in-Some.result.now) 1) (skipped (body_of_all c.as_slice-in-Some-2.result.now)) c.args.out.now c.put_arm-in-Some.new.out c.put_other_arm.new.out
    c.in_ok-put_arm-in-Some.ensures c.put_other_arm.ensures))

pub put_statement-returns-in-Switch : goal.put_statement-returns-in-Switch
put_statement-returns-in-Switch t c =
    body-as (scope_of c.args.known.now.scope.now) (first_of c.args.known.now.labels.now) c.put_switch.result _ _ c.args.out.now c.put_switch.new.out (at-Switch _ _ _ _ c.in-Switch.is c.as_slice-in-Switch.ensures) c.put_switch.ensures

pub put_statement-returns-in-For : goal.put_statement-returns-in-For
put_statement-returns-in-For t c =
    body-as (scope_of c.args.known.now.scope.now) (first_of c.args.known.now.labels.now) c.put_for.result _ _ c.args.out.now c.put_for.new.out (at-For _ _ _ _ _ _ _ c.in-For.is c.as_slice-in-For.ensures) c.put_for.ensures

pub put_statement-returns-in-DoWhile : goal.put_statement-returns-in-DoWhile
put_statement-returns-in-DoWhile t c =
    body-as (scope_of c.args.known.now.scope.now) (first_of c.args.known.now.labels.now) c.put_do_while.result _ _ c.args.out.now c.put_do_while.new.out (at-DoWhile _ _ _ _ c.in-DoWhile.is c.as_slice-in-DoWhile.ensures) c.put_do_while.ensures

pub put_arm-returns-in_err-put_test : goal.put_arm-returns-in_err-put_test
put_arm-returns-in_err-put_test t c =
    body-same (scope_of c.args.known.now.scope.now) (first_of c.args.known.now.labels.now) c.from_residual.result _ _ c.args.out.now c.put_test.new.out
    (guarded-same (scope_of c.args.known.now.scope.now) (first_of c.args.known.now.labels.now) c.args.test.now (body_of_all c.args.arm.now) c.args.gap c.args.out.now)
    (seq-lost (scope_of c.args.known.now.scope.now) (first_of c.args.known.now.labels.now) c.from_residual.result _ (tested_at c.args.test.now (length c.args.out.now.items) (body_of_all c.args.arm.now).size c.args.gap) (body_of_all c.args.arm.now) c.args.out.now c.put_test.new.out _ c.from_residual.ensures.1 c.in_err-put_test.ensures)

pub put_arm-returns : goal.put_arm-returns
put_arm-returns t c =
    body-same (scope_of c.args.known.now.scope.now) (first_of c.args.known.now.labels.now) c.put_statements.result _ _ c.args.out.now c.put_statements.new.out
    (guarded-same (scope_of c.args.known.now.scope.now) (first_of c.args.known.now.labels.now) c.args.test.now (body_of_all c.args.arm.now) c.args.gap c.args.out.now)
    (body-more (scope_of c.args.known.now.scope.now) (first_of c.args.known.now.labels.now) c.put_statements.result (tested_at c.args.test.now (length c.args.out.now.items) (body_of_all c.args.arm.now).size c.args.gap) (body_of_all c.args.arm.now) c.args.out.now c.put_test.new.out c.put_statements.new.out c.in_ok-put_test.ensures c.put_statements.ensures)

pub put_other_arm-returns-in_err-put_jump_behind : goal.put_other_arm-returns-in_err-put_jump_behind
put_other_arm-returns-in_err-put_jump_behind t c =
    body-same (scope_of c.args.known.now.scope.now) (first_of c.args.known.now.labels.now) c.from_residual.result _ _ c.args.out.now c.put_jump_behind.new.out
    (skipped-same (scope_of c.args.known.now.scope.now) (first_of c.args.known.now.labels.now) (body_of_all c.args.arm.now) c.args.out.now)
    (seq-lost (scope_of c.args.known.now.scope.now) (first_of c.args.known.now.labels.now) c.from_residual.result _ (gone (length c.args.out.now.items + 1 + (body_of_all c.args.arm.now).size)) (body_of_all c.args.arm.now) c.args.out.now c.put_jump_behind.new.out _ c.from_residual.ensures.1 c.in_err-put_jump_behind.ensures)

pub put_other_arm-returns : goal.put_other_arm-returns
put_other_arm-returns t c =
    body-same (scope_of c.args.known.now.scope.now) (first_of c.args.known.now.labels.now) c.put_statements.result _ _ c.args.out.now c.put_statements.new.out
    (skipped-same (scope_of c.args.known.now.scope.now) (first_of c.args.known.now.labels.now) (body_of_all c.args.arm.now) c.args.out.now)
    (body-more (scope_of c.args.known.now.scope.now) (first_of c.args.known.now.labels.now) c.put_statements.result (gone (length c.args.out.now.items + 1 + (body_of_all c.args.arm.now).size)) (body_of_all c.args.arm.now) c.args.out.now c.put_jump_behind.new.out c.put_statements.new.out c.in_ok-put_jump_behind.ensures c.put_statements.ensures)

pub put_for-returns-in_err-put_assignment : goal.put_for-returns-in_err-put_assignment
put_for-returns-in_err-put_assignment t c =
    body-same (scope_of c.args.known.now.scope.now) (first_of c.args.known.now.labels.now) c.from_residual.result _ _ c.args.out.now c.put_assignment.new.out
    (for-same (scope_of c.args.known.now.scope.now) (first_of c.args.known.now.labels.now) c.args.variable.now c.args.first.now c.args.test.now c.args.after.now (body_of_all c.args.turn.now) c.args.out.now)
    (seq-lost (scope_of c.args.known.now.scope.now) (first_of c.args.known.now.labels.now) c.from_residual.result _ (one (joined flat.Assign (linked c.args.variable.now) (linked c.args.first.now))) (turns c.args.test.now (body_of_all c.args.turn.now) c.args.after.now) c.args.out.now c.put_assignment.new.out _ c.from_residual.ensures.1 c.in_err-put_assignment.ensures)

pub put_for-returns : goal.put_for-returns
put_for-returns t c =
    body-same (scope_of c.args.known.now.scope.now) (first_of c.args.known.now.labels.now) c.put_turns.result _ _ c.args.out.now c.put_turns.new.out
    (for-same (scope_of c.args.known.now.scope.now) (first_of c.args.known.now.labels.now) c.args.variable.now c.args.first.now c.args.test.now c.args.after.now (body_of_all c.args.turn.now) c.args.out.now)
    (body-more (scope_of c.args.known.now.scope.now) (first_of c.args.known.now.labels.now) c.put_turns.result (one (joined flat.Assign (linked c.args.variable.now) (linked c.args.first.now))) (turns c.args.test.now (body_of_all c.args.turn.now) c.args.after.now) c.args.out.now c.put_assignment.new.out c.put_turns.new.out c.in_ok-put_assignment.ensures c.put_turns.ensures)

pub put_turns-returns-in_err-put_arm : goal.put_turns-returns-in_err-put_arm
put_turns-returns-in_err-put_arm t c =
    body-same (scope_of c.args.known.now.scope.now) (first_of c.args.known.now.labels.now) c.from_residual.result _ _ c.args.out.now c.put_arm.new.out
    (turns-same (scope_of c.args.known.now.scope.now) (first_of c.args.known.now.labels.now) c.args.test.now (body_of_all c.args.turn.now) c.args.after.now c.len-start.result c.args.out.now c.len-start.ensures)
    (seq-lost (scope_of c.args.known.now.scope.now) (first_of c.args.known.now.labels.now) c.from_residual.result _ (guarded c.args.test.now (body_of_all c.args.turn.now) 2) (sequence (one (next_item c.args.after.now)) (gone c.len-start.result)) c.args.out.now c.put_arm.new.out _ c.from_residual.ensures.1 c.in_err-put_arm.ensures)

pub put_turns-returns-in_err-put_next : goal.put_turns-returns-in_err-put_next
put_turns-returns-in_err-put_next t c =
    body-same (scope_of c.args.known.now.scope.now) (first_of c.args.known.now.labels.now) c.from_residual-in_err-put_next.result _ _ c.args.out.now c.put_next.new.out
    (turns-same (scope_of c.args.known.now.scope.now) (first_of c.args.known.now.labels.now) c.args.test.now (body_of_all c.args.turn.now) c.args.after.now c.len-start.result c.args.out.now c.len-start.ensures)
    (body-more (scope_of c.args.known.now.scope.now) (first_of c.args.known.now.labels.now) c.from_residual-in_err-put_next.result (guarded c.args.test.now (body_of_all c.args.turn.now) 2) (sequence (one (next_item c.args.after.now)) (gone c.len-start.result)) c.args.out.now c.put_arm.new.out c.put_next.new.out c.in_ok-put_arm.ensures
    (seq-lost (scope_of c.args.known.now.scope.now) (first_of c.args.known.now.labels.now) c.from_residual-in_err-put_next.result _ (one (next_item c.args.after.now)) (gone c.len-start.result) c.put_arm.new.out c.put_next.new.out _ c.from_residual-in_err-put_next.ensures.1 c.in_err-put_next.ensures))

pub put_turns-returns : goal.put_turns-returns
put_turns-returns t c =
    body-same (scope_of c.args.known.now.scope.now) (first_of c.args.known.now.labels.now) c.put.result _ _ c.args.out.now c.put.new.out
    (turns-same (scope_of c.args.known.now.scope.now) (first_of c.args.known.now.labels.now) c.args.test.now (body_of_all c.args.turn.now) c.args.after.now c.len-start.result c.args.out.now c.len-start.ensures)
    (body-more (scope_of c.args.known.now.scope.now) (first_of c.args.known.now.labels.now) c.put.result (guarded c.args.test.now (body_of_all c.args.turn.now) 2) (sequence (one (next_item c.args.after.now)) (gone c.len-start.result)) c.args.out.now c.put_arm.new.out c.put.new.out c.in_ok-put_arm.ensures
    (body-more (scope_of c.args.known.now.scope.now) (first_of c.args.known.now.labels.now) c.put.result (one (next_item c.args.after.now)) (gone c.len-start.result) c.put_arm.new.out c.put_next.new.out c.put.new.out c.in_ok-put_next.ensures c.put.ensures))

pub put_do_while-returns-in_err-put_statements : goal.put_do_while-returns-in_err-put_statements
put_do_while-returns-in_err-put_statements t c =
    seq-lost (scope_of c.args.known.now.scope.now) (first_of c.args.known.now.labels.now) c.from_residual.result _ (body_of_all c.args.turn.now) (one (drafted (λ term. flat.Branch term (length c.args.out.now.items) (length c.args.out.now.items + (body_of_all c.args.turn.now).size + 1)) (linked c.args.test.now))) c.args.out.now c.put_statements.new.out _ c.from_residual.ensures.1 c.in_err-put_statements.ensures

pub put_do_while-returns : goal.put_do_while-returns
put_do_while-returns t c =
    body-same (scope_of c.args.known.now.scope.now) (first_of c.args.known.now.labels.now) c.put_branch.result _ _ c.args.out.now c.put_branch.new.out
    (do-same (scope_of c.args.known.now.scope.now) (first_of c.args.known.now.labels.now) (body_of_all c.args.turn.now) c.args.test.now c.len-start.result c.in_ok-off.off c.args.out.now c.put_statements.new.out c.len-start.ensures c.in_ok-put_statements.ensures.count (c.in_ok-off.ensures ∙ ap (λ n. n + 1) c.len.ensures))
    (body-more (scope_of c.args.known.now.scope.now) (first_of c.args.known.now.labels.now) c.put_branch.result (body_of_all c.args.turn.now) (branched c.args.test.now c.len-start.result c.in_ok-off.off) c.args.out.now c.put_statements.new.out c.put_branch.new.out c.in_ok-put_statements.ensures c.put_branch.ensures)

pub put_statements-loop-one-init : goal.put_statements-loop-one-init
put_statements-loop-one-init t c = λ r z h. h

pub put_statements-loop-one-preserved : goal.put_statements-loop-one-preserved
put_statements-loop-one-preserved t c =
    list-more (scope_of c.args.known.now.scope.now) (first_of c.args.known.now.labels.now) c.args.list.now c.loop-one.one-index c.one-item.result c.args.out.now c.loop-one.out c.put_statement.new.out
    c.loop-one-test.true c.one-item.is c.loop-one.invariant c.in_ok-put_statement.ensures

pub put_statements-returns-in_err-put_statement : goal.put_statements-returns-in_err-put_statement
put_statements-returns-in_err-put_statement t c =
    list-lost (scope_of c.args.known.now.scope.now) (first_of c.args.known.now.labels.now) c.args.list.now c.loop-one.one-index c.from_residual.result _ c.one-item.result c.args.out.now c.loop-one.out c.put_statement.new.out _
    c.loop-one-test.true c.one-item.is c.loop-one.invariant c.from_residual.ensures.1 c.in_err-put_statement.ensures

pub put_statements-returns : goal.put_statements-returns
put_statements-returns t c =
    list-end (scope_of c.args.known.now.scope.now) (first_of c.args.known.now.labels.now) c.args.list.now c.loop-one.one-index c.args.out.now c.loop-one.out (omega arith) c.loop-one.invariant
