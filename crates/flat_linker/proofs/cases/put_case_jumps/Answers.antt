use Rattle.std.proofs.Common.{sym, ap, Ok, Err, arith}
use Rattle.c_tree.specs.FlatForm.{jump}
use Rattle.first_names.specs.FirstNames.{first_of}
use Rattle.flat_linker.proofs.PutLaws.{body-as}
use Rattle.flat_linker.proofs.LoopLaws.{case_jump, jumps-more, jumps-lost, jumps-end}
use Rattle.flat_linker.proofs.cases.put_case_jumps.Goals as goal

pub loop-case-init : goal.loop-case-init
loop-case-init c = λ scope r z h. h

pub loop-case-preserved : goal.loop-case-preserved
loop-case-preserved c = λ scope.
    jumps-more scope (first_of c.args.labels.now) c.args.cases.now c.loop-case.case-index c.case-item.result c.args.out.now c.loop-case.out c.put_jump.new.out c.loop-case-test.true c.case-item.is (c.loop-case.invariant scope)
    (body-as scope (first_of c.args.labels.now) (Ok tt) (jump c.as_slice.result.now) (case_jump c.case-item.result) c.loop-case.out c.put_jump.new.out (ap jump (sym c.as_slice.ensures)) (c.in_ok-put_jump.ensures scope))

pub returns-in_err-put_jump : goal.returns-in_err-put_jump
returns-in_err-put_jump c = λ scope.
    jumps-lost scope (first_of c.args.labels.now) c.args.cases.now c.loop-case.case-index c.from_residual.result _ c.case-item.result c.args.out.now c.loop-case.out c.put_jump.new.out _ c.loop-case-test.true c.case-item.is (c.loop-case.invariant scope)
    c.from_residual.ensures.1
    (body-as scope (first_of c.args.labels.now) (Err _) (jump c.as_slice.result.now) (case_jump c.case-item.result) c.loop-case.out c.put_jump.new.out (ap jump (sym c.as_slice.ensures)) (c.in_err-put_jump.ensures scope))

pub returns : goal.returns
returns c = λ scope. jumps-end scope (first_of c.args.labels.now) c.args.cases.now c.loop-case.case-index c.args.out.now c.loop-case.out (omega arith) (c.loop-case.invariant scope)
