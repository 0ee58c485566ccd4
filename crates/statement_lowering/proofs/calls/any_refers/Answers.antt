use Rattle.std.proofs.Common.{refl, sym, ◌∙◌}
use Rattle.statement_lowering.proofs.CallLaws.{covered-argument, covered-behind, refers-found, refers-skip, refers-behind}
use Rattle.statement_lowering.proofs.calls.any_refers.Goals as goal

pub has_reference-requires : goal.has_reference-requires
has_reference-requires c =
    covered-argument c.args.table.now c.args.es.now c.loop-e.e-index c.e-item.result c.loop-e-test.true c.e-item.is c.loop-e.invariant.covered

pub loop-e-init : goal.loop-e-init
loop-e-init c = record { covered = c.requires; same = λ names told. refl }

pub loop-e-preserved : goal.loop-e-preserved
loop-e-preserved c = record {
  covered = covered-behind c.args.table.now c.args.es.now c.loop-e.e-index c.e-item.result c.loop-e-test.true c.e-item.is c.loop-e.invariant.covered;
  same = λ names told.
      sym (refers-skip names c.args.es.now c.loop-e.e-index c.e-item.result c.has_reference.result c.loop-e-test.true c.e-item.is (c.has_reference.ensures names told)
      c.if-has_reference.false)
      ∙ c.loop-e.invariant.same names told;
}

pub returns-then-has_reference : goal.returns-then-has_reference
returns-then-has_reference c = λ names told.
    sym (refers-found names c.args.es.now c.loop-e.e-index c.e-item.result c.has_reference.result c.loop-e-test.true c.e-item.is (c.has_reference.ensures names told)
    c.if-has_reference.true)
    ∙ c.loop-e.invariant.same names told

pub returns : goal.returns
returns c = λ names told. sym (refers-behind names c.args.es.now c.loop-e.e-index c.loop-e-test.false) ∙ c.loop-e.invariant.same names told
