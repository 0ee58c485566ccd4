use Rattle.std.specs.Prelude.{List}
use Rattle.std.specs.Global.{Vec}
use Rattle.std.proofs.Common.{sym, ap, ◌∙◌}
use Rattle.unit_writer.specs.declared.heading.Dummy.{Dummy}
use Rattle.translator.specs.UnitFiles.{parameter_in}
use Rattle.translator.proofs.HeadingLemmas.{dummies_from, dummy_put, dummy_passed, dummies_kept, dummies_end}
use Rattle.translator.proofs.heading.dummies.Goals as goal
use Rattle.translator.proofs.heading.dummies.Goals.{in-Named+in_ok-push, in_default}

pub loop-dummy-init : goal.loop-dummy-init
loop-dummy-init c u signs table = ap (λ (os : List Dummy). dummies_from u os c.args.dummies.now) (sym c.new-found.ensures.items)

pub loop-dummy-preserved : goal.loop-dummy-preserved
loop-dummy-preserved c u signs table = elim c.match-dummy.branch [
  | in-Named+in_ok-push w ↦
      dummy_put u c.args.dummies.now c.loop-dummy.dummy-index c.dummy-item.result _ _ c.loop-dummy.found.items c.match-dummy.found.items _ _ c.loop-dummy-test.true c.dummy-item.is
      w.in-Named.is w.as_slice-name.ensures (w.parameter-parameter.ensures u signs table ∙ ap (parameter_in u) w.as_slice-name.ensures)
      (ap (λ (v : Vec Dummy). v.items) w.found-is ∙ w.in_ok-push.ensures.items) (c.loop-dummy.invariant u signs table)
  | in_default w ↦
      dummies_kept u c.args.dummies.now c.loop-dummy.dummy-index c.loop-dummy.found.items c.match-dummy.found.items _ (ap (λ (v : Vec Dummy). v.items) w.found-is)
      (dummy_passed u c.args.dummies.now c.loop-dummy.dummy-index c.dummy-item.result _ c.loop-dummy.found.items _ c.loop-dummy-test.true c.dummy-item.is w.in_default.not-Named (c.loop-dummy.invariant u signs table))
]

pub returns : goal.returns
returns c u signs table = dummies_end u c.args.dummies.now c.loop-dummy.dummy-index c.loop-dummy.found.items c.loop-dummy-test.false (c.loop-dummy.invariant u signs table)
