use Rattle.std.proofs.Common.{◌≡◌, true, false, arith}
use Rattle.c_tree.specs.Steps as steps
use Rattle.call_frames.proofs.FrameLists.{clear-forms, forms-after}
use Rattle.call_frames.proofs.StartLaws.{started, not-started}
use Rattle.call_frames.proofs.frames.start.Goals as goal

pub returns-then-not-all_fit-clause-meaning : goal.returns-then-not-all_fit-clause-meaning
returns-then-not-all_fit-clause-meaning c =
    let fit : steps.all_fit c.as_slice.result.now c.args.values.now ≡ false = grind (arith, c.all_fit.ensures, c.if-not-all_fit.true) in
    λ own number units transfer. not-started c.args.function.now c.args.values.now c.as_slice.result.now c.args.run.now c.as_slice.ensures fit own number units transfer

pub returns-clause-meaning : goal.returns-clause-meaning
returns-clause-meaning c =
    let fit : steps.all_fit c.as_slice-2.result.now c.args.values.now ≡ true = grind (arith, c.all_fit.ensures, c.if-not-all_fit.false, c.as_slice.ensures, c.as_slice-2.ensures) in
    λ own number units transfer.
    started c.args.function.now c.args.values.now c.as_slice-2.result.now c.len.result c.args.run.now c.clear.new.run c.bind.new.run c.first_view.result c.requires c.as_slice-2.ensures c.len.ensures fit
    c.clear.ensures c.bind.ensures.bound c.first_view.ensures own number units transfer

pub returns-clause-forms : goal.returns-clause-forms
returns-clause-forms c =
    forms-after c.args.run.now c.clear.new.run c.bind.new.run (clear-forms c.args.function.now.frame c.len.result c.args.run.now c.clear.new.run c.clear.ensures) c.bind.ensures.forms
