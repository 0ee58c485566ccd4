use Rattle.std.proofs.Common.{[], ◌∷◌}
use Rattle.c_tree.specs.Builtins.{s_copy}
use Rattle.unit_library.specs.Arguments.{front}
use Rattle.unit_library.proofs.ArgumentLaws.{four-given}
use Rattle.unit_library.proofs.ObjectLaws.{copy-call}
use Rattle.unit_library.proofs.TextForms.{assign-forms}
use Rattle.unit_library.proofs.copies.assign.Goals as goal

pub returns : goal.returns
returns c =
    copy-call s_copy (c.argument-target.result ∷ c.argument-source.result ∷ c.argument-target_length.result ∷ c.argument-source_length.result ∷ []) (front 4 0 c.args.values.now)
    c.args.run.now c.s_copy.new.run c.s_copy.result c.done.result
    (four-given c.args.values.now c.argument-target.result c.argument-source.result c.argument-target_length.result c.argument-source_length.result c.argument-target.ensures
    c.argument-source.ensures c.argument-target_length.ensures c.argument-source_length.ensures) c.done.ensures
    (assign-forms c.args.run.now c.s_copy.new.run c.argument-target.result c.argument-source.result c.argument-target_length.result c.argument-source_length.result c.s_copy.result
    c.s_copy.ensures) c.s_copy.ensures
