use Rattle.std.proofs.Common.{[], ◌∷◌}
use Rattle.c_tree.specs.Builtins.{s_cat}
use Rattle.unit_library.specs.Arguments.{front}
use Rattle.unit_library.proofs.ArgumentLaws.{five-given}
use Rattle.unit_library.proofs.ObjectLaws.{copy-call}
use Rattle.unit_library.proofs.TextForms.{join-forms}
use Rattle.unit_library.proofs.copies.join.Goals as goal

pub returns : goal.returns
returns c =
    copy-call s_cat
    (c.argument-target.result ∷ c.argument-addresses.result ∷ c.argument-lengths.result ∷ c.argument-count.result ∷ c.argument-target_length.result ∷ []) (front 5 0 c.args.values.now)
    c.args.run.now c.s_cat.new.run c.s_cat.result c.done.result
    (five-given c.args.values.now c.argument-target.result c.argument-addresses.result c.argument-lengths.result c.argument-count.result c.argument-target_length.result
    c.argument-target.ensures c.argument-addresses.ensures c.argument-lengths.ensures c.argument-count.ensures c.argument-target_length.ensures) c.done.ensures
    (join-forms c.args.run.now c.s_cat.new.run c.argument-target.result c.argument-addresses.result c.argument-lengths.result c.argument-count.result c.argument-target_length.result
    c.s_cat.result c.s_cat.ensures) c.s_cat.ensures
