use Rattle.std.proofs.Common.{[], ◌∷◌}
use Rattle.c_tree.specs.Builtins.{i_not}
use Rattle.unit_library.specs.Arguments.{front}
use Rattle.unit_library.proofs.ArgumentLaws.{one-given}
use Rattle.unit_library.proofs.ObjectLaws.{number-call}
use Rattle.unit_library.proofs.numbers.complement.Goals as goal

pub returns : goal.returns
returns c =
    number-call i_not (c.argument-number.result ∷ []) (front 1 0 c.args.values.now) c.args.run.now c.i_not.result c.given.result
    (one-given c.args.values.now c.argument-number.result c.argument-number.ensures) c.given.ensures c.i_not.ensures
