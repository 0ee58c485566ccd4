use Rattle.std.proofs.Common.{[], ◌∷◌}
use Rattle.unit_library.specs.Functions.{number_builtin}
use Rattle.unit_library.specs.Arguments.{front}
use Rattle.unit_library.proofs.ArgumentLaws.{two-given}
use Rattle.unit_library.proofs.ObjectLaws.{number-call}
use Rattle.unit_library.proofs.numbers.numbers.Goals as goal

pub returns : goal.returns
returns c =
    number-call (number_builtin c.args.function) (c.argument-first.result ∷ c.argument-second.result ∷ []) (front 2 0 c.args.values.now) c.args.run.now c.number_of.result c.given.result
    (two-given c.args.values.now c.argument-first.result c.argument-second.result c.argument-first.ensures c.argument-second.ensures) c.given.ensures c.number_of.ensures
