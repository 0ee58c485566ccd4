use Rattle.std.proofs.Common.{[], ◌∷◌}
use Rattle.unit_library.specs.Functions.{text_builtin}
use Rattle.unit_library.specs.Arguments.{front}
use Rattle.unit_library.proofs.ArgumentLaws.{four-given}
use Rattle.unit_library.proofs.ObjectLaws.{number-call}
use Rattle.unit_library.proofs.texts.texts.Goals as goal

pub returns : goal.returns
returns c =
    number-call (text_builtin c.args.function)
    (c.argument-first.result ∷ c.argument-second.result ∷ c.argument-first_length.result ∷ c.argument-second_length.result ∷ []) (front 4 0 c.args.values.now) c.args.run.now
    c.number_of_texts.result c.given.result
    (four-given c.args.values.now c.argument-first.result c.argument-second.result c.argument-first_length.result c.argument-second_length.result c.argument-first.ensures
    c.argument-second.ensures c.argument-first_length.ensures c.argument-second_length.ensures) c.given.ensures c.number_of_texts.ensures
