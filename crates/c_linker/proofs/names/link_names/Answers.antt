use Rattle.first_names.specs.FirstNames.{first_of}
use Rattle.c_linker.proofs.HidingSteps.{file-named}
use Rattle.c_linker.proofs.names.link_names.Goals as goal

pub returns-clause-names : goal.returns-clause-names
returns-clause-names c =
    file-named c.clear.new.self c.link_constants.new.names c.give_externals.new.names c.give_functions.new.names c.give_included.new.names (first_of c.args.numbers.now) (first_of c.args.places.now) _ c.args.file.now c.as_slice.result.now
    c.as_slice-2.result.now c.as_slice-3.result.now c.as_slice.ensures c.as_slice-2.ensures c.as_slice-3.ensures c.clear.ensures c.in_ok-link_constants.ensures.names c.in_ok-give_externals.ensures c.in_ok-give_functions.ensures c.in_ok-give_included.ensures
