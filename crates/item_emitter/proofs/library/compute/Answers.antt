use Rattle.std.proofs.Common.{option_map}
use Rattle.c_emit.specs.LibraryFunctions.{library_function}
use Rattle.lowered_tree.specs.Shapes.{function_of, pures_of}
use Rattle.library_functions.specs.Described.{described}
use Rattle.item_emission.specs.NamedEmission.{temporary_expr}
use Rattle.item_emitter.specs.Knowing.{known_of}
use Rattle.item_emitter.proofs.LibraryForms.{computed-made}
use Rattle.item_emitter.proofs.library.compute.Goals as goal

pub returns : goal.returns
returns c =
    let known = known_of c.args.known.now in
    computed-made known _ (temporary_expr known c.args.number) (option_map described c.library_function.result) (library_function (function_of c.args.function)) _ (pures_of c.args.sources.now) c.called.result
    c.in_ok-target.ensures c.library_function.ensures c.in_ok-arguments.ensures c.called.ensures
