use Rattle.std.proofs.Common.{map}
use Rattle.first_names.specs.FirstNames.{first_of}
use Rattle.expression_linker.specs.declared.scope.NameScope.{NameScope}
use Rattle.linked_programs.specs.LinkedPrograms.{object_of}
use Rattle.function_linker.specs.declared.numbers.NextNumbers.{NextNumbers}
use Rattle.function_linker.proofs.ScopeLaws.{on-ok, entered, objects-in, scope-in}
use Rattle.function_linker.proofs.scopes.put_names.Goals as goal

pub returns-clause-objects : goal.returns-clause-objects
returns-clause-objects c =
    let start : NextNumbers = record { lasting = c.args.base; string = c.args.places.string; frame = c.in_ok-frame.frame } in
    let names : NameScope = record c.forget_function.new.names { frame = c.give_parameters.new.names } in
    on-ok c.put_locals.result
    (objects-in (first_of c.args.numbers.now) c.args.base c.args.places.frame c.args.function.now.params start c.args.names.now names c.args.function.now.locals c.as_slice-2.result.now (map object_of c.args.objects.now) (map object_of c.put_locals.new.objects)
    (entered c.args.base c.args.places.frame c.in_ok-frame.frame c.args.places.string c.args.function.now.params c.as_slice.result.now c.args.names.now c.forget_function.new.names c.give_parameters.new.names
    c.forget_function.ensures.lasting c.forget_function.ensures.frame c.forget_function.ensures.functions c.forget_function.ensures.file c.as_slice.ensures c.in_ok-frame.ensures.given c.in_ok-frame.ensures.behind)
    c.as_slice-2.ensures)
    c.put_locals.ensures.objects

pub returns-clause-names : goal.returns-clause-names
returns-clause-names c =
    let start : NextNumbers = record { lasting = c.args.base; string = c.args.places.string; frame = c.in_ok-frame.frame } in
    let names : NameScope = record c.forget_function.new.names { frame = c.give_parameters.new.names } in
    on-ok c.put_locals.result
    (scope-in (first_of c.args.numbers.now) c.args.base c.args.places.frame c.args.function.now.params start c.args.names.now names c.put_locals.new.names c.args.function.now.locals c.as_slice-2.result.now
    (entered c.args.base c.args.places.frame c.in_ok-frame.frame c.args.places.string c.args.function.now.params c.as_slice.result.now c.args.names.now c.forget_function.new.names c.give_parameters.new.names
    c.forget_function.ensures.lasting c.forget_function.ensures.frame c.forget_function.ensures.functions c.forget_function.ensures.file c.as_slice.ensures c.in_ok-frame.ensures.given c.in_ok-frame.ensures.behind)
    c.as_slice-2.ensures)
    c.put_locals.ensures.given
