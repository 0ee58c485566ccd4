use Rattle.std.proofs.Common.{map, length, ap, ◌∙◌, ◌++◌}
use Rattle.c_tree.specs.Declarations.{string_object}
use Rattle.expression_linker.specs.StringsSeen.{texts}
use Rattle.first_names.specs.FirstNames.{first_of}
use Rattle.linked_programs.specs.LinkedPrograms.{object_of}
use Rattle.run_bytes.specs.Accesses.{object_at_first}
use Rattle.function_linker.specs.LinkedFunctions.{file_names}
use Rattle.function_linker.proofs.FunctionLaws.{objects-at, fresh-made}
use Rattle.function_linker.proofs.functions.put_objects.Goals as goal

pub returns-clause-objects : goal.returns-clause-objects
returns-clause-objects c = λ own.
    objects-at (first_of c.args.numbers.now) own c.len-base.result (length c.args.objects.now) c.in_ok-places.places.string c.in_ok-places.places.frame (file_names c.args.names.now) c.args.function.now
    (map object_of c.args.objects.now) (map object_of c.put_names.new.objects) (map object_of c.put_string_objects.new.objects) (map object_of c.put_fresh.new.objects) (map object_at_first c.in_ok-fresh.fresh)
    c.len-base.ensures c.in_ok-places.ensures.string c.in_ok-places.ensures.frame c.in_ok-put_names.ensures.objects
    (c.in_ok-put_string_objects.ensures
    ∙ ap (λ strings. map object_of c.put_names.new.objects ++ map string_object strings) (ap texts c.as_slice-2.ensures.value ∙ c.in_ok-strings.ensures))
    c.in_ok-fresh.ensures
    (c.in_ok-put_fresh.ensures ∙ ap (λ kinds. map object_of c.put_string_objects.new.objects ++ map object_at_first kinds) c.as_slice-3.ensures)

pub returns-clause-fresh : goal.returns-clause-fresh
returns-clause-fresh c = λ own.
    fresh-made (first_of c.args.numbers.now) own (length c.args.objects.now) (file_names c.args.names.now) c.args.function.now (map object_at_first c.in_ok-fresh.fresh) c.in_ok-fresh.ensures
