use Rattle.std.proofs.Common.{ap, ◌∙◌, ◌++◌, map}
use Rattle.c_tree.specs.Linking.{routines, external_object}
use Rattle.linked_programs.specs.LinkedPrograms.{object_of}
use Rattle.first_names.specs.FirstNames.{first_of}
use Rattle.external_linker.specs.Externals.{externals_of}
use Rattle.c_linker.proofs.ProgramLaws.{program-made, program-lost}
use Rattle.expression_linker.specs.StringsSeen.{texts}
use Rattle.c_linker.proofs.program.link_files.Goals as goal

pub returns-in_err-link_each : goal.returns-in_err-link_each
returns-in_err-link_each c =
    program-lost c.args.files.now (first_of c.in_ok-numbers.numbers) (first_of c.in_ok-outside.outside.numbers) c.from_residual-in_err-link_each.result _ c.new-functions.result c.link_each.new.functions c.new-objects.result c.put_external_objects.new.out
    c.link_each.new.objects
    (record {
      numbered = λ q. c.in_ok-numbers.ensures q ∙ ap (λ z. routines z q) (ap texts c.as_slice.ensures.value ∙ c.in_ok-defined.ensures);
      placed = c.in_ok-outside.ensures.numbers;
      no_functions = c.new-functions.ensures;
      no_objects = c.new-objects.ensures;
      outside_put = c.in_ok-put_external_objects.ensures ∙ ap (λ z. map object_of c.new-objects.result ++ map external_object z) (ap externals_of c.as_slice-2.ensures.value ∙ c.in_ok-outside.ensures.objects);
    }) c.from_residual-in_err-link_each.ensures.1 c.in_err-link_each.ensures

pub returns : goal.returns
returns c =
    program-made c.args.files.now (first_of c.in_ok-numbers.numbers) (first_of c.in_ok-outside.outside.numbers) c.new-functions.result c.link_each.new.functions c.new-objects.result c.put_external_objects.new.out c.link_each.new.objects
    (record {
      numbered = λ q. c.in_ok-numbers.ensures q ∙ ap (λ z. routines z q) (ap texts c.as_slice.ensures.value ∙ c.in_ok-defined.ensures);
      placed = c.in_ok-outside.ensures.numbers;
      no_functions = c.new-functions.ensures;
      no_objects = c.new-objects.ensures;
      outside_put = c.in_ok-put_external_objects.ensures ∙ ap (λ z. map object_of c.new-objects.result ++ map external_object z) (ap externals_of c.as_slice-2.ensures.value ∙ c.in_ok-outside.ensures.objects);
    }) c.in_ok-link_each.ensures
