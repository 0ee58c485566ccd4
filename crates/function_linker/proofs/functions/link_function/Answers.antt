use Rattle.std.proofs.Common.{map, length}
use Rattle.expression_linker.specs.NamesInScope.{scope_of}
use Rattle.first_names.specs.FirstNames.{first_of}
use Rattle.linked_terms.specs.LinkedItems.{flat_of}
use Rattle.run_bytes.specs.Accesses.{object_at_first}
use Rattle.function_linker.specs.LinkedFunctions.{file_names}
use Rattle.function_linker.proofs.FunctionLaws.{function-lost, function-linked}
use Rattle.function_linker.proofs.functions.link_function.Goals as goal

pub returns-in_err-code-clause-made : goal.returns-in_err-code-clause-made
returns-in_err-code-clause-made c = λ own.
    function-lost c.from_residual-in_err-code.result (first_of c.args.numbers.now) own (length c.args.objects.now) c.in_ok-frame.frame.body (file_names c.args.names.now) (scope_of c.put_objects.new.names) c.args.function.now
    c.as_slice.result.now c.args.objects.now c.put_objects.new.objects _ c.in_ok-frame.ensures.names c.in_ok-frame.ensures.body c.as_slice.ensures c.from_residual-in_err-code.ensures.1 c.in_err-code.ensures

pub returns-clause-made : goal.returns-clause-made
returns-clause-made c = λ own.
    function-linked (first_of c.args.numbers.now) own (length c.args.objects.now) c.in_ok-frame.frame.body (file_names c.args.names.now) (scope_of c.put_objects.new.names) c.args.function.now
    c.as_slice.result.now c.args.objects.now c.put_objects.new.objects (map object_at_first c.in_ok-frame.frame.fresh) (map flat_of c.in_ok-code.code) c.in_ok-with_code.field-0 c.in_ok-frame.frame.first
    c.in_ok-frame.ensures.names c.in_ok-frame.ensures.body c.in_ok-frame.ensures.first c.as_slice.ensures (c.in_ok-frame.ensures.fresh own) (c.in_ok-frame.ensures.objects own) c.in_ok-code.ensures (c.in_ok-with_code.ensures own)
