use Rattle.std.proofs.Common.{ap, ◌∙◌, arith}
use Rattle.c_tree.specs.Terms.{Unknown}
use Rattle.first_names.specs.FirstNames.{first_of}
use Rattle.expression_linker.specs.NamesInScope.{term_or}
use Rattle.function_linker.specs.LinkedFunctions.{file_names}
use Rattle.c_linker.proofs.FunctionLaws.{functions-on, functions-lost, functions-end}
use Rattle.c_linker.proofs.functions.link_functions.Goals as goal

pub returns-in_err-link_next : goal.returns-in_err-link_next
returns-in_err-link_next c = λ own.
    functions-lost (first_of c.args.numbers.now) own (file_names c.args.names.now) (file_names c.loop-function.names) _ c.from_residual.result _ c.loop-function.function-index c.args.list.now c.function-item.result c.args.functions.now
    c.loop-function.functions c.link_next.new.functions c.link_next.new.functions c.args.objects.now c.loop-function.objects c.link_next.new.objects c.link_next.new.objects c.loop-function.invariant.same_names c.loop-function-test.true
    c.function-item.is (c.loop-function.invariant.linked own) c.from_residual.ensures.1 (c.in_err-link_next.ensures.made own)

pub loop-function-preserved : goal.loop-function-preserved
loop-function-preserved c = record {
  same_names = λ q. ap (λ z. term_or z Unknown) (c.in_ok-link_next.ensures.file q) ∙ c.loop-function.invariant.same_names q;
  linked = λ own.
      functions-on (first_of c.args.numbers.now) own (file_names c.args.names.now) (file_names c.loop-function.names) _ c.loop-function.function-index c.args.list.now c.function-item.result c.args.functions.now c.loop-function.functions
      c.link_next.new.functions c.args.objects.now c.loop-function.objects c.link_next.new.objects c.loop-function.invariant.same_names c.loop-function-test.true c.function-item.is (c.loop-function.invariant.linked own)
      (c.in_ok-link_next.ensures.made own);
}

pub returns : goal.returns
returns c = λ own.
    functions-end (first_of c.args.numbers.now) own (file_names c.args.names.now) _ c.loop-function.function-index c.args.list.now c.args.functions.now c.loop-function.functions c.args.objects.now c.loop-function.objects (omega arith)
    (c.loop-function.invariant.linked own)
