use Rattle.std.proofs.Common.{refl}
use Rattle.definition_judge.proofs.DefinitionLaws.{judged_in, seen_in}
use Rattle.definition_judge.proofs.FunctionLemmas.{keeps_by, none_known, none_bound}
use Rattle.definition_judge.proofs.judge.definition_fault.Goals as goal

pub judge_statements-requires-clause-functions : goal.judge_statements-requires-clause-functions
judge_statements-requires-clause-functions c = none_known c.args.names.now c.requires.functions

pub returns-clause-fault : goal.returns-clause-fault
returns-clause-fault c =
    (judged_in c.args.unit.now c.as_slice.result.now c.args.unit.now.statements c.judge_statements.new.names c.in_ok-found.found c.as_slice.ensures c.in_ok-found.ensures).fault

pub returns-clause-names : goal.returns-clause-names
returns-clause-names c =
    let old = c.judge_statements.new.names in
    seen_in c.args.unit.now old _ c.in_ok-found.found
    (judged_in c.args.unit.now c.as_slice.result.now c.args.unit.now.statements old c.in_ok-found.found c.as_slice.ensures c.in_ok-found.ensures)
    (keeps_by old _ refl refl) (λ x. none_bound _ x c.clear.ensures.empty)
