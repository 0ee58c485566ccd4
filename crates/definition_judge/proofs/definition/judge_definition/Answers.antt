use Rattle.std.proofs.Common.{refl}
use Rattle.expression_judge.specs.declared.names.Names.{Names}
use Rattle.name_table.specs.Named.{texts}
use Rattle.definition_judge.proofs.DefinitionLaws.{statement_judged}
use Rattle.definition_judge.proofs.FunctionLemmas.{same_facts, noted_in}
use Rattle.definition_judge.proofs.definition.judge_definition.Goals as goal

pub returns : goal.returns
returns c =
    let mid = c.definition_fault.new.names in
    let new : Names = record mid { functions = c.note_function.new.functions } in
    statement_judged c.args.unit.now c.args.names.now mid new (record { name = c.args.name.now; dummies = texts c.args.dummies.now; body = c.args.body.now }) c.in_ok-fault.fault
    c.in_ok-basics.basics.items c.in_ok-fault.ensures.fault c.in_ok-fault.ensures.names c.in_ok-basics.ensures (λ x. same_facts mid new x refl)
    (noted_in mid new c.args.name.now c.in_ok-basics.basics.items c.in_ok-note_function.ensures)
