use Rattle.std.proofs.Common.{List, ◌++◌, ap, ◌∙◌}
use Rattle.reference_judge.specs.declared.references.Reference.{Reference}
use Rattle.reference_judge.specs.ReferencesSeen.{located, located_from}
use Rattle.reference_judge.proofs.statements.unit_references.Goals as goal

pub returns-clause-references : goal.returns-clause-references
returns-clause-references c =
    let u = c.args.unit.now in
    c.in_ok-add_statements.ensures.references
    ∙ ap (λ (rs : List Reference). located rs ++ located_from u c.as_slice-statements.result.now) c.new-references.ensures.items
    ∙ ap (located_from u) c.as_slice-statements.ensures
