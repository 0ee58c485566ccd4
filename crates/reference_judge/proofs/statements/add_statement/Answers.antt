use Rattle.std.proofs.Common.{Some, None, sym, ap, ◌∙◌}
use Rattle.found_rows.proofs.Walks.{put_as}
use Rattle.f_tree.specs.Uses.{heading_of}
use Rattle.name_table.specs.Named.{names_in}
use Rattle.declaration_rows.specs.Judgement.{Known}
use Rattle.declaration_rows.specs.NameRows.{known_in}
use Rattle.reference_judge.specs.KnownBindings.{known_with, references_known}
use Rattle.reference_judge.specs.ReferencesSeen.{at, references_by}
use Rattle.reference_judge.proofs.BindingLaws.{held, known_none, known_some, defined_references}
use Rattle.reference_judge.proofs.SightLaws.{statement_seen}
use Rattle.reference_judge.proofs.statements.add_statement.Goals as goal

pub returns-in-Some-clause-references : goal.returns-in-Some-clause-references
returns-in-Some-clause-references c =
    let u = c.args.unit.now in
    let s = c.args.statement.now in
    let target = c.in-Some.target.now in
    put_as c.add_definition.result _ _ (at s (references_known (known_with u (heading_of target).arguments) s.body)) _
    (ap (at s)
    (ap (λ (known : Known). references_known known s.body) (sym (known_some u target))
    ∙ defined_references u s.body (names_in c.args.arrays.now) (Some target) c.requires.arrays c.in-Some.ensures))
    c.add_definition.ensures.references

pub returns-in-None-clause-references : goal.returns-in-None-clause-references
returns-in-None-clause-references c =
    let u = c.args.unit.now in
    let s = c.args.statement.now in
    let names = c.args.names.now in
    put_as c.add_known.result _ _ (at s (references_by names s.body)) _
    (ap (at s)
    (statement_seen (known_in u) names c.requires.names s.body ∙ ap (λ (known : Known). references_known known s.body) (sym (known_none u))
    ∙ defined_references u s.body (names_in c.args.arrays.now) None c.requires.arrays c.in-None.ensures))
    c.add_known.ensures

pub returns-in-None-clause-names : goal.returns-in-None-clause-names
returns-in-None-clause-names c = held _ c.add_known.result c.requires.names
