use Rattle.std.proofs.Common.{Some, None, sym, ap, ◌∙◌}
use Rattle.statement_parts.proofs.found_rows.Walks.{put_as, then_ok}
use Rattle.f_tree.specs.Uses.{heading_of}
use Rattle.name_table.specs.Named.{names_in}
use Rattle.call_shapes.specs.declaration_rows.Judgement.{Known}
use Rattle.call_shapes.specs.declaration_rows.NameRows.{known_in}
use Rattle.reference_judge.specs.KnownBindings.{known_with}
use Rattle.reference_judge.proofs.BindingLaws.{held, known_none, known_some}
use Rattle.call_shapes.specs.CallsMade.{calls_known}
use Rattle.call_check.specs.CallsSeen.{seen_calls}
use Rattle.call_check.proofs.CallLaws.{statement_seen, defined_calls}
use Rattle.call_check.proofs.statements.add_statement.Goals as goal

pub returns-in-Some-clause-calls : goal.returns-in-Some-clause-calls
returns-in-Some-clause-calls c =
    let u = c.args.unit.now in
    let b = c.args.body.now in
    let target = c.in-Some.target.now in
    put_as c.add_definition.result _ _ (calls_known (known_with u (heading_of target).arguments) b) _
    (ap (λ (known : Known). calls_known known b) (sym (known_some u target))
    ∙ defined_calls u b (names_in c.args.known.now.arrays) (Some target) c.requires.arrays c.in-Some.ensures)
    c.add_definition.ensures.calls

pub returns-in-Some-clause-known : goal.returns-in-Some-clause-known
returns-in-Some-clause-known c =
    then_ok _ _ c.add_definition.result
    (λ names. record { is_set = c.requires.is_set; arrays = c.requires.arrays; types = c.requires.types; names = names }) c.add_definition.ensures.names

pub returns-in-None-clause-calls : goal.returns-in-None-clause-calls
returns-in-None-clause-calls c =
    let u = c.args.unit.now in
    let b = c.args.body.now in
    let names = c.args.known.now.names in
    put_as c.add_known.result _ _ (seen_calls names b) _
    (statement_seen (known_in u) names c.requires.names b ∙ ap (λ (known : Known). calls_known known b) (sym (known_none u))
    ∙ defined_calls u b (names_in c.args.known.now.arrays) None c.requires.arrays c.in-None.ensures)
    c.add_known.ensures

pub returns-in-None-clause-known : goal.returns-in-None-clause-known
returns-in-None-clause-known c = held _ c.add_known.result c.requires
