use Rattle.std.proofs.Common.{◌∷◌, [], List, Option, map, sym, ap}
use Rattle.found_rows.proofs.Walks.{put_as}
use Rattle.f_tree.specs.declared.expressions.Expr.{Expr}
use Rattle.f_tree.specs.Values.{Bytes}
use Rattle.statement_parts.specs.TreesSeen.{call_in}
use Rattle.reference_judge.specs.ArgumentsSeen.{reference_by, sight_by}
use Rattle.reference_judge.specs.ReferencesSeen.{at, located, call_references}
use Rattle.reference_judge.proofs.SightForms.{nothing_at}
use Rattle.reference_judge.proofs.statements.add_call.Goals as goal

pub returns-in-Some : goal.returns-in-Some
unfolding call_references call_in
returns-in-Some c =
    let s = c.args.statement.now in
    let names = c.args.names.now in
    put_as c.add_reference.result _ _ (at s (reference_by c.in-Some.call.name.now (map (sight_by names) c.in-Some.call.arguments.now) ∷ [])) _
    (ap (λ (o : Option (Bytes × List Expr)). at s (call_references names o)) c.in-Some.ensures) c.add_reference.ensures

pub returns-in-None : goal.returns-in-None
unfolding call_references
returns-in-None c = nothing_at (located c.args.references.now.items) c.args.statement.now _ (ap (call_references c.args.names.now) (sym c.in-None.ensures))
