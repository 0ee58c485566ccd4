use Rattle.std.proofs.Common.{◌++◌, ◌∷◌, [], List, map, sym, ap, ◌∙◌, arith}
use Rattle.std.proofs.lemmas.List.{map-append}
use Rattle.found_rows.proofs.Walks.{each_more, each_end}
use Rattle.f_tree.specs.declared.expressions.Expr.{Expr}
use Rattle.reference_judge.specs.declared.arguments.Argument.{Argument}
use Rattle.reference_judge.specs.declared.arguments.ArgumentKind.{ArgumentKind}
use Rattle.reference_judge.specs.ArgumentsSeen.{kind_in, kinds_of, sight_by}
use Rattle.reference_judge.proofs.SightForms.{kinds_step, kinds_end}
use Rattle.reference_judge.proofs.arguments.argument_kinds.Goals as goal

pub loop-e-init : goal.loop-e-init
loop-e-init c = ap (λ (ks : List ArgumentKind). map kind_in ks ++ kinds_of (map (sight_by c.args.names.now) c.args.es.now)) (sym c.new-kinds.ensures.items)

pub loop-e-preserved : goal.loop-e-preserved
loop-e-preserved c =
    let sight = sight_by c.args.names.now in
    let before = c.loop-e.kinds.items in
    each_more (λ (es : List Expr). kinds_of (map sight es)) (λ (e : Expr). kind_in (sight e).argument.kind ∷ []) (kinds_step c.args.names.now) c.args.es.now c.loop-e.e-index c.e-item.result
    _ _ _ _ c.loop-e-test.true c.e-item.is c.loop-e.invariant
    (ap (map kind_in) c.in_ok-push.ensures.items ∙ map-append kind_in before (c.argument_of.result.kind ∷ [])
    ∙ ap (λ (a : Argument). map kind_in before ++ kind_in a.kind ∷ []) c.argument_of.ensures)

pub returns : goal.returns
returns c =
    let sight = sight_by c.args.names.now in
    each_end (λ (es : List Expr). kinds_of (map sight es)) (λ (e : Expr). kind_in (sight e).argument.kind ∷ []) (kinds_end c.args.names.now) c.args.es.now c.loop-e.e-index _ _ (omega arith)
    c.loop-e.invariant
