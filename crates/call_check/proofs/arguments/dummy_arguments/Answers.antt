use Rattle.std.proofs.Common.{◌++◌, ◌∷◌, [], List, map, refl, sym, ap, ◌∙◌, arith}
use Rattle.statement_parts.proofs.found_rows.Walks.{each_more, each_end}
use Rattle.f_tree.specs.declared.statements.DummyArgument.{DummyArgument}
use Rattle.call_shapes.specs.declared.shapes.Argument.{Argument}
use Rattle.call_check.specs.ProceduresSeen.{seen_dummy}
use Rattle.call_check.proofs.arguments.dummy_arguments.Goals as goal

pub loop-dummy-init : goal.loop-dummy-init
loop-dummy-init c = ap (λ (bs : List Argument). bs ++ map (seen_dummy c.args.names.now) c.args.dummies.now) (sym c.new-arguments.ensures)

pub loop-dummy-preserved : goal.loop-dummy-preserved
loop-dummy-preserved c =
    let seen = seen_dummy c.args.names.now in
    each_more (λ (es : List DummyArgument). map seen es) (λ (e : DummyArgument). seen e ∷ []) (λ (e : DummyArgument) (es : List DummyArgument). refl) c.args.dummies.now c.loop-dummy.dummy-index c.dummy-item.result
    _ _ _ _ c.loop-dummy-test.true c.dummy-item.is c.loop-dummy.invariant
    (c.in_ok-push.ensures.ok ∙ ap (λ (a : Argument). c.loop-dummy.arguments ++ a ∷ []) c.dummy_argument.ensures)

pub returns : goal.returns
returns c =
    let seen = seen_dummy c.args.names.now in
    each_end (λ (es : List DummyArgument). map seen es) (λ (e : DummyArgument). seen e ∷ []) refl c.args.dummies.now c.loop-dummy.dummy-index _ _ (omega arith) c.loop-dummy.invariant
