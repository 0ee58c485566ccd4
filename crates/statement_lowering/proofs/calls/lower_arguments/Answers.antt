use Rattle.std.proofs.Common.{◌≡◌, ℕ, ◌+◌, ◌-◌, List, length, take, drop, ap, sym, subst, ◌∙◌, arith}
use Rattle.std.proofs.lemmas.Grind.{common_steps}
use Rattle.f_tree.specs.declared.expressions.Expr.{Expr}
use Rattle.f_tree.specs.Terms.{any_refers, terms}
use Rattle.lowered_tree.specs.l_core.Pures as core
use Rattle.lowering.specs.Expressions as low
use Rattle.lowered_tree.specs.declared.pures.Pure.{Pure}
use Rattle.expression_lowering.specs.Purposes.{purpose_of}
use Rattle.expression_lowering.proofs.Walks.{IsOnward, onward-start}
use Rattle.statement_lowering.specs.TransferForms.{arguments_in}
use Rattle.statement_lowering.specs.LoweredTransfers.{call_lowers}
use Rattle.statement_lowering.proofs.CallLaws.{covered-behind, walk-argument, arguments-done, arguments-are}
use Rattle.statement_lowering.proofs.calls.lower_arguments.Goals as goal

later-read : (es : List Expr) (at : ℕ) → take (length es - (at + 1)) (drop (at + 1) es) ≡ drop (at + 1) es
later-read es at = grind (arith, common_steps)

pub any_refers-requires : goal.any_refers-requires
any_refers-requires c =
    ap (call_lowers c.args.table.now) (later-read c.args.es.now c.loop-at.at)
    ∙ covered-behind c.args.table.now c.args.es.now c.loop-at.at c.index-es-at.result c.loop-at-test.true c.index-es-at.is c.loop-at.invariant.covered

pub loop-at-init : goal.loop-at-init
loop-at-init c = record {
  covered = c.requires;
  onward = λ names told.
      let whole = low.lower_all core.NoPure low.ForCall c.args.first (terms (arguments_in c.args.es.now names)) in
      subst (λ (vs : List Pure). IsOnward whole whole c.args.steps.now.items c.args.steps.now.items vs) (sym c.new-values.ensures) (onward-start whole c.args.steps.now.items);
}

pub loop-at-preserved : goal.loop-at-preserved
loop-at-preserved c = record {
  covered = covered-behind c.args.table.now c.args.es.now c.loop-at.at c.index-es-at.result c.loop-at-test.true c.index-es-at.is c.loop-at.invariant.covered;
  onward = λ names told.
      let whole = low.lower_all core.NoPure low.ForCall c.args.first (terms (arguments_in c.args.es.now names)) in
      let rest = low.lower_all core.NoPure low.ForCall c.in_ok-one.one.free (terms (arguments_in (drop (c.loop-at.at + 1) c.args.es.now) names)) in
      subst (λ (vs : List Pure). IsOnward whole rest c.args.steps.now.items c.place_for.new.steps.items vs) (sym c.in_ok-push.ensures.ok)
      (walk-argument names c.args.table.now c.ahead-wanted.result c.loop-at.free c.args.es.now c.loop-at.at c.index-es-at.result _ whole c.args.steps.now.items
      c.loop-at.steps.items c.place_for.new.steps.items c.loop-at.values c.in_ok-one.one told c.loop-at-test.true c.index-es-at.is (later-read c.args.es.now c.loop-at.at)
      (c.ahead-wanted.ensures ∙ ap (low.ahead low.ForCall) (c.any_refers.ensures names told ∙ ap (λ ts. any_refers (terms ts)) (arguments-are names _)))
      (c.loop-at.invariant.onward names told) c.in_ok-one.ensures);
}

pub returns : goal.returns
returns c = record {
  are = λ names told.
      arguments-done names c.loop-at.free c.args.es.now c.loop-at.at (low.lower_all core.NoPure low.ForCall c.args.first (terms (arguments_in c.args.es.now names)))
      c.args.steps.now.items c.loop-at.steps.items c.loop-at.values c.loop-at-test.false (c.loop-at.invariant.onward names told);
}
