use Rattle.std.proofs.Common.{Some, bytes_eq, get_or, refl, ap, ◌∙◌, arith, if◌then◌else◌}
use Rattle.std.specs.HashMap.{get_by}
use Rattle.f_tree.specs.declared.names.Basic.{Basic}
use Rattle.call_shapes.specs.declaration_rows.NameRows.{own_attributes}
use Rattle.name_table.specs.Named.{texts}
use Rattle.reference_judge.proofs.BindingLaws.{no_name, bound_more, bound_end, bound_start}
use Rattle.call_check.proofs.bindings.bound_dummies.Goals as goal

pub loop-name-init : goal.loop-name-init
loop-name-init c x = bound_start (own_attributes c.args.unit.now) (texts c.args.names.now) x (get_by (λ k. bytes_eq x k.now) c.no_dummies-dummies.result) (c.no_dummies-dummies.ensures x)

pub loop-name-preserved : goal.loop-name-preserved
loop-name-preserved c x =
    let d = get_or c.args.names.now c.loop-name.name-index no_name in
    bound_more (own_attributes c.args.unit.now) c.args.names.now c.loop-name.name-index d x _ _ _ c.loop-name-test.true refl (c.loop-name.invariant x)
    (c.in_ok-put_basic.ensures x ∙ ap (λ (b : Basic). if bytes_eq d.now x then Some b else get_by (λ k. bytes_eq x k.now) c.loop-name.dummies) c.own_basic-basic.ensures)

pub returns : goal.returns
returns c x = bound_end (own_attributes c.args.unit.now) c.args.names.now c.loop-name.name-index x _ _ (omega arith) (c.loop-name.invariant x)
