use Rattle.std.proofs.Common.{◌∷◌, [], map, refl, arith}
use Rattle.f_tree.specs.Lines.{member_of}
use Rattle.f_tree.specs.declared.statements.ArrayDeclarator.{ArrayDeclarator}
use Rattle.unit_equations.specs.BlocksTold.{naming_by}
use Rattle.unit_equations.proofs.BlockForms.{each_more, each_end, put_member}
use Rattle.unit_equations.proofs.blocks.members.Goals as goal

pub loop-item-preserved : goal.loop-item-preserved
loop-item-preserved c =
    let names = naming_by c.args.facts.now in
    each_more (map (member_of names)) (λ (d : ArrayDeclarator). member_of names d ∷ []) (λ d ds. refl) c.args.items.now c.loop-item.item-index c.item-item.result _ _ _ _
    c.loop-item-test.true c.item-item.is c.loop-item.invariant
    (put_member names c.item-item.result _ _ _ c.in_ok-push.ensures.items c.as_slice-name.ensures c.in_ok-size.ensures)

pub returns : goal.returns
returns c =
    let names = naming_by c.args.facts.now in
    each_end (map (member_of names)) (λ (d : ArrayDeclarator). member_of names d ∷ []) refl c.args.items.now c.loop-item.item-index _ _ (omega arith) c.loop-item.invariant
