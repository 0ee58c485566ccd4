use Rattle.std.proofs.Common.{map, ◌∷◌, [], ◌++◌, sym, ap, arith}
use Rattle.found_rows.proofs.Walks.{each_more, each_end}
use Rattle.f_tree.specs.Uses.{heading_of, alone_in}
use Rattle.name_table.specs.Named.{texts}
use Rattle.name_uses.proofs.Headings.{alone_step, alone_end}
use Rattle.name_uses.proofs.assignments.alone_names.Goals as goal

pub loop-e-init : goal.loop-e-init
loop-e-init c = ap (λ rs. texts rs ++ alone_in (map heading_of c.args.es.now)) (sym c.new-names.ensures.items)

pub loop-e-preserved : goal.loop-e-preserved
loop-e-preserved c =
    each_more (λ es. alone_in (map heading_of es)) (λ e. alone_in (heading_of e ∷ [])) alone_step c.args.es.now c.loop-e.e-index c.e-item.result _ _ _ _ c.loop-e-test.true
    c.e-item.is c.loop-e.invariant c.in_ok-add_alone.ensures

pub returns : goal.returns
returns c =
    each_end (λ es. alone_in (map heading_of es)) (λ e. alone_in (heading_of e ∷ [])) alone_end c.args.es.now c.loop-e.e-index _ _ (omega arith) c.loop-e.invariant
