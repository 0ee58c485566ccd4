use Rattle.std.specs.HashMap.{get_by}
use Rattle.std.proofs.Common.{◌++◌, bytes_eq, ap, ◌∙◌, refl, arith}
use Rattle.f_tree.specs.Values.{Bytes}
use Rattle.std.proofs.Common.{Option}
use Rattle.unit_writer.specs.declared.heading.Procedure.{Procedure}
use Rattle.unit_writer.proofs.LocalLaws.{procedure_alone, procedures_behind, procedures_step}
use Rattle.unit_writer.proofs.Walks.{each_end, each_more}
use Rattle.unit_writer.proofs.procedures.add_procedures.Goals as goal

pub loop-name-preserved : goal.loop-name-preserved
loop-name-preserved c =
    let procedures : Bytes → Option Procedure = λ x. get_by (λ k. bytes_eq x k.now) c.args.procedures.now in
    each_more (procedures_behind procedures) (procedure_alone procedures) (procedures_step procedures) c.args.names.now c.loop-name.name-index c.name-item.result _ _ _ _ c.loop-name-test.true c.name-item.is c.loop-name.invariant
    (c.in_ok-add_procedure.ensures ∙ ap (λ x. c.loop-name.locals.items ++ procedure_alone procedures x) c.as_slice.ensures)

pub returns : goal.returns
returns c =
    let procedures : Bytes → Option Procedure = λ x. get_by (λ k. bytes_eq x k.now) c.args.procedures.now in
    each_end (procedures_behind procedures) (procedure_alone procedures) refl c.args.names.now c.loop-name.name-index _ _ (omega arith) c.loop-name.invariant
