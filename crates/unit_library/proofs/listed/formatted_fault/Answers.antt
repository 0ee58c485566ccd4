use Rattle.std.proofs.Common.{refl, rules, w32, to_z, of_z}
use Rattle.std.specs.Prelude.{Ok}
use Rattle.std.proofs.Math.Facts.{to_z-of_z}
use mir.Val.{SFits}
use Rattle.c_tree.specs.declared.outcome.CFault.TheVariants as fault
use Rattle.c_tree.specs.Faults.{failing}
use Rattle.unit_library.proofs.ItemLaws.{fault-first, fault-second, fault-third}
use Rattle.unit_library.proofs.listed.formatted_fault.Goals as goal

pub returns-in-Ok-length_from : goal.returns-in-Ok-length_from
returns-in-Ok-length_from c =
    let fits : SFits w32 c.in-Ok.number = search rules in
    fault-third c.args.run.now c.args.count c.args.size c.in-Ok.number (to_z w32 (of_z w32 c.in-Ok.number)) c.in-Ok-count_from.field-0 (Ok c.in-Ok-length_from.field-0) fault.Library
    (to_z-of_z fits) c.in-Ok.ensures c.in-Ok-count_from.ensures.count c.in-Ok-length_from.ensures.count refl

pub returns-in-Err-length_from : goal.returns-in-Err-length_from
returns-in-Err-length_from c =
    let fits : SFits w32 c.in-Ok.number = search rules in
    fault-third c.args.run.now c.args.count c.args.size c.in-Ok.number (to_z w32 (of_z w32 c.in-Ok.number)) c.in-Ok-count_from.field-0 (failing c.in-Err-length_from.fault)
    c.in-Err-length_from.fault (to_z-of_z fits) c.in-Ok.ensures c.in-Ok-count_from.ensures.count c.in-Err-length_from.ensures.count refl

pub returns-in-Err-count_from : goal.returns-in-Err-count_from
returns-in-Err-count_from c =
    let fits : SFits w32 c.in-Ok.number = search rules in
    fault-second c.args.run.now c.args.count c.args.size c.in-Ok.number (to_z w32 (of_z w32 c.in-Ok.number)) c.in-Err-count_from.fault (to_z-of_z fits) c.in-Ok.ensures
    c.in-Err-count_from.ensures.count

pub returns-in-Err : goal.returns-in-Err
returns-in-Err c = fault-first c.args.run.now c.args.count c.args.size c.in-Err.fault c.in-Err.ensures
