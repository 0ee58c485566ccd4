use Rattle.std.specs.HashMap.{get_by}
use Rattle.std.proofs.Common.{Option, bytes_eq, get_or, refl, ap, ◌∙◌, arith}
use Rattle.f_tree.specs.Values.{Bytes}
use Rattle.unit_writer.specs.declared.heading.Procedure.{Procedure}
use Rattle.unit_writer.specs.Told.{put_over, routine_by, routine_told}
use Rattle.unit_writer.proofs.TableLemmas.{no_name, over_end, over_more}
use Rattle.unit_writer.proofs.procedures.add_routines.Goals as goal

pub loop-name-preserved : goal.loop-name-preserved
loop-name-preserved c x =
    let procedures : Bytes → Option Procedure = λ y. get_by (λ k. bytes_eq y k.now) c.args.procedures.now in
    let d = get_or c.args.names.now c.loop-name.name-index no_name in
    over_more (routine_told c.args.table.now procedures) c.args.names.now c.loop-name.name-index d x _ _ _ c.loop-name-test.true refl (c.loop-name.invariant x)
    (c.in_ok-put_routine.ensures x
    ∙ ap (λ r. put_over (bytes_eq d.now x) r (get_by (λ k. bytes_eq x k.now) c.loop-name.routines)) (c.in_ok-found.ensures ∙ (λ i. routine_by (c.class.ensures i) (c.contains_key-is_defined.ensures i) d.now)))

pub returns : goal.returns
returns c x =
    let procedures : Bytes → Option Procedure = λ y. get_by (λ k. bytes_eq y k.now) c.args.procedures.now in
    over_end (routine_told c.args.table.now procedures) c.args.names.now c.loop-name.name-index x _ _ (omega arith) (c.loop-name.invariant x)
