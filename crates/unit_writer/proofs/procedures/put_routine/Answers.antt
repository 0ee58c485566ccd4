use Rattle.std.specs.HashMap.{get_by}
use Rattle.std.proofs.Common.{Some, bytes_eq, sym, ap, ◌∙◌}
use Rattle.std.proofs.lemmas.Map.Text.{hash_map_updates_str}
use Rattle.unit_writer.specs.Told.{put_over}
use Rattle.unit_writer.proofs.TableLemmas.{over_if, over_nothing}
use Rattle.unit_writer.proofs.procedures.put_routine.Goals as goal

pub returns-in-Ok : goal.returns-in-Ok
returns-in-Ok c x =
    let old = get_by (λ k. bytes_eq x k.now) c.args.routines.now in
    hash_map_updates_str c.args.name.now c.args.routines.now c.insert.new.self (Some c.in-Some.routine) c.in-Ok.ensures.updates x
    ∙ over_if (bytes_eq c.args.name.now x) c.in-Some.routine old ∙ ap (λ r. put_over (bytes_eq c.args.name.now x) r old) (sym c.in-Some.is)

pub returns-in_default : goal.returns-in_default
returns-in_default c x =
    let old = get_by (λ k. bytes_eq x k.now) c.args.routines.now in
    over_nothing (bytes_eq c.args.name.now x) old ∙ ap (λ r. put_over (bytes_eq c.args.name.now x) r old) (sym c.in_default.is)
