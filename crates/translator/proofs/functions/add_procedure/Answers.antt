use Rattle.std.specs.HashMap.{get_by}
use Rattle.std.proofs.Common.{Some, bytes_eq, sym, ◌∙◌}
use Rattle.std.proofs.lemmas.Map.Text.{hash_map_updates_str}
use Rattle.unit_writer.specs.ToldUnits.{callees_told}
use Rattle.translator.proofs.ProcedureLemmas.{kept_uncalled, kept_known, procedure_put}
use Rattle.translator.proofs.functions.add_procedure.Goals as goal
use Rattle.translator.proofs.functions.add_procedure.Goals.{then-not-is_called-via-then-not-is_called, then-not-is_called-via-else-not-is_called+then-contains_key}

pub returns-then-not-is_called : goal.returns-then-not-is_called
returns-then-not-is_called c x =
    elim c.then-not-is_called.branch [
      | then-not-is_called-via-then-not-is_called w ↦
          kept_uncalled c.args.unit.now x (callees_told (λ y. get_by (λ k. bytes_eq y k.now) c.args.procedures.now) x) (sym c.is_called.ensures ∙ w.if-not-is_called.true)
      | then-not-is_called-via-else-not-is_called+then-contains_key w ↦
          kept_known c.args.unit.now x (λ y. get_by (λ k. bytes_eq y k.now) c.args.procedures.now) (sym w.contains_key.ensures ∙ w.if-contains_key.true)
    ]

pub returns-in-Ok : goal.returns-in-Ok
returns-in-Ok c x =
    procedure_put c.args.unit.now x (λ y. get_by (λ k. bytes_eq y k.now) c.args.procedures.now) (λ y. get_by (λ k. bytes_eq y k.now) c.insert.new.self) c.in_ok-procedure_of.field-0
    (sym c.is_called.ensures ∙ c.if-not-is_called.false) (sym c.contains_key.ensures ∙ c.if-contains_key.false) c.in_ok-procedure_of.ensures
    (hash_map_updates_str c.args.unit.now.heading.name.now c.args.procedures.now c.insert.new.self (Some c.in_ok-procedure_of.field-0) c.in-Ok.ensures.updates x)
