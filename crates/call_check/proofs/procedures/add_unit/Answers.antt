use Rattle.statement_parts.proofs.found_rows.Walks.{put_as}
use Rattle.call_check.specs.ProceduresSeen.{seen_procedures}
use Rattle.call_check.proofs.ProcedureLaws.{procedures_seen}
use Rattle.call_check.proofs.procedures.add_unit.Goals as goal

pub returns : goal.returns
returns c =
    let names = c.in_ok-known.known.names in
    put_as c.add_seen.result _ _ (seen_procedures names c.args.unit.now) _ (procedures_seen c.args.unit.now names c.in_ok-known.ensures.names) c.add_seen.ensures
