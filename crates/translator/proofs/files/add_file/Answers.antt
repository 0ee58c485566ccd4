use Rattle.std.specs.HashMap.{get_by}
use Rattle.std.proofs.Common.{Err, bytes_eq, subst}
use Rattle.translator.specs.LoweredFiles.{IsWrittenFile}
use Rattle.translator.proofs.SetLemmas.{file_put, file_refused}
use Rattle.translator.proofs.files.add_file.Goals as goal

pub returns-in_ok-push-in-Ok : goal.returns-in_ok-push-in-Ok
returns-in_ok-push-in-Ok c =
    file_put c.args.units.now (λ x. get_by (λ k. bytes_eq x k.now) c.args.procedures.now) c.args.found.now _ c.in-Ok.file c.in_ok-push-in-Ok.ensures.ok c.in-Ok.ensures

pub returns-in-Err-Refused : goal.returns-in-Err-Refused
returns-in-Err-Refused c =
    file_refused c.args.units.now (λ x. get_by (λ k. bytes_eq x k.now) c.args.procedures.now) c.args.found.now _ c.in-Err-Refused.refusal
    (subst (λ e. IsWrittenFile c.args.units.now (λ x. get_by (λ k. bytes_eq x k.now) c.args.procedures.now) (Err e)) c.in-Err-Refused.field-0-is c.in-Err-Refused.ensures)
