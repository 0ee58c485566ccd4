use Rattle.std.specs.HashMap.{get_by}
use Rattle.std.proofs.Common.{◌≡◌, Err, bytes_eq, rules}
use Rattle.f_tree.specs.declared.refusals.Fail.TheVariants as fail
use Rattle.translator.proofs.SetLemmas.{written_files, none_written}
use Rattle.translator.proofs.files.written.Goals as goal

pub returns : goal.returns
returns c =
    written_files c.args.files.now c.args.units.now (λ x. get_by (λ k. bytes_eq x k.now) c.in_ok-procedures.procedures) c.files_of.result c.in_ok-procedures.ensures c.files_of.ensures

pub returns-in_err-procedures : goal.returns-in_err-procedures
returns-in_err-procedures c = none_written c.args.files.now c.args.units.now c.from_residual.result (let e : c.from_residual.result ≡ Err fail.NoMemory = search rules in e)
