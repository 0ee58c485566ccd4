use Rattle.std.specs.HashMap.{get_by}
use Rattle.std.specs.Prelude.{◌≡◌, Err}
use Rattle.std.proofs.Common.{bytes_eq, rules, subst, sym, ◌∙◌}
use Rattle.f_tree.specs.declared.refusals.Fail.TheVariants as fail
use Rattle.translator.specs.LoweredFiles.{IsWrittenFile}
use Rattle.translator.proofs.SetLemmas.{written_file, not_written, no_file}
use Rattle.translator.proofs.files.file_of.Goals as goal

pub returns : goal.returns
returns c =
    written_file c.args.units.now (λ x. get_by (λ k. bytes_eq x k.now) c.args.procedures.now) c.as_slice-passed.result.now (λ us told. c.as_slice-passed.ensures.value ∙ c.in_ok-constants.ensures us told)
    c.in_ok-functions.functions _ c.in_ok-functions.ensures c.in_ok-write_file.ensures

pub returns-in_err-functions : goal.returns-in_err-functions
returns-in_err-functions c =
    subst (IsWrittenFile c.args.units.now (λ x. get_by (λ k. bytes_eq x k.now) c.args.procedures.now))
    (sym (let e : c.from_residual-in_err-functions.result ≡ Err c.in_err-functions.field-0.0 = search rules in e))
    (not_written c.args.units.now (λ x. get_by (λ k. bytes_eq x k.now) c.args.procedures.now) c.as_slice-passed.result.now (λ us told. c.as_slice-passed.ensures.value ∙ c.in_ok-constants.ensures us told)
    c.in_err-functions.field-0.0 c.in_err-functions.ensures)

pub returns-in_err-constants : goal.returns-in_err-constants
returns-in_err-constants c =
    no_file c.args.units.now (λ x. get_by (λ k. bytes_eq x k.now) c.args.procedures.now) c.from_residual.result (let e : c.from_residual.result ≡ Err fail.NoMemory = search rules in e)

pub returns-in_err-write_file : goal.returns-in_err-write_file
returns-in_err-write_file c =
    no_file c.args.units.now (λ x. get_by (λ k. bytes_eq x k.now) c.args.procedures.now) c.from_residual-in_err-write_file.result (let e : c.from_residual-in_err-write_file.result ≡ Err fail.NoMemory = search rules in e)
