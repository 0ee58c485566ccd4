use Rattle.std.specs.HashMap.{get_by}
use Rattle.std.proofs.Common.{◌≡◌, ◌-◌, ◌≤◌, Err, length, ap, arith, bytes_eq, rules, refl}
use Rattle.f_tree.specs.declared.refusals.Fail.TheVariants as fail
use Rattle.translator.proofs.SetLemmas.{own_known, own_is, own_there, no_file_made, units_fit, file_made_behind, files_made_end, no_files}
use Rattle.translator.proofs.files.files_of.Goals as goal

pub loop-file-init : goal.loop-file-init
loop-file-init c = no_file_made c.args.files.now c.args.units.now (λ x. get_by (λ k. bytes_eq x k.now) c.args.procedures.now) _ _ c.requires.known c.requires.given c.new-found.ensures refl

pub slice_bounds-rest-start : goal.slice_bounds-rest-start
slice_bounds-rest-start c = let within : length c.args.units.now - c.loop-file.left ≤ length c.args.units.now = omega arith in within

pub slice_bounds-own-end : goal.slice_bounds-own-end
slice_bounds-own-end c =
    own_there c.args.files.now c.args.units.now (λ x. get_by (λ k. bytes_eq x k.now) c.args.procedures.now) c.loop-file.file-index c.loop-file.left c.file-item.result _ c.loop-file.found c.loop-file.refusal
    c.loop-file-test.true c.file-item.is c.loop-file.invariant c.len.result c.len.ensures

pub overflow_sub-left : goal.overflow_sub-left
overflow_sub-left c =
    let fits : length c.file-item.result.units ≤ c.loop-file.left =
    units_fit c.args.files.now c.args.units.now (λ x. get_by (λ k. bytes_eq x k.now) c.args.procedures.now) c.loop-file.file-index c.loop-file.left c.file-item.result _ c.loop-file.found c.loop-file.refusal
    c.loop-file-test.true c.file-item.is c.loop-file.invariant in
    omega (arith, c.len-left.ensures, fits)

pub add_file-requires : goal.add_file-requires
add_file-requires c =
    own_known c.args.files.now c.args.units.now (λ x. get_by (λ k. bytes_eq x k.now) c.args.procedures.now) c.loop-file.file-index c.loop-file.left c.file-item.result _ c.loop-file.found c.loop-file.refusal
    c.loop-file-test.true c.file-item.is c.loop-file.invariant _
    (own_is c.args.files.now c.args.units.now (λ x. get_by (λ k. bytes_eq x k.now) c.args.procedures.now) c.loop-file.file-index c.loop-file.left c.file-item.result _ c.loop-file.found c.loop-file.refusal
    c.loop-file-test.true c.file-item.is c.loop-file.invariant c.len.result c.len.ensures)

pub loop-file-preserved : goal.loop-file-preserved
loop-file-preserved c =
    file_made_behind c.args.files.now c.args.units.now (λ x. get_by (λ k. bytes_eq x k.now) c.args.procedures.now) c.loop-file.file-index c.loop-file.left c.file-item.result _ c.loop-file.found c.loop-file.refusal
    c.loop-file-test.true c.file-item.is c.loop-file.invariant _ _ c.add_file.new.found c.in_ok-row.row c.earlier_of-refusal.result
    (own_is c.args.files.now c.args.units.now (λ x. get_by (λ k. bytes_eq x k.now) c.args.procedures.now) c.loop-file.file-index c.loop-file.left c.file-item.result _ c.loop-file.found c.loop-file.refusal
    c.loop-file-test.true c.file-item.is c.loop-file.invariant c.len.result c.len.ensures)
    (ap (λ n. c.loop-file.left - n) c.len-left.ensures) c.in_ok-row.ensures c.earlier_of-refusal.ensures

pub returns : goal.returns
returns c =
    files_made_end c.args.files.now c.args.units.now (λ x. get_by (λ k. bytes_eq x k.now) c.args.procedures.now) c.loop-file.file-index c.loop-file.left c.loop-file.found c.loop-file.refusal
    c.unless_refused.result c.loop-file-test.false c.loop-file.invariant c.unless_refused.ensures.kept c.unless_refused.ensures.refused

pub returns-in_err-row : goal.returns-in_err-row
returns-in_err-row c =
    no_files c.args.files.now c.args.units.now (λ x. get_by (λ k. bytes_eq x k.now) c.args.procedures.now) c.from_residual.result
    (let e : c.from_residual.result ≡ Err fail.NoMemory = search rules in e)
