use Rattle.std.proofs.Common.{◌≡◌, Err, ap}
use Rattle.std.proofs.lemmas.Result.{err_from_is_err_and}
use Rattle.expression_lowering.specs.declared.answers.LowerError.TheVariants.{NotLowered}
use Rattle.statement_places.proofs.SizeLemmas.{loops_refused}
use Rattle.statement_places.proofs.PlaceTheorem.{all_placed}
use Rattle.statement_places.proofs.places.statement_places.Goals as goal

pub returns-in_err-loops-clause-refused : goal.returns-in_err-loops-clause-refused
returns-in_err-loops-clause-refused c = λ is.
    let q = err_from_is_err_and c.from_residual.result c.from_residual.ensures.1 in
    let e : c.in_err-loops.field-0.0 ≡ NotLowered = cc (q.1, q.2, is) in
    loops_refused c.args.table.now c.args.unit.now.statements (c.in_err-loops.ensures.refused (ap Err e))

pub returns-in-Ok-all_places-clause-places : goal.returns-in-Ok-all_places-clause-places
returns-in-Ok-all_places-clause-places c =
    all_placed c.args.table.now c.args.once c.args.assigned.now c.args.unit.now c.in_ok-loops.loops.items c.in-Ok.named c.in_ok-sizes.sizes.items c.in-Ok-laid_out.layout c.in-Ok-all_places.places.items _ _ _
    c.as_slice-statements.ensures c.as_slice.ensures.value c.as_slice-2.ensures.value c.in_ok-loops.ensures.places c.in-Ok.ensures c.in_ok-sizes.ensures.sizes c.in-Ok-laid_out.ensures
    c.in-Ok-all_places.ensures
