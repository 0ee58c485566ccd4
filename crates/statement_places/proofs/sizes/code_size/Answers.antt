use Rattle.std.proofs.Common.{◌≡◌, arith}
use Rattle.std.proofs.lemmas.Result.{err_from_is_err_and}
use Rattle.expression_lowering.specs.declared.answers.LowerError.TheVariants.{NotLowered}
use Rattle.statement_lowering.specs.LoweredStatements.{is_lowered_statement}
use Rattle.statement_lowering.specs.StatementForms.{forms_of}
use Rattle.statement_places.proofs.SizeLemmas.{refused, counted}
use Rattle.statement_places.proofs.sizes.code_size.Goals as goal

pub returns-in_err-lower_statement-clause-refused : goal.returns-in_err-lower_statement-clause-refused
returns-in_err-lower_statement-clause-refused c = λ is.
    let q = err_from_is_err_and c.from_residual.result c.from_residual.ensures.1 in
    let e : c.in_err-lower_statement.field-0.0 ≡ NotLowered = cc (q.1, q.2, is) in
    refused c.args.table.now (record { once = c.args.once; free = c.args.free; room = 0 }) (is_lowered_statement c.args.table.now c.args.body.now) (forms_of c.args.assigned.now c.args.body.now) _ _ _
    c.in_err-lower_statement.ensures e

pub returns-clause-size : goal.returns-clause-size
returns-clause-size c =
    counted c.args.table.now c.args.once c.args.assigned.now c.args.free c.args.body.now c.new-steps.result.items c.lower_statement.new.steps.items _ c.len.result c.new-steps.ensures.items
    (let steps = c.lower_statement.new.steps in omega (arith, c.len.ensures, steps.ok.0)) c.in_ok-lower_statement.ensures
