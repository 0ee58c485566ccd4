use Rattle.std.proofs.Common.{List, ℕ, ap, ◌∙◌}
use Rattle.statement_parts.proofs.found_rows.Walks.{put_as}
use Rattle.call_shapes.specs.Disagreements.{found_at}
use Rattle.call_check.proofs.findings.add_call.Goals as goal

pub returns : goal.returns
returns c =
    let s = c.args.statement.now in
    put_as c.add_reason.result _ _ (found_at s c.as_slice.result.now c.in_ok-reason.reason) _
    (ap (λ (x : List ℕ). found_at s x c.in_ok-reason.reason) c.as_slice.ensures ∙ ap (found_at s c.args.call.now.name) c.in_ok-reason.ensures) c.add_reason.ensures
