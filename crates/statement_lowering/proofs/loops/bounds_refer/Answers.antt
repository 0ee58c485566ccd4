use Rattle.std.specs.Prelude.{Bool, ◌||◌}
use Rattle.std.proofs.Common.{ap, ◌∙◌}
use Rattle.f_tree.specs.Terms.{refers}
use Rattle.f_tree.specs.Reading.{read}
use Rattle.statement_lowering.proofs.loops.bounds_refer.Goals as goal

pub returns : goal.returns
returns c = λ names told.
    c.either.ensures ∙ ap (λ (b : Bool). b || c.step_refers-of_step.result) (c.has_reference-of_limit.ensures names told)
    ∙ ap (λ (b : Bool). refers (read names c.args.limit.now).value || b) (c.step_refers-of_step.ensures names told)
