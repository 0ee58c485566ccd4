use Rattle.std.proofs.Common.{ap, ◌∙◌}
use Rattle.std.proofs.lemmas.Result.{IfOk-weaker}
use Rattle.declaration_rows.specs.GivenRows.{no_name_twice}
use Rattle.name_table.specs.Named.{texts}
use Rattle.given_judge.proofs.twice.dummies_differ.Goals as goal

pub returns : goal.returns
returns c =
    IfOk-weaker c.names_differ.result _ _ (λ differ is. is ∙ ap no_name_twice (ap texts c.as_slice.ensures.value ∙ c.in_ok-names.ensures)) c.names_differ.ensures
