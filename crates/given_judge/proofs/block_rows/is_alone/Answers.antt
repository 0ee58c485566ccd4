use Rattle.std.proofs.Common.{◌&&◌, not, ap, ◌∙◌}
use Rattle.declaration_rows.specs.GivenRows.{has_underscore}
use Rattle.expression_judge.specs.declared.names.Fact.{Fact}
use Rattle.given_judge.specs.BlocksSeen.{is_variable_class, is_alone}
use Rattle.given_judge.proofs.block_rows.is_alone.Goals as goal

pub returns : goal.returns
unfolding is_alone
returns c =
    ap not
    (c.both.ensures ∙ ap (λ b. b && c.is_variable_class-is_variable.result) c.has_underscore.ensures
    ∙ ap (λ b. has_underscore c.args.name.now && b) (c.is_variable_class-is_variable.ensures ∙ ap (λ (f : Fact). is_variable_class f.class) c.fact.ensures))
