-- The ranks of statements and the stages between them, as the code has them.
use Rattle.declaration_rows.specs.OrderRows as written
use Rattle.statement_order.specs.declared.ranks.Rank.{Rank}
use Rattle.statement_order.specs.declared.ranks.Rank.TheVariants as rank
use Rattle.statement_order.specs.declared.ranks.Stage.{Stage}
use Rattle.statement_order.specs.declared.ranks.Stage.TheVariants as stage

unfoldable pub rank_in : Rank → written.Rank
rank_in rank.Anywhere = written.Anywhere
rank_in rank.Implicit = written.Implicit
rank_in rank.Parameter = written.Parameter
rank_in rank.Specification = written.Specification
rank_in rank.Initial = written.Initial
rank_in rank.Definition = written.Definition
rank_in rank.Executable = written.Executable
rank_in rank.Heading = written.Heading

unfoldable pub stage_in : Stage → written.Stage
stage_in stage.AtImplicits = written.AtImplicits
stage_in stage.AtSpecifications = written.AtSpecifications
stage_in stage.AtDefinitions = written.AtDefinitions
stage_in stage.AtExecutables = written.AtExecutables
