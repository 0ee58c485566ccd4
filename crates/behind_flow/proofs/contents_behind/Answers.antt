use Rattle.behind_flow.proofs.ContentBehind.{contents_behind}
use Rattle.behind_flow.proofs.contents_behind.Goals as goal

pub returns : goal.returns
returns c = contents_behind
