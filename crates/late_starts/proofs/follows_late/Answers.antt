use Rattle.late_starts.proofs.LateFollows.{follows_late}
use Rattle.late_starts.proofs.follows_late.Goals as goal

pub returns : goal.returns
returns g c = follows_late g.M.Beginning.couple g.M.Beginning.early g.M.Beginning.most g.M.Beginning.more g.M.Beginning.follows
