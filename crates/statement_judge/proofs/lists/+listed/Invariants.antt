use Rattle.std.proofs.Common.{◌≡◌, None, map, drop}
use Rattle.statement_judge.specs.StatementSteps.{joined_onward, item_by}
use Rattle.statement_judge.proofs.lists.+listed.Given as goal

abbrev pub invariant-listed-loop-one : goal.invariant-listed-loop-one
invariant-listed-loop-one l = joined_onward l.fault (map (item_by l.site l.way) (drop l.one-index l.items)) ≡ joined_onward None (map (item_by l.site l.way) l.items)
