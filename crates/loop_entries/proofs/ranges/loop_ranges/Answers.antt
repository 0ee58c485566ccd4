use Rattle.std.proofs.lemmas.Result.{IfOk-weaker}
use Rattle.loop_entries.proofs.RangeLemmas.{ranges_found}
use Rattle.loop_entries.proofs.ranges.loop_ranges.Goals as goal

pub returns : goal.returns
returns c = IfOk-weaker c.ranges_between.result _ _ (λ ranges found p is. ranges_found p c.args.ends.now ranges.items found is) c.ranges_between.ensures
