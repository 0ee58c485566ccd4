use Rattle.item_emitter.proofs.FunctionWalks.{best-some, best-none}
use Rattle.item_emitter.proofs.functions.extreme.Goals as goal

pub returns-in_ok-extreme_from-in-Some : goal.returns-in_ok-extreme_from-in-Some
returns-in_ok-extreme_from-in-Some c = best-some c.args.which c.in-Some.first c.in_ok-extreme_from-in-Some.field-0 c.args.operands.items c.pop_front.new.self.items c.in-Some.ensures.items c.in_ok-extreme_from-in-Some.ensures

pub returns-in-None : goal.returns-in-None
returns-in-None c = best-none c.args.which c.args.operands.items c.pop_front.new.self.items c.in-None.ensures.items c.in-None.ensures.rest
