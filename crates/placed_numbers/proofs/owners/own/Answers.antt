use Rattle.placed_numbers.proofs.Owning.{put_same, put_other, put_new}
use Rattle.placed_numbers.proofs.owners.own.Goals as goal

pub returns-in-Some-clause-put : goal.returns-in-Some-clause-put
returns-in-Some-clause-put c = put_same c.args.owners.now c.args.root c.args.first c.in-Some.other c.are_one.result c.in-Some.is c.are_one.ensures.same

pub returns-in-Some-clause-other : goal.returns-in-Some-clause-other
returns-in-Some-clause-other c = put_other c.args.owners.now c.args.root c.args.first c.in-Some.other c.are_one.result c.in-Some.is c.are_one.ensures.apart

pub returns-in-None-clause-put : goal.returns-in-None-clause-put
returns-in-None-clause-put c = put_new c.args.owners.now c.args.root c.args.first c.requires c.in-None.is
