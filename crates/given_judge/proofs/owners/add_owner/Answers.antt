use Rattle.std.proofs.Common.{map, sym, ap}
use Rattle.found_rows.proofs.Walks.{put_as}
use Rattle.f_tree.specs.Attributes.{option_list}
use Rattle.declaration_rows.specs.GivenRows.{given}
use Rattle.given_judge.specs.GiftsSeen.{gift_in}
use Rattle.given_judge.proofs.RowForms.{nothing_put}
use Rattle.given_judge.proofs.owners.add_owner.Goals as goal

pub returns-in-Some : goal.returns-in-Some
unfolding option_list
returns-in-Some c = put_as c.add_given.result _ _ _ _ (ap (map (given (gift_in c.args.gift))) c.in-Some.ensures) c.add_given.ensures

pub returns-in-None : goal.returns-in-None
unfolding option_list
returns-in-None c = nothing_put _ _ (ap (map (given (gift_in c.args.gift))) (sym c.in-None.ensures))
