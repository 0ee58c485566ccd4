use Rattle.item_emission.proofs.StepsAgree.{emissions_agree}
use Rattle.item_emission.proofs.agreement.emissions_agree.Goals as goal

pub returns : goal.returns
returns c = emissions_agree
