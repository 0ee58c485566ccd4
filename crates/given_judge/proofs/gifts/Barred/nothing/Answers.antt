use Rattle.std.proofs.Common.{refl}
use Rattle.given_judge.proofs.GiftLemmas.{bars_nothing}
use Rattle.given_judge.proofs.gifts.Barred.nothing.Goals as goal

pub returns : goal.returns
returns c = bars_nothing _ refl
