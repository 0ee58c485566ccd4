use Rattle.cards.specs.fortran_text.FirstFault.{FaultOfFile}
use Rattle.cards.proofs.FirstLemmas.{one_first}
use Rattle.refusal_laws.proofs.laws.first_refusals_of_cards_are_one.Goals as goal

pub returns : goal.returns
returns c = λ refused bytes. one_first (FaultOfFile refused bytes)
