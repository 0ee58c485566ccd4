use Rattle.std.proofs.Common.{refl}
use Rattle.edit_meaning.specs.TakenRecords.{input, input_start, taken}
use Rattle.edit_rules.proofs.TransferLaws.{one_by_one-closed}
use Rattle.edit_rules.proofs.laws.input_item_by_item.Goals as goal

pub returns : goal.returns
unfolding taken
returns c format records wants zeros = one_by_one-closed input (λ h s. refl) (input_start records zeros) format wants
