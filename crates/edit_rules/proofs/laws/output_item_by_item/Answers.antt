use Rattle.std.proofs.Common.{ap, refl}
use Rattle.edit_meaning.specs.EditedRecords.{Output, output, output_start, ended, made_on}
use Rattle.edit_rules.proofs.TransferLaws.{one_by_one, one_by_one-closed}
use Rattle.edit_rules.proofs.laws.output_item_by_item.Goals as goal

pub returns-clause-open_ : goal.returns-clause-open_
unfolding made_on
returns-clause-open_ c sheet format values = one_by_one (output sheet) (λ h s. refl) (output_start sheet) format values

pub returns-clause-closed : goal.returns-clause-closed
unfolding made_on
returns-clause-closed c sheet format values =
    ap (λ (out : Output). ended out.halted out) (one_by_one-closed (output sheet) (λ h s. refl) (output_start sheet) format values)
