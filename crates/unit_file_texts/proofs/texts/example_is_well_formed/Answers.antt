use Rattle.unit_file_texts.proofs.ExampleTexts.{main_is_spellable, procedures_are_spellable, main_is_formed, procedures_are_formed, main_is_spelled, procedures_are_spelled, main_is_printed, procedures_are_printed}
use Rattle.unit_file_texts.proofs.texts.example_is_well_formed.Goals as goal

pub returns : goal.returns
returns c = record {
  main_spellable = main_is_spellable;
  main_formed = main_is_formed;
  main_spelled = main_is_spelled;
  main_printed = main_is_printed;
  procedures_spellable = procedures_are_spellable;
  procedures_formed = procedures_are_formed;
  procedures_spelled = procedures_are_spelled;
  procedures_printed = procedures_are_printed;
}
