use Rattle.c_image_laws.proofs.Contracts.{numbers_are_named}
use Rattle.c_image_laws.proofs.DefinedPlaces.{number_defined, label_defined, text_defined}
use Rattle.c_image_laws.proofs.Keeping.{number_kept, text_kept}
use Rattle.c_image_laws.proofs.defining.definitions_are_stored.Goals as goal

pub returns : goal.returns
returns c = record {
  numbers = λ μ s later objects p object d w. number_defined μ s later objects p object d w;
  labels = label_defined;
  texts = text_defined;
  named = numbers_are_named;
  kept_numbers = number_kept;
  kept_texts = text_kept;
}
