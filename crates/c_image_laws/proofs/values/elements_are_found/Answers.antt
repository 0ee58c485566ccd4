use Rattle.c_image_laws.proofs.Contracts.{elements_are_named}
use Rattle.c_image_laws.proofs.ElementValues.{index_meant}
use Rattle.c_image_laws.proofs.FoundElements.{elements_are_found, text_elements_are_found, quantities_are_meant, distances_are_meant}
use Rattle.c_image_laws.proofs.values.elements_are_found.Goals as goal

pub returns : goal.returns
returns c = record {
  subscripts = index_meant;
  elements = elements_are_named;
  found = elements_are_found;
  texts = text_elements_are_found;
  quantities = quantities_are_meant;
  distances = distances_are_meant;
}
