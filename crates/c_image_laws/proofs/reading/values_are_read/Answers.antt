use Rattle.c_image_laws.proofs.Contracts.{image_stands, numbers_are_read, texts_are_read}
use Rattle.c_image_laws.proofs.Keeping.{held_means, held_text}
use Rattle.c_image_laws.proofs.FetchedPlaces.{number_fetched, label_fetched, text_fetched, character_fetched}
use Rattle.c_image_laws.proofs.reading.values_are_read.Goals as goal

pub returns : goal.returns
returns c = record {
  image = image_stands;
  numbers_there = number_fetched;
  labels_there = label_fetched;
  texts_there = text_fetched;
  characters_there = character_fetched;
  numbers = numbers_are_read;
  texts = texts_are_read;
  kept_numbers = held_means;
  kept_texts = held_text;
}
