use Rattle.c_image_laws.proofs.SoundPlaces.{further_sound, shorter_sound, reaching_sound, substring_sound}
use Rattle.c_image_laws.proofs.values.derived_places_are_sound.Goals as goal

pub returns : goal.returns
returns c = record { elements = further_sound; shorter = shorter_sound; arrays = reaching_sound; substrings = substring_sound }
