-- The places that the words of a command line name.
use Rattle.std.specs.Prelude.{ℕ, Bool, List, [], ◌∷◌, map, if◌then◌else◌}
use Rattle.std.specs.List.{filter, flat_map}
use Rattle.f2c_outside.specs.declared.shelves.Place.{Place}
use Rattle.f2c_outside.specs.declared.shelves.Place.TheVariants.{Input, Output, File}
use Rattle.output_names.specs.OutputNames.{is_file_word, is_prototype_word, output_name, prototype_output}

-- the words that name files
abbrev pub file_words : List (List ℕ) → List (List ℕ)
file_words words = filter is_file_word words

-- places, or one other where there are none
abbrev pub places_or : Place → List Place → List Place
places_or other [] = other ∷ []
places_or other (place ∷ places) = place ∷ places

-- the FORTRAN files that are named, and the prototype files
abbrev pub files_named : List (List ℕ) → List Place
files_named words = map File (file_words words)

abbrev pub prototypes_named : List (List ℕ) → List Place
prototypes_named words = map File (filter is_prototype_word words)

-- the FORTRAN files that are named, or Input
abbrev pub inputs_of : List (List ℕ) → List Place
inputs_of words = places_or Input (files_named words)

-- the C file of a FORTRAN file, and behind it the file of its prototypes, where these are written
abbrev pub word_outputs : Bool → List ℕ → List Place
word_outputs prototypes word = File (output_name word) ∷ (if prototypes then File (prototype_output word) ∷ [] else [])

-- those of each, or Output
abbrev pub outputs_of : Bool → List (List ℕ) → List Place
outputs_of prototypes words = places_or Output (flat_map (word_outputs prototypes) (file_words words))

-- the files of their prototypes alone
abbrev pub prototype_outputs : List (List ℕ) → List Place
prototype_outputs words = map (λ word. File (prototype_output word)) (file_words words)
