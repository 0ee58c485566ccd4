-- The places that words name: a translation can go from each input to each output.
use Rattle.std.specs.Prelude.{ℕ, ◌<◌, Bool, true, false, List, [], ◌∷◌, length, map, if◌then◌else◌}
use Rattle.std.specs.List.{All, filter, flat_map}
use Rattle.std.proofs.Common.{arith}
use Rattle.std.proofs.lemmas.List.Elements.{All-nil, All-cons}
use Rattle.f2c_outside.specs.declared.shelves.Place.{Place}
use Rattle.f2c_outside.specs.declared.shelves.Place.TheVariants.{Input, Output, File}
use Rattle.f2c_outside.specs.Shelf.{IsFile, IsSource, IsTarget}
use Rattle.output_names.specs.OutputNames.{is_prototype_word, output_name, prototype_output}
use Rattle.output_names.specs.WordPlaces.{file_words, places_or, files_named, prototypes_named, inputs_of, word_outputs, outputs_of, prototype_outputs}
use Rattle.command_words.specs.declared.command.Translation.{Translation}
use Rattle.f2c_program.specs.TranslateRows.{job_of}

some_sources : (words : List (List ℕ)) → All IsSource (map File words)
some_sources [] = All-nil IsSource
some_sources (word ∷ words) = All-cons IsSource (File word) (map File words) tt (some_sources words)

some_targets : (prototypes : Bool) (words : List (List ℕ)) → All IsTarget (flat_map (word_outputs prototypes) words)
some_targets prototypes [] = All-nil IsTarget
some_targets true (word ∷ words) =
    All-cons IsTarget (File (output_name word)) (File (prototype_output word) ∷ flat_map (word_outputs true) words) tt
    (All-cons IsTarget (File (prototype_output word)) (flat_map (word_outputs true) words) tt (some_targets true words))
some_targets false (word ∷ words) = All-cons IsTarget (File (output_name word)) (flat_map (word_outputs false) words) tt (some_targets false words)

some_files : (words : List (List ℕ)) → All IsFile (map File words)
some_files [] = All-nil IsFile
some_files (word ∷ words) = All-cons IsFile (File word) (map File words) tt (some_files words)

-- of the words that name files, or the streams
sources_by : (files : List (List ℕ)) → All IsSource (places_or Input (map File files))
sources_by [] = All-cons IsSource Input [] tt (All-nil IsSource)
sources_by (file ∷ files) = some_sources (file ∷ files)

targets_or : (places : List Place) → All IsTarget places → All IsTarget (places_or Output places)
targets_or [] each = All-cons IsTarget Output [] tt (All-nil IsTarget)
targets_or (place ∷ places) each = each

some_by : (files : List (List ℕ)) → 0 < length (places_or Input (map File files))
some_by [] = omega arith
some_by (file ∷ files) = omega arith

pub sources_of : (words : List (List ℕ)) → All IsSource (inputs_of words)
sources_of words = sources_by (file_words words)

pub targets_of : (prototypes : Bool) (words : List (List ℕ)) → All IsTarget (outputs_of prototypes words)
targets_of prototypes words = targets_or (flat_map (word_outputs prototypes) (file_words words)) (some_targets prototypes (file_words words))

pub some_inputs : (words : List (List ℕ)) → 0 < length (inputs_of words)
some_inputs words = some_by (file_words words)

some_outputs : (words : List (List ℕ)) → All IsFile (map (λ word. File (prototype_output word)) words)
some_outputs [] = All-nil IsFile
some_outputs (word ∷ words) = All-cons IsFile (File (prototype_output word)) (map (λ w. File (prototype_output w)) words) tt (some_outputs words)

olds_by : (compared : Bool) (words : List (List ℕ)) → All IsFile (if compared then prototype_outputs words else [])
olds_by true words = some_outputs (file_words words)
olds_by false words = All-nil IsFile

pub forms_are_files : (words : List (List ℕ)) (asked : Translation) → All IsFile (job_of words asked).forms
forms_are_files words asked = some_files (filter is_prototype_word words)

pub olds_are_files : (words : List (List ℕ)) (asked : Translation) → All IsFile (job_of words asked).olds
olds_are_files words asked = olds_by asked.compared words

-- of a check
pub sources_named : (words : List (List ℕ)) → All IsSource (files_named words)
sources_named words = some_sources (file_words words)

pub prototypes_are_files : (words : List (List ℕ)) → All IsFile (prototypes_named words)
prototypes_are_files words = some_files (filter is_prototype_word words)
