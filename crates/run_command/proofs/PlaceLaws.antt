-- The places of files are files.
use Rattle.std.specs.Prelude.{ℕ, List, [], ◌∷◌, map}
use Rattle.std.specs.List.{All}
use Rattle.std.proofs.lemmas.List.Elements.{All-nil, All-cons}
use Rattle.f2c_outside.specs.declared.shelves.Place.TheVariants.{File}
use Rattle.f2c_outside.specs.Shelf.{IsFile}

pub all_files : (names : List (List ℕ)) → All IsFile (map File names)
all_files [] = All-nil IsFile
all_files (name ∷ names) = All-cons IsFile (File name) (map File names) tt (all_files names)
