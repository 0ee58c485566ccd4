-- Why a prototype file is not read.
use Rattle.std.specs.Prelude.{◌≡◌, ℕ, List, Err}
use Rattle.proto_file.specs.declared.reader.ProtoFail.{ProtoFail}
use Rattle.proto_file.specs.declared.reader.ProtoFail.TheVariants.{NoMemory, NotPrototype}
use Rattle.prototypes.specs.PrototypeText.{RefusedLine}
use Rattle.prototype_laws.specs.Reading.{reading}

-- a line is the first one such that the lines up to it are no file
abbrev pub IsRefusal : List ℕ → ProtoFail → Type 0
IsRefusal bytes NoMemory = Unit {0}
IsRefusal bytes (NotPrototype line) = RefusedLine bytes line

-- a line is the one at which the reader that keeps no derivation refuses
abbrev pub IsErrOfReading : List ℕ → ProtoFail → Type 0
IsErrOfReading bytes NoMemory = Unit {0}
IsErrOfReading bytes (NotPrototype line) = reading bytes ≡ Err line
