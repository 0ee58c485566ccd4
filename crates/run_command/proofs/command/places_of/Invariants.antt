use Rattle.std.specs.Prelude.{◌≡◌, map, take}
use Rattle.f2c_outside.specs.declared.shelves.Place.TheVariants.{File}
use Rattle.run_command.proofs.command.places_of.Given as goal

abbrev pub invariant-loop-name : goal.invariant-loop-name
invariant-loop-name l = l.places ≡ map File (take l.name-index l.names)
