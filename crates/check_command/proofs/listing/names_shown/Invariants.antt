use Rattle.std.proofs.Common.{◌≡◌, take, map}
use Rattle.check_command.specs.Listing.{name_shown}
use Rattle.check_command.proofs.listing.names_shown.Given as goal

abbrev pub invariant-loop-place : goal.invariant-loop-place
invariant-loop-place l = l.names ≡ map name_shown (take l.place-index l.places)
