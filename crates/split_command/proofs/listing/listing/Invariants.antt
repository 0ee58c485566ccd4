use Rattle.std.proofs.Common.{◌≡◌, ◌++◌, drop}
use Rattle.split_command.specs.Listing.{listing}
use Rattle.split_command.proofs.listing.listing.Given as goal

abbrev pub invariant-loop-name : goal.invariant-loop-name
invariant-loop-name l = listing l.names ≡ l.text.items ++ listing (drop l.name-index l.names)
