-- Each call has fewer names.
use Rattle.std.proofs.Common.{length}
use Rattle.declaration_parse.proofs.declaration_headers.+named.Given as goal

abbrev pub decreases-named : goal.decreases-named
decreases-named l = length l.names
