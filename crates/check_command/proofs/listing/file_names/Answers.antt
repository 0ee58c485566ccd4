use Rattle.check_command.proofs.ListingLemmas.{names_made}
use Rattle.check_command.proofs.listing.file_names.Goals as goal

pub returns : goal.returns
returns c = names_made c.args.froms.now c.args.included.now c.in_ok-names.names c.with_names.result c.in_ok-names.ensures c.with_names.ensures
