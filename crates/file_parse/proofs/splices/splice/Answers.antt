use Rattle.file_parse.specs.Splices.{cards_named}
use Rattle.file_parse.proofs.SpliceLemmas.{file_spliced}
use Rattle.file_parse.proofs.splices.splice.Goals as goal

pub returns-in-Ok : goal.returns-in-Ok
returns-in-Ok c = file_spliced (cards_named c.args.places.now) c.args.file c.in-Ok.units c.in-Ok.ensures
