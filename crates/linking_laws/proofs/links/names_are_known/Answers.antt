use Rattle.linking_laws.proofs.Scopes.{scopes_are_known, file_scopes_are_known, own_are_numbered, builtins_are_numbered}
use Rattle.linking_laws.proofs.links.names_are_known.Goals as goal

pub returns : goal.returns
returns c = record { locals = scopes_are_known; files = file_scopes_are_known; own = own_are_numbered; builtins = builtins_are_numbered }
