use Rattle.c_readers.specs.DeclarationReader.{is_new}
use Rattle.c_scope.specs.ScopeSeen.{scope_of, here_of}
use Rattle.c_expression_reader.specs.Readings.{shown}
use Rattle.c_declaration_reader.specs.Endings.{seen_local_lead}
use Rattle.c_declaration_reader.specs.SeenDeclarations.{seen_declared}
use Rattle.c_declaration_reader.proofs.NewNames.{fresh-read, local-named}
use Rattle.c_declaration_reader.proofs.locals.new_local.Goals as goal

pub returns-clause-fresh : goal.returns-clause-fresh
returns-clause-fresh c =
    let here = here_of c.args.scope.now in
    fresh-read here (λ p. (seen_declared p.0, shown p.1.now)) c.local_by.result _ c.local_by.ensures
    (local-named (scope_of c.args.scope.now) (is_new here) c.args.most (shown c.args.tokens.now) (seen_local_lead c.args.lead))
