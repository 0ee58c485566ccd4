use Rattle.c_grammar_laws.proofs.HeadGood.{good_parameters, good_heads}
use Rattle.c_grammar_laws.proofs.DeclarationExact.{good_declarations}
use Rattle.c_grammar_laws.proofs.declarations.good_c_declarations.Goals as goal

pub returns : goal.returns
returns c = record { declarations = good_declarations; parameters = good_parameters; heads = good_heads }
