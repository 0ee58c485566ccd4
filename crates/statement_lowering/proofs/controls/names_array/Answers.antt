use Rattle.f_tree.specs.Uses.{heading_of}
use Rattle.statement_lowering.proofs.ControlLaws.{array-ranked, array-none}
use Rattle.statement_lowering.proofs.controls.names_array.Goals as goal

pub returns-in-Some : goal.returns-in-Some
returns-in-Some c = λ names told.
    array-ranked names c.args.table.now c.in-Some.name.now (heading_of c.args.e.now).alone c.rank.result told c.in-Some.ensures c.rank.ensures

pub returns-in-None : goal.returns-in-None
returns-in-None c = λ names told. array-none names (heading_of c.args.e.now).alone c.in-None.ensures
