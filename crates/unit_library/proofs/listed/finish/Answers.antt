use Rattle.std.proofs.Common.{◌≡◌, ◌∙◌, None, sym}
use denote.Enum.Bare.{same_true, same_false}
use Rattle.unit_library.specs.contracts.functions.TransferType.{the_type}
use Rattle.unit_library.specs.Transfers.{type_of}
use Rattle.unit_library.proofs.SameCalls.{held-as}
use Rattle.unit_library.proofs.KindLaws.{finish-which, finish-unlike}
use Rattle.unit_library.proofs.TransferLaws.{finish-outside}
use Rattle.unit_library.proofs.listed.finish.Goals as goal

pub returns-in-None : goal.returns-in-None
returns-in-None g c =
    held-as _ _ c.args.run.now c.args.run.now c.args.transfer.now None _ _ c.broken.result c.in-None.is (finish-outside c.args.which _ c.broken.result c.broken.ensures c.args.run.now)

pub returns-then-eq : goal.returns-then-eq
returns-then-eq g c =
    let same : c.args.which ≡ type_of c.in-Some.going =
    same_true the_type tt c.args.which c.type_of.result (sym c.eq.ensures ∙ c.if-eq.true) ∙ c.type_of.ensures in
    finish-which c.args.which (type_of c.in-Some.going) same c.finish_own.ensures

pub returns-else-eq : goal.returns-else-eq
returns-else-eq g c =
    finish-unlike c.args.which c.in-Some.going c.args.run.now _ c.args.transfer.now c.broken-else-eq.result c.in-Some.is
    (λ same. same_false the_type c.args.which c.type_of.result (sym c.eq.ensures ∙ c.if-eq.false) (same ∙ sym c.type_of.ensures)) c.broken-else-eq.ensures
