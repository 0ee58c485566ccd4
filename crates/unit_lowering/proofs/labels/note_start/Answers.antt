use Rattle.std.proofs.Common.{nat_eq, sym}
use Rattle.std.specs.HashMap.{get_by}
use Rattle.statement_places.proofs.loop_ranges.LabelLemmas.{kept_at, put_at}
use Rattle.unit_lowering.proofs.Appending.{then_ok}
use Rattle.unit_lowering.proofs.labels.note_start.Goals as goal

pub returns-in-Some : goal.returns-in-Some
returns-in-Some c = λ l. kept_at (λ q. get_by (nat_eq q) c.args.labels.now) c.args.label l c.args.start _ (sym c.in-Some.ensures.value)

pub returns-in-None : goal.returns-in-None
returns-in-None c =
    then_ok _ _ c.put_start.result
    (λ put l. put_at (λ q. get_by (nat_eq q) c.args.labels.now) (λ q. get_by (nat_eq q) c.put_start.new.labels) c.args.label l c.args.start (sym c.in-None.ensures.value) put)
    c.put_start.ensures
