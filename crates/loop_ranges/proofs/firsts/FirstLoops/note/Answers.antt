use Rattle.std.proofs.Common.{sym, ◌∙◌}
use Rattle.found_rows.proofs.Walks.{then_ok}
use Rattle.loop_ranges.specs.FirstLoops.{first_at}
use Rattle.loop_ranges.proofs.LabelLemmas.{kept_at, put_at}
use Rattle.loop_ranges.proofs.firsts.FirstLoops.note.Goals as goal

pub returns-in-Some : goal.returns-in-Some
returns-in-Some c = λ k. kept_at (first_at c.args.self.now) c.args.place k c.args.first _ (sym c.get.ensures ∙ c.in-Some.is)

pub returns-in-None : goal.returns-in-None
returns-in-None c =
    then_ok _ _ c.put.result (λ put k. put_at (first_at c.args.self.now) (first_at c.put.new.self) c.args.place k c.args.first (sym c.get.ensures ∙ c.in-None.is) put) c.put.ensures
