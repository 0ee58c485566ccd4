use Rattle.std.proofs.Common.{List, ℕ, nat_eq, sym, ap, ◌∙◌}
use Rattle.std.specs.List.{list_any}
use Rattle.loop_entries.proofs.FunctionLaws.{once_there}
use Rattle.loop_entries.proofs.functions.add_once.Goals as goal

pub returns-then-contains : goal.returns-then-contains
returns-then-contains c = λ known.
    once_there known c.args.labels.now.items c.args.label
    (ap (λ (ls : List ℕ). list_any (λ k. nat_eq k c.args.label) ls) (sym c.deref.ensures.value) ∙ sym c.contains.ensures.value ∙ c.if-contains.true)
