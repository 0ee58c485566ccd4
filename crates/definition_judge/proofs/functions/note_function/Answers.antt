use Rattle.std.proofs.Common.{List, ℕ, bytes_eq, option_copied, sym, ap, ◌∙◌}
use Rattle.std.specs.Borrow.{Bor}
use Rattle.std.specs.HashMap.{get_by}
use Rattle.definition_judge.proofs.FunctionLemmas.{noted_old, noted_ok}
use Rattle.definition_judge.proofs.functions.note_function.Goals as goal

pub returns-in-Some : goal.returns-in-Some
returns-in-Some c = noted_old c.args.functions.now c.args.name.now c.args.basics.items _ (sym c.get.ensures.value ∙ ap option_copied c.in-Some.is)

pub returns-in-None : goal.returns-in-None
returns-in-None c =
    noted_ok c.put_basics.result (λ (x : List ℕ). get_by (λ (k : Bor (List ℕ)). bytes_eq x k.now) c.args.functions.now) (λ (x : List ℕ). get_by (λ (k : Bor (List ℕ)). bytes_eq x k.now) c.put_basics.new.functions) c.args.name.now
    c.args.basics (sym c.get.ensures.value ∙ ap option_copied c.in-None.is) c.put_basics.ensures
