use Rattle.std.proofs.Common.{subst, sym, ℕ}
use Rattle.command_words.specs.CommandWords.{command_of}
use Rattle.f2c_program.specs.TopCall.{Commanded}
use Rattle.f2c_program.proofs.Rows.{commanded}
use Rattle.f2c_program.proofs.top_call.command_status.Goals as goal

pub returns-clause-commanded : goal.returns-clause-commanded
returns-clause-commanded g c =
    subst
    (λ (status : ℕ).
    Commanded c.args.words.now (command_of c.args.words.now) (g.H.Shelf.state c.args.shelf.now)
    (g.H.Shelf.state c.say_outcome.new.shelf) status)
    (sym c.status.ensures)
    (commanded c.checked_sources_run.ensures c.args.words.now (command_of c.args.words.now) (g.H.Shelf.state c.args.shelf.now)
    (g.H.Shelf.state c.carry_out-outcome.new.shelf) (g.H.Shelf.state c.say_outcome.new.shelf) c.carry_out-outcome.result
    c.carry_out-outcome.ensures c.say_outcome.ensures.said c.say_outcome.ensures.silent)
