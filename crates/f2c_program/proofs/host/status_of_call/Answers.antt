use Rattle.f2c_program.proofs.host.status_of_call.Goals as goal

pub returns : goal.returns
returns g c = record {
  after = g.H.Shelf.state c.f2c.new.shelf;
  concluded = c.f2c.ensures.concluded;
  commanded = c.f2c.ensures.commanded;
  ran = λ is. record { rows' = _; ended = c.f2c.ensures.ran is };
}
