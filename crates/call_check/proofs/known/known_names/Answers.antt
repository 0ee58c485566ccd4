use Rattle.call_check.proofs.known.known_names.Goals as goal

pub returns : goal.returns
returns c = record { is_set = c.in_ok-arrays.ensures.is_set; arrays = c.in_ok-arrays.ensures.names; types = c.in_ok-types.ensures; names = c.in_ok-definition_fault.ensures.names }
