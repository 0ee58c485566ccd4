use Rattle.linked_terms.specs.LinkedTerms.{place_of}
use Rattle.term_values.proofs.ListPlaces.{place-within}
use Rattle.term_values.proofs.terms.+term.Goals as goal

pub place-field-requires : goal.place-field-requires
place-field-requires t c =
    place-within c.args.run.now c.get-in-Field.result.now (place_of c.in_ok-place-in-Field.field-0) c.in_ok-place-in-Field.ensures
