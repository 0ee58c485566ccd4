use Rattle.unit_contents.proofs.WholeLaws.{contents_told}
use Rattle.unit_contents.proofs.reading.contents_of.Goals as goal

pub returns : goal.returns
returns c =
    contents_told c.args.table.now c.args.text.now c.as_slice-steps.result.now _ c.as_slice-steps.ensures.value
    (record {
      lists = c.in_ok-lists.ensures;
      temporaries = c.in_ok-temporaries.ensures;
      strings = c.in_ok-strings.ensures;
      calls = c.in_ok-calls.ensures;
    })
    c.in_ok-procedures.ensures c.in_ok-kinds.ensures c.are_in_place-are_outputs_in_place.ensures c.in_ok-layout.ensures
