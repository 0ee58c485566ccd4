use Rattle.std.proofs.Common.{◌∙◌}
use Rattle.unit_table_rows.specs.Ends.{the_unit}
use Rattle.unit_table_rows.proofs.Steps.{still-free}
use Rattle.unit_table_rows.proofs.programs.not_connected.Goals as goal

pub returns-clause-read : goal.returns-clause-read
returns-clause-read g c = c.read_from-read.ensures.did.refused.1 c.requires

pub returns-clause-written : goal.returns-clause-written
returns-clause-written g c =
    let one = c.read_from-read.ensures.did.missing c.requires
    in c.write_to-written.ensures.did.refused.1 (still-free the_unit _ _ one c.requires)

pub returns-clause-back : goal.returns-clause-back
returns-clause-back g c =
    let one = c.read_from-read.ensures.did.missing c.requires
    in let free1 = still-free the_unit _ _ one c.requires
    in let two = c.write_to-written.ensures.did.missing free1
    in c.back_unit-back.ensures.did.refused.1 (still-free the_unit _ _ two free1)

pub returns-clause-rewound : goal.returns-clause-rewound
returns-clause-rewound g c =
    let one = c.read_from-read.ensures.did.missing c.requires
    in let free1 = still-free the_unit _ _ one c.requires
    in let two = c.write_to-written.ensures.did.missing free1
    in let free2 = still-free the_unit _ _ two free1
    in let three = c.back_unit-back.ensures.did.missing free2
    in c.rewind_unit-rewound.ensures.did.refused.1 (still-free the_unit _ _ three free2)

pub returns-clause-ended : goal.returns-clause-ended
returns-clause-ended g c =
    let one = c.read_from-read.ensures.did.missing c.requires
    in let free1 = still-free the_unit _ _ one c.requires
    in let two = c.write_to-written.ensures.did.missing free1
    in let free2 = still-free the_unit _ _ two free1
    in let three = c.back_unit-back.ensures.did.missing free2
    in let free3 = still-free the_unit _ _ three free2
    in let four = c.rewind_unit-rewound.ensures.did.missing free3
    in c.end_unit-ended.ensures.did.refused.1 (still-free the_unit _ _ four free3)

pub returns-clause-closed : goal.returns-clause-closed
returns-clause-closed g c =
    let one = c.read_from-read.ensures.did.missing c.requires
    in let free1 = still-free the_unit _ _ one c.requires
    in let two = c.write_to-written.ensures.did.missing free1
    in let free2 = still-free the_unit _ _ two free1
    in let three = c.back_unit-back.ensures.did.missing free2
    in let free3 = still-free the_unit _ _ three free2
    in let four = c.rewind_unit-rewound.ensures.did.missing free3
    in let free4 = still-free the_unit _ _ four free3
    in let five = c.end_unit-ended.ensures.did.missing free4
    in c.close_unit-closed.ensures.did.refused.1 (still-free the_unit _ _ five free4)

pub returns-clause-kept : goal.returns-clause-kept
returns-clause-kept g c =
    let one = c.read_from-read.ensures.did.missing c.requires
    in let free1 = still-free the_unit _ _ one c.requires
    in let two = c.write_to-written.ensures.did.missing free1
    in let free2 = still-free the_unit _ _ two free1
    in let three = c.back_unit-back.ensures.did.missing free2
    in let free3 = still-free the_unit _ _ three free2
    in let four = c.rewind_unit-rewound.ensures.did.missing free3
    in let free4 = still-free the_unit _ _ four free3
    in let five = c.end_unit-ended.ensures.did.missing free4
    in let free5 = still-free the_unit _ _ five free4
    in let six = c.close_unit-closed.ensures.did.missing (c.close_unit-closed.ensures.did.refused.1 free5)
    in six ∙ five ∙ four ∙ three ∙ two ∙ one
