use Rattle.std.proofs.Common.{refl}
use Rattle.listed_input.proofs.StoreLaws.{piece-put, piece-faulty, text-stored-forms}
use Rattle.listed_input.proofs.texts.put_piece.Goals as goal

pub returns-in-Ok-clause-puts : goal.returns-in-Ok-clause-puts
returns-in-Ok-clause-puts c objects text written =
    piece-put objects c.args.run.now c.put_text.new.self c.args.pointer c.place_behind-place.result c.args.size c.args.done c.min-count.result _ text c.args.piece.now
    c.place_behind-place.ensures c.min-count.ensures refl c.in-Ok.ensures written

pub returns-in-Ok-clause-forms : goal.returns-in-Ok-clause-forms
returns-in-Ok-clause-forms c = text-stored-forms c.args.run.now c.put_text.new.self c.place_behind-place.result _ c.in-Ok.ensures

pub returns-in-Err-clause-puts : goal.returns-in-Err-clause-puts
returns-in-Err-clause-puts c objects text more written =
    piece-faulty objects c.args.run.now c.args.pointer c.place_behind-place.result c.args.size c.args.done c.min-count.result text c.args.piece.now more c.in-Err.fault
    c.place_behind-place.ensures c.min-count.ensures c.in-Err.ensures.0 written
