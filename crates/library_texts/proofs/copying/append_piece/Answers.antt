use Rattle.std.proofs.Common.{◌+◌, ◌-◌}
use borrow.Rule.Slice.PartMut.{same_len_mid}
use Rattle.library_texts.proofs.GatheredLemmas.{appended}
use Rattle.library_texts.proofs.copying.append_piece.Goals as goal

pub returns-clause-gathered : goal.returns-clause-gathered
returns-clause-gathered c text so_far =
    appended c.args.buffer.now c.args.piece.now text c.copy_from_slice.new.self c.args.used c.min-kept.result (c.args.used + c.min-kept.result - c.args.used)
    c.requires c.min-kept.ensures c.copy_from_slice.ensures.after
    (same_len_mid c.args.used (c.args.used + c.min-kept.result - c.args.used) c.args.buffer.now c.copy_from_slice.new.self c.copy_from_slice.ensures.len)
    so_far
