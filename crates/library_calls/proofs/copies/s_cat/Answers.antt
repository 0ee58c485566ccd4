use Rattle.std.proofs.Common.{refl}
use Rattle.library_calls.proofs.CallLemmas.{joined, no-piece, not-joined}
use Rattle.library_calls.proofs.copies.s_cat.Goals as goal

pub returns-in-Ok-collect : goal.returns-in-Ok-collect
returns-in-Ok-collect c =
    joined c.args.run.now c.put_gathered.new.run c.args.target c.args.addresses c.args.lengths c.args.count c.args.target_length c.in-Ok.pieces c.in-Ok.size (c.in-Ok-collect.ensures).0 c.put_gathered.result
    c.in-Ok.ensures (c.in-Ok-collect.ensures).1 (c.put_gathered.ensures (c.in-Ok-collect.ensures).0 (c.in-Ok-collect.ensures).2)

pub put_gathered-requires-clause-used : goal.put_gathered-requires-clause-used
put_gathered-requires-clause-used c = (c.in-Ok-collect.ensures).2.within

pub returns-in-Err-collect : goal.returns-in-Err-collect
returns-in-Err-collect c =
    (no-piece c.args.run.now c.args.target c.args.addresses c.args.lengths c.args.count c.args.target_length c.in-Ok.pieces c.in-Ok.size c.in-Err-collect.fault c.in-Ok.ensures c.in-Err-collect.ensures, refl)

pub returns-in-Err : goal.returns-in-Err
returns-in-Err c =
    (not-joined c.args.run.now c.args.target c.args.addresses c.args.lengths c.args.count c.args.target_length c.in-Err.fault c.in-Err.ensures, refl)
