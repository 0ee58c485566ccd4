use Rattle.std.proofs.Common.{rules, ap, sym, ◌∙◌, Some, SFits, to_z, of_z}
use Rattle.std.specs.Int.{w32}
use Rattle.std.proofs.lemmas.Int.{to_z-of_z}
use Rattle.decl_table.proofs.BoundLemmas.{between-put, between-not-upper, between-not-lower}
use Rattle.decl_table.proofs.bounds.add_between.Goals as goal

pub returns-in-Some-upper : goal.returns-in-Some-upper
returns-in-Some-upper c =
    let low : SFits w32 c.in-Some.lower = search rules in
    between-put c.push.result c.args.bounds.now _ c.args.lower c.args.upper (to_z w32 (of_z w32 c.in-Some.lower)) c.in-Some-upper.upper
    (c.in-Some.is ∙ ap Some (sym (to_z-of_z w32 c.in-Some.lower low))) c.in-Some-upper.is c.push.ensures.ok

pub returns-in-None-upper : goal.returns-in-None-upper
returns-in-None-upper c = between-not-upper c.args.bounds.now c.args.lower c.args.upper c.in-None-upper.is

pub returns-in-None : goal.returns-in-None
returns-in-None c = between-not-lower c.args.bounds.now c.args.lower c.args.upper c.in-None.is
