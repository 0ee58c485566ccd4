use Rattle.std.proofs.Common.{◌≡◌, false, Some, is_some}
use Rattle.std.proofs.lemmas.Map.Text.{hash_map_updates_str}
use Rattle.first_names.specs.FirstNames.{first_of}
use Rattle.first_names.proofs.FirstLemmas.{added}
use Rattle.first_names.proofs.FirstNames.give.Goals as goal

pub returns-in-Ok : goal.returns-in-Ok
unfolding first_of
returns-in-Ok g c =
    let none : is_some (first_of c.args.self.now c.args.name.now) ≡ false = cc in
    added (first_of c.args.self.now) (first_of (record { values = c.insert.new.self })) c.args.name.now c.args.value none
    (λ q. hash_map_updates_str c.args.name.now c.args.self.now.values c.insert.new.self (Some c.args.value) c.in-Ok.ensures.updates q)
