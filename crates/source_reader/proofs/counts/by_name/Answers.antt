use Rattle.std.proofs.Common.{◌≡◌, ℕ, ◌+◌, ◌-◌, List, Bor, Some, bytes_eq, cond, drop, length, ap, ◌∙◌, subst, arith}
use Rattle.std.specs.Map.{lookup}
use Rattle.std.proofs.lemmas.Map.Text.{hash_map_updates_str}
use Rattle.source_reader.specs.Limits.{first_named, value_named}
use Rattle.source_reader.proofs.LimitLemmas.{naming_starts, naming_goes_on}
use Rattle.source_reader.proofs.counts.by_name.Goals as goal

pub loop-left-init : goal.loop-left-init
loop-left-init g c = (
  omega arith,
  λ name. ap (lookup (λ (key : Bor (List ℕ)). bytes_eq name key.now)) c.new-map.ensures.empty
      ∙ naming_starts c.args.names.now c.args.values.now (length c.args.names.now) name (omega arith) (omega arith),
)

pub loop-left-preserved : goal.loop-left-preserved
loop-left-preserved g c = (
  omega arith,
  λ name. naming_goes_on c.args.names.now c.args.values.now (c.loop-left.left - 1) c.index-names-left.result c.index-values-left.result
      (value_named c.loop-left.map name) (value_named c.insert.new.self name) name (omega arith) (omega arith) c.index-names-left.is c.index-values-left.is
      (subst (λ n. value_named c.loop-left.map name ≡ first_named (drop n c.args.names.now) (drop n c.args.values.now) name)
      (let e : c.loop-left.left ≡ c.loop-left.left - 1 + 1 = omega arith in e) (c.loop-left.invariant.1 name))
      (hash_map_updates_str c.as_slice.result.now c.loop-left.map c.insert.new.self (Some c.index-values-left.result) c.in_ok-insert.ensures.updates name
      ∙ ap (λ b. cond (bytes_eq b name) (Some c.index-values-left.result) (value_named c.loop-left.map name)) c.as_slice.ensures),
)
