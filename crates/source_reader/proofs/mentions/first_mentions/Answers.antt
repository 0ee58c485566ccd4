use Rattle.std.proofs.Common.{drop, ◌∙◌}
use Rattle.std.proofs.lemmas.List.{drop_all}
use Rattle.source_reader.proofs.MentionLemmas.{has_name, noting_begins, noting_known, noting_unknown, noting_ends}
use Rattle.source_reader.proofs.mentions.first_mentions.Goals.{then-branch+in_ok-from_slice+in_ok-push, else-branch}
use Rattle.source_reader.proofs.mentions.first_mentions.Goals as goal

pub loop-name-init : goal.loop-name-init
loop-name-init c = noting_begins c.args.mentions.now c.new-names.result c.new-seen.result c.new-names.ensures c.new-seen.ensures.empty

pub loop-name-preserved : goal.loop-name-preserved
loop-name-preserved c = elim c.if-branch.branch [
  | then-branch+in_ok-from_slice+in_ok-push w ↦
      noting_unknown c.args.mentions.now c.loop-name.names c.if-branch.names c.loop-name.name-index c.name-item.result w.in_ok-from_slice.field-0 c.as_slice.result
      c.loop-name.seen c.insert.new.self c.in_ok-insert.field-0 c.loop-name-test.true c.name-item.is c.as_slice.ensures c.loop-name.invariant
      c.in_ok-insert.ensures.added c.in_ok-insert.ensures.updates.0 w.if-branch.true (w.in_ok-from_slice.ensures ∙ w.as_slice-then-branch.ensures)
      (w.names-is ∙ w.in_ok-push.ensures.ok)
  | else-branch w ↦
      noting_known c.args.mentions.now c.loop-name.names c.if-branch.names c.loop-name.name-index c.name-item.result c.as_slice.result c.loop-name.seen
      c.insert.new.self c.in_ok-insert.field-0 c.loop-name-test.true c.name-item.is c.as_slice.ensures c.loop-name.invariant c.in_ok-insert.ensures.added
      c.in_ok-insert.ensures.unchanged w.if-branch.false w.names-is
]

pub returns : goal.returns
returns c =
    noting_ends c.args.mentions.now (drop c.loop-name.name-index c.args.mentions.now) c.loop-name.names (has_name c.loop-name.seen) c.loop-name.invariant
    (drop_all c.loop-name.name-index c.args.mentions.now c.loop-name-test.false)
