use Rattle.std.proofs.Common.{ℕ, Option, List, None, get_or, ap, ◌∙◌}
use Rattle.f_tree.specs.Lines.{unit_read}
use Rattle.name_facts.specs.declaration_rows.NameRows.{given_names}
use Rattle.loop_entries.proofs.FitLemmas.{reads_as, ranges_as, blocks_not, branches_not, entered_well}
use Rattle.loop_entries.proofs.entries.are_entered_well.Goals as goal

pub returns-then-not-blocks_are_whole : goal.returns-then-not-blocks_are_whole
returns-then-not-blocks_are_whole c = λ options.
    let u = c.args.unit.now in
    let p = unit_read options u in
    let reads = reads_as options u c.as_slice-statements.result.now c.as_slice-statements.ensures in
    let are = c.in_ok-ranges.ensures p (c.requires.ends options) in
    blocks_not p c.blocks_are_whole.result
    (c.blocks_are_whole.ensures p (given_names u) reads (ranges_as p c.in_ok-ranges.ranges.items _ c.as_slice.ensures.value are)
    (λ i h. ap (λ (ns : List (Option ℕ)). get_or ns i None) c.as_slice-2.ensures.value ∙ c.in_ok-next.ensures.arms p (given_names u) reads i h))
    c.if-not-blocks_are_whole.true

pub returns-then-not-branch : goal.returns-then-not-branch
returns-then-not-branch c = λ options.
    let u = c.args.unit.now in
    let p = unit_read options u in
    let reads = reads_as options u c.as_slice-statements.result.now c.as_slice-statements.ensures in
    let are = c.in_ok-ranges.ensures p (c.requires.ends options) in
    branches_not p c.blocks_are_whole.result c.in_ok-branches_stay_outside.field-0
    (c.blocks_are_whole.ensures p (given_names u) reads (ranges_as p c.in_ok-ranges.ranges.items _ c.as_slice.ensures.value are)
    (λ i h. ap (λ (ns : List (Option ℕ)). get_or ns i None) c.as_slice-2.ensures.value ∙ c.in_ok-next.ensures.arms p (given_names u) reads i h))
    c.if-not-blocks_are_whole.false
    (c.in_ok-branches_stay_outside.ensures options (ranges_as p c.in_ok-ranges.ranges.items _ c.as_slice-3.ensures.value are)) c.if-not-branch.true

pub returns : goal.returns
returns c = λ options.
    let u = c.args.unit.now in
    let p = unit_read options u in
    let ss = c.as_slice-statements.result.now in
    let reads = reads_as options u ss c.as_slice-statements.ensures in
    let are = c.in_ok-ranges.ensures p (c.requires.ends options) in
    entered_well options u ss c.blocks_are_whole.result c.in_ok-branches_stay_outside.field-0 c.entries_are_outside.result c.as_slice-statements.ensures
    (c.blocks_are_whole.ensures p (given_names u) reads (ranges_as p c.in_ok-ranges.ranges.items _ c.as_slice.ensures.value are)
    (λ i h. ap (λ (ns : List (Option ℕ)). get_or ns i None) c.as_slice-2.ensures.value ∙ c.in_ok-next.ensures.arms p (given_names u) reads i h))
    c.if-not-blocks_are_whole.false
    (c.in_ok-branches_stay_outside.ensures options (ranges_as p c.in_ok-ranges.ranges.items _ c.as_slice-3.ensures.value are)) c.if-not-branch.false
    (c.entries_are_outside.ensures p (ranges_as p c.in_ok-ranges.ranges.items _ c.as_slice-4.ensures.value are))
