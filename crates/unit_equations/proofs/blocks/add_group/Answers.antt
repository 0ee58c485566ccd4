use Rattle.std.proofs.Common.{map, length, option_copied, refl, ap, ◌∙◌, arith}
use Rattle.f_tree.specs.Lines.{member_of}
use Rattle.unit_equations.specs.BlocksTold.{naming_by, member_in, block_in, place_in}
use Rattle.unit_equations.proofs.BlockForms.{add_members, add_block}
use Rattle.unit_equations.proofs.blocks.add_group.Goals as goal

pub returns-then-place-len : goal.returns-then-place-len
returns-then-place-len c =
    let names = naming_by c.args.facts.now in
    let bs = c.args.blocks.now.items in
    add_members c.extend_from_slice.result c.args.group.now.block (map (member_of names) c.args.group.now.items) bs c.place_of-place.result c.index_mut.result.now _
    c.as_slice-then-place-len.result.now
    (c.place_of-place.ensures.value ∙ ap (λ xs. place_in (option_copied c.block_name-name.result) (map block_in xs)) c.as_slice-2.ensures.value
    ∙ ap (λ x. place_in x (map block_in bs)) c.block_name-name.ensures)
    (omega (arith, c.as_slice-2.ensures.len, ap length c.as_slice-2.ensures.value, c.len.ensures, c.if-place-len.true)) c.index_mut.ensures.value refl
    c.extend_from_slice.ensures.items
    (ap (map member_in) c.as_slice-then-place-len.ensures.value ∙ c.in_ok-members.ensures ∙ ap (map (member_of names)) c.as_slice.ensures)

pub returns : goal.returns
returns c =
    let names = naming_by c.args.facts.now in
    let bs = c.args.blocks.now.items in
    let at = c.place_of-place.ensures.value ∙ ap (λ xs. place_in (option_copied c.block_name-name.result) (map block_in xs)) c.as_slice-2.ensures.value
    ∙ ap (λ x. place_in x (map block_in bs)) c.block_name-name.ensures in
    add_block c.args.group.now.block (map (member_of names) c.args.group.now.items) bs c.push.new.self.items _ c.in_ok-push.ensures.items
    (omega (arith, at, c.as_slice-2.ensures.len, ap length c.as_slice-2.ensures.value, c.len.ensures, c.if-place-len.false)) c.block_name-name.ensures
    (c.in_ok-members.ensures ∙ ap (map (member_of names)) c.as_slice.ensures)
