use Rattle.std.proofs.Common.{◌≡◌, ℕ, ◌+◌, ◌<◌, nat_eq, Some, None, if◌then◌else◌, map, length, get_or, sym, subst, ap, refl, ◌∙◌, arith}
use Rattle.std.specs.Option.{option_or}
use Rattle.lowered_text.specs.Texts.{marked_of}
use Rattle.main_translation.specs.Outlined.{whiles_in}
use Rattle.unit_contents.proofs.Lists.{written_whole}
use Rattle.unit_contents.proofs.FirstLaws.{AreCountedTo, whiles_put, whiles_end}
use Rattle.unit_contents.proofs.firsts.first_whiles.Goals as goal

pub loop-number-preserved : goal.loop-number-preserved
loop-number-preserved c =
    let t = c.args.text.now in
    let i = c.loop-number.number in
    let before = c.loop-number.firsts.items in
    let after = c.put_first.new.table in
    let places = c.deref-place-items.result.now in
    let place = get_or places i 0 in
    let put : (n : ℕ) → n < length before → get_or after n None ≡ option_or (get_or before n None) (if nat_eq n place then Some i else None)
    = subst (λ xs. (n : ℕ) → n < length xs → get_or after n None ≡ option_or (get_or xs n None) (if nat_eq n place then Some i else None)) c.deref_mut.ensures.value
    c.put_first.ensures in
    subst (AreCountedTo t (i + 1)) (sym (written_whole before after c.loop-number.firsts.len (omega (arith, c.loop-number.firsts.ok.0)) (omega arith)))
    (whiles_put t places i place 0 before after (c.deref-place-items.ensures.value ∙ c.in_ok-places.ensures ∙ ap (λ ms. whiles_in (map marked_of ms)) c.as_slice.ensures.value)
    c.loop-number-test.true refl (omega arith) put c.loop-number.invariant)

pub returns : goal.returns
returns c =
    whiles_end c.args.text.now c.deref-place-items.result.now c.loop-number.number c.loop-number.firsts.items
    (c.deref-place-items.ensures.value ∙ c.in_ok-places.ensures ∙ ap (λ ms. whiles_in (map marked_of ms)) c.as_slice.ensures.value) (omega arith) c.loop-number.invariant
