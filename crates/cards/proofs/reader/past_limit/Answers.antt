use Rattle.std.proofs.Common.{◌≡◌, ◌+◌, ◌<◌, ◌≤◌, suc, true, false, length, take, sym, ap, subst, ◌∙◌, arith, Some}
use Rattle.std.proofs.lemmas.Bool.{ltb-true, ltb-false}
use Rattle.fortran_text.specs.FirstFault.{most_bytes, most_cards, too_long}
use Rattle.fortran_text.specs.Lines.{lines}
use Rattle.cards.proofs.LimitLemmas.{most_bytes-is, count, judged_length, byte_end, byte_inner, limit_many, limit_none, limit_byte}
use Rattle.cards.proofs.PassLemmas.{most_cards-is}
use Rattle.cards.specs.Passes.{ends_with}
use Rattle.cards.proofs.reader.past_limit.Goals as goal

pub overflow_add-result-then-ends_with : goal.overflow_add-result-then-ends_with
overflow_add-result-then-ends_with c = omega (arith, c.requires.cards, judged_length c.args.bytes.now, most_cards-is)

pub returns-then-more : goal.returns-then-more
unfolding count
returns-then-more c =
    let bytes = c.args.bytes.now in
    let many : most_cards < count bytes = ltb-true most_cards (length (lines (take most_bytes bytes))) (sym c.requires.more ∙ c.if-more.true) in
    subst (λ n. Some n ≡ too_long bytes) (ap suc most_cards-is) (sym (limit_many bytes many))

pub returns-then-bytes-le-MOST_BYTES : goal.returns-then-bytes-le-MOST_BYTES
unfolding count
returns-then-bytes-le-MOST_BYTES c =
    let bytes = c.args.bytes.now in
    let few : count bytes ≤ most_cards = ltb-false most_cards (length (lines (take most_bytes bytes))) (sym c.requires.more ∙ c.if-more.false) in
    sym (limit_none bytes few (omega (arith, most_bytes-is, c.if-bytes-le-MOST_BYTES.true)))

pub returns-then-ends_with : goal.returns-then-ends_with
unfolding count
returns-then-ends_with c =
    let bytes = c.args.bytes.now in
    let few : count bytes ≤ most_cards = ltb-false most_cards (length (lines (take most_bytes bytes))) (sym c.requires.more ∙ c.if-more.false) in
    let long : most_bytes < length bytes = omega (arith, most_bytes-is, c.if-bytes-le-MOST_BYTES.false) in
    let ended : ends_with 10 (take most_bytes bytes) ≡ true = ap (ends_with 10) (sym c.requires.front) ∙ sym c.ends_with.ensures ∙ c.if-ends_with.true in
    let number : c.args.cards + 1 ≡ suc (count bytes) = omega (arith, c.requires.cards, judged_length bytes) in
    ap (λ n. Some n) (number ∙ sym (byte_end bytes long ended)) ∙ sym (limit_byte bytes few long)

pub returns-else-ends_with : goal.returns-else-ends_with
unfolding count
returns-else-ends_with c =
    let bytes = c.args.bytes.now in
    let few : count bytes ≤ most_cards = ltb-false most_cards (length (lines (take most_bytes bytes))) (sym c.requires.more ∙ c.if-more.false) in
    let long : most_bytes < length bytes = omega (arith, most_bytes-is, c.if-bytes-le-MOST_BYTES.false) in
    let ended : ends_with 10 (take most_bytes bytes) ≡ false = ap (ends_with 10) (sym c.requires.front) ∙ sym c.ends_with.ensures ∙ c.if-ends_with.false in
    let number : c.args.cards ≡ count bytes = omega (arith, c.requires.cards, judged_length bytes) in
    ap (λ n. Some n) (number ∙ sym (byte_inner bytes long ended)) ∙ sym (limit_byte bytes few long)
