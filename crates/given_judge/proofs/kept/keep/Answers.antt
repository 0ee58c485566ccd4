use Rattle.std.proofs.Common.{◌||◌, sym, ap, ◌∙◌}
use Rattle.declaration_rows.specs.GivenRows.{exclude}
use Rattle.given_judge.specs.GiftsSeen.{gift_in, given_of, bars_at}
use Rattle.given_judge.proofs.KeptLemmas.{keeps_not, keeps_one}
use Rattle.given_judge.proofs.kept.keep.Goals as goal

pub returns-then-bars : goal.returns-then-bars
unfolding given_of
returns-then-bars c =
    let gift = gift_in c.args.one.gift in
    keeps_not c.args.kept.now (given_of c.args.one)
    (sym (c.noted-barred.ensures gift ∙ ap (λ o. bars_at o gift) c.get.ensures) ∙ sym c.bars.ensures ∙ c.if-bars.true)

pub returns : goal.returns
unfolding given_of
returns c =
    let gift = gift_in c.args.one.gift in
    keeps_one c.args.kept.now c.put.new.self (given_of c.args.one) c.also.result
    (sym (c.noted-barred.ensures gift ∙ ap (λ o. bars_at o gift) c.get.ensures) ∙ sym c.bars.ensures ∙ c.if-bars.false)
    (λ h. c.also.ensures h ∙ ap (λ b. b || exclude gift h) (c.noted-barred.ensures h ∙ ap (λ o. bars_at o h) c.get.ensures)) c.in_ok-put.ensures
