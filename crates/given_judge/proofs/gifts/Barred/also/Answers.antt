use Rattle.given_judge.specs.GiftsSeen.{gift_in}
use Rattle.given_judge.proofs.GiftLemmas.{barred_also}
use Rattle.given_judge.proofs.gifts.Barred.also.Goals as goal

pub returns : goal.returns
unfolding gift_in
returns c =
    barred_also c.args.self.now _ (gift_in c.args.kept) c.is_barred.ensures c.is_barred-2.ensures c.is_barred-3.ensures c.is_barred-4.ensures c.is_barred-5.ensures c.is_barred-6.ensures
    c.is_barred-7.ensures c.is_barred-8.ensures c.is_barred-9.ensures c.is_barred-10.ensures c.is_barred-11.ensures c.is_barred-12.ensures c.is_barred-13.ensures
