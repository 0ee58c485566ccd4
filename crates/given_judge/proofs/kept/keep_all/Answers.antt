use Rattle.std.proofs.Common.{◌++◌, ◌∷◌, [], List, get_or, refl, arith}
use Rattle.found_rows.proofs.Walks.{each_more, each_end}
use Rattle.given_judge.specs.declared.givens.GivenName.{GivenName}
use Rattle.given_judge.specs.GiftsSeen.{given_of, givens_in}
use Rattle.given_judge.proofs.KeptLemmas.{no_given, keeps_none, keeps_both, keeps_end}
use Rattle.given_judge.proofs.kept.keep_all.Goals as goal

pub loop-one-init : goal.loop-one-init
loop-one-init c = record { done = []; put = refl; keeps = keeps_none c.args.kept.now }

pub loop-one-preserved : goal.loop-one-preserved
loop-one-preserved c =
    let g = get_or c.args.givens.now c.loop-one.one-index no_given in
    let inv = c.loop-one.invariant in
    record {
      done = inv.done ++ given_of g ∷ [];
      put = each_more (λ (gs : List GivenName). givens_in gs) (λ (x : GivenName). given_of x ∷ []) (λ x xs. refl) c.args.givens.now c.loop-one.one-index g no_given _ _ _
          c.loop-one-test.true refl inv.put refl;
      keeps = keeps_both c.args.kept.now c.loop-one.kept c.keep.new.kept inv.done (given_of g ∷ []) c.loop-one.sound c.in_ok-is_kept.is_kept c.both-sound.result inv.keeps c.in_ok-is_kept.ensures c.both-sound.ensures;
    }

pub returns : goal.returns
returns c =
    let inv = c.loop-one.invariant in
    keeps_end c.args.kept.now c.loop-one.kept inv.done (givens_in c.args.givens.now) c.loop-one.sound
    (each_end (λ (gs : List GivenName). givens_in gs) (λ (x : GivenName). given_of x ∷ []) refl c.args.givens.now c.loop-one.one-index _ _ (omega arith) inv.put) inv.keeps
