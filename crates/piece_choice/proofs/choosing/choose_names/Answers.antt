use Rattle.std.proofs.Common.{length, refl, ap, ◌+◌, ◌∙◌, ◌∷◌, [], arith, sym, subst, bytes_eq}
use Rattle.std.specs.List.{IsDistinct}
use Rattle.std.proofs.lemmas.List.{length-append}
use Rattle.piece_names.proofs.AskingLemmas.{asked_twice, not_asked}
use Rattle.piece_choice.proofs.ChoiceLemmas.{Ahead, ahead_begins, ahead_on, askable_at, none_free, all_chosen, apart_on, none_apart, chosen_lack, untaken_at, not_chosen}
use Rattle.piece_choice.proofs.choosing.choose_names.Goals as goal

pub loop-place-init : goal.loop-place-init
loop-place-init g c = record {
  asked = not_asked (g.H.Shelf.state c.args.shelf.now);
  quiet = refl;
  counted = ap length c.new-names.ensures.items;
  ahead =
      subst (λ names. Ahead (g.H.Shelf.state c.args.shelf.now).told c.args.pieces.now names 0) (sym c.new-names.ensures.items)
      (ahead_begins (g.H.Shelf.state c.args.shelf.now).told c.args.pieces.now);
  apart = subst (IsDistinct bytes_eq) (sym c.new-names.ensures.items) none_apart;
}

pub choose_name-requires : goal.choose_name-requires
choose_name-requires g c =
    askable_at c.args.pieces.now c.loop-place.place c.wanted.result c.name-own.result.now c.requires c.wanted.ensures c.name-own.ensures

pub returns-in-None-clause-failed : goal.returns-in-None-clause-failed
returns-in-None-clause-failed g c =
    none_free (g.H.Shelf.state c.args.shelf.now).told (g.H.Shelf.state c.loop-place.shelf).told c.args.pieces.now c.loop-place.names.items c.as_slice.result.now
    c.loop-place.place c.wanted.result c.name-own.result.now c.in_ok-choose_name.field-0 c.loop-place.invariant.asked.told c.as_slice.ensures.value c.wanted.ensures
    c.name-own.ensures c.in_ok-choose_name.ensures.chosen c.in-None.is c.loop-place.invariant.ahead

pub loop-place-preserved : goal.loop-place-preserved
loop-place-preserved g c =
    let told = (g.H.Shelf.state c.args.shelf.now).told in
    let names = c.loop-place.names.items in
    let found = c.in_ok-choose_name.field-0 in
    record {
      asked =
          asked_twice (g.H.Shelf.state c.args.shelf.now) (g.H.Shelf.state c.loop-place.shelf) (g.H.Shelf.state c.choose_name.new.shelf) c.loop-place.invariant.asked
          c.choose_name.ensures.asked;
      quiet = c.in_ok-choose_name.ensures.quiet ∙ c.loop-place.invariant.quiet;
      counted = ap length c.in_ok-push-in-Some.ensures.items ∙ length-append names (c.in-Some.name ∷ []) ∙ ap (λ n. n + 1) c.loop-place.invariant.counted;
      ahead =
          subst (λ after. Ahead told c.args.pieces.now after (c.loop-place.place + 1)) (sym c.in_ok-push-in-Some.ensures.items)
          (ahead_on told (g.H.Shelf.state c.loop-place.shelf).told c.args.pieces.now names c.as_slice.result.now c.loop-place.place c.wanted.result c.name-own.result.now
          c.in-Some.name found c.loop-place.invariant.asked.told c.as_slice.ensures.value c.wanted.ensures c.name-own.ensures c.in_ok-choose_name.ensures.chosen c.in-Some.is
          c.loop-place.invariant.ahead);
      apart =
          subst (IsDistinct bytes_eq) (sym c.in_ok-push-in-Some.ensures.items)
          (apart_on names c.in-Some.name c.loop-place.invariant.apart
          (untaken_at c.in-Some.name found c.as_slice.result.now names c.as_slice.ensures.value c.in-Some.is c.in_ok-choose_name.ensures.untaken));
    }

pub returns-clause-chosen : goal.returns-clause-chosen
returns-clause-chosen g c =
    all_chosen (g.H.Shelf.state c.args.shelf.now).told c.args.pieces.now c.loop-place.names.items c.loop-place.place (omega (arith, c.len-place-end.ensures))
    c.loop-place.invariant.ahead

pub returns-clause-absent : goal.returns-clause-absent
returns-clause-absent g c =
    chosen_lack (g.H.Shelf.state c.args.shelf.now).told c.args.pieces.now c.loop-place.names.items
    (all_chosen (g.H.Shelf.state c.args.shelf.now).told c.args.pieces.now c.loop-place.names.items c.loop-place.place (omega (arith, c.len-place-end.ensures))
    c.loop-place.invariant.ahead)

pub returns-in_err-choose_name-clause-failed : goal.returns-in_err-choose_name-clause-failed
returns-in_err-choose_name-clause-failed g c =
    not_chosen c.from_residual.result c.args.pieces.now c.in_err-choose_name.field-0.0 c.loop-place.place c.wanted.result c.name-own.result.now
    (g.H.Shelf.state c.args.shelf.now) (g.H.Shelf.state c.loop-place.shelf) (g.H.Shelf.state c.choose_name.new.shelf) c.from_residual.ensures.1 c.wanted.ensures
    c.name-own.ensures c.loop-place.invariant.quiet c.in_err-choose_name.ensures.failed
