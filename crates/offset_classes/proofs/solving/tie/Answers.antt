use Rattle.std.proofs.Common.{neg_ℤ, sym, ap, ◌∙◌, inl, inr}
use Rattle.offset_classes.specs.Standing.{link_of}
use Rattle.offset_classes.proofs.Rising.{root_within, passed_three}
use Rattle.offset_classes.proofs.Tying.{on_true, on_false, tied_known, tied_wrongly, tied_low, tied_high}
use Rattle.offset_classes.proofs.solving.tie.Goals as goal

pub returns-then-one-other-clause-tied : goal.returns-then-one-other-clause-tied
returns-then-one-other-clause-tied c = λ ls below solving.
    on_true _ _ c.is_none.result c.is_none.ensures.none
    (λ none. tied_known ls (link_of c.args.equation) c.args.nodes.now c.args.height c.find-one.result.root c.find-other.result.root c.find-one.result.offset
    c.find-other.result.offset solving c.find-one.ensures.place c.find-other.ensures.place c.if-one-other.true (sym (passed_three c.between-offset.result c.find-one.result.offset c.args.equation.by c.find-other.result.offset c.find-one.ensures.near c.requires.near c.find-other.ensures.near c.between-offset.ensures.value c.between-offset.ensures.near) ∙ none))

pub returns-then-one-other-clause-contradicts : goal.returns-then-one-other-clause-contradicts
returns-then-one-other-clause-contradicts c = λ ls solving.
    on_false _ _ c.is_none.result c.is_none.ensures.some
    (λ some. tied_wrongly ls (link_of c.args.equation) c.args.nodes.now c.args.height c.find-one.result.root c.find-other.result.root c.find-one.result.offset
    c.find-other.result.offset solving c.requires.one_in c.requires.other_in c.find-one.ensures.place c.find-other.ensures.place c.if-one-other.true (λ none. some (passed_three c.between-offset.result c.find-one.result.offset c.args.equation.by c.find-other.result.offset c.find-one.ensures.near c.requires.near c.find-other.ensures.near c.between-offset.ensures.value c.between-offset.ensures.near ∙ none)))

pub join-requires-clause-one_in : goal.join-requires-clause-one_in
join-requires-clause-one_in c =
    root_within c.args.nodes.now c.args.height c.args.equation.one c.find-one.result.root c.find-one.result.offset c.requires.forest c.requires.one_in c.find-one.ensures.place

pub join-requires-clause-other_in : goal.join-requires-clause-other_in
join-requires-clause-other_in c =
    root_within c.args.nodes.now c.args.height c.args.equation.other c.find-other.result.root c.find-other.result.offset c.requires.forest c.requires.other_in c.find-other.ensures.place

pub returns-clause-tied : goal.returns-clause-tied
returns-clause-tied c = λ ls below solving.
    elim c.join.ensures [
      | inl low ↦ tied_low ls (link_of c.args.equation) c.args.nodes.now c.join.new.nodes c.args.height c.find-one.result.root c.find-other.result.root c.find-one.result.offset
          c.find-other.result.offset _ solving below c.requires.one_in c.requires.other_in c.find-one.ensures.place c.find-other.ensures.place c.if-one-other.false (ap neg_ℤ (passed_three c.between-offset.result c.find-one.result.offset c.args.equation.by c.find-other.result.offset c.find-one.ensures.near c.requires.near c.find-other.ensures.near c.between-offset.ensures.value c.between-offset.ensures.near)) low
      | inr high ↦ tied_high ls (link_of c.args.equation) c.args.nodes.now c.join.new.nodes c.args.height c.find-one.result.root c.find-other.result.root c.find-one.result.offset
          c.find-other.result.offset _ solving below c.requires.one_in c.requires.other_in c.find-one.ensures.place c.find-other.ensures.place c.if-one-other.false (passed_three c.between-offset.result c.find-one.result.offset c.args.equation.by c.find-other.result.offset c.find-one.ensures.near c.requires.near c.find-other.ensures.near c.between-offset.ensures.value c.between-offset.ensures.near) high
    ]
