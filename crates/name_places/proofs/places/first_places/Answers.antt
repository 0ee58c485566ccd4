use Rattle.std.proofs.Common.{get_or, refl, subst, arith}
use Rattle.std.proofs.lemmas.List.{take_all}
use Rattle.name_table.specs.Named.{names_in}
use Rattle.name_places.specs.FirstPlaces.{AreFirst, mentioned_in, declared_in, fixed_in, procedures_in}
use Rattle.name_places.proofs.PlaceLemmas.{table_more}
use Rattle.name_places.proofs.places.first_places.Goals as goal

pub loop-at-init : goal.loop-at-init
loop-at-init c = c.no_places-places.ensures (names_in c.args.arrays.now)

pub loop-at-preserved : goal.loop-at-preserved
loop-at-preserved c =
    let ss = c.args.statements.now in
    let d = c.index-statements-at.result in
    let s = get_or ss c.loop-at.at d in
    let arrays = names_in c.args.arrays.now in
    let known = c.loop-at.invariant in
    let notes = c.in_ok-note_statement.ensures in
    record {
      mentioned = table_more (mentioned_in arrays) ss c.loop-at.at s d c.loop-at.places.mentioned c.note_statement.new.places.mentioned c.loop-at-test.true refl known.mentioned notes.mentioned;
      declared = table_more declared_in ss c.loop-at.at s d c.loop-at.places.declared c.note_statement.new.places.declared c.loop-at-test.true refl known.declared notes.declared;
      fixed = table_more fixed_in ss c.loop-at.at s d c.loop-at.places.fixed c.note_statement.new.places.fixed c.loop-at-test.true refl known.fixed notes.fixed;
      procedures = table_more (procedures_in arrays) ss c.loop-at.at s d c.loop-at.places.procedures c.note_statement.new.places.procedures c.loop-at-test.true refl known.procedures notes.procedures;
    }

pub returns : goal.returns
returns c = subst (λ ss. AreFirst (names_in c.args.arrays.now) ss c.loop-at.places) (take_all c.loop-at.at c.args.statements.now (omega arith)) c.loop-at.invariant
