use Rattle.std.proofs.Common.{List, ◌∷◌, [], map, get_or, refl, sym, ap, ◌∙◌, arith}
use Rattle.f_tree.specs.Values.{Bytes}
use Rattle.name_uses.specs.declared.uses.Use.{Use as Seen}
use Rattle.name_uses.specs.UsesSeen.{use_of, used_in}
use Rattle.name_places.specs.FirstPlaces.{called_names}
use Rattle.name_places.proofs.NoteForms.{calls_step, called_none}
use Rattle.name_uses.proofs.ItemForms.{no_use}
use Rattle.name_places.proofs.NoteLemmas.{notes_more, notes_end, notes_as}
use Rattle.name_places.proofs.notes.note_calls.Goals as goal

pub loop-one-preserved : goal.loop-one-preserved
loop-one-preserved c =
    notes_more (λ (us : List Seen). called_names (used_in us)) (λ (u : Seen). called_names (use_of u ∷ [])) calls_step c.args.at c.args.uses.now c.loop-one.one-index (get_or c.args.uses.now c.loop-one.one-index no_use) no_use _ _ _ c.loop-one-test.true refl
    c.loop-one.invariant c.in_ok-note_call.ensures

pub returns : goal.returns
returns c = notes_end (λ (us : List Seen). called_names (used_in us)) (λ (u : Seen). called_names (use_of u ∷ [])) called_none c.args.at c.args.uses.now c.loop-one.one-index _ _ (omega arith) c.loop-one.invariant
