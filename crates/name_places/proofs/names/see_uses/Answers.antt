use Rattle.std.proofs.Common.{List, ◌∷◌, [], get_or, refl, arith}
use Rattle.f_tree.specs.Values.{Bytes}
use Rattle.name_uses.specs.declared.uses.Use.{Use as Seen}
use Rattle.name_uses.specs.UsesSeen.{used_in}
use Rattle.name_uses.proofs.ItemForms.{no_use}
use Rattle.name_places.specs.FirstPlaces.{use_names}
use Rattle.name_places.proofs.NoteForms.{uses_step, uses_none}
use Rattle.name_places.proofs.SeenLemmas.{seen_on, seen_end}
use Rattle.name_places.proofs.names.see_uses.Goals as goal

pub loop-one-preserved : goal.loop-one-preserved
loop-one-preserved c = record {
  names = seen_on (λ (us : List Seen). use_names (used_in us)) (λ (u : Seen). u.name.now ∷ []) uses_step c.args.uses.now c.loop-one.one-index (get_or c.args.uses.now c.loop-one.one-index no_use) no_use _ _ _ c.loop-one-test.true refl c.loop-one.invariant.names c.in_ok-see.ensures.names;
  seen = c.in_ok-see.ensures.seen;
}

pub returns-clause-names : goal.returns-clause-names
returns-clause-names c = seen_end (λ (us : List Seen). use_names (used_in us)) (λ (u : Seen). u.name.now ∷ []) uses_none c.args.uses.now c.loop-one.one-index _ _ (omega arith) c.loop-one.invariant.names
