-- The items that keep bounds do so.
use Rattle.std.specs.Prelude.{◌≡◌, ◌≢◌, ℕ, suc, ◌+◌, ℤ, List, [], ◌∷◌, length, Option, Some, None, option_map, slice_get, slice_set}
use Rattle.std.proofs.Common.{refl, sym, ap, ◌∙◌, subst, arith}
use Rattle.std.proofs.lemmas.List.{length-set}
use Rattle.std.proofs.lemmas.Option.{slice_get_within}
use Rattle.c_emit_laws.specs.c_emit.simulation.Machine.{Goes}
use Rattle.c_emit_laws.specs.c_emit.simulation.LocalSimulation.{Does, last, more}
use Rattle.c_emit_laws.specs.c_emit.f_tree.Values.{Bytes, Spot, Datum, IsInt}
use Rattle.c_emit_laws.specs.c_emit.f_tree.Store.{Store}
use Rattle.c_emit_laws.specs.c_emit.f_tree.Facts.{Bounds, Frame}
use Rattle.c_emit_laws.specs.c_emit.f_tree.Setting.{IsIn, first_in, later_in}
use Rattle.c_emit_laws.specs.c_emit.f_tree.Valuing.{either_bounds, bounds_of}
use Rattle.c_emit_laws.specs.l_core.Pures.{none_kept}
use Rattle.c_emit_laws.specs.c_emit.c_tree.Access.{ToNumber}
use Rattle.c_emit_laws.specs.c_emit.c_tree.Objects as objects_of
use Rattle.c_emit_laws.specs.c_emit.c_tree.Objects.{Object}
use Rattle.c_emit_laws.specs.c_emit.c_tree.Terms.{Term, Variable}
use Rattle.c_emit_laws.specs.c_emit.c_tree.Flat.{Flat, Assign}
use Rattle.c_emit_laws.specs.c_emit.c_tree.World as c
use Rattle.c_emit_laws.specs.c_emit.c_tree.Linking as linking
use Rattle.c_emit_laws.specs.c_emit.c_tree.Steps.{View, language, deed, step}
use Rattle.c_emit_laws.proofs.c_laws.StepLaws.{step_at}
use Rattle.c_emit_laws.specs.c_image.World.{World, with_held}
use Rattle.c_emit_laws.specs.c_image.Standing.{Stands}
use Rattle.c_emit_laws.specs.c_image.Held.{BeginWith, Holds}
use Rattle.c_emit_laws.specs.c_image.Addresses.{Address, Alone, Inside, InTexts, Through, Reaches}
use Rattle.c_emit_laws.proofs.c_image_laws.Growing.{changed_there, changed_elsewhere}
use Rattle.c_emit_laws.proofs.c_image_laws.Assignments.{temporaries_are_assigned}
use Rattle.c_emit_laws.specs.c_emit.Numbers.{Writing, value_term}
use Rattle.c_emit_laws.specs.EmittedNumbers.{IsKnown}
use Rattle.c_emit_laws.proofs.NumberLaws.{numbers_are_emitted}
use Rattle.c_emit_laws.proofs.StepLaws.{numbers_fit}
use Rattle.kept_bounds.specs.KeptBounds.{without_bounds}
use Rattle.bound_items.specs.BoundItems.{Saving, saving_item, HasRoom, IsSaved, AreSaved, none_saved, one_saved, none_held, one_held, ComesBehind, BoundsAreKept}

some_same : {A : Type 0} (a b : A) → Some a ≡ Some b → a ≡ b
some_same a b h = cc

none_there : {A B : Type 0} (bs : List B) (k : ℕ) (b : B) → bs ≡ [] → slice_get bs k ≡ Some b → A
none_there bs k b none h =
    let low = slice_get_within bs k b h in
    let size = ap length none in
    absurd (omega (arith, low, size))

-- ## What is known stays known

module _ (μ : World) (w : Writing) (f : Frame) (object : ℕ) (held : Option Object) (room : HasRoom μ w object) where
  holds_apart : (k : ℕ) (d : Datum) → k ≢ object → Holds (μ.frozen k) d → Holds ((with_held μ object held).frozen k) d
  holds_apart k d apart holds = subst (λ found. Holds found d) (sym (changed_elsewhere μ.frozen object k held apart)) holds

  reaches_apart : (p : Spot) (address : Address) → ((parameter : ℕ) → address ≡ Through parameter → parameter ≢ object) → Reaches μ p address → Reaches (with_held μ object held) p address
  reaches_apart p (Alone own) apart reaches = reaches
  reaches_apart p (Inside own before) apart reaches = reaches
  reaches_apart p (InTexts own before) apart reaches = reaches
  reaches_apart p (Through parameter) apart reaches = (reaches.0, reaches.1, changed_elsewhere μ.frozen object parameter held (apart parameter refl) ∙ reaches.2)

  nothing_kept : {A : Type 0} (k : ℕ) (d : Datum) → none_kept k ≡ Some d → A
  nothing_kept k d h = absurd (cc)

  no_bounds : {A : Type 0} (x : Bytes) (k : ℕ) (b : Bounds) → slice_get (bounds_of w.facts (without_bounds f) x) k ≡ Some b → A
  unfolding bounds_of either_bounds
  no_bounds x k b h = none_there (bounds_of w.facts (without_bounds f) x) k b refl h

  known_behind : IsKnown μ w (without_bounds f) none_kept → IsKnown (with_held μ object held) w (without_bounds f) none_kept
  known_behind known = record {
    knows = record {
      sound = λ x p is. (let sound = known.knows.sound x p is in record { there = sound.there; shaped = sound.shaped; inside = sound.inside });
      reaches = λ x p is. reaches_apart p (w.naming.address x) (room.addresses x) (known.knows.reaches x p is);
      lengths = λ x n has is. holds_apart (w.naming.length x) _ (room.lengths x) (known.knows.lengths x n has is);
      lowers = λ x k b at. no_bounds x k b at;
      sizes = λ x k b u at upper. no_bounds x k b at;
      kept = λ k d h. nothing_kept k d h;
    };
    spots = known.spots;
    types = known.types;
    numbers = known.numbers;
    bounds = known.bounds;
    closed = known.closed;
  }

-- ## One item

record IsAssigned (w : Writing) (one : Saving) (item : Flat) : Type 0 where
  term : Term
  emitted : value_term w one.value ≡ Some term
  is : Assign (Variable one.object ToNumber) term ≡ item

assigned_by : (w : Writing) (one : Saving) (item : Flat) → saving_item w one ≡ Some item → IsAssigned w one item
unfolding saving_item
assigned_by w one item h = by (value_term w one.value) refl h
  where
    by : (found : Option Term) → value_term w one.value ≡ found → option_map (Assign (Variable one.object ToNumber)) found ≡ Some item → IsAssigned w one item
    by None is g = absurd (cc)
    by (Some term) is g = record { term = term; emitted = is; is = some_same (Assign (Variable one.object ToNumber) term) item g }

record IsOnward (μ : World) (w : Writing) (f : Frame) (s : Store) (function : linking.Function) (view : View) (world : c.World) (object : ℕ) (z : ℤ) : Type 0 where
  bytes : List (Option ℕ)
  goes : step function view world ≡ Goes (record view { position = view.position + 1 }) (record world { objects = slice_set world.objects object (objects_of.Bytes bytes) })
  begins : BeginWith (IsInt z) bytes
  stands : Stands (with_held μ object (Some (objects_of.Bytes bytes))) s (slice_set world.objects object (objects_of.Bytes bytes))
  known : IsKnown (with_held μ object (Some (objects_of.Bytes bytes))) w (without_bounds f) none_kept

saved_once : (μ : World) (w : Writing) (f : Frame) (s : Store) (function : linking.Function) (view : View) (world : c.World) (one : Saving) (z : ℤ) → Stands μ s world.objects → IsKnown μ w (without_bounds f) none_kept
    → HasRoom μ w one.object → IsSaved w f s function.code view.position one z → IsOnward μ w f s function view world one.object z
saved_once μ w f s function view world one z stands known room saved =
    let m = assigned_by w one saved.item saved.emitted in
    let means = numbers_are_emitted μ s world.objects w (without_bounds f) none_kept one.value m.term (IsInt z) stands known m.emitted saved.is in
    let keeps = temporaries_are_assigned μ s function view world one.object room.bytes m.term (IsInt z) means.whole stands room.holds room.room room.homeless means.is
    (numbers_fit μ s world.objects w (without_bounds f) none_kept one.value m.term (IsInt z) means.whole stands known m.emitted saved.is means.is) means in
    record {
      bytes = keeps.bytes;
      goes = step_at function view world saved.item saved.stands ∙ ap (deed function view world) (sym m.is) ∙ keeps.stored;
      begins = keeps.begins;
      stands = keeps.stands;
      known = known_behind μ w f one.object (Some (objects_of.Bytes keeps.bytes)) room known;
    }

-- ## All of them

room_later : (μ : World) (w : Writing) (object other : ℕ) (held : Option Object) → other ≢ object → HasRoom μ w other → HasRoom (with_held μ object held) w other
room_later μ w object other held apart room = record {
  bytes = room.bytes;
  holds = changed_elsewhere μ.frozen object other held apart ∙ room.holds;
  room = room.room;
  homeless = room.homeless;
  addresses = room.addresses;
  lengths = room.lengths;
}

saved_later : (μ : World) (w : Writing) (f : Frame) (s : Store) (code : List Flat) (object : ℕ) (held : Option Object) (at : ℕ) (savings : List Saving) (zs : List ℤ) → ((other : Saving) → IsIn other savings → other.object ≢ object)
    → AreSaved μ w f s code at savings zs → AreSaved (with_held μ object held) w f s code at savings zs
saved_later μ w f s code object held _ _ _ apart (none_saved at) = none_saved at
saved_later μ w f s code object held _ _ _ apart (one_saved at one later z zs room saved alone rest) =
    one_saved at one later z zs (room_later μ w object one.object held (apart one first_in) room) saved alone (saved_later μ w f s code object held (suc at) later zs (λ other among. apart other (later_in among)) rest)

module _ (w : Writing) (f : Frame) (s : Store) (function : linking.Function) where
  comes : (μ : World) (view : View) (world : c.World) (at : ℕ) (one : Saving) (later : List Saving) (zs : List ℤ) → view.position ≡ at → Stands μ s world.objects → IsKnown μ w (without_bounds f) none_kept
      → AreSaved μ w f s function.code at (one ∷ later) zs → ComesBehind μ w f s function view world (one ∷ later) zs
  comes μ view world at one [] [] here stands known all = elim all [ ]
  comes μ view world at one (next ∷ later) [] here stands known all = elim all [ ]
  comes μ view world at one [] (z ∷ y ∷ zs) here stands known (one_saved _ _ _ _ _ room saved alone rest) = elim rest [ ]
  comes μ view world at one [] (z ∷ []) here stands known (one_saved _ _ _ _ _ room saved alone rest) =
      let now = saved_once μ w f s function view world one z stands known room (subst (λ n. IsSaved w f s function.code n one z) (sym here) saved) in
      record {
        frozen = (with_held μ one.object (Some (objects_of.Bytes now.bytes))).frozen;
        objects = slice_set world.objects one.object (objects_of.Bytes now.bytes);
        does = last now.goes refl;
        stands = now.stands;
        known = now.known;
        held = one_held one [] z [] (record { bytes = now.bytes; is = changed_there μ.frozen one.object (Some (objects_of.Bytes now.bytes)); begins = now.begins }) none_held;
        same = λ k apart. changed_elsewhere μ.frozen one.object k (Some (objects_of.Bytes now.bytes)) (λ same. apart one first_in (sym same));
        as_many = length-set world.objects one.object (objects_of.Bytes now.bytes);
      }
  comes μ view world at one (next ∷ later) (z ∷ zs) here stands known (one_saved _ _ _ _ _ room saved alone rest) =
      let now = saved_once μ w f s function view world one z stands known room (subst (λ n. IsSaved w f s function.code n one z) (sym here) saved) in
      let behind = comes (with_held μ one.object (Some (objects_of.Bytes now.bytes))) (record view { position = view.position + 1 }) (record world { objects = slice_set world.objects one.object (objects_of.Bytes now.bytes) })
      (suc at) next later zs (omega (arith, here)) now.stands now.known (saved_later μ w f s function.code one.object (Some (objects_of.Bytes now.bytes)) (suc at) (next ∷ later) zs alone rest) in
      let sum : length (one ∷ next ∷ later) ≡ 1 + length (next ∷ later) = omega arith in
      record {
        frozen = behind.frozen;
        objects = behind.objects;
        does = subst (λ n. Does language (λ v. 1) function view world (length (one ∷ next ∷ later)) (Goes (record view { position = n }) (record world { objects = behind.objects })))
            {x = (view.position + 1) + length (next ∷ later)} {y = view.position + length (one ∷ next ∷ later)} (omega arith) (more now.goes behind.does sum);
        stands = behind.stands;
        known = behind.known;
        held = one_held one (next ∷ later) z zs
            (record { bytes = now.bytes; is = behind.same one.object alone ∙ changed_there μ.frozen one.object (Some (objects_of.Bytes now.bytes)); begins = now.begins }) behind.held;
        same = λ k apart. behind.same k (λ other among. apart other (later_in among)) ∙ changed_elsewhere μ.frozen one.object k (Some (objects_of.Bytes now.bytes)) (λ same. apart one first_in (sym same));
        as_many = behind.as_many ∙ length-set world.objects one.object (objects_of.Bytes now.bytes);
      }

pub bounds_are_kept : BoundsAreKept
bounds_are_kept μ w f s function view world one later zs stands known saved = comes w f s function μ view world view.position one later zs refl stands known saved
