-- The function of a main program is emitted.
use Rattle.std.specs.Prelude.{◌≡◌, ℕ, zero, suc, ◌+◌, ◌≤◌, ℤ, pos, nat_lt, true, List, [], ◌∷◌, ◌++◌, length, Option, Some, None, slice_get}
use Rattle.std.proofs.Common.{refl, sym, ap, ◌∙◌, subst, arith}
use Rattle.std.proofs.lemmas.Bool.{ltb-true}
use Rattle.main_file_laws.specs.f_tree.declared.names.Basic.{Basic}
use Rattle.main_file_laws.specs.f_tree.Values.{Bytes}
use Rattle.main_file_laws.specs.f_tree.Facts.{Bounds}
use Rattle.main_file_laws.specs.f_tree.Valuing.{size_of_dimension}
use Rattle.main_file_laws.specs.l_core.Steps.{Step, Text}
use Rattle.main_file_laws.specs.l_core.Costs.{cost}
use Rattle.main_file_laws.specs.c_tree.declared.statement.CStmt.{CStmt}
use Rattle.main_file_laws.specs.c_tree.Declarations.{unset}
use Rattle.main_file_laws.specs.c_tree.Flat.{Flat}
use Rattle.main_file_laws.specs.c_tree.FlatForm.{whole_body}
use Rattle.main_file_laws.specs.c_tree.Linking.{Routines, file_scope, linked_function}
use Rattle.main_file_laws.specs.c_tree.Linking as linking
use Rattle.main_file_laws.specs.c_image.Elements.{Written, Saved}
use Rattle.main_file_laws.specs.c_image.Knowing.{IsApart}
use Rattle.main_file_laws.specs.c_structure.Statements.{Outline}
use Rattle.main_file_laws.specs.c_emit.Numbers.{Writing}
use Rattle.main_file_laws.specs.c_emit.Flats.{flat_of}
use Rattle.main_file_laws.specs.linking_laws.Linked as linked
use Rattle.main_file_laws.proofs.linking_laws.Places.{some_same}
use Rattle.main_file_laws.proofs.linking_laws.FunctionObjects.{functions_have_objects}
use Rattle.main_file_laws.specs.main_file.MainFile.{Inventory, Bases, main_function, main_file, first_temporary, lower_of, size_of, writing_of}
use Rattle.main_file_laws.specs.main_file.MainItems.{item_before, flats_from}
use Rattle.main_file_laws.specs.BuiltMain.{AreNumberedBuiltins, IsMainBuilt}
use Rattle.main_file_laws.proofs.Listed.{declared_temporary, statics_count, no_strings, temporary_at}
use Rattle.main_file_laws.proofs.BuiltItems.{mains_have_their_items}
use Rattle.bridge.specs.emitted_texts.SecondLayer.{Surroundings}
use Rattle.bridge.specs.emitted_texts.Emitted.{IsItem, IsInFrame, IsEmittedMain}
use Rattle.main_programs.specs.EmittedMain.{emission_of, StepsFit, ObjectsStand, IsMain, MainsAreEmitted}

-- ## Items by their positions

record IsEmittedAt (w : Writing) (label : ℕ → Option ℕ) (n : ℕ) (st : Step) (items : List Flat) (i : ℕ) : Type 0 where
  item : Flat
  emitted : flat_of w (λ m. m) label n st ≡ Some item
  at : slice_get items i ≡ Some item

behind_it : (w : Writing) (label : ℕ → Option ℕ) (n : ℕ) (st : Step) (item : Flat) (items : List Flat) (i : ℕ) → IsEmittedAt w label n st items i → IsEmittedAt w label n st (item ∷ items) (suc i)
behind_it w label n st item items i is = record { item = is.item; emitted = is.emitted; at = is.at }

split : (w : Writing) (label : ℕ → Option ℕ) (n : ℕ) (x : Option Flat) (xs : Option (List Flat)) (items : List Flat) → item_before x xs ≡ Some items → (item : Flat) × (later : List Flat) × (x ≡ Some item) × (xs ≡ Some later) × (item ∷ later ≡ items)
unfolding item_before
split w label n (Some item) (Some later) items h = (item, later, refl, refl, some_same (item ∷ later) items h)
split w label n (Some item) None items h = absurd (cc)
split w label n None xs items h = absurd (cc)

emitted_at : (w : Writing) (label : ℕ → Option ℕ) (n i m : ℕ) (steps : List Step) (items : List Flat) (st : Step) → m ≡ n + i → flats_from w label n steps ≡ Some items → slice_get steps i ≡ Some st → IsEmittedAt w label m st items i
unfolding flats_from
emitted_at w label n i m [] items st there h at = absurd (cc)
emitted_at w label n zero m (first ∷ later) items st there h at =
    let parts = split w label n (flat_of w (λ k. k) label n first) (flats_from w label (suc n) later) items h in
    let here : n ≡ m = omega (arith, there) in
    record { item = parts.0; emitted = (λ j. flat_of w (λ k. k) label (sym here j) (sym (some_same first st at) j)) ∙ parts.2; at = ap (λ xs. slice_get xs 0) (sym parts.4) }
emitted_at w label n (suc i) m (first ∷ later) items st there h at =
    let parts = split w label n (flat_of w (λ k. k) label n first) (flats_from w label (suc n) later) items h in
    subst (λ xs. IsEmittedAt w label m st xs (suc i)) parts.4 (behind_it w label m st parts.0 parts.1 i (emitted_at w label (suc n) i m later parts.1 st (omega (arith, there)) parts.3 at))

not_saved : {A : Type 0} (z : ℤ) (saved : ℕ) → Written z ≡ Saved saved → A
not_saved z saved h = absurd (cc)

pub lower_written : {A : Type 0} (o : Option Bounds) (saved : ℕ) → lower_of o ≡ Saved saved → A
lower_written None saved h = not_saved (pos 0) saved h
lower_written (Some b) saved h = not_saved b.lower saved h

pub size_written : {A : Type 0} (o : Option Bounds) (saved : ℕ) → size_of o ≡ Saved saved → A
size_written None saved h = not_saved (pos 0) saved h
size_written (Some b) saved h = not_saved (pos (size_of_dimension b)) saved h

module _ (s : Surroundings) (number : ℕ) (numbers : Routines) (objects : List ℕ → Option ℕ) (v : Inventory) (b : Bases) (u : Text) (costs : List ℕ) (kind : ℕ → ℕ → Option Basic) (stage : ℕ → Option ℤ) (o : Outline)
    (items : List Flat) (body : List CStmt) (builtins : AreNumberedBuiltins numbers v b) (is : IsMainBuilt v b u kind o items body) where
  the_function : linking.Function
  the_function = (linked_function numbers b.own (file_scope numbers objects b.file (main_file v body)) b.function (main_function v body)).function

  has : linked.HasItsObjects (linked_function numbers b.own (file_scope numbers objects b.file (main_file v body)) b.function (main_function v body)) b.function (main_function v body)
  has = functions_have_objects numbers b.own (file_scope numbers objects b.file (main_file v body)) b.function (main_function v body)

  code_is : (linked_function numbers b.own (file_scope numbers objects b.file (main_file v body)) b.function (main_function v body)).function.code ≡ items
  code_is = mains_have_their_items numbers objects b.own v b u kind o items body builtins is

  pub frame_is : (linked_function numbers b.own (file_scope numbers objects b.file (main_file v body)) b.function (main_function v body)).function.frame ≡ first_temporary v b
  frame_is =
      let kept = statics_count v in
      let passed = ap (λ (ss : List (List ℕ)). length (ss ++ (whole_body body).items.strings)) (no_strings v) ∙ is.as_many in
      omega (arith, kept, passed)

  item_of : (n : ℕ) (st : Step) → slice_get u.steps n ≡ Some st → IsItem u (emission_of v b u kind stage (linked_function numbers b.own (file_scope numbers objects b.file (main_file v body)) b.function (main_function v body)).function number) n st
  item_of n st at =
      let e = emitted_at (writing_of v b u.facts kind) u.position 0 n n u.steps items st (omega arith) is.emitted at in
      record { item = e.item; emitted = e.emitted; stands = ap (λ xs. slice_get xs n) code_is ∙ e.at }

  in_frame : (k : ℕ) → nat_lt k v.temporaries ≡ true → IsInFrame (emission_of v b u kind stage (linked_function numbers b.own (file_scope numbers objects b.file (main_file v body)) b.function (main_function v body)).function number) (first_temporary v b + k)
  in_frame k h = record {
    index = k;
    at = ap (λ n. n + k) (sym frame_is);
    bytes = None ∷ None ∷ None ∷ None ∷ [];
    is = has.fresh k (declared_temporary (1 + k)) (unset 4) (temporary_at v k (ltb-true k v.temporaries h)) (λ scope first. refl);
    room = omega arith;
  }

  apart : (k : ℕ) → nat_lt k v.temporaries ≡ true → IsApart (writing_of v b u.facts kind).naming k
  apart k h =
      let below = ltb-true k v.temporaries h in
      record {
        temporaries = λ j same. omega (arith, same);
        addresses = λ x parameter at. absurd (cc);
        lengths = λ x same. (let no : ⊥ = omega (arith, same, below) in no);
        lowers = λ x i saved at. lower_written (slice_get (u.facts.program.attribute x).bounds i) saved at;
        sizes = λ x i saved at. size_written (slice_get (u.facts.program.attribute x).bounds i) saved at;
      }

  lower_at : (x : Bytes) (k : ℕ) (bound : Bounds) → slice_get (u.facts.program.attribute x).bounds k ≡ Some bound → (writing_of v b u.facts kind).naming.lower x k ≡ Written bound.lower
  lower_at x k bound at = ap lower_of at

  size_at : (x : Bytes) (k : ℕ) (bound : Bounds) → slice_get (u.facts.program.attribute x).bounds k ≡ Some bound → (writing_of v b u.facts kind).naming.size x k ≡ Written (pos (size_of_dimension bound))
  size_at x k bound at = ap size_of at

  emitted : IsMain u → StepsFit v b u kind stage → ((n : ℕ) (st : Step) → slice_get u.steps n ≡ Some st → 1 ≤ cost costs n)
      → ObjectsStand s number v b u kind (linked_function numbers b.own (file_scope numbers objects b.file (main_file v body)) b.function (main_function v body)).function
      → IsEmittedMain s number u costs (emission_of v b u kind stage (linked_function numbers b.own (file_scope numbers objects b.file (main_file v body)) b.function (main_function v body)).function number)
  emitted main fit positive stand = record {
    facts = refl;
    kind = main.kind;
    items = item_of;
    in_order = λ n st at. omega arith;
    positive = positive;
    entry = main.entry;
    only = main.only;
    no_dummies = main.no_dummies;
    at_first = main.at_first;
    begins = main.begins;
    room = stand.room;
    inside = stand.inside;
    result = refl;
    parameters = refl;
    temporaries = in_frame;
    apart = apart;
    calls = record {
      kinds = fit.kinds;
      stages = fit.stages;
      outputs = fit.outputs;
      none_at_first = fit.none_at_first;
      own = refl;
      constants = stand.constants;
      lists = stand.lists;
      texts = stand.texts;
    };
    sound = stand.sound;
    reached = stand.reached;
    fits = main.fits;
    closed = main.closed;
    lowers = lower_at;
    sizes = λ x k bound last at upper. size_at x k bound at;
  }

pub mains_are_emitted : MainsAreEmitted
mains_are_emitted s number numbers objects v b u costs kind stage o items body builtins is main fit positive stand = emitted s number numbers objects v b u costs kind stage o items body builtins is main fit positive stand
