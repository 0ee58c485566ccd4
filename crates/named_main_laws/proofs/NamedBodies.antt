-- The statements that are made from items by names are those that are made from flat items.
use Rattle.std.specs.Prelude.{◌≡◌, ℕ, ◌+◌, Bool, true, false, List, length, Option, Some, None, option_and_then, slice_get, if◌then◌else◌}
use Rattle.std.proofs.Common.{refl, sym, ap, ◌∙◌, arith}
use Rattle.named_mains.specs.f_tree.Facts.{Facts, ProgramUnit}
use Rattle.named_mains.specs.f_tree.Values.{Bytes}
use Rattle.named_mains.specs.l_core.Steps.{Step, Halt, Text}
use Rattle.main_translation_laws.specs.lowering.Units.{lines_code, text_with, if_called_well, lowered_unit}
use Rattle.c_spelling.specs.c_tree.declared.statement.CStmt.{CStmt}
use Rattle.named_mains.specs.c_structure.Statements.{statements_for}
use Rattle.named_mains.specs.c_emit.Numbers.{Writing}
use Rattle.named_mains.specs.c_emit.Flats.{flat_of}
use Rattle.named_mains.specs.main_file.MainFile.{Bases, names_of, writing_of}
use Rattle.named_mains.specs.main_file.MainItems.{flats_from}
use Rattle.main_translation_laws.specs.main_programs.MainRuns.{plain_facts}
use Rattle.named_mains.specs.main_translation.Flow.{kind_at, are_on}
use Rattle.named_mains.specs.main_translation.Contents.{text_at, inventory_of, first_objects}
use Rattle.named_mains.specs.main_translation.Outlined.{if_returned, outline_of, items_of, body_of}
use Rattle.main_translation_laws.specs.PlainMains.{IsPlainMain, IsPlainText}
use Rattle.named_mains.specs.named_items.declared.item.Item.{Item}
use Rattle.named_mains.specs.named_items.Agreement.{places_of, TellsPlaces}
use Rattle.named_mains.specs.named_items.Structured.{structured}
use Rattle.named_mains.proofs.named_items.Agreeing.{items_are_structured}
use Rattle.named_mains.proofs.named_items.NamedItems.{some_same, items_length}
use Rattle.named_mains.specs.item_emission.Agreeing.{known_in, NumbersAreListed, IsListed}
use Rattle.named_mains.specs.item_emission.NamedEmission.{item_step}
use Rattle.named_mains.proofs.item_emission.StepsAgree.{emissions_agree}
use Rattle.named_mains.specs.NamedMains.{items_from, statements_of, named_body_of}
use Rattle.named_main_laws.specs.NamedBodies.{EachNamedBodyIsABody}
use Rattle.named_main_laws.proofs.NamedPlaces.{Reach, OwnAlone, tells_places}
use Rattle.named_main_laws.proofs.NamedValues.{EmitsEach, flats_emitted, step_sets, all_set}
use Rattle.named_main_laws.proofs.NamedNames.{IsNumberObject, reaches_told, writes_objects, numbers_listed}
use Rattle.named_main_laws.proofs.NamedSteps.{AreFlat, step_listed, are_flat}

-- ## The text

pub facts_by : (c : Facts) (u : Text) (found : Option (List Step)) → text_with c found ≡ Some u → u.facts ≡ c
unfolding text_with
facts_by c u (Some steps) h = ap (λ (t : Text). t.facts) (sym (some_same _ u h))
facts_by c u None h = absurd (cc)

pub program_is : (unit : ProgramUnit) (u : Text) → lowered_unit (plain_facts unit) ≡ Some u → u.facts.program ≡ unit
unfolding lowered_unit
program_is unit u h = ap (λ (f : Facts). f.program) (facts_by (plain_facts unit) u (if_called_well (lines_code (plain_facts unit).program 0 (plain_facts unit).program.lines)) h)

-- ## What a body by names was made by

record HasItems (unit : ProgramUnit) (u : Text) (body : List CStmt) : Type 0 where
  on : are_on u 0 u.steps ≡ true
  items : List Item
  given : items_from (known_in (inventory_of unit u) u.facts u.position) (kind_at u) 0 u.steps ≡ Some items
  statements : List CStmt
  structure : structured (places_of (outline_of (inventory_of unit u) (first_objects (inventory_of unit u)) u)) (length items) 0 items ≡ Some statements
  returned : if_returned statements ≡ Some body

pub record IsBehind {A B : Type 0} (next : A → Option B) (o : Option A) (b : B) : Type 0 where
  pub one : A
  pub is : o ≡ Some one
  pub gives : next one ≡ Some b

pub behind : {A B : Type 0} (next : A → Option B) (o : Option A) (b : B) → option_and_then next o ≡ Some b → IsBehind next o b
behind next (Some a) b h = record { one = a; is = refl; gives = h }
behind next None b h = absurd (cc)

pub if_some : {B : Type 0} (t : Bool) (o : Option B) (b : B) → (if t then o else None) ≡ Some b → (t ≡ true) × (o ≡ Some b)
if_some true o b h = (refl, h)
if_some false o b h = absurd (cc)

has_items : (unit : ProgramUnit) (u : Text) (body : List CStmt) → named_body_of unit u ≡ Some body → HasItems unit u body
unfolding named_body_of statements_of
has_items unit u body h =
    let layout = places_of (outline_of (inventory_of unit u) (first_objects (inventory_of unit u)) u) in
    let items = items_from (known_in (inventory_of unit u) u.facts u.position) (kind_at u) 0 u.steps in
    let made = if_some (are_on u 0 u.steps) (option_and_then (statements_of layout) items) body h in
    let found = behind (statements_of layout) items body made.1 in
    let last = behind if_returned (structured layout (length found.one) 0 found.one) body found.gives in
    record { on = made.0; items = found.one; given = found.is; statements = last.one; structure = last.is; returned = last.gives }

-- ## The whole

module _ (unit : ProgramUnit) (u : Text) (body : List CStmt) (plain : IsPlainMain unit) (lowered : lowered_unit (plain_facts unit) ≡ Some u) (small : IsPlainText u) (made : HasItems unit u body) where
  text_there : (n : ℕ) (text : Bytes) → slice_get u.steps n ≡ Some (Halt text) → text_at (slice_get u.steps n) ≡ text
  unfolding text_at
  text_there n text at = ap text_at at

  numbers : NumbersAreListed (inventory_of unit u) (first_objects (inventory_of unit u)) (known_in (inventory_of unit u) u.facts u.position)
  numbers = numbers_listed unit u plain (first_objects (inventory_of unit u)) u.facts (program_is unit u lowered) (kind_at u) u.position (omega arith)

  listed : (i k : ℕ) (st : Step) (item : Item) → k ≡ 0 + i → slice_get u.steps i ≡ Some st → item_step (known_in (inventory_of unit u) u.facts u.position) (kind_at u k) k st ≡ Some item → IsListed (inventory_of unit u) k st
  listed i k st item at got is =
      let same : k ≡ i = omega (arith, at) in
      step_listed (inventory_of unit u) u.facts (kind_at u) u.position k u.steps st item refl (text_there k) (ap (slice_get u.steps) same ∙ got) is

  abbrev b : Bases
  b = first_objects (inventory_of unit u)

  abbrev w : Writing
  w = writing_of (inventory_of unit u) b u.facts (kind_at u)

  abbrev IsObject : Reach → ℕ → Type 0
  IsObject = OwnAlone (IsNumberObject (inventory_of unit u) b)

  emitted : EmitsEach (flat_of w (λ m. m) u.position) (flats_from w u.position)
  emitted = flats_emitted w u.position

  flat : AreFlat (flats_from w u.position) (names_of (inventory_of unit u) b) 0 u.steps made.items
  flat =
      are_flat (flat_of w (λ m. m) u.position) (flats_from w u.position) emitted (names_of (inventory_of unit u) b) (known_in (inventory_of unit u) u.facts u.position) (kind_at u) 0 u.steps made.items
      (λ i k st item at got is. emissions_agree (inventory_of unit u) b u.facts (kind_at u) u.position k st numbers (listed i k st item at got is)) made.given

  tells : TellsPlaces (names_of (inventory_of unit u) b) flat.flats
  tells =
      tells_places IsObject (names_of (inventory_of unit u) b) (reaches_told (inventory_of unit u) b small.temporaries) flat.flats
      (all_set IsObject (flat_of w (λ m. m) u.position) (flats_from w u.position) emitted (step_sets IsObject w (writes_objects unit u plain b u.facts (program_is unit u lowered) (kind_at u)) u.position) 0 u.steps flat.flats flat.emitted)

  statements_are : statements_for (outline_of (inventory_of unit u) (first_objects (inventory_of unit u)) u) (length flat.flats) 0 flat.flats ≡ Some made.statements
  statements_are =
      ap (λ turns. statements_for (outline_of (inventory_of unit u) (first_objects (inventory_of unit u)) u) turns 0 flat.flats) (items_length (names_of (inventory_of unit u) (first_objects (inventory_of unit u))) flat.flats made.items flat.named)
      ∙ items_are_structured (outline_of (inventory_of unit u) (first_objects (inventory_of unit u)) u) (length made.items) 0 flat.flats made.items made.statements flat.named tells made.structure

  body_made : body_of unit u ≡ Some body
  unfolding body_of
  body_made =
      ap (λ t. if t then option_and_then if_returned (option_and_then (λ items. statements_for (outline_of (inventory_of unit u) (first_objects (inventory_of unit u)) u) (length items) 0 items) (items_of unit u)) else None) made.on
      ∙ ap (λ found. option_and_then if_returned (option_and_then (λ items. statements_for (outline_of (inventory_of unit u) (first_objects (inventory_of unit u)) u) (length items) 0 items) found)) flat.emitted
      ∙ ap (option_and_then if_returned) statements_are
      ∙ made.returned

pub bodies_are_made : EachNamedBodyIsABody
bodies_are_made unit u body plain lowered small made = body_made unit u body plain lowered small (has_items unit u body made)
