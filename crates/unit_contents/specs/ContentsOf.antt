-- What the C function of a unit that calls others has, read off its lowered text: when the data of a translator are it. ANSI X3.9-1978, sections 4.1, 11,
-- 12 and 15; C89, 3.5 and 3.6.
use Rattle.std.specs.List.{list_any}
use Rattle.std.specs.Option.{option_flatten}
use Rattle.std.specs.Prelude.{◌≡◌, ℕ, nat_lt, ℤ, true, ◌&&◌, List, map, filter, fold, length, is_none, slice_get}
use Rattle.f_tree.specs.Values.{Bytes}
use Rattle.f_tree.specs.Facts.{Facts}
use Rattle.lowered_tree.specs.l_core.Steps.{Step, Text}
use Rattle.c_emit.specs.LibraryFunctions.{LibraryFunction, library_functions}
use Rattle.library_functions.specs.Described.{described}
use Rattle.lowered_text.specs.declared.text.LoweredText.{LoweredText}
use Rattle.lowered_text.specs.Texts.{IsText, kinds_of}
use Rattle.main_translation.specs.main_file.MainFile as file
use Rattle.main_translation.specs.main_file.MainItems.{stops_from}
use Rattle.main_translation.specs.Contents.{with_new, listings_from, begins_output, takes_item, ends_output, stops_run, computes}
use Rattle.main_translation.specs.Outlined.{label_at, passes_arms, loop_at}
use Rattle.unit_translation.specs.UnitFlow.{kind_before, are_in_place}
use Rattle.unit_translation.specs.UnitContents.{temporaries_kept, procedures_in, values_from}
use Rattle.name_facts.specs.declared.table.NameFacts.{NameFacts}
use Rattle.name_facts.specs.GivenFacts.{fact_in}
use Rattle.named_items.specs.Layouts.{layout_of}
use Rattle.unit_contents.specs.declared.contents.Listing.{Listing}
use Rattle.unit_contents.specs.declared.contents.Calls.{Calls}
use Rattle.unit_contents.specs.declared.contents.Contents.{Contents}

abbrev pub listing_of : Listing → file.Listing
listing_of l = record { step = l.step; unit = l.unit }

-- the table tells the types and the classes of the names
pub record TellsNames (table : NameFacts) (facts : Facts) : Type 0 where
  pub basic : (x : Bytes) → (facts.program.attribute x).basic ≡ (fact_in table x).basic
  pub class : (x : Bytes) → (facts.program.attribute x).class ≡ (fact_in table x).class

-- those of some functions of the library by which steps compute
abbrev pub computed_in : List Step → List LibraryFunction → List LibraryFunction
computed_in steps functions = filter (λ one. list_any (computes one) steps) functions

-- which functions of the library are called
pub record AreCalls (steps : List Step) (calls : Calls) : Type 0 where
  pub starts : calls.starts ≡ list_any begins_output steps
  pub takes : calls.takes ≡ list_any takes_item steps
  pub finishes : calls.finishes ≡ list_any ends_output steps
  pub stops : calls.stops ≡ list_any stops_run steps
  pub functions : map described calls.functions.items ≡ computed_in steps library_functions

pub record AreContents (u : Text) (c : Contents) : Type 0 where
  pub lists : map listing_of c.lists.items ≡ listings_from 0 u.steps
  pub temporaries : c.temporaries ≡ temporaries_kept u.steps
  pub calls : AreCalls u.steps c.calls
  pub procedures : c.procedures.items ≡ procedures_in u
  pub strings : c.strings.items ≡ stops_from 0 u.steps
  -- what is known before each step
  pub kinds : (n k : ℕ) → nat_lt n (length u.steps) ≡ true → kinds_of (option_flatten (slice_get c.kinds.items n)) k ≡ kind_before u n k
  pub outputs : c.are_outputs_in_place ≡ are_in_place u 0 u.steps
  -- labels, arms and loops
  pub labels : (n : ℕ) → (layout_of c.layout).label n ≡ label_at u n
  pub arms : (n : ℕ) → (layout_of c.layout).ends_arm n ≡ passes_arms (slice_get u.steps n) && is_none (label_at u n)
  pub loops : (n : ℕ) → (layout_of c.layout).loop n ≡ loop_at u n

-- whatever the unit is, if this is its text and the table tells its names
pub record AreContentsOf (table : NameFacts) (t : LoweredText) (c : Contents) : Type 0 where
  pub meant : (u : Text) → IsText t u → TellsNames table u.facts → AreContents u c

-- what is there once the constants that the steps of a unit pass are put among those that were there, whatever the unit is
pub record AreMoreConstants (table : NameFacts) (t : LoweredText) (before after : List ℤ) : Type 0 where
  pub meant : (u : Text) → IsText t u → TellsNames table u.facts → after ≡ fold with_new before (values_from u 0 u.steps)
