-- The calls of the library and of procedures do not depend on how steps are numbered, but for the control list and the text of a step.
use Rattle.std.specs.Prelude.{◌≡◌, ℕ, ◌+◌, ℤ, Bool, true, false, List, [], ◌∷◌, Option, Some, None, option_map, option_and_then}
use Rattle.std.proofs.Common.{refl, ap}
use Rattle.procedure_emission.specs.f_tree.Values.{Bytes, IsInt, IsLabel}
use Rattle.procedure_emission.specs.f_tree.Facts.{Controls, UnitKind, FunctionUnit, SubroutineUnit, EntryPoint}
use Rattle.procedure_emission.specs.l_core.Pures.{Pure, Constant, Temporary, Name, ElementOf, Pures, NoPure, AndPure}
use Rattle.procedure_emission.specs.c_tree.Terms.{Term}
use Rattle.procedure_emission.specs.c_tree.Flat.{Return}
use Rattle.procedure_emission.specs.c_emit.Numbers.{Writing, has_number, one_more}
use Rattle.procedure_emission.specs.c_emit.LibraryFunctions.{LibraryFunction}
use Rattle.procedure_emission.specs.c_emit.Calls.{address_of, call_of, start_on, start_item, computed_item, kind_number, item_by, takes_item, finish_item, stop_item}
use Rattle.procedure_emission.specs.ProcedureItems.{Numbers, name_argument, argument_term, argument_terms, function_called, result_term, back_item, back_by_item}
use Rattle.behind_bounds.specs.BehindBounds.{writing_behind}
use Rattle.behind_bounds.proofs.ValuesBehind.{value_same, place_same, held_same, type_same}

module _ (w : Writing) (first : ℕ) where
  abbrev v : Writing
  v = writing_behind first w

  -- ## The library

  started : (n : ℕ) (b : Bool) → start_on w (first + n) b ≡ start_on v n b
  unfolding start_on call_of
  started n true = refl
  started n false = refl

  pub start_same : (n : ℕ) (controls : Controls) (ps : Pures) → start_item w (first + n) controls ps ≡ start_item v n controls ps
  unfolding start_item
  start_same n controls (AndPure (Constant (IsInt unit)) NoPure) = started n _
  start_same n controls ps = refl

  item_same : (kind : Option ℤ) (term : Option Term) → item_by w kind term ≡ item_by v kind term
  unfolding item_by call_of
  item_same (Some kind) (Some term) = refl
  item_same (Some kind) None = refl
  item_same None term = refl

  pub takes_same : (n : ℕ) (ps : Pures) → takes_item w (first + n) ps ≡ takes_item v n ps
  unfolding takes_item
  takes_same n (AndPure p NoPure) =
      λ i. item_same (option_and_then kind_number (type_same w first n p i)) (held_same w first p i) i
  takes_same n NoPure = refl
  takes_same n (AndPure p (AndPure q ps)) = refl

  pub finish_same : (ps : Pures) → finish_item w ps ≡ finish_item v ps
  unfolding finish_item call_of
  finish_same NoPure = refl
  finish_same (AndPure p ps) = refl

  pub stop_same : (n : ℕ) (text : Bytes) → stop_item w (first + n) text ≡ stop_item v n text
  unfolding stop_item call_of
  stop_same n text = refl

  pub computed_same : (target : Option Term) (function : Option LibraryFunction) (terms : Option (List Term)) → computed_item w target function terms ≡ computed_item v target function terms
  unfolding computed_item
  computed_same (Some target) (Some function) (Some terms) = refl
  computed_same (Some target) (Some function) None = refl
  computed_same (Some target) None terms = refl
  computed_same None function terms = refl

  -- ## Procedures

  module _ (numbers : Numbers) where
    pub called_same : (x : Bytes) → function_called numbers w x ≡ function_called numbers v x
    unfolding function_called
    called_same x = refl

    named_same : (x : Bytes) (b : Bool) → name_argument numbers w x b ≡ name_argument numbers v x b
    unfolding name_argument
    named_same x true = refl
    named_same x false = refl

    pub argument_same : (p : Pure) → argument_term numbers w p ≡ argument_term numbers v p
    unfolding argument_term has_number
    argument_same (Constant d) = ap (option_map address_of) (held_same w first (Constant d))
    argument_same (Temporary k) = ap (option_map address_of) (held_same w first (Temporary k))
    argument_same (Name x) = named_same x (has_number w x)
    argument_same (ElementOf x ps) = ap (option_map address_of) (place_same w first (ElementOf x ps))
    argument_same p = refl

    pub arguments_same : (ps : Pures) → argument_terms numbers w ps ≡ argument_terms numbers v ps
    unfolding argument_terms
    arguments_same NoPure = refl
    arguments_same (AndPure (Constant (IsLabel label)) ps) = arguments_same ps
    arguments_same (AndPure p ps) = λ i. one_more (argument_same p i) (arguments_same ps i)

  result_same : (entries : List EntryPoint) → result_term w entries ≡ result_term v entries
  unfolding result_term
  result_same [] = refl
  result_same (entry ∷ []) = place_same w first (Name entry.name)
  result_same (entry ∷ other ∷ later) = refl

  pub back_same : (kind : UnitKind) → back_item w kind ≡ back_item v kind
  unfolding back_item
  back_same FunctionUnit = ap (option_map (λ term. Return (Some term))) (result_same w.facts.program.entries)
  back_same kind = refl

  pub back_by_same : (p : Pure) (kind : UnitKind) → back_by_item w p kind ≡ back_by_item v p kind
  unfolding back_by_item
  back_by_same p SubroutineUnit = ap (option_map (λ term. Return (Some term))) (value_same w first p)
  back_by_same p kind = refl
