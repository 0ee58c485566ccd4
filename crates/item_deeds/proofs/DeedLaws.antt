-- What each flat item does (C89, 3.6).
use Rattle.std.specs.Prelude.{◌≡◌, ℕ, ◌+◌, List, Some, None}
use Rattle.std.proofs.Common.{refl}
use Rattle.c_tree.specs.simulation.Machine.{Answers}
use Rattle.c_tree.specs.Linking.{Function}
use Rattle.c_tree.specs.Terms.{Term}
use Rattle.c_tree.specs.Flat.{Assign, Branch, Select, Jump, Invoke, Return, ReturnAnswer, Nothing, Use, Callee, CaseAt}
use Rattle.c_tree.specs.World.{World}
use Rattle.c_tree.specs.Steps.{View, deed, going_to, assigned, invoked, passed_on}
use Rattle.item_deeds.specs.Deeds.{branched, selected, returned}

pub does-Assign : (function : Function) (view : View) (world : World) (target value : Term) → deed function view world (Assign target value) ≡ assigned view world target value
unfolding deed
does-Assign function view world target value = refl

pub does-Branch : (function : Function) (view : View) (world : World) (test : Term) (on off : ℕ) → deed function view world (Branch test on off) ≡ branched view world test on off
unfolding deed
does-Branch function view world test on off = refl

pub does-Select : (function : Function) (view : View) (world : World) (value : Term) (cases : List CaseAt) (otherwise : ℕ) →
    deed function view world (Select value cases otherwise) ≡ selected view world value cases otherwise
unfolding deed selected
does-Select function view world value cases otherwise = refl

pub does-Jump : (function : Function) (view : View) (world : World) (position : ℕ) → deed function view world (Jump position) ≡ going_to position view world
unfolding deed
does-Jump function view world position = refl

pub does-Invoke : (function : Function) (view : View) (world : World) (how : Use) (callee : Callee) (arguments : List Term) →
    deed function view world (Invoke how callee arguments) ≡ invoked function.own view world how callee arguments
unfolding deed
does-Invoke function view world how callee arguments = refl

pub does-Return-None : (function : Function) (view : View) (world : World) → deed function view world (Return None) ≡ Answers world None
unfolding deed
does-Return-None function view world = refl

pub does-Return-Some : (function : Function) (view : View) (world : World) (value : Term) → deed function view world (Return (Some value)) ≡ returned function.result world value
unfolding deed returned
does-Return-Some function view world value = refl

pub does-ReturnAnswer : (function : Function) (view : View) (world : World) → deed function view world ReturnAnswer ≡ Answers world (passed_on function.result view.answer)
unfolding deed
does-ReturnAnswer function view world = refl

pub does-Nothing : (function : Function) (view : View) (world : World) → deed function view world Nothing ≡ going_to (view.position + 1) view world
unfolding deed
does-Nothing function view world = refl

pub ruleset deed_laws = (does-Assign, does-Branch, does-Select, does-Jump, does-Invoke, does-Return-None, does-Return-Some, does-ReturnAnswer, does-Nothing)
