-- The names that one use adds, by its manner.
use Rattle.std.specs.Prelude.{◌≡◌, Bool, true, false, List, [], ◌∷◌, ◌++◌, if◌then◌else◌}
use Rattle.std.proofs.Common.{Result, Ok, Err, OnOk, ◌⊎◌, inl, inr, refl, sym, ap, ◌∙◌}
use Rattle.f_tree.specs.Values.{Bytes}
use Rattle.f_tree.specs.Uses as written
use Rattle.f_tree.specs.declared.statements.Body.{Body}
use Rattle.f_tree.specs.Uses.{Use, uses_of_body}
use Rattle.f_tree.specs.Attributes.{with_list, called, assigned_with_list_in}
use Rattle.name_table.specs.declared.name_set.NameSet.{NameSet}
use Rattle.name_table.specs.Named.{IsNameSet}
use Rattle.name_uses.specs.declared.uses.Use.{Use as Seen}
use Rattle.name_uses.specs.declared.uses.Manner.{Manner}
use Rattle.name_uses.specs.declared.uses.Manner.TheVariants as manner
use Rattle.name_uses.specs.UsesSeen.{Adds, manner_in, use_of, used_in}
use Rattle.name_uses.proofs.ArrayLemmas.{adds_none, adds_as}
use Rattle.name_classes.specs.StatedNames.{used_as, used_as_in}
use Rattle.name_classes.specs.declared.used.UsedNames.{UsedNames}
use Rattle.name_classes.specs.KnownSigns.{UsesNames}

used_one : (test : written.Manner → Bool) (u : Seen) → used_as test (use_of u ∷ []) ≡ (if test (manner_in u.manner) then u.name.now ∷ [] else [])
unfolding used_as use_of
used_one test u = refl

pub used_so : (test : written.Manner → Bool) (u : Seen) (m : Manner) → u.manner ≡ m → test (manner_in m) ≡ true → u.name.now ∷ [] ≡ used_as test (use_of u ∷ [])
used_so test u m is so = sym (used_one test u ∙ ap (λ k. if test (manner_in k) then u.name.now ∷ [] else []) is ∙ ap (λ b. if b then u.name.now ∷ [] else []) so)

pub used_otherwise : (test : written.Manner → Bool) (u : Seen) (m : Manner) → u.manner ≡ m → test (manner_in m) ≡ false → used_as test (use_of u ∷ []) ≡ []
used_otherwise test u m is so = used_one test u ∙ ap (λ k. if test (manner_in k) then u.name.now ∷ [] else []) is ∙ ap (λ b. if b then u.name.now ∷ [] else []) so

pub used_neither : (test : written.Manner → Bool) (u : Seen) (m k : Manner) → u.manner ≡ m ⊎ u.manner ≡ k → test (manner_in m) ≡ false → test (manner_in k) ≡ false
    → used_as test (use_of u ∷ []) ≡ []
used_neither test u m k (inl is) one other = used_otherwise test u m is one
used_neither test u m k (inr is) one other = used_otherwise test u k is other

pub on_any : {A E : Type 0} (r : Result A E) (Q : Type 0) → Q → OnOk r Q
on_any (Ok x) Q q = q
on_any (Err e) Q q = tt

pub listed-WithList : with_list (manner_in manner.WithList) ≡ true
unfolding with_list manner_in
listed-WithList = refl

pub listed-Called : with_list (manner_in manner.Called) ≡ false
unfolding with_list manner_in
listed-Called = refl

pub listed-Alone : with_list (manner_in manner.Alone) ≡ false
unfolding with_list manner_in
listed-Alone = refl

pub listed-Declared : with_list (manner_in manner.Declared) ≡ false
unfolding with_list manner_in
listed-Declared = refl

pub called-WithList : called (manner_in manner.WithList) ≡ false
unfolding called manner_in
called-WithList = refl

pub called-Called : called (manner_in manner.Called) ≡ true
unfolding called manner_in
called-Called = refl

pub called-Alone : called (manner_in manner.Alone) ≡ false
unfolding called manner_in
called-Alone = refl

pub called-Declared : called (manner_in manner.Declared) ≡ false
unfolding called manner_in
called-Declared = refl

-- uses one after the other
chosen : (b : Bool) (x : Bytes) (xs : List Bytes) → (if b then x ∷ xs else xs) ≡ (if b then x ∷ [] else []) ++ xs
chosen true x xs = refl
chosen false x xs = refl

pub used_step : (test : written.Manner → Bool) (u : Seen) (us : List Seen) → used_as test (used_in (u ∷ us)) ≡ used_as test (use_of u ∷ []) ++ used_as test (used_in us)
unfolding used_as
used_step test u us = chosen (test (use_of u).manner) (use_of u).name (used_as test (used_in us))

pub used_none : (test : written.Manner → Bool) → used_as test (used_in []) ≡ []
unfolding used_as
used_none test = refl

-- ALL THAT A STATEMENT USES
pub uses_names : {A E : Type 0} (r : Result A E) (arrays : List Bytes) (old : UsedNames) (assigned listed calls : NameSet) (b : Body) (us : List Use) → us ≡ [] ++ uses_of_body arrays b
    → Adds old.with_list listed (used_as with_list us) → Adds old.called calls (used_as called us) → OnOk r (Adds old.assigned assigned (assigned_with_list_in b))
    → OnOk r (UsesNames arrays old (record { assigned = assigned; with_list = listed; called = calls }) b)
unfolding used_as_in
uses_names (Ok x) arrays old assigned listed calls b us is list call assigns = record {
  assigned = assigns;
  with_list = adds_as old.with_list listed _ _ (ap (used_as with_list) is) list;
  called = adds_as old.called calls _ _ (ap (used_as called) is) call;
}
uses_names (Err e) arrays old assigned listed calls b us is list call assigns = assigns
