-- A main program with storage of its own has one setting, in which each stored name has a sequence of its own, and the store before its run is undefined
-- throughout. ANSI X3.9-1978, sections 8.2, 8.3, 9 and 17.1.
use Rattle.std.specs.Prelude.{◌≡◌, ℕ, zero, suc, List, [], ◌∷◌, ◌++◌}
use Rattle.std.proofs.Common.{refl, ap, ◌∙◌, subst}
use Rattle.std.proofs.lemmas.List.{append-nil}
use Rattle.main_translation_laws.specs.f_tree.Values.{Gives}
use Rattle.main_translation_laws.specs.f_tree.Store.{Store}
use Rattle.main_translation_laws.specs.f_tree.Facts.{Home, Member, Tie, ProgramUnit, Facts}
use Rattle.main_translation_laws.specs.f_tree.Setting.{Setting, IsSetting, IsIn, IsNamed, HasUnit, unit_home}
use Rattle.main_translation_laws.specs.f_tree.Images.{imaged, images_from, undefined_store, image_store}
use Rattle.main_translation_laws.specs.f_tree.Runs.{homes_apart, all_homes_apart, all_sizes, setting_apart}
use Rattle.main_translation_laws.proofs.fortran_laws.OneSetting.{one_setting}
use Rattle.main_translation_laws.proofs.fortran_laws.SettingsApart.{unit_setting}
use Rattle.main_translation_laws.specs.main_programs.MainRuns.{homes_from, sizes_of, plain_setting}
use Rattle.main_translation_laws.specs.PlainMains.{IsPlainMain}

-- ## The setting

abbrev home_alone : ℕ → Home
home_alone n = record { sequence = n; first = 0 }

abbrev setting_by : List Home → List ℕ → Setting
setting_by homes sizes = record { homes = homes ∷ []; sizes = sizes }

pub homes_are : (n : ℕ) (ms : List Member) → homes_apart n ms ≡ homes_from n ms
unfolding homes_apart
homes_are n [] = refl
homes_are n (m ∷ ms) = ap (λ hs. home_alone n ∷ hs) (homes_are (suc n) ms)

apart_is_plain : (unit : ProgramUnit) → setting_apart (unit ∷ []) ≡ plain_setting unit
unfolding setting_apart all_homes_apart all_sizes
apart_is_plain unit =
    ap (λ hs. setting_by hs (sizes_of unit.stored ++ [])) (homes_are 0 unit.stored) ∙ ap (setting_by (homes_from 0 unit.stored)) (append-nil (sizes_of unit.stored))

pub plain_is_setting : (unit : ProgramUnit) → IsPlainMain unit → IsSetting (unit ∷ []) (plain_setting unit)
plain_is_setting unit plain = subst (IsSetting (unit ∷ [])) (apart_is_plain unit) (unit_setting unit plain.blocks plain.ties plain.distinct)

-- ## There is no other

pub no_tie : (unit : ProgramUnit) → unit.ties ≡ [] → (t : Tie) → IsIn t unit.ties → ⊥
no_tie unit none t among = let never : IsIn t [] = subst (λ (ts : List Tie). IsIn t ts) none among in elim never [ ]

plain_named : (unit : ProgramUnit) → IsPlainMain unit → IsNamed unit
plain_named unit plain = record { distinct = plain.distinct; tied = λ t among. absurd (no_tie unit plain.ties t among) }

each_named : (unit : ProgramUnit) → IsPlainMain unit → (k : ℕ) (u : ProgramUnit) → HasUnit (unit ∷ []) k u → IsNamed u
each_named unit plain zero u at = let same : unit ≡ u = cc in subst IsNamed same (plain_named unit plain)
each_named unit plain (suc k) u at = absurd (cc)

pub only_plain : (unit : ProgramUnit) → IsPlainMain unit → (homes : Setting) → IsSetting (unit ∷ []) homes → homes ≡ plain_setting unit
only_plain unit plain homes setting = one_setting (unit ∷ []) (each_named unit plain) homes (plain_setting unit) setting (plain_is_setting unit plain)

-- ## The store before the run

abbrev facts_of : Setting → ProgramUnit → Facts
facts_of homes unit = record { program = unit; home = unit_home homes 0 unit }

pub plain_image : (homes : Setting) (unit : ProgramUnit) → unit.images ≡ [] → (store : Store) × (image_store homes (unit ∷ []) ≡ Gives store)
unfolding image_store images_from imaged
plain_image homes unit none = (undefined_store homes, ap (imaged (facts_of homes unit) (Gives (undefined_store homes))) none)
