-- Units with plain storage have one setting, in which each stored name of each has a sequence of its own, and no DATA statement defines what is before
-- their run. ANSI X3.9-1978, sections 8.2, 8.3, 9 and 17.1.
use Rattle.std.specs.List.{flat_map}
use Rattle.std.specs.Prelude.{◌≡◌, ℕ, suc, ◌+◌, List, [], ◌∷◌, ◌++◌, length}
use Rattle.std.proofs.Common.{refl, ap, ◌∙◌, subst}
use Rattle.main_faithfulness.specs.f_tree.Values.{Checked, Gives}
use Rattle.main_faithfulness.specs.f_tree.Store.{Store}
use Rattle.main_faithfulness.specs.f_tree.Facts.{Home, Image, ProgramUnit, Facts}
use Rattle.main_faithfulness.specs.f_tree.Setting.{Setting, IsSetting, IsNamed, HasUnit, unit_home}
use Rattle.main_faithfulness.specs.f_tree.Images.{imaged, images_from, undefined_store, image_store}
use Rattle.main_faithfulness.specs.f_tree.Runs.{all_homes_apart, all_sizes, setting_apart}
use Rattle.main_faithfulness.proofs.fortran_laws.OneSetting.{one_setting}
use Rattle.main_faithfulness.proofs.fortran_laws.SettingsApart.{IsApart, apart_setting}
use Rattle.main_faithfulness.specs.plain_forms.OwnStorage.{sizes_of}
use Rattle.unit_translation_laws.specs.unit_forms.OwnSetting.{own_homes, own_setting}
use Rattle.main_faithfulness.proofs.Settings.{homes_are, no_tie}
use Rattle.unit_translation_laws.specs.PlainUnits.{HasPlainStorage}

-- ## The setting

abbrev setting_by : List (List Home) → List ℕ → Setting
setting_by homes sizes = record { homes = homes; sizes = sizes }

all_homes_are : (n : ℕ) (S : List ProgramUnit) → all_homes_apart n S ≡ own_homes n S
unfolding all_homes_apart
all_homes_are n [] = refl
all_homes_are n (u ∷ S) = (λ i. homes_are n u.stored i ∷ all_homes_are (n + length u.stored) S i)

all_sizes_are : (S : List ProgramUnit) → all_sizes S ≡ flat_map (λ (u : ProgramUnit). sizes_of u.stored) S
unfolding all_sizes
all_sizes_are [] = refl
all_sizes_are (u ∷ S) = ap (λ sizes. sizes_of u.stored ++ sizes) (all_sizes_are S)

apart_is_own : (S : List ProgramUnit) → setting_apart S ≡ own_setting S
unfolding setting_apart
apart_is_own S = (λ i. setting_by (all_homes_are 0 S i) (all_sizes_are S i))

abbrev pub HavePlainStorage : List ProgramUnit → Type 0
HavePlainStorage S = (k : ℕ) (u : ProgramUnit) → HasUnit S k u → HasPlainStorage u

stands_apart : (u : ProgramUnit) → HasPlainStorage u → IsApart u
stands_apart u plain = record { no_blocks = plain.blocks; no_ties = plain.ties; distinct = plain.distinct }

pub own_is_setting : (S : List ProgramUnit) → HavePlainStorage S → IsSetting S (own_setting S)
own_is_setting S plain = subst (IsSetting S) (apart_is_own S) (apart_setting S (λ k u at. stands_apart u (plain k u at)))

-- ## There is no other

named : (u : ProgramUnit) → HasPlainStorage u → IsNamed u
named u plain = record { distinct = plain.distinct; tied = λ t among. absurd (no_tie u plain.ties t among) }

pub only_own : (S : List ProgramUnit) → HavePlainStorage S → (homes : Setting) → IsSetting S homes → homes ≡ own_setting S
only_own S plain homes setting = one_setting S (λ k u at. named u (plain k u at)) homes (own_setting S) setting (own_is_setting S plain)

-- ## The store before the run

abbrev facts_of : Setting → ℕ → ProgramUnit → Facts
facts_of homes k unit = record { program = unit; home = unit_home homes k unit }

no_images : (homes : Setting) (k : ℕ) (before : Checked Store) (S : List ProgramUnit) → ((j : ℕ) (u : ProgramUnit) → HasUnit S j u → u.images ≡ []) → images_from homes k before S ≡ before
unfolding images_from imaged
no_images homes k before [] none = refl
no_images homes k before (u ∷ S) none =
    ap (λ (images : List Image). images_from homes (suc k) (imaged (facts_of homes k u) before images) S) (none 0 u refl) ∙ no_images homes (suc k) before S (λ j v at. none (suc j) v at)

pub own_image : (homes : Setting) (S : List ProgramUnit) → HavePlainStorage S → (store : Store) × (image_store homes S ≡ Gives store)
unfolding image_store
own_image homes S plain = (undefined_store homes, no_images homes 0 (Gives (undefined_store homes)) S (λ j u at. (plain j u at).images))
