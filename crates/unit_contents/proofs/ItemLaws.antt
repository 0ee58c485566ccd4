-- Types of items.
use Rattle.std.specs.Prelude.{◌≡◌, ℕ, Option}
use Rattle.std.proofs.Common.{refl, sym}
use Rattle.f_tree.specs.Facts.{Facts}
use Rattle.lowered_tree.specs.l_core.Pures as core
use Rattle.lowered_tree.specs.l_core.Steps.{Text}
use Rattle.lowered_tree.specs.declared.pures.Pure.{Pure}
use Rattle.lowered_tree.specs.declared.pures.Pure as tree
use Rattle.lowered_tree.specs.Shapes.{pure_of, shapes_opened}
use Rattle.lowered_text.specs.declared.kept.Kept.{Kept}
use Rattle.lowered_text.specs.Texts.{kinds_of}
use Rattle.main_translation.specs.Flow.{kept_type}
use Rattle.unit_translation.specs.UnitFlow.{kind_before, item_kind}
use Rattle.unit_contents.specs.Parts.{item_type_by}

pub item-Temporary : (c : Facts) (kept : Option Kept) (k : ℕ) → item_type_by c kept (pure_of (tree.Temporary k)) ≡ kinds_of kept k
unfolding shapes_opened item_type_by
item-Temporary c kept k = refl

pub item-other : (c : Facts) (kept : Option Kept) (p : Pure) → ((k : ℕ) → p ≡ tree.Temporary k → ⊥) → kept_type c (pure_of p) ≡ item_type_by c kept (pure_of p)
unfolding shapes_opened item_type_by
item-other c kept (tree.Temporary k) other = absurd (other k refl)
item-other c kept (tree.Load' s (tree.more_of-Pure p r)) other = refl
item-other c kept (tree.FirstOf' s (tree.more_of-Pure p r)) other = refl
item-other c kept (tree.Substring' x s (tree.more_of-Pure p r) t (tree.more_of-Pure a q) u (tree.more_of-Pure b o)) other = refl
item-other c kept (tree.Prefixed' op s (tree.more_of-Pure p r)) other = refl
item-other c kept (tree.Operated' op s (tree.more_of-Pure p r) t (tree.more_of-Pure q o)) other = refl
item-other c kept (tree.Chosen' s (tree.more_of-Pure p r) t (tree.more_of-Pure a q) u (tree.more_of-Pure b o)) other = refl
item-other c kept _ other = refl

pub ruleset item_forms = (item-Temporary, item-other)

-- what is known before a step tells the type
pub item_typed : (u : Text) (n : ℕ) (kept : Option Kept) (p : core.Pure) → ((k : ℕ) → kinds_of kept k ≡ kind_before u n k) → item_kind u n p ≡ item_type_by u.facts kept p
unfolding item_kind item_type_by
item_typed u n kept (core.Temporary k) known = sym (known k)
item_typed u n kept p known = refl
