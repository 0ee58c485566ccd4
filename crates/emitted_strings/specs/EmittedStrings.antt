-- That the item of a step has no string but the one that the step passes. ANSI X3.9-1978, section 11.12; C89, 3.1.4.
use Rattle.std.specs.Prelude.{◌≡◌, ℕ, ◌≤◌, Some}
use Rattle.item_emission.specs.l_core.Steps.{Step}
use Rattle.item_emission.specs.named_items.declared.item.Item.{Item}
use Rattle.item_emission.specs.NamedEmission.{Knowledge, Kinds, item_step}
use Rattle.built_strings.specs.BuiltStrings.{item_bytes}
use Rattle.lowered_objects.specs.FewObjects.{string_bytes}

-- LAW
abbrev pub EachItemHasTheStringOfItsStep : Type 0
EachItemHasTheStringOfItsStep = (known : Knowledge) (kinds : Kinds) (n : ℕ) (st : Step) (item : Item) → item_step known kinds n st ≡ Some item → item_bytes item ≤ string_bytes st
