-- The uses of the names of items of lists and of loops, and uses that are left out.
use Rattle.std.specs.Prelude.{◌≡◌, Bool, true, false, List, [], ◌∷◌, ◌++◌, if◌then◌else◌}
use Rattle.std.proofs.Common.{refl, sym, ap, ◌∙◌, append_assoc}
use Rattle.f_tree.specs.Values.{Bytes}
use Rattle.f_tree.specs.declared.expressions.Expr.{Expr}
use Rattle.f_tree.specs.declared.statements.ListItem.{ListItem}
use Rattle.f_tree.specs.declared.statements.ListItem.TheVariants as item
use Rattle.f_tree.specs.declared.statements.ListItem.TheBlock as block
use Rattle.f_tree.specs.declared.statements.LoopControl.{LoopControl}
use Rattle.f_tree.specs.Folds.{fold_items, folds_opened}
use Rattle.f_tree.specs.Uses.{Use, Alone, used, uses_of, joined_uses, all_of, if_any, is_among, without, uses_of_control, layer_uses_of_item, uses_of_item, layer_uses_of_place, uses_of_place}
use Rattle.name_uses.specs.declared.uses.Use.{Use as Seen}
use Rattle.name_uses.specs.declared.uses.Manner.TheVariants as manner
use Rattle.name_uses.specs.UsesSeen.{used_in, use_of, unless_hidden}

row-items : (is : List ListItem) → joined_uses (fold_items layer_uses_of_item (block.hidden-the_row-ListItem-0 is)) ≡ all_of uses_of_item is
unfolding folds_opened uses_of_item joined_uses all_of Rattle.f_tree.specs.declared.statements.ListItem.TheBlock.hidden-the_row-ListItem-0
row-items [] = refl
row-items (i ∷ is) = ap (λ us. uses_of_item i ++ us) (row-items is)

row-places : (is : List ListItem) → joined_uses (fold_items layer_uses_of_place (block.hidden-the_row-ListItem-0 is)) ≡ all_of uses_of_place is
unfolding folds_opened uses_of_place joined_uses all_of Rattle.f_tree.specs.declared.statements.ListItem.TheBlock.hidden-the_row-ListItem-0
row-places [] = refl
row-places (i ∷ is) = ap (λ us. uses_of_place i ++ us) (row-places is)

pub item-Item : (e : Expr) → uses_of_item (item.Item e) ≡ uses_of e
unfolding folds_opened uses_of_item layer_uses_of_item
item-Item e = refl

pub place-Item : (e : Expr) → uses_of_place (item.Item e) ≡ uses_of e
unfolding folds_opened uses_of_place layer_uses_of_place
place-Item e = refl

pub item-Loop : (is : List ListItem) (control : LoopControl) → uses_of_item (item.Loop is control) ≡ all_of uses_of_item is ++ uses_of_control control
unfolding folds_opened uses_of_item layer_uses_of_item Rattle.f_tree.specs.declared.statements.ListItem.TheBlock.hidden-the_row-ListItem-0
item-Loop is control = ap (λ us. us ++ uses_of_control control) (row-items is)

abbrev pub bounds : LoopControl → List Use
bounds c = uses_of c.first ++ uses_of c.limit ++ if_any uses_of c.step

behind : (us a b c : List Use) → us ++ (a ++ b ++ c) ≡ us ++ a ++ b ++ c
behind us a b c = sym (append_assoc us (a ++ b) c) ∙ ap (λ xs. xs ++ c) (sym (append_assoc us a b))

place-Loop : (is : List ListItem) (c : LoopControl) → uses_of_place (item.Loop is c) ≡ without (c.variable ∷ []) (all_of uses_of_place is ++ uses_of c.first ++ uses_of c.limit ++ if_any uses_of c.step)
unfolding folds_opened uses_of_place layer_uses_of_place Rattle.f_tree.specs.declared.statements.ListItem.TheBlock.hidden-the_row-ListItem-0
place-Loop is c = ap (λ us. without (c.variable ∷ []) (us ++ uses_of c.first ++ uses_of c.limit ++ if_any uses_of c.step)) (row-places is)

pub control_is : (x : Bytes) (c : LoopControl) → x ≡ c.variable → used x Alone ++ bounds c ≡ uses_of_control c
unfolding uses_of_control
control_is x c is = ap (λ y. used y Alone ++ bounds c) is ∙ behind (used c.variable Alone) (uses_of c.first) (uses_of c.limit) (if_any uses_of c.step)

pub place_loop : (is slice : List ListItem) (c : LoopControl) (i : ListItem) (x : Bytes) (begun mid last seen : List Use) → i ≡ item.Loop is c → x ≡ c.variable → begun ≡ [] → slice ≡ is
    → mid ≡ begun ++ all_of uses_of_place slice → last ≡ mid ++ bounds c → seen ≡ last → without (x ∷ []) seen ≡ uses_of_place i
place_loop is slice c i x begun mid last seen form name none same inner outer now =
    ap (λ y. without (y ∷ []) seen) name
    ∙ ap (without (c.variable ∷ []))
    (now ∙ outer ∙ ap (λ us. us ++ bounds c) (inner ∙ ap (λ us. us ++ all_of uses_of_place slice) none ∙ ap (all_of uses_of_place) same)
    ∙ behind (all_of uses_of_place is) (uses_of c.first) (uses_of c.limit) (if_any uses_of c.step))
    ∙ sym (place-Loop is c) ∙ ap uses_of_place (sym form)

-- what stands past the end of a list of uses
abbrev pub no_use : Seen
no_use = record { name = record { ref_ptr = (0, 0); now = [] }; manner = manner.Alone }

kept_by : (b : Bool) (u : Use) (us : List Use) → (if b then us else u ∷ us) ≡ (if b then [] else u ∷ []) ++ us
kept_by true u us = refl
kept_by false u us = refl

pub without_step : (hidden : List Bytes) (u : Seen) (us : List Seen) → without hidden (used_in (u ∷ us)) ≡ unless_hidden hidden (use_of u) ++ without hidden (used_in us)
unfolding without unless_hidden
without_step hidden u us = kept_by (is_among (use_of u).name hidden) (use_of u) (without hidden (used_in us))

pub without_none : (hidden : List Bytes) → without hidden [] ≡ []
unfolding without
without_none hidden = refl
