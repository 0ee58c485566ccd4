-- The items of steps, one after the other.
use Rattle.std.specs.Option.{option_flatten}
use Rattle.std.proofs.Common.{◌≡◌, ℕ, suc, ◌+◌, ◌<◌, ◌≤◌, List, [], ◌∷◌, ◌++◌, drop, get_or, length, append_assoc, Option, Some, None, option_map, slice_get, refl, sym, ap, ◌∙◌, arith}
use Rattle.std.proofs.lemmas.List.{drop_all, append-nil}
use Rattle.lowered_tree.specs.declared.steps.Step.{Step}
use Rattle.lowered_tree.specs.Shapes.{step_of, steps_of}
use Rattle.lowered_text.specs.declared.kept.Kept.{Kept}
use Rattle.lowered_text.specs.Texts.{kinds_of}
use Rattle.named_items.specs.declared.item.Item.{Item}
use Rattle.item_emission.specs.NamedEmission.{Knowledge, item_step}
use Rattle.unit_writer.specs.Functions.{kinds_at}
use Rattle.named_mains.specs.NamedMains.{item_ahead, items_from}
use Rattle.unit_writer.proofs.Walks.{rest_is}

abbrev pub in_front : List Item → Option (List Item) → Option (List Item)
in_front items later = option_map (λ (ys : List Item). items ++ ys) later

in_front-none : (later : Option (List Item)) → later ≡ in_front [] later
in_front-none None = refl
in_front-none (Some later) = refl

pub in_front-start : (done : List Item) (whole : Option (List Item)) → done ≡ [] → whole ≡ in_front done whole
in_front-start done whole is = in_front-none whole ∙ ap (λ items. in_front items whole) (sym is)

pub in_front-more : (items : List Item) (item : Item) (later : Option (List Item)) → in_front items (item_ahead (Some item) later) ≡ in_front (items ++ item ∷ []) later
unfolding item_ahead
in_front-more items item None = refl
in_front-more items item (Some later) = ap Some (sym (append_assoc items (item ∷ []) later))

pub ahead-none : (later : Option (List Item)) → item_ahead None later ≡ None
unfolding item_ahead
ahead-none None = refl
ahead-none (Some later) = refl

module _ (known : Knowledge) (kinds : List (Option Kept)) where
  item_first : (n : ℕ) (st : Step) (later : List Step)
      → items_from known (kinds_at kinds) n (steps_of (st ∷ later)) ≡ item_ahead (item_step known (kinds_at kinds n) n (step_of st)) (items_from known (kinds_at kinds) (n + 1) (steps_of later))
  unfolding items_from
  item_first n st later =
      let next : suc n ≡ n + 1 = omega arith in
      ap (λ m. item_ahead (item_step known (kinds_at kinds n) n (step_of st)) (items_from known (kinds_at kinds) m (steps_of later))) next

  -- the item that is emitted at a position
  step_at : (n : ℕ) (kept : Option Kept) (st : Step) (item : Option Item) → kept ≡ option_flatten (slice_get kinds n) → item ≡ item_step known (kinds_of kept) n (step_of st)
      → item_step known (kinds_at kinds n) n (step_of st) ≡ item
  unfolding kinds_at
  step_at n kept st item kept_is emitted = sym (emitted ∙ ap (λ k. item_step known (kinds_of k) n (step_of st)) kept_is)

  ahead_of : (steps : List Step) (n : ℕ) (kept : Option Kept) (st d : Step) (item : Option Item) → n < length steps → st ≡ get_or steps n d
      → kept ≡ option_flatten (slice_get kinds n) → item ≡ item_step known (kinds_of kept) n (step_of st)
      → items_from known (kinds_at kinds) n (steps_of (drop n steps)) ≡ item_ahead item (items_from known (kinds_at kinds) (n + 1) (steps_of (drop (n + 1) steps)))
  ahead_of steps n kept st d item h is kept_is emitted =
      ap (λ ys. items_from known (kinds_at kinds) n (steps_of ys)) (rest_is steps n st d h is) ∙ item_first n st (drop (n + 1) steps)
      ∙ ap (λ i. item_ahead i (items_from known (kinds_at kinds) (n + 1) (steps_of (drop (n + 1) steps)))) (step_at n kept st item kept_is emitted)

  pub items_more : (steps : List Step) (n : ℕ) (kept : Option Kept) (st d : Step) (item : Item) (whole : Option (List Item)) (done now : List Item) → n < length steps
      → st ≡ get_or steps n d → kept ≡ option_flatten (slice_get kinds n) → Some item ≡ item_step known (kinds_of kept) n (step_of st)
      → whole ≡ in_front done (items_from known (kinds_at kinds) n (steps_of (drop n steps))) → now ≡ done ++ item ∷ []
      → whole ≡ in_front now (items_from known (kinds_at kinds) (n + 1) (steps_of (drop (n + 1) steps)))
  items_more steps n kept st d item whole done now h is kept_is emitted so_far put =
      let later = items_from known (kinds_at kinds) (n + 1) (steps_of (drop (n + 1) steps)) in
      so_far ∙ ap (in_front done) (ahead_of steps n kept st d (Some item) h is kept_is emitted) ∙ in_front-more done item later ∙ ap (λ items. in_front items later) (sym put)

  pub items_stop : (steps : List Step) (n : ℕ) (kept : Option Kept) (st d : Step) (whole : Option (List Item)) (done : List Item) → n < length steps
      → st ≡ get_or steps n d → kept ≡ option_flatten (slice_get kinds n) → None ≡ item_step known (kinds_of kept) n (step_of st)
      → whole ≡ in_front done (items_from known (kinds_at kinds) n (steps_of (drop n steps))) → None ≡ whole
  items_stop steps n kept st d whole done h is kept_is emitted so_far =
      sym (so_far ∙ ap (in_front done) (ahead_of steps n kept st d None h is kept_is emitted ∙ ahead-none (items_from known (kinds_at kinds) (n + 1) (steps_of (drop (n + 1) steps)))))

  pub items_end : (steps : List Step) (n : ℕ) (whole : Option (List Item)) (done : List Item) → length steps ≤ n
      → whole ≡ in_front done (items_from known (kinds_at kinds) n (steps_of (drop n steps))) → Some done ≡ whole
  unfolding items_from
  items_end steps n whole done h so_far =
      sym (so_far ∙ ap (λ ys. in_front done (items_from known (kinds_at kinds) n (steps_of ys))) (drop_all n steps h) ∙ ap Some (append-nil done))
