-- The items by which bounds are kept, one after the other, and those of steps behind them.
use Rattle.std.proofs.Common.{◌≡◌, ℕ, ◌+◌, ◌<◌, ◌≤◌, List, [], ◌∷◌, ◌++◌, drop, get_or, length, map, Option, Some, None, refl, sym, ap, ◌∙◌}
use Rattle.std.proofs.lemmas.List.{append-nil, drop-map, drop_all, length-map}
use Rattle.lowered_tree.specs.declared.steps.Step.{Step}
use Rattle.lowered_tree.specs.Shapes.{step_of, steps_of}
use Rattle.named_items.specs.declared.item.Item.{Item}
use Rattle.item_emission.specs.NamedEmission.{Knowledge, Kinds}
use Rattle.unit_translation.specs.unit_file.UnitFile as file
use Rattle.unit_item_laws.specs.AgreeingUnits.{bound_step}
use Rattle.named_mains.specs.NamedMains.{item_ahead, items_from}
use Rattle.named_units.specs.NamedUnits.{bound_items_from, items_behind}
use Rattle.unit_writer.specs.declared.heading.KeptBound.{KeptBound}
use Rattle.unit_writer.specs.ToldUnits.{bound_told}
use Rattle.unit_writer.proofs.ItemLaws.{ahead-none, in_front, in_front-more}
use Rattle.unit_writer.proofs.Walks.{rest_is}

module _ (known : Knowledge) where
  -- those of some bounds alone
  abbrev pub kept_items : List KeptBound → Option (List Item)
  kept_items bounds = bound_items_from known (map bound_told bounds) (Some [])

  kept_first : (one : KeptBound) (later : List KeptBound) → kept_items (one ∷ later) ≡ item_ahead (bound_step known (bound_told one)) (kept_items later)
  unfolding bound_items_from
  kept_first one later = refl

  kept_ahead : (bounds : List KeptBound) (n : ℕ) (one d : KeptBound) (item : Option Item) → n < length bounds → one ≡ get_or bounds n d → item ≡ bound_step known (bound_told one)
      → kept_items (drop n bounds) ≡ item_ahead item (kept_items (drop (n + 1) bounds))
  kept_ahead bounds n one d item h is made =
      ap kept_items (rest_is bounds n one d h is) ∙ kept_first one (drop (n + 1) bounds) ∙ ap (λ i. item_ahead i (kept_items (drop (n + 1) bounds))) (sym made)

  pub kept_more : (bounds : List KeptBound) (n : ℕ) (one d : KeptBound) (item : Item) (whole : Option (List Item)) (done now : List Item) → n < length bounds → one ≡ get_or bounds n d
      → Some item ≡ bound_step known (bound_told one) → whole ≡ in_front done (kept_items (drop n bounds)) → now ≡ done ++ item ∷ [] → whole ≡ in_front now (kept_items (drop (n + 1) bounds))
  kept_more bounds n one d item whole done now h is made so_far put =
      let later = kept_items (drop (n + 1) bounds) in
      so_far ∙ ap (in_front done) (kept_ahead bounds n one d (Some item) h is made) ∙ in_front-more done item later ∙ ap (λ items. in_front items later) (sym put)

  pub kept_stop : (bounds : List KeptBound) (n : ℕ) (one d : KeptBound) (whole : Option (List Item)) (done : List Item) → n < length bounds → one ≡ get_or bounds n d
      → None ≡ bound_step known (bound_told one) → whole ≡ in_front done (kept_items (drop n bounds)) → None ≡ whole
  kept_stop bounds n one d whole done h is made so_far =
      sym (so_far ∙ ap (in_front done) (kept_ahead bounds n one d None h is made ∙ ahead-none (kept_items (drop (n + 1) bounds))))

  pub kept_end : (bounds : List KeptBound) (n : ℕ) (whole : Option (List Item)) (done : List Item) → length bounds ≤ n → whole ≡ in_front done (kept_items (drop n bounds)) → Some done ≡ whole
  unfolding bound_items_from
  kept_end bounds n whole done h so_far = sym (so_far ∙ ap (λ ones. in_front done (kept_items ones)) (drop_all n bounds h) ∙ ap Some (append-nil done))

-- ## Before those of steps

joined : Option (List Item) → Option (List Item) → Option (List Item)
joined None later = None
joined (Some done) later = in_front done later

ahead_joined : (first : Option Item) (done later : Option (List Item)) → item_ahead first (joined done later) ≡ joined (item_ahead first done) later
unfolding item_ahead joined
ahead_joined None None later = refl
ahead_joined None (Some done) None = refl
ahead_joined None (Some done) (Some later) = refl
ahead_joined (Some item) None later = refl
ahead_joined (Some item) (Some done) None = refl
ahead_joined (Some item) (Some done) (Some later) = refl

nothing_before : (later : Option (List Item)) → later ≡ joined (Some []) later
unfolding joined
nothing_before None = refl
nothing_before (Some later) = refl

module _ (known : Knowledge) where
  before_joined : (bounds : List file.KeptBound) (later : Option (List Item)) → bound_items_from known bounds later ≡ joined (bound_items_from known bounds (Some [])) later
  unfolding bound_items_from
  before_joined [] later = nothing_before later
  before_joined (one ∷ ones) later = ap (item_ahead (bound_step known one)) (before_joined ones later) ∙ ahead_joined (bound_step known one) (bound_items_from known ones (Some [])) later

  module _ (kinds : ℕ → Kinds) (bounds : List KeptBound) (steps : List Step) where
    abbrev items_after : ℕ → Option (List Item)
    items_after count = items_from known kinds count (steps_of (drop count steps))

    all_joined : items_behind known kinds (map bound_told bounds) (steps_of steps) ≡ joined (kept_items known bounds) (items_after (length bounds))
    unfolding items_behind
    all_joined =
        (λ i. bound_items_from known (map bound_told bounds) (items_from known kinds (length-map bounds bound_told i) (drop (length-map bounds bound_told i) (steps_of steps))))
        ∙ ap (λ sts. bound_items_from known (map bound_told bounds) (items_from known kinds (length bounds) sts)) (drop-map step_of (length bounds) steps)
        ∙ before_joined (map bound_told bounds) (items_after (length bounds))

    pub items_all : (done : List Item) (count : ℕ) (found : Option (List Item)) → count ≡ length bounds → Some done ≡ kept_items known bounds → found ≡ in_front done (items_after count)
        → found ≡ items_behind known kinds (map bound_told bounds) (steps_of steps)
    unfolding joined
    items_all done count found counted kept is =
        is ∙ ap (λ n. in_front done (items_after n)) counted ∙ ap (λ o. joined o (items_after (length bounds))) kept ∙ sym all_joined

    pub items_none : None ≡ kept_items known bounds → None ≡ items_behind known kinds (map bound_told bounds) (steps_of steps)
    unfolding joined
    items_none none = ap (λ o. joined o (items_after (length bounds))) none ∙ sym all_joined
