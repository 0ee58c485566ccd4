-- The dimensions that are told of an array are those that are known of it: what is written, but for what is kept.
use Rattle.std.specs.List.{list_any}
use Rattle.std.specs.Prelude.{◌≡◌, ℕ, zero, suc, ◌+◌, ◌-◌, ◌<◌, ◌≤◌, nat_eq, pos, ◌&&◌, ◌||◌, ◌⊎◌, List, [], ◌∷◌, ◌++◌, map, length, position, bytes_eq, slice_get, Option, Some, None, option_map, is_some, unwrap_or}
use Rattle.std.proofs.Common.{append_assoc, refl, sym, ap, ◌∙◌, arith, inl, inr}
use Rattle.std.proofs.lemmas.Bool.{cases_lt}
use Rattle.std.proofs.lemmas.List.{append-nil, length-map}
use Rattle.std.proofs.lemmas.Option.{slice_get-map, slice_get_past}
use Rattle.f_tree.specs.Values.{Bytes}
use Rattle.f_tree.specs.Facts.{Attribute, Bounds}
use Rattle.unit_translation.specs.unit_file.UnitFile as file
use Rattle.unit_translation.specs.unit_file.UnitFile.{Inventory, place_of_bound}
use Rattle.name_facts.specs.declared.fact.Bound.{Bound}
use Rattle.name_facts.specs.declared.fact.NameFact.{NameFact}
use Rattle.name_facts.specs.GivenFacts.{IsNameFact, bounds_of}
use Rattle.item_emission.specs.declared.known.Dimension.{Dimension}
use Rattle.item_emission.specs.declared.known.LowerBound.{LowerBound}
use Rattle.item_emission.specs.declared.known.LowerBound.TheVariants as low
use Rattle.item_emission.specs.declared.known.Size.{Size}
use Rattle.item_emission.specs.declared.known.Size.TheVariants as many
use Rattle.item_emission.specs.Agreeing.{dimension_of}
use Rattle.item_emission.specs.NamedEmission.{dimension_at}
use Rattle.unit_item_laws.specs.AgreeingUnits.{dimension_in, lower_in, size_in}
use Rattle.unit_writer.specs.declared.heading.BoundKind.{BoundKind}
use Rattle.unit_writer.specs.declared.heading.BoundKind.TheVariants as bound
use Rattle.unit_writer.specs.declared.heading.KeptBound.{KeptBound}
use Rattle.unit_writer.specs.Told.{dimension_by, dimension_or, dimension_told, dimensions_told, is_bound, is_kept, is_same_kind, lower_told, size_told}
use Rattle.unit_writer.specs.ToldUnits.{bound_kind_told, bound_told}
use Rattle.unit_writer.proofs.PlaceLemmas.{any_position}

abbrev pub none_written : Dimension
none_written = record { lower = low.Written (pos 0); size = many.Written 0 }

pub past_all : (ds : List Dimension) (k : ℕ) → length ds ≤ k → dimension_at ds k ≡ none_written
unfolding dimension_at
past_all ds k past = ap (λ o. unwrap_or o none_written) (slice_get_past ds k past)

told_length : (at : ℕ → Dimension) (place count : ℕ) → length (dimensions_told at place count) ≡ count
unfolding dimensions_told
told_length at place zero = refl
told_length at place (suc count) = ap suc (told_length at (suc place) count)

told_there : (at : ℕ → Dimension) (place count k : ℕ) → k < count → slice_get (dimensions_told at place count) k ≡ Some (at (place + k))
unfolding dimensions_told
told_there at place zero k within = absurd (omega (arith, within))
told_there at place (suc count) zero within = let same : place ≡ place + 0 = omega arith in ap (λ m. Some (at m)) same
told_there at place (suc count) (suc k) within =
    let same : suc place + k ≡ place + suc k = omega arith in
    told_there at (suc place) count k (omega (arith, within)) ∙ ap (λ m. Some (at m)) same

told_at : (at : ℕ → Dimension) (count k : ℕ) → k < count → dimension_at (dimensions_told at 0 count) k ≡ at k
unfolding dimension_at
told_at at count k within =
    let same : 0 + k ≡ k = omega arith in
    ap (λ o. unwrap_or o none_written) (told_there at 0 count k within) ∙ ap at same

-- one after the other
dimensions_first : (at : ℕ → Dimension) (place n m : ℕ) → n ≡ suc m → dimensions_told at place n ≡ at place ∷ dimensions_told at (place + 1) m
unfolding dimensions_told
dimensions_first at place n m is =
    let next : suc place ≡ place + 1 = omega arith in
    ap (dimensions_told at place) is ∙ ap (λ j. at place ∷ dimensions_told at j m) next

pub dimensions_more : (at : ℕ → Dimension) (place count : ℕ) (whole done now : List Dimension) → place < count → whole ≡ done ++ dimensions_told at place (count - place) → now ≡ done ++ at place ∷ []
    → whole ≡ now ++ dimensions_told at (place + 1) (count - (place + 1))
dimensions_more at place count whole done now h so_far put =
    let less : count - place ≡ suc (count - (place + 1)) = omega arith in
    so_far ∙ ap (λ ds. done ++ ds) (dimensions_first at place (count - place) (count - (place + 1)) less)
    ∙ sym (append_assoc done (at place ∷ []) (dimensions_told at (place + 1) (count - (place + 1)))) ∙ ap (λ ds. ds ++ dimensions_told at (place + 1) (count - (place + 1))) (sym put)

pub dimensions_end : (at : ℕ → Dimension) (place count : ℕ) (whole done : List Dimension) → count ≤ place → whole ≡ done ++ dimensions_told at place (count - place) → done ≡ whole
unfolding dimensions_told
dimensions_end at place count whole done h so_far =
    let none : count - place ≡ 0 = omega arith in
    sym (so_far ∙ ap (λ n. done ++ dimensions_told at place n) none ∙ append-nil done)

-- as it is written
written_same : (o : Option Bound) → dimension_or o ≡ unwrap_or (option_map dimension_of (option_map bounds_of o)) none_written
unfolding dimension_or dimension_by
written_same (Some b) = refl
written_same None = refl

written_at : (bs : List Bound) (k : ℕ) → dimension_or (slice_get bs k) ≡ dimension_at (map dimension_of (map bounds_of bs)) k
unfolding dimension_at
written_at bs k =
    written_same (slice_get bs k) ∙ ap (λ o. unwrap_or (option_map dimension_of o) none_written) (sym (slice_get-map bounds_of bs k))
    ∙ ap (λ o. unwrap_or o none_written) (sym (slice_get-map dimension_of (map bounds_of bs) k))

-- as it is kept
kind_same : (one other : BoundKind) → is_same_kind one other ≡ file.is_same_kind (bound_kind_told one) (bound_kind_told other)
unfolding is_same_kind file.is_same_kind bound_kind_told
kind_same bound.Lower bound.Lower = refl
kind_same bound.Lower bound.Size = refl
kind_same bound.Size bound.Lower = refl
kind_same bound.Size bound.Size = refl

bound_same : (x : Bytes) (k : ℕ) (kind : BoundKind) (one : KeptBound) → is_bound x k kind one ≡ file.is_bound x k (bound_kind_told kind) (bound_told one)
unfolding is_bound file.is_bound
bound_same x k kind one = ap (λ b. bytes_eq x one.dummy.now && (nat_eq k one.place && b)) (kind_same kind one.kind)

any_told : (x : Bytes) (k : ℕ) (kind : BoundKind) (kept : List KeptBound) → list_any (is_bound x k kind) kept ≡ list_any (file.is_bound x k (bound_kind_told kind)) (map bound_told kept)
any_told x k kind [] = refl
any_told x k kind (one ∷ later) = λ i. bound_same x k kind one i || any_told x k kind later i

kept_place : (kept : List KeptBound) (bounds : List file.KeptBound) → map bound_told kept ≡ bounds → (x : Bytes) (k : ℕ) (kind : BoundKind)
    → is_kept kept x k kind ≡ is_some (position (file.is_bound x k (bound_kind_told kind)) bounds)
unfolding is_kept
kept_place kept bounds same x k kind =
    any_told x k kind kept ∙ ap (list_any (file.is_bound x k (bound_kind_told kind))) same ∙ any_position (file.is_bound x k (bound_kind_told kind)) bounds

lower_by : (o : Option ℕ) (written : LowerBound) → lower_told (is_some o) written ≡ lower_in o written
unfolding lower_told lower_in
lower_by None written = refl
lower_by (Some i) written = refl

size_by : (o : Option ℕ) (written : Size) → size_told (is_some o) written ≡ size_in o written
unfolding size_told size_in
size_by None written = refl
size_by (Some i) written = refl

told_same : (kept : List KeptBound) (v : Inventory) → map bound_told kept ≡ v.bounds → (x : Bytes) (bs : List Bound) (k : ℕ) (d : Dimension) → dimension_or (slice_get bs k) ≡ d
    → dimension_told kept x bs k ≡ dimension_in v x k d
unfolding bound_kind_told
told_same kept v same x bs k d is = λ i. record {
  lower = (ap (λ b. lower_told b (dimension_or (slice_get bs k)).lower) (kept_place kept v.bounds same x k bound.Lower) ∙ lower_by (place_of_bound v x k file.LowerOf) (dimension_or (slice_get bs k)).lower
      ∙ ap (λ (e : Dimension). lower_in (place_of_bound v x k file.LowerOf) e.lower) is) i;
  size = (ap (λ b. size_told b (dimension_or (slice_get bs k)).size) (kept_place kept v.bounds same x k bound.Size) ∙ size_by (place_of_bound v x k file.SizeOf) (dimension_or (slice_get bs k)).size
      ∙ ap (λ (e : Dimension). size_in (place_of_bound v x k file.SizeOf) e.size) is) i;
}

-- where nothing is kept of a dimension
unkept : (v : Inventory) (x : Bytes) (k : ℕ) (d : Dimension) → place_of_bound v x k file.LowerOf ≡ None → place_of_bound v x k file.SizeOf ≡ None → dimension_in v x k d ≡ d
unfolding lower_in size_in
unkept v x k d lower size = λ i. record { lower = lower_in (lower i) d.lower; size = size_in (size i) d.size }

-- no bound of a dimension that an array does not have is kept
abbrev pub NoneBehind : Inventory → Bytes → Attribute → Type 0
NoneBehind v x a = (k : ℕ) → length a.dimensions ≤ k → (kind : file.BoundKind) → place_of_bound v x k kind ≡ None

pub behind_all : (v : Inventory) (x : Bytes) (a : Attribute) (k : ℕ) → NoneBehind v x a → length a.bounds ≤ length a.dimensions → length a.dimensions ≤ k
    → none_written ≡ dimension_in v x k (dimension_at (map dimension_of a.bounds) k)
behind_all v x a k none few past =
    let size : length (map dimension_of a.bounds) ≡ length a.bounds = length-map a.bounds dimension_of in
    sym (past_all (map dimension_of a.bounds) k (omega arith))
    ∙ sym (unkept v x k (dimension_at (map dimension_of a.bounds) k) (none k past file.LowerOf) (none k past file.SizeOf))

pub dimension_seen : (v : Inventory) (x : Bytes) (a : Attribute) (kept : List KeptBound) (f : NameFact) (ds : List Dimension) → map bound_told kept ≡ v.bounds → IsNameFact a f → NoneBehind v x a
    → length a.bounds ≤ length a.dimensions → ds ≡ dimensions_told (dimension_told kept x f.bounds) 0 f.rank → (k : ℕ)
    → dimension_at ds k ≡ dimension_in v x k (dimension_at (map dimension_of a.bounds) k)
dimension_seen v x a kept f ds same is none few told k = by (cases_lt k f.rank)
  where
    by : (k < f.rank) ⊎ (f.rank ≤ k) → dimension_at ds k ≡ dimension_in v x k (dimension_at (map dimension_of a.bounds) k)
    by (inl within) =
        ap (λ es. dimension_at es k) told ∙ told_at (dimension_told kept x f.bounds) f.rank k within
        ∙ told_same kept v same x f.bounds k (dimension_at (map dimension_of a.bounds) k)
        (written_at f.bounds k ∙ ap (λ (bs : List Bounds). dimension_at (map dimension_of bs) k) is.bounds)
    by (inr past) =
        let all : length (dimensions_told (dimension_told kept x f.bounds) 0 f.rank) ≡ f.rank = told_length (dimension_told kept x f.bounds) 0 f.rank in
        let rank : f.rank ≡ length a.dimensions = is.rank in
        ap (λ es. dimension_at es k) told ∙ past_all (dimensions_told (dimension_told kept x f.bounds) 0 f.rank) k (omega arith) ∙ behind_all v x a k none few (omega arith)
