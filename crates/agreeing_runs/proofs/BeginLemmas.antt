-- The storage with which a run begins has the sequences of its setting, and no transfer is in progress.
use Rattle.std.specs.Prelude.{◌≡◌, ℕ, suc, Bool, true, false, List, [], ◌∷◌, length, Option, Some, None, slice_get, if◌then◌else◌}
use Rattle.std.proofs.Common.{refl, subst}
use Rattle.std.proofs.lemmas.List.{length-set, length-map}
use Rattle.fortran_totality.specs.f_tree.run_state.Units.{Units}
use Rattle.fortran_totality.specs.f_tree.Values.{Spot, Datum, DefinesReadOnly, PastExtent, Checked, Gives, Fails, given_that}
use Rattle.fortran_totality.specs.f_tree.Store.{Store, Sequence, Cell, undefined_units, defined_as, stored_in, has_room, define_in, define}
use Rattle.fortran_totality.specs.f_tree.Facts.{Image, ProgramUnit, Facts}
use Rattle.fortran_totality.specs.f_tree.Images.{define_each, imaged, images_from, undefined_store, image_store, all_places_in}
use Rattle.fortran_totality.specs.f_tree.Setting.{Setting, unit_home}
use Rattle.fortran_totality.specs.f_tree.Meaning.{world_with, start_world}

-- storage keeps its sequences while DATA statements define it
unfoldable pub Keeps : ℕ → Checked Store → Type 0
Keeps n (Gives s) = length s ≡ n
Keeps n (Fails reason) = Unit {0}

keeps_if : (n : ℕ) (b : Bool) (one other : Checked Store) → Keeps n one → Keeps n other → Keeps n (if b then one else other)
keeps_if n true one other first second = first
keeps_if n false one other first second = second

keeps_stored : (s : Store) (k : ℕ) (r : Checked (List Cell)) → Keeps (length s) (stored_in s k r)
unfolding stored_in Keeps
keeps_stored s k (Gives cells) = length-set s k (record { cells = cells; read_only = false })
keeps_stored s k (Fails reason) = tt

keeps_defined_in : (s : Store) (p : Spot) (d : Datum) (o : Option Sequence) → Keeps (length s) (define_in s p d o)
unfolding define_in Keeps
keeps_defined_in s p d None = tt
keeps_defined_in s p d (Some q) =
    keeps_if (length s) q.read_only (Fails DefinesReadOnly) (if has_room p q.cells then stored_in s p.sequence (defined_as p.basic p d q.cells) else Fails PastExtent) tt
    (keeps_if (length s) (has_room p q.cells) (stored_in s p.sequence (defined_as p.basic p d q.cells)) (Fails PastExtent)
    (keeps_stored s p.sequence (defined_as p.basic p d q.cells)) tt)

keeps_defined : (s : Store) (p : Spot) (d : Datum) → Keeps (length s) (define s p d)
unfolding define
keeps_defined s p d = keeps_defined_in s p d (slice_get s p.sequence)

keeps_given : (n : ℕ) (r : Checked Store) (go : Store → Checked Store) → Keeps n r → ((s : Store) → length s ≡ n → Keeps n (go s)) → Keeps n (given_that r go)
unfolding given_that Keeps
keeps_given n (Gives s) go keeps next = next s keeps
keeps_given n (Fails reason) go keeps next = tt

keeps_each : (s : Store) (n : ℕ) → length s ≡ n → (ps : List Spot) (ds : List Datum) → Keeps n (define_each s ps ds)
unfolding define_each Keeps
keeps_each s n height [] [] = height
keeps_each s n height [] (d ∷ ds) = tt
keeps_each s n height (p ∷ ps) [] = tt
keeps_each s n height (p ∷ ps) (d ∷ ds) =
    keeps_given n (define s p d) (λ after. define_each after ps ds) (subst (λ k. Keeps k (define s p d)) height (keeps_defined s p d)) (λ after same. keeps_each after n same ps ds)

keeps_placed : (n : ℕ) (s : Store) → length s ≡ n → (r : Checked (List Spot)) (ds : List Datum) → Keeps n (given_that r (λ ps. define_each s ps ds))
unfolding given_that Keeps
keeps_placed n s height (Gives ps) ds = keeps_each s n height ps ds
keeps_placed n s height (Fails reason) ds = tt

keeps_imaged : (c : Facts) (n : ℕ) (r : Checked Store) → Keeps n r → (is : List Image) → Keeps n (imaged c r is)
unfolding imaged
keeps_imaged c n r keeps [] = keeps
keeps_imaged c n r keeps (i ∷ is) =
    keeps_imaged c n (given_that r (λ before. given_that (all_places_in c [] i.places) (λ ps. define_each before ps i.values)))
    (keeps_given n r (λ before. given_that (all_places_in c [] i.places) (λ ps. define_each before ps i.values)) keeps (λ s height. keeps_placed n s height (all_places_in c [] i.places) i.values)) is

keeps_images : (g : Setting) (n k : ℕ) (r : Checked Store) → Keeps n r → (us : List ProgramUnit) → Keeps n (images_from g k r us)
unfolding images_from
keeps_images g n k r keeps [] = keeps
keeps_images g n k r keeps (u ∷ us) = keeps_images g n (suc k) (imaged (record { program = u; home = unit_home g k u }) r u.images) (keeps_imaged (record { program = u; home = unit_home g k u }) n r keeps u.images) us

undefined_height : (g : Setting) → length (undefined_store g) ≡ length g.sizes
unfolding undefined_store
undefined_height g = length-map g.sizes undefined_units

given_keeps : (n : ℕ) (s : Store) → length s ≡ n → Keeps n (Gives s)
unfolding Keeps
given_keeps n s height = height

-- what is shared when the run begins
world_begins : (g : Setting) (units : Units) (r : Checked Store) → Keeps (length g.sizes) r → (length (world_with g units r).store ≡ length g.sizes) × ((world_with g units r).transfer ≡ None)
unfolding world_with Keeps
world_begins g units (Gives s) keeps = (keeps, refl)
world_begins g units (Fails reason) keeps = (undefined_height g, refl)

pub start_begins : (g : Setting) (S : List ProgramUnit) (units : Units) → (length (start_world g S units).store ≡ length g.sizes) × ((start_world g S units).transfer ≡ None)
unfolding start_world image_store
start_begins g S units =
    world_begins g units (images_from g 0 (Gives (undefined_store g)) S) (keeps_images g (length g.sizes) 0 (Gives (undefined_store g)) (given_keeps (length g.sizes) (undefined_store g) (undefined_height g)) S)
