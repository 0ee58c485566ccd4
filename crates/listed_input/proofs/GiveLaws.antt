-- The items of a call, one after the other.
use Rattle.std.proofs.Common.{◌≡◌, ℕ, suc, ℤ, pos, Bool, true, false, List, [], ◌∷◌, Option, Some, None, refl, ap, sym, ◌∙◌, subst}
use Rattle.std.specs.Prelude.{Result, Ok, Err, if◌then◌else◌}
use Rattle.std.specs.Ordering.{int_eq}
use Rattle.c_tree.specs.run_state.Units.{Units}
use Rattle.c_tree.specs.declared.outcome.CValue.{CValue}
use Rattle.c_tree.specs.declared.outcome.CFault.{CFault}
use Rattle.c_tree.specs.Faults.{Or, after, failing}
use Rattle.c_tree.specs.Objects.{Object}
use Rattle.c_tree.specs.World.{Medium, Transfer, Reply, Gives, Stops, Io}
use Rattle.c_tree.specs.World as media
use Rattle.c_tree.specs.LibraryArguments.{shifted, number_through, count_from, length_from}
use Rattle.c_tree.specs.Transfers.{asked, numbered, Passage, GoesOn, upcoming}
use Rattle.c_tree.specs.TransferOutput.{item_kind, item_length}
use Rattle.c_tree.specs.TransferInput.{kind_of, given, listed_item, listed_taken, unless_slashed}
use Rattle.c_tree.specs.TransferCalls.{each_item, then_later, listed_items}
use Rattle.c_tree.specs.Builtins.{do_lio}
use Rattle.c_tree.specs.Library.{library}
use Rattle.edit_rules.specs.edit_meaning.ListInput.{Place}
use Rattle.edit_rules.specs.edit_meaning.ListItems.{Kept, item_over}
use Rattle.f2c_outside.specs.Table.{Row}
use Rattle.f2c_outside.specs.Meaning.{Tells, units_of}
use Rattle.unit_answers.specs.declared.ends.CallEnd.TheVariants as calls
use Rattle.unit_answers.specs.Failing.{FailedOn, NoneFailed}
use Rattle.unit_answers.specs.Answers.{world_with, numbered_answer}
use Rattle.unit_answers.proofs.OrLemmas.{known, faulty, behind, same-rest}
use Rattle.item_deeds.specs.Forms.{SameForms}
use Rattle.listed_output.specs.Items.{items_given}
use Rattle.listed_output.specs.Writing.{StayedOn}
use Rattle.listed_output.proofs.RowLaws.{stays-same, stays-stays, stays-quietly, stays-fails}
use Rattle.listed_output.specs.declared.calls.Passage.TheVariants as passages
use Rattle.listed_output.specs.declared.calls.Passage as told
use Rattle.listed_input.specs.declared.ends.ItemEnd.{ItemEnd}
use Rattle.listed_input.specs.declared.ends.ItemEnd.TheVariants as ends
use Rattle.listed_input.specs.declared.ends.ItemRead.{ItemRead}
use Rattle.listed_input.specs.declared.ends.ItemRead.TheVariants as reads
use Rattle.listed_input.specs.declared.ends.InputEnd.{InputEnd}
use Rattle.listed_input.specs.declared.ends.InputEnd.TheVariants as inputs
use Rattle.listed_input.specs.declared.kinds.Item as items
use Rattle.listed_output.specs.declared.kinds.ItemList.{ItemList}
use Rattle.listed_input.specs.declared.calls.ListedInput.{ListedInput}
use Rattle.listed_output.specs.Kinds.{kind_shown}
use Rattle.listed_output.specs.Items.{list_shown}
use Rattle.listed_input.specs.Reading.{place_of, IsBehind, ItemGoesOn, taken_at, ReadsItem, StandsFar}
use Rattle.listed_input.specs.Texts.{IsPlaceBehind}
use Rattle.listed_input.specs.Endings.{passage_of, end_of}
use Rattle.listed_input.specs.Transferring.{StandsFor, Stands, ItemsReply, ItemsDevice, AnswersItems, UncountedCall}
use Rattle.listed_input.specs.Giving.{SameNumbers, GoesBehind, GivesItem, items_meant, GivesItems}
use Rattle.listed_input.proofs.PastLaws.{items-there}
use Rattle.listed_input.proofs.CallLaws.{shown_by, is-shown}
use Rattle.listed_input.proofs.StepLaws.{stays-quiet}

-- ## One item

abbrev item_meant : items.Item → Transfer → List Object → Option Transfer → Units → Or Passage
item_meant item transfer objects stale units = listed_item (kind_shown item.kind) item.size item.pointer transfer (world_with objects stale units)

pub given-slashed : (item : items.Item) (input : ListedInput) (objects : List Object) (rows : List Row) → input.slashed ≡ true → GivesItem item input input objects objects rows rows (Ok tt)
given-slashed item input objects rows slashed = record {
  tells = λ tells. tells;
  replies = λ tells transfer stands stale. record {
    transfer = given Kept transfer;
    stands = record {
      direction = stands.direction;
      layout = stands.layout;
      medium = stands.medium;
      on_error = stands.on_error;
      on_end = stands.on_end;
      slashed = stands.slashed;
      place = stands.place;
    };
    goes_on = ap (λ (b : Bool). unless_slashed b (kind_of (kind_shown item.kind)) item.size item.pointer transfer (world_with objects stale (units_of rows))
        (upcoming (world_with objects stale (units_of rows)) transfer.medium)) (stands.slashed ∙ slashed);
  };
  devices = stays-same input.unit rows;
  uncounted = tt;
  numbers = record { unit_is = refl; error_is = refl; end_is = refl };
}

-- the meaning of an item that no slash leaves
meant-is : (item : items.Item) (input : ListedInput) (transfer : Transfer) (objects : List Object) (stale : Option Transfer) (units : Units) → StandsFor input transfer → input.slashed ≡ false →
    item_meant item transfer objects stale units ≡ taken_at input.unit item transfer objects stale units (place_of input.reading)
meant-is item input transfer objects stale units stands none =
    ap (λ (b : Bool). unless_slashed b (kind_of (kind_shown item.kind)) item.size item.pointer transfer (world_with objects stale units)
    (upcoming (world_with objects stale units) transfer.medium)) (stands.slashed ∙ none)
    ∙ ap (λ (medium : Medium). listed_taken (kind_of (kind_shown item.kind)) item.pointer item.size transfer (world_with objects stale units)
    (upcoming (world_with objects stale units) medium)
    (item_over transfer.place (upcoming (world_with objects stale units) medium).lines (kind_of (kind_shown item.kind)))) stands.medium
    ∙ ap (λ (place : Place). taken_at input.unit item transfer objects stale units place) (stands.place none)

-- an input behind an item
behind-stands : (input input' : ListedInput) (transfer transfer' : Transfer) (place : Place) (slashed : Bool) → SameNumbers input input' → StandsFor input transfer →
    IsBehind transfer transfer' place slashed → input'.slashed ≡ slashed → place_of input'.reading ≡ place → StandsFor input' transfer'
behind-stands input input' transfer transfer' place slashed same stands is_behind now there = record {
  direction = is_behind.direction ∙ stands.direction;
  layout = is_behind.layout ∙ stands.layout;
  medium = is_behind.medium ∙ stands.medium ∙ ap media.Unit (sym same.unit_is);
  on_error = is_behind.on_error ∙ stands.on_error ∙ sym same.error_is;
  on_end = is_behind.on_end ∙ stands.on_end ∙ sym same.end_is;
  slashed = is_behind.slashed_is ∙ sym now;
  place = λ none. is_behind.place_is (sym now ∙ none) ∙ sym there;
}

behind-goes : (item : items.Item) (input input' : ListedInput) (transfer : Transfer) (objects objects' : List Object) (stale : Option Transfer) (units units' : Units) (place : Place) (slashed : Bool) →
    SameNumbers input input' → StandsFor input transfer → input.slashed ≡ false → input'.slashed ≡ slashed → place_of input'.reading ≡ place →
    ItemGoesOn (taken_at input.unit item transfer objects stale units (place_of input.reading)) transfer objects' stale units' place slashed →
    GoesBehind (item_meant item transfer objects stale units) input' objects' stale units'
behind-goes item input input' transfer objects objects' stale units units' place slashed same stands none now there goes = record {
  transfer = goes.transfer';
  stands = behind-stands input input' transfer goes.transfer' place slashed same stands goes.is_behind now there;
  goes_on = meant-is item input transfer objects stale units stands none ∙ goes.goes_on;
}

pub given-on : (own : ℤ) (item : items.Item) (input input' : ListedInput) (objects objects' : List Object) (old new : List Row) (place : Place) → own ≡ input.unit → SameNumbers input input' →
    input.slashed ≡ false → input'.slashed ≡ false → place_of input'.reading ≡ place →
    ReadsItem own item (place_of input.reading) place objects objects' old new (Ok reads.Given) → GivesItem item input input' objects objects' old new (Ok tt)
given-on own item input input' objects objects' old new place right same none now there read =
    let reads_it : ReadsItem input.unit item (place_of input.reading) place objects objects' old new (Ok reads.Given) =
    subst (λ (n : ℤ). ReadsItem n item (place_of input.reading) place objects objects' old new (Ok reads.Given)) right read in
    record {
      tells = reads_it.tells;
      replies = λ tells transfer stands stale.
          behind-goes item input input' transfer objects objects' stale (units_of old) (units_of new) place false same stands none now there
          (reads_it.replies tells transfer stale stands.medium (stands.place none) (stands.slashed ∙ none));
      devices = reads_it.devices;
      uncounted = tt;
      numbers = same;
    }

pub given-left : (own : ℤ) (item : items.Item) (input input' : ListedInput) (objects objects' : List Object) (old new : List Row) (place : Place) → own ≡ input.unit → SameNumbers input input' →
    input.slashed ≡ false → input'.slashed ≡ true → place_of input'.reading ≡ place →
    ReadsItem own item (place_of input.reading) place objects objects' old new (Ok reads.Slashed) → GivesItem item input input' objects objects' old new (Ok tt)
given-left own item input input' objects objects' old new place right same none now there read =
    let reads_it : ReadsItem input.unit item (place_of input.reading) place objects objects' old new (Ok reads.Slashed) =
    subst (λ (n : ℤ). ReadsItem n item (place_of input.reading) place objects objects' old new (Ok reads.Slashed)) right read in
    record {
      tells = reads_it.tells;
      replies = λ tells transfer stands stale.
          behind-goes item input input' transfer objects objects' stale (units_of old) (units_of new) place true same stands none now there
          (reads_it.replies tells transfer stale stands.medium (stands.place none) (stands.slashed ∙ none));
      devices = reads_it.devices;
      uncounted = tt;
      numbers = same;
    }

stopped : (item : items.Item) (input input' : ListedInput) (objects objects' : List Object) (old new : List Row) (place : Place) (end : ItemEnd) → SameNumbers input input' →
    input.slashed ≡ false → ReadsItem input.unit item (place_of input.reading) place objects objects' old new (Err end) → GivesItem item input input' objects objects' old new (Err end)
stopped item input input' objects objects' old new place (ends.Fault fault) same none reads_it = record {
  tells = reads_it.tells;
  replies = λ tells transfer stands stale.
      meant-is item input transfer objects stale (units_of old) stands none ∙ reads_it.replies tells transfer stale stands.medium (stands.place none) (stands.slashed ∙ none);
  devices = reads_it.devices;
  uncounted = tt;
  numbers = same;
}
stopped item input input' objects objects' old new place (ends.Number number) same none reads_it = record {
  tells = reads_it.tells;
  replies = λ tells transfer stands stale.
      meant-is item input transfer objects stale (units_of old) stands none ∙ reads_it.replies tells transfer stale stands.medium (stands.place none) (stands.slashed ∙ none);
  devices = reads_it.devices;
  uncounted = tt;
  numbers = same;
}
stopped item input input' objects objects' old new place ends.Device same none reads_it =
    record { tells = reads_it.tells; replies = λ tells transfer stands stale. tt; devices = reads_it.devices; uncounted = tt; numbers = same }
stopped item input input' objects objects' old new place ends.Uncounted same none reads_it = record {
  tells = reads_it.tells;
  replies = λ tells transfer stands stale. tt;
  devices = reads_it.devices;
  uncounted = reads_it.uncounted;
  numbers = same;
}

pub given-stops : (own : ℤ) (item : items.Item) (input input' : ListedInput) (objects objects' : List Object) (old new : List Row) (place : Place) (end : ItemEnd) → own ≡ input.unit →
    SameNumbers input input' → input.slashed ≡ false → ReadsItem own item (place_of input.reading) place objects objects' old new (Err end) →
    GivesItem item input input' objects objects' old new (Err end)
given-stops own item input input' objects objects' old new place end right same none read =
    stopped item input input' objects objects' old new place end same none
    (subst (λ (n : ℤ). ReadsItem n item (place_of input.reading) place objects objects' old new (Err end)) right read)

-- a result by what it is
pub read-is : (own : ℤ) (item : items.Item) (place place' : Place) (objects objects' : List Object) (old new : List Row) (result last : Result ItemRead ItemEnd) → result ≡ last →
    ReadsItem own item place place' objects objects' old new result → ReadsItem own item place place' objects objects' old new last
read-is own item place place' objects objects' old new result last is read = subst (ReadsItem own item place place' objects objects' old new) is read

-- ## Items one after the other

-- the rest of the items is what is meant
pub record GoesFrom (list : ItemList) (input : ListedInput) (objects : List Object) (units : Units) (pointer : CValue) (left : ℕ) (stale : Option Transfer) (meaning : Or Reply) : Type 0 where
  pub transfer : Transfer
  pub stands : StandsFor input transfer
  pub rest : meaning ≡ items_meant list left pointer transfer objects stale units

-- some items have their values
pub record Giving (list : ItemList) (first : CValue) (input input' : ListedInput) (objects objects' : List Object) (old new : List Row) (pointer : CValue) (left : ℕ) : Type 0 where
  pub tells : Tells old → Tells new
  pub stays : StayedOn input.unit old new
  pub numbers : SameNumbers input input'
  pub goes : Tells old → (transfer : Transfer) → StandsFor input transfer → (stale : Option Transfer) →
      GoesFrom list input' objects' (units_of new) pointer left stale (items_meant list list.count first transfer objects stale (units_of old))

pub giving-starts : (list : ItemList) (first : CValue) (input : ListedInput) (objects : List Object) (rows : List Row) (left : ℕ) → left ≡ list.count →
    Giving list first input input objects objects rows rows first left
giving-starts list first input objects rows left all = record {
  tells = λ tells. tells;
  stays = stays-same input.unit rows;
  numbers = record { unit_is = refl; error_is = refl; end_is = refl };
  goes = λ tells transfer stands stale. record {
    transfer = transfer;
    stands = stands;
    rest = ap (λ (n : ℕ). items_meant list n first transfer objects stale (units_of rows)) (sym all);
  };
}

-- the first of the items that are left
abbrev item_in : ItemList → CValue → items.Item
item_in list pointer = record { kind = list.kind; pointer = pointer; size = list.size }

then-rest : (list : ItemList) (pointer : CValue) (left less : ℕ) (transfer : Transfer) (objects : List Object) (stale : Option Transfer) (units : Units) → left ≡ suc less →
    items_meant list left pointer transfer objects stale units
    ≡ after (item_meant (item_in list pointer) transfer objects stale units)
    (λ passage. then_later passage λ changed after_it. each_item list.size (listed_item (kind_shown list.kind) list.size) less (shifted list.size pointer) changed after_it)
then-rest list pointer left less transfer objects stale units more = ap (λ (n : ℕ). items_meant list n pointer transfer objects stale units) more

same-both : (first second third : ListedInput) → SameNumbers first second → SameNumbers second third → SameNumbers first third
same-both first second third one other =
    record { unit_is = other.unit_is ∙ one.unit_is; error_is = other.error_is ∙ one.error_is; end_is = other.end_is ∙ one.end_is }

pub giving-goes_on : (list : ItemList) (first : CValue) (input middle input' : ListedInput) (objects between objects' : List Object) (old rows new : List Row) (pointer next : CValue) (left less : ℕ) →
    left ≡ suc less → IsPlaceBehind objects' list.size pointer next → Giving list first input middle objects between old rows pointer left →
    GivesItem (item_in list pointer) middle input' between objects' rows new (Ok tt) → Giving list first input input' objects objects' old new next less
giving-goes_on list first input middle input' objects between objects' old rows new pointer next left less more moved giving gives = record {
  tells = λ tells. gives.tells (giving.tells tells);
  stays = stays-stays input.unit old rows new giving.stays (subst (λ (n : ℤ). StayedOn n rows new) giving.numbers.unit_is gives.devices);
  numbers = same-both input middle input' giving.numbers gives.numbers;
  goes = λ tells transfer stands stale.
      let so_far : GoesFrom list middle between (units_of rows) pointer left stale (items_meant list list.count first transfer objects stale (units_of old)) = giving.goes tells transfer stands stale in
      let gone : GoesBehind (item_meant (item_in list pointer) so_far.transfer between stale (units_of rows)) input' objects' stale (units_of new) =
      gives.replies (giving.tells tells) so_far.transfer so_far.stands stale in
      record {
        transfer = gone.transfer;
        stands = gone.stands;
        rest = so_far.rest ∙ then-rest list pointer left less so_far.transfer between stale (units_of rows) more
            ∙ known (item_meant (item_in list pointer) so_far.transfer between stale (units_of rows)) (GoesOn gone.transfer (world_with objects' stale (units_of new))) _ (sym gone.goes_on)
            ∙ items-there (kind_shown list.kind) list.size less list.size pointer next gone.transfer (world_with objects' stale (units_of new)) moved;
      };
}

pub giving-ends : (list : ItemList) (first : CValue) (input input' : ListedInput) (objects objects' : List Object) (old new : List Row) (pointer : CValue) (left : ℕ) → left ≡ 0 →
    Giving list first input input' objects objects' old new pointer left → GivesItems list first input input' objects objects' old new (Ok tt)
giving-ends list first input input' objects objects' old new pointer left none giving = record {
  tells = giving.tells;
  replies = λ tells transfer stands stale.
      let so_far : GoesFrom list input' objects' (units_of new) pointer left stale (items_meant list list.count first transfer objects stale (units_of old)) = giving.goes tells transfer stands stale in
      record {
        transfer = so_far.transfer;
        stands = so_far.stands;
        replies = so_far.rest ∙ ap (λ (n : ℕ). items_meant list n pointer so_far.transfer objects' stale (units_of new)) none;
      };
  devices = giving.stays;
  uncounted = tt;
  numbers = giving.numbers;
}

pub giving-stops : (list : ItemList) (first : CValue) (input middle input' : ListedInput) (objects between objects' : List Object) (old rows new : List Row) (pointer : CValue) (left less : ℕ) (end : ItemEnd) →
    left ≡ suc less → Giving list first input middle objects between old rows pointer left →
    GivesItem (item_in list pointer) middle input' between objects' rows new (Err end) → GivesItems list first input input' objects objects' old new (Err end)
giving-stops list first input middle input' objects between objects' old rows new pointer left less (ends.Fault fault) more giving gives = record {
  tells = λ tells. gives.tells (giving.tells tells);
  replies = λ tells transfer stands stale.
      let so_far : GoesFrom list middle between (units_of rows) pointer left stale (items_meant list list.count first transfer objects stale (units_of old)) = giving.goes tells transfer stands stale in
      so_far.rest ∙ then-rest list pointer left less so_far.transfer between stale (units_of rows) more
      ∙ faulty (item_meant (item_in list pointer) so_far.transfer between stale (units_of rows)) fault _ (sym (gives.replies (giving.tells tells) so_far.transfer so_far.stands stale));
  devices = stays-stays input.unit old rows new giving.stays (subst (λ (n : ℤ). StayedOn n rows new) giving.numbers.unit_is gives.devices);
  uncounted = tt;
  numbers = same-both input middle input' giving.numbers gives.numbers;
}
giving-stops list first input middle input' objects between objects' old rows new pointer left less (ends.Number number) more giving gives = record {
  tells = λ tells. gives.tells (giving.tells tells);
  replies = λ tells transfer stands stale.
      let so_far : GoesFrom list middle between (units_of rows) pointer left stale (items_meant list list.count first transfer objects stale (units_of old)) = giving.goes tells transfer stands stale in
      so_far.rest ∙ then-rest list pointer left less so_far.transfer between stale (units_of rows) more
      ∙ known (item_meant (item_in list pointer) so_far.transfer between stale (units_of rows)) _ _ (sym (gives.replies (giving.tells tells) so_far.transfer so_far.stands stale))
      ∙ ap (λ (n : ℤ). Ok (numbered number n so_far.transfer.on_end (world_with objects' None (units_of new)))) (so_far.stands.on_error ∙ giving.numbers.error_is)
      ∙ ap (λ (n : ℤ). Ok (numbered number input.on_error n (world_with objects' None (units_of new)))) (so_far.stands.on_end ∙ giving.numbers.end_is);
  devices = stays-quiet input.unit old rows new giving.stays gives.devices;
  uncounted = tt;
  numbers = same-both input middle input' giving.numbers gives.numbers;
}
giving-stops list first input middle input' objects between objects' old rows new pointer left less ends.Device more giving gives = record {
  tells = λ tells. gives.tells (giving.tells tells);
  replies = λ tells transfer stands stale. tt;
  devices = stays-fails input.unit old rows new giving.stays (subst (λ (n : ℤ). FailedOn n rows new) giving.numbers.unit_is gives.devices);
  uncounted = tt;
  numbers = same-both input middle input' giving.numbers gives.numbers;
}
giving-stops list first input middle input' objects between objects' old rows new pointer left less ends.Uncounted more giving gives = record {
  tells = λ tells. gives.tells (giving.tells tells);
  replies = λ tells transfer stands stale. tt;
  devices = stays-quiet input.unit old rows new giving.stays gives.devices;
  uncounted = subst (λ (n : ℤ). StandsFar n new) giving.numbers.unit_is gives.uncounted;
  numbers = same-both input middle input' giving.numbers gives.numbers;
}

-- ## The call

items-called : (objects : List Object) (units : Units) (input : ListedInput) (transfer : Transfer) (kind count first size : CValue) →
    library do_lio (world_with objects (Some (shown_by input transfer)) units) (kind ∷ count ∷ first ∷ size ∷ [])
    ≡ after (items_given objects kind count size)
    (λ given. each_item given.size (listed_item given.kind given.size) given.count first (shown_by input transfer) (world_with objects (Some (shown_by input transfer)) units))
unfolding library listed_items
items-called objects units input transfer kind count first size =
    sym (behind (number_through objects kind) _ _
    ∙ same-rest (number_through objects kind) _ _ (λ kind_number. behind (number_through objects count) _ _
    ∙ same-rest (number_through objects count) _ _ (λ count_number. behind (item_kind kind_number) _ _
    ∙ same-rest (item_kind kind_number) _ _ (λ one. behind (count_from count_number) _ _
    ∙ same-rest (count_from count_number) _ _ (λ number. behind (length_from size) _ _
    ∙ same-rest (length_from size) _ _ (λ given. behind (item_length one given) _ _))))))

called-by : (objects : List Object) (units : Units) (input : ListedInput) (transfer : Transfer) (kind count first size : CValue) → StandsFor input transfer →
    library do_lio (world_with objects (Some transfer) units) (kind ∷ count ∷ first ∷ size ∷ [])
    ≡ after (items_given objects kind count size) (λ given. each_item given.size (listed_item given.kind given.size) given.count first transfer (world_with objects (Some transfer) units))
called-by objects units input transfer kind count first size stands =
    ap (λ (one : Transfer). library do_lio (world_with objects (Some one) units) (kind ∷ count ∷ first ∷ size ∷ [])) (is-shown input transfer stands)
    ∙ items-called objects units input transfer kind count first size
    ∙ ap (λ (one : Transfer). after (items_given objects kind count size) (λ given. each_item given.size (listed_item given.kind given.size) given.count first one (world_with objects (Some one) units)))
    (sym (is-shown input transfer stands))

-- what the call replies whose items are known
called-list : (objects : List Object) (units : Units) (input : ListedInput) (transfer : Transfer) (kind count first size : CValue) (list : ItemList) → StandsFor input transfer →
    Ok (list_shown list) ≡ items_given objects kind count size →
    library do_lio (world_with objects (Some transfer) units) (kind ∷ count ∷ first ∷ size ∷ []) ≡ items_meant list list.count first transfer objects (Some transfer) units
called-list objects units input transfer kind count first size list stands is =
    called-by objects units input transfer kind count first size stands ∙ known (items_given objects kind count size) (list_shown list) _ is

pub call-goes : (kind count first size : CValue) (list : ItemList) (input input' : ListedInput) (objects objects' : List Object) (old new : List Row) →
    Ok (list_shown list) ≡ items_given objects kind count size → SameForms objects objects' → GivesItems list first input input' objects objects' old new (Ok tt) →
    AnswersItems objects objects' (kind ∷ count ∷ first ∷ size ∷ []) input input' old new (Ok passages.GoesOn)
call-goes kind count first size list input input' objects objects' old new is same gives = record {
  tells = gives.tells;
  replies = λ tells transfer stands.
      let stood : Stands (items_meant list list.count first transfer objects (Some transfer) (units_of old)) objects' (units_of new) input' = gives.replies tells transfer stands (Some transfer) in
      record {
        transfer = stood.transfer;
        stands = stood.stands;
        replies = called-list objects (units_of old) input transfer kind count first size list stands is ∙ stood.replies;
      };
  devices = stays-quietly input.unit old new gives.devices;
  uncounted = tt;
  forms = same;
}

number-reply : (number on_error on_end : ℤ) (objects : List Object) (units : Units) (input : ListedInput) →
    ItemsReply (Ok (numbered number on_error on_end (world_with objects None units))) objects units input (passage_of (numbered_answer number on_error on_end))
number-reply number on_error on_end objects units input = by (int_eq (asked number on_error on_end) (pos 0))
  where
    by : (over : Bool) →
        ItemsReply (Ok (if over then Stops (Io number) (world_with objects None units) else Gives number (world_with objects None units))) objects units input
        (passage_of (if over then Err (calls.Ended number) else Ok number))
    by true = refl
    by false = refl

number-device : (number on_error on_end : ℤ) (input : ListedInput) (old new : List Row) → NoneFailed old new → ItemsDevice input old new (passage_of (numbered_answer number on_error on_end))
number-device number on_error on_end input old new none = by (int_eq (asked number on_error on_end) (pos 0))
  where
    by : (over : Bool) → ItemsDevice input old new (passage_of (if over then Err (calls.Ended number) else Ok number))
    by true = none
    by false = none

number-counted : (number on_error on_end : ℤ) (P : Type 0) → UncountedCall (passage_of (numbered_answer number on_error on_end)) P
number-counted number on_error on_end P = by (int_eq (asked number on_error on_end) (pos 0))
  where
    by : (over : Bool) → UncountedCall (passage_of (if over then Err (calls.Ended number) else Ok number)) P
    by true = tt
    by false = tt

ends-call : (kind count first size : CValue) (list : ItemList) (input input' : ListedInput) (objects objects' : List Object) (old new : List Row) (end : ItemEnd) →
    Ok (list_shown list) ≡ items_given objects kind count size → SameForms objects objects' → GivesItems list first input input' objects objects' old new (Err end) →
    AnswersItems objects objects' (kind ∷ count ∷ first ∷ size ∷ []) input input' old new (end_of input.unit input.on_error input.on_end end)
ends-call kind count first size list input input' objects objects' old new (ends.Fault fault) is same gives = record {
  tells = gives.tells;
  replies = λ tells transfer stands.
      called-list objects (units_of old) input transfer kind count first size list stands is ∙ gives.replies tells transfer stands (Some transfer);
  devices = gives.devices;
  uncounted = tt;
  forms = same;
}
ends-call kind count first size list input input' objects objects' old new (ends.Number number) is same gives = record {
  tells = gives.tells;
  replies = λ tells transfer stands.
      subst (λ (meaning : Or Reply). ItemsReply meaning objects' (units_of new) input' (passage_of (numbered_answer number input.on_error input.on_end)))
      (sym (called-list objects (units_of old) input transfer kind count first size list stands is ∙ gives.replies tells transfer stands (Some transfer)))
      (number-reply number input.on_error input.on_end objects' (units_of new) input');
  devices = number-device number input.on_error input.on_end input old new gives.devices;
  uncounted = number-counted number input.on_error input.on_end (StandsFar input.unit new);
  forms = same;
}
ends-call kind count first size list input input' objects objects' old new ends.Device is same gives =
    record { tells = gives.tells; replies = λ tells transfer stands. tt; devices = (refl, gives.devices); uncounted = tt; forms = same }
ends-call kind count first size list input input' objects objects' old new ends.Uncounted is same gives = record {
  tells = gives.tells;
  replies = λ tells transfer stands. tt;
  devices = gives.devices;
  uncounted = gives.uncounted;
  forms = same;
}

pub call-ends : (kind count first size : CValue) (list : ItemList) (input input' : ListedInput) (objects objects' : List Object) (old new : List Row) (end : ItemEnd) (unit on_error on_end : ℤ)
    (result : Result told.Passage InputEnd) → unit ≡ input'.unit → on_error ≡ input'.on_error → on_end ≡ input'.on_end → result ≡ end_of unit on_error on_end end →
    Ok (list_shown list) ≡ items_given objects kind count size → SameForms objects objects' → GivesItems list first input input' objects objects' old new (Err end) →
    AnswersItems objects objects' (kind ∷ count ∷ first ∷ size ∷ []) input input' old new result
call-ends kind count first size list input input' objects objects' old new end unit on_error on_end result unit_is error_is end_is said is same gives =
    subst (AnswersItems objects objects' (kind ∷ count ∷ first ∷ size ∷ []) input input' old new)
    (sym (said ∙ ap (λ (n : ℤ). end_of n on_error on_end end) (unit_is ∙ gives.numbers.unit_is)
    ∙ ap (λ (n : ℤ). end_of input.unit n on_end end) (error_is ∙ gives.numbers.error_is)
    ∙ ap (λ (n : ℤ). end_of input.unit input.on_error n end) (end_is ∙ gives.numbers.end_is)))
    (ends-call kind count first size list input input' objects objects' old new end is same gives)

pub call-faulty : (kind count first size : CValue) (input : ListedInput) (objects : List Object) (rows : List Row) (fault : CFault) → SameForms objects objects →
    failing fault ≡ items_given objects kind count size →
    AnswersItems objects objects (kind ∷ count ∷ first ∷ size ∷ []) input input rows rows (Err (inputs.Call (calls.Fault fault)))
call-faulty kind count first size input objects rows fault same is = record {
  tells = λ tells. tells;
  replies = λ tells transfer stands. called-by objects (units_of rows) input transfer kind count first size stands ∙ faulty (items_given objects kind count size) fault _ is;
  devices = stays-same input.unit rows;
  uncounted = tt;
  forms = same;
}
