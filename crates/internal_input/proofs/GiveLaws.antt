-- The items of a call, one after the other.
use Rattle.std.proofs.Common.{◌≡◌, ℕ, suc, ◌<◌, ℤ, pos, Bool, true, false, List, [], ◌∷◌, Option, Some, None, refl, ap, sym, ◌∙◌, subst, inl}
use Rattle.std.specs.Prelude.{Result, Ok, Err, if◌then◌else◌}
use Rattle.std.specs.Ordering.{int_eq}
use Rattle.c_tree.specs.run_state.Units.{Units}
use Rattle.c_tree.specs.declared.outcome.CValue.{CValue}
use Rattle.c_tree.specs.declared.outcome.CFault.{CFault}
use Rattle.c_tree.specs.Faults.{Or, after, failing}
use Rattle.c_tree.specs.Objects.{Object}
use Rattle.c_tree.specs.World.{InternalFile, Medium, Transfer, Reply, Gives, Stops, Io}
use Rattle.c_tree.specs.LibraryArguments.{shifted, number_through, count_from, length_from}
use Rattle.c_tree.specs.Transfers.{asked, numbered, Passage, GoesOn, upcoming}
use Rattle.c_tree.specs.TransferOutput.{item_kind, item_length}
use Rattle.c_tree.specs.TransferInput.{kind_of, given, listed_item, listed_taken, unless_slashed}
use Rattle.c_tree.specs.TransferCalls.{each_item, then_later, listed_items}
use Rattle.c_tree.specs.Builtins.{do_lio}
use Rattle.c_tree.specs.Library.{library}
use Rattle.edit_rules.specs.edit_meaning.ListInput.{Place}
use Rattle.edit_rules.specs.edit_meaning.ListItems.{Kept, item_over}
use Rattle.library_calls.specs.Room.{HasRoom}
use Rattle.item_deeds.specs.Forms.{SameForms}
use Rattle.unit_answers.specs.declared.ends.CallEnd.{CallEnd}
use Rattle.unit_answers.specs.declared.ends.CallEnd.TheVariants as calls
use Rattle.unit_answers.specs.Answers.{world_with, numbered_answer}
use Rattle.unit_answers.proofs.OrLemmas.{known, faulty, behind, same-rest}
use Rattle.listed_output.specs.declared.calls.Passage.TheVariants as passages
use Rattle.listed_output.specs.declared.calls.Passage as told
use Rattle.listed_output.specs.declared.kinds.ItemList.{ItemList}
use Rattle.listed_output.specs.Kinds.{kind_shown}
use Rattle.listed_output.specs.Items.{list_shown, items_given}
use Rattle.listed_output.specs.Transferring.{over_by}
use Rattle.internal_output.specs.Files.{file_of}
use Rattle.internal_output.specs.Transferring.{NoDevice}
use Rattle.internal_input.specs.declared.ends.ItemEnd.{ItemEnd}
use Rattle.internal_input.specs.declared.ends.ItemEnd.TheVariants as ends
use Rattle.internal_input.specs.declared.ends.ItemRead.{ItemRead}
use Rattle.internal_input.specs.declared.ends.ItemRead.TheVariants as reads
use Rattle.listed_input.specs.declared.kinds.Item as items
use Rattle.internal_input.specs.declared.calls.InternalInput.{InternalInput}
use Rattle.listed_input.specs.Reading.{place_of}
use Rattle.internal_input.specs.Texts.{saturated}
use Rattle.internal_input.specs.Reading.{IsBehind, ItemGoesOn, taken_at, ReadsItem}
use Rattle.internal_input.specs.Endings.{end_of}
use Rattle.internal_input.specs.Transferring.{StandsFor, Stands, ItemsReply, AnswersItems}
use Rattle.internal_input.specs.Giving.{SameNumbers, GoesBehind, GivesItem, items_meant, GivesItems}
use Rattle.internal_input.proofs.CallLaws.{shown_by, is-shown}
use Rattle.internal_input.proofs.TextLaws.{StandsAt, stands-behind}
use Rattle.internal_input.proofs.PlaceLaws.{item-same}

-- ## One item

abbrev item_meant : items.Item → Transfer → List Object → Option Transfer → Units → Or Passage
item_meant item transfer objects stale units = listed_item (kind_shown item.kind) item.size item.pointer transfer (world_with objects stale units)

pub given-slashed : (item : items.Item) (input : InternalInput) (objects : List Object) → input.slashed ≡ true → GivesItem item input input objects objects (Ok tt)
given-slashed item input objects slashed = record {
  replies = λ units transfer stands stale. record {
    transfer = given Kept transfer;
    stands = record {
      direction = stands.direction;
      layout = stands.layout;
      medium = stands.medium;
      on_error = stands.on_error;
      on_end = stands.on_end;
      slashed = stands.slashed;
      place = stands.place;
    };
    goes_on = ap (λ (b : Bool). unless_slashed b (kind_of (kind_shown item.kind)) item.size item.pointer transfer (world_with objects stale units)
        (upcoming (world_with objects stale units) transfer.medium)) (stands.slashed ∙ slashed);
  };
  numbers = record { error_is = refl; end_is = refl };
}

-- the meaning of an item that no slash leaves
meant-is : (item : items.Item) (input : InternalInput) (transfer : Transfer) (objects : List Object) (stale : Option Transfer) (units : Units) → StandsFor input transfer → input.slashed ≡ false →
    item_meant item transfer objects stale units ≡ taken_at item transfer objects stale units (file_of input.file) (place_of input.reading)
meant-is item input transfer objects stale units stands none =
    ap (λ (b : Bool). unless_slashed b (kind_of (kind_shown item.kind)) item.size item.pointer transfer (world_with objects stale units)
    (upcoming (world_with objects stale units) transfer.medium)) (stands.slashed ∙ none)
    ∙ ap (λ (medium : Medium). listed_taken (kind_of (kind_shown item.kind)) item.pointer item.size transfer (world_with objects stale units)
    (upcoming (world_with objects stale units) medium)
    (item_over transfer.place (upcoming (world_with objects stale units) medium).lines (kind_of (kind_shown item.kind)))) stands.medium
    ∙ ap (λ (place : Place). taken_at item transfer objects stale units (file_of input.file) place) (stands.place none)

-- an input behind an item
behind-stands : (input input' : InternalInput) (transfer transfer' : Transfer) (place : Place) (slashed : Bool) → SameNumbers input input' → StandsFor input transfer →
    IsBehind transfer transfer' (file_of input'.file) place slashed → input'.slashed ≡ slashed → place_of input'.reading ≡ place → StandsFor input' transfer'
behind-stands input input' transfer transfer' place slashed same stands is_behind now there = record {
  direction = is_behind.direction ∙ stands.direction;
  layout = is_behind.layout ∙ stands.layout;
  medium = is_behind.medium;
  on_error = is_behind.on_error ∙ stands.on_error ∙ sym same.error_is;
  on_end = is_behind.on_end ∙ stands.on_end ∙ sym same.end_is;
  slashed = is_behind.slashed_is ∙ sym now;
  place = λ none. is_behind.place_is (sym now ∙ none) ∙ sym there;
}

behind-goes : (item : items.Item) (input input' : InternalInput) (transfer : Transfer) (objects objects' : List Object) (stale : Option Transfer) (units : Units) (place : Place) (slashed : Bool) →
    SameNumbers input input' → StandsFor input transfer → input.slashed ≡ false → input'.slashed ≡ slashed → place_of input'.reading ≡ place →
    ItemGoesOn (taken_at item transfer objects stale units (file_of input.file) (place_of input.reading)) transfer objects' stale units (file_of input'.file) place slashed →
    GoesBehind (item_meant item transfer objects stale units) input' objects' stale units
behind-goes item input input' transfer objects objects' stale units place slashed same stands none now there goes = record {
  transfer = goes.transfer';
  stands = behind-stands input input' transfer goes.transfer' place slashed same stands goes.is_behind now there;
  goes_on = meant-is item input transfer objects stale units stands none ∙ goes.goes_on;
}

pub given-on : (item : items.Item) (input input' : InternalInput) (objects objects' : List Object) (place : Place) (found : Result ItemRead ItemEnd) → found ≡ Ok reads.Given → SameNumbers input input' →
    input.slashed ≡ false → input'.slashed ≡ false → place_of input'.reading ≡ place →
    ReadsItem item (place_of input.reading) place objects objects' (file_of input.file) (file_of input'.file) found → GivesItem item input input' objects objects' (Ok tt)
given-on item input input' objects objects' place found is same none now there read =
    let reads_it : ReadsItem item (place_of input.reading) place objects objects' (file_of input.file) (file_of input'.file) (Ok reads.Given) =
    subst (ReadsItem item (place_of input.reading) place objects objects' (file_of input.file) (file_of input'.file)) is read in
    record {
      replies = λ units transfer stands stale.
          behind-goes item input input' transfer objects objects' stale units place false same stands none now there
          (reads_it.replies units transfer stale stands.medium (stands.place none) (stands.slashed ∙ none));
      numbers = same;
    }

pub given-left : (item : items.Item) (input input' : InternalInput) (objects objects' : List Object) (place : Place) (found : Result ItemRead ItemEnd) → found ≡ Ok reads.Slashed → SameNumbers input input' →
    input.slashed ≡ false → input'.slashed ≡ true → place_of input'.reading ≡ place →
    ReadsItem item (place_of input.reading) place objects objects' (file_of input.file) (file_of input'.file) found → GivesItem item input input' objects objects' (Ok tt)
given-left item input input' objects objects' place found is same none now there read =
    let reads_it : ReadsItem item (place_of input.reading) place objects objects' (file_of input.file) (file_of input'.file) (Ok reads.Slashed) =
    subst (ReadsItem item (place_of input.reading) place objects objects' (file_of input.file) (file_of input'.file)) is read in
    record {
      replies = λ units transfer stands stale.
          behind-goes item input input' transfer objects objects' stale units place true same stands none now there
          (reads_it.replies units transfer stale stands.medium (stands.place none) (stands.slashed ∙ none));
      numbers = same;
    }

stopped : (item : items.Item) (input input' : InternalInput) (objects objects' : List Object) (place : Place) (file' : InternalFile) (end : ItemEnd) → SameNumbers input input' → input.slashed ≡ false →
    ReadsItem item (place_of input.reading) place objects objects' (file_of input.file) file' (Err end) → GivesItem item input input' objects objects' (Err end)
stopped item input input' objects objects' place file' (ends.Fault fault) same none reads_it = record {
  replies = λ units transfer stands stale.
      meant-is item input transfer objects stale units stands none ∙ reads_it.replies units transfer stale stands.medium (stands.place none) (stands.slashed ∙ none);
  numbers = same;
}
stopped item input input' objects objects' place file' (ends.Number number) same none reads_it = record {
  replies = λ units transfer stands stale.
      meant-is item input transfer objects stale units stands none ∙ reads_it.replies units transfer stale stands.medium (stands.place none) (stands.slashed ∙ none);
  numbers = same;
}

pub given-stops : (item : items.Item) (input input' : InternalInput) (objects objects' : List Object) (place : Place) (file' : InternalFile) (end : ItemEnd) (found : Result ItemRead ItemEnd) → found ≡ Err end →
    SameNumbers input input' → input.slashed ≡ false → ReadsItem item (place_of input.reading) place objects objects' (file_of input.file) file' found →
    GivesItem item input input' objects objects' (Err end)
given-stops item input input' objects objects' place file' end found is same none read =
    stopped item input input' objects objects' place file' end same none (subst (ReadsItem item (place_of input.reading) place objects objects' (file_of input.file) file') is read)

-- ## Items one after the other

-- the rest of the items is what is meant
pub record GoesFrom (list : ItemList) (input : InternalInput) (objects : List Object) (units : Units) (pointer : CValue) (left : ℕ) (stale : Option Transfer) (meaning : Or Reply) : Type 0 where
  pub transfer : Transfer
  pub stands : StandsFor input transfer
  pub rest : meaning ≡ items_meant list left pointer transfer objects stale units

-- some items have their values, and the next one stands at a place
pub record Giving (list : ItemList) (first : CValue) (input input' : InternalInput) (objects objects' : List Object) (place : CValue) (left : ℕ) : Type 0 where
  pub pointer : CValue
  pub at : StandsAt place pointer
  pub numbers : SameNumbers input input'
  pub goes : (units : Units) → (transfer : Transfer) → StandsFor input transfer → (stale : Option Transfer) →
      GoesFrom list input' objects' units pointer left stale (items_meant list list.count first transfer objects stale units)

pub giving-starts : (list : ItemList) (first : CValue) (input : InternalInput) (objects : List Object) (left : ℕ) → left ≡ list.count → Giving list first input input objects objects first left
giving-starts list first input objects left all = record {
  pointer = first;
  at = inl refl;
  numbers = record { error_is = refl; end_is = refl };
  goes = λ units transfer stands stale. record {
    transfer = transfer;
    stands = stands;
    rest = ap (λ (n : ℕ). items_meant list n first transfer objects stale units) (sym all);
  };
}

-- the first of the items that are left
abbrev item_in : ItemList → CValue → items.Item
item_in list place = record { kind = list.kind; pointer = place; size = list.size }

then-rest : (list : ItemList) (place pointer : CValue) (left less room : ℕ) (transfer : Transfer) (objects : List Object) (stale : Option Transfer) (units : Units) → left ≡ suc less → StandsAt place pointer →
    HasRoom room objects → room < 18446744073709551615 →
    items_meant list left pointer transfer objects stale units
    ≡ after (item_meant (item_in list place) transfer objects stale units)
    (λ passage. then_later passage λ changed after_it. each_item list.size (listed_item (kind_shown list.kind) list.size) less (shifted list.size pointer) changed after_it)
then-rest list place pointer left less room transfer objects stale units more at large below =
    ap (λ (n : ℕ). items_meant list n pointer transfer objects stale units) more
    ∙ ap (λ (one : Or Passage). after one (λ passage. then_later passage λ changed after_it. each_item list.size (listed_item (kind_shown list.kind) list.size) less (shifted list.size pointer) changed after_it))
    (sym (item-same (kind_shown list.kind) place pointer list.size room transfer (world_with objects stale units) large below at))

same-both : (first second third : InternalInput) → SameNumbers first second → SameNumbers second third → SameNumbers first third
same-both first second third one other = record { error_is = other.error_is ∙ one.error_is; end_is = other.end_is ∙ one.end_is }

pub giving-goes_on : (list : ItemList) (first : CValue) (input middle input' : InternalInput) (objects between objects' : List Object) (place next : CValue) (left less room : ℕ) →
    left ≡ suc less → next ≡ saturated (shifted list.size place) → HasRoom room between → room < 18446744073709551615 → Giving list first input middle objects between place left →
    GivesItem (item_in list place) middle input' between objects' (Ok tt) → Giving list first input input' objects objects' next less
giving-goes_on list first input middle input' objects between objects' place next left less room more moved large below giving gives = record {
  pointer = shifted list.size giving.pointer;
  at = stands-behind place next giving.pointer list.size moved giving.at;
  numbers = same-both input middle input' giving.numbers gives.numbers;
  goes = λ units transfer stands stale.
      let so_far : GoesFrom list middle between units giving.pointer left stale (items_meant list list.count first transfer objects stale units) = giving.goes units transfer stands stale in
      let gone : GoesBehind (item_meant (item_in list place) so_far.transfer between stale units) input' objects' stale units = gives.replies units so_far.transfer so_far.stands stale in
      record {
        transfer = gone.transfer;
        stands = gone.stands;
        rest = so_far.rest ∙ then-rest list place giving.pointer left less room so_far.transfer between stale units more giving.at large below
            ∙ known (item_meant (item_in list place) so_far.transfer between stale units) (GoesOn gone.transfer (world_with objects' stale units)) _ (sym gone.goes_on);
      };
}

pub giving-ends : (list : ItemList) (first : CValue) (input input' : InternalInput) (objects objects' : List Object) (place : CValue) (left : ℕ) → left ≡ 0 →
    Giving list first input input' objects objects' place left → GivesItems list first input input' objects objects' (Ok tt)
giving-ends list first input input' objects objects' place left none giving = record {
  replies = λ units transfer stands stale.
      let so_far : GoesFrom list input' objects' units giving.pointer left stale (items_meant list list.count first transfer objects stale units) = giving.goes units transfer stands stale in
      record {
        transfer = so_far.transfer;
        stands = so_far.stands;
        replies = so_far.rest ∙ ap (λ (n : ℕ). items_meant list n giving.pointer so_far.transfer objects' stale units) none;
      };
  numbers = giving.numbers;
}

pub giving-stops : (list : ItemList) (first : CValue) (input middle input' : InternalInput) (objects between objects' : List Object) (place : CValue) (left less room : ℕ) (end : ItemEnd) →
    left ≡ suc less → HasRoom room between → room < 18446744073709551615 → Giving list first input middle objects between place left →
    GivesItem (item_in list place) middle input' between objects' (Err end) → GivesItems list first input input' objects objects' (Err end)
giving-stops list first input middle input' objects between objects' place left less room (ends.Fault fault) more large below giving gives = record {
  replies = λ units transfer stands stale.
      let so_far : GoesFrom list middle between units giving.pointer left stale (items_meant list list.count first transfer objects stale units) = giving.goes units transfer stands stale in
      so_far.rest ∙ then-rest list place giving.pointer left less room so_far.transfer between stale units more giving.at large below
      ∙ faulty (item_meant (item_in list place) so_far.transfer between stale units) fault _ (sym (gives.replies units so_far.transfer so_far.stands stale));
  numbers = same-both input middle input' giving.numbers gives.numbers;
}
giving-stops list first input middle input' objects between objects' place left less room (ends.Number number) more large below giving gives = record {
  replies = λ units transfer stands stale.
      let so_far : GoesFrom list middle between units giving.pointer left stale (items_meant list list.count first transfer objects stale units) = giving.goes units transfer stands stale in
      so_far.rest ∙ then-rest list place giving.pointer left less room so_far.transfer between stale units more giving.at large below
      ∙ known (item_meant (item_in list place) so_far.transfer between stale units) _ _ (sym (gives.replies units so_far.transfer so_far.stands stale))
      ∙ ap (λ (n : ℤ). Ok (numbered number n so_far.transfer.on_end (world_with objects' None units))) (so_far.stands.on_error ∙ giving.numbers.error_is)
      ∙ ap (λ (n : ℤ). Ok (numbered number input.on_error n (world_with objects' None units))) (so_far.stands.on_end ∙ giving.numbers.end_is);
  numbers = same-both input middle input' giving.numbers gives.numbers;
}

-- ## The call

items-called : (objects : List Object) (units : Units) (input : InternalInput) (transfer : Transfer) (kind count first size : CValue) →
    library do_lio (world_with objects (Some (shown_by input transfer)) units) (kind ∷ count ∷ first ∷ size ∷ [])
    ≡ after (items_given objects kind count size)
    (λ given. each_item given.size (listed_item given.kind given.size) given.count first (shown_by input transfer) (world_with objects (Some (shown_by input transfer)) units))
unfolding library listed_items
items-called objects units input transfer kind count first size =
    sym (behind (number_through objects kind) _ _
    ∙ same-rest (number_through objects kind) _ _ (λ kind_number. behind (number_through objects count) _ _
    ∙ same-rest (number_through objects count) _ _ (λ count_number. behind (item_kind kind_number) _ _
    ∙ same-rest (item_kind kind_number) _ _ (λ one. behind (count_from count_number) _ _
    ∙ same-rest (count_from count_number) _ _ (λ number. behind (length_from size) _ _
    ∙ same-rest (length_from size) _ _ (λ given. behind (item_length one given) _ _))))))

called-by : (objects : List Object) (units : Units) (input : InternalInput) (transfer : Transfer) (kind count first size : CValue) → StandsFor input transfer →
    library do_lio (world_with objects (Some transfer) units) (kind ∷ count ∷ first ∷ size ∷ [])
    ≡ after (items_given objects kind count size) (λ given. each_item given.size (listed_item given.kind given.size) given.count first transfer (world_with objects (Some transfer) units))
called-by objects units input transfer kind count first size stands =
    ap (λ (one : Transfer). library do_lio (world_with objects (Some one) units) (kind ∷ count ∷ first ∷ size ∷ [])) (is-shown input transfer stands)
    ∙ items-called objects units input transfer kind count first size
    ∙ ap (λ (one : Transfer). after (items_given objects kind count size) (λ given. each_item given.size (listed_item given.kind given.size) given.count first one (world_with objects (Some one) units)))
    (sym (is-shown input transfer stands))

-- what the call replies whose items are known
called-list : (objects : List Object) (units : Units) (input : InternalInput) (transfer : Transfer) (kind count first size : CValue) (list : ItemList) → StandsFor input transfer →
    Ok (list_shown list) ≡ items_given objects kind count size →
    library do_lio (world_with objects (Some transfer) units) (kind ∷ count ∷ first ∷ size ∷ []) ≡ items_meant list list.count first transfer objects (Some transfer) units
called-list objects units input transfer kind count first size list stands is =
    called-by objects units input transfer kind count first size stands ∙ known (items_given objects kind count size) (list_shown list) _ is

pub call-goes : (kind count first size : CValue) (list : ItemList) (input input' : InternalInput) (objects objects' : List Object) →
    Ok (list_shown list) ≡ items_given objects kind count size → SameForms objects objects' → GivesItems list first input input' objects objects' (Ok tt) →
    AnswersItems (kind ∷ count ∷ first ∷ size ∷ []) input input' objects objects' (Ok passages.GoesOn)
call-goes kind count first size list input input' objects objects' is same gives = record {
  replies = λ units transfer stands.
      let stood : Stands (items_meant list list.count first transfer objects (Some transfer) units) objects' units input' = gives.replies units transfer stands (Some transfer) in
      record {
        transfer = stood.transfer;
        stands = stood.stands;
        replies = called-list objects units input transfer kind count first size list stands is ∙ stood.replies;
      };
  forms = same;
  no_device = tt;
}

number-reply : (number on_error on_end : ℤ) (objects : List Object) (units : Units) (input : InternalInput) →
    ItemsReply (Ok (numbered number on_error on_end (world_with objects None units))) objects units input (over_by (numbered_answer number on_error on_end))
number-reply number on_error on_end objects units input = by (int_eq (asked number on_error on_end) (pos 0))
  where
    by : (over : Bool) →
        ItemsReply (Ok (if over then Stops (Io number) (world_with objects None units) else Gives number (world_with objects None units))) objects units input
        (over_by (if over then Err (calls.Ended number) else Ok number))
    by true = refl
    by false = refl

number-no-device : (number on_error on_end : ℤ) → NoDevice (over_by (numbered_answer number on_error on_end))
number-no-device number on_error on_end = by (int_eq (asked number on_error on_end) (pos 0))
  where
    by : (over : Bool) → NoDevice (over_by (if over then Err (calls.Ended number) else Ok number))
    by true = tt
    by false = tt

ends-call : (kind count first size : CValue) (list : ItemList) (input input' : InternalInput) (objects objects' : List Object) (end : ItemEnd) →
    Ok (list_shown list) ≡ items_given objects kind count size → SameForms objects objects' → GivesItems list first input input' objects objects' (Err end) →
    AnswersItems (kind ∷ count ∷ first ∷ size ∷ []) input input' objects objects' (end_of input.on_error input.on_end end)
ends-call kind count first size list input input' objects objects' (ends.Fault fault) is same gives = record {
  replies = λ units transfer stands.
      called-list objects units input transfer kind count first size list stands is ∙ gives.replies units transfer stands (Some transfer);
  forms = same;
  no_device = tt;
}
ends-call kind count first size list input input' objects objects' (ends.Number number) is same gives = record {
  replies = λ units transfer stands.
      subst (λ (meaning : Or Reply). ItemsReply meaning objects' units input' (over_by (numbered_answer number input.on_error input.on_end)))
      (sym (called-list objects units input transfer kind count first size list stands is ∙ gives.replies units transfer stands (Some transfer)))
      (number-reply number input.on_error input.on_end objects' units input');
  forms = same;
  no_device = number-no-device number input.on_error input.on_end;
}

pub call-ends : (kind count first size : CValue) (list : ItemList) (input input' : InternalInput) (objects objects' : List Object) (end : ItemEnd) (on_error on_end : ℤ)
    (result : Result told.Passage CallEnd) → on_error ≡ input'.on_error → on_end ≡ input'.on_end → result ≡ end_of on_error on_end end →
    Ok (list_shown list) ≡ items_given objects kind count size → SameForms objects objects' → GivesItems list first input input' objects objects' (Err end) →
    AnswersItems (kind ∷ count ∷ first ∷ size ∷ []) input input' objects objects' result
call-ends kind count first size list input input' objects objects' end on_error on_end result error_is end_is said is same gives =
    subst (AnswersItems (kind ∷ count ∷ first ∷ size ∷ []) input input' objects objects')
    (sym (said ∙ ap (λ (n : ℤ). end_of n on_end end) (error_is ∙ gives.numbers.error_is) ∙ ap (λ (n : ℤ). end_of input.on_error n end) (end_is ∙ gives.numbers.end_is)))
    (ends-call kind count first size list input input' objects objects' end is same gives)

pub call-faulty : (kind count first size : CValue) (input : InternalInput) (objects : List Object) (fault : CFault) → SameForms objects objects →
    failing fault ≡ items_given objects kind count size → AnswersItems (kind ∷ count ∷ first ∷ size ∷ []) input input objects objects (Err (calls.Fault fault))
call-faulty kind count first size input objects fault same is = record {
  replies = λ units transfer stands. called-by objects units input transfer kind count first size stands ∙ faulty (items_given objects kind count size) fault _ is;
  forms = same;
  no_device = tt;
}
