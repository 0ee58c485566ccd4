-- What is said where no run begins, and the exit status.
use Rattle.std.specs.Prelude.{ℕ, List}
use Rattle.f2c_outside.specs.Shelf.{ShelfState}
use Rattle.shelf_texts.specs.Messages.{Said}
use Rattle.outcomes.specs.Lines.{bad_word_line, not_there_line, shelf_fault_line, no_memory_line}
use Rattle.run_messages.specs.RunLines.{not_c_line, link_line}
use Rattle.run_words.specs.declared.request.RunWordsFail.{RunWordsFail}
use Rattle.run_words.specs.declared.request.RunWordsFail.TheVariants as asked
use Rattle.program_loader.specs.declared.links.LoadFail.{LoadFail}
use Rattle.program_loader.specs.declared.links.LoadFail.TheVariants as loaded
use Rattle.c_sources.specs.declared.failing.CSourceFail.{CSourceFail}
use Rattle.c_sources.specs.declared.failing.CSourceFail.TheVariants.{NotThere, Unread, NotC, NoMemory}

-- the words ask for no run
abbrev pub SaysUnasked : List (List ℕ) → RunWordsFail → ShelfState → ShelfState → Type 0
SaysUnasked words (asked.BadWord number) b a = Said (bad_word_line words number) b a
SaysUnasked words asked.NoMemory b a = Said no_memory_line b a

abbrev pub unasked_status : RunWordsFail → ℕ
unasked_status (asked.BadWord number) = 2
unasked_status asked.NoMemory = 5

-- the C files are not read
abbrev pub SaysUnread : CSourceFail → ShelfState → ShelfState → Type 0
SaysUnread (NotThere name) b a = Said (not_there_line name) b a
SaysUnread (Unread place) b a = Said (shelf_fault_line place) b a
SaysUnread (NotC name line) b a = Said (not_c_line name line) b a
SaysUnread NoMemory b a = Said no_memory_line b a

abbrev pub unread_status : CSourceFail → ℕ
unread_status (NotThere name) = 3
unread_status (Unread place) = 3
unread_status (NotC name line) = 6
unread_status NoMemory = 5

-- they are not loaded
abbrev pub SaysUnloaded : LoadFail → ShelfState → ShelfState → Type 0
SaysUnloaded loaded.NoMemory b a = Said no_memory_line b a
SaysUnloaded (loaded.Link rule) b a = Said (link_line rule) b a

abbrev pub unloaded_status : LoadFail → ℕ
unloaded_status loaded.NoMemory = 5
unloaded_status (loaded.Link rule) = 6
