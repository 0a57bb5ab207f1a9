-- The numbers and the words of the statuses.
use Rattle.std.specs.Prelude.{ℕ, List, codes}
use Rattle.eden_value.specs.declared.status.Status.{Status}
use Rattle.eden_value.specs.declared.status.Status.TheVariants.{Ok, NoRight, NoOperation, BadArguments, Gone, Unreachable, Broken}
use Rattle.eden_value.specs.declared.status.Status.TheVariants.{StoreFault, Damaged, Dropped, Busy, TooLarge, Full, TooMany}
use Rattle.eden_value.specs.declared.status.Status.TheVariants.{SerialsSpent}

-- the number of each, as a program reads it
abbrev pub status_number : Status → ℕ
status_number Ok = 0
status_number NoRight = 1
status_number NoOperation = 2
status_number BadArguments = 3
status_number Gone = 4
status_number Unreachable = 5
status_number Broken = 6
status_number StoreFault = 7
status_number Damaged = 8
status_number Dropped = 9
status_number Busy = 10
status_number TooLarge = 11
status_number Full = 12
status_number TooMany = 13
status_number SerialsSpent = 14

-- the word of each, as it is printed
abbrev pub status_word : Status → List ℕ
status_word Ok = codes "ok"
status_word NoRight = codes "no right"
status_word NoOperation = codes "no operation"
status_word BadArguments = codes "bad arguments"
status_word Gone = codes "gone"
status_word Unreachable = codes "unreachable"
status_word Broken = codes "broken"
status_word StoreFault = codes "store fault"
status_word Damaged = codes "damaged"
status_word Dropped = codes "dropped"
status_word Busy = codes "busy"
status_word TooLarge = codes "too large"
status_word Full = codes "full"
status_word TooMany = codes "too many"
status_word SerialsSpent = codes "serials spent"
