-- How many calls are asked meanwhile.
use Rattle.std.specs.Prelude.{◌≡◌, ◌≤◌, suc, length}
use Rattle.invocation.specs.Mail.{Mail}

-- none
abbrev pub AsksNone : Mail → Mail → Type 0
AsksNone old new = length new.calls ≡ length old.calls

-- one at most
abbrev pub AsksOneAtMost : Mail → Mail → Type 0
AsksOneAtMost old new = length new.calls ≤ suc (length old.calls)
