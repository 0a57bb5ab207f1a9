-- What a wrong entry refutes: every history that has it, however it begins there and goes on.
use Rattle.std.proofs.Common.{◌≡◌, ℕ, ◌+◌, List, [], ◌∷◌, ◌++◌, Option, None, Some, true, false}
use Rattle.eden_value.specs.Datum.{Datum, cap}
use Rattle.eden_model.specs.Traffic.{Place, answered}
use Rattle.journal.specs.declared.command.Command.{Command}
use Rattle.journal.specs.declared.event.Key.{Key}
use Rattle.journal.specs.declared.event.Entry.{Entry}
use Rattle.journal.specs.World.{World}
use Rattle.journal.specs.Run.{Position, IsDue, Leads, Follows, beginning, end_of, lead}

wrong-there : (p : Position) (before : List Entry) (wrong : Entry) (after : List Entry) → (IsDue (end_of p before) wrong → ⊥)
    → Leads p (before ++ wrong ∷ after) → ⊥
wrong-there p [] wrong after not_due leads = not_due leads.0
wrong-there p (e ∷ before) wrong after not_due leads = wrong-there (lead p e) before wrong after not_due leads.1

-- No history that begins with these entries, of which the last one is wrong, follows the script.
abbrev pub NotFollowed : World → ℕ → List Command → List Entry → Entry → Type 0
NotFollowed opening n cs before wrong = (after : List Entry) → Follows opening n cs (before ++ wrong ∷ after) → ⊥

-- An entry that is not due refutes them.
pub not-followed : (opening : World) (n : ℕ) (cs : List Command) (before : List Entry) (wrong : Entry)
    → (IsDue (end_of (beginning opening n cs) before) wrong → ⊥) → NotFollowed opening n cs before wrong
not-followed opening n cs before wrong not_due after follows = wrong-there (beginning opening n cs) before wrong after not_due follows.leads

pub none-some : {X : Type 0} {x : X} → None ≡ Some x → ⊥
none-some e = absurd (cc)

pub some-none : {X : Type 0} {x : X} → Some x ≡ None → ⊥
some-none e = absurd (cc)

pub false-true : false ≡ true → ⊥
false-true e = absurd (cc)

-- the kind and the process of a key, where there is one
abbrev pub kind_of : Option Key → ℕ
kind_of None = 0
kind_of (Some k) = k.kind

abbrev pub process_of : Option Key → ℕ
process_of None = 0
process_of (Some k) = k.process

-- the rights that an answer hands out, added up
abbrev pub rights_of : List Datum → ℕ
rights_of [] = 0
rights_of (cap (Some c) ∷ ds) = c.rights.bits + rights_of ds
rights_of (d ∷ ds) = rights_of ds

abbrev pub answered_rights : Place → ℕ
answered_rights (answered s ds) = rights_of ds
answered_rights _ = 0
