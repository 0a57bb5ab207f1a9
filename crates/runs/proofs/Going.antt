-- Turns where they are due, and a row of them.
use Rattle.std.proofs.Common.{◌≡◌, ◌≤◌, ◌+◌, ◌-◌, zero-add, subst, ℕ, zero, suc, Bool, true, false, List, Option, None, Some, refl, ◌∙◌, ap}
use Rattle.std.proofs.Common.{arith}
use Rattle.std.specs.Prelude.{is_some, Result, Ok, Err, OnOk, OnErr}
use Rattle.journal.specs.declared.command.Command.TheVariants as command
use Rattle.journal.specs.declared.command.Command.{Command}
use Rattle.journal.specs.declared.event.Entry.{Entry}
use Rattle.journal.specs.declared.event.Key.{Key}
use Rattle.journal.specs.World.{World}
use Rattle.journal.specs.Enabled.{following, item}
use Rattle.journal.specs.Step.{next, key_of}
use Rattle.journal.specs.Run.{Position, turns, turn_is, IsTurn, IsDue, lead, at_commands, going}
use Rattle.history_laws.proofs.Runs.{world-at_commands}
use Rattle.runs.specs.Runs.{Origin, IsOn, due_in, Took, TakesTurn, TurnFails, gone_on, DoesDue, PartOfDue, CarriesCommand, PartOfCommand}
use Rattle.runs.specs.declared.run.Choice.TheVariants.{Following, Item}
use Rattle.runs.specs.declared.run.Run.{Run}
use Rattle.runs.proofs.Leading.{on-push, ends-short}
use Rattle.runs.specs.Machines.{Stands, Did, Starved}

-- 1. A turn where it is due

world-gone : (b : Bool) (n : ℕ) (w : World) (cs : List Command) → (gone_on b n w cs).world ≡ w
world-gone true zero w cs = world-at_commands w cs
world-gone true (suc n) w cs = refl
world-gone false n w cs = world-at_commands w cs

going-gone : (o : Option Key) (n : ℕ) (w : World) (cs : List Command) → going o n w cs ≡ gone_on (is_some o) n w cs
going-gone None n w cs = refl
going-gone (Some k) zero w cs = refl
going-gone (Some k) (suc n) w cs = refl

module _ {M : Type 0} (stands : Stands M) (did : Did M) (o : Origin M) (others : ℕ) (old new : Run M) where
  pub on-took : (p q : Position) (choose : List Key → Option Key) (went : Bool) (e : Entry) → IsOn stands did o others old p
      → Took stands did others old new p.world choose went e → (IsTurn p.world choose e → IsDue p e) → lead p e ≡ q
      → q.world ≡ next p.world None e
      → IsOn stands did o others new q
  on-took p q choose went e on took due leads_to world = on-push stands did o others others old new p q (next p.world None e) e on
      (due took.turn) took.grew
      leads_to world took.stays took.does took.turns took.last took.again

  pub went-on : (w : World) (n : ℕ) (cs : List Command) (went : Bool) (e : Entry)
      → IsOn stands did o others old (due_in w (turns (suc n)) cs)
      → Took stands did others old new w (following w.last) went e → IsOn stands did o others new (gone_on went n (next w None e) cs)
  went-on w n cs went e on took = on-took (due_in w (turns (suc n)) cs) (gone_on went n (next w None e) cs)
      (following w.last) went e on took (λ t. t)
      (ap (λ m. going (key_of e.event) m (next w None e) cs) one_less ∙ going-gone (key_of e.event) n (next w None e) cs
      ∙ ap (λ b. gone_on b n (next w None e) cs) took.told) (world-gone went n (next w None e) cs)
    where
      one_less : suc n - 1 ≡ n
      one_less = omega arith

  pub turned : (w : World) (i : ℕ) (cs : List Command) (went : Bool) (e : Entry) → IsOn stands did o others old (due_in w (turn_is i) cs)
      → Took stands did others old new w (item i) went e → IsOn stands did o others new (at_commands (next w None e) cs)
  turned w i cs went e on took = on-took (due_in w (turn_is i) cs) (at_commands (next w None e) cs) (item i) went e on took (λ t. t) refl
      (world-at_commands (next w None e) cs)

-- 2. A row of turns of `go`

-- so many of the turns are left to take
abbrev pub IsGoing : {M : Type 0} → Stands M → Did M → Run M → Run M → ℕ → ℕ → Type 0
IsGoing stands did old now n left = (o : Origin _) (others : ℕ) (w : World) (cs : List Command)
    → IsOn stands did o others old (due_in w (turns n) cs)
    → (later : World) × IsOn stands did o others now (gone_on true left later cs)

module _ {M : Type 0} (stands : Stands M) (did : Did M) (old : Run M) (n : ℕ) where
  pub going-start : 1 ≤ n → IsGoing stands did old old n n
  going-start some o others w cs on = (w, go n some on)
    where
      go : (n : ℕ) → 1 ≤ n → IsOn stands did o others old (due_in w (turns n) cs) → IsOn stands did o others old (gone_on true n w cs)
      go zero some on = absurd (omega (arith, some))
      go (suc m) some on = on

  pub going-on : (mid new : Run M) (left : ℕ) → IsGoing stands did old mid n (suc left) → TakesTurn stands did mid new Following true
      → IsGoing stands did old new n left
  going-on mid new left g took o others w cs on =
      let r = g o others w cs on in
      let t = took o others (due_in r.0 (turns (suc left)) cs) r.1 in
      (next r.0 None t.0, went-on stands did o others mid new r.0 left cs true t.0 r.1 t.1)

  pub going-stop : (mid new : Run M) (left : ℕ) → IsGoing stands did old mid n (suc left) → TakesTurn stands did mid new Following false
      → DoesDue stands did old new (turns n)
  going-stop mid new left g took o others w cs on =
      let r = g o others w cs on in
      let t = took o others (due_in r.0 (turns (suc left)) cs) r.1 in
      (next r.0 None t.0, went-on stands did o others mid new r.0 left cs false t.0 r.1 t.1)

  pub going-end : (new : Run M) → IsGoing stands did old new n 0 → DoesDue stands did old new (turns n)
  going-end new g = g

  pub going-fails : (starved : Starved M) (mid new : Run M) (left : ℕ) → IsGoing stands did old mid n (suc left)
      → TurnFails stands did starved mid new → new.history.items ≡ mid.history.items → PartOfDue stands did starved old new (turns n)
  going-fails starved mid new left g fails same o others w cs on =
      let r = g o others w cs on in
      let here = due_in r.0 (turns (suc left)) cs in
      ends-short stands did o starved others others mid new here r.1 (omega arith) same (fails o others here r.1)

-- 3. The turn of the key at a place

module _ {M : Type 0} (stands : Stands M) (did : Did M) (old new : Run M) (i : ℕ) where
  pub turn-done : (went : Bool) → TakesTurn stands did old new (Item i) went → DoesDue stands did old new (turn_is i)
  turn-done went took o others w cs on =
      let t = took o others (due_in w (turn_is i) cs) on in
      (next w None t.0, turned stands did o others old new w i cs went t.0 on t.1)

  pub turn-fails : (starved : Starved M) → TurnFails stands did starved old new → new.history.items ≡ old.history.items
      → PartOfDue stands did starved old new (turn_is i)
  turn-fails starved fails same o others w cs on =
      ends-short stands did o starved others others old new (due_in w (turn_is i) cs) on (omega arith) same
      (fails o others (due_in w (turn_is i) cs) on)

-- 4. As commands: they need no room besides that of turns

no-room : {M : Type 0} (stands : Stands M) (did : Did M) (o : Origin M) (others : ℕ) (run : Run M) (p : Position)
    → IsOn stands did o (0 + others) run p → IsOn stands did o others run p
no-room stands did o others run p on = subst (λ n. IsOn stands did o n run p) (zero-add others) on

module _ {M : Type 0} (stands : Stands M) (did : Did M) (starved : Starved M) (old new : Run M) (n : ℕ) where
  pub go-part : {T E : Type 0} (r : Result T E) → OnErr r (1 ≤ n → PartOfDue stands did starved old new (turns n))
      → OnErr r (PartOfCommand stands did starved old new (command.Go n))
  go-part (Ok x) none = none
  go-part (Err e) part = λ o others w cs fit on. part fit.numbers.0 o others w cs (no-room stands did o others old _ on)

  pub turn-part : {T E : Type 0} (r : Result T E) → OnErr r (PartOfDue stands did starved old new (turn_is n))
      → OnErr r (PartOfCommand stands did starved old new (command.Turn n))
  turn-part (Ok x) none = none
  turn-part (Err e) part = λ o others w cs fit on. part o others w cs (no-room stands did o others old _ on)

module _ {M : Type 0} (stands : Stands M) (did : Did M) (old new : Run M) (n : ℕ) where
  pub go-command : {T E : Type 0} (r : Result T E) → OnOk r (1 ≤ n → DoesDue stands did old new (turns n))
      → OnOk r (CarriesCommand stands did old new (command.Go n))
  go-command (Ok x) does = λ o others w cs fit on. does fit.numbers.0 o others w cs (no-room stands did o others old _ on)
  go-command (Err e) none = none

  pub turn-command : {T E : Type 0} (r : Result T E) → OnOk r (DoesDue stands did old new (turn_is n))
      → OnOk r (CarriesCommand stands did old new (command.Turn n))
  turn-command (Ok x) does = λ o others w cs fit on. does o others w cs (no-room stands did o others old _ on)
  turn-command (Err e) none = none
