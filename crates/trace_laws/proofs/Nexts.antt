-- What is due has an entry, with clocks of 64 bits.
use Rattle.std.proofs.Common.{◌≡◌, ℕ, List, [], Option, None, Some, refl, sym, subst, ◌∙◌, arith, Bool, true, false, inl, is_some}
use Rattle.std.specs.Prelude.{IsSomeAnd, IsTrue, Result, Ok, Err}
use Rattle.std.specs.List.{All, Contains}
use Rattle.std.proofs.lemmas.List.Elements.{All-contains}
use Rattle.capability.specs.declared.Uid.{Uid}
use Rattle.capability.specs.declared.Cap.{Cap}
use Rattle.eden_value.specs.Datum.{Datum}
use Rattle.eden_value.specs.declared.status.Status.{Status}
use Rattle.eden_value.specs.declared.status.Status.TheVariants as status
use Rattle.eden_disk.specs.declared.disk.Arm.TheVariants as arm
use Rattle.eden_model.specs.Traffic.{names_of, next_call}
use Rattle.epl_syntax.specs.Meaning.{type_of}
use Rattle.journal.specs.declared.command.Command.{Command}
use Rattle.journal.specs.declared.command.Command.TheVariants as command
use Rattle.journal.specs.declared.event.Key.{Key}
use Rattle.journal.specs.declared.event.Event.{Event}
use Rattle.journal.specs.declared.event.Event.TheVariants as event
use Rattle.journal.specs.declared.event.Entry.{Entry}
use Rattle.journal.specs.declared.event.BootEnd.TheVariants as boot_end
use Rattle.journal.specs.World.{World, Node, node_at, is_up, reaches}
use Rattle.journal.specs.References.{cap_at}
use Rattle.journal.specs.Processes.{refused_at_once}
use Rattle.journal.specs.Commands.{AllowsCommand, creation, ready_call, open_names, AllowsAsked}
use Rattle.journal.specs.Enabled.{enabled, item, following}
use Rattle.journal.specs.Step.{Allows, AllowsEvent, touched, breaks, StoreClock, key_of}
use Rattle.journal.specs.Laws.{HasTurn}
use Rattle.journal.specs.Run.{Due, boots, command_is, turn_is, turns, looks_up, waits_for, over, IsDueBy, IsTurn, IdleIf, idle, is_spent}
use Rattle.journal.specs.Run.{taken_key, lookup_args}
use Rattle.runs.proofs.Leading.{following-Contains, item-Contains}
use Rattle.trace_laws.specs.Determined.{HasClocks}
use Rattle.trace_laws.proofs.LowClocks.{Low, lowered, fitting, fits}

-- 1. Commands

-- what a command needs of the world to give an entry: a type that there is, or a node that can be booted
abbrev pub CanBoot : World → ℕ → Type 0
CanBoot w n = IsSomeAnd (node_at w n) (λ it. it.up ≡ false → (it.requests ≡ []) × IsTrue (w.layout.allows it.size))

abbrev pub CanCarry : World → Command → Type 0
CanCarry w (command.Create name n type_name) = IsTrue (is_some (type_of w.types type_name))
CanCarry w (command.Restart n) = CanBoot w n
CanCarry w (command.Turn i) = ⊥
CanCarry w (command.Go n) = ⊥
CanCarry w (command.Walk name target path) = ⊥
CanCarry w _ = Unit {0}

Some-of : World → Command → Type 0
Some-of w c = (v : Event) × AllowsCommand w c v × ((x : ℕ) → StoreClock w v x)

entry-of : (w : World) (c : Option Command) (v : Event) → AllowsEvent w c v → ((x : ℕ) → StoreClock w v x) → (e : Entry) × Allows w c e
entry-of w c v allowed store = (
  record { event = v; node = touched w v; clock = fitting w (touched w v); broken = names_of (breaks v) w.traffic },
  record { event = allowed; broken = refl; disk = refl; clock = fits w (touched w v); store_clock = store (fitting w (touched w v)) },
)

create-some : (w : World) (name : List ℕ) (n : ℕ) (type_name : List ℕ) → IsTrue (is_some (type_of w.types type_name))
    → Some-of w (command.Create name n type_name)
unfolding Some-of
create-some w name n type_name known = go (creation w n) refl
  where
    go : (r : Result Uid Status) → creation w n ≡ r → (v : Event) × AllowsCommand w (command.Create name n type_name) v × ((x : ℕ)
        → StoreClock w v x)
    go (Ok u) is = (event.Made name status.Ok (Some u), (refl, known, rw is (refl, refl)), λ x. tt)
    go (Err why) is = (event.Made name why None, (refl, known, rw is (refl, refl)), λ x. tt)

command-some : (w : World) (c : Command) → CanCarry w c → Some-of w c
unfolding Some-of
command-some w (command.Create name n type_name) h = create-some w name n type_name h
command-some w (command.Hold name u) h = (event.Bound name true, (refl, refl), λ x. tt)
command-some w (command.Restrict name target mask) h = go (cap_at w target) refl
  where
    go : (o : Option Cap) → cap_at w target ≡ o → (v : Event) × AllowsCommand w (command.Restrict name target mask) v × ((x : ℕ)
        → StoreClock w v x)
    go None is = (event.Void name, (refl, is), λ x. tt)
    go (Some c) is = (event.Bound name false, (refl, refl, rw is refl), λ x. tt)
command-some w (command.Call name target operation args) h = go (ready_call w (command.Call name target operation args)) refl
  where
    go : (o : Option (Cap × List Datum)) → ready_call w (command.Call name target operation args) ≡ o
        → (v : Event) × AllowsCommand w (command.Call name target operation args) v × ((x : ℕ) → StoreClock w v x)
    go None is = (event.Void name, (refl, is), λ x. tt)
    go (Some c) is = (
      event.Asked (next_call w.traffic) name (refused_at_once (reaches w 0 c.0.uid.node) c.1),
      (
        refl,
        subst (λ o. IsSomeAnd o (λ d. AllowsAsked w (next_call w.traffic) (refused_at_once (reaches w 0 c.0.uid.node) c.1) d.0 d.1))
            (sym is)
            (record { number = refl; refused = refl }),
      ),
      λ x. tt,
    )
command-some w (command.Crash n mode) h = go (is_up w n) refl
  where
    go : (b : Bool) → is_up w n ≡ b → (v : Event) × AllowsCommand w (command.Crash n mode) v × ((x : ℕ) → StoreClock w v x)
    go true is = (event.Crash n, (refl, is), λ x. tt)
    go false is = (event.Still n false, (refl, refl, is), λ x. tt)
command-some w (command.Restart n) h = go (node_at w n) refl h
  where
    by : (it : Node) → node_at w n ≡ Some it → (it.up ≡ false → (it.requests ≡ []) × IsTrue (w.layout.allows it.size)) → (b : Bool)
        → it.up ≡ b → (v : Event) × AllowsCommand w (command.Restart n) v × ((x : ℕ) → StoreClock w v x)
    by it at h true up = (event.Still n true, (refl, refl, rw at up), λ x. tt)
    by it at h false up = (
      event.Boot n 0 boot_end.DiskFault None false,
      (
        refl,
        rw at (record {
          is_down = up;
          no_requests = (h up).0;
          boots = inl (record { allowed = (h up).1; nothing = record { no_pick = refl; no_epoch = refl; not_begun = refl } });
        }),
      ),
      λ x. tt,
    )

    go : (o : Option Node) → node_at w n ≡ o → IsSomeAnd o (λ it. it.up ≡ false → (it.requests ≡ []) × IsTrue (w.layout.allows it.size))
        → (v : Event) × AllowsCommand w (command.Restart n) v × ((x : ℕ) → StoreClock w v x)
    go None at h = absurd h
    go (Some it) at h = by it at h it.up refl
command-some w (command.Cut a b) h = (event.Link a b false, (refl, refl, refl), λ x. tt)
command-some w (command.Join a b) h = (event.Link a b true, (refl, refl, refl), λ x. tt)
command-some w (command.Fail n k) h = (event.Armed n (arm.Fail k), (refl, refl), λ x. tt)
command-some w (command.Stop n k mode) h = (event.Armed n (arm.Stop k mode), (refl, refl), λ x. tt)
command-some w command.End h = (event.Left (open_names w), refl, λ x. tt)
command-some w (command.Turn i) h = absurd h
command-some w (command.Go n) h = absurd h
command-some w (command.Walk name target path) h = absurd h

pub command-next : (w : World) (c : Command) → Low w → CanCarry w c → (e : Entry) × Allows w (Some c) e × HasClocks e
unfolding Some-of
command-next w c low h = let s = command-some w c h in let e = entry-of w (Some c) s.0 s.1 s.2 in let f = lowered w (Some c) e.0 low e.1 in
    (f.0, f.1, f.3)

-- 2. Turns

idle-next : (w : World) (choose : List Key → Option Key) → taken_key w choose ≡ None → (e : Entry) × IsTurn w choose e × HasClocks e
idle-next w choose none = go (is_spent w) refl
  where
    made : (v : Event) → v ≡ idle w → key_of v ≡ None → AllowsEvent w None v → touched w v ≡ 0 → ((x : ℕ) → StoreClock w v x)
        → HasClocks (record { event = v; node = 0; clock = 0; broken = names_of (breaks v) w.traffic })
        → (e : Entry) × IsTurn w choose e × HasClocks e
    made v is key allowed off store low = (
      record { event = v; node = 0; clock = 0; broken = names_of (breaks v) w.traffic },
      record {
        key = key ∙ sym none;
        none_taken = subst (λ o. IdleIf o v w) (sym none) is;
        allowed = record { event = allowed; broken = refl; disk = sym off; clock = refl; store_clock = store 0 };
      },
      low,
    )

    go : (b : Bool) → is_spent w ≡ b → (e : Entry) × IsTurn w choose e × HasClocks e
    go true is = made event.Spent (rw is refl) refl tt refl (λ x. tt) (record { disk = omega arith; shown = omega arith })
    go false is = made event.Quiet (rw is refl) refl tt refl (λ x. tt) (record { disk = omega arith; shown = omega arith })

key-next : (w : World) (choose : List Key → Option Key) (k : Key) → Low w → All (HasTurn w) (enabled w) → taken_key w choose ≡ Some k
    → Contains (enabled w) k → (e : Entry) × IsTurn w choose e × HasClocks e
key-next w choose k low turned is there =
    let h = All-contains (HasTurn w) (enabled w) k turned there in
    let f = lowered w None h.entry low h.allowed in
    (f.0, record { key = f.2 ∙ (h.key ∙ sym is); none_taken = subst (λ o. IdleIf o f.0.event w) (sym is) tt; allowed = f.1 }, f.3)

turn-next : (w : World) (choose : List Key → Option Key) → Low w → All (HasTurn w) (enabled w)
    → ((k : Key) → choose (enabled w) ≡ Some k → Contains (enabled w) k) → (e : Entry) × IsTurn w choose e × HasClocks e
turn-next w choose low turned among = go (is_spent w) (choose (enabled w)) refl refl
  where
    go : (b : Bool) (o : Option Key) → is_spent w ≡ b → choose (enabled w) ≡ o → (e : Entry) × IsTurn w choose e × HasClocks e
    go true o is at = idle-next w choose (rw is refl)
    go false None is at = idle-next w choose (rw (is, at) refl)
    go false (Some k) is at = key-next w choose k low turned (rw (is, at) refl) (among k at)

-- 3. Whatever is due

abbrev pub CanGo : World → Due → Type 0
CanGo w (boots n more) = CanBoot w n
CanGo w (command_is c) = CanCarry w c
CanGo w over = ⊥
CanGo w _ = Unit {0}

look-up-next : (w : World) (name : List ℕ) (target : Option Cap) (cs : List (List ℕ))
    → (e : Entry) × IsDueBy w (looks_up name target cs) e × HasClocks e
look-up-next w name None cs = (
  record {
    event = event.Void name;
    node = 0;
    clock = 0;
    broken = [];
  },
  (refl, record { disk = refl; clock = refl; broken = refl }),
  record { disk = omega arith; shown = omega arith },
)
look-up-next w name (Some target) cs = (
  record {
    event = event.Asked (next_call w.traffic) name (refused_at_once (reaches w 0 target.uid.node) (lookup_args cs));
    node = 0;
    clock = 0;
    broken = [];
  },
  ((refl, record { number = refl; refused = refl }), record { disk = refl; clock = refl; broken = refl }),
  record {
    disk = omega arith;
    shown = omega arith;
  },
)

pub due-next : (w : World) (d : Due) → Low w → All (HasTurn w) (enabled w) → CanGo w d → (e : Entry) × IsDueBy w d e × HasClocks e
due-next w (boots n more) low turned h = command-next w (command.Restart n) low h
due-next w (command_is c) low turned h = command-next w c low h
due-next w (turn_is i) low turned h = turn-next w (item i) low turned (λ k is. item-Contains (enabled w) _ k is)
due-next w (turns n) low turned h = turn-next w (following w.last) low turned (λ k is. following-Contains w.last (enabled w) k is)
due-next w (looks_up name target cs) low turned h = look-up-next w name target cs
due-next w (waits_for name call cs) low turned h =
    turn-next w (following w.last) low turned (λ k is. following-Contains w.last (enabled w) k is)
due-next w over low turned h = absurd h
