-- Each beginning of a fit script, over disks handed in as they have to be, can be ended, with clocks of 64 bits.
use Rattle.std.proofs.Common.{◌≡◌, ◌+◌, ◌-◌, ◌≤◌, ◌<◌, ◌^◌, ℕ, zero, suc, true, false, cond, List, [], ◌∷◌, ◌++◌, Option, None, Some}
use Rattle.std.proofs.Common.{is_some, refl, sym, ◌∙◌, ap, subst, arith}
use Rattle.std.specs.Prelude.{IsSomeAnd, IfSome, IsTrue}
use Rattle.std.specs.List.{All, AllByRecursion}
use Rattle.capability.specs.declared.Cap.{Cap}
use Rattle.eden_model.specs.Map.{with_item}
use Rattle.epl_syntax.specs.Edentype.{Edentype}
use Rattle.epl_syntax.specs.Meaning.{type_of}
use Rattle.epl_syntax.specs.Rules.OfTypes.{KeepRules, HaveMonitors}
use Rattle.passive_store.specs.Kept.{Layout}
use Rattle.passive_store.specs.Layout.{IsLayout}
use Rattle.journal.specs.declared.command.Command.{Command}
use Rattle.journal.specs.declared.command.Command.TheVariants as command
use Rattle.journal.specs.declared.command.Script.{Script}
use Rattle.journal.specs.declared.event.Key.{Key}
use Rattle.journal.specs.declared.event.Event.{Event}
use Rattle.journal.specs.declared.event.Event.TheVariants as event
use Rattle.journal.specs.declared.event.Entry.{Entry}
use Rattle.journal.specs.World.{World, Node, node_at}
use Rattle.journal.specs.Sites.{SoundWorld}
use Rattle.journal.specs.Enabled.{enabled}
use Rattle.journal.specs.Step.{Allows, next, key_of, counted, clocked, happened}
use Rattle.journal.specs.Standing.{DiskRun}
use Rattle.journal.specs.LegalRun.{AreHandedIn, opening_world}
use Rattle.journal.specs.Laws.{Begins, HasTurn, EnabledKeysHaveTurns, DownNodesRest}
use Rattle.journal.specs.Run.{Position, Due, boots, command_is, turn_is, turns, looks_up, waits_for, over, IsDue, IsDueBy, Leads, lead}
use Rattle.journal.specs.Run.{end_of, at_commands, beginning}
use Rattle.journal.specs.Run.{booting, going, walked, walking, sent_look_up, after_first, is_open_call, is_found, next_directory, looked_up}
use Rattle.history_laws.proofs.SoundWorld.{sound-next, sound-looked_up}
use Rattle.history_laws.proofs.EnabledRuns.{sound-opening-world}
use Rattle.runs.proofs.Counted.{turns-kept, types-next, look-up-kept}
use Rattle.trace_laws.specs.Determined.{HasClocks}
use Rattle.trace_laws.specs.Endings.{MayBoot}
use Rattle.trace_laws.proofs.Unmoved.{size_at, unmoved-looked_up}
use Rattle.trace_laws.proofs.LowClocks.{Low}
use Rattle.trace_laws.proofs.LowKept.{layout-next, size-next, low-next}
use Rattle.trace_laws.proofs.Nexts.{CanBoot, CanCarry, CanGo, due-next}
use Rattle.trace_laws.proofs.Endings.{GoesOn, CanEnd, can-end}

-- 1. What stays of a world

-- as in the first world: the types, the layout, which nodes there are and how long their disks are
pub record Stays (first w : World) : Type 0 where
  pub types : w.types ≡ first.types
  pub layout : w.layout ≡ first.layout
  pub sound : SoundWorld (λ n. is_some (node_at first n)) w
  pub sizes : (n : ℕ) → size_at w n ≡ size_at first n
  pub low : Low w

stays-next : (first w : World) (c : Option Command) (e : Entry) → Allows w c e → HasClocks e → Stays first w → Stays first (next w c e)
stays-next first w c e allowed clocks h = record {
  types = types-next w c e ∙ h.types;
  layout = layout-next w c e ∙ h.layout;
  sound = sound-next (λ n. is_some (node_at first n)) w c e allowed h.sound;
  sizes = λ n. size-next w c e n ∙ h.sizes n;
  low = low-next w c e clocks h.low;
}

stays-looked : (first w : World) (name : List ℕ) (target : Option Cap) (path : List (List ℕ)) (e : Entry)
    → IsDueBy w (looks_up name target path) e → Stays first w → Stays first (looked_up w name target path e.event)
stays-looked first w name target path e is h = let same = unmoved-looked_up w name target path e.event in record {
  types = ap (λ (x : ℕ × Option Key × List Edentype). x.2) (look-up-kept w name target path e.event) ∙ h.types;
  layout = same.layout ∙ h.layout;
  sound = sound-looked_up (λ n. is_some (node_at first n)) w name target path e.event is.0 h.sound;
  sizes = λ n. same.sizes n ∙ h.sizes n;
  low = λ n. subst (λ o. IfSome o (λ b. b < 2 ^ 64)) (sym (same.clocks n)) (h.low n);
}

-- 2. Which commands fit the first world

-- its type is there, or its node is and can be booted
abbrev pub FitsIn : World → Command → Type 0
FitsIn first (command.Create name n type_name) = IsTrue (is_some (type_of first.types type_name))
FitsIn first (command.Restart n) = MayBoot first n
FitsIn first _ = Unit {0}

abbrev pub AllFit : World → List Command → Type 0
AllFit first [] = Unit {0}
AllFit first (c ∷ cs) = FitsIn first c × AllFit first cs

-- one that gives one entry
abbrev IsOne : World → Command → Type 0
IsOne first (command.Turn i) = ⊥
IsOne first (command.Go n) = ⊥
IsOne first (command.Walk name target path) = ⊥
IsOne first c = FitsIn first c

abbrev pub DueFits : World → Due → Type 0
DueFits first (boots n more) = (m : ℕ) → n ≤ m → m ≤ n + more → MayBoot first m
DueFits first (command_is c) = IsOne first c
DueFits first _ = Unit {0}

pub record FitsAt (first : World) (p : Position) : Type 0 where
  pub stays : Stays first p.world
  pub due : DueFits first p.due
  pub left : AllFit first p.commands

fit-commands : (first w : World) (cs : List Command) → Stays first w → AllFit first cs → FitsAt first (at_commands w cs)
fit-commands first w [] s all = record { stays = s; due = tt; left = tt }
fit-commands first w (command.Create name n type_name ∷ cs) s all = record { stays = s; due = all.0; left = all.1 }
fit-commands first w (command.Hold name u ∷ cs) s all = record { stays = s; due = tt; left = all.1 }
fit-commands first w (command.Restrict name target mask ∷ cs) s all = record { stays = s; due = tt; left = all.1 }
fit-commands first w (command.Call name target operation args ∷ cs) s all = record { stays = s; due = tt; left = all.1 }
fit-commands first w (command.Walk name target path ∷ cs) s all = record { stays = s; due = tt; left = all.1 }
fit-commands first w (command.Turn i ∷ cs) s all = record { stays = s; due = tt; left = all.1 }
fit-commands first w (command.Go n ∷ cs) s all = record { stays = s; due = tt; left = all.1 }
fit-commands first w (command.Crash n mode ∷ cs) s all = record { stays = s; due = tt; left = all.1 }
fit-commands first w (command.Restart n ∷ cs) s all = record { stays = s; due = all.0; left = all.1 }
fit-commands first w (command.Cut a b ∷ cs) s all = record { stays = s; due = tt; left = all.1 }
fit-commands first w (command.Join a b ∷ cs) s all = record { stays = s; due = tt; left = all.1 }
fit-commands first w (command.Fail n after ∷ cs) s all = record { stays = s; due = tt; left = all.1 }
fit-commands first w (command.Stop n after mode ∷ cs) s all = record { stays = s; due = tt; left = all.1 }
fit-commands first w (command.End ∷ cs) s all = record { stays = s; due = tt; left = all.1 }

fit-booting : (first : World) (n more : ℕ) (w : World) (cs : List Command) → Stays first w
    → ((m : ℕ) → n ≤ m → m < n + more → MayBoot first m) → AllFit first cs → FitsAt first (booting n more w cs)
fit-booting first n zero w cs s each all = fit-commands first w cs s all
fit-booting first n (suc more) w cs s each all = record { stays = s; due = λ m low high. each m low (omega (arith, high)); left = all }

fit-going : (first : World) (k : Option Key) (n : ℕ) (w : World) (cs : List Command) → Stays first w → AllFit first cs
    → FitsAt first (going k n w cs)
fit-going first None n w cs s all = fit-commands first w cs s all
fit-going first (Some k) zero w cs s all = fit-commands first w cs s all
fit-going first (Some k) (suc n) w cs s all = record { stays = s; due = tt; left = all }

fit-walked : (first w : World) (name : List ℕ) (more : List (List ℕ)) (cs : List Command) → Stays first w → AllFit first cs
    → FitsAt first (walked w name more cs)
fit-walked first w name [] cs s all = fit-commands first w cs s all
fit-walked first w name (c ∷ more) cs s all = elim (is_found w name) as
    (λ b. FitsAt first (cond b (record { world = w; due = looks_up name (next_directory w name) (c ∷ more); commands = cs })
    (at_commands w cs)))
    [ true ↦ record { stays = s; due = tt; left = all } | false ↦ fit-commands first w cs s all ]

fit-walking : (first : World) (k : Option Key) (name : List ℕ) (call : ℕ) (more : List (List ℕ)) (w : World) (cs : List Command)
    → Stays first w → AllFit first cs → FitsAt first (walking k name call more w cs)
fit-walking first None name call more w cs s all = fit-commands first w cs s all
fit-walking first (Some key) name call more w cs s all = elim (is_open_call w call) as
    (λ b. FitsAt first (cond b (record { world = w; due = waits_for name call more; commands = cs }) (walked w name more cs)))
    [ true ↦ record { stays = s; due = tt; left = all } | false ↦ fit-walked first w name more cs s all ]

fit-sent : (first : World) (name : List ℕ) (more : List (List ℕ)) (e : Event) (w : World) (cs : List Command) → Stays first w
    → AllFit first cs → FitsAt first (sent_look_up name more e w cs)
fit-sent first name more (event.Asked k said None) w cs s all = record { stays = s; due = tt; left = all }
fit-sent first name more _ w cs s all = fit-commands first w cs s all

fit-led : (first w : World) (due : Due) (cs : List Command) (e : Entry) → IsDueBy w due e → HasClocks e → Stays first w → DueFits first due
    → AllFit first cs → FitsAt first (lead (record { world = w; due = due; commands = cs }) e)
fit-led first w (boots n more) cs e is clocks s due all = fit-booting first (n + 1) more (next w (Some (command.Restart n)) e) cs
    (stays-next first w (Some (command.Restart n)) e is clocks s) (λ m low high. due m (omega (arith, low)) (omega (arith, high))) all
fit-led first w (command_is c) cs e is clocks s due all =
    fit-commands first (next w (Some c) e) cs (stays-next first w (Some c) e is clocks s) all
fit-led first w (turn_is i) cs e is clocks s due all =
    fit-commands first (next w None e) cs (stays-next first w None e is.allowed clocks s) all
fit-led first w (turns n) cs e is clocks s due all =
    fit-going first (key_of e.event) (n - 1) (next w None e) cs (stays-next first w None e is.allowed clocks s) all
fit-led first w (looks_up name target path) cs e is clocks s due all =
    fit-sent first name (after_first path) e.event (looked_up w name target path e.event) cs
    (stays-looked first w name target path e is s) all
fit-led first w (waits_for name k path) cs e is clocks s due all =
    fit-walking first (key_of e.event) name k path (next w None e) cs (stays-next first w None e is.allowed clocks s) all
fit-led first w over cs e is clocks s due all = absurd is

-- 3. What is due can come

can-boot : (first w : World) (n : ℕ) → Stays first w → ((it : Node) → node_at w n ≡ Some it → it.up ≡ false → it.requests ≡ [])
    → MayBoot first n → CanBoot w n
can-boot first w n s rest h = go (node_at w n) refl (node_at first n) refl
  where
    fits : (it : Node) → node_at w n ≡ Some it → (o : Option Node) → node_at first n ≡ o → IsTrue (w.layout.allows it.size)
    fits it at None was = absurd (subst (λ o. IsSomeAnd o (λ it. IsTrue (first.layout.allows it.size))) was h)
    fits it at (Some old) was =
        let allowed : IsTrue (first.layout.allows old.size) = subst (λ o. IsSomeAnd o (λ it. IsTrue (first.layout.allows it.size))) was h in
        let size : Option Node → ℕ = λ o. with_item o (λ (it : Node). it.size) 0 in
        let same : it.size ≡ old.size = sym (ap size at) ∙ (s.sizes n ∙ ap size was) in
        subst (λ (l : Layout). IsTrue (l.allows it.size)) (sym s.layout) (subst (λ k. IsTrue (first.layout.allows k)) (sym same) allowed)

    go : (o : Option Node) → node_at w n ≡ o → (old : Option Node) → node_at first n ≡ old
        → IsSomeAnd o (λ it. it.up ≡ false → (it.requests ≡ []) × IsTrue (w.layout.allows it.size))
    go (Some it) at old was = λ down. (rest it at down, fits it at old was)
    go None at None was = absurd (subst (λ o. IsSomeAnd o (λ it. IsTrue (first.layout.allows it.size))) was h)
    go None at (Some old) was = let there : false ≡ true = sym (ap is_some at) ∙ (s.sound.place.present n ∙ ap is_some was) in cc there

can-carry : (first w : World) (c : Command) → Stays first w → ((n : ℕ) (it : Node) → node_at w n ≡ Some it → it.up ≡ false
    → it.requests ≡ []) → IsOne first c → CanCarry w c
can-carry first w (command.Create name n type_name) s rest h = subst (λ ts. IsTrue (is_some (type_of ts type_name))) (sym s.types) h
can-carry first w (command.Restart n) s rest h = can-boot first w n s (rest n) h
can-carry first w (command.Turn i) s rest h = h
can-carry first w (command.Go n) s rest h = h
can-carry first w (command.Walk name target path) s rest h = h
can-carry first w (command.Hold name u) s rest h = tt
can-carry first w (command.Restrict name target mask) s rest h = tt
can-carry first w (command.Call name target operation args) s rest h = tt
can-carry first w (command.Crash n mode) s rest h = tt
can-carry first w (command.Cut a b) s rest h = tt
can-carry first w (command.Join a b) s rest h = tt
can-carry first w (command.Fail n after) s rest h = tt
can-carry first w (command.Stop n after mode) s rest h = tt
can-carry first w command.End s rest h = tt

can-go : (first w : World) (d : Due) → Stays first w → ((n : ℕ) (it : Node) → node_at w n ≡ Some it → it.up ≡ false → it.requests ≡ [])
    → DueFits first d → (d ≡ over → ⊥) → CanGo w d
can-go first w (boots n more) s rest h left = can-boot first w n s (rest n) (h n (omega arith) (omega arith))
can-go first w (command_is c) s rest h left = can-carry first w c s rest h
can-go first w (turn_is i) s rest h left = tt
can-go first w (turns n) s rest h left = tt
can-go first w (looks_up name target path) s rest h left = tt
can-go first w (waits_for name k path) s rest h left = tt
can-go first w over s rest h left = left refl

-- 4. Positions on the way through a script

leads-more : (p : Position) (h : List Entry) (e : Entry) → Leads p h → IsDue (end_of p h) e → Leads p (h ++ (e ∷ []))
leads-more p [] e leads is = (is, tt)
leads-more p (x ∷ xs) e leads is = (leads.0, leads-more (lead p x) xs e leads.1 is)

end-more : (p : Position) (h : List Entry) (e : Entry) → end_of p (h ++ (e ∷ [])) ≡ lead (end_of p h) e
end-more p [] e = refl
end-more p (x ∷ xs) e = end-more (lead p x) xs e

pub record IsOnTheWay (layout : Layout) (script : Script) (disks : List DiskRun) (p : Position) : Type 0 where
  pub history : List Entry
  pub begins : Begins layout script disks history
  pub at : end_of (beginning (opening_world layout script disks) script.nodes script.commands) history ≡ p
  pub fits : FitsAt (opening_world layout script disks) p

-- what is asked of the script and the disks
pub record IsFitOver (layout : Layout) (script : Script) (disks : List DiskRun) : Type 0 where
  pub lays : IsLayout layout
  pub handed : AreHandedIn layout disks
  pub rules : KeepRules script.types
  pub monitors : HaveMonitors script.types
  pub nodes : (n : ℕ) → 1 ≤ n → n ≤ script.nodes → MayBoot (opening_world layout script disks) n
  pub commands : AllFit (opening_world layout script disks) script.commands
  -- no disk has a clock yet
  pub low : Low (opening_world layout script disks)

first-on : (layout : Layout) (script : Script) (disks : List DiskRun) → IsFitOver layout script disks
    → IsOnTheWay layout script disks (beginning (opening_world layout script disks) script.nodes script.commands)
first-on layout script disks fit = record {
  history = [];
  begins = tt;
  at = refl;
  fits = fit-booting (opening_world layout script disks) 1 script.nodes (opening_world layout script disks) script.commands
      (record {
        types = refl;
        layout = refl;
        sound = sound-opening-world layout script disks fit.lays fit.handed;
        sizes = λ n. refl;
        low = fit.low;
      })
      (λ m low high. fit.nodes m low (omega (arith, high))) fit.commands;
}

next-on : (layout : Layout) (script : Script) (disks : List DiskRun) (p : Position) (e : Entry) → IsOnTheWay layout script disks p
    → IsDue p e → HasClocks e → IsOnTheWay layout script disks (lead p e)
next-on layout script disks p e on is clocks =
    let first = opening_world layout script disks in
    let start = beginning first script.nodes script.commands in record {
      history = on.history ++ (e ∷ []);
      begins = leads-more start on.history e on.begins (subst (λ q. IsDue q e) (sym on.at) is);
      at = end-more start on.history e ∙ ap (λ q. lead q e) on.at;
      fits = fit-led first p.world p.due p.commands e is clocks on.fits.stays on.fits.due on.fits.left;
    }

turns-of : (o : Option Key) (k : Key) (w : World) → o ≡ Some k → (counted o w).turns ≡ w.turns + 1
turns-of None k w is = cc is
turns-of (Some j) k w is = refl

goes-on : EnabledKeysHaveTurns → DownNodesRest → (layout : Layout) (script : Script) (disks : List DiskRun) → IsFitOver layout script disks
    → GoesOn (IsOnTheWay layout script disks)
goes-on keys down layout script disks fit = record {
  has = λ p on left.
      let turned : All (HasTurn p.world) (enabled p.world) = subst (λ (q : Position). All (HasTurn q.world) (enabled q.world)) on.at
      (keys layout script disks on.history fit.lays fit.handed fit.rules fit.monitors on.begins) in
      let rest : (n : ℕ) (it : Node) → node_at p.world n ≡ Some it → it.up ≡ false → it.requests ≡ [] = λ n it at is.
      (down layout script disks on.history fit.lays fit.handed on.begins n it (ap (λ (q : Position). node_at q.world n) on.at
      ∙ at) is).no_request in
      let e = due-next p.world p.due on.fits.stays.low turned (can-go
      (opening_world layout script disks) p.world p.due on.fits.stays rest on.fits.due left) in
      (e.0, e.1, e.2, next-on layout script disks p e.0 on e.1 e.2);
  counts = λ w e k is. turns-of (key_of e.event) k (clocked e.node e.clock (happened w None e.event)) is
      ∙ ap (λ (x : ℕ × Option Key × List Edentype). x.0 + 1) (turns-kept w e);
}

on-behind : (layout : Layout) (script : Script) (disks : List DiskRun) (p : Position) (h : List Entry) → IsOnTheWay layout script disks p
    → Leads p h → AllByRecursion HasClocks h → IsOnTheWay layout script disks (end_of p h)
on-behind layout script disks p [] on leads clocks = on
on-behind layout script disks p (e ∷ es) on leads clocks =
    on-behind layout script disks (lead p e) es (next-on layout script disks p e on leads.0 clocks.0) leads.1 clocks.1

-- each beginning that follows so far, with clocks of 64 bits, can be ended
pub runs-can-end : EnabledKeysHaveTurns → DownNodesRest → (layout : Layout) (script : Script) (disks : List DiskRun)
    → IsFitOver layout script disks → (history : List Entry) → Begins layout script disks history → AllByRecursion HasClocks history
    → CanEnd (end_of (beginning (opening_world layout script disks) script.nodes script.commands) history)
runs-can-end keys down layout script disks fit history begins clocks =
    let start = beginning (opening_world layout script disks) script.nodes script.commands in
    can-end (IsOnTheWay layout script disks) (goes-on keys down layout script disks fit) (end_of start history)
    (on-behind layout script disks start history (first-on layout script disks fit) begins clocks)
