-- A walk: a component is looked up, its answer is waited for, and the walk goes on.
use Rattle.std.proofs.Common.{◌≡◌, ◌≤◌, ◌<◌, ◌+◌, ℕ, suc, Bool, true, false, cond, List, [], ◌∷◌, ◌++◌, length, get_or, drop, drop-cons}
use Rattle.std.proofs.Common.{add-one, Option, None, Some}
use Rattle.std.proofs.Common.{refl, sym, ◌∙◌, ap, subst, arith}
use Rattle.std.specs.Prelude.{is_some, IfSome}
use Rattle.capability.specs.declared.Cap.{Cap}
use Rattle.eden_value.specs.Limits.{IsText}
use Rattle.eden_model.specs.Map.{with_item}
use Rattle.epl_syntax.specs.Edentype.{Edentype}
use Rattle.journal.specs.declared.command.Command.{Command}
use Rattle.journal.specs.declared.command.Command.TheVariants as command
use Rattle.journal.specs.declared.command.Ref.{Ref}
use Rattle.journal.specs.declared.event.Event.{Event}
use Rattle.journal.specs.declared.event.Event.TheVariants as event
use Rattle.journal.specs.declared.event.Entry.{Entry}
use Rattle.journal.specs.declared.event.Key.{Key}
use Rattle.journal.specs.World.{World}
use Rattle.journal.specs.References.{value_at_name, present_cap, cap_at}
use Rattle.journal.specs.Enabled.{following}
use Rattle.journal.specs.Fit.{IsFitCommand}
use Rattle.journal.specs.Step.{next, key_of}
use Rattle.journal.specs.Run.{looks_up, waits_for, AllowsLookUp, looked_up, sent_look_up, walking, walked, at_commands, components}
use Rattle.journal.specs.Run.{is_open_call, is_found, next_directory}
use Rattle.history_laws.proofs.Runs.{world-at_commands}
use Rattle.journal.proofs.FitValues.{components-are-texts}
use Rattle.runs.specs.Reached.{IsReached, IsNamed}
use Rattle.runs.specs.Machines.{Stands, Did, Starved}
use Rattle.runs.specs.Machines.{step, is_idle, LooksUp, StandsWith}
use Rattle.runs.specs.Runs.{Origin, room, IsOn, due_in, Took, TakesTurn, TurnFails, CarriesCommand, PartOfCommand}
use Rattle.runs.specs.Walks.{looking, sent, asking, Asks, AskFails, Waits, PartOfWait}
use Rattle.runs.specs.declared.run.Choice.TheVariants.{Following}
use Rattle.runs.specs.declared.run.Run.{Run}
use Rattle.runs.proofs.Counted.{look-up-kept}
use Rattle.runs.proofs.Leading.{less-room, on-push, on-less, on-reached, ends-short, failed-less, short-less}
use Rattle.runs.proofs.Going.{on-took}
use Rattle.runs.proofs.Parts.{one-component}

-- 1. A component is looked up

-- of the components left only the first is asked for
look-more : (w : World) (name : List ℕ) (target : Option Cap) (c : List ℕ) (more : List (List ℕ)) (e : Event)
    → looked_up w name target (c ∷ []) e ≡ looked_up w name target (c ∷ more) e
look-more w name (Some target) c more (event.Asked k said at_once) = refl
look-more w name target c more _ = refl

allows-more : (w : World) (name : List ℕ) (target : Option Cap) (c : List ℕ) (more : List (List ℕ)) (e : Event)
    → AllowsLookUp w name target (c ∷ []) e → AllowsLookUp w name target (c ∷ more) e
allows-more w name (Some target) c more (event.Asked k said at_once) allowed = allowed
allows-more w name None c more (event.Void said) allowed = allowed
allows-more w name target c more _ allowed = absurd allowed

busy-look-up : (w : World) (name : List ℕ) (target : Option Cap) (path : List (List ℕ)) (e : Event) → AllowsLookUp w name target path e
    → is_idle e ≡ false
busy-look-up w name (Some target) path (event.Asked k said at_once) allowed = refl
busy-look-up w name None path (event.Void said) allowed = refl
busy-look-up w name target path _ allowed = absurd allowed

sent-asking : (name : List ℕ) (more : List (List ℕ)) (e : Event) (w : World) (cs : List Command)
    → sent_look_up name more e w cs ≡ asking (sent e) w name more cs
sent-asking name more (event.Asked k said None) w cs = refl
sent-asking name more _ w cs = refl

world-asking : (call : Option ℕ) (w : World) (name : List ℕ) (more : List (List ℕ)) (cs : List Command)
    → (asking call w name more cs).world ≡ w
world-asking None w name more cs = world-at_commands w cs
world-asking (Some call) w name more cs = refl

module _ {M : Type 0} (stands : Stands M) (did : Did M) (o : Origin M) (others : ℕ) (old new : Run M) (w : World)
    (name : List ℕ) (directory : Option Cap) (c : List ℕ) (more : List (List ℕ)) (cs : List Command)
    (on : IsOn stands did o (suc others) old (due_in w (looks_up name directory (c ∷ more)) cs)) where
  pub asked-on : (e : Entry) → ((n : ℕ) → stands old.machine (suc n) w → LooksUp stands did old.machine new.machine n w name directory c e)
      → new.history.items ≡ old.history.items ++ e ∷ [] → new.turns ≡ old.turns → new.last ≡ old.last → new.again ≡ false
      → (later : World) × IsOn stands did o others new (asking (sent e.event) later name more cs)
  asked-on e asks grew same_turns same_last not_again = less-room stands old.machine (room new others) w
      ((later : World) × IsOn stands did o others new (asking (sent e.event) later name more cs))
      (on.machine.0, omega (arith, same_turns, on.machine.1), on.machine.2) (λ n le at. (later, one n le (asks n at)))
    where
      later : World
      later = looked_up w name directory (c ∷ more) e.event

      one : (n : ℕ) → room new others ≤ n → LooksUp stands did old.machine new.machine n w name directory c e
          → IsOn stands did o others new (asking (sent e.event) later name more cs)
      one n le looks = let kept = look-up-kept w name directory (c ∷ more) e.event in
          on-push stands did o (suc others) others old new (due_in w (looks_up name directory (c ∷ more)) cs)
          (asking (sent e.event) later name more cs) later e on
          (allows-more w name directory c more e.event looks.allowed, looks.touches_nothing) grew (sent-asking name more e.event later cs)
          (world-asking (sent e.event) later name more cs)
          (n, le, subst (stands new.machine n) (look-more w name directory c more e.event) looks.stays)
          (rw (busy-look-up w name directory (c ∷ []) e.event looks.allowed)
          (subst (λ v. did old.machine (step w e v) new.machine) (look-more w name directory c more e.event) looks.does))
          (ap (λ (x : ℕ × Option Key × List Edentype). x.0) kept ∙ on.turns ∙ sym same_turns)
          (ap (λ (x : ℕ × Option Key × List Edentype). x.1) kept ∙ on.last ∙ sym same_last)
          (λ is. absurd (let bad : false ≡ true = sym not_again ∙ is in cc bad))

-- 2. Its answer is waited for

world-walked : (w : World) (name : List ℕ) (more : List (List ℕ)) (cs : List Command) → (walked w name more cs).world ≡ w
world-walked w name [] cs = world-at_commands w cs
world-walked w name (c ∷ more) cs = elim (is_found w name) as
    (λ b. (cond b (record { world = w; due = looks_up name (next_directory w name) (c ∷ more); commands = cs }) (at_commands w cs)).world
    ≡ w)
    [ true ↦ refl | false ↦ world-at_commands w cs ]

world-walking : (k : Option Key) (name : List ℕ) (call : ℕ) (more : List (List ℕ)) (w : World) (cs : List Command)
    → (walking k name call more w cs).world ≡ w
world-walking None name call more w cs = world-at_commands w cs
world-walking (Some key) name call more w cs = elim (is_open_call w call) as
    (λ b. (cond b (record { world = w; due = waits_for name call more; commands = cs }) (walked w name more cs)).world ≡ w)
    [ true ↦ refl | false ↦ world-walked w name more cs ]

-- where a turn leads that took no key, and one that took one
walking-ended : (k : Option Key) (name : List ℕ) (call : ℕ) (more : List (List ℕ)) (w : World) (cs : List Command) → is_some k ≡ false
    → walking k name call more w cs ≡ at_commands w cs
walking-ended None name call more w cs is = refl
walking-ended (Some k) name call more w cs is = absurd (cc is)

walking-open : (k : Option Key) (name : List ℕ) (call : ℕ) (more : List (List ℕ)) (w : World) (cs : List Command) → is_some k ≡ true
    → is_open_call w call ≡ true → walking k name call more w cs ≡ due_in w (waits_for name call more) cs
walking-open None name call more w cs is on = absurd (cc is)
walking-open (Some k) name call more w cs is on = rw on refl

walking-came : (k : Option Key) (name : List ℕ) (call : ℕ) (more : List (List ℕ)) (w : World) (cs : List Command) → is_some k ≡ true
    → is_open_call w call ≡ false → walking k name call more w cs ≡ walked w name more cs
walking-came None name call more w cs is over = absurd (cc is)
walking-came (Some k) name call more w cs is over = rw over refl

-- the turns so far left the call open
abbrev pub IsWaiting : {M : Type 0} → Stands M → Did M → Run M → Run M → List ℕ → ℕ → Type 0
IsWaiting stands did old now name call = (o : Origin _) (others : ℕ) (w : World) (more : List (List ℕ)) (cs : List Command)
    → IsOn stands did o others old (due_in w (waits_for name call more) cs)
    → (later : World) × IsOn stands did o others now (due_in later (waits_for name call more) cs)

-- whether the call is open, in each world for which the machine stands
abbrev pub TellsOpen : {M : Type 0} → Stands M → M → ℕ → Bool → Type 0
TellsOpen stands m call open_ = (more : ℕ) (w : World) → IsReached w → stands m more w → open_ ≡ is_open_call w call

module _ {M : Type 0} (stands : Stands M) (did : Did M) (old : Run M) (name : List ℕ) (call : ℕ) where
  pub waiting-start : IsWaiting stands did old old name call
  waiting-start o others w more cs on = (w, on)

  module _ (mid new : Run M) (o : Origin M) (others : ℕ) (w : World) (more : List (List ℕ)) (cs : List Command)
      (on : IsOn stands did o others mid (due_in w (waits_for name call more) cs)) where
    waited : (went : Bool) (e : Entry) → Took stands did others mid new w (following w.last) went e
        → IsOn stands did o others new (walking (key_of e.event) name call more (next w None e) cs)
    waited went e took = on-took stands did o others mid new (due_in w (waits_for name call more) cs) _ (following w.last) went e on took
        (λ t. t) refl
        (world-walking (key_of e.event) name call more (next w None e) cs)

    tells : (went : Bool) (e : Entry) (open_ : Bool) → Took stands did others mid new w (following w.last) went e
        → TellsOpen stands new.machine call open_
        → is_open_call (next w None e) call ≡ open_
    tells went e open_ took told =
        let after = waited went e took in
        let here = world-walking (key_of e.event) name call more (next w None e) cs in
        sym (told took.stays.0 (next w None e) (subst IsReached here (on-reached stands did o others new _ after)) took.stays.2)

  pub waiting-on : (mid new : Run M) → IsWaiting stands did old mid name call → TakesTurn stands did mid new Following true
      → TellsOpen stands new.machine call true
      → IsWaiting stands did old new name call
  waiting-on mid new waits takes told o others w more cs on =
      let r = waits o others w more cs on in
      let t = takes o others (due_in r.0 (waits_for name call more) cs) r.1 in (
        next r.0 None t.0,
        subst (IsOn stands did o others new)
            (walking-open (key_of t.0.event) name call more (next r.0 None t.0) cs t.1.told
            (tells mid new o others r.0 more cs r.1 true t.0 true t.1 told))
            (waited mid new o others r.0 more cs r.1 true t.0 t.1),
      )

  pub waiting-came : (mid new : Run M) → IsWaiting stands did old mid name call → TakesTurn stands did mid new Following true
      → TellsOpen stands new.machine call false
      → Waits stands did old new name call true
  waiting-came mid new waits takes told o others w more cs on =
      let r = waits o others w more cs on in
      let t = takes o others (due_in r.0 (waits_for name call more) cs) r.1 in (
        next r.0 None t.0,
        subst (IsOn stands did o others new)
            (walking-came (key_of t.0.event) name call more (next r.0 None t.0) cs t.1.told
            (tells mid new o others r.0 more cs r.1 true t.0 false t.1 told))
            (waited mid new o others r.0 more cs r.1 true t.0 t.1),
      )

  pub waiting-ended : (mid new : Run M) → IsWaiting stands did old mid name call → TakesTurn stands did mid new Following false
      → Waits stands did old new name call false
  waiting-ended mid new waits takes o others w more cs on =
      let r = waits o others w more cs on in
      let t = takes o others (due_in r.0 (waits_for name call more) cs) r.1 in (
        next r.0 None t.0,
        subst (IsOn stands did o others new)
            (walking-ended (key_of t.0.event) name call more (next r.0 None t.0) cs t.1.told)
            (waited mid new o others r.0 more cs r.1 false t.0 t.1),
      )

  pub waiting-fails : (starved : Starved M) (mid new : Run M) → IsWaiting stands did old mid name call
      → TurnFails stands did starved mid new
      → new.history.items ≡ mid.history.items → PartOfWait stands did starved old new name call
  waiting-fails starved mid new waits fails same o others w more cs on =
      let r = waits o others w more cs on in
      let here = due_in r.0 (waits_for name call more) cs in
      ends-short stands did o starved others others mid new here r.1 (omega arith) same (fails o others here r.1)

-- 3. The walk

-- what a value of the script is, is named there
named-cap : (w : World) (name : List ℕ) (k : ℕ) (c : Option Cap) → with_item (value_at_name w name k) present_cap None ≡ c
    → IfSome c (IsNamed w)
named-cap w name k None is = tt
named-cap w name k (Some c) is = (name, k, is)

-- what the machine tells of every world for which it stands
abbrev pub Tells : {M X : Type 0} → Stands M → M → X → (World → X) → Type 0
Tells stands m x f = (more : ℕ) (w : World) → IsReached w → stands m more w → x ≡ f w

module _ {M : Type 0} (stands : Stands M) (did : Did M) (starved : Starved M) (old : Run M)
    (name : List ℕ) (target : Ref) (path : List ℕ) where
  -- these components are left
  abbrev pub IsLooking : Run M → Option Cap → List (List ℕ) → Type 0
  IsLooking now directory left = (o : Origin M) (others : ℕ) (w : World) (cs : List Command)
      → IsFitCommand o.types o.nodes (command.Walk name target path)
      → IsOn stands did o (length (components path) + others) old (due_in w (looks_up name (cap_at w target) (components path)) cs)
      → (later : World) × IfSome directory (IsNamed later) × IsOn stands did o (length left + others) now
      (looking later name directory left cs)

  pub looking-start : (directory : Option Cap) → Tells stands old.machine directory (λ w. cap_at w target)
      → IsLooking old directory (components path)
  looking-start directory told o others w cs fit on =
      let here = on-reached stands did o (length (components path) + others) old _ on in
      let is = told on.machine.0 w here on.machine.2 in (
        w,
        named-cap w target.name target.result directory (sym is),
        subst (λ d. IsOn stands did o (length (components path) + others) old (looking w name d (components path) cs)) (sym is)
            (one-component path (λ parts. IsOn stands did o (length (components path) + others) old (due_in w (looks_up name
            (cap_at w target) parts) cs)
            → IsOn stands did o (length (components path) + others) old (looking w name (cap_at w target) parts cs)) (λ c more h. h) on),
      )

  -- one of them is next
  module _ (mid : Run M) (directory : Option Cap) (i : ℕ) (c : List ℕ) (lt : i < length (components path))
      (is : c ≡ get_or (components path) i c)
      (looks : IsLooking mid directory (drop i (components path))) where
    abbrev left : List (List ℕ)
    left = drop (suc i) (components path)

    its-text : (o : Origin M) → IsFitCommand o.types o.nodes (command.Walk name target path) → IsText c
    its-text o fit = subst IsText (sym is) (components-are-texts path fit.path i c lt)

    next-asked : (o : Origin M) (others : ℕ) (w : World) (cs : List Command) → IsFitCommand o.types o.nodes (command.Walk name target path)
        → IsOn stands did o (length (components path) + others) old (due_in w (looks_up name (cap_at w target) (components path)) cs)
        → (later : World) × IfSome directory (IsNamed later) × IsOn stands did o (suc (length left + others)) mid (due_in later
        (looks_up name directory (c ∷ left)) cs)
    next-asked o others w cs fit on =
        let r = looks o others w cs fit on in
        let parts : drop i (components path) ≡ c ∷ left = drop-cons (components path) i c lt ∙ ap (λ x. x ∷ left) (sym is) in
        let count : length (c ∷ left) + others ≡ suc (length left + others) = omega arith in (
          r.0,
          r.1,
          subst (λ n. IsOn stands did o n mid (due_in r.0 (looks_up name directory (c ∷ left)) cs)) count
              (subst (λ x. IsOn stands did o (length x + others) mid (looking r.0 name directory x cs)) parts r.2),
        )

    pub looking-fails : (new : Run M) → AskFails stands did starved mid new name directory c → new.history.items ≡ mid.history.items
        → PartOfCommand stands did starved old new (command.Walk name target path)
    looking-fails new fails same o others w cs fit on =
        let r = next-asked o others w cs fit on in
        ends-short stands did o starved (suc (length left + others)) others mid new _ r.2 (omega arith) same
        (failed-less starved (length left + others) others mid.machine new.machine r.0 (omega arith)
        (fails o (length left + others) r.0 left cs r.1 (its-text o fit) r.2))

    pub looking-over : (new : Run M) → Asks stands did mid new name directory c None
        → CarriesCommand stands did old new (command.Walk name target path)
    looking-over new asks o others w cs fit on =
        let r = next-asked o others w cs fit on in
        let a = asks o (length left + others) r.0 left cs r.1 (its-text o fit) r.2 in
        (a.0, on-less stands did o (length left + others) others new _ (omega arith) a.1)

    -- the call is sent
    module _ (sent_ : Run M) (call : ℕ) (asks : Asks stands did mid sent_ name directory c (Some call)) where
      call-sent : (o : Origin M) (others : ℕ) (w : World) (cs : List Command) → IsFitCommand o.types o.nodes (command.Walk name target path)
          → IsOn stands did o (length (components path) + others) old (due_in w (looks_up name (cap_at w target) (components path)) cs)
          → (later : World) × IsOn stands did o (length left + others) sent_ (due_in later (waits_for name call left) cs)
      call-sent o others w cs fit on =
          let r = next-asked o others w cs fit on in
          asks o (length left + others) r.0 left cs r.1 (its-text o fit) r.2

      pub waits-part : (new : Run M) → PartOfWait stands did starved sent_ new name call
          → PartOfCommand stands did starved old new (command.Walk name target path)
      waits-part new part o others w cs fit on =
          let r = call-sent o others w cs fit on in
          short-less stands did starved o (length left + others) others new (omega arith)
          (part o (length left + others) r.0 left cs r.1)

      pub waits-over : (new : Run M) → Waits stands did sent_ new name call false
          → CarriesCommand stands did old new (command.Walk name target path)
      waits-over new waits o others w cs fit on =
          let r = call-sent o others w cs fit on in
          let a = waits o (length left + others) r.0 left cs r.1 in
          (a.0, on-less stands did o (length left + others) others new _ (omega arith) a.1)

      module _ (new : Run M) (waits : Waits stands did sent_ new name call true) where
        -- the answer came, and tells whether something was found
        answer : (o : Origin M) (others : ℕ) (w : World) (cs : List Command) → IsFitCommand o.types o.nodes (command.Walk name target path)
            → IsOn stands did o (length (components path) + others) old (due_in w (looks_up name (cap_at w target) (components path)) cs)
            → (later : World) × IsReached later × StandsWith stands new.machine 0 later × IsOn stands did o (length left + others) new
            (walked later name left cs)
        answer o others w cs fit on =
            let r = call-sent o others w cs fit on in
            let a = waits o (length left + others) r.0 left cs r.1 in
            let here = world-walked a.0 name left cs in (
              a.0,
              subst IsReached here (on-reached stands did o (length left + others) new _ a.1),
              (a.1.machine.0, omega arith, subst (stands new.machine a.1.machine.0) here a.1.machine.2),
              a.1,
            )

        lost : (w : World) (more : List (List ℕ)) (cs : List Command) → is_found w name ≡ false → walked w name more cs ≡ at_commands w cs
        lost w [] cs gone = refl
        lost w (x ∷ more) cs gone = rw gone refl

        found : (w : World) (more : List (List ℕ)) (cs : List Command) → is_found w name ≡ true
            → walked w name more cs ≡ looking w name (next_directory w name) more cs
        found w [] cs is = refl
        found w (x ∷ more) cs is = rw is refl

        pub walk-lost : Tells stands new.machine false (λ w. is_found w name)
            → CarriesCommand stands did old new (command.Walk name target path)
        walk-lost told o others w cs fit on =
            let a = answer o others w cs fit on in (
              a.0,
              on-less stands did o (length left + others) others new _ (omega arith)
                  (subst (IsOn stands did o (length left + others) new) (lost a.0 left cs (sym (told a.2.0 a.0 a.1 a.2.2))) a.3),
            )

        pub walk-on : (next_one : Option Cap) → Tells stands new.machine true (λ w. is_found w name)
            → Tells stands new.machine next_one (λ w. next_directory w name) → IsLooking new next_one (drop (i + 1) (components path))
        walk-on next_one told told_next o others w cs fit on =
            let a = answer o others w cs fit on in
            let is_next = told_next a.2.0 a.0 a.1 a.2.2 in
            let done = subst (IsOn stands did o (length left + others) new) (found a.0 left cs (sym (told a.2.0 a.0 a.1 a.2.2))) a.3 in (
              a.0,
              named-cap a.0 name 2 next_one (sym is_next),
              rw add-one
                  (subst (λ d. IsOn stands did o (length left + others) new (looking a.0 name d left cs)) (sym is_next) done),
            )

  pub looking-end : (new : Run M) (directory : Option Cap) → IsLooking new directory []
      → CarriesCommand stands did old new (command.Walk name target path)
  looking-end new directory looks o others w cs fit on = let r = looks o others w cs fit on in
      (r.0, on-less stands did o (0 + others) others new _ (omega arith) r.2)

-- an item of parts is one of the components
pub at-part : (parts : List (List ℕ)) (path : List ℕ) (i : ℕ) (c : List ℕ) → parts ≡ components path → i < length parts
    → c ≡ get_or parts i c
    → (i < length (components path)) × (c ≡ get_or (components path) i c)
at-part parts path i c same lt is = (
  subst (λ (x : List (List ℕ)). i < length x) same lt,
  subst (λ (x : List
      (List ℕ)). c ≡ get_or x i c) same is,
)
