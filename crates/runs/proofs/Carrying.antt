-- Commands where they are due, all boots, and then all commands.
use Rattle.std.proofs.Common.{◌≡◌, ◌<◌, ◌≤◌, ℕ, suc, ◌+◌, ◌-◌, true, false, List, [], ◌∷◌, length, get_or, drop, drop-cons, add-one, Some}
use Rattle.std.proofs.Common.{refl, sym, ◌∙◌, ap, subst, arith}
use Rattle.std.specs.List.{All}
use Rattle.std.proofs.lemmas.List.Elements.{All-nil}
use Rattle.journal.specs.declared.command.Command.{Command}
use Rattle.journal.specs.declared.command.Command.TheVariants as command
use Rattle.journal.specs.declared.event.Entry.{Entry}
use Rattle.journal.specs.World.{World}
use Rattle.journal.specs.Fit.{IsFitCommand}
use Rattle.journal.specs.Step.{Allows, next}
use Rattle.journal.specs.Run.{Position, command_is, boots, IsDue, lead, Leads, end_of, steps, at_commands, booting, beginning}
use Rattle.journal.specs.Run.{most_turns}
use Rattle.history_laws.proofs.Runs.{world-at_commands, world-booting}
use Rattle.runs.specs.Machines.{Stands, Did, Starved}
use Rattle.runs.specs.Machines.{StandsWith, DidAll}
use Rattle.runs.specs.Room.{is_single, entries_of, entries_in}
use Rattle.runs.specs.Runs.{Origin, IsOn, due_in, TookCommand, TakesCommand, CommandFails, EndsShort, CarriesCommand, PartOfCommand}
use Rattle.runs.specs.Runs.{MayBegin}
use Rattle.runs.specs.Runs.{IsCutShort, CarriesAll, CarriesPart}
use Rattle.runs.specs.declared.run.Run.{Run}
use Rattle.runs.proofs.Leading.{on-push, ends-short, short-less}

-- 1. Commands of one entry

single-due : (w : World) (c : Command) (cs : List Command) → is_single c ≡ true → at_commands w (c ∷ cs) ≡ due_in w (command_is c) cs
single-due w (command.Go n) cs is = absurd (cc is)
single-due w (command.Turn i) cs is = absurd (cc is)
single-due w (command.Walk name target path) cs is = absurd (cc is)
single-due w _ cs is = refl

single-room : (c : Command) → is_single c ≡ true → entries_of c ≡ 1
single-room (command.Go n) is = absurd (cc is)
single-room (command.Turn i) is = absurd (cc is)
single-room (command.Walk name target path) is = absurd (cc is)
single-room _ is = refl

module _ {M : Type 0} (stands : Stands M) (did : Did M) where
  pub on-command : (o : Origin M) (others : ℕ) (old new : Run M) (p q : Position) (c : Command) (e : Entry)
      → IsOn stands did o (suc others) old p
      → TookCommand stands did others old new p.world c e → (Allows p.world (Some c) e → IsDue p e) → lead p e ≡ q
      → q.world ≡ next p.world (Some c) e
      → IsOn stands did o others new q
  on-command o others old new p q c e on took due leads_to world = on-push stands did o (suc others) others old new p q (next p.world
      (Some c) e) e on
      (due took.allowed) took.grew leads_to world took.stays took.does took.turns took.last
      (λ is. absurd (let bad : false ≡ true = sym took.again ∙ is in cc bad))

  module _ (old new : Run M) (c : Command) (single : is_single c ≡ true) where
    single-on : (o : Origin M) (others : ℕ) (w : World) (cs : List Command)
        → IsOn stands did o (entries_of c + others) old (at_commands w (c ∷ cs))
        → IsOn stands did o (suc others) old (due_in w (command_is c) cs)
    single-on o others w cs on = subst (λ n. IsOn stands did o n old (due_in w (command_is c) cs)) one_more
        (subst (IsOn stands did o (entries_of c + others) old) (single-due w c cs single) on)
      where
        one_more : entries_of c + others ≡ suc others
        one_more = omega (arith, single-room c single)

    pub carries-single : TakesCommand stands did old new c → CarriesCommand stands did old new c
    carries-single takes o others w cs fit on =
        let at = single-on o others w cs on in
        let here = due_in w (command_is c) cs in
        let t = takes o others here fit at in
        let later = next w (Some c) t.0 in
        (later, on-command o others old new here (at_commands later cs) c t.0 at t.1 (λ a. a) refl (world-at_commands later cs))

    pub fails-single : (starved : Starved M) → CommandFails stands did starved old new c → new.history.items ≡ old.history.items
        → PartOfCommand stands did starved old new c
    fails-single starved fails same o others w cs fit on =
        let at = single-on o others w cs on in
        let here = due_in w (command_is c) cs in
        ends-short stands did o starved (suc others) others old new here at (omega arith) same (fails o others here fit at)

-- 2. All boots, and all commands

module _ {M : Type 0} (stands : Stands M) (did : Did M) (starved : Starved M) (old : Run M) (nodes : ℕ)
    (cs : List Command) where
  abbrev pub origin : World → List (List ℕ) → Origin M
  origin opening types = record { first = old.machine; start = beginning opening nodes cs; types = types; nodes = nodes }

  -- some nodes are booted, and the others are left
  abbrev pub IsBooting : Run M → ℕ → Type 0
  IsBooting now done = (opening : World) (types : List (List ℕ)) (spare : ℕ) → MayBegin stands old opening types nodes cs spare
      → (later : World)
      × IsOn stands did (origin opening types) ((nodes - done) + (entries_in cs + spare)) now
      (booting (done + 1) (nodes - done) later cs)

  -- these commands are left
  abbrev pub IsCarrying : Run M → List Command → Type 0
  IsCarrying now left = (opening : World) (types : List (List ℕ)) (spare : ℕ) → MayBegin stands old opening types nodes cs spare
      → (later : World) × IsOn stands did (origin opening types) (entries_in left + spare) now (at_commands later left)

  pub booting-start : IsBooting old 0
  booting-start opening types spare at = let start = beginning opening nodes cs in (
    opening,
    record {
      reached = at.reached;
      leads = subst (Leads start) (sym at.history) tt;
      at = ap (end_of start) at.history ∙ ap (λ m. booting 1 m opening cs) all;
      machine = subst (StandsWith stands old.machine ((most_turns - old.turns) + ((nodes - 0) + (entries_in cs + spare))))
          (sym (world-booting 1 (nodes - 0) opening cs))
          (at.machine.0, omega (arith, at.machine.1), at.machine.2);
      came = subst (λ h. DidAll did old.machine (steps start h) old.machine) (sym at.history) refl;
      turns = ap (λ (w : World). w.turns) (world-booting 1 (nodes - 0) opening cs) ∙ at.turns.1 ∙ sym at.turns.0;
      last = ap (λ (w : World). w.last) (world-booting 1 (nodes - 0) opening cs) ∙ at.last.1 ∙ sym at.last.0;
      again = λ is. absurd (let bad : false ≡ true = sym at.again ∙ is in cc bad);
    },
  )
    where
      all : nodes ≡ nodes - 0
      all = omega arith

  restart-fits : (types : List (List ℕ)) (done : ℕ) → done < nodes → IsFitCommand types nodes (command.Restart (done + 1))
  restart-fits types done lt = record {
    numbers = (omega arith, omega (arith, lt));
    stations = tt;
    name = All-nil _;
    operation = All-nil _;
    path = tt;
    arguments = tt;
    type_is_known = All-nil _;
  }

  -- the next node is due
  boot-on : (now : Run M) (done : ℕ) (o : Origin M) (w : World) (spare : ℕ) → done < nodes
      → IsOn stands did o ((nodes - done) + (entries_in cs + spare)) now (booting (done + 1) (nodes - done) w cs)
      → IsOn stands did o (suc ((nodes - (done + 1)) + (entries_in cs + spare))) now
      (due_in w (boots (done + 1) (nodes - (done + 1))) cs)
  boot-on now done o w spare lt on = subst (λ n. IsOn stands did o n now (due_in w (boots (done + 1) (nodes - (done + 1))) cs)) fewer
      (subst (λ m. IsOn stands did o ((nodes - done) + (entries_in cs + spare)) now (booting (done + 1) m w cs)) more on)
    where
      more : nodes - done ≡ suc (nodes - (done + 1))
      more = omega (arith, lt)

      fewer : (nodes - done) + (entries_in cs + spare) ≡ suc ((nodes - (done + 1)) + (entries_in cs + spare))
      fewer = omega (arith, lt)

  pub booting-on : (mid new : Run M) (done : ℕ) → done < nodes → IsBooting mid done
      → TakesCommand stands did mid new (command.Restart (done + 1))
      → IsBooting new (done + 1)
  booting-on mid new done lt b takes opening types spare at =
      let o = origin opening types in
      let r = b opening types spare at in
      let others = (nodes - (done + 1)) + (entries_in cs + spare) in
      let here = due_in r.0 (boots (done + 1) (nodes - (done + 1))) cs in
      let on = boot-on mid done o r.0 spare lt r.1 in
      let t = takes o others here (restart-fits types done lt) on in
      let later = next r.0 (Some (command.Restart (done + 1))) t.0 in (
        later,
        on-command stands did o others mid new here (booting (done + 1 + 1) (nodes - (done + 1)) later cs)
            (command.Restart (done + 1)) t.0 on t.1
            (λ a. a) refl (world-booting (done + 1 + 1) (nodes - (done + 1)) later cs),
      )

  -- memory was wanting
  cut-short : (new : Run M) (opening : World) (types : List (List ℕ)) (others spare : ℕ) → spare ≤ others
      → EndsShort stands did starved (origin opening types) others new
      → IsCutShort stands did starved old.machine new opening nodes cs spare
  cut-short new opening types others spare enough short =
      let less = short-less stands did starved (origin opening types) others spare new enough short in
      record { begins = less.leads; came = less.came }

  pub booting-fails : (mid new : Run M) (done : ℕ) → done < nodes → IsBooting mid done
      → CommandFails stands did starved mid new (command.Restart (done + 1))
      → new.history.items ≡ mid.history.items → CarriesPart stands did starved old new nodes cs
  booting-fails mid new done lt b fails same opening types spare at =
      let o = origin opening types in
      let r = b opening types spare at in
      let others = (nodes - (done + 1)) + (entries_in cs + spare) in
      let here = due_in r.0 (boots (done + 1) (nodes - (done + 1))) cs in
      let on = boot-on mid done o r.0 spare lt r.1 in
      cut-short new opening types others spare (omega arith) (ends-short stands did o starved (suc others) others mid new here on (omega arith)
      same (fails o others here (restart-fits types done lt) on))

  pub carrying-start : (now : Run M) → IsBooting now nodes → IsCarrying now cs
  carrying-start now b opening types spare at = let r = b opening types spare at in (
    r.0,
    subst (λ n. IsOn stands did (origin opening types) n now (at_commands r.0 cs)) left
        (subst (λ m. IsOn stands did (origin opening types) ((nodes - nodes) + (entries_in cs + spare)) now
        (booting (nodes + 1) m r.0 cs)) none r.1),
  )
    where
      none : nodes - nodes ≡ 0
      none = omega arith

      left : (nodes - nodes) + (entries_in cs + spare) ≡ entries_in cs + spare
      left = omega arith

  -- the room of the next command, and the rest
  room-on : (mid : Run M) (o : Origin M) (c : Command) (left : List Command) (spare : ℕ) (p : Position)
      → IsOn stands did o (entries_in (c ∷ left) + spare) mid p → IsOn stands did o (entries_of c + (entries_in left + spare)) mid p
  room-on mid o c left spare p on = subst (λ n. IsOn stands did o n mid p) same on
    where
      same : (entries_of c + entries_in left) + spare ≡ entries_of c + (entries_in left + spare)
      same = omega arith

  carrying-on : (mid new : Run M) (c : Command) (left : List Command)
      → ((types : List (List ℕ)) → All (IsFitCommand types nodes) cs → IsFitCommand types nodes c)
      → IsCarrying mid (c ∷ left) → CarriesCommand stands did mid new c → IsCarrying new left
  carrying-on mid new c left fit k does opening types spare at = let r = k opening types spare at in
      does (origin opening types) (entries_in left + spare) r.0 left (fit types at.commands)
      (room-on mid (origin opening types) c left spare (at_commands r.0 (c ∷ left)) r.1)

  carrying-part : (mid new : Run M) (c : Command) (left : List Command)
      → ((types : List (List ℕ)) → All (IsFitCommand types nodes) cs → IsFitCommand types nodes c)
      → IsCarrying mid (c ∷ left) → PartOfCommand stands did starved mid new c → CarriesPart stands did starved old new nodes cs
  carrying-part mid new c left fit k part opening types spare at = let r = k opening types spare at in
      cut-short new opening types (entries_in left + spare) spare (omega arith)
      (part (origin opening types) (entries_in left + spare) r.0 left (fit types at.commands)
      (room-on mid (origin opening types) c left spare (at_commands r.0 (c ∷ left)) r.1))

  fit-at : (i : ℕ) (c : Command) → i < length cs → c ≡ get_or cs i c → (types : List (List ℕ)) → All (IsFitCommand types nodes) cs
      → IsFitCommand types nodes c
  fit-at i c lt is types all = subst (IsFitCommand types nodes) (sym is) (all i c lt)

  carrying-here : (mid : Run M) (i : ℕ) (c : Command) → i < length cs → c ≡ get_or cs i c → IsCarrying mid (drop i cs)
      → IsCarrying mid (c ∷ drop (suc i) cs)
  carrying-here mid i c lt is k = subst (IsCarrying mid) (drop-cons cs i c lt ∙ ap (λ x. x ∷ drop (suc i) cs) (sym is)) k

  pub carrying-at : (mid new : Run M) (i : ℕ) (c : Command) → i < length cs → c ≡ get_or cs i c → IsCarrying mid (drop i cs)
      → CarriesCommand stands did mid new c
      → IsCarrying new (drop (i + 1) cs)
  carrying-at mid new i c lt is k does = rw add-one (carrying-on mid new c (drop (suc i) cs) (fit-at i c lt is)
      (carrying-here mid i c lt is k) does)

  pub carrying-fails : (mid new : Run M) (i : ℕ) (c : Command) → i < length cs → c ≡ get_or cs i c → IsCarrying mid (drop i cs)
      → PartOfCommand stands did starved mid new c → CarriesPart stands did starved old new nodes cs
  carrying-fails mid new i c lt is k part = carrying-part mid new c (drop (suc i) cs) (fit-at i c lt is)
      (carrying-here mid i c lt is k) part

  pub carrying-end : (new : Run M) → IsCarrying new [] → CarriesAll stands did old new nodes cs
  carrying-end new k opening types spare at = let r = k opening types spare at in record {
    follows = record { leads = r.1.leads; whole = ap (λ (p : Position). p.due) r.1.at };
    came = r.1.came;
    stays = subst (λ (p : Position). StandsWith stands new.machine spare p.world) (sym r.1.at)
        (r.1.machine.0, omega (arith, r.1.machine.1), r.1.machine.2);
  }
