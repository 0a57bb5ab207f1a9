-- A history is determined by its text.
use Rattle.std.proofs.Common.{◌≡◌, ℕ, zero, suc, ◌+◌, ◌-◌, List, [], ◌∷◌, ◌++◌, Option, None, Some, refl, ap, sym, subst, ◌∙◌, arith, Bool}
use Rattle.std.proofs.Common.{true, false, cond, inl, inr, is_some, append_assoc, append-nil, ◌≤◌, map}
use Rattle.std.specs.Prelude.{◌⊎◌}
use Rattle.std.specs.List.{All, AllByRecursion, flat_map}
use Rattle.std.proofs.lemmas.List.Elements.{recursion_from_All}
use Rattle.std.specs.Ordering.{nat_cmp, eq_by_cmp}
use Rattle.eden_model.specs.Map.{value_at}
use Rattle.passive_store.specs.Kept.{Layout}
use Rattle.passive_store.specs.Layout.{IsLayout}
use Rattle.journal.specs.declared.command.Command.{Command}
use Rattle.journal.specs.declared.command.Command.TheVariants as command
use Rattle.journal.specs.declared.command.Script.{Script}
use Rattle.journal.specs.declared.event.Key.{Key}
use Rattle.journal.specs.declared.event.Event.{Event}
use Rattle.journal.specs.declared.event.Event.TheVariants as event
use Rattle.journal.specs.declared.event.Entry.{Entry}
use Rattle.journal.specs.declared.event.Mode.TheVariants.{Full}
use Rattle.journal.specs.World.{World, Node, node_at}
use Rattle.journal.specs.Lines.{entry_text, text_of}
use Rattle.journal.specs.Sites.{SoundWorld}
use Rattle.journal.specs.Standing.{DiskRun}
use Rattle.journal.specs.LegalRun.{AreHandedIn, opening_world, numbered_from, images}
use Rattle.journal.specs.Opening.{node_of}
use Rattle.eden_model.proofs.Numbers.{same-true}
use Rattle.journal.specs.Step.{next, key_of}
use Rattle.journal.specs.Run.{Position, Due, boots, command_is, turn_is, turns, looks_up, waits_for, over, IsDueBy, Leads, Follows}
use Rattle.journal.specs.Run.{FollowsSoFar, beginning, lead}
use Rattle.journal.specs.Run.{end_of, at_commands, going, walked, walking, sent_look_up, after_first, is_open_call, is_found}
use Rattle.journal.specs.Run.{next_directory, looked_up}
use Rattle.history_laws.proofs.Runs.{world-booting, world-at_commands}
use Rattle.history_laws.proofs.SoundWorld.{sound-next, sound-looked_up}
use Rattle.history_laws.proofs.EnabledRuns.{sound-opening-world}
use Rattle.trace_laws.specs.Determined.{HasClocks, IsFront}
use Rattle.trace_laws.proofs.Texts.{past}
use Rattle.trace_laws.proofs.Entries.{entries-are-determined}

-- 1. Worlds stay sound

world-going : (k : Option Key) (n : ℕ) (w : World) (cs : List Command) → (going k n w cs).world ≡ w
world-going None n w cs = world-at_commands w cs
world-going (Some k) zero w cs = world-at_commands w cs
world-going (Some k) (suc n) w cs = refl

world-walked : (w : World) (name : List ℕ) (more : List (List ℕ)) (cs : List Command) → (walked w name more cs).world ≡ w
world-walked w name [] cs = world-at_commands w cs
world-walked w name (c ∷ more) cs = elim (is_found w name) as
    (λ b. (cond b (record { world = w; due = looks_up name (next_directory w name) (c ∷ more); commands = cs }) (at_commands w cs)).world
    ≡ w)
    [ true ↦ refl | false ↦ world-at_commands w cs ]

world-walking : (k : Option Key) (name : List ℕ) (call : ℕ) (more : List (List ℕ)) (w : World) (cs : List Command)
    → (walking k name call more w cs).world ≡ w
world-walking None name call more w cs = world-at_commands w cs
world-walking (Some key) name call more w cs = elim (is_open_call w call) as
    (λ b. (cond b (record { world = w; due = waits_for name call more; commands = cs }) (walked w name more cs)).world ≡ w)
    [ true ↦ refl | false ↦ world-walked w name more cs ]

world-sent : (name : List ℕ) (more : List (List ℕ)) (e : Event) (w : World) (cs : List Command) → (sent_look_up name more e w cs).world ≡ w
world-sent name more (event.Asked k said None) w cs = refl
world-sent name more _ w cs = world-at_commands w cs

sound-led : (H : ℕ → Bool) (w : World) (d : Due) (cs : List Command) (e : Entry) → IsDueBy w d e → SoundWorld H w
    → SoundWorld H (lead (record { world = w; due = d; commands = cs }) e).world
sound-led H w (boots n more) cs e is h = subst (SoundWorld H) (sym (world-booting (n + 1) more (next w (Some (command.Restart n)) e) cs))
    (sound-next H w (Some (command.Restart n)) e is h)
sound-led H w (command_is c) cs e is h =
    subst (SoundWorld H) (sym (world-at_commands (next w (Some c) e) cs)) (sound-next H w (Some c) e is h)
sound-led H w (turn_is i) cs e is h = subst (SoundWorld H) (sym (world-at_commands (next w None e) cs)) (sound-next H w None e is.allowed h)
sound-led H w (turns n) cs e is h =
    subst (SoundWorld H) (sym (world-going (key_of e.event) (n - 1) (next w None e) cs)) (sound-next H w None e is.allowed h)
sound-led H w (looks_up name target path) cs e is h =
    subst (SoundWorld H) (sym (world-sent name (after_first path) e.event (looked_up w name target path e.event) cs))
    (sound-looked_up H w name target path e.event is.0 h)
sound-led H w (waits_for name k path) cs e is h =
    subst (SoundWorld H) (sym (world-walking (key_of e.event) name k path (next w None e) cs)) (sound-next H w None e is.allowed h)
sound-led H w over cs e is h = absurd is

-- 2. Histories

no-zero : (H : ℕ → Bool) (w : World) → H 0 ≡ false → SoundWorld H w → node_at w 0 ≡ None
no-zero H w none h = go (node_at w 0) (h.place.present 0 ∙ none)
  where
    go : (o : Option Node) → is_some o ≡ false → o ≡ None
    go None x = refl
    go (Some it) x = absurd (cc x)

text-more : (e f : Entry) (es fs : List Entry) (rest later : List ℕ)
    → flat_map (entry_text Full) (e ∷ es) ++ rest ≡ flat_map (entry_text Full) (f ∷ fs) ++ later
    → entry_text Full e ++ (flat_map (entry_text Full) es ++ rest) ≡ entry_text Full f ++ (flat_map (entry_text Full) fs ++ later)
text-more e f es fs rest later t = sym (append_assoc (entry_text Full e) (flat_map (entry_text Full) es) rest)
    ∙ (t ∙ append_assoc (entry_text Full f) (flat_map (entry_text Full) fs) later)

fronts : (H : ℕ → Bool) (p : Position) (h g : List Entry) (rest later : List ℕ) → H 0 ≡ false → SoundWorld H p.world → Leads p h → Leads p g
    → AllByRecursion HasClocks h → AllByRecursion HasClocks g → flat_map (entry_text Full) h ++ rest ≡ flat_map (entry_text Full) g ++ later
    → IsFront h g ⊎ IsFront g h
fronts H p [] g rest later none s x y c d t = inl (g, refl)
fronts H p (e ∷ es) [] rest later none s x y c d t = inr (e ∷ es, refl)
fronts H p (e ∷ es) (f ∷ fs) rest later none s x y c d t =
    let u = text-more e f es fs rest later t in
    let first : e ≡ f = entries-are-determined p e f (flat_map (entry_text Full) es ++ rest) (flat_map (entry_text Full) fs ++ later)
    (no-zero H p.world none s) x.0 y.0 c.0 d.0 u in
    let left = past (entry_text Full f) (flat_map (entry_text Full) es ++ rest) (flat_map (entry_text Full) fs ++ later)
    (subst (λ z. entry_text Full z ++ (flat_map (entry_text Full) es ++ rest) ≡ entry_text Full f
    ++ (flat_map (entry_text Full) fs ++ later)) first u) in
    more e f es fs first (fronts H (lead p e) es fs rest later none (sound-led H p.world p.due p.commands e x.0 s) x.1
    (subst (λ z. Leads (lead p z) fs) (sym first) y.1) c.1 d.1 left)
  where
    more : (e f : Entry) (es fs : List Entry) → e ≡ f → IsFront es fs ⊎ IsFront fs es
        → IsFront (e ∷ es) (f ∷ fs) ⊎ IsFront (f ∷ fs) (e ∷ es)
    more e f es fs same (inl x) = let at : f ∷ fs ≡ e ∷ (es ++ x.0) = cc (same, x.1) in inl (x.0, at)
    more e f es fs same (inr x) = let at : e ∷ es ≡ f ∷ (fs ++ x.0) = cc (same, x.1) in inr (x.0, at)

-- nothing is due behind the end
nothing-behind : (p : Position) (h : List Entry) (e : Entry) (es : List Entry) → (end_of p h).due ≡ over → Leads p (h ++ (e ∷ es)) → ⊥
nothing-behind p [] e es end leads = subst (λ d. IsDueBy p.world d e) end leads.0
nothing-behind p (f ∷ fs) e es end leads = nothing-behind (lead p f) fs e es end leads.1

ends-alone : (p : Position) (h g more : List Entry) → (end_of p h).due ≡ over → Leads p g → g ≡ h ++ more → g ≡ h
ends-alone p h g [] end leads is = is ∙ append-nil h
ends-alone p h g (e ∷ es) end leads is = absurd (nothing-behind p h e es end (subst (Leads p) is leads))

-- the nodes are numbered from 1
unnumbered : (layout : Layout) (n : ℕ) (disks : List DiskRun) → 1 ≤ n
    → is_some (value_at nat_cmp 0 (map (λ d. (d.0, node_of layout d)) (images (numbered_from n disks)))) ≡ false
unnumbered layout n [] low = refl
unnumbered layout n (d ∷ disks) low = go (eq_by_cmp nat_cmp 0 n) refl (unnumbered layout (n + 1) disks (omega arith))
  where
    go : (b : Bool) → eq_by_cmp nat_cmp 0 n ≡ b
        → is_some (value_at nat_cmp 0 (map (λ d. (d.0, node_of layout d)) (images (numbered_from (n + 1) disks)))) ≡ false
        → is_some (value_at nat_cmp 0 (map (λ d. (d.0, node_of layout d)) (images (numbered_from n (d ∷ disks))))) ≡ false
    go true at behind = let same : 0 ≡ n = same-true 0 n at in absurd (omega (arith, same, low))
    go false at behind = rw at behind

pub histories-are-determined : (layout : Layout) (script : Script) (disks : List DiskRun) (h g : List Entry) (rest later : List ℕ)
    → IsLayout layout → AreHandedIn layout disks → FollowsSoFar (opening_world layout script disks) script.nodes script.commands h
    → FollowsSoFar (opening_world layout script disks) script.nodes script.commands g → All HasClocks h → All HasClocks g
    → text_of Full h ++ rest ≡ text_of Full g ++ later → IsFront h g ⊎ IsFront g h
histories-are-determined layout script disks h g rest later lays fits x y c d t =
    let o = opening_world layout script disks in
    let H : ℕ → Bool = λ n. is_some (node_at (opening_world layout script disks) n) in
    fronts H (beginning o script.nodes script.commands) h g rest later (unnumbered layout 1 disks (omega arith))
    (subst (SoundWorld H) (sym (world-booting 1 script.nodes o script.commands))
    (sound-opening-world layout script disks lays fits)) x y (recursion_from_All HasClocks h c) (recursion_from_All HasClocks g d) t

pub texts-have-one : (layout : Layout) (script : Script) (disks : List DiskRun) (h g : List Entry) → IsLayout layout
    → AreHandedIn layout disks → Follows (opening_world layout script disks) script.nodes script.commands h
    → Follows (opening_world layout script disks) script.nodes script.commands g → All HasClocks h → All HasClocks g
    → text_of Full h ≡ text_of Full g → h ≡ g
texts-have-one layout script disks h g lays fits x y c d t =
    go (histories-are-determined layout script disks h g [] [] lays fits x.leads y.leads c d (ap (λ z. z ++ []) t))
  where
    p : Position
    p = beginning (opening_world layout script disks) script.nodes script.commands

    go : IsFront h g ⊎ IsFront g h → h ≡ g
    go (inl z) = sym (ends-alone p h g z.0 x.whole y.leads z.1)
    go (inr z) = ends-alone p g h z.0 y.whole x.leads z.1
