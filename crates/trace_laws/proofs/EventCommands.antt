-- What a command gives: the same event, up to what a disk decides in a boot.
use Rattle.std.proofs.Common.{◌≡◌, ℕ, List, Option, None, Some, refl, ap, sym, subst, ◌∙◌, Bool, true, false, inl, inr, is_some}
use Rattle.std.specs.Prelude.{IsSomeAnd, IsTrue, ◌⊎◌, Result, Ok, Err}
use Rattle.capability.specs.declared.Uid.{Uid}
use Rattle.capability.specs.declared.Cap.{Cap}
use Rattle.capability.specs.declared.Rights.{Rights}
use Rattle.eden_disk.specs.declared.disk.ImageMode.{ImageMode}
use Rattle.eden_disk.specs.declared.disk.Arm.TheVariants as arm
use Rattle.eden_value.specs.Datum.{Datum}
use Rattle.eden_value.specs.declared.status.Status.{Status}
use Rattle.eden_model.specs.Map.{with_item}
use Rattle.passive_store.specs.declared.store.Pick.{Pick}
use Rattle.journal.specs.Argument.{Argument}
use Rattle.journal.specs.declared.command.Ref.{Ref}
use Rattle.journal.specs.declared.command.Command.{Command}
use Rattle.journal.specs.declared.command.Command.TheVariants as command
use Rattle.journal.specs.declared.event.Event.{Event}
use Rattle.journal.specs.declared.event.Event.TheVariants as event
use Rattle.journal.specs.declared.event.BootEnd.{BootEnd}
use Rattle.journal.specs.World.{World, Node, node_at, site_of, site_at, is_up}
use Rattle.journal.specs.Boots.{AllowsBoot}
use Rattle.journal.specs.References.{cap_at}
use Rattle.journal.specs.Commands.{AllowsCommand, IsCreation, creation, AllowsAsked, ready_call, open_names}
use Rattle.trace_laws.proofs.Events.{both-some}

abbrev pub AlikeCommand : Event → Event → Type 0
AlikeCommand (event.Boot n e how p began) f = (g : ℕ) × (so : BootEnd) × (q : Option Pick) × (b : Bool) × (f ≡ event.Boot n g so q b)
AlikeCommand e f = f ≡ e

none-is-none : {A : Type 0} {X : Type 0} (o : Option X) → IsTrue (is_some o) → o ≡ None → A
none-is-none o some none = let bad : true ≡ false = sym some ∙ ap is_some none in absurd (cc bad)

creations-same : (r : Result Uid Status) (s t : Status) (u v : Option Uid) → IsCreation r s u → IsCreation r t v → (t ≡ s) × (v ≡ u)
creations-same (Ok new) s t u v x y = (y.0 ∙ sym x.0, y.1 ∙ sym x.1)
creations-same (Err why) s t u v x y = (y.0 ∙ sym x.0, y.1 ∙ sym x.1)

of-create : (w : World) (name : List ℕ) (n : ℕ) (type_name : List ℕ) (e : Event) → AllowsCommand w (command.Create name n type_name) e
    → (s : Status) × (u : Option Uid) × (e ≡ event.Made name s u) × IsCreation (creation w n) s u
of-create w name n type_name (event.Made said s u) x = (s, u, ap (λ x. event.Made x s u) x.0, x.2)
of-create w name n type_name _ x = absurd x

of-hold : (w : World) (name : List ℕ) (u : Uid) (e : Event) → AllowsCommand w (command.Hold name u) e → e ≡ event.Bound name true
of-hold w name u (event.Bound said held) x = cc (x.0, x.1)
of-hold w name u _ x = absurd x

abbrev OfRestrict : World → List ℕ → Ref → Event → Type 0
OfRestrict w name target e = ((e ≡ event.Bound name false) × IsTrue (is_some (cap_at w target)))
    ⊎ ((e ≡ event.Void name) × (cap_at w target ≡ None))

of-restrict : (w : World) (name : List ℕ) (target : Ref) (mask : Rights) (e : Event) → AllowsCommand w (command.Restrict name target mask) e
    → OfRestrict w name target e
of-restrict w name target mask (event.Bound said held) x = let same : event.Bound said held ≡ event.Bound name false = cc (x.0, x.1) in
    inl (same, x.2)
of-restrict w name target mask (event.Void said) x = inr (ap event.Void x.0, x.1)
of-restrict w name target mask _ x = absurd x

abbrev OfCall : World → List ℕ → Ref → List ℕ → List Argument → Event → Type 0
OfCall w name target operation args e = ((k : ℕ) × (at_once : Option Status) × (e ≡ event.Asked k name at_once)
    × IsSomeAnd (ready_call w (command.Call name target operation args)) (λ c. AllowsAsked w k at_once c.0 c.1))
    ⊎ ((e ≡ event.Void name) × (ready_call w (command.Call name target operation args) ≡ None))

of-call : (w : World) (name : List ℕ) (target : Ref) (operation : List ℕ) (args : List Argument) (e : Event)
    → AllowsCommand w (command.Call name target operation args) e
    → OfCall w name target operation args e
of-call w name target operation args (event.Asked k said at_once) x = inl (k, at_once, ap (λ n. event.Asked k n at_once) x.0, x.1)
of-call w name target operation args (event.Void said) x = inr (ap event.Void x.0, x.1)
of-call w name target operation args _ x = absurd x

abbrev OfCrash : World → ℕ → Event → Type 0
OfCrash w n e = ((e ≡ event.Crash n) × IsTrue (is_up w n)) ⊎ ((e ≡ event.Still n false) × (is_up w n ≡ false))

of-crash : (w : World) (n : ℕ) (mode : ImageMode) (e : Event) → AllowsCommand w (command.Crash n mode) e
    → OfCrash w n e
of-crash w n mode (event.Crash m) x = inl (ap event.Crash x.0, x.1)
of-crash w n mode (event.Still m up) x = let same : event.Still m up ≡ event.Still n false = cc (x.0, x.1) in inr (same, x.2)
of-crash w n mode _ x = absurd x

abbrev pub OfRestart : World → ℕ → Event → Type 0
OfRestart w n e = ((e ≡ event.Still n true) × IsTrue (is_up w n))
    ⊎ ((g : ℕ) × (how : BootEnd) × (p : Option Pick) × (b : Bool) × (e ≡ event.Boot n g how p b)
    × IsSomeAnd (site_at w n) (λ s. AllowsBoot s g how p b))

pub of-restart : (w : World) (n : ℕ) (e : Event) → AllowsCommand w (command.Restart n) e → OfRestart w n e
of-restart w n (event.Still m up) x = let same : event.Still m up ≡ event.Still n true = cc (x.0, x.1) in inl (same, x.2)
of-restart w n (event.Boot m g how p b) x = inr (g, how, p, b, ap (λ m. event.Boot m g how p b) x.0, x.1)
of-restart w n _ x = absurd x

of-cut : (w : World) (a b : ℕ) (e : Event) → AllowsCommand w (command.Cut a b) e → e ≡ event.Link a b false
of-cut w a b (event.Link c d joined) x = cc (x.0, x.1, x.2)
of-cut w a b _ x = absurd x

of-join : (w : World) (a b : ℕ) (e : Event) → AllowsCommand w (command.Join a b) e → e ≡ event.Link a b true
of-join w a b (event.Link c d joined) x = cc (x.0, x.1, x.2)
of-join w a b _ x = absurd x

of-fail : (w : World) (n k : ℕ) (e : Event) → AllowsCommand w (command.Fail n k) e → e ≡ event.Armed n (arm.Fail k)
of-fail w n k (event.Armed m what) x = cc (x.0, x.1)
of-fail w n k _ x = absurd x

of-stop : (w : World) (n k : ℕ) (mode : ImageMode) (e : Event) → AllowsCommand w (command.Stop n k mode) e
    → e ≡ event.Armed n (arm.Stop k mode)
of-stop w n k mode (event.Armed m what) x = cc (x.0, x.1)
of-stop w n k mode _ x = absurd x

of-end : (w : World) (e : Event) → AllowsCommand w command.End e → e ≡ event.Left (open_names w)
of-end w (event.Left names) x = ap event.Left x
of-end w _ x = absurd x

pub up-and-down : {A : Type 0} (w : World) (n g : ℕ) (how : BootEnd) (p : Option Pick) (b : Bool) → IsTrue (is_up w n)
    → IsSomeAnd (site_at w n) (λ s. AllowsBoot s g how p b) → A
up-and-down {A} w n g how p b up boots = go (node_at w n) up boots
  where
    go : (o : Option Node) → IsTrue (with_item o (λ it. it.up) false)
        → IsSomeAnd (with_item o (λ it. Some (site_of w n it)) None) (λ s. AllowsBoot s g how p b) → A
    go None up boots = absurd boots
    go (Some it) up boots = let bad : true ≡ false = sym up ∙ boots.is_down in absurd (cc bad)

-- whatever the end, the event is a boot of that node
alike-boot : (n g h : ℕ) (how so : BootEnd) (p q : Option Pick) (b c : Bool) (e f : Event) → e ≡ event.Boot n g how p b
    → f ≡ event.Boot n h so q c → AlikeCommand e f
alike-boot n g h how so p q b c e f x y = subst (λ e. AlikeCommand e f) (sym x) (h, so, q, c, y)

alike-same : (e f g : Event) → e ≡ g → f ≡ g → ((n h : ℕ) (how : BootEnd) (p : Option Pick) (b : Bool) → g ≡ event.Boot n h how p b → ⊥)
    → AlikeCommand e f
alike-same e f (event.Boot n h how p b) x y none = absurd (none n h how p b refl)
alike-same e f (event.Crash n) x y none = subst (λ e. AlikeCommand e f) (sym x) y
alike-same e f (event.Still n up) x y none = subst (λ e. AlikeCommand e f) (sym x) y
alike-same e f (event.Link a b joined) x y none = subst (λ e. AlikeCommand e f) (sym x) y
alike-same e f (event.Armed n what) x y none = subst (λ e. AlikeCommand e f) (sym x) y
alike-same e f (event.Made name s u) x y none = subst (λ e. AlikeCommand e f) (sym x) y
alike-same e f (event.Bound name held) x y none = subst (λ e. AlikeCommand e f) (sym x) y
alike-same e f (event.Void name) x y none = subst (λ e. AlikeCommand e f) (sym x) y
alike-same e f (event.Asked k name at_once) x y none = subst (λ e. AlikeCommand e f) (sym x) y
alike-same e f (event.Request k a b refused) x y none = subst (λ e. AlikeCommand e f) (sym x) y
alike-same e f (event.Reply k a b name s values) x y none = subst (λ e. AlikeCommand e f) (sym x) y
alike-same e f (event.Activate u how p) x y none = subst (λ e. AlikeCommand e f) (sym x) y
alike-same e f (event.Start k u p) x y none = subst (λ e. AlikeCommand e f) (sym x) y
alike-same e f (event.Process u p said) x y none = subst (λ e. AlikeCommand e f) (sym x) y
alike-same e f (event.Store u c how p) x y none = subst (λ e. AlikeCommand e f) (sym x) y
alike-same e f event.Quiet x y none = subst (λ e. AlikeCommand e f) (sym x) y
alike-same e f event.Spent x y none = subst (λ e. AlikeCommand e f) (sym x) y
alike-same e f (event.Left names) x y none = subst (λ e. AlikeCommand e f) (sym x) y

-- two events that one command allows
pub command-alike : (w : World) (c : Command) (e f : Event) → AllowsCommand w c e → AllowsCommand w c f → AlikeCommand e f
command-alike w (command.Create name n type_name) e f x y =
    let a = of-create w name n type_name e x in
    let b = of-create w name n type_name f y in
    let r = creations-same (creation w n) a.0 b.0 a.1 b.1 a.3 b.3 in
    let same : event.Made name b.0 b.1 ≡ event.Made name a.0 a.1 = cc (r.0, r.1) in
    alike-same e f (event.Made name a.0 a.1) a.2 (b.2 ∙ same) (λ n h how p b bad. cc bad)
command-alike w (command.Hold name u) e f x y =
    alike-same e f (event.Bound name true) (of-hold w name u e x) (of-hold w name u f y) (λ n h how p b bad. cc bad)
command-alike w (command.Restrict name target mask) e f x y = go (of-restrict w name target mask e x) (of-restrict w name target mask f y)
  where
    go : OfRestrict w name target e → OfRestrict w name target f → AlikeCommand e f
    go (inl a) (inl b) = alike-same e f (event.Bound name false) a.0 b.0 (λ n h how p b bad. cc bad)
    go (inr a) (inr b) = alike-same e f (event.Void name) a.0 b.0 (λ n h how p b bad. cc bad)
    go (inl a) (inr b) = none-is-none (cap_at w target) a.1 b.1
    go (inr a) (inl b) = none-is-none (cap_at w target) b.1 a.1
command-alike w (command.Call name target operation args) e f x y =
    go (of-call w name target operation args e x) (of-call w name target operation args f y)
  where
    void-and-ready : {A : Type 0} (B : Cap × List Datum → Type 0) (o : Option (Cap × List Datum)) → IsSomeAnd o B → o ≡ None → A
    void-and-ready B None some none = absurd some
    void-and-ready B (Some c) some none = absurd (cc none)

    go : OfCall w name target operation args e → OfCall w name target operation args f → AlikeCommand e f
    go (inl a) (inl b) =
        let r = both-some (ready_call w (command.Call name target operation args)) (λ c. AllowsAsked w a.0 a.1 c.0 c.1)
        (λ c. AllowsAsked w b.0 b.1 c.0 c.1) a.3 b.3 in
        let number : b.0 ≡ a.0 = r.3.number ∙ sym r.2.number in
        let refused : b.1 ≡ a.1 = r.3.refused ∙ sym r.2.refused in
        let same : event.Asked b.0 name b.1 ≡ event.Asked a.0 name a.1 = cc (number, refused) in
        alike-same e f (event.Asked a.0 name a.1) a.2 (b.2 ∙ same) (λ n h how p b bad. cc bad)
    go (inr a) (inr b) = alike-same e f (event.Void name) a.0 b.0 (λ n h how p b bad. cc bad)
    go (inl a) (inr b) = void-and-ready (λ c. AllowsAsked w a.0 a.1 c.0 c.1)
        (ready_call w (command.Call name target operation args)) a.3 b.1
    go (inr a) (inl b) = void-and-ready (λ c. AllowsAsked w b.0 b.1 c.0 c.1)
        (ready_call w (command.Call name target operation args)) b.3 a.1
command-alike w (command.Crash m mode) e f x y = go (of-crash w m mode e x) (of-crash w m mode f y)
  where
    both : {A : Type 0} → IsTrue (is_up w m) → is_up w m ≡ false → A
    both up down = let bad : true ≡ false = sym up ∙ down in absurd (cc bad)

    go : OfCrash w m e → OfCrash w m f → AlikeCommand e f
    go (inl a) (inl b) = alike-same e f (event.Crash m) a.0 b.0 (λ n h how p b bad. cc bad)
    go (inr a) (inr b) = alike-same e f (event.Still m false) a.0 b.0 (λ n h how p b bad. cc bad)
    go (inl a) (inr b) = both a.1 b.1
    go (inr a) (inl b) = both b.1 a.1
command-alike w (command.Restart m) e f x y = go (of-restart w m e x) (of-restart w m f y)
  where
    go : OfRestart w m e → OfRestart w m f → AlikeCommand e f
    go (inl a) (inl b) = alike-same e f (event.Still m true) a.0 b.0 (λ n h how p b bad. cc bad)
    go (inr a) (inr b) = alike-boot m a.0 b.0 a.1 b.1 a.2 b.2 a.3 b.3 e f a.4 b.4
    go (inl a) (inr b) = up-and-down w m b.0 b.1 b.2 b.3 a.1 b.5
    go (inr a) (inl b) = up-and-down w m a.0 a.1 a.2 a.3 b.1 a.5
command-alike w (command.Cut a b) e f x y =
    alike-same e f (event.Link a b false) (of-cut w a b e x) (of-cut w a b f y) (λ n h how p b bad. cc bad)
command-alike w (command.Join a b) e f x y =
    alike-same e f (event.Link a b true) (of-join w a b e x) (of-join w a b f y) (λ n h how p b bad. cc bad)
command-alike w (command.Fail n k) e f x y =
    alike-same e f (event.Armed n (arm.Fail k)) (of-fail w n k e x) (of-fail w n k f y) (λ n h how p b bad. cc bad)
command-alike w (command.Stop n k mode) e f x y =
    alike-same e f (event.Armed n (arm.Stop k mode)) (of-stop w n k mode e x) (of-stop w n k mode f y) (λ n h how p b bad. cc bad)
command-alike w command.End e f x y = alike-same e f (event.Left (open_names w)) (of-end w e x) (of-end w f y) (λ n h how p b bad. cc bad)
command-alike w _ e f x y = absurd (none e x)
  where
    none : (e : Event) → ⊥ → ⊥
    none e x = x
