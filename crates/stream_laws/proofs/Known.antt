-- The native type of an Eject that a history creates goes by its name in every world of that history.
use Rattle.std.proofs.Common.{◌≡◌, inl, inr, ℕ, Bool, List, [], ◌∷◌, Option, None, Some, is_some, refl, ap, sym}
use Rattle.std.proofs.Common.{◌∙◌, subst}
use Rattle.std.specs.Prelude.{IsSomeAnd}
use Rattle.capability.specs.declared.Uid.{Uid}
use Rattle.eden_model.specs.Map.{with_item, same_text}
use Rattle.eden_model.specs.Crew.{Process as Worker, Invocation}
use Rattle.epl_syntax.specs.declared.effect.Effect.{Effect}
use Rattle.epl_syntax.specs.declared.effect.Effect.TheVariants as effect
use Rattle.epl_syntax.specs.declared.types.Native.{Native}
use Rattle.epl_syntax.specs.Edentype.{Edentype, native as of_native}
use Rattle.epl_syntax.specs.Meaning.{Turned, types_in, type_of, name_of}
use Rattle.epl_syntax.specs.Rules.OfTypes.{KeepRules, HaveMonitors}
use Rattle.passive_store.specs.Kept.{Layout}
use Rattle.passive_store.specs.Layout.{IsLayout}
use Rattle.journal.specs.declared.command.Command.{Command}
use Rattle.journal.specs.declared.command.Script.{Script}
use Rattle.journal.specs.declared.event.Event.{Event}
use Rattle.journal.specs.declared.event.Event.TheVariants as event
use Rattle.journal.specs.declared.event.Entry.{Entry}
use Rattle.journal.specs.declared.event.Shown.TheVariants as shown
use Rattle.journal.specs.World.{World, Site, Node, Eject, Active, node_at, site_of, eject_in}
use Rattle.journal.specs.Processes.{AllowsTurn, shown_of, shown_return, turn_of, worker_at}
use Rattle.journal.specs.Commands.{AllowsCommand, type_name_of}
use Rattle.journal.specs.Step.{AllowsAt, AllowsEvent, next}
use Rattle.journal.specs.Standing.{DiskRun}
use Rattle.journal.specs.LegalRun.{created_by, AreHandedIn, opening_world, run_over}
use Rattle.journal.specs.Laws.{Begins}
use Rattle.journal.specs.Run.{Step, EachStep, beginning}
use Rattle.history_laws.proofs.EveryNode.{at-its-site}
use Rattle.history_laws.proofs.Runs.{Any, of-any, each-step, no-turn, world-booting}
use Rattle.history_laws.proofs.SiteRuns.{types-next, types-looked_up}
use Rattle.history_laws.proofs.SeatRuns.{SeatWorld, seat-next, seat-looked_up, seat-opening}
use Rattle.stream_laws.specs.Chains.{type_at, IsCreatedIn}
use Rattle.stream_laws.proofs.Items.{same-texts, found-passes}
use Rattle.stream_laws.proofs.Created.{asks-none}
use Rattle.stream_laws.proofs.Typed.{made-typed, created-typed}

-- 1. A type that goes by a name goes by its own
by-own-name : (types : List Edentype) (name : List ℕ) (t : Edentype) → type_of types name ≡ Some t → type_of types (name_of t) ≡ Some t
by-own-name types name t is = ap (type_of types) (same-texts (name_of t) name (found-passes (λ x. same_text (name_of x) name) types t is))
    ∙ is

-- 2. What a step creates is of a type that goes by a name
abbrev Named : List Edentype → Edentype → Type 0
Named types t = (name : List ℕ) × (type_of types name ≡ Some t)

shows-creation : (s : Site) (i : Option Invocation) (e : Effect) (u : Uid) → shown.Created u ≡ shown_of s i e
    → (name : List ℕ) × (e ≡ effect.Create name)
shows-creation s i (effect.Create name) u is = (name, refl)
shows-creation s i (effect.Return results) u is = absurd (go i is)
  where
    go : (i : Option Invocation) → shown.Created u ≡ shown_return i → ⊥
    go None e = cc e
    go (Some j) e = cc e
shows-creation s i _ u is = absurd (cc is)

module _ (here : ℕ → Bool) (w : World) (e : Entry) (seat : SeatWorld here w) (u : Uid) (k : Edentype) where
  by-process : (v : Uid) (p : ℕ) → e.event ≡ event.Process v p (shown.Created u) → (nd : Node) → node_at w v.node ≡ Some nd
      → AllowsAt (site_of w v.node nd) (event.Process v p (shown.Created u)) → type_at (next w None e) u ≡ Some k → Named w.types k
  by-process v p is nd at allowed typed = eject (eject_in (site_of w v.node nd) v) refl allowed
    where
      turn : (y : Eject) → eject_in (site_of w v.node nd) v ≡ Some y → (a : Active) → y.active ≡ Some a → (q : Worker) (o : Option Turned)
          → turn_of v a p ≡ o → IsSomeAnd o (λ t. shown.Created u ≡ shown_of (site_of w v.node nd) q.serves t.effect) → Named w.types k
      turn y is_y a some q None turns h = absurd h
      turn y is_y a some q (Some t) turns h = let x = shows-creation (site_of w v.node nd) q.serves t.effect u h in (
        x.0,
        created-typed w e nd v p u y a t x.0 k is at
            (seat.site.known.sound.nodes v.node nd at).in_order allowed is_y some turns x.1 typed,
      )

      worker : (y : Eject) → eject_in (site_of w v.node nd) v ≡ Some y → (a : Active) → y.active ≡ Some a → (o : Option Worker)
          → IsSomeAnd o (λ q. AllowsTurn (site_of w v.node nd) v p (shown.Created u) a q) → Named w.types k
      worker y is_y a some None h = absurd h
      worker y is_y a some (Some q) h = turn y is_y a some q (turn_of v a p) refl h.shows

      active : (y : Eject) → eject_in (site_of w v.node nd) v ≡ Some y → (o : Option Active) → y.active ≡ o
          → IsSomeAnd o (λ a. IsSomeAnd (worker_at a p) (λ q. AllowsTurn (site_of w v.node nd) v p (shown.Created u) a q)) → Named w.types k
      active y is_y None some h = absurd h
      active y is_y (Some a) some h = worker y is_y a some (worker_at a p) h

      eject : (o : Option Eject) → eject_in (site_of w v.node nd) v ≡ o
          → IsSomeAnd o (λ y. IsSomeAnd y.active (λ a. IsSomeAnd (worker_at a p)
          (λ q. AllowsTurn (site_of w v.node nd) v p (shown.Created u) a q))) → Named w.types k
      eject None is_y h = absurd h
      eject (Some y) is_y h = active y is_y y.active refl h

  named-by : (c : Option Command) (ev : Event) → e.event ≡ ev → AllowsEvent w c ev → created_by ev ≡ Some u
      → type_at (next w c e) u ≡ Some k → Named w.types k
  named-by None (event.Process v p (shown.Created x)) is allowed makes typed = go (node_at w v.node) refl
    where
      same : x ≡ u
      same = cc makes

      go : (o : Option Node) → node_at w v.node ≡ o → Named w.types k
      go None at = absurd (subst (λ o. IsSomeAnd (with_item o (λ it. Some (site_of w v.node it)) None)
          (λ s. AllowsAt s (event.Process v p (shown.Created x)))) at allowed)
      go (Some nd) at = by-process v p (is ∙ ap (λ z. event.Process v p (shown.Created z)) same) nd at
          (subst (λ z. AllowsAt (site_of w v.node nd) (event.Process v p (shown.Created z))) same
          (at-its-site w v.node (λ s. AllowsAt s (event.Process v p (shown.Created x))) nd at allowed)) typed
  named-by (Some c) (event.Process v p (shown.Created x)) is allowed makes typed =
      absurd (no-turn w c (event.Process v p (shown.Created x)) refl allowed)
  named-by None (event.Made name why (Some x)) is allowed makes typed = absurd allowed
  named-by (Some c) (event.Made name why (Some x)) is allowed makes typed = let same : x ≡ u = cc makes in (
    type_name_of c,
    made-typed w c e name why u k (is ∙ ap (λ z. event.Made name why (Some z)) same)
        (subst (λ z. AllowsCommand w c (event.Made name why (Some z))) same allowed) typed,
  )
  named-by c _ is allowed makes typed = absurd (cc makes)

-- 3. In every world of the history
abbrev Creates : List Edentype → Uid → Edentype → Step → Type 0
Creates types u k s = created_by s.entry.event ≡ Some u → type_at s.later u ≡ Some k → Named types k

record Inv (here : ℕ → Bool) (types : List Edentype) (w : World) : Type 0 where
  seat : SeatWorld here w
  same : w.types ≡ types

each-known : (layout : Layout) (script : Script) (disks : List DiskRun) (history : List Entry) → IsLayout layout → AreHandedIn layout disks
    → KeepRules script.types → HaveMonitors script.types → Begins layout script disks history → (u : Uid) (k : Edentype)
    → EachStep (λ past s. (s.world.types ≡ types_in script.types) × Creates (types_in script.types) u k s) []
    (run_over layout script disks history)
each-known layout script disks history lays fits rules monitors begins u k =
    each-step Any (λ past w. Inv here types w) (λ past s. (s.world.types ≡ types) × Creates types u k s) (record {
      entries = λ past w c e any allowed i. (
        (i.same, λ makes typed. subst (λ ts. Named ts k) i.same (named-by here w e i.seat u k c e.event refl allowed.event makes typed)),
        record { seat = seat-next here w c e allowed i.seat; same = types-next w c e ∙ i.same },
      );
      look_ups = λ past w name target path e any allowed plain i. (
        (
          i.same,
          λ makes typed. absurd (let bad : None ≡ Some u = sym (asks-none w name target path e.event allowed) ∙ makes in cc bad),
        ),
        record {
          seat = seat-looked_up here w name target path e.event allowed i.seat;
          same = types-looked_up w name target path e.event ∙ i.same;
        },
      );
    }) (beginning w0 script.nodes script.commands) [] history (of-any 1 script.nodes w0 script.commands)
    (subst (Inv here types) (sym (world-booting 1 script.nodes w0 script.commands))
    (record { seat = seat-opening layout script disks lays fits rules monitors; same = refl })) begins
  where
    types : List Edentype
    types = types_in script.types

    w0 : World
    w0 = opening_world layout script disks

    here : ℕ → Bool
    here n = is_some (node_at w0 n)

of-created : (types : List Edentype) (u : Uid) (n : Native) (past run : List Step)
    → EachStep (λ past s. (s.world.types ≡ types) × Creates types u (of_native n) s) past run → IsCreatedIn run u n
    → type_of types (name_of (of_native n)) ≡ Some (of_native n)
of-created types u n past [] each h = absurd h
of-created types u n past (s ∷ run) each (inl h) = let x = each.0.1 h.0 h.1 in by-own-name types x.0 (of_native n) x.1
of-created types u n past (s ∷ run) each (inr h) = of-created types u n (s ∷ past) run each.1 h

all-so : (types : List Edentype) (u : Uid) (n : Native) (past run : List Step)
    → EachStep (λ past s. (s.world.types ≡ types) × Creates types u (of_native n) s) past run
    → type_of types (name_of (of_native n)) ≡ Some (of_native n)
    → EachStep (λ past s. type_of s.world.types (name_of (of_native n)) ≡ Some (of_native n)) past run
all-so types u n past [] each is = tt
all-so types u n past (s ∷ run) each is = (
  ap (λ ts. type_of ts (name_of (of_native n))) each.0.0 ∙ is,
  all-so types u n (s ∷ past) run each.1 is,
)

pub types-known : (layout : Layout) (script : Script) (disks : List DiskRun) (history : List Entry) → IsLayout layout
    → AreHandedIn layout disks
    → KeepRules script.types → HaveMonitors script.types → Begins layout script disks history → (u : Uid) (n : Native)
    → IsCreatedIn (run_over layout script disks history) u n
    → EachStep (λ past s. type_of s.world.types (name_of (of_native n)) ≡ Some (of_native n)) [] (run_over layout script disks history)
types-known layout script disks history lays fits rules monitors begins u n made =
    let each = each-known layout script disks history lays fits rules monitors begins u (of_native n) in
    all-so (types_in script.types) u n [] (run_over layout script disks history) each
    (of-created (types_in script.types) u n [] (run_over layout script disks history) each made)
