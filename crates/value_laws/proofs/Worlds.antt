-- Every entry of a history leads from a world within the limits to another, and the world before the first entry is within them.
use Rattle.std.proofs.Common.{◌≡◌, ◌≤◌, ◌<◌, ◌+◌, ℕ, Bool, true, false, cond, not, List, [], ◌∷◌, map, length, Option, inl, inr, ◌∙◌, None}
use Rattle.std.proofs.Common.{Some, Result, Ok, Err, is_some, refl, sym, ap, subst, arith}
use Rattle.std.specs.Prelude.{IsSomeAnd, IfSome}
use Rattle.std.specs.Ordering.{nat_cmp, eq_by_cmp}
use Rattle.capability.specs.declared.Uid.{Uid}
use Rattle.eden_disk.specs.Told.{contents}
use Rattle.eden_value.specs.declared.status.Status.{Status}
use Rattle.eden_value.specs.declared.status.Status.TheVariants as status
use Rattle.passive_store.specs.Kept.{Layout}
use Rattle.passive_store.specs.Layout.{IsLayout}
use Rattle.eden_model.specs.Map.{with_item, value_at, uid_cmp}
use Rattle.eden_model.specs.Traffic.{Call, call_at, answered, shell_name}
use Rattle.eden_model.proofs.Numbers.{same-true}
use Rattle.epl_syntax.specs.Edentype.{Edentype}
use Rattle.epl_syntax.specs.Kinds.{have_shapes}
use Rattle.epl_syntax.specs.Meaning.{operation_of}
use Rattle.epl_syntax.specs.Outline.{Operation}
use Rattle.journal.specs.Deliveries.{misfit, misfit_of}
use Rattle.journal.specs.Ejects.{epoch_or_zero}
use Rattle.journal.specs.Fit.{ArgumentsFit, NumbersFit}
use Rattle.journal.specs.LegalRun.{AreHandedIn, created_by, numbered, numbered_from, images, opening_world}
use Rattle.journal.specs.Opening.{found_in, node_of, node_from}
use Rattle.journal.specs.Processes.{AllowsStart, invocation}
use Rattle.journal.specs.Sites.{Everywhere}
use Rattle.journal.specs.Standing.{DiskRun}
use Rattle.journal.specs.Step.{AllowsAt, AllowsInTurn, AllowsEvent, Allows, IsActiveAnd, next, happened}
use Rattle.journal.specs.World.{World, Node, Eject, Active, Site, node_at, eject_at, site_of}
use Rattle.journal.specs.declared.command.Command.{Command}
use Rattle.journal.specs.declared.command.Command.TheVariants as command
use Rattle.journal.specs.declared.command.Script.{Script}
use Rattle.journal.specs.declared.event.Entry.{Entry}
use Rattle.journal.specs.declared.event.Event.{Event}
use Rattle.journal.specs.declared.event.Event.TheVariants as event
use Rattle.journal.proofs.FitValues.{held-are-ejects}
use Rattle.history_laws.proofs.Down.{Rests, Calm, not-active}
use Rattle.history_laws.proofs.DownRuns.{AllCalm}
use Rattle.history_laws.proofs.EpochBounds.{AreBounded, opening-epochs}
use Rattle.history_laws.proofs.EveryNode.{all-next_by}
use Rattle.history_laws.proofs.Fits.{times}
use Rattle.history_laws.proofs.HandedIn.{IsOwnMap, own-map}
use Rattle.history_laws.proofs.NoUidTwice.{disk-node, fit-opening, kept-there}
use Rattle.history_laws.proofs.SiteEvents.{startable-there}
use Rattle.history_laws.proofs.SiteRuns.{known-opening, rests-opening}
use Rattle.history_laws.proofs.Tasks.{FitsActive, NodeFits}
use Rattle.history_laws.proofs.UidRuns.{IsGiven, given-command, there-next}
use Rattle.history_laws.proofs.Uids.{IsBehind, Fit, OfNode, CreatedIn}
use Rattle.value_laws.specs.Limited.{AreLimited, IsLimitedUid}
use Rattle.value_laws.specs.Worlds.{ActiveLimited, BytesLimited, EjectLimited, WorldLimited}
use Rattle.value_laws.proofs.ActiveParts.{ActiveHolds}
use Rattle.value_laws.proofs.Calls.{Answered, Asked, CallsLimited, calls-next}
use Rattle.value_laws.proofs.Kept.{bytes_give_limited}
use Rattle.value_laws.proofs.Names.{NamesLimited, IsFedBy, names-are-values, names-next}
use Rattle.value_laws.proofs.Nodes.{EntryHolds, EjectHolds, NodeHolds, IsFed, stored-small, gives-limited, kept-limits}
use Rattle.value_laws.proofs.ShellCalls.{shell-asks}
use Rattle.value_laws.proofs.Types.{TypesFit}
use Rattle.value_laws.proofs.WorldCalls.{ShellAsks}

-- 1. Worlds

-- all values of a world are within the limits, in the words of these proofs
pub record IsWithin (w : World) : Type 0 where
  pub nodes : Everywhere NodeHolds w
  pub calls : CallsLimited w.traffic
  pub names : NamesLimited w.names

-- so they are in the words of the law
pub within-limited : (w : World) → IsWithin w → WorldLimited w
within-limited w h = record {
  ejects = λ u e is. go u e (node_at w u.node) refl is;
  calls = h.calls;
  names = names-are-values w h.names;
}
  where
    active : (o : Option Active) → IfSome o ActiveHolds → IfSome o ActiveLimited
    active None x = tt
    active (Some it) x = x.limited

    kept : (o : Option (List ℕ)) → IfSome o BytesLimited
    kept None = tt
    kept (Some bytes) = bytes_give_limited bytes

    limited : (u : Uid) (e : Eject) → EjectHolds u e → EjectLimited u e
    limited u e x = record { own = x.own; active = active e.active x.active; kept = kept e.kept }

    go : (u : Uid) (e : Eject) (o : Option Node) → node_at w u.node ≡ o → with_item o (λ it. value_at uid_cmp u it.ejects) None ≡ Some e
        → EjectLimited u e
    go u e None at is = absurd (cc is)
    go u e (Some it) at is = limited u e (subst (EntryHolds u) is ((h.nodes u.node it at).ejects.at u))

-- each Eject that is there has a uid within the limits
uid-limited : (w : World) → Everywhere NodeHolds w → (u : Uid) → is_some (eject_at w u) ≡ true → IsLimitedUid u
uid-limited w nodes u there = go (node_at w u.node) refl there
  where
    own : (o : Option Eject) → EntryHolds u o → is_some o ≡ true → IsLimitedUid u
    own None x some = absurd (cc some)
    own (Some e) x some = x.own

    go : (o : Option Node) → node_at w u.node ≡ o → is_some (with_item o (λ it. value_at uid_cmp u it.ejects) None) ≡ true → IsLimitedUid u
    go None at some = absurd (cc some)
    go (Some it) at some = own (value_at uid_cmp u it.ejects) ((nodes u.node it at).ejects.at u) some

-- 2. A call that starts may begin, since each queued call fits its target

fitting : (t : Edentype) (c : Call) → misfit t c ≡ None
    → (o : Operation) × (operation_of t c.operation ≡ Some o) × (have_shapes c.args o.params ≡ true)
fitting t c fits = go (operation_of t c.operation) refl fits
  where
    shapes : (a b : Bool) → cond a (Some status.NoRight) (cond (not b) (Some status.BadArguments) None) ≡ None → b ≡ true
    shapes true b e = absurd (cc e)
    shapes false true e = refl
    shapes false false e = absurd (cc e)

    go : (o : Option Operation) → operation_of t c.operation ≡ o → with_item o (misfit_of c) (Some status.NoOperation) ≡ None
        → (o : Operation) × (operation_of t c.operation ≡ Some o) × (have_shapes c.args o.params ≡ true)
    go None at e = absurd (cc e)
    go (Some o) at e = (o, at, shapes _ (have_shapes c.args o.params) e)

may-begin : (types : List Edentype) (s : Site) (k p : ℕ) (v : Uid) → NodeFits types s.traffic s.node → AllowsAt s (event.Start k v p)
    → CallsLimited s.traffic → IsFed s (event.Start k v p)
may-begin types s k p v fits allowed calls = λ c e it is is_e is_it.
    let on_e = subst (λ o. IsSomeAnd o (λ e. IsSomeAnd e.active (λ it. AllowsStart s.traffic k p e it))) is_e allowed in
    let starts : AllowsStart s.traffic k p e it = subst (λ o. IsSomeAnd o (λ it. AllowsStart s.traffic k p e it)) is_it on_e in
    let active : FitsActive types s.traffic e.queued it =
    subst (λ o. IfSome o (FitsActive types s.traffic e.queued)) is_it (fits v e is_e) in
    let queued : 1 ≤ times k e.queued = (startable-there it s.traffic e.queued (invocation it.kind s.traffic k) starts.earliest).0 in
    let fit : misfit it.kind c ≡ None = subst (λ o. IsSomeAnd o (λ c. misfit it.kind c ≡ None)) is (active.waiting k queued) in
    let x = fitting it.kind c fit in
    record { operation = x.0; is = x.1; shapes = x.2; args = (calls k c is).args }

-- 3. Every entry

-- what is known of a world besides
pub record IsKnown (w : World) : Type 0 where
  -- the constants of its types are within the limits
  pub types : TypesFit w.types
  -- the calls that Ejects have queued fit them
  pub queued : Everywhere (λ n it. NodeFits w.types w.traffic it) w
  -- a node that is down has no active part
  pub calm : AllCalm w

-- the command has fit arguments, and holds a uid within the limits
pub record IsFitFor (c : Command) : Type 0 where
  pub arguments : ArgumentsFit c
  pub holds : (name : List ℕ) (u : Uid) → c ≡ command.Hold name u → IsLimitedUid u

pub held-limited : (nodes : ℕ) (name : List ℕ) (u : Uid) → nodes ≤ 8 → NumbersFit nodes (command.Hold name u) → IsLimitedUid u
held-limited nodes name u few fit = (
  held-are-ejects nodes name u few fit,
  record { epoch = omega (arith, fit.1.1); serial = omega (arith, fit.2.1); rights = omega arith },
)

-- a node at which a process takes a turn is up
is-up : (it : Node) (s : Site) (v : Uid) (P : Eject → Active → Type 0) → s.node ≡ it → Calm it → IsActiveAnd s v P → it.up ≡ true
is-up it s v P same (inl up) active = up
is-up it s v P same (inr rest) active = absurd (not-active s v P (subst Rests (sym same) rest) active)

feeds : (w : World) (e : Event) → IsKnown w → CallsLimited w.traffic → (n : ℕ) (it : Node) → node_at w n ≡ Some it
    → AllowsAt (site_of w n it) e → NodeHolds n it → IsFed (site_of w n it) e
feeds w (event.Reply k a b name why values) known calls n it at allowed holds = go (call_at w.traffic k) refl allowed.delivered
  where
    go : (o : Option Call) → call_at w.traffic k ≡ o → IsSomeAnd o (λ c. (c.place ≡ answered why values) × (name ≡ shell_name c.asker))
        → AreLimited values
    go None is x = absurd x
    go (Some d) is x = (calls k d is).results why values x.0
feeds w (event.Start k v p) known calls n it at allowed holds =
    may-begin w.types (site_of w n it) k p v (known.queued n it at) allowed calls
feeds w (event.Process v p said) known calls n it at allowed holds = (
  gives-limited (site_of w n it) holds (is-up it (site_of w n it) v _ refl (known.calm n it at) allowed),
  holds.uids.in_order,
)
feeds w _ known calls n it at allowed holds = tt

-- what is created is there behind the entry
made-limited : (w : World) (c : Option Command) (e : Entry) → Allows w c e → Everywhere NodeHolds (next w c e)
    → (name : List ℕ) (why : Status) (u : Uid) → e.event ≡ event.Made name why (Some u) → IsLimitedUid u
made-limited w c e allowed nodes name why u is = uid-limited (next w c e) nodes u (go c allowed.event).1
  where
    go : (c : Option Command) → AllowsEvent w c e.event → IsGiven w (next w c e) (Some u)
    go None a = absurd (subst (AllowsInTurn w) is a)
    go (Some k) a = there-next w (Some k) e (Some u)
        (subst (IsGiven w (happened w (Some k) e.event)) (ap created_by is) (given-command w k e.event a))

pub within-next : (w : World) (c : Option Command) (e : Entry) → IsKnown w → IfSome c IsFitFor → Allows w c e → IsWithin w
    → IsWithin (next w c e)
within-next w c e known fit allowed h = record {
  nodes = nodes;
  calls = calls-next w c e (λ n it at. (h.nodes n it at).ejects) (asks c fit) allowed h.calls;
  names = names-next w c e (fed c fit) allowed h.calls h.names;
}
  where
    nodes : Everywhere NodeHolds (next w c e)
    nodes = all-next_by NodeHolds w c e
        (kept-limits w e.event known.types (λ n it at allowed holds. feeds w e.event known h.calls n it at allowed holds)) allowed h.nodes

    asks : (c : Option Command) → IfSome c IsFitFor → IfSome c (ShellAsks Answered Asked w)
    asks None fit = tt
    asks (Some k) fit = shell-asks w k fit.arguments h.names

    fed : (d : Option Command) → IfSome d IsFitFor → IfSome d (λ k. IsFedBy k e.event)
    fed None x = tt
    fed (Some k) x = record { holds = x.holds; made = λ name why u is. made-limited w c e allowed nodes name why u is }

-- 4. The world before the first entry

-- a disk of these has the number of its node, and there are so many
numbers : (layout : Layout) (m n : ℕ) (it : Node) (disks : List DiskRun)
    → value_at nat_cmp m (map (λ d. (d.0, node_of layout d)) (images (numbered_from n disks))) ≡ Some it → (n ≤ m) × (m < n + length disks)
numbers layout m n it [] is = absurd (cc is)
numbers layout m n it (d ∷ disks) is = go (eq_by_cmp nat_cmp m n) refl is (numbers layout m (n + 1) it disks)
  where
    others : Option Node
    others = value_at nat_cmp m (map (λ d. (d.0, node_of layout d)) (images (numbered_from (n + 1) disks)))

    go : (b : Bool) → eq_by_cmp nat_cmp m n ≡ b → cond b (Some (node_of layout (n, (contents d.before).now))) others ≡ Some it
        → (others ≡ Some it → (n + 1 ≤ m) × (m < n + 1 + length disks)) → (n ≤ m) × (m < n + length (d ∷ disks))
    go true same e later = let number : m ≡ n = same-true m n same in (omega (arith, number), omega (arith, number))
    go false same e later = let x = later e in (omega (arith, x.0), omega (arith, x.1))

-- the serials of its Ejects have four bytes
serials : (n size : ℕ) (found : Result (List (Uid × List ℕ)) ℕ) (overfull untold : Bool) (ledger : List ℕ)
    → ((kept : List (Uid × List ℕ)) → found ≡ Ok kept → IsOwnMap n kept) → (u : Uid)
    → is_some (value_at uid_cmp u (node_from n size found overfull untold ledger).ejects) ≡ true → u.serial ≤ 4294967295
serials n size (Ok kept) overfull untold ledger own u there = (own kept refl).serials u (kept-there u kept there)
serials n size (Err place) overfull untold ledger own u there = absurd (cc there)

opening-serials : (layout : Layout) (disks : List DiskRun) → IsLayout layout → AreHandedIn layout disks → (n : ℕ) (it : Node)
    → value_at nat_cmp n (map (λ d. (d.0, node_of layout d)) (images (numbered disks))) ≡ Some it → (u : Uid)
    → is_some (value_at uid_cmp u it.ejects) ≡ true → u.serial ≤ 4294967295
opening-serials layout disks lays handed n it is u there = go (value_at nat_cmp n (numbered disks)) refl
    (disk-node layout n it (numbered disks) is)
  where
    go : (o : Option DiskRun) → value_at nat_cmp n (numbered disks) ≡ o
        → IsSomeAnd o (λ d. node_of layout (n, (contents d.before).now) ≡ it) → u.serial ≤ 4294967295
    go None at x = absurd x
    go (Some d) at x = serials n _ (found_in layout n (contents d.before).now) _ _ _
        (λ kept found. own-map layout n d lays (handed n d at) kept found) u
        (ap (λ (y : Node). is_some (value_at uid_cmp u y.ejects)) x ∙ there)

pub within-opening : (layout : Layout) (script : Script) (disks : List DiskRun) → IsLayout layout → AreHandedIn layout disks
    → length disks ≤ 8 → IsWithin (opening_world layout script disks)
within-opening layout script disks lays handed few = record {
  nodes = node;
  calls = λ k c is. absurd (cc is);
  names = record { at = λ name m is. absurd (cc is) };
}
  where
    node : Everywhere NodeHolds (opening_world layout script disks)
    node n it at = record {
      least = number.0;
      most = omega (arith, number.1, few);
      uids = uids;
      epochs = epochs;
      ejects = record { at = λ u. entry u (value_at uid_cmp u it.ejects) refl };
    }
      where
        number : (1 ≤ n) × (n < 1 + length disks)
        number = numbers layout n 1 it disks at

        uids : Fit (OfNode (CreatedIn []) n) it
        uids = fit-opening layout (numbered disks) lays handed n it at

        epochs : AreBounded it
        epochs = opening-epochs layout (numbered disks) lays handed n it at

        own : (u : Uid) → is_some (value_at uid_cmp u it.ejects) ≡ true → IsLimitedUid u
        own u there =
            let of_node : u.node ≡ n = ((known-opening layout script disks lays handed).sound.nodes n it at).of_node u there in
            let behind : IsBehind u (epoch_or_zero it.epoch) it.last_serial = uids.behind u there in
            let small : epoch_or_zero it.epoch ≤ 4294967295 = stored-small it.epoch epochs.stored in
            let serial : u.serial ≤ 4294967295 = opening-serials layout disks lays handed n it at u there in (
              record {
                node_least = omega (arith, of_node, number.0);
                node_most = omega (arith, of_node, number.1, few);
                epoch = behind.epoch_counts;
                serial = behind.serial_counts;
              },
              record { epoch = omega (arith, behind.epoch_given, small); serial = omega (arith, serial); rights = omega arith },
            )

        entry : (u : Uid) (o : Option Eject) → value_at uid_cmp u it.ejects ≡ o → EntryHolds u o
        entry u None is = tt
        entry u (Some e) is = record {
          own = own u (ap is_some is);
          active = subst (λ a. IfSome a ActiveHolds)
              (sym ((rests-opening layout (images (numbered disks)) n it at).idle u e is).no_active) tt;
        }
