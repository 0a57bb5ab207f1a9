-- In every world of a history each pipeline flows.
use Rattle.std.proofs.Common.{◌≡◌, ℕ, ℤ, Bool, true, false, List, [], ◌∷◌, map, drop, Option, None, Some, is_some, refl, ap, sym, ◌∙◌}
use Rattle.std.proofs.Common.{subst, ◌⊎◌, inl, inr}
use Rattle.std.specs.Prelude.{IsSomeAnd, IfSome}
use Rattle.std.specs.Ordering.{nat_cmp}
use Rattle.capability.specs.declared.Uid.{Uid}
use Rattle.capability.specs.declared.Cap.{Cap}
use Rattle.eden_value.specs.Datum.{Datum}
use Rattle.eden_value.specs.declared.status.Status.{Status}
use Rattle.eden_value.specs.declared.status.Status.TheVariants as status
use Rattle.eden_model.specs.Map.{with_item, value_at, uid_cmp}
use Rattle.eden_model.specs.Traffic.{Traffic, Call, call_at}
use Rattle.epl_syntax.specs.declared.effect.Answer.TheVariants.{Reply as Told}
use Rattle.epl_syntax.specs.declared.types.Native.TheVariants as native
use Rattle.epl_syntax.specs.Edentype.{native as native_type}
use Rattle.epl_syntax.specs.Meaning.{type_of, durable_of}
use Rattle.epl_syntax.specs.Streams.{came}
use Rattle.epl_syntax.specs.Simple.{argument, cap_in, text_in}
use Rattle.epl_syntax.specs.Lines as lines
use Rattle.epl_syntax.specs.Sink as sink
use Rattle.epl_syntax.specs.Pipelines.{sifted, argument_of, IsFront}
use Rattle.epl_syntax.specs.Rules.OfTypes.{KeepRules, HaveMonitors}
use Rattle.passive_store.specs.Kept.{Layout}
use Rattle.passive_store.specs.Layout.{IsLayout}
use Rattle.journal.specs.EjectChange.{EjectChange, body, removal, kept_of}
use Rattle.journal.specs.declared.command.Command.{Command}
use Rattle.journal.specs.declared.command.Script.{Script}
use Rattle.journal.specs.declared.event.Event.{Event}
use Rattle.journal.specs.declared.event.Event.TheVariants as event
use Rattle.journal.specs.declared.event.Entry.{Entry}
use Rattle.journal.specs.World.{World, Node, Eject, Active, node_at, eject_at}
use Rattle.journal.specs.Step.{AllowsEvent, Allows, next}
use Rattle.journal.specs.Run.{Step, EachStep, beginning, AllowsLookUp, looked_up}
use Rattle.journal.specs.Standing.{DiskRun}
use Rattle.journal.specs.Laws.{Begins}
use Rattle.journal.specs.LegalRun.{AreHandedIn, opening_world, run_over, images, numbered}
use Rattle.journal.specs.Sites.{GoesOn}
use Rattle.history_laws.proofs.CallsKeep.{keeps-next as calls-keep, keeps-looked_up as calls-looked_up}
use Rattle.history_laws.proofs.Runs.{Any, of-any, each-step, world-booting, nodes-looked_up}
use Rattle.history_laws.proofs.SiteRuns.{is-known, rests-opening}
use Rattle.history_laws.proofs.SeatRuns.{SeatWorld, seat-next, seat-looked_up, seat-opening}
use Rattle.stream_laws.specs.Chains.{Stage, Chain, made_by, last_of, EachFilter, type_of_sieve, OpensOnly, type_at}
use Rattle.stream_laws.proofs.Pipelines.{IsStepOf, IsStage, IsPipeline, AreNewIn, IsNewIn}
use Rattle.journal.specs.Commands.{type_name_of}
use Rattle.stream_laws.specs.Streams.{items_held, items_stored, list_kept, HandsOut, HoldsFront, Flows, has_kept, ComesToTheEnd}
use Rattle.epl_syntax.specs.Natives.{native_turn}
use Rattle.epl_syntax.specs.Meaning.{Turned}
use Rattle.journal.specs.declared.event.Shown.{Shown}
use Rattle.journal.specs.Sites.{active_in}
use Rattle.history_laws.proofs.Runs.{no-turn}
use Rattle.stream_laws.proofs.Items.{if-map, texts-back, IsOf, answers-so}
use Rattle.stream_laws.proofs.Roles.{TurnEnds}
use Rattle.stream_laws.proofs.StagedCalls.{own-turn}
use Rattle.stream_laws.proofs.Roles.{Role, IsLawful, filter_role, filter-lawful, lines_role, lines-lawful, sink_role, sink-lawful}
use Rattle.stream_laws.proofs.Stage.{IsActive, IsBody, IsChange, IsEject}
use Rattle.stream_laws.proofs.Stage as stage
use Rattle.stream_laws.proofs.StagedNodes.{kept_now, own-eject}
use Rattle.stream_laws.proofs.Staged.{Staged, turn-allowed, staged-next, staged-looked_up}
use Rattle.stream_laws.proofs.Instances.{position, HandsOver, Given, around-filter, around-sink, filter-hands, lines-hands}
use Rattle.stream_laws.proofs.LinesRuns.{Kept, Later, lists-next}
use Rattle.stream_laws.proofs.Typed.{made-typed, created-typed}
use Rattle.epl_syntax.specs.declared.effect.Effect.TheVariants as effect
use Rattle.journal.specs.declared.event.Shown.TheVariants as shown
use Rattle.journal.specs.LegalRun.{created_by}
use Rattle.journal.specs.Processes.{turn_of}
use Rattle.stream_laws.proofs.Readable.{reads-back}

-- 1. What holds of a pipeline in a world
module _ (A : ℕ → List Datum) where
  abbrev pub FilterOn : World → Uid → List (List ℕ) → Stage → Type 0
  FilterOn w before items f = Staged (filter_role before f.sieve items) (filter-lawful before f.sieve items) f.uid A w

  pub record Rest (c : Chain) (list : List (List ℕ)) (w : World) : Type 0 where
    pub filters : EachFilter (FilterOn w) c.lines list c.filters
    pub drained : Staged (sink_role (last_of c.lines c.filters) (made_by c.filters list))
        (sink-lawful (last_of c.lines c.filters) (made_by c.filters list)) c.sink A w

  pub record Flow (c : Chain) (w : World) : Type 0 where
    pub lists : Kept c.lines A w
    pub rest : (list : List (List ℕ)) → (kept_now w c.lines ≡ true → lists.texts ≡ list) → Rest c list w

  pub record Pre (c : Chain) (past : List Step) (w : World) : Type 0 where
    pub args : (k : ℕ) (d : Call) → call_at w.traffic k ≡ Some d → d.args ≡ A k
    pub pipe : IsPipeline past w.traffic c

  -- the items that a Lines or a Sink has kept
  lines-stored : (vars : List Datum) → lines.values_of (lines.source vars) ≡ vars
      → items_held (durable_of (native_type native.Lines) vars) ≡ map text_in (lines.source vars).items
  lines-stored vars form = subst (λ v. items_held (durable_of (native_type native.Lines) v) ≡ map text_in (lines.source v).items) form refl

  sink-stored : (vars : List Datum) → sink.values_of (sink.drain vars) ≡ vars
      → items_held (durable_of (native_type native.Sink) vars) ≡ map text_in (sink.drain vars).items
  sink-stored vars form = subst (λ v. items_held (durable_of (native_type native.Sink) v) ≡ map text_in (sink.drain v).items) form refl

  list-is : (u : Uid) (w : World) (texts : List (List ℕ)) → Staged (lines_role texts) (lines-lawful texts) u A w → kept_now w u ≡ true
      → texts ≡ list_kept w u
  list-is u w texts h k = go (node_at w u.node) refl k
    where
      bytes-is : (bytes : List ℕ) → IsBody (lines_role texts) u A (kept_now w u) bytes → texts ≡ items_stored bytes
      bytes-is bytes b = sym (ap (map text_in) (b.holds.holds.items b.filled) ∙ texts-back texts) ∙ sym (lines-stored b.values b.holds.form)
          ∙ sym (ap (λ o. with_item o (λ rep. items_held rep.values) []) b.reads)

      kept : (y : Eject) (o : Option (List ℕ)) → IfSome o (IsBody (lines_role texts) u A (kept_now w u)) → is_some o ≡ true
          → texts ≡ with_item o items_stored []
      kept y None b some = absurd (cc some)
      kept y (Some bytes) b some = bytes-is bytes b

      eject : (nd : Node) → (o : Option Eject) → IfSome o (IsEject (lines_role texts) u A (kept_now w u) nd.requests)
          → with_item o (λ (y : Eject). is_some y.kept) false ≡ true
          → texts ≡ with_item (with_item o (λ (y : Eject). y.kept) None) items_stored []
      eject nd None x some = absurd (cc some)
      eject nd (Some y) x some = kept y y.kept x.kept some

      go : (o : Option Node) → node_at w u.node ≡ o
          → with_item (with_item o (λ (it : Node). value_at uid_cmp u it.ejects) None) (λ (y : Eject). is_some y.kept) false ≡ true
          → texts ≡ with_item (with_item (with_item o (λ (it : Node). value_at uid_cmp u it.ejects) None)
          (λ (y : Eject). y.kept) None) items_stored []
      go None at some = absurd (cc some)
      go (Some nd) at some = eject nd (value_at uid_cmp u nd.ejects) (h.node u.node nd at refl).eject some

  -- 2. Back from a later world
  pub calls-back : (w later : World) → ((k : ℕ) (a : Call) → call_at w.traffic k ≡ Some a → IsSomeAnd (call_at later.traffic k) (GoesOn a))
      → (k : ℕ) (a : Call) → call_at w.traffic k ≡ Some a → (d : Call) × (call_at later.traffic k ≡ Some d) × GoesOn a d
  calls-back w later kept k a at = go (call_at later.traffic k) refl (kept k a at)
    where
      go : (o : Option Call) → call_at later.traffic k ≡ o → IsSomeAnd o (GoesOn a) → (d : Call) × (call_at later.traffic k ≡ Some d)
          × GoesOn a d
      go None is h = absurd h
      go (Some d) is h = (d, is, h)

  pub args-back : (w later : World) → ((k : ℕ) (a : Call) → call_at w.traffic k ≡ Some a → IsSomeAnd (call_at later.traffic k) (GoesOn a))
      → ((k : ℕ) (d : Call) → call_at later.traffic k ≡ Some d → d.args ≡ A k) → (k : ℕ) (a : Call) → call_at w.traffic k ≡ Some a
      → a.args ≡ A k
  args-back w later kept args k a at = let x = calls-back w later kept k a at in sym x.2.args ∙ args k x.0 x.1

  pub opens-back : (w later : World) → ((k : ℕ) (a : Call) → call_at w.traffic k ≡ Some a → IsSomeAnd (call_at later.traffic k) (GoesOn a))
      → (u before : Uid) (arg : List Datum) → OpensOnly later.traffic u before arg → OpensOnly w.traffic u before arg
  opens-back w later kept u before arg opens k a at to op named names = let x = calls-back w later kept k a at in
      let y = opens k x.0 x.1 (ap (λ (z : Cap). z.uid) x.2.target ∙ to) (x.2.operation ∙ op) named
      (ap (λ g. cap_in (argument 0 g)) x.2.args ∙ names) in (y.0, ap (λ g. drop 1 g) (sym x.2.args) ∙ y.1)

  filters-back : (w later : World) → ((k : ℕ) (a : Call) → call_at w.traffic k ≡ Some a → IsSomeAnd (call_at later.traffic k) (GoesOn a))
      → (s : Step) (past : List Step) (before : Uid) (any : List (List ℕ)) (fs : List Stage)
      → EachFilter (λ before items f. IsStage (s ∷ past) later.traffic before f.uid (type_of_sieve f.sieve)
      (argument_of f.sieve)) before any fs
      → EachFilter (λ before items f. IsStage past w.traffic before f.uid (type_of_sieve f.sieve) (argument_of f.sieve)) before any fs
  filters-back w later kept s past before any [] h = tt
  filters-back w later kept s past before any (f ∷ fs) h = (
    record { steps = h.0.steps.1; opened = opens-back w later kept f.uid before (argument_of f.sieve) h.0.opened },
    filters-back w later kept s past f.uid (sifted f.sieve any) fs h.1,
  )

  pub pre-back : (c : Chain) (w later : World) → ((k : ℕ) (a : Call) → call_at w.traffic k ≡ Some a
      → IsSomeAnd (call_at later.traffic k) (GoesOn a))
      → (s : Step) (past : List Step) → Pre c (s ∷ past) later → Pre c past w
  pre-back c w later kept s past h = record {
    args = args-back w later kept h.args;
    pipe = record {
      lines = h.pipe.lines.1;
      filters = filters-back w later kept s past c.lines [] c.filters h.pipe.filters;
      sink = record {
        steps = h.pipe.sink.steps.1;
        opened = opens-back w later kept c.sink
            (last_of c.lines c.filters) [] h.pipe.sink.opened;
      };
    };
  }

  -- 3. A step
  module _ (here : ℕ → Bool) (w : World) (c : Option Command) (e : Entry) (seat : SeatWorld here w) (allowed : Allows w c e) where
    abbrev pub after : World
    after = next w c e

    now : Step
    now = record { world = w; entry = e; later = after }

    pub kept-calls : (k : ℕ) (a : Call) → call_at w.traffic k ≡ Some a → IsSomeAnd (call_at after.traffic k) (GoesOn a)
    kept-calls = (calls-keep w c e (is-known here w seat.site.known) allowed).kept

    pub given : (R : Role) (L : IsLawful R) (u : Uid) → IsStepOf u R.kind (record { world = w; entry = e; later = after })
        → ((k : ℕ) (d : Call) → call_at w.traffic k ≡ Some d → d.args ≡ A k) → Given R L u A here w c e.event
    given R L u h args = record {
      site = seat.site;
      known = h.known;
      back = λ p said it t is active turns keeps. (let v = h.values p said it t is active turns keeps in reads-back R.kind t.vars v.0 v.1);
      made_so = λ x name why of is. made x name why of is;
      created_so = λ v p said y it t name is at some turns creates says.
          created v p y it t name (is ∙ ap (λ z. event.Process v p z) says) (node_at w v.node) refl at some turns creates;
      args = args;
    }
      where
        none : (o : Option Command) (v : Uid) (p : ℕ) (said : Shown) → AllowsEvent w o (event.Process v p said) → o ≡ None
        none None v p said a = refl
        none (Some y) v p said a = absurd (no-turn w y (event.Process v p said) refl a)

        created : (v : Uid) (p : ℕ) (y : Eject) (it : Active) (t : Turned) (name : List ℕ) → e.event ≡ event.Process v p (shown.Created u)
            → (o : Option Node) → node_at w v.node ≡ o → with_item o (λ (nd : Node). value_at uid_cmp v nd.ejects) None ≡ Some y
            → y.active ≡ Some it → turn_of v it p ≡ Some t → t.effect ≡ effect.Create name
            → type_of w.types name ≡ Some (native_type R.kind)
        created v p y it t name is None at is_y some turns creates = absurd (cc is_y)
        created v p y it t name is (Some nd) at is_y some turns creates =
            let a = subst (AllowsEvent w c) is allowed.event in
            created-typed w e nd v p u y it t name (native_type R.kind) is at (seat.site.known.sound.nodes v.node nd at).in_order
            (turn-allowed w c nd v p (shown.Created u) a at) is_y some turns creates
            (subst (λ o. type_at (next w o e) u ≡ Some (native_type R.kind)) (none c v p (shown.Created u) a)
            (h.typed (ap created_by is)))

        made : (x : Command) (name : List ℕ) (why : Status) → c ≡ Some x → e.event ≡ event.Made name why (Some u)
            → type_of w.types (type_name_of x) ≡ Some (native_type R.kind)
        made x name why of is = made-typed w x e name why u (native_type R.kind) is
            (subst (λ o. AllowsEvent w o (event.Made name why (Some u))) of (subst (AllowsEvent w c) is allowed.event))
            (subst (λ o. type_at (next w o e) u ≡ Some (native_type R.kind)) of (h.typed (ap created_by is)))

    filters-next : (args : (k : ℕ) (d : Call) → call_at w.traffic k ≡ Some d → d.args ≡ A k)
        (later_args : (k : ℕ) (d : Call) → call_at after.traffic k ≡ Some d → d.args ≡ A k) (past : List Step)
        (before : Uid) (any items : List (List ℕ)) (fs : List Stage) → HandsOver w.traffic before items A
        → EachFilter (λ before items f. IsStage (record { world = w; entry = e; later = after } ∷ past) after.traffic before f.uid
        (type_of_sieve f.sieve) (argument_of f.sieve)) before any fs
        → EachFilter (FilterOn w) before items fs
        → EachFilter (FilterOn after) before items fs × HandsOver w.traffic (last_of before fs) (made_by fs items) A
    filters-next args later_args past before any items [] hands pipe old = (tt, hands)
    filters-next args later_args past before any items (f ∷ fs) hands pipe old =
        let more = filters-next args later_args past f.uid (sifted f.sieve any) (sifted f.sieve items) fs
        (filter-hands before f.sieve items f.uid A w old.0) pipe.1 old.1 in (
          (
            staged-next (filter_role before f.sieve items) (filter-lawful before f.sieve items) f.uid A here w c e seat allowed
                (around-filter before f.sieve items f.uid A here w c e.event
                (given (filter_role before f.sieve items) (filter-lawful before f.sieve items) f.uid pipe.0.steps.0 args) hands
                (opens-back w after kept-calls f.uid before (argument_of f.sieve) pipe.0.opened)) old.0 later_args,
            more.0,
          ),
          more.1,
        )

    -- the list that is kept stays
    list-stays : (chain : Chain) (past : List Step) → Pre chain (record { world = w; entry = e; later = after } ∷ past) after → Flow chain w
        → kept_now w chain.lines ≡ true → list_kept after chain.lines ≡ list_kept w chain.lines
    list-stays chain past pre old k = sym (list-is chain.lines after later.now.texts later.now.lists (later.kept k)) ∙ later.same k
        ∙ list-is chain.lines w old.lists.texts old.lists.lists k
      where
        args : (k : ℕ) (d : Call) → call_at w.traffic k ≡ Some d → d.args ≡ A k
        args = args-back w after kept-calls pre.args

        later : Later chain.lines A w after old.lists
        later = lists-next chain.lines A here w c e seat allowed
            (λ texts. given (lines_role texts) (lines-lawful texts) chain.lines pre.pipe.lines.0 args) pre.args old.lists

    flow-next : (chain : Chain) (past : List Step) → Pre chain (record { world = w; entry = e; later = after } ∷ past) after → Flow chain w
        → Flow chain after
    flow-next chain past pre old = record {
      lists = later.now;
      rest = λ list same. rest list same;
    }
      where
        args : (k : ℕ) (d : Call) → call_at w.traffic k ≡ Some d → d.args ≡ A k
        args = args-back w after kept-calls pre.args

        later : Later chain.lines A w after old.lists
        later = lists-next chain.lines A here w c e seat allowed
            (λ texts. given (lines_role texts) (lines-lawful texts) chain.lines pre.pipe.lines.0 args) pre.args old.lists

        rest : (list : List (List ℕ)) → (kept_now after chain.lines ≡ true → later.now.texts ≡ list) → Rest chain list after
        rest list same =
            let before : kept_now w chain.lines ≡ true → old.lists.texts ≡ list = (λ k. sym (later.same k) ∙ same (later.kept k)) in
            let r = old.rest list before in
            let fs = filters-next args pre.args past chain.lines [] list chain.filters
            (lines-hands old.lists.texts chain.lines A w list before old.lists.lists) pre.pipe.filters r.filters in
            let b = last_of chain.lines chain.filters in let xs = made_by chain.filters list in
            record {
              filters = fs.0;
              drained = staged-next (sink_role b xs) (sink-lawful b xs) chain.sink A here w c e seat allowed
                  (around-sink b xs chain.sink A here w c e.event
                  (given (sink_role b xs) (sink-lawful b xs) chain.sink pre.pipe.sink.steps.0 args) fs.1
                  (opens-back w after kept-calls chain.sink b [] pre.pipe.sink.opened)) r.drained pre.args;
            }

  -- 4. A look-up of a walk
  filters-looked : (w : World) (name : List ℕ) (target : Option Cap) (path : List (List ℕ)) (e : Event) → AllowsLookUp w name target path e
      → (before : Uid) (items : List (List ℕ)) (fs : List Stage) → EachFilter (FilterOn w) before items fs
      → EachFilter (FilterOn (looked_up w name target path e)) before items fs
  filters-looked w name target path e a before items [] old = tt
  filters-looked w name target path e a before items (f ∷ fs) old = (
    staged-looked_up (filter_role before f.sieve items) (filter-lawful before f.sieve items) f.uid A
        (λ n. true) w name target path e a old.0,
    filters-looked w name target path e a f.uid (sifted f.sieve items) fs old.1,
  )

  flow-looked : (chain : Chain) (w : World) (name : List ℕ) (target : Option Cap) (path : List (List ℕ)) (e : Event)
      → AllowsLookUp w name target path e → Flow chain w → Flow chain (looked_up w name target path e)
  flow-looked chain w name target path e a old = record {
    lists = record {
      texts = old.lists.texts;
      lists = staged-looked_up (lines_role old.lists.texts) (lines-lawful old.lists.texts) chain.lines A
          (λ n. true) w name target path e a old.lists.lists;
    };
    rest = λ list same. (let r = old.rest list (λ k. same (ap (λ o. with_item o (λ (y : Eject). is_some y.kept) false) same-eject
        ∙ k)) in record {
          filters = filters-looked w name target path e a chain.lines list chain.filters r.filters;
          drained = staged-looked_up (sink_role (last_of chain.lines chain.filters) (made_by chain.filters list))
              (sink-lawful (last_of chain.lines chain.filters) (made_by chain.filters list)) chain.sink A
              (λ n. true) w name target path e a r.drained;
        });
  }
    where
      same-eject : eject_at (looked_up w name target path e) chain.lines ≡ eject_at w chain.lines
      same-eject = ap (λ ns. with_item (value_at nat_cmp chain.lines.node ns) (λ (it : Node). value_at uid_cmp chain.lines it.ejects) None)
          (nodes-looked_up w name target path e)

  -- 5. At the opening
  staged-new : (R : Role) (L : IsLawful R) (u : Uid) (w : World) → (R.There → ⊥) → w.traffic.calls ≡ [] → ((n : ℕ) (it : Node)
      → node_at w n ≡ Some it
      → it.requests ≡ [])
      → eject_at w u ≡ None → Staged R L u A w
  staged-new R L u w never none rests absent = record {
    node = λ n it at here. record {
      requests = subst (stage.AreChanges R u A (kept_now w u)) (sym (rests n it at)) tt;
      eject = subst (λ o. IfSome o (IsEject R u A (kept_now w u) it.requests)) (sym (sym (own-eject w n it u at here) ∙ absent)) tt;
      there = there it;
    };
    said = λ k c st results at to place. absurd (no-call k c at);
    asks = λ k c p it at opened asker active. absurd (no-call k c at);
  }
    where
      there : (it : Node) → (kept_now w u ≡ true) ⊎ R.There → is_some (value_at uid_cmp u it.ejects) ≡ true
      there it (inl k) = absurd
          (let bad : false ≡ true = sym (ap (λ o. with_item o (λ (y : Eject). is_some y.kept) false) absent) ∙ k in cc bad)
      there it (inr x) = absurd (never x)

      no-call : (k : ℕ) (c : Call) → call_at w.traffic k ≡ Some c → ⊥
      no-call k c at = let bad : None ≡ Some c = sym (ap (λ cs. value_at nat_cmp k cs) none) ∙ at in cc bad

  filters-new : (w : World) → w.traffic.calls ≡ [] → ((n : ℕ) (it : Node) → node_at w n ≡ Some it → it.requests ≡ [])
      → (before : Uid) (items : List (List ℕ)) (fs : List Stage) → AreNewIn w fs → EachFilter (FilterOn w) before items fs
  filters-new w none rests before items [] h = tt
  filters-new w none rests before items (f ∷ fs) h = (
    staged-new (filter_role before f.sieve items) (filter-lawful before f.sieve items) f.uid w (λ x. x) none rests h.0,
    filters-new w none rests f.uid (sifted f.sieve items) fs h.1,
  )

  flow-new : (chain : Chain) (w : World) → w.traffic.calls ≡ [] → ((n : ℕ) (it : Node) → node_at w n ≡ Some it → it.requests ≡ [])
      → IsNewIn w chain → Flow chain w
  flow-new chain w none rests new = record {
    lists = record { texts = []; lists = staged-new (lines_role []) (lines-lawful []) chain.lines w (λ x. x) none rests new.lines };
    rest = λ list same. record {
      filters = filters-new w none rests chain.lines list chain.filters new.filters;
      drained = staged-new (sink_role (last_of chain.lines chain.filters) (made_by chain.filters list))
          (sink-lawful (last_of chain.lines chain.filters) (made_by chain.filters list)) chain.sink w (λ x. x) none rests new.sink;
    };
  }

  -- 6. What that means
  hands-out : (t : Traffic) (u : Uid) (items : List (List ℕ)) → ((k : ℕ) (d : Call) → call_at t k ≡ Some d → d.args ≡ A k)
      → HandsOver t u items A → HandsOut t u items
  hands-out t u items args h k c results at to op place = let x = h.at k c status.Ok results at to place in
      answers-so items (position c.args) results
      (subst (λ g. IsOf items (position g) (came (Told status.Ok results))) (sym (args k c at)) x.0) x.1

  filters-out : (w : World) → ((k : ℕ) (d : Call) → call_at w.traffic k ≡ Some d → d.args ≡ A k)
      → (before : Uid) (items : List (List ℕ)) (fs : List Stage)
      → EachFilter (FilterOn w) before items fs
      → EachFilter (λ before items f. HandsOut w.traffic f.uid (sifted f.sieve items)) before items fs
  filters-out w args before items [] h = tt
  filters-out w args before items (f ∷ fs) h = (
    hands-out w.traffic f.uid (sifted f.sieve items) args (filter-hands before f.sieve items f.uid A w h.0),
    filters-out w args f.uid (sifted f.sieve items) fs h.1,
  )

  sink-holds : (before : Uid) (items : List (List ℕ)) (u : Uid) (w : World)
      → Staged (sink_role before items) (sink-lawful before items) u A w
      → IfSome (eject_at w u) (HoldsFront items)
  sink-holds before items u w h = go (node_at w u.node) refl
    where
      bytes-front : (bytes : List ℕ) → IsBody (sink_role before items) u A (kept_now w u) bytes → IsFront (items_stored bytes) items
      bytes-front bytes b = subst (λ l. IsFront l items) (sym (sink-stored b.values b.holds.form)
          ∙ sym (ap (λ o. with_item o (λ rep. items_held rep.values) []) b.reads)) b.holds.holds.items

      change-front : (c : EjectChange) → IsChange (sink_role before items) u A (kept_now w u) c
          → IfSome (kept_of c) (λ bytes. IsFront (items_stored bytes) items)
      change-front (body bytes) b = bytes-front bytes b
      change-front removal b = tt

      eject : (nd : Node) (o : Option Eject) → IfSome o (IsEject (sink_role before items) u A (kept_now w u) nd.requests)
          → IfSome o (HoldsFront items)
      eject nd None x = tt
      eject nd (Some y) x = record {
        active = if-map y.active (λ it a. a.vars.holds.items) x.active;
        kept = if-map y.kept (λ bytes b. bytes-front bytes b) x.kept;
        doubt = if-map y.doubt (λ c b. change-front c b) x.doubt;
      }

      go : (o : Option Node) → node_at w u.node ≡ o → IfSome (with_item o (λ (it : Node). value_at uid_cmp u it.ejects) None)
          (HoldsFront items)
      go None at = tt
      go (Some nd) at = eject nd (value_at uid_cmp u nd.ejects) (h.node u.node nd at refl).eject

  flows-of : (chain : Chain) (w : World) → ((k : ℕ) (d : Call) → call_at w.traffic k ≡ Some d → d.args ≡ A k) → Flow chain w
      → Flows w chain (list_kept w chain.lines)
  flows-of chain w args f = record {
    lines = hands-out w.traffic chain.lines (list_kept w chain.lines) args (lines-hands f.lists.texts chain.lines A w
        (list_kept w chain.lines) same f.lists.lists);
    filters = filters-out w args chain.lines (list_kept w chain.lines) chain.filters r.filters;
    sink = sink-holds (last_of chain.lines chain.filters) (made_by chain.filters (list_kept w chain.lines)) chain.sink w r.drained;
    pumps = λ k c held at to op place. r.drained.said k c status.Ok _ at to place held refl refl;
  }
    where
      same : kept_now w chain.lines ≡ true → f.lists.texts ≡ list_kept w chain.lines
      same = list-is chain.lines w f.lists.texts f.lists.lists

      r : Rest chain (list_kept w chain.lines) w
      r = f.rest (list_kept w chain.lines) same

-- 7. The law
pub arguments_in : Traffic → ℕ → List Datum
arguments_in t k = with_item (call_at t k) (λ (d : Call). d.args) []

pub arguments-are : (t : Traffic) (k : ℕ) (d : Call) → call_at t k ≡ Some d → d.args ≡ arguments_in t k
unfolding arguments_in
arguments-are t k d at = sym (ap (λ o. with_item o (λ (d : Call). d.args) []) at)

pub record Inv (here : ℕ → Bool) (c : Chain) (past : List Step) (w : World) : Type 0 where
  pub seat : SeatWorld here w
  pub flow : (A : ℕ → List Datum) → Pre A c past w → Flow A c w

shows : (here : ℕ → Bool) (c : Chain) (past : List Step) (later : World) → Inv here c past later → IsPipeline past later.traffic c
    → Flows later c (list_kept later c.lines)
shows here c past later i pipe = flows-of (arguments_in later.traffic) c later (arguments-are later.traffic)
    (i.flow (arguments_in later.traffic) (record { args = arguments-are later.traffic; pipe = pipe }))

pub entry-inv : (here : ℕ → Bool) (c : Chain) (past : List Step) (w : World) (x : Option Command) (e : Entry) → Allows w x e
    → Inv here c past w
    → Inv here c (record { world = w; entry = e; later = next w x e } ∷ past) (next w x e)
entry-inv here c past w x e allowed i = record {
  seat = seat-next here w x e allowed i.seat;
  flow = λ A pre. flow-next A here w x e i.seat allowed c past pre (i.flow A (pre-back A c w (next w x e)
      (calls-keep w x e (is-known here w i.seat.site.known) allowed).kept (record { world = w; entry = e; later = next w x e }) past pre));
}

pub look-inv : (here : ℕ → Bool) (c : Chain) (past : List Step) (w : World) (name : List ℕ) (target : Option Cap) (path : List (List ℕ))
    (e : Entry)
    → AllowsLookUp w name target path e.event → Inv here c past w
    → Inv here c (record { world = w; entry = e; later = looked_up w name target path e.event } ∷ past)
    (looked_up w name target path e.event)
look-inv here c past w name target path e allowed i = record {
  seat = seat-looked_up here w name target path e.event allowed i.seat;
  flow = λ A pre. flow-looked A c w name target path e.event allowed (i.flow A (pre-back A c w (looked_up w name target path e.event)
      (calls-looked_up w name target path e.event i.seat.site.known.numbered allowed).kept
      (record { world = w; entry = e; later = looked_up w name target path e.event }) past pre));
}

-- the opening world
pub opening-inv : (layout : Layout) (script : Script) (disks : List DiskRun) → IsLayout layout → AreHandedIn layout disks
    → KeepRules script.types
    → HaveMonitors script.types → (c : Chain) → IsNewIn (opening_world layout script disks) c
    → Inv (λ n. is_some (node_at (opening_world layout script disks) n)) c [] (opening_world layout script disks)
opening-inv layout script disks lays fits rules monitors c new = record {
  seat = seat-opening layout script disks lays fits rules monitors;
  flow = λ A pre. flow-new A c (opening_world layout script disks) refl
      (λ n it at. (rests-opening layout (images (numbered disks)) n it at).no_request) new;
}

stays : (here : ℕ → Bool) (c : Chain) (past : List Step) (w : World) (x : Option Command) (e : Entry) (allowed : Allows w x e)
    → Inv here c past w
    → IsPipeline (record { world = w; entry = e; later = next w x e } ∷ past) (next w x e).traffic c
    → kept_now w c.lines ≡ true → list_kept (next w x e) c.lines ≡ list_kept w c.lines
stays here c past w x e allowed i pipe = list-stays A here w x e i.seat allowed c past pre (i.flow A (pre-back A c w (next w x e)
    (calls-keep w x e (is-known here w i.seat.site.known) allowed).kept (record { world = w; entry = e; later = next w x e }) past pre))
  where
    A : ℕ → List Datum
    A = arguments_in (next w x e).traffic

    pre : Pre A c (record { world = w; entry = e; later = next w x e } ∷ past) (next w x e)
    pre = record { args = arguments-are (next w x e).traffic; pipe = pipe }

looked-stays : (w : World) (u : Uid) (name : List ℕ) (target : Option Cap) (path : List (List ℕ)) (e : Event)
    → list_kept (looked_up w name target path e) u ≡ list_kept w u
looked-stays w u name target path e = ap (λ ns. with_item (with_item (with_item (value_at nat_cmp u.node ns)
    (λ (it : Node). value_at uid_cmp u it.ejects) None) (λ (y : Eject). y.kept) None) items_stored [])
    (nodes-looked_up w name target path e)

-- so it is with a chain whose stages no image holds, as long as the steps make a pipeline of it
abbrev pub OfNewPipelines : (Chain → List Step → Step → Type 0) → Type 0
OfNewPipelines P = (layout : Layout) (script : Script) (disks : List DiskRun) (history : List Entry) → IsLayout layout
    → AreHandedIn layout disks → KeepRules script.types → HaveMonitors script.types → Begins layout script disks history
    → (c : Chain) → IsNewIn (opening_world layout script disks) c
    → EachStep (λ past s. IsPipeline (s ∷ past) s.later.traffic c → P c past s) [] (run_over layout script disks history)

pub pipelines-flow : OfNewPipelines (λ c past s. Flows s.later c (list_kept s.later c.lines))
pipelines-flow layout script disks history lays fits rules monitors begins c new =
    each-step Any (λ past w. Inv here c past w) (λ past s. IsPipeline (s ∷ past) s.later.traffic c
    → Flows s.later c (list_kept s.later c.lines)) (record {
      entries = λ past w x e any allowed i. (let j = entry-inv here c past w x e allowed i in
          (λ pipe. shows here c (record { world = w; entry = e; later = next w x e } ∷ past) (next w x e) j pipe, j));
      look_ups = λ past w name target path e any allowed plain i. (let j = look-inv here c past w name target path e allowed i in (
        λ pipe. shows here c (record { world = w; entry = e; later = looked_up w name target path e.event } ∷ past)
            (looked_up w name target path e.event) j pipe,
        j,
      ));
    }) (beginning w0 script.nodes script.commands) [] history (of-any 1 script.nodes w0 script.commands)
    (subst (Inv here c []) (sym (world-booting 1 script.nodes w0 script.commands))
    (opening-inv layout script disks lays fits rules monitors c new)) begins
  where
    w0 : World
    w0 = opening_world layout script disks

    here : ℕ → Bool
    here n = is_some (node_at w0 n)

pub lists-stay : OfNewPipelines (λ c past s. has_kept s.world c.lines ≡ true
    → list_kept s.later c.lines ≡ list_kept s.world c.lines)
lists-stay layout script disks history lays fits rules monitors begins c new =
    each-step Any (λ past w. Inv here c past w) (λ past s. IsPipeline (s ∷ past) s.later.traffic c → has_kept s.world c.lines ≡ true
    → list_kept s.later c.lines ≡ list_kept s.world c.lines) (record {
      entries = λ past w x e any allowed i. (λ pipe k. stays here c past w x e allowed i pipe k, entry-inv here c past w x e allowed i);
      look_ups = λ past w name target path e any allowed plain i. (
        λ pipe k. looked-stays w c.lines name target path e.event,
        look-inv here c past w name target path e allowed i,
      );
    }) (beginning w0 script.nodes script.commands) [] history (of-any 1 script.nodes w0 script.commands)
    (subst (Inv here c []) (sym (world-booting 1 script.nodes w0 script.commands))
    (opening-inv layout script disks lays fits rules monitors c new)) begins
  where
    w0 : World
    w0 = opening_world layout script disks

    here : ℕ → Bool
    here n = is_some (node_at w0 n)

-- 8. Where a Pump comes to the end, the Sink holds all
pub no-look : (w : World) (name : List ℕ) (target : Option Cap) (path : List (List ℕ)) (v : Uid) (p : ℕ) (said : Shown)
    → AllowsLookUp w name target path (event.Process v p said) → ⊥
no-look w name None path v p said a = a
no-look w name (Some target) path v p said a = a

all-held : (before : Uid) (items : List (List ℕ)) (u : Uid) (A : ℕ → List Datum) (here : ℕ → Bool) (w : World) (x : Option Command)
    (e : Entry)
    → SeatWorld here w → Allows w x e → Staged (sink_role before items) (sink-lawful before items) u A w
    → (later : World) (t : Turned) (held : ℤ)
    → ComesToTheEnd u (record { world = w; entry = e; later = later }) t held → items_held t.vars ≡ items
all-held before items u A here w x e seat allowed staged later t held h = go (node_at w u.node) refl h.is_active
  where
    part : (nd : Node) → node_at w u.node ≡ Some nd → (y : Eject) → value_at uid_cmp u nd.ejects ≡ Some y → y.active ≡ Some h.active
        → items_held t.vars ≡ items
    part nd at y is some =
        let z = own-turn (sink_role before items)
        (sink-lawful before items) u A w e.event here seat.site staged.node (λ p said is. tt) u
        h.process h.said nd y h.active t h.event_is
        refl at (turn-allowed w x nd u h.process h.said (subst (AllowsEvent w x) h.event_is allowed.event) at) is some h.turn in
        let ends = subst (TurnEnds (sink_role before items) (is_some y.kept) (native_turn native.Sink h.active.vars z.stage z.answer).0
        (A z.busy.call.call) (native_turn native.Sink h.active.vars z.stage z.answer).1) (sym z.effect_is ∙ h.answers) z.keeps.ends in
        ap items_held z.vars ∙ ends.1 held refl

    eject : (nd : Node) → node_at w u.node ≡ Some nd → (o : Option Eject) → value_at uid_cmp u nd.ejects ≡ o → active_in o ≡ Some h.active
        → items_held t.vars ≡ items
    eject nd at None is act = absurd (cc act)
    eject nd at (Some y) is act = part nd at y is act

    go : (o : Option Node) → node_at w u.node ≡ o → active_in (with_item o (λ (it : Node). value_at uid_cmp u it.ejects) None)
        ≡ Some h.active
        → items_held t.vars ≡ items
    go None at act = absurd (cc act)
    go (Some nd) at act = eject nd at (value_at uid_cmp u nd.ejects) refl act

ends-whole : (here : ℕ → Bool) (c : Chain) (past : List Step) (w : World) (x : Option Command) (e : Entry) → Allows w x e
    → Inv here c past w
    → IsPipeline (record { world = w; entry = e; later = next w x e } ∷ past) (next w x e).traffic c → (t : Turned) (held : ℤ)
    → ComesToTheEnd c.sink (record { world = w; entry = e; later = next w x e }) t held
    → items_held t.vars ≡ made_by c.filters (list_kept (next w x e) c.lines)
ends-whole here c past w x e allowed i pipe t held h = all-held (last_of c.lines c.filters)
    (made_by c.filters list) c.sink A here w x e i.seat allowed
    rest.drained (next w x e) t held h
  where
    A : ℕ → List Datum
    A = arguments_in (next w x e).traffic

    list : List (List ℕ)
    list = list_kept (next w x e) c.lines

    flow : Flow A c w
    flow = i.flow A (pre-back A c w (next w x e) (calls-keep w x e (is-known here w i.seat.site.known) allowed).kept
        (record { world = w; entry = e; later = next w x e }) past (record { args = arguments-are (next w x e).traffic; pipe = pipe }))

    rest : Rest A c list w
    rest = flow.rest list (λ k. list-is A c.lines w flow.lists.texts flow.lists.lists k ∙ sym (stays here c past w x e allowed i pipe k))

pub sinks-hold-all : OfNewPipelines (λ c past s. (t : Turned) (held : ℤ) → ComesToTheEnd c.sink s t held
    → items_held t.vars ≡ made_by c.filters (list_kept s.later c.lines))
sinks-hold-all layout script disks history lays fits rules monitors begins c new =
    each-step Any (λ past w. Inv here c past w) (λ past s. IsPipeline (s ∷ past) s.later.traffic c → (t : Turned) (held : ℤ)
    → ComesToTheEnd c.sink s t held → items_held t.vars ≡ made_by c.filters (list_kept s.later c.lines)) (record {
      entries = λ past w x e any allowed i. (
        λ pipe t held h. ends-whole here c past w x e allowed i pipe t held h,
        entry-inv here c past w x e allowed i,
      );
      look_ups = λ past w name target path e any allowed plain i. (
        λ pipe t held h. absurd (no-look w name target path c.sink h.process h.said
            (subst (AllowsLookUp w name target path) h.event_is allowed)),
        look-inv here c past w name target path e allowed i,
      );
    }) (beginning w0 script.nodes script.commands) [] history (of-any 1 script.nodes w0 script.commands)
    (subst (Inv here c []) (sym (world-booting 1 script.nodes w0 script.commands))
    (opening-inv layout script disks lays fits rules monitors c new)) begins
  where
    w0 : World
    w0 = opening_world layout script disks

    here : ℕ → Bool
    here n = is_some (node_at w0 n)
