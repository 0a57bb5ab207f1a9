-- A Lines in the world: it keeps its list, which is the one that it was filled with first.
use Rattle.std.proofs.Common.{◌≡◌, ◌⊎◌, inl, inr, ℕ, Bool, true, false, List, [], ◌∷◌, map, Option, None, Some, is_some, refl, ap, sym, ◌∙◌}
use Rattle.std.proofs.Common.{◌≤◌, cond, not, subst}
use Rattle.std.specs.Prelude.{IsSomeAnd, IfSome, codes}
use Rattle.std.specs.Ordering.{eq_by_cmp}
use Rattle.capability.specs.declared.Uid.{Uid}
use Rattle.capability.proofs.Uids.{uid_cmp_total, uid_cmp-IsAntisymmetric}
use Rattle.std.proofs.lemmas.Cmp.{tied_itself}
use Rattle.capability.specs.Rights.{is_within}
use Rattle.eden_value.specs.Datum.{Datum, Data, no_data, data_and, number, truth, text, cap, list, items_of}
use Rattle.eden_value.specs.Shape as shape
use Rattle.eden_value.specs.declared.status.Status.TheVariants as status
use Rattle.eden_model.specs.Map.{with_item, value_at, uid_cmp}
use Rattle.eden_model.proofs.Laws.{eq-same}
use Rattle.eden_model.specs.Traffic.{Call, call_at}
use Rattle.epl_syntax.specs.declared.effect.Answer.TheVariants.{Reply as Told}
use Rattle.epl_syntax.specs.Simple.{argument, text_in, items_in, number_in}
use Rattle.epl_syntax.specs.Streams.{Came, an_item, the_end, nothing, came}
use Rattle.epl_syntax.specs.Lines as lines
use Rattle.epl_syntax.specs.declared.types.Native.TheVariants as native
use Rattle.epl_syntax.specs.Edentype.{native as native_type}
use Rattle.epl_syntax.specs.Kinds.{have_shapes}
use Rattle.epl_syntax.specs.Meaning.{operation_of}
use Rattle.journal.specs.declared.command.Command.{Command}
use Rattle.journal.specs.declared.event.Event.{Event}
use Rattle.journal.specs.declared.event.Event.TheVariants as event
use Rattle.journal.specs.declared.event.Entry.{Entry}
use Rattle.journal.specs.World.{World, Node, Eject, Active, StoreRequest, node_at, site_of}
use Rattle.journal.specs.Deliveries.{misfit_of}
use Rattle.journal.specs.Processes.{AllowsStart, invocation}
use Rattle.journal.specs.Step.{AllowsAt, AllowsEvent, Allows, IsActiveAnd, next}
use Rattle.journal.specs.Sites.{active_in}
use Rattle.history_laws.proofs.EveryNode.{at-its-site}
use Rattle.history_laws.proofs.Runs.{no-turn}
use Rattle.history_laws.proofs.CallsKeep.{kept-itself}
use Rattle.history_laws.proofs.Fits.{times}
use Rattle.history_laws.proofs.SiteEvents.{startable-there}
use Rattle.history_laws.proofs.Tasks.{FitsCall, FitsActive}
use Rattle.history_laws.proofs.SeatRuns.{SeatWorld}
use Rattle.stream_laws.proofs.Items.{and-first, same-some}
use Rattle.stream_laws.proofs.LinesTurns as of_lines
use Rattle.stream_laws.proofs.Roles.{LinesVars, lines_role, lines-lawful}
use Rattle.stream_laws.proofs.Stage.{IsActive, IsBody, IsChange, AreChanges, NoneOf, IsClean, IsEject, IsStage, starts-idle}
use Rattle.stream_laws.proofs.StagedNodes.{kept_now, active_now, own-eject}
use Rattle.stream_laws.proofs.Staged.{Staged, staged-next, kept-later}
use Rattle.stream_laws.proofs.Instances.{Given, around-lines}

-- what fills a Lines is a list of texts
data-texts : (ds : Data) → shape.data_shape ds shape.texts ≡ true → items_of ds ≡ map text (map text_in (items_of ds))
data-texts no_data is = refl
data-texts (data_and (text t) ds) is = ap (λ l. text t ∷ l) (data-texts ds is)
data-texts (data_and (number n) ds) is = absurd (cc is)
data-texts (data_and (truth b) ds) is = absurd (cc is)
data-texts (data_and (cap c) ds) is = absurd (cc is)
data-texts (data_and (list l) ds) is = absurd (cc is)

shapes-texts : (args : List Datum) → have_shapes args (shape.lists shape.texts ∷ []) ≡ true
    → items_in (argument 0 args) ≡ map text (map text_in (items_in (argument 0 args)))
shapes-texts [] is = absurd (cc is)
shapes-texts (list ds ∷ more) is = data-texts ds (and-first (shape.data_shape ds shape.texts) (have_shapes more []) is)
shapes-texts (number n ∷ more) is = absurd (cc is)
shapes-texts (truth b ∷ more) is = absurd (cc is)
shapes-texts (text t ∷ more) is = absurd (cc is)
shapes-texts (cap c ∷ more) is = absurd (cc is)

filled-with : (c : Call) → FitsCall (native_type native.Lines) (Some c) → c.operation ≡ codes "Fill"
    → items_in (argument 0 c.args) ≡ map text (map text_in (items_in (argument 0 c.args)))
filled-with c fits op = shapes-texts c.args (go (not (is_within (record { bits = 1 }) c.target.rights))
    (have_shapes c.args (shape.lists shape.texts ∷ []))
    (subst (λ n. with_item (operation_of (native_type native.Lines) n) (misfit_of c) (Some status.NoOperation) ≡ None) op fits))
  where
    go : (a b : Bool) → cond a (Some status.NoRight) (cond (not b) (Some status.BadArguments) None) ≡ None → b ≡ true
    go true b is = absurd (cc is)
    go false true is = refl
    go false false is = absurd (cc is)

module _ (u : Uid) (A : ℕ → List Datum) where
  abbrev pub Lists : List (List ℕ) → World → Type 0
  Lists texts w = Staged (lines_role texts) (lines-lawful texts) u A w

  -- 1. While it is not filled, its list may be any
  module _ (texts others : List (List ℕ)) (b : Bool) where
    requests-any : (rs : List StoreRequest) → NoneOf (lines_role texts) u A b rs → AreChanges (lines_role others) u A b rs
    requests-any [] h = tt
    requests-any (r ∷ rs) h = (λ same. absurd (h.0 same), requests-any rs h.1)

    none-any : (rs : List StoreRequest) → NoneOf (lines_role texts) u A b rs → NoneOf (lines_role others) u A b rs
    none-any [] h = tt
    none-any (r ∷ rs) h = (h.0, none-any rs h.1)

    vars-any : (kept : Bool) (vars : List Datum) → (lines.source vars).filled ≡ false → LinesVars texts kept vars
        → LinesVars others kept vars
    vars-any kept vars empty h = record {
      form = h.form;
      holds = record {
        items = λ full. absurd (let bad : true ≡ false = sym full ∙ empty in cc bad);
        saved = λ full. absurd (let bad : true ≡ false = sym full ∙ empty in cc bad);
      };
    }

    active-any : (kept : Bool) (it : Active) → (lines.source it.vars).filled ≡ false → it.crew.processes ≡ []
        → IsActive (lines_role texts) u A b kept it → IsActive (lines_role others) u A b kept it
    active-any kept it empty idle h = record {
      kind = h.kind;
      vars = vars-any kept it.vars empty h.vars;
      limits = h.limits;
      monitors = h.monitors;
      work = inl (idle, tt);
    }

    clean-of : (rs : List StoreRequest) (y : Eject) (it : Active) → (lines.source it.vars).filled ≡ false
        → ((lines.source it.vars).filled ≡ true) ⊎ IsClean (lines_role texts) u A b rs y → IsClean (lines_role texts) u A b rs y
    clean-of rs y it empty (inl full) = absurd (let bad : true ≡ false = sym full ∙ empty in cc bad)
    clean-of rs y it empty (inr clean) = clean

    stage-any : (rs : List StoreRequest) (o : Option Eject) (it : Active) → active_in o ≡ Some it → (lines.source it.vars).filled ≡ false
        → it.crew.processes ≡ [] → IsStage (lines_role texts) u A b rs o → IsStage (lines_role others) u A b rs o
    stage-any rs None it is empty idle h = absurd (cc is)
    stage-any rs (Some y) it is empty idle h =
        let x : IsActive (lines_role texts) u A b (is_some y.kept) it = subst
        (λ o. IfSome o (IsActive (lines_role texts) u A b (is_some y.kept))) is h.eject.active in
        let clean = clean-of rs y it empty (subst (λ o. IfSome o (λ (z : Active). ((lines.source z.vars).filled ≡ true)
        ⊎ IsClean (lines_role texts) u A b rs y)) is h.eject.filled) in
        record {
          requests = requests-any rs clean.requests;
          eject = record {
            active = subst (λ o. IfSome o (IsActive (lines_role others) u A b (is_some y.kept))) (sym is)
                (active-any (is_some y.kept) it empty idle x);
            filled = subst (λ o. IfSome o (λ (z : Active). ((lines.source z.vars).filled ≡ true) ⊎ IsClean (lines_role others) u A b rs y))
                (sym is)
                (inr (record { kept = clean.kept; doubt = clean.doubt; requests = none-any rs clean.requests }));
            kept = subst (λ o. IfSome o (IsBody (lines_role others) u A b)) (sym clean.kept) tt;
            doubt = subst (λ o. IfSome o (IsChange (lines_role others) u A b)) (sym clean.doubt) tt;
            still = h.eject.still;
          };
          there = h.there;
        }

    -- nothing is kept of it
    unkept : (rs : List StoreRequest) (o : Option Eject) (it : Active) → active_in o ≡ Some it → (lines.source it.vars).filled ≡ false
        → IsStage (lines_role texts) u A b rs o → with_item o (λ (e : Eject). is_some e.kept) false ≡ false
    unkept rs None it is empty h = refl
    unkept rs (Some y) it is empty h = ap is_some
        (clean-of rs y it empty (subst (λ o. IfSome o (λ (z : Active). ((lines.source z.vars).filled ≡ true)
        ⊎ IsClean (lines_role texts) u A b rs y)) is h.eject.filled)).kept

  not-kept : (texts : List (List ℕ)) (w : World) (it : Active) → active_now w u ≡ Some it → (lines.source it.vars).filled ≡ false
      → Lists texts w
      → kept_now w u ≡ false
  not-kept texts w it is empty h = go (node_at w u.node) refl is
    where
      go : (o : Option Node) → node_at w u.node ≡ o → active_in (with_item o (λ (z : Node). value_at uid_cmp u z.ejects) None) ≡ Some it
          → with_item (with_item o (λ (z : Node). value_at uid_cmp u z.ejects) None) (λ (e : Eject). is_some e.kept) false ≡ false
      go None at x = refl
      go (Some nd) at x = unkept texts texts (kept_now w u) nd.requests (value_at uid_cmp u nd.ejects) it x empty (h.node u.node nd at refl)

  lists-any : (texts others : List (List ℕ)) (w : World) (it : Active) → active_now w u ≡ Some it → (lines.source it.vars).filled ≡ false
      → it.crew.processes ≡ [] → Lists texts w → Lists others w
  lists-any texts others w it is empty idle h = record {
    node = λ n nd at here. stage-any texts others (kept_now w u) nd.requests (value_at uid_cmp u nd.ejects) it
        (ap active_in (sym (own-eject w n nd u at here)) ∙ is) empty idle (h.node n nd at here);
    said = λ k c st results at to place. (
      said (number_in (argument 0 (A k))) (came (Told st results)) (h.said k c st results at to place).0,
      (h.said k c st results at to place).1,
    );
    asks = λ k c p now at opened asker active. h.asks k c p now at opened asker active;
  }
    where
      said : (q : _) (c : Came) → of_lines.IsSaid (kept_now w u) texts q c → of_lines.IsSaid (kept_now w u) others q c
      said q (an_item t) x = absurd (let bad : true ≡ false = sym x.0 ∙ not-kept texts w it is empty h in cc bad)
      said q the_end x = absurd (let bad : true ≡ false = sym x.0 ∙ not-kept texts w it is empty h in cc bad)
      said q nothing x = tt

  -- 2. A step
  start-of : (ev : Event) → ((k : ℕ) × (p : ℕ) × (ev ≡ event.Start k u p)) ⊎ ((k p : ℕ) → ev ≡ event.Start k u p → ⊥)
  start-of (event.Start k v p) = go (eq_by_cmp uid_cmp v u) refl
    where
      go : (b : Bool) → eq_by_cmp uid_cmp v u ≡ b → ((j : ℕ) × (q : ℕ) × (event.Start k v p ≡ event.Start j u q))
          ⊎ ((j q : ℕ) → event.Start k v p ≡ event.Start j u q → ⊥)
      go true same = inl (k, p, ap (λ z. event.Start k z p) (eq-same uid_cmp uid_cmp-IsAntisymmetric v u same))
      go false apart = inr (λ j q is. (let same : v ≡ u = cc is in other same))
        where
          other : v ≡ u → ⊥
          other same = let bad : true ≡ false = sym own ∙ subst (λ z. eq_by_cmp uid_cmp z u ≡ false) same apart in cc bad
            where
              own : eq_by_cmp uid_cmp u u ≡ true
              own = rw (tied_itself uid_cmp_total u) refl
  start-of _ = inr (λ k p is. cc is)

  pub record Kept (w : World) : Type 0 where
    pub texts : List (List ℕ)
    pub lists : Lists texts w

  -- the list that it has then is the one that it had, where something of it was kept
  pub record Later (w later : World) (old : Kept w) : Type 0 where
    pub now : Kept later
    pub same : kept_now w u ≡ true → now.texts ≡ old.texts
    pub kept : kept_now w u ≡ true → kept_now later u ≡ true

  module _ (H : ℕ → Bool) (w : World) (c : Option Command) (e : Entry) (seat : SeatWorld H w) (allowed : Allows w c e)
      (given : (texts : List (List ℕ)) → Given (lines_role texts) (lines-lawful texts) u A H w c e.event)
      (args : (k : ℕ) (d : Call) → call_at (next w c e).traffic k ≡ Some d → d.args ≡ A k) (old : Kept w) where
    abbrev FilledBy : List (List ℕ) → Type 0
    FilledBy texts = (k p : ℕ) (x : Call) (it : Active) → e.event ≡ event.Start k u p → call_at w.traffic k ≡ Some x → x.target.uid ≡ u
        → active_now w u ≡ Some it → x.operation ≡ codes "Fill" → (lines.source it.vars).filled ≡ false
        → items_in (argument 0 x.args) ≡ map text texts

    with-list : (texts : List (List ℕ)) → FilledBy texts → Lists texts w → Lists texts (next w c e)
    with-list texts fills h = staged-next (lines_role texts) (lines-lawful texts) u A H w c e seat allowed
        (around-lines texts u A H w c e.event (given texts) fills) h args

    as-it-was : FilledBy old.texts → Later w (next w c e) old
    as-it-was fills = record {
      now = record { texts = old.texts; lists = with-list old.texts fills old.lists };
      same = λ x. refl;
      kept = kept-later (lines_role old.texts) (lines-lawful old.texts) u A H w c e seat allowed
          (around-lines old.texts u A H w c e.event (given old.texts) fills) old.lists;
    }

    starts : (k p : ℕ) (o : Option Command) → AllowsEvent w o (event.Start k u p) → (nd : Node) → node_at w u.node ≡ Some nd
        → IsActiveAnd (site_of w u.node nd) u (λ y it. AllowsStart w.traffic k p y it)
    starts k p None a nd at = at-its-site w u.node (λ s. AllowsAt s (event.Start k u p)) nd at a
    starts k p (Some y) a nd at = absurd (no-turn w y (event.Start k u p) refl a)

    idle : (k p : ℕ) → e.event ≡ event.Start k u p → (it : Active) → active_now w u ≡ Some it → it.crew.processes ≡ []
    idle k p is it active = go (node_at w u.node) refl active
      where
        part : (nd : Node) → node_at w u.node ≡ Some nd → (y : Eject) → value_at uid_cmp u nd.ejects ≡ Some y → y.active ≡ Some it
            → it.crew.processes ≡ []
        part nd at y is_y some = starts-idle (lines_role old.texts) u A (kept_now w u) (lines-lawful old.texts)
            (is_some y.kept) it y w.traffic k
            (subst (λ o. IfSome o (IsActive (lines_role old.texts) u A (kept_now w u) (is_some y.kept))) some
            (subst (λ o. IfSome o (IsEject (lines_role old.texts) u A (kept_now w u) nd.requests)) is_y
            (old.lists.node u.node nd at refl).eject).active)
            (subst (λ o. IsSomeAnd o (λ it. AllowsStart w.traffic k p y it)) some
            (subst (λ o. IsSomeAnd o (λ y. IsSomeAnd y.active (λ it. AllowsStart w.traffic k p y it))) is_y
            (starts k p c (subst (AllowsEvent w c) is allowed.event) nd at))).earliest

        eject : (nd : Node) → node_at w u.node ≡ Some nd → (o : Option Eject) → value_at uid_cmp u nd.ejects ≡ o → active_in o ≡ Some it
            → it.crew.processes ≡ []
        eject nd at None is_y x = absurd (cc x)
        eject nd at (Some y) is_y x = part nd at y is_y x

        go : (o : Option Node) → node_at w u.node ≡ o → active_in (with_item o (λ (z : Node). value_at uid_cmp u z.ejects) None) ≡ Some it
            → it.crew.processes ≡ []
        go None at x = absurd (cc x)
        go (Some nd) at x = eject nd at (value_at uid_cmp u nd.ejects) refl x

    -- what starts fits it
    fits-call : (k p : ℕ) → e.event ≡ event.Start k u p → (it : Active) → active_now w u ≡ Some it
        → FitsCall (native_type native.Lines) (call_at w.traffic k)
    fits-call k p is it active = go (node_at w u.node) refl active
      where
        part : (nd : Node) → node_at w u.node ≡ Some nd → (y : Eject) → value_at uid_cmp u nd.ejects ≡ Some y → y.active ≡ Some it
            → FitsCall (native_type native.Lines) (call_at w.traffic k)
        part nd at y is_y some = subst (λ t. FitsCall t (call_at w.traffic k)) stage.kind (fits.waiting k few)
          where
            stage : IsActive (lines_role old.texts) u A (kept_now w u) (is_some y.kept) it
            stage = subst (λ o. IfSome o (IsActive (lines_role old.texts) u A (kept_now w u) (is_some y.kept))) some
                (subst (λ o. IfSome o (IsEject (lines_role old.texts) u A (kept_now w u) nd.requests)) is_y
                (old.lists.node u.node nd at refl).eject).active

            fits : FitsActive w.types w.traffic y.queued it
            fits = subst (λ o. IfSome o (FitsActive w.types w.traffic y.queued)) some
                (seat.site.tasks w.traffic (kept-itself w.traffic) u.node nd at u y is_y)

            few : 1 ≤ times k y.queued
            few = (startable-there it w.traffic y.queued (invocation it.kind w.traffic k)
                (subst (λ o. IsSomeAnd o (λ it. AllowsStart w.traffic k p y it)) some
                (subst (λ o. IsSomeAnd o (λ y. IsSomeAnd y.active (λ it. AllowsStart w.traffic k p y it))) is_y
                (starts k p c (subst (AllowsEvent w c) is allowed.event) nd at))).earliest).0

        eject : (nd : Node) → node_at w u.node ≡ Some nd → (o : Option Eject) → value_at uid_cmp u nd.ejects ≡ o → active_in o ≡ Some it
            → FitsCall (native_type native.Lines) (call_at w.traffic k)
        eject nd at None is_y x = absurd (cc x)
        eject nd at (Some y) is_y x = part nd at y is_y x

        go : (o : Option Node) → node_at w u.node ≡ o → active_in (with_item o (λ (z : Node). value_at uid_cmp u z.ejects) None) ≡ Some it
            → FitsCall (native_type native.Lines) (call_at w.traffic k)
        go None at x = absurd (cc x)
        go (Some nd) at x = eject nd at (value_at uid_cmp u nd.ejects) refl x

    pub lists-next : Later w (next w c e) old
    lists-next = go (start-of e.event)
      where
        begun : (k p : ℕ) → e.event ≡ event.Start k u p → (o : Option Call) → call_at w.traffic k ≡ o → (a : Option Active)
            → active_now w u ≡ a
            → Later w (next w c e) old
        begun k p is None at a active = as-it-was (λ j q x it eq found to act op empty. absurd (let number : k ≡ j =
            (let s : event.Start k u p ≡ event.Start j u q = sym is ∙ eq in cc s) in
            let bad : None ≡ Some x = sym at ∙ ap (call_at w.traffic) number ∙ found in cc bad))
        begun k p is (Some x) at None active = as-it-was (λ j q y it eq found to act op empty. absurd
            (let bad : None ≡ Some it = sym active ∙ act in cc bad))
        begun k p is (Some x) at (Some it) active = by (lines.source it.vars).filled refl
          where
            by : (b : Bool) → (lines.source it.vars).filled ≡ b → Later w (next w c e) old
            by true full = as-it-was (λ j q y other eq found to act op empty. absurd (let one : it ≡ other = same-some (sym active ∙ act) in
                let bad : true ≡ false = sym full ∙ ap (λ (z : Active). (lines.source z.vars).filled) one ∙ empty in cc bad))
            by false empty =
                record {
                  now = record {
                    texts = map text_in (items_in (argument 0 x.args));
                    lists = with-list (map text_in (items_in (argument 0 x.args)))
                        (λ j q y other eq found to act op not_full. (let one : y ≡ x = same-some (sym found
                        ∙ sym (ap (call_at w.traffic) (let s : event.Start k u p ≡ event.Start j u q = sym is ∙ eq in cc s)) ∙ at) in
                        ap (λ (z : Call). items_in (argument 0 z.args)) one
                        ∙ filled-with x (subst (λ o. FitsCall (native_type native.Lines) o) at (fits-call k p is it active))
                        (ap (λ (z : Call). z.operation) (sym one) ∙ op)))
                        (lists-any old.texts (map text_in (items_in (argument 0 x.args))) w it active empty
                        (idle k p is it active) old.lists);
                  };
                  same = λ kept. absurd (let bad : true ≡ false = sym kept ∙ not-kept old.texts w it active empty old.lists in cc bad);
                  kept = λ kept. absurd (let bad : true ≡ false = sym kept ∙ not-kept old.texts w it active empty old.lists in cc bad);
                }

        go : ((k : ℕ) × (p : ℕ) × (e.event ≡ event.Start k u p)) ⊎ ((k p : ℕ) → e.event ≡ event.Start k u p → ⊥) → Later w (next w c e) old
        go (inr other) = as-it-was (λ k p x it is at to active op empty. absurd (other k p is))
        go (inl s) = begun s.0 s.1 s.2 (call_at w.traffic s.0) refl (active_now w u) refl
