-- An Eject that is created in a history is held by no image and is created once.
use Rattle.std.proofs.Common.{◌≡◌, ◌⊎◌, inl, inr, ℕ, true, List, [], ◌∷◌, Option, None, Some, is_some, refl, ap, sym, ◌∙◌, subst}
use Rattle.capability.specs.declared.Uid.{Uid}
use Rattle.eden_model.specs.Map.{with_item, value_at, uid_cmp}
use Rattle.epl_syntax.specs.declared.types.Native.{Native}
use Rattle.epl_syntax.specs.Edentype.{native as of_native}
use Rattle.journal.specs.World.{World, Node, Eject, node_at, eject_at}
use Rattle.capability.specs.declared.Cap.{Cap}
use Rattle.journal.specs.declared.command.Command.{Command}
use Rattle.journal.specs.declared.event.Event.{Event}
use Rattle.journal.specs.declared.event.Event.TheVariants as event
use Rattle.journal.specs.declared.event.Entry.{Entry}
use Rattle.journal.specs.Step.{next}
use Rattle.journal.specs.Run.{Step, EachStep, AllowsLookUp, Leads, beginning, looked_up, steps}
use Rattle.journal.specs.LegalRun.{created_by, IsNew, NotCreatedIn, opening_world, numbered}
use Rattle.history_laws.proofs.EveryNode.{all-next, all-same_nodes}
use Rattle.history_laws.proofs.UidRuns.{IsGiven, new-next, given, there-next}
use Rattle.history_laws.proofs.UidTurns.{kept-fit}
use Rattle.history_laws.proofs.Uids.{Fit, OfNode, AllFit, CreatedIn}
use Rattle.history_laws.proofs.NoUidTwice.{fit-opening, no-uid-twice}
use Rattle.history_laws.proofs.Runs.{Any, of-any, each-step, nodes-looked_up, world-booting}
use Rattle.stream_laws.specs.Chains.{IsCreatedIn, type_at}
use Rattle.stream_laws.specs.Streams.{CreatedAreNew}

-- 1. What holds of none that a history creates
pub asks-none : (w : World) (name : List ℕ) (target : Option Cap) (path : List (List ℕ)) (e : Event) → AllowsLookUp w name target path e
    → created_by e ≡ None
asks-none w name (Some target) path (event.Asked k said at_once) allowed = refl
asks-none w name None path (event.Void said) allowed = refl
asks-none w name target path _ allowed = absurd allowed

by-created : (G : Uid → Type 0) (w later : World) (new : Option Uid) → IsGiven w later new → AllFit G w → (u : Uid) → new ≡ Some u → G u → ⊥
by-created G w later None x all u is g = cc is
by-created G w later (Some v) x all u is g = (new-next G w v all x.0).1 (subst G (let same : v ≡ u = cc is in sym same) g)

pub none-created : (G : Uid → Type 0) (w : World) (nodes : ℕ) (cs : List Command) (history : List Entry)
    → AllFit G (beginning w nodes cs).world
    → Leads (beginning w nodes cs) history
    → EachStep (λ past s. (u : Uid) → created_by s.entry.event ≡ Some u → G u → ⊥) [] (steps (beginning w nodes cs) history)
none-created G w nodes cs history all leads = each-step Any (λ past w. AllFit G w) (λ past s. (u : Uid) → created_by s.entry.event ≡ Some u
    → G u → ⊥)
    (record {
      entries = λ past w c e any allowed i. (
        by-created G w (next w c e) (created_by e.event) (there-next w c e (created_by e.event) (given G w c e.event allowed.event i)) i,
        all-next (λ n it. Fit (OfNode G n) it) w c e (kept-fit G w e.event) allowed i,
      );
      look_ups = λ past w name target path e any allowed plain i. (
        (λ u is g. (let bad : None ≡ Some u = sym (asks-none w name target path e.event allowed) ∙ is in cc bad)),
        all-same_nodes (λ n it. Fit (OfNode G n) it) w (looked_up w name target path e.event)
            (nodes-looked_up w name target path e.event) i,
      );
    }) (beginning w nodes cs) [] history (of-any 1 nodes w cs) all leads

-- 2. Once
abbrev New : List Step → Step → Type 0
New past s = IsNew s.world past (created_by s.entry.event)

abbrev Typed : Uid → Native → List Step → Step → Type 0
Typed u n past s = created_by s.entry.event ≡ Some u → type_at s.later u ≡ Some (of_native n)

-- behind a step that created it no other does
abbrev Created : Uid → List Step → Type 0
Created u [] = ⊥
Created u (s ∷ past) = (created_by s.entry.event ≡ Some u) ⊎ Created u past

not-both : (u : Uid) (past : List Step) → Created u past → NotCreatedIn past u → ⊥
not-both u [] h none = h
not-both u (s ∷ past) (inl is) none = none.0 is
not-both u (s ∷ past) (inr h) none = not-both u past h none.1

never-again : (u : Uid) (n : Native) (past run : List Step) → EachStep New past run → Created u past → EachStep (Typed u n) past run
never-again u n past [] new h = tt
never-again u n past (s ∷ run) new h = (
  λ is. absurd (not-both u past h (later (created_by s.entry.event) is new.0)),
  never-again u n (s ∷ past) run new.1 (inr h),
)
  where
    later : (o : Option Uid) → o ≡ Some u → IsNew s.world past o → NotCreatedIn past u
    later None is x = absurd (cc is)
    later (Some v) is x = subst (NotCreatedIn past) (let same : v ≡ u = cc is in same) x.1

-- none of the steps before the one that created it did
not-before : (u : Uid) (n : Native) (past run : List Step) → EachStep New past run → IsCreatedIn run u n → NotCreatedIn past u
not-before u n past [] new h = absurd h
not-before u n past (s ∷ run) new (inl h) = later (created_by s.entry.event) h.0 new.0
  where
    later : (o : Option Uid) → o ≡ Some u → IsNew s.world past o → NotCreatedIn past u
    later None is x = absurd (cc is)
    later (Some v) is x = subst (NotCreatedIn past) (let same : v ≡ u = cc is in same) x.1
not-before u n past (s ∷ run) new (inr h) = (not-before u n (s ∷ past) run new.1 h).1

each-typed : (u : Uid) (n : Native) (past run : List Step) → EachStep New past run → IsCreatedIn run u n → EachStep (Typed u n) past run
each-typed u n past [] new h = absurd h
each-typed u n past (s ∷ run) new (inl h) = (λ is. h.1, never-again u n (s ∷ past) run new.1 (inl h.0))
each-typed u n past (s ∷ run) new (inr h) = (
  λ is. absurd ((not-before u n (s ∷ past) run new.1 h).0 is),
  each-typed u n (s ∷ past) run new.1 h,
)

-- 3. No image holds it
none-there : (G : Uid → Type 0) (u : Uid) (n : Native) (past run : List Step)
    → EachStep (λ past s. (u : Uid) → created_by s.entry.event ≡ Some u → G u → ⊥) past run → IsCreatedIn run u n → G u → ⊥
none-there G u n past [] each h g = h
none-there G u n past (s ∷ run) each (inl h) g = each.0 u h.0 g
none-there G u n past (s ∷ run) each (inr h) g = none-there G u n (s ∷ past) run each.1 h g

absent : (o : Option Eject) → (is_some o ≡ true → ⊥) → o ≡ None
absent None h = refl
absent (Some e) h = absurd (h refl)

fits-of : (w : World) → AllFit (CreatedIn []) w → AllFit (λ u. is_some (eject_at w u) ≡ true) w
fits-of w all n it at = record {
  up_keeps = (all n it at).up_keeps;
  doubt_is_next = (all n it at).doubt_is_next;
  behind = (all n it at).behind;
  in_order = (all n it at).in_order;
  all_given = λ u g. (all n it at).behind u
      (sym (ap is_some (ap (λ m. with_item (node_at w m) (λ (z : Node). value_at uid_cmp u z.ejects) None) g.0
      ∙ ap (λ o. with_item o (λ (z : Node). value_at uid_cmp u z.ejects) None) at)) ∙ g.1);
}

pub created-are-new : CreatedAreNew
created-are-new layout script disks history lays fits begins u n made = (
  absent (eject_at w u) (none-there (λ u. is_some (eject_at w u) ≡ true) u n [] _
      (none-created (λ u. is_some (eject_at w u) ≡ true) w script.nodes script.commands history
      (subst (AllFit (λ u. is_some (eject_at w u) ≡ true)) (sym (world-booting 1 script.nodes w script.commands))
      (fits-of w (fit-opening layout (numbered disks) lays fits))) begins) made),
  each-typed u n [] _ (no-uid-twice layout script disks history lays fits begins) made,
)
  where
    w : World
    w = opening_world layout script disks
