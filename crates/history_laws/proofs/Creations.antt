-- What is created is what comes next at its node, and it is there afterwards.
use Rattle.std.proofs.Common.{◌≡◌, ◌+◌, ℕ, nat_le, Bool, true, cond, List, Option, None, Some, Result, Ok, Err, is_some, refl, sym, ◌∙◌}
use Rattle.std.proofs.Common.{ap, subst}
use Rattle.std.specs.Prelude.{IsTrue, IsSomeAnd}
use Rattle.std.specs.Option.{option_map}
use Rattle.std.specs.FinMap.Entries.{find-put}
use Rattle.std.proofs.lemmas.Cmp.{tied_itself}
use Rattle.capability.specs.declared.Uid.{Uid}
use Rattle.capability.proofs.Uids.{uid_cmp_total}
use Rattle.eden_value.specs.Datum.{Datum}
use Rattle.eden_value.specs.declared.status.Status.{Status}
use Rattle.eden_value.specs.declared.status.Status.TheVariants as status
use Rattle.eden_model.specs.Map.{with_item, uid_cmp, value_at}
use Rattle.eden_model.specs.Crew.{Invocation, Process as Worker}
use Rattle.epl_syntax.specs.declared.effect.Effect.{Effect}
use Rattle.epl_syntax.specs.declared.effect.Effect.TheVariants as effect
use Rattle.epl_syntax.specs.Edentype.{Edentype}
use Rattle.epl_syntax.specs.Meaning.{Turned, type_of, first_values}
use Rattle.journal.specs.declared.command.Command.{Command}
use Rattle.journal.specs.declared.command.Command.TheVariants as command
use Rattle.journal.specs.declared.event.Event.TheVariants as event
use Rattle.journal.specs.declared.event.Shown.TheVariants as shown
use Rattle.journal.specs.World.{World, Site, Node, Eject, Active, node_at, eject_at, at_node, site_of, eject_in, on_eject, on_node}
use Rattle.journal.specs.Ejects.{fresh, next_uid, on_active, is_there, born}
use Rattle.journal.specs.Processes.{CreatesKnown, turn_of, turned, turn_taken, active_turn, process_turn, serving, worker_at, shown_of}
use Rattle.journal.specs.Processes.{shown_creation, creates, effected}
use Rattle.journal.specs.Commands.{AllowsCommand, born_as, made, type_name_of}
use Rattle.journal.specs.Step.{AllowsAt}
use Rattle.journal.specs.Sites.{InOrder}
use Rattle.history_laws.proofs.Frame.{node-at_same, after_at}
use Rattle.history_laws.proofs.ChangeLaw.{there-on_eject}
use Rattle.history_laws.proofs.EveryNode.{IsNext, next-following, made-next}
use Rattle.history_laws.proofs.Ordered.{count-changed, there-active}

-- 1. At a site

-- what is born is there
born-there : (v : Uid) (it : Active) (s : Site) → is_some (eject_in (born v it s) v) ≡ true
unfolding on_node
born-there v it s = ap is_some (find-put uid_cmp uid_cmp_total v v _ s.node.ejects) ∙ rw (tied_itself uid_cmp_total v) refl

-- a change of an active part changes nothing of what comes next
pub next-active : (u : Uid) (f : Active → Active) (s : Site) → InOrder s.node.ejects → next_uid (on_eject u (on_active f) s) ≡ next_uid s
unfolding on_eject
next-active u f s ordered = ap (λ n. cond (nat_le 4096 n) (Err status.TooMany)
    (cond (nat_le 4294967295 s.node.last_serial) (Err status.SerialsSpent)
    (Ok (record { node = s.number; epoch = with_item s.node.epoch (λ e. e) 0; serial = s.node.last_serial + 1 }))))
    (count-changed is_there u (on_active f) (there-active f) s.node.ejects ordered)

types-active : (u : Uid) (f : Eject → Eject) (s : Site) → (on_eject u f s).types ≡ s.types
unfolding on_eject
types-active u f s = refl

creates-there : (u : Uid) (p : ℕ) (t : Option Edentype) (v : Uid) (s : Site) → IsTrue (is_some t)
    → is_some (eject_in (creates u p t (Ok v) s) v) ≡ true
creates-there u p None v s known = absurd (cc known)
creates-there u p (Some t) v s known = there-on_eject u _ (born v (fresh t (first_values t)) s) v
    (born-there v (fresh t (first_values t)) s)

-- what an effect shows as created comes next, and is there after it
pub record Creates (s : Site) (e : Effect) (v : Uid) : Type 0 where
  pub comes_next : next_uid s ≡ Ok v
  pub is_born : (now : Site) → now.types ≡ s.types → next_uid now ≡ next_uid s
      → (reach : ℕ → Bool) (u : Uid) (p : ℕ) (i : Option Invocation) (t : Edentype) (vars : List Datum)
      → is_some (eject_in (effected reach u p i t vars e now) v) ≡ true

created-effect : (s : Site) (i : Option Invocation) (e : Effect) (v : Uid) → shown.Created v ≡ shown_of s i e → CreatesKnown s.types e
    → Creates s e v
created-effect s i (effect.Create type_name) v is known = record {
  comes_next = gives;
  is_born = λ now types same reach u p i t vars. subst
      (λ (r : Result Uid Status). is_some (eject_in (creates u p (type_of now.types type_name) r now) v) ≡ true) (sym (same ∙ gives))
      (creates-there u p (type_of now.types type_name) v now (subst (λ ts. IsTrue (is_some (type_of ts type_name))) (sym types) known));
}
  where
    go : (r : Result Uid Status) → shown.Created v ≡ shown_creation r → r ≡ Ok v
    go (Ok u) e = cc e
    go (Err why) e = absurd (cc e)

    gives : next_uid s ≡ Ok v
    gives = go (next_uid s) is
created-effect s None (effect.Return results) v is known = absurd (cc is)
created-effect s (Some i) (effect.Return results) v is known = absurd (cc is)
created-effect s i effect.Checkpoint v is known = absurd (cc is)
created-effect s i effect.Deactivate v is known = absurd (cc is)
created-effect s i effect.Destroy v is known = absurd (cc is)
created-effect s i (effect.Lock m) v is known = absurd (cc is)
created-effect s i (effect.Leave m) v is known = absurd (cc is)
created-effect s i (effect.Wait c) v is known = absurd (cc is)
created-effect s i (effect.Signal c) v is known = absurd (cc is)
created-effect s i effect.Yield v is known = absurd (cc is)
created-effect s i effect.End v is known = absurd (cc is)
created-effect s i (effect.Fault cause) v is known = absurd (cc is)
created-effect s i (effect.Invoke target operation args) v is known = absurd (cc is)

-- what holds of an item that is there, whichever it is
pub taken : {X : Type 0} (o : Option X) (P : X → Type 0) (C : Type 0) → IsSomeAnd o P → ((x : X) → o ≡ Some x → P x → C) → C
taken None P C p use_it = absurd p
taken (Some x) P C p use_it = use_it x refl p

-- a process that creates
pub record Makes (s : Site) (u : Uid) (p : ℕ) (v : Uid) : Type 0 where
  pub comes_next : next_uid s ≡ Ok v
  pub is_born : (reach : ℕ → Bool) → is_some (eject_in (process_turn reach u p s) v) ≡ true

turn-is : (reach : ℕ → Bool) (u : Uid) (p : ℕ) (s : Site) (e : Eject) (a : Active) (t : Turned) → eject_in s u ≡ Some e
    → e.active ≡ Some a → turn_of u a p ≡ Some t
    → process_turn reach u p s ≡ turn_taken reach u p a t s
turn-is reach u p s e a t is_e is_a is_t = ap (λ o. with_item o (λ e. with_item e.active (λ it. active_turn reach u p it s) s) s) is_e
    ∙ ap (λ o. with_item o (λ it. active_turn reach u p it s) s) is_a ∙ ap (λ o. with_item o (λ t. turn_taken reach u p a t s) s) is_t

pub process-makes : (s : Site) (u : Uid) (p : ℕ) (v : Uid) → InOrder s.node.ejects → AllowsAt s (event.Process u p (shown.Created v))
    → Makes s u p v
process-makes s u p v ordered allowed =
    taken (eject_in s u) _ (Makes s u p v) allowed (λ e is_e active.
    taken e.active _ (Makes s u p v) active (λ a is_a works.
    taken (worker_at a p) _ (Makes s u p v) works (λ q is_q turn.
    taken (turn_of u a p) _ (Makes s u p v) turn.shows (λ t is_t shows. at e a q t is_e is_a is_t shows
    (subst (λ o. IsSomeAnd o (λ (t : Turned). CreatesKnown s.types t.effect)) is_t turn.known)))))
  where
    at : (e : Eject) (a : Active) (q : Worker) (t : Turned) → eject_in s u ≡ Some e → e.active ≡ Some a → turn_of u a p ≡ Some t
        → shown.Created v ≡ shown_of s q.serves t.effect → CreatesKnown s.types t.effect → Makes s u p v
    at e a q t is_e is_a is_t shows known = let x = created-effect s q.serves t.effect v shows known in record {
      comes_next = x.comes_next;
      is_born = λ reach. ap (λ (now : Site). is_some (eject_in now v)) (turn-is reach u p s e a t is_e is_a is_t)
          ∙ x.is_born (on_eject u (on_active (turned p t)) s) (types-active u (on_active (turned p t)) s)
          (next-active u (turned p t) s ordered) reach u p (serving a p) a.kind t.vars;
    }

-- 2. In the world

there-at : (w : World) (n : ℕ) (f : Site → Site) (it : Node) (v : Uid) → node_at w n ≡ Some it → v.node ≡ n
    → is_some (eject_in (f (site_of w n it)) v) ≡ true → is_some (eject_at (at_node n f w) v) ≡ true
there-at w n f it v is number there = ap (λ m. is_some (with_item (node_at (at_node n f w) m) (λ jt. value_at uid_cmp v jt.ejects) None))
    number
    ∙ ap (λ o. is_some (with_item o (λ jt. value_at uid_cmp v jt.ejects) None)) (node-at_same n f w ∙ ap (option_map (after_at n f w)) is)
    ∙ there

pub process-there : (w : World) (n : ℕ) (reach : ℕ → Bool) (u : Uid) (p : ℕ) (it : Node) (v : Uid) → node_at w n ≡ Some it
    → Makes (site_of w n it) u p v
    → IsNext w v × (is_some (eject_at (at_node n (process_turn reach u p) w) v) ≡ true)
process-there w n reach u p it v is makes =
    let number : v.node ≡ n = ap (λ (x : Uid). x.node) (next-following (site_of w n it) v makes.comes_next) in (
      subst (λ m. IsSomeAnd (with_item (node_at w m) (λ jt. Some (site_of w m jt)) None) (λ s. next_uid s ≡ Ok v)) (sym number)
          (rw is makes.comes_next),
      there-at w n (process_turn reach u p) it v is number (makes.is_born reach),
    )

pub made-there : (w : World) (c : Command) (name : List ℕ) (why : Status) (u : Uid) → AllowsCommand w c (event.Made name why (Some u))
    → is_some (eject_at (made name (type_name_of c) (Some u) w) u) ≡ true
made-there w (command.Create said n type_name) name why u allowed = go (type_of w.types type_name) allowed.1 (node_at w u.node) refl
    (made-next w (command.Create said n type_name) name why u allowed)
  where
    go : (t : Option Edentype) → IsTrue (is_some t) → (o : Option Node) → node_at w u.node ≡ o
        → IsSomeAnd (with_item o (λ it. Some (site_of w u.node it)) None) (λ s. next_uid s ≡ Ok u)
        → is_some (eject_at (born_as u t w) u) ≡ true
    go None known o at is = absurd (cc known)
    go (Some t) known None at is = absurd is
    go (Some t) known (Some it) at is = there-at w u.node (born u (fresh t (first_values t))) it u at refl
        (born-there u (fresh t (first_values t)) (site_of w u.node it))
made-there w _ name why u allowed = absurd allowed
