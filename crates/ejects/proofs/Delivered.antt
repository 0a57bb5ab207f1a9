-- A request that is delivered in the node is delivered at the site.
use Rattle.std.proofs.Common.{◌≡◌, ℕ, Bool, true, false, cond, List, [], ◌∷◌, ◌++◌, Option, None, Some, refl, sym, ◌∙◌, ap}
use Rattle.std.specs.Prelude.{is_some}
use Rattle.std.specs.List.{AllByRecursion}
use Rattle.std.specs.Option.{option_map}
use Rattle.std.proofs.lemmas.Cmp.{tied_itself}
use Rattle.capability.specs.declared.Uid.{Uid}
use Rattle.capability.proofs.Uids.{uid_cmp_total}
use Rattle.eden_value.specs.declared.status.Status.{Status}
use Rattle.eden_value.specs.declared.status.Status.TheVariants as status
use Rattle.eden_model.specs.Map.{value_at, uid_cmp, with_item, same_uid}
use Rattle.eden_model.specs.Crew.{Invocation}
use Rattle.eden_model.specs.Traffic.{Traffic, Call, asked, held, call_at, changed_call, at_place, taken, next_message}
use Rattle.eject_table.specs.Table.{active_in}
use Rattle.epl_syntax.specs.Edentype.{Edentype}
use Rattle.journal.specs.World.{Active, Eject, Site, eject_in, on_eject, on_traffic}
use Rattle.journal.specs.Ejects.{is_there}
use Rattle.journal.specs.Deliveries.{refusal, refusal_at, requested, AllowsRequest}
use Rattle.journal.specs.Processes.{class_of}
use Rattle.active_part.specs.Body.{Body, active_of, calls_of}
use Rattle.ejects.specs.Parts.{Parts, SameNode, Known, known, body_at, queue_of, queue_at, held_of, HasClass, HasClasses, Stands}
use Rattle.active_part.specs.Bodies.{joined_body}
use Rattle.ejects.specs.Refusals.{refusal_of}
use Rattle.ejects.specs.View.{with_body}
use Rattle.ejects.proofs.Stays.{Keeps, OnlyAt, stays-on_traffic, stays-at, class-kept}
use Rattle.ejects.proofs.Keeping.{keeps-both, keeps-taken, keeps-changed, keeps-replied}

-- 1. The refusal, by what is known of the Eject

refusal-known : (c : Call) (o : Option Eject) → with_item o (refusal c) (Some status.Gone) ≡ refusal_of c (known o)
refusal-known c None = refl
refusal-known c (Some e) = refl

pub refusal-held : (n : Parts) (s : Site) (c : Call) → Stands n s → refusal_at s c ≡ refusal_of c (held_of n c.target.uid)
refusal-held n s c h = refusal-known c (eject_in s c.target.uid) ∙ ap (refusal_of c) (h.ejects c.target.uid)

-- 2. It is refused

pub refused-stands : (n : Parts) (s : Site) (k : ℕ) (why : Status) → Stands n s → Stands n (requested k (Some why) s)
refused-stands n s k why h = stays-on_traffic n s _
    (keeps-both s.traffic (taken k s.traffic) _ (keeps-taken k s.traffic) (keeps-replied why [] k (taken k s.traffic))) h

-- 3. It joins a queue

held_now : ℕ → Traffic → Traffic
held_now k t = changed_call k (at_place held) (taken k t)

keeps-held : (k : ℕ) (t : Traffic) → Keeps t (changed_call k (at_place held) (taken k t))
keeps-held k t = keeps-both t (taken k t) (changed_call k (at_place held) (taken k t)) (keeps-taken k t)
    (keeps-changed k (at_place held) (taken k t) (λ c. refl))

requested-is : (s : Site) (k : ℕ) (c : Call) → call_at s.traffic k ≡ Some c
    → requested k None s ≡ on_eject c.target.uid (λ e. record e { queued = e.queued ++ k ∷ [] })
    (on_traffic (λ t. changed_call k (at_place held) (taken k t)) s)
requested-is s k c is = rw is refl

abbrev pub with_queued_call : ℕ → Eject → Eject
with_queued_call k e = record e { queued = e.queued ++ k ∷ [] }

-- an Eject that is there is found
pub record FoundEject (o : Option Eject) (h : Known) : Type 0 where
  pub eject : Eject
  pub is : o ≡ Some eject
  pub active : eject.active ≡ h.active
  pub queued : eject.queued ≡ h.queued
  pub there : is_there eject ≡ h.there

pub found-eject : (o : Option Eject) (h : Known) → known o ≡ h → h.there ≡ true → FoundEject o h
found-eject None h is there = absurd (let bad : false ≡ true = ap (λ (k : Known). k.there) is ∙ there in cc bad)
found-eject (Some e) h is there = record {
  eject = e;
  is = refl;
  active = ap (λ (k : Known). k.active) is;
  queued = ap (λ (k : Known). k.queued) is;
  there = ap (λ (k : Known). k.there) is;
}

pub there-body : (n : Parts) (u : Uid) (b : Body) → body_at n u ≡ Some b → is_some (n.standing u) ≡ true
there-body n u b is = go (n.standing u) is
  where
    go : (o : Option (Option Body)) → active_in o ≡ Some b → is_some o ≡ true
    go None is = absurd (let bad : None ≡ Some b = is in cc bad)
    go (Some x) is = refl

pub found-active : (n : Parts) (s : Site) (u : Uid) (b : Body) → Stands n s → body_at n u ≡ Some b → FoundEject (eject_in s u) (held_of n u)
found-active n s u b h is = found-eject (eject_in s u) (held_of n u) (h.ejects u) (there-body n u b is)

-- with another active part
abbrev pub with_standing : Uid → Option Body → Parts → Parts
with_standing u x n = record n { standing = λ v. cond (same_uid v u) (Some x) (n.standing v) }

pub table-at : (n : Parts) (u : Uid) (x : Option Body) → (with_standing u x n).standing u ≡ Some x
table-at n u x = rw (tied_itself uid_cmp_total u) refl

pub table-other : (n : Parts) (u v : Uid) (x : Option Body) → same_uid v u ≡ false → (with_standing u x n).standing v ≡ n.standing v
table-other n u v x other = rw other refl

pub only-table : (n : Parts) (u : Uid) (x : Option Body) → OnlyAt u n (with_standing u x n)
only-table n u x = record {
  node = record { number = refl; types = refl; epoch = refl; last_serial = refl };
  others = λ v other. record { standing = table-other n u v x other; waiting = refl };
}

-- the active part is another one, and there is as much
pub body-now : (n : Parts) (u : Uid) (b : Body) → body_at (with_body u b n) u ≡ Some b
body-now n u b = ap active_in (table-at n u (Some b))

pub same-known : {a b : Option Active} {p q : List ℕ} {x y : Bool} → a ≡ b → p ≡ q → x ≡ y
    → ◌≡◌ {A = Known} (record { active = a; queued = p; there = x }) (record { active = b; queued = q; there = y })
same-known a q t = λ i. record { active = a i; queued = q i; there = t i }

-- an active Eject as the site has it
pub record IsActiveAs (b : Body) (e : Eject) : Type 0 where
  pub active : e.active ≡ Some (active_of b)
  pub queued : e.queued ≡ calls_of b.crew.queued

-- what is known of an Eject with this active part
abbrev pub known_body : Body → Known
known_body b = record { active = Some (active_of b); queued = calls_of b.crew.queued; there = true }

pub active-as : (n : Parts) (u : Uid) (b : Body) (e : Eject) → known (Some e) ≡ held_of n u → body_at n u ≡ Some b → IsActiveAs b e
active-as n u b e is at = record {
  active = ap (λ (k : Known). k.active) is ∙ ap (option_map active_of) at;
  queued = ap (λ (k : Known). k.queued) is ∙ ap (λ o. queue_of o (value_at uid_cmp u n.waiting)) at;
}

-- A change of the active part of an Eject, in the node and at the site.
pub stays-body : (n : Parts) (s : Site) (u : Uid) (b : Body) (new : Body) (f : Eject → Eject) → Stands n s → body_at n u ≡ Some b
    → ((e : Eject) → IsActiveAs b e → known (Some (f e)) ≡ known_body new)
    → HasClasses s.traffic (Some new) → Stands (with_body u new n) (on_eject u f s)
stays-body n s u b new f h is alike classes =
    let found = found-active n s u b h is in
    let here : known (Some found.eject) ≡ held_of n u = ap known (sym found.is) ∙ h.ejects u in
    stays-at n (with_body u new n) s u f found.eject found.is (only-table n u (Some new))
    (alike found.eject (active-as n u b found.eject here is) ∙ held) (rw (body-now n u new) classes) h
  where
    held : known_body new ≡ held_of (with_body u new n) u
    held = rw (table-at n u (Some new)) refl

classes-push : (t : Traffic) (kind : Edentype) (is : List Invocation) (i : Invocation) → AllByRecursion (HasClass t kind) is
    → HasClass t kind i → AllByRecursion (HasClass t kind) (is ++ i ∷ [])
classes-push t kind [] i h c = (c, tt)
classes-push t kind (x ∷ is) i h c = (h.0, classes-push t kind is i h.1 c)

calls-push : (is : List Invocation) (i : Invocation) → calls_of (is ++ i ∷ []) ≡ calls_of is ++ i.call ∷ []
calls-push [] i = refl
calls-push (x ∷ is) i = ap (λ l. x.call ∷ l) (calls-push is i)

pub class-now : (n : Parts) (s : Site) (u : Uid) (b : Body) → Stands n s → body_at n u ≡ Some b → HasClasses s.traffic (Some b)
class-now n s u b h is = rw is at (h.classes u)

-- it joins the queue of an active Eject
pub joins-active : (n : Parts) (s : Site) (k class : ℕ) (c : Call) (b : Body) → Stands n s → call_at s.traffic k ≡ Some c
    → body_at n c.target.uid ≡ Some b → class ≡ class_of b.kind c
    → Stands (with_body c.target.uid (joined_body (record { call = k; class = class }) b) n) (requested k None s)
unfolding on_traffic
joins-active n s k class c b h at is in_class = rw (requested-is s k c at)
    (stays-body n s1 c.target.uid b (joined_body i b) (with_queued_call k) h1 is alike
    (classes-push s1.traffic b.kind b.crew.queued i (class-now n s1 c.target.uid b h1 is) class1))
  where
    i : Invocation
    i = record { call = k; class = class }

    s1 : Site
    s1 = on_traffic (λ t. changed_call k (at_place held) (taken k t)) s

    h1 : Stands n s1
    h1 = stays-on_traffic n s (λ t. changed_call k (at_place held) (taken k t)) (keeps-held k s.traffic) h

    class1 : HasClass s1.traffic b.kind i
    class1 = class-kept s.traffic (changed_call k (at_place held) (taken k s.traffic)) (keeps-held k s.traffic) b.kind i (rw at in_class)

    alike : (e : Eject) → IsActiveAs b e → known (Some (with_queued_call k e)) ≡ known_body (joined_body i b)
    alike e was = same-known was.active (ap (λ l. l ++ k ∷ []) was.queued ∙ sym (calls-push b.crew.queued i)) (rw was.active refl)

-- it joins the queue of a passive one
pub joins-passive : (n new : Parts) (s : Site) (k : ℕ) (c : Call) → Stands n s → call_at s.traffic k ≡ Some c
    → body_at n c.target.uid ≡ None
    → is_some (n.standing c.target.uid) ≡ true → ((v : Uid) → new.standing v ≡ n.standing v) → SameNode n new
    → value_at uid_cmp c.target.uid new.waiting ≡ Some (queue_at n c.target.uid ++ k ∷ [])
    → ((v : Uid) → same_uid v c.target.uid ≡ false → value_at uid_cmp v new.waiting ≡ value_at uid_cmp v n.waiting)
    → Stands new (requested k None s)
joins-passive n new s k c h at none there table node here others = rw (requested-is s k c at)
    (stays-at n new s1 u (with_queued_call k) found.eject found.is
    (record { node = node; others = λ v other. record { standing = table v; waiting = others v other } })
    (same-known (found.active ∙ ap (option_map active_of) (sym body)) (ap (λ l. l ++ k ∷ []) found.queued ∙ sym queue)
    (found.there ∙ ap is_some (sym (table u))))
    (rw (body, none) tt) h1)
  where
    u : Uid
    u = c.target.uid

    s1 : Site
    s1 = on_traffic (λ t. changed_call k (at_place held) (taken k t)) s

    h1 : Stands n s1
    h1 = stays-on_traffic n s (λ t. changed_call k (at_place held) (taken k t)) (keeps-held k s.traffic) h

    found : FoundEject (eject_in s1 u) (held_of n u)
    found = found-eject (eject_in s1 u) (held_of n u) (h1.ejects u) there

    body : body_at new u ≡ body_at n u
    body = ap active_in (table u)

    queue : queue_at new u ≡ queue_at n u ++ k ∷ []
    queue = ap (λ o. queue_of o (value_at uid_cmp u new.waiting)) (body ∙ none) ∙ ap (queue_of None) here

-- 4. It is allowed

pub request-allowed : (n : Parts) (s : Site) (k a b : ℕ) (c : Call) (refused : Option Status) → Stands n s
    → next_message s.traffic a b ≡ Some k → call_at s.traffic k ≡ Some c → c.place ≡ asked
    → refusal_of c (held_of n c.target.uid) ≡ refused → AllowsRequest s k a b refused
request-allowed n s k a b c refused h first at place is =
    record { first_in_queue = first; delivered = rw at (place, sym (refusal-held n s c h ∙ is)) }
