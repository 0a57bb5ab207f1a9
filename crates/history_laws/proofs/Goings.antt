-- The calls go on: what each change of the messages leaves of a call.
use Rattle.std.proofs.Common.{◌≡◌, ◌==◌, ℕ, nat_le, Bool, true, false, cond, ◌||◌, List, [], ◌∷◌, Option, None, Some, is_some, refl, sym}
use Rattle.std.proofs.Common.{◌∙◌, ap, subst, arith, inl, inr}
use Rattle.std.specs.Prelude.{IsSomeAnd, ◌⊎◌}
use Rattle.std.specs.Option.{option_map}
use Rattle.std.specs.Ordering.{nat_cmp, eq_by_cmp}
use Rattle.capability.specs.declared.Uid.{Uid}
use Rattle.capability.specs.declared.Cap.{Cap}
use Rattle.capability.specs.declared.TheConstants.{MESSAGE_LIMIT}
use Rattle.eden_value.specs.Datum.{Datum}
use Rattle.eden_value.specs.declared.status.Status.{Status}
use Rattle.eden_value.specs.declared.status.Status.TheVariants as status
use Rattle.eden_codec.specs.Spelling.{values_size}
use Rattle.eden_model.specs.Map.{with_item, each_value}
use Rattle.eden_model.proofs.Numbers.{same-true}
use Rattle.eden_model.specs.Crew.{Invocation}
use Rattle.eden_model.specs.Traffic.{asked, held, answered, done as over, Traffic, Call, call_at, target_station, next_call}
use Rattle.eden_model.specs.Traffic.{changed_call, at_place, closed, sent, taken, replied, all_replied, new_call, with_call, asks}
use Rattle.eden_model.specs.Traffic.{orphaned, in_transit, touches, crashed_call, on_link, cut_call, without_node, without_link}
use Rattle.eden_model.specs.declared.Asker.{Asker}
use Rattle.eden_model.specs.declared.Asker.TheVariants.{Eject as Process}
use Rattle.epl_syntax.specs.Edentype.{Edentype}
use Rattle.journal.specs.Deliveries.{misfit, received}
use Rattle.journal.specs.Processes.{answers}
use Rattle.journal.specs.Starts.{misfits_answered}
use Rattle.journal.specs.Sites.{AreNumbered, GoesOn, IsNewFrom, CallsGoOn}
use Rattle.history_laws.proofs.Messages.{value-calls}
use Rattle.history_laws.proofs.Times.{call-changed, call-more, none-behind, numbered-changed, numbered-each, numbered-more}

-- 1. One call

pub goes-same : (c : Call) → GoesOn c c
goes-same c = record {
  asker = refl;
  target = refl;
  operation = refl;
  args = refl;
  closed = λ is. is;
  quiet = λ is off. off;
  ended =
      λ is at. at;
}

pub goes-then : (c d e : Call) → GoesOn c d → GoesOn d e → GoesOn c e
goes-then c d e a b = record {
  asker = b.asker ∙ a.asker;
  target = b.target ∙ a.target;
  operation = b.operation ∙ a.operation;
  args = b.args ∙ a.args;
  closed = λ is. b.closed (a.closed is);
  quiet = λ is off. b.quiet (a.closed is) (a.quiet is off);
  ended = λ is at. b.ended (a.closed is) (a.ended is at);
}

goes-over : (c : Call) → GoesOn c (at_place over c)
goes-over c = record {
  asker = refl;
  target = refl;
  operation = refl;
  args = refl;
  closed = λ is. is;
  quiet = λ is off. refl;
  ended =
      λ is at. refl;
}

goes-closed : (c : Call) → GoesOn c (closed c)
goes-closed c = record {
  asker = refl;
  target = refl;
  operation = refl;
  args = refl;
  closed = λ is. refl;
  quiet = λ is off. refl;
  ended =
      λ is at. refl;
}

both : {A : Type 0} → true ≡ false → A
both bad = absurd (cc bad)

-- an open call is answered
goes-answered : (why : Status) (results : List Datum) (c : Call) → c.open_ ≡ true → GoesOn c (at_place (answered why results) c)
goes-answered why results c opened = record {
  asker = refl;
  target = refl;
  operation = refl;
  args = refl;
  closed = λ is. is;
  quiet = λ is off. both (sym opened ∙ is);
  ended = λ is at. both (sym opened ∙ is);
}

-- a call that is asked is taken in
pub goes-held : (c : Call) → c.place ≡ asked → GoesOn c (at_place held c)
goes-held c place = record {
  asker = refl;
  target = refl;
  operation = refl;
  args = refl;
  closed = λ is. is;
  quiet = λ is off. refl;
  ended = λ is at. absurd (let bad : asked ≡ over = sym place ∙ at in cc bad);
}

goes-shut : (b : Bool) (c : Call) → GoesOn c (cond b (record c { open_ = false }) c)
goes-shut true c = record {
  asker = refl;
  target = refl;
  operation = refl;
  args = refl;
  closed = λ is. refl;
  quiet = λ is off. off;
  ended =
      λ is at. at;
}
goes-shut false c = goes-same c

-- a call is lost, or what is on its way of it
goes-lost : (b x : Bool) (c : Call) → GoesOn c (cond b (record c { open_ = false; place = cond x over c.place }) c)
goes-lost false x c = goes-same c
goes-lost true x c = record {
  asker = refl;
  target = refl;
  operation = refl;
  args = refl;
  closed = λ is. refl;
  quiet = λ is off. quiet x off;
  ended = λ is at. ended x at;
}
  where
    quiet : (x : Bool) → in_transit c.place ≡ false → in_transit (cond x over c.place) ≡ false
    quiet true off = refl
    quiet false off = off

    ended : (x : Bool) → c.place ≡ over → cond x over c.place ≡ over
    ended true at = refl
    ended false at = at

-- 2. All calls: each goes on, and there are no others

pub record GoOn (t new : Traffic) : Type 0 where
  pub goes : (k : ℕ) (c : Call) → call_at t k ≡ Some c → IsSomeAnd (call_at new k) (GoesOn c)
  pub came : (k : ℕ) → is_some (call_at new k) ≡ true → is_some (call_at t k) ≡ true
  pub numbered : AreNumbered 1 t.calls → AreNumbered 1 new.calls

pub on-same : (t : Traffic) → GoOn t t
on-same t = record {
  goes = λ k c is. subst (λ o. IsSomeAnd o (GoesOn c)) (sym is) (goes-same c);
  came = λ k some. some;
  numbered = λ h. h;
}

goes-further : (c : Call) (o : Option Call) (later : Option Call) → IsSomeAnd o (GoesOn c)
    → ((d : Call) → o ≡ Some d → IsSomeAnd later (GoesOn d))
    → IsSomeAnd later (GoesOn c)
goes-further c None later a next = absurd a
goes-further c (Some d) later a next = go later (next d refl)
  where
    go : (later : Option Call) → IsSomeAnd later (GoesOn d) → IsSomeAnd later (GoesOn c)
    go None b = absurd b
    go (Some e) b = goes-then c d e a b

pub on-then : (t new later : Traffic) → GoOn t new → GoOn new later → GoOn t later
on-then t new later a b = record {
  goes = λ k c is. goes-further c (call_at new k) (call_at later k) (a.goes k c is) (λ d at. b.goes k d at);
  came = λ k some. a.came k (b.came k some);
  numbered = λ h. b.numbered (a.numbered h);
}

-- what is on its way does not count
pub on-transit : (t : Traffic) (transit : List ℕ) → GoOn t (record t { transit = transit })
on-transit t transit = record { goes = (on-same t).goes; came = λ k some. some; numbered = λ h. h }

there-mapped : (b : Bool) (f : Call → Call) (o : Option Call) → is_some (cond b (option_map f o) o) ≡ true → is_some o ≡ true
there-mapped true f None some = some
there-mapped true f (Some c) some = refl
there-mapped false f o some = some

pub on-changed : (k : ℕ) (f : Call → Call) (t : Traffic) → ((c : Call) → call_at t k ≡ Some c → GoesOn c (f c))
    → GoOn t (changed_call k f t)
on-changed k f t goes = record {
  goes = λ j c is. subst (λ o. IsSomeAnd o (GoesOn c)) (sym (call-changed j k f t)) (go j c (eq_by_cmp nat_cmp j k) refl is);
  came = λ j some. there-mapped (eq_by_cmp nat_cmp j k) f (call_at t j) (sym (ap is_some (call-changed j k f t)) ∙ some);
  numbered = λ h. numbered-changed k f t.calls h;
}
  where
    go : (j : ℕ) (c : Call) (b : Bool) → eq_by_cmp nat_cmp j k ≡ b → call_at t j ≡ Some c
        → IsSomeAnd (cond b (option_map f (call_at t j)) (call_at t j)) (GoesOn c)
    go j c true same is = subst (λ o. IsSomeAnd (option_map f o) (GoesOn c)) (sym is)
        (goes c (ap (call_at t) (sym (same-true j k same)) ∙ is))
    go j c false same is = subst (λ o. IsSomeAnd o (GoesOn c)) (sym is) (goes-same c)

on-each : (f : Call → Call) (t : Traffic) (transit : List ℕ) → ((c : Call) → GoesOn c (f c))
    → GoOn t (record { calls = each_value f t.calls; transit = transit })
on-each f t transit goes = record {
  goes = λ k c is. subst (λ o. IsSomeAnd o (GoesOn c)) (sym (value-calls k f t.calls ∙ ap (option_map f) is)) (goes c);
  came = λ k some. there-mapped true f (call_at t k) (sym (ap is_some (value-calls k f t.calls)) ∙ some);
  numbered = λ h. numbered-each 1 f t.calls h;
}

pub on-replied : (why : Status) (results : List Datum) (k : ℕ) (t : Traffic) → GoOn t (replied why results k t)
on-replied why results k t = go (call_at t k) refl
  where
    one : (c : Call) → call_at t k ≡ Some c → (b : Bool) → c.open_ ≡ b
        → GoOn t (cond b (sent k (answered why results) t) (changed_call k (at_place over) t))
    one c is true opened =
        let x = on-changed k (at_place (answered why results)) t (λ d at.
        goes-answered why results d (let same : c ≡ d = (let e : Some c ≡ Some d = sym is ∙ at in cc e) in
        ap (λ (y : Call). y.open_) (sym same) ∙ opened)) in
        on-then t (changed_call k (at_place (answered why results)) t) (sent k (answered why results) t) x
        (on-transit (changed_call k (at_place (answered why results)) t) _)
    one c is false shut = on-changed k (at_place over) t (λ d at. goes-over d)

    go : (o : Option Call) → call_at t k ≡ o → GoOn t (with_item o (λ c.
        cond c.open_ (sent k (answered why results) t) (changed_call k (at_place over) t)) t)
    go None is = on-same t
    go (Some c) is = one c is c.open_ refl

pub on-all_replied : (why : Status) (ks : List ℕ) (t : Traffic) → GoOn t (all_replied why ks t)
on-all_replied why [] t = on-same t
on-all_replied why (k ∷ ks) t = on-then t (replied why [] k t) _ (on-replied why [] k t) (on-all_replied why ks (replied why [] k t))

pub on-refused : (why : Status) (k : ℕ) (t : Traffic) → GoOn t (replied why [] k (taken k t))
on-refused why k t = on-then t (taken k t) _ (on-transit t _) (on-replied why [] k (taken k t))

pub on-taken_in : (k : ℕ) (t : Traffic) → IsSomeAnd (call_at t k) (λ c. c.place ≡ asked)
    → GoOn t (changed_call k (at_place held) (taken k t))
on-taken_in k t place = on-then t (taken k t) _ (on-transit t _)
    (on-changed k (at_place held) (taken k t) (λ c is. goes-held c (subst (λ o. IsSomeAnd o (λ c. c.place ≡ asked)) is place)))

pub on-received : (k : ℕ) (t : Traffic) → GoOn t (received k t)
on-received k t = on-then t (taken k t) _ (on-transit t _) (on-changed k closed (taken k t) (λ c is. goes-closed c))

pub on-orphaned : (u : Uid) (t : Traffic) → GoOn t (orphaned u t)
on-orphaned u t = on-each (λ c. cond (asks u c.asker) (record c { open_ = false }) c) t t.transit (λ c. goes-shut (asks u c.asker) c)

pub on-without_node : (n : ℕ) (t : Traffic) → GoOn t (without_node n t)
on-without_node n t = on-each (crashed_call n) t _ (λ c. goes-lost (touches n c) ((target_station c == n) || in_transit c.place) c)

pub on-without_link : (a b : ℕ) (t : Traffic) → GoOn t (without_link a b t)
on-without_link a b t = on-each (cut_call a b) t _ (λ c. goes-lost (on_link a b c) (in_transit c.place) c)

pub on-answers : (i : Option Invocation) (results : List Datum) (t : Traffic) → GoOn t (answers i results t)
on-answers None results t = on-same t
on-answers (Some i) results t = go (nat_le (values_size results) MESSAGE_LIMIT)
  where
    go : (b : Bool) → GoOn t (cond b (replied status.Ok results i.call t) (replied status.TooLarge [] i.call t))
    go true = on-replied status.Ok results i.call t
    go false = on-replied status.TooLarge [] i.call t

pub on-misfits : (t : Edentype) (ks : List ℕ) (traffic : Traffic) → GoOn traffic (misfits_answered t ks traffic)
on-misfits t [] traffic = on-same traffic
on-misfits t (k ∷ ks) traffic = on-then traffic _ _ (go (call_at traffic k)) (on-misfits t ks _)
  where
    one : (o : Option Status) → GoOn traffic (with_item o (λ status. replied status [] k traffic) traffic)
    one None = on-same traffic
    one (Some why) = on-replied why [] k traffic

    go : (o : Option Call) → GoOn traffic (with_item o (λ c. with_item (misfit t c) (λ status. replied status [] k traffic) traffic)
        traffic)
    go None = on-same traffic
    go (Some c) = one (misfit t c)

-- 3. Others may come, of which P holds

pub record GoFrom (P : Call → Type 0) (t new : Traffic) : Type 0 where
  pub goes : (k : ℕ) (c : Call) → call_at t k ≡ Some c → IsSomeAnd (call_at new k) (GoesOn c)
  pub comes : (k : ℕ) (d : Call) → call_at new k ≡ Some d → (is_some (call_at t k) ≡ true) ⊎ P d

pub from-on : (P : Call → Type 0) (t new : Traffic) → GoOn t new → GoFrom P t new
from-on P t new a = record { goes = a.goes; comes = λ k d is. inl (a.came k (ap is_some is)) }

pub from-around : (P : Call → Type 0) (n : ℕ) (t new : Traffic) → ((d : Call) → IsNewFrom n d → P d) → CallsGoOn n t new → GoFrom P t new
from-around P n t new holds a = record { goes = a.goes; comes = λ k d is. go k d (a.comes k d is) }
  where
    go : (k : ℕ) (d : Call) → (is_some (call_at t k) ≡ true) ⊎ IsNewFrom n d → (is_some (call_at t k) ≡ true) ⊎ P d
    go k d (inl some) = inl some
    go k d (inr fresh) = inr (holds d fresh)

-- a new call
pub from-call : (P : Call → Type 0) (a : Asker) (target : Cap) (operation : List ℕ) (args : List Datum) (at_once : Option Status)
    (t : Traffic)
    → AreNumbered 1 t.calls → P (new_call a target operation args at_once)
    → GoFrom P t (with_call (next_call t) a target operation args at_once t)
from-call P a target operation args at_once t numbered holds = record {
  goes = λ k c is. subst (λ o. IsSomeAnd o (GoesOn c)) (sym (call-more (next_call t) a target operation args at_once t k))
      (old k c is (eq_by_cmp nat_cmp k (next_call t)) refl);
  comes = λ k d is. new k d (eq_by_cmp nat_cmp k (next_call t)) (sym (call-more (next_call t) a target operation args at_once t k) ∙ is);
}
  where
    old : (k : ℕ) (c : Call) → call_at t k ≡ Some c → (b : Bool) → eq_by_cmp nat_cmp k (next_call t) ≡ b
        → IsSomeAnd (cond b (Some (new_call a target operation args at_once)) (call_at t k)) (GoesOn c)
    old k c is true same = absurd (let number : k ≡ next_call t = same-true k (next_call t) same in
        let bad : Some c ≡ None = sym is ∙ none-behind 1 t.calls numbered k (omega (arith, number)) in cc bad)
    old k c is false same = subst (λ o. IsSomeAnd o (GoesOn c)) (sym is) (goes-same c)

    new : (k : ℕ) (d : Call) (b : Bool) → cond b (Some (new_call a target operation args at_once)) (call_at t k) ≡ Some d
        → (is_some (call_at t k) ≡ true) ⊎ P d
    new k d true is = inr (subst P (cc is) holds)
    new k d false is = inl (ap is_some is)

-- 4. Around an event at a node: besides, the calls stay numbered

pub record Around (n : ℕ) (t new : Traffic) : Type 0 where
  pub calls : CallsGoOn n t new
  pub numbered : AreNumbered 1 t.calls → AreNumbered 1 new.calls

pub on-around : (n : ℕ) (t new : Traffic) → GoOn t new → Around n t new
on-around n t new a = record {
  calls = record { goes = a.goes; comes = λ k d is. inl (a.came k (ap is_some is)) };
  numbered = a.numbered;
}

pub around-call : (u : Uid) (p : ℕ) (target : Cap) (operation : List ℕ) (args : List Datum) (at_once : Option Status) (t : Traffic)
    → AreNumbered 1 t.calls → Around u.node t (with_call (next_call t) (Process u p) target operation args at_once t)
around-call u p target operation args at_once t numbered =
    let x = from-call (IsNewFrom u.node) (Process u p) target operation args at_once t numbered (fresh at_once) in
    record {
      calls = record { goes = x.goes; comes = x.comes };
      numbered = λ h. numbered-more t.calls h (new_call (Process u p) target operation args at_once);
    }
  where
    fresh : (o : Option Status) → IsNewFrom u.node (new_call (Process u p) target operation args o)
    fresh None = record { uid = u; process = p; asker = refl; of_node = refl; place = inl refl }
    fresh (Some why) = record { uid = u; process = p; asker = refl; of_node = refl; place = inr (refl, refl) }
