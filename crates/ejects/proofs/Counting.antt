-- How many calls are asked meanwhile.
use Rattle.std.proofs.Common.{◌≡◌, ◌≤◌, ◌-◌, ℕ, zero, suc, List, [], ◌∷◌, ◌++◌, Option, None}
use Rattle.std.proofs.Common.{Some, length, length-append, refl, ap, ◌∙◌, arith}
use Rattle.std.specs.Prelude.{cond, map, Result, Ok, Err, OnOk}
use Rattle.capability.specs.declared.Cap.{Cap}
use Rattle.capability.specs.declared.Uid.{Uid}
use Rattle.eden_model.specs.Crew.{change}
use Rattle.eden_model.specs.Map.{with_item}
use Rattle.eden_model.specs.Traffic.{asking_station}
use Rattle.eden_model.specs.declared.Asker.{Asker}
use Rattle.eden_value.specs.Datum.{Datum}
use Rattle.eden_value.specs.declared.status.Status.{Status}
use Rattle.locator.specs.Reach.{Stations}
use Rattle.invocation.specs.Mail.{Mail, Asks, Delivers, DeliversFirst, asked_by, closed_if, orphaned, over, queue_at, received, spent}
use Rattle.invocation.specs.Mail.{closed_where, crashed_call, crosses, cut_link, cut_node, is_open, let_go, number_of, target_of}
use Rattle.invocation.specs.Mail.{with_asked, with_reply}
use Rattle.invocation.specs.Numbers.{item_in}
use Rattle.invocation.specs.Queues.{on_way, sent_from, sent_to}
use Rattle.invocation.specs.declared.call.Asked.{Asked}
use Rattle.invocation.specs.declared.call.Call.{Call}
use Rattle.invocation.specs.declared.call.Delivery.{Delivery}
use Rattle.invocation.specs.declared.call.Message.{Message}
use Rattle.invocation.specs.declared.call.Message.TheVariants.{Request, Reply}
use Rattle.ejects.specs.Counts.{AsksNone, AsksOneAtMost}

length-change : (i : ℕ) (f : Call → Call) (cs : List Call) → length (change i f cs) ≡ length cs
length-change i f [] = refl
length-change zero f (c ∷ cs) = refl
length-change (suc i) f (c ∷ cs) = ap suc (length-change i f cs)

length-map : (f : Call → Call) (cs : List Call) → length (map f cs) ≡ length cs
length-map f [] = refl
length-map f (c ∷ cs) = ap suc (length-map f cs)

-- a reply is sent
pub replied-none : (k : ℕ) (s : Status) (results : List Datum) (old new : Mail) → new ≡ with_reply k s results old → AsksNone old new
replied-none k s results old new is = ap (λ (m : Mail). length m.calls) is ∙ go (item_in k old.calls)
    (λ c. cond (is_open c) (sent_to (target_of c) (asking_station c.asker) (Reply k s results) old.queues) old.queues)
  where
    go : (o : Option Call) (queues : Call → List (List Message)) → length
        (with_item o (λ c. record { calls = change (k - 1) spent old.calls; queues = queues c }) old).calls ≡ length old.calls
    go None queues = refl
    go (Some c) queues = length-change (k - 1) spent old.calls

-- an Eject lost its active part
pub orphaned-none : (u : Uid) (old new : Mail) → new ≡ orphaned u old → AsksNone old new
orphaned-none u old new is = ap (λ (m : Mail). length m.calls) is ∙ length-map (λ c. closed_if (asked_by u c) c) old.calls

length-received : (m : Message) (cs : List Call) → length (received m cs) ≡ length cs
length-received (Request k) cs = refl
length-received (Reply k s results) cs = length-change (k - 1) over cs

-- a message is delivered
pub delivered-none : (a b : ℕ) (old : Mail) (result : Option Delivery) (new : Mail) → Delivers a b old result new → AsksNone old new
delivered-none a b old result new is = go (queue_at a b old) is
  where
    go : (ms : List Message) → DeliversFirst a b ms old result new → AsksNone old new
    go [] h = ap (λ (m : Mail). length m.calls) h.1
    go (x ∷ ms) h = ap (λ (m : Mail). length m.calls) h.1 ∙ length-received x old.calls

length-let_go : (ms : List Message) (cs : List Call) → length (let_go ms cs) ≡ length cs
length-let_go [] cs = refl
length-let_go (m ∷ ms) cs = length-let_go ms (change (number_of m - 1) spent cs) ∙ length-change (number_of m - 1) spent cs

-- a link is cut
pub cut_link-none : (a b : ℕ) (old new : Mail) → new ≡ cut_link a b old → AsksNone old new
cut_link-none a b old new is = ap (λ (m : Mail). length m.calls) is
    ∙ length-let_go (on_way a b old.queues) (closed_where (crosses a b) old.calls) ∙ length-map (λ c. closed_if (crosses a b c) c) old.calls

-- a node crashed
pub cut_node-none : (n : ℕ) (old new : Mail) → new ≡ cut_node n old → AsksNone old new
cut_node-none n old new is = ap (λ (m : Mail). length m.calls) is
    ∙ length-let_go (sent_from n 9 old.queues) (map (crashed_call n) old.calls) ∙ length-map (crashed_call n) old.calls

-- a call is asked
pub asked-one : (asker : Asker) (target : Cap) (operation : List ℕ) (args : List Datum) (places : Stations) (old new : Mail) (it : Asked)
    → Asks asker target operation args places old new it → AsksOneAtMost old new
asked-one asker target operation args places old new it asks = go it.at_once asks.after
  where
    longer : (c : Call) → length (old.calls ++ c ∷ []) ≤ suc (length old.calls)
    longer c = omega (arith, length-append old.calls (c ∷ []))

    go : (o : Option Status) → new ≡ with_asked asker target operation args o old → AsksOneAtMost old new
    go None is = rw is (longer _)
    go (Some s) is = rw is (longer _)

-- where none is asked, one is at most
pub none-one : (old new : Mail) → AsksNone old new → AsksOneAtMost old new
none-one old new none = omega (arith, none)

-- what holds anyhow holds where it ended well
pub any-on_ok : {T E P : Type 0} (r : Result T E) → P → OnOk r P
any-on_ok (Ok x) holds = holds
any-on_ok (Err e) holds = tt
