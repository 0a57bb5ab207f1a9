-- A reply that is delivered to a process in the node is delivered at the site.
use Rattle.std.proofs.Common.{◌≡◌, ℕ, Bool, true, false, cond, List, None, Some, refl, ◌∙◌, ap}
use Rattle.capability.specs.declared.Uid.{Uid}
use Rattle.eden_value.specs.Datum.{Datum}
use Rattle.eden_value.specs.declared.status.Status.{Status}
use Rattle.eden_model.specs.Map.{with_item}
use Rattle.eden_model.specs.declared.Asker.{Asker}
use Rattle.eden_model.specs.declared.Asker.TheVariants.{Shell, Eject as Process}
use Rattle.eden_model.specs.Traffic.{Traffic, Call, answered, call_at, closed, taken, next_message}
use Rattle.epl_syntax.specs.declared.effect.Answer.{Answer}
use Rattle.epl_syntax.specs.declared.effect.Answer.TheVariants.{Reply as Told}
use Rattle.journal.specs.World.{Site, on_eject, on_traffic}
use Rattle.journal.specs.Ejects.{told, tells}
use Rattle.journal.specs.Deliveries.{AllowsReply, tells_asker, received, heard}
use Rattle.active_part.specs.Body.{Body}
use Rattle.ejects.specs.Parts.{Parts, body_at, Stands}
use Rattle.active_part.specs.Bodies.{told_body}
use Rattle.ejects.specs.View.{with_body}
use Rattle.ejects.proofs.KeptClasses.{Keeps}
use Rattle.ejects.proofs.Keeping.{keeps-both, keeps-taken, keeps-changed}
use Rattle.ejects.proofs.Stays.{stays-on_traffic}
use Rattle.ejects.proofs.Turns.{stays-active}

keeps-received : (k : ℕ) (t : Traffic) → Keeps t (received k t)
keeps-received k t = keeps-both t (taken k t) (received k t) (keeps-taken k t) (keeps-changed k closed (taken k t) (λ c. refl))

received-stands : (n : Parts) (s : Site) (k : ℕ) → Stands n s → Stands n (on_traffic (received k) s)
received-stands n s k h = stays-on_traffic n s (received k) (keeps-received k s.traffic) h

-- a process is told an answer: of a reply, of the store, of a broken call
pub tells-stands : (n : Parts) (s : Site) (u : Uid) (p : ℕ) (b : Body) (a : Answer) → Stands n s → body_at n u ≡ Some b
    → Stands (with_body u (told_body p a b) n) (tells u p a s)
tells-stands n s u p b a h at = stays-active n s u b (told_body p a b) (told p a) h at refl refl refl

module _ (n : Parts) (s : Site) (k : ℕ) (c : Call) (why : Status) (values : List Datum) (h : Stands n s)
    (at : call_at s.traffic k ≡ Some c) where
  heard-is : (open_ : Bool) → c.open_ ≡ open_
      → heard k why values s ≡ cond open_ (tells_asker c.asker why values (on_traffic (received k) s)) (on_traffic (received k) s)
  heard-is open_ is = ap (λ o. with_item o (λ c. cond c.open_ (tells_asker c.asker why values (on_traffic (received k) s))
      (on_traffic (received k) s)) s) at
      ∙ ap (λ b. cond b (tells_asker c.asker why values (on_traffic (received k) s)) (on_traffic (received k) s)) is

  pub heard-closed : c.open_ ≡ false → Stands n (heard k why values s)
  heard-closed is = rw (heard-is false is) (received-stands n s k h)

  pub heard-open : (u : Uid) (p : ℕ) (b : Body) → c.open_ ≡ true → c.asker ≡ Process u p → body_at n u ≡ Some b
      → Stands (with_body u (told_body p (Told why values) b) n) (heard k why values s)
  heard-open u p b is asker active = rw (heard-is true is, asker)
      (tells-stands n (on_traffic (received k) s) u p b (Told why values) (received-stands n s k h) active)

  pub heard-traffic : (heard k why values s).traffic ≡ received k s.traffic
  unfolding on_traffic on_eject
  heard-traffic = go c.open_ refl c.asker
    where
      by : (a : Asker) → (tells_asker a why values (on_traffic (received k) s)).traffic ≡ received k s.traffic
      by (Shell name) = refl
      by (Process u p) = refl

      go : (b : Bool) → c.open_ ≡ b → (a : Asker) → (heard k why values s).traffic ≡ received k s.traffic
      go true is a = ap (λ (x : Site). x.traffic) (heard-is true is) ∙ by c.asker
      go false is a = ap (λ (x : Site). x.traffic) (heard-is false is)

  pub reply-allowed : (a b : ℕ) (u : Uid) (p : ℕ) → next_message s.traffic a b ≡ Some k → c.place ≡ answered why values
      → c.asker ≡ Process u p → AllowsReply s.traffic k a b None why values
  reply-allowed a b u p first place asker = record { first_in_queue = first; delivered = rw at (place, rw asker refl) }
