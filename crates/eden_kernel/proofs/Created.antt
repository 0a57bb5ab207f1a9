-- A node that created an Eject stands for the site with it.
use Rattle.std.proofs.Common.{◌≡◌, ◌≤◌, ℕ, List, Result, Ok, Err, sym, ap, subst, ◌∙◌, arith}
use Rattle.capability.specs.declared.Uid.{Uid}
use Rattle.eden_value.specs.declared.status.Status.{Status}
use Rattle.epl_syntax.specs.Edentype.{Edentype}
use Rattle.epl_syntax.specs.Meaning.{first_values}
use Rattle.epl_syntax.specs.Rules.OfTypes.{TypeList}
use Rattle.invocation.specs.Mail.{Mail}
use Rattle.invocation.specs.Carries.{Carries}
use Rattle.passive_store.specs.Kept.{Layout}
use Rattle.passive_store.specs.Seen.{Seen}
use Rattle.journal.specs.World.{Site, StoreRequest, on_node}
use Rattle.journal.specs.Ejects.{fresh, next_uid}
use Rattle.checkpoint.specs.Asked.{StandsNow, requests_of}
use Rattle.checkpoint.specs.declared.worker.Worker.{Worker}
use Rattle.checkpoint.proofs.StoreTurns.{node-quiet}
use Rattle.ejects.specs.Creations.{born_as, IsCreated}
use Rattle.ejects.specs.View.{parts_of}
use Rattle.ejects.specs.declared.Ejects.{Ejects}
use Rattle.eden_kernel.specs.Creations.{NodeCreates}
use Rattle.eden_kernel.specs.Stands.{NodeStands}
use Rattle.eden_kernel.proofs.Processing.{stands-born, uid-is}

stands-created : (layout : Layout) (n : ℕ) (t : Edentype) (s : Site) (rs : List StoreRequest) (x : Seen) → StandsNow layout n s rs x
    → (made : Result Uid Status) → next_uid s ≡ made → StandsNow layout n (born_as made t s) rs x
stands-created layout n t s rs x h (Err why) is = h
stands-created layout n t s rs x h (Ok v) is =
    let same = uid-is s v is in
    let own : v.node ≡ n = ap (λ (w : Uid). w.node) (sym same) ∙ h.number in
    let some : 1 ≤ v.serial = subst (λ (w : Uid). 1 ≤ w.serial) same (omega arith) in
    stands-born n v (fresh t (first_values t)) s own some layout rs x h

carries-born : (m : Mail) (t : Edentype) (s : Site) (made : Result Uid Status) → Carries m s.traffic → Carries m (born_as made t s).traffic
unfolding on_node
carries-born m t s (Err why) h = h
carries-born m t s (Ok v) h = h

pub node-creates : (layout : Layout) (ts : TypeList) (k : ℕ) (x : Seen) (old new : Ejects) (w : Worker) (m : Mail) (t : Edentype)
    (made : Result Uid Status) (s : Site) → NodeStands layout ts (record { number = k; ejects = old; worker = w; seen = x }) m s
    → IsCreated t made (parts_of ts new) s
    → NodeCreates layout ts (record { number = k; ejects = old; worker = w; seen = x })
    (record { number = k; ejects = new; worker = w; seen = x }) m t made s
node-creates layout ts k x old new w m t made s h is = record {
  next = is.next;
  stands = record { calls = record { parts = is.stands; calls = carries-born m t s made h.calls.calls }; disk = after };
  disk = node-quiet layout x.node x.more s (born_as made t s) x.kept x.work x.disk.told x.disk.counts.clock h.disk.keeps after.keeps
      h.disk.stands;
}
  where
    after : StandsNow layout x.node (born_as made t s) (requests_of x.work w.requests.items) x
    after = stands-created layout x.node t s (requests_of x.work w.requests.items) x h.disk made is.next
