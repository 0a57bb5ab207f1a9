-- What commands do at the place of a node.
use Rattle.std.proofs.Common.{◌≡◌, ◌≢◌, ◌⊎◌, inl, inr, ℕ, ◌≤◌, Bool, true, false, Option, None, Some, refl, sym, ap, subst, ◌∙◌}
use Rattle.std.specs.Prelude.{IsTrue, Result, Ok, Err, IfOk}
use Rattle.capability.specs.declared.Uid.{Uid}
use Rattle.eden_value.specs.Datum.{Datum}
use Rattle.eden_disk.specs.Told.{Told, contents, Left}
use Rattle.eden_disk.specs.Calls.{IsCut}
use Rattle.passive_store.specs.Kept.{Layout, LeavesKept, doubt_in}
use Rattle.passive_store.specs.Seen.{Seen, DiskSeen, Arms, Opens}
use Rattle.passive_store.specs.declared.store.StoreRefusal.{StoreRefusal}
use Rattle.passive_store.specs.declared.store.StoreRefusal.TheVariants.{Failed, Stopped as StoreStopped, OutOfMemory as StoreOutOfMemory}
use Rattle.move_laws.specs.World.{Node, World, Call, Wake, Ended, Refused, Answered, Stopped}
use Rattle.move_laws.specs.World.{fallen, at_node}
use Rattle.eden_move.specs.Minds.{Remembered, remembered, as_memory, value_known}
use Rattle.std.specs.declared.alloc.AllocError.{AllocError}
use Rattle.eden_disk.specs.declared.disk.Arm.{Arm}
use Rattle.eden_move.specs.declared.node.MoveNode.{MoveNode}
use Rattle.eden_move.specs.Shown.{IsWanderer, Shows, ShowsDoubt, Stands, IsFitCall, opened_node}
use Rattle.eden_move.proofs.Showing.{shows-same}
use Rattle.eden_move.proofs.Carrying.{shows-mind-same}
use Rattle.move_world.specs.Commands.{IsNode}
use Rattle.move_world.specs.declared.ask.Ask.{Ask}
use Rattle.move_world.specs.declared.ask.Ask.TheVariants as ask
use Rattle.move_world.specs.declared.seat.Seat.{Seat}
use Rattle.move_world.specs.declared.seat.Seat.TheVariants as seat
use Rattle.move_world.specs.Logs.{Answer, Ends, Shows as Shown, Up, Down, WrongState, Done as Did, risen}
use Rattle.move_world.specs.InHand.{Rests, Serves, Stays, ArePostsFit, Led, OpensNode}
use Rattle.move_world.specs.View.{answer_of}
use Rattle.move_world.specs.Asking.{Manned, manned, how_in, uid_in, call_in, MayAsk, IsReply, Heard}
use Rattle.move_world.specs.Seats.{Standing, Serving, Resting, opened_as, standing, IsManned, IsSound, IsCutFrom, AskedAt, StandsFor}
use Rattle.move_world.specs.Seats.{IsReplyOf, Asked, Passed, CrashedAt, OpenedAt}
use Rattle.move_world.specs.Seats.{ArmedAt}
use Rattle.move_world.specs.declared.answer.Answer.{Answer as CodedAnswer}
use Rattle.move_world.proofs.Bridging.{led, own-node, other-node}
use Rattle.move_world.proofs.Opening.{crashed, cut, opens}

-- 1. A call

serves-on : (layout : Layout) (n : ℕ) (how : Ended Datum) (s : Seen) (m : Uid → Option Remembered) (x : Node Datum) → how ≢ Refused Stopped
    → Stays layout n how s m x → Serves layout n s m x
serves-on layout n (Refused Stopped) s m x d h = absurd (d refl)
serves-on layout n how s m x d h = h

stands-by : (layout : Layout) (n : ℕ) (how : Ended Datum) (new : Manned) (x : Node Datum) (up : Bool) → (up ≡ false → how ≡ Refused Stopped)
    → (up ≡ true → how ≢ Refused Stopped) → Stays layout n how new.seen new.mind x → StandsFor layout n (opened_as up new) x
stands-by layout n how new x true stopped goes h = serves-on layout n how new.seen new.mind x (goes refl) h
stands-by layout n how new x false stopped goes h = subst (λ e. Stays layout n e new.seen new.mind x) (stopped refl) h

-- a value that was shown is in memory
known : (o : Option Remembered) (v : Datum) → value_known o ≡ Some v → (g : ℕ) × (as_memory o ≡ Some (g, v))
known None v e = absurd (cc e)
known (Some r) v e = let same : r.value ≡ v = cc e in (r.generation, ap (λ z. Some (r.generation, z)) same)

reply-of : (layout : Layout) (n : ℕ) (u : Uid) (c : Call Datum) (a : Answer) (s : Seen) (m : Uid → Option Remembered) (x : Node Datum)
    → IsReply c (m u) a
    → Stays layout n (how_in a) s m x → IsReplyOf c (x.memory u) (how_in a) a
reply-of layout n u Wake (Shown v) s m x h stays =
    let g = known (m u) v h in (g.0, v, stays.shows.memory stays.up u ∙ g.1, refl)
reply-of layout n u Wake (Ends (Refused r)) s m x h stays = refl
reply-of layout n u Wake (Ends (Answered put post)) s m x h stays = absurd h
reply-of layout n u Wake a s m x h stays = absurd h
reply-of layout n u c (Ends how) s m x h stays = refl
reply-of layout n u c a s m x h stays = absurd h

pub asks : (tells : Bool) (layout : Layout) (n : ℕ) (u : Uid) (c : Call Datum) (a : CodedAnswer) (old new : Manned) (up : Bool)
    (w : World Datum) → IsTrue tells → IsWanderer u → IsFitCall c → ArePostsFit w.posted → Serves layout n old.seen old.mind (w.node n)
    → Heard tells layout u c (Ok a) old new → (up ≡ false → how_in (answer_of a) ≡ Refused Stopped)
    → (up ≡ true → how_in (answer_of a) ≢ Refused Stopped) → Asked layout n u c (answer_of a) (opened_as up new) w
asks tells layout n u c a old new up w so wanders call posts serves h stopped goes = record {
  up = serves.up;
  how = how_in (answer_of a);
  named = refl;
  world = l.world;
  calls = l.calls;
  reply = reply-of layout n u c (answer_of a) new.seen new.mind (l.world.node n) h.reply l.stays;
  turned = record {
    others = l.others;
    stands = stands-by layout n (how_in (answer_of a)) new (l.world.node n) up stopped goes l.stays;
  };
  fit = l.fit;
}
  where
    l : Led layout n u c (how_in (answer_of a)) new.seen new.mind w
    l = led layout n u c (how_in (answer_of a)) old.seen new.seen old.mind new.mind w wanders call serves posts h.memory h.node
        (h.stands so serves.stands) (h.carries so)

-- 2. A node in another state

pub passes-down : (layout : Layout) (n : ℕ) (d : DiskSeen) (w : World Datum) → Rests layout n d.told (w.node n)
    → Passed layout n true WrongState (Resting d) w
passes-down layout n d w r = record {
  misplaced = record { state = λ up. cc (sym r.down ∙ up); answer = refl; same = refl };
  stands = r;
}

pub passes-up : (layout : Layout) (n : ℕ) (m : Manned) (w : World Datum) → Serves layout n m.seen m.mind (w.node n)
    → Passed layout n false WrongState (Serving m) w
passes-up layout n m w s = record {
  misplaced = record { state = λ down. cc (sym s.up ∙ down); answer = refl; same = refl };
  stands = s;
}

-- 3. A crash, an opening and a request

pub crashes-at : (layout : Layout) (n clock : ℕ) (m : Manned) (d : DiskSeen) (w : World Datum) → Serves layout n m.seen m.mind (w.node n)
    → Left (contents m.seen.disk.told) (contents m.seen.disk.told).now → IsCut clock m.seen.disk.told d.told
    → CrashedAt layout n Did (Resting d) w
crashes-at layout n clock m d w s left cuts = inr (
  s.up,
  refl,
  record {
    others = other-node n (fallen (w.node n)) w.node;
    stands = subst (λ x. Rests layout n d.told x) (sym (own-node n (fallen (w.node n)) w.node))
        (cut layout n clock m.seen.disk.told d.told (fallen (w.node n)) (crashed layout n m.seen m.mind (w.node n) s) left cuts);
  },
)

pub opens-at : (layout : Layout) (n : ℕ) (m : Manned) (told : Told) (w : World Datum) → (w.node n).up ≡ false
    → OpensNode layout n (Ok m.seen) m.mind told (w.node n) → OpenedAt layout n Up (Serving m) w
opens-at layout n m told w down o = inr (
  down,
  at_node n (risen o.0 (w.node n)) w,
  inl (refl, o.0, o.1, refl),
  record {
    others = other-node n (risen o.0 (w.node n)) w.node;
    stands = subst (λ x. Serves layout n m.seen m.mind x) (sym (own-node n (risen o.0 (w.node n)) w.node)) o.2;
  },
  refl,
)

pub stays-down : (layout : Layout) (n : ℕ) (e : StoreRefusal) (d : DiskSeen) (m : Uid → Option Remembered) (w : World Datum)
    → e ≢ StoreOutOfMemory → OpensNode layout n (Err e) m d.told (w.node n) → OpenedAt layout n (Down e) (Resting d) w
stays-down layout n e d m w memory o = inr (o.1.down, w, inr (cause o.0, refl), record { others = λ k other. refl; stands = o.1 }, refl)
  where
    cause : (e ≡ Failed) ⊎ ((e ≡ StoreStopped) ⊎ (e ≡ StoreOutOfMemory)) → (Down e ≡ Down Failed) ⊎ (Down e ≡ Down StoreStopped)
    cause (inl f) = inl (ap Down f)
    cause (inr (inl f)) = inr (ap Down f)
    cause (inr (inr f)) = absurd (memory f)

-- a request changes nothing that is seen of the node
pub arms-at : (tells obeys : Bool) (layout : Layout) (n : ℕ) (what : Arm) (old new : Manned) (w : World Datum) → IsTrue tells
    → Arms tells obeys what old.seen new.seen → ((u : Uid) → new.mind u ≡ old.mind u) → Serves layout n old.seen old.mind (w.node n)
    → ArmedAt layout n Did (Serving new) w
arms-at tells obeys layout n what old new w so a mind s = inr (
  s.up,
  refl,
  record {
    up = s.up;
    node = a.node ∙ s.node;
    shows = shows-mind-same new.seen old.mind new.mind (w.node n) mind
        (shows-same old.seen new.seen old.mind (w.node n) a.node (a.kept so)
        (subst (λ work. ShowsDoubt old.seen.node (doubt_in work) (w.node n).doubt) (sym a.work) s.shows.doubt) s.shows);
    stands = stands;
  },
)
  where
    stands : Stands layout new.seen
    stands = subst (λ k. LeavesKept layout k new.seen.more new.seen.kept new.seen.work new.seen.disk.told) (sym a.node)
        (subst (λ k. LeavesKept layout old.seen.node k new.seen.kept new.seen.work new.seen.disk.told) (sym a.more)
        (subst (λ k. LeavesKept layout old.seen.node old.seen.more k new.seen.work new.seen.disk.told) (sym (a.kept so))
        (subst (λ k. LeavesKept layout old.seen.node old.seen.more old.seen.kept k new.seen.disk.told) (sym a.work)
        (subst (λ k. LeavesKept layout old.seen.node old.seen.more old.seen.kept old.seen.work k) (sym a.told) s.stands))))

-- 4. What is there

pub wanders : (n : ℕ) (what : Ask) → IsNode n → MayAsk n what → IsWanderer (uid_in n what)
wanders n (ask.Make serial v) is may = record { node_least = is.0; node_most = is.1; epoch = refl; serial = may }
wanders n (ask.Wake u) is may = may
wanders n (ask.Save u v) is may = may
wanders n (ask.Lend u to) is may = may.0
wanders n (ask.Again u) is may = may
wanders n (ask.Take from l) is may = may

-- a node that is up is seen as one
pub at-serving : {T D : Type 0} (P : Standing → Type 0) (seen : T → Seen) (look : D → DiskSeen) (s : Seat T D) (node : MoveNode T D)
    (up : Bool) → s ≡ seat.Opened node up → up ≡ true → P (standing seen look s) → P (Serving (manned seen node))
at-serving P seen look s node up is on h =
    subst (λ b. P (opened_as b (manned seen node))) on (subst (λ z. P (standing seen look z)) is h)

pub asks-at : (tells : Bool) (layout : Layout) (n : ℕ) (u : Uid) (c : Call Datum) (r : Result CodedAnswer AllocError) (old new : Manned)
    (up : Bool)
    (w : World Datum) → IsTrue tells → IsWanderer u → IsFitCall c → ArePostsFit w.posted → Serves layout n old.seen old.mind (w.node n)
    → Heard tells layout u c r old new → IfOk r (λ a. up ≡ false → how_in (answer_of a) ≡ Refused Stopped)
    → IfOk r (λ a. up ≡ true → how_in (answer_of a) ≢ Refused Stopped)
    → IfOk r (λ a. AskedAt layout n u c (answer_of a) (opened_as up new) w)
asks-at tells layout n u c (Ok a) old new up w so wanders call posts serves h stopped goes =
    inr (asks tells layout n u c a old new up w so wanders call posts serves h stopped goes)
asks-at tells layout n u c (Err e) old new up w so wanders call posts serves h stopped goes = tt

-- 5. What the code does there

node-of : (n : ℕ) (m : Manned) → IsManned n m → IsNode n
node-of n m is = (subst (λ k. 1 ≤ k) is.number is.of.least, subst (λ k. k ≤ 8) is.number is.of.most)

module _ {T D : Type 0} (seen : T → Seen) (look : D → DiskSeen) where
  pub asked-seat : (tells : Bool) (layout : Layout) (n : ℕ) (what : Ask) (s : Seat T D) (node new : MoveNode T D) (up on : Bool)
      (r : Result CodedAnswer AllocError) → s ≡ seat.Opened node up → up ≡ true → IsSound n (standing seen look s) → MayAsk n what
      → Heard tells layout (uid_in node.number what) (call_in what) r (manned seen node) (manned seen new)
      → IfOk r (λ a. on ≡ false → how_in (answer_of a) ≡ Refused Stopped) → IfOk r (λ a. on ≡ true → how_in (answer_of a) ≢ Refused Stopped)
      → IsTrue tells → IsFitCall (call_in what) → (w : World Datum) → ArePostsFit w.posted
      → StandsFor layout n (standing seen look s) (w.node n)
      → IfOk r (λ a. AskedAt layout n (uid_in n what) (call_in what) (answer_of a) (opened_as on (manned seen new)) w)
  asked-seat tells layout n what s node new up on r is lit sound may heard stopped goes so call w posts stands =
      let there = at-serving (IsSound n) seen look s node up is lit sound in
      let serves = at-serving (λ z. StandsFor layout n z (w.node n)) seen look s node up is lit stands in
      asks-at tells layout n (uid_in n what) (call_in what) r (manned seen node) (manned seen new) on w so
      (wanders n what (node-of n (manned seen node) there) may) call posts serves
      (subst (λ k. Heard tells layout (uid_in k what) (call_in what) r (manned seen node) (manned seen new)) there.number heard)
      stopped goes

  pub crashed-seat : (layout : Layout) (n clock : ℕ) (s : Seat T D) (node : MoveNode T D) (up : Bool) (old new : DiskSeen)
      → s ≡ seat.Opened node up → up ≡ true → old ≡ (seen node.store).disk → IsCutFrom clock old.told new.told → (w : World Datum)
      → StandsFor layout n (standing seen look s) (w.node n) → CrashedAt layout n Did (Resting new) w
  crashed-seat layout n clock s node up old new is lit same cuts w stands =
      let serves = at-serving (λ z. StandsFor layout n z (w.node n)) seen look s node up is lit stands in
      let from = subst (λ (d : DiskSeen). IsCutFrom clock d.told new.told) same cuts in
      crashes-at layout n clock (manned seen node) new w serves from.0 from.1

  pub opened-ok : (tells obeys : Bool) (layout : Layout) (n : ℕ) (node : MoveNode T D) (old : DiskSeen) (told : Told) → IsTrue tells
      → told ≡ old.told
      → Left (contents old.told) (contents old.told).now → Opens tells obeys layout n (Ok (seen node.store)) old (seen node.store).disk
      → Shows (seen node.store) (remembered node.mind) (opened_node (seen node.store)) → (w : World Datum) → Rests layout n told (w.node n)
      → OpenedAt layout n Up (Serving (manned seen node)) w
  opened-ok tells obeys layout n node old told so same left o shows w r =
      opens-at layout n (manned seen node) (seen node.store).disk.told w r.down
      (opens obeys layout n (Ok (seen node.store)) old (seen node.store).disk (remembered node.mind) (w.node n)
      (subst (λ t. Rests layout n t (w.node n)) same r) left
      (subst (λ t. Opens t obeys layout n (Ok (seen node.store)) old (seen node.store).disk) so o) (refl, shows))

pub opened-err : (tells obeys : Bool) (layout : Layout) (n : ℕ) (e : StoreRefusal) (r : Result CodedAnswer AllocError) (old new : DiskSeen)
    (told : Told) → IsTrue tells → told ≡ old.told → Left (contents old.told) (contents old.told).now → Opens tells obeys layout n (Err
    e) old new
    → IfOk r (λ a. (answer_of a ≡ Down e) × (e ≢ StoreOutOfMemory)) → (w : World Datum) → Rests layout n told (w.node n)
    → IfOk r (λ a. OpenedAt layout n (answer_of a) (Resting new) w)
opened-err tells obeys layout n e (Err x) old new told so same left o is w rests = tt
opened-err tells obeys layout n e (Ok a) old new told so same left o is w rests =
    subst (λ b. OpenedAt layout n b (Resting new) w) (sym is.0)
    (stays-down layout n e new (λ u. None) w is.1
    (opens obeys layout n (Err e) old new (λ u. None) (w.node n) (subst (λ t. Rests layout n t (w.node n)) same rests) left
    (subst (λ t. Opens t obeys layout n (Err e) old new) so o) tt))
