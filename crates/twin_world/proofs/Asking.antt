-- What is asked of a pair that is open is a step of its command.
use Rattle.std.proofs.Common.{◌≡◌, ℕ, ◌≤◌, Bool, List, Option, Some, sym, subst}
use Rattle.std.specs.Prelude.{IsTrue, Result, Ok, Err}
use Rattle.passive_store.specs.Kept.{Layout}
use Rattle.twin_store.specs.declared.served.TwinRefusal.{TwinRefusal}
use Rattle.twin_store.specs.Twins.{TwinSeen, TwinChanges, TwinGets}
use Rattle.passive_store.specs.Seen.{DiskSeen}
use Rattle.twin_store.specs.Sides.{disk_of}
use Rattle.twin_world.specs.Logs.{Change, Pair, Texts, Made, shut_by}
use Rattle.twin_world.specs.InHand.{asked_by, uid_of, Serves, Rests}
use Rattle.twin_world.specs.Asks.{ChangesAs, LooksAs}
use Rattle.twin_world.proofs.Bridging.{made-is-step, refused-is-step, found-is-step, unseen-is-step, closing-is-step}

pub changes-as : (tells : Bool) (layout : Layout) (n : ℕ) (c : Change) (r : Result (Unit {0}) TwinRefusal) (old new : TwinSeen)
    → 1 ≤ c.serial → TwinChanges tells layout (asked_by n (Some c)) r old new → IsTrue tells → ChangesAs layout n c r old new
changes-as tells layout n c (Ok done) old new some l so =
    λ p m e s noted. made-is-step layout n p m c e old new some s
    (subst (λ b. TwinChanges {T = Unit {0}} b layout (asked_by n (Some c)) (Ok tt) old new) so l) noted
changes-as tells layout n c (Err r) old new some l so =
    λ memory p m e s noted. refused-is-step layout n p m c r e old new some memory s
    (subst (λ b. TwinChanges {T = Unit {0}} b layout (asked_by n (Some c)) (Err r) old new) so l) noted

pub looks-as : (tells : Bool) (layout : Layout) (n serial : ℕ) (r : Result (Option (List ℕ)) TwinRefusal) (old new : TwinSeen)
    → 1 ≤ serial → TwinGets tells layout (uid_of n serial) r old new → IsTrue tells → LooksAs layout n serial r old new
looks-as tells layout n serial (Ok body) old new some l so =
    λ p m e s noted. found-is-step layout n p m serial body e old new some s
    (subst (λ b. TwinGets b layout (uid_of n serial) (Ok body) old new) so l) noted
looks-as tells layout n serial (Err r) old new some l so =
    λ memory p m e s noted. unseen-is-step layout n p m serial r e old new memory s
    (subst (λ b. TwinGets b layout (uid_of n serial) (Err r) old new) so l) noted

pub closed-as : (layout : Layout) (t : TwinSeen) (one two : DiskSeen) → one ≡ disk_of t.first → two ≡ disk_of t.second → (n : ℕ) (p : Pair)
    (m : Texts) → Serves layout n p m t → Rests layout n (shut_by Made p) m one two
closed-as layout t one two is_one is_two n p m s =
    subst (λ d. Rests layout n (shut_by Made p) m d two) (sym is_one)
    (subst (λ d. Rests layout n (shut_by Made p) m (disk_of t.first) d) (sym is_two) (closing-is-step layout n p m t s))
