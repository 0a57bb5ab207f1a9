-- What holds of each Eject after any events.
use Rattle.std.proofs.Common.{◌≡◌, inl, Bool, true, List, Some, ◌∙◌, ap}
use Rattle.capability.specs.declared.Uid.{Uid}
use Rattle.eden_value.specs.Datum.{Datum}
use Rattle.move_laws.specs.Wander.{Record, Here, IsBlank}
use Rattle.move_laws.specs.OneHolder.{OneHolder}
use Rattle.move_laws.specs.World.{World, Node, settled_by, Learnt, IsBlankWorld, Run, end_of, view, at_node, flat}
use Rattle.move_laws.specs.World.{doubt_of, letters_of, OneHolderOfEach, EachShowsFresh, NoneIsLost}
use Rattle.move_laws.proofs.Holding.{Holding}
use Rattle.move_laws.proofs.KeptToo.{at-first}
use Rattle.move_laws.proofs.Says.{says, not-lost}
use Rattle.move_laws.proofs.Dues.{wake-gives}
use Rattle.move_laws.proofs.Hops.{own-site, settles, as-it-is}
use Rattle.move_laws.proofs.Events.{keeps-run}

blank-view : {V : Type 0} (u : Uid) (w : World V) → IsBlankWorld w → IsBlank (view u w)
blank-view u w b = record {
  kept = λ n. ap flat (b.kept n u);
  doubt = λ n. ap (doubt_of u) (b.doubt n);
  active = λ n. b.active n u;
  memory = λ n. b.memory n u;
  sent = ap (letters_of u) b.posted;
  last = b.last u;
  cut = b.cut u;
}

at-end : {V : Type 0} (is_long : Record V → Bool) (w : World V) (xs : List (World V)) → IsBlankWorld w → Run is_long w xs → (u : Uid)
    → Holding u.node (view u (end_of w xs))
at-end is_long w xs b run u = keeps-run is_long u w xs (at-first u.node (view u w) (blank-view u w b)) run

pub one-holder-of-each : OneHolderOfEach
one-holder-of-each is_long w xs b run u = says u.node (view u (end_of w xs)) (at-end is_long w xs b run u)

pub each-shows-fresh : EachShowsFresh
each-shows-fresh is_long w xs b run n u g v p post fits is = OneHolder.fresh (says u.node (view u (at_node n s e)) held) n g v
    (inl (ap (λ z. z.kept) (own-site u n s e) ∙ ap flat here))
  where
    e : World Datum
    e = end_of w xs

    s : Node Datum
    s = settled_by p (e.node n)

    held : Holding u.node (view u (at_node n s e))
    held = settles u.node u n (e.node n) p e fits (as-it-is u.node u n e (at-end is_long w xs b run u))

    here : s.kept u ≡ Some (Some (Here g v))
    here = let f = wake-gives (s.kept u) (Learnt true g v) post is in cc (f.2, f.3)

pub none-is-lost : NoneIsLost
none-is-lost is_long w xs b run n u has = not-lost u.node (view u (end_of w xs)) (at-end is_long w xs b run u) n has
