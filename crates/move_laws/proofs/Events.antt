-- Each event keeps the invariant of each Eject.
use Rattle.std.proofs.Common.{◌≡◌, ◌≢◌, ◌⊎◌, inl, inr, ℕ, suc, ◌≤◌, ◌<◌, Bool, true, false, List, [], ◌∷◌, Option, None, Some}
use Rattle.std.proofs.Common.{refl, sym, ◌∙◌, ap, subst, le_refl}
use Rattle.std.specs.Prelude.{if◌then◌else◌}
use Rattle.capability.specs.declared.Uid.{Uid}
use Rattle.capability.specs.Uids.{uid_eq}
use Rattle.move_laws.specs.Wander.{Record, Here, Lent, Gone, generation, Site, View, Letter, Take, Known, Contains, Turns}
use Rattle.move_laws.specs.Wander.{settled_new, putting, known_here}
use Rattle.move_laws.specs.Wander.{Settle, Learn, Acknowledge, Ask, Make, Save, Lend, Send}
use Rattle.move_laws.specs.Wander.{Receive, Answer, Close}
use Rattle.move_laws.specs.OneHolder.{OneHolder}
use Rattle.move_laws.specs.World as world
use Rattle.move_laws.specs.World.{at_one, changed, Node, Pick, Old, New, keeping, doubting, minding, made_of, settled_by, SettlesAs}
use Rattle.move_laws.specs.World.{fallen, World, at_node}
use Rattle.move_laws.specs.World.{flat, doubt_of, site_of, letters_of, view, Call, TakeIt, CloseIt, Again, Wake, due, Due, Refuses}
use Rattle.move_laws.specs.World.{Gives, Puts}
use Rattle.move_laws.specs.World.{Mind, Forgotten, Same, Learnt, minded, Harm, Fails, Stops, harmed, refusal_of, Ended, Refused}
use Rattle.move_laws.specs.World.{Answered, Post}
use Rattle.move_laws.specs.World.{Carried, Starved, Unsettled, Unread, Behind, Declined, TooLong, NoRoom, NoMemory, Given, Cut, Done}
use Rattle.move_laws.specs.World.{IsMeant, behind, sending, last_by, cut_by, value_in}
use Rattle.move_laws.specs.World.{Happens, Called, Crashed, Restarted, Nothing, Refusal, There, IsLent, IsGone, Unknown, Asleep, TooLarge}
use Rattle.move_laws.specs.World.{GenerationsSpent, Damaged, Fault, Stopped, Full, OutOfMemory}
use Rattle.move_laws.proofs.Holding.{Holding}
use Rattle.move_laws.proofs.KeptToo.{keeps}
use Rattle.move_laws.proofs.Says.{says}
use Rattle.move_laws.proofs.Dues.{FoundHere, make-puts, save-puts, lend-puts, take-puts, close-puts, make-gives, save-gives, lend-gives}
use Rattle.move_laws.proofs.Dues.{wake-gives}
use Rattle.move_laws.proofs.Dues.{wake-puts, again-gives, again-puts, take-gives, close-gives}
use Rattle.move_laws.proofs.Hops.{own-uid, uids?, changed-own, own-site, hop, stay, as-it-is, settles, settled-none}
use Rattle.move_laws.proofs.Hops.{forgets, falls, kept-else, doubt-else, mind-else}

-- the same nodes with the same letters and values
pub refit : {V : Type 0} (home : ℕ) (f : ℕ → Site V) (a b : List (Letter V)) (l m : Option V) (c d : List V) → a ≡ b → l ≡ m → c ≡ d
    → Holding home (record { site = f; sent = a; last = l; cut = c }) → Holding home (record { site = f; sent = b; last = m; cut = d })
refit home f a b l m c d p q r h = subst (Holding home) (λ i. record { site = f; sent = p i; last = q i; cut = r i }) h

-- 1. Another Eject

harm-else : {V : Type 0} (home : ℕ) (q : Uid) (n : ℕ) (u : Uid) (e : Harm) (s : Node V) (w : World V)
    → Holding home (view q (at_node n s w))
    → Holding home (view q (at_node n (harmed e u s) w))
harm-else home q n u Fails s w h = forgets home q n u s w h
harm-else home q n u Stops s w h = falls home q n s w h

minded-else : {V : Type 0} (home : ℕ) (q : Uid) (n : ℕ) (u : Uid) (m : Mind V) (s : Node V) (w : World V) → (uid_eq q u) ≡ false
    → Holding home (view q (at_node n s w))
    → Holding home (view q (at_node n (minded m u s) w))
minded-else home q n u Forgotten s w is h = forgets home q n u s w h
minded-else home q n u Same s w is h = h
minded-else home q n u (Learnt a g v) s w is h = mind-else home q n u a (Some (g, v)) s w is h

-- what is seen of the node behind a call on another Eject
pub carried-else : {V : Type 0} (is_long : Record V → Bool) (home : ℕ) (q : Uid) (n : ℕ) (u : Uid) (c : Call V) (how : Ended V)
    (x : Node V) (w : World V) → (uid_eq q u) ≡ false
    → Holding home (view q w) → Carried is_long u c (w.node n) how x → Holding home (view q (at_node n x w))
carried-else {V} is_long home q n u c how x w other h carried = go carried
  where
    now : Holding home (view q (at_node n (w.node n) w))
    now = as-it-is home q n w h

    at : (y : Node V) → x ≡ y → Holding home (view q (at_node n y w)) → Holding home (view q (at_node n x w))
    at y e k = subst (λ z. Holding home (view q (at_node n z w))) (sym e) k

    behind-settling : (p : Option Pick) → SettlesAs p (w.node n) → Holding home (view q (at_node n (settled_by p (w.node n)) w))
    behind-settling p fits = settles home q n (w.node n) p w fits now

    go : Carried is_long u c (w.node n) how x → Holding home (view q (at_node n x w))
    go (Starved is same) = at (w.node n) same now
    go (Unsettled e some is same) = at (harmed e u (w.node n)) same (harm-else home q n u e (w.node n) w now)
    go (Unread p fits e some reads is same) = at (harmed e u (settled_by p (w.node n))) same
        (harm-else home q n u e (settled_by p (w.node n)) w (behind-settling p fits))
    go (Behind p fits (Declined r due is same)) = at (settled_by p (w.node n)) same (behind-settling p fits)
    go (Behind p fits (TooLong r m post due long is same)) = at (settled_by p (w.node n)) same (behind-settling p fits)
    go (Behind p fits (NoRoom r m post due short is same)) = at (settled_by p (w.node n)) same (behind-settling p fits)
    go (Behind p fits (NoMemory is same)) = at (settled_by p (w.node n)) same (behind-settling p fits)
    go (Behind p fits (Given m post due is same)) = at (minded m u (settled_by p (w.node n))) same
        (minded-else home q n u m (settled_by p (w.node n)) w other (behind-settling p fits))
    go (Behind p fits (Cut e r m post due short is same)) = at (harmed e u (doubting (Some (u, r)) (settled_by p (w.node n)))) same
        (harm-else home q n u e (doubting (Some (u, r)) (settled_by p (w.node n))) w
        (doubt-else home q n u r (settled_by p (w.node n)) w other (settled-none (w.node n) p fits) (behind-settling p fits)))
    go (Behind p fits (Done r m post due short is same)) = at (minded m u (keeping u r (settled_by p (w.node n)))) same
        (minded-else home q n u m (keeping u r (settled_by p (w.node n))) w other
        (kept-else home q n u r (settled_by p (w.node n)) w other (behind-settling p fits)))

sent-else : {V : Type 0} (q : Uid) (n : ℕ) (u : Uid) (how : Ended V) (ps : List (Post V)) → (uid_eq q u) ≡ false
    → letters_of q ps ≡ letters_of q (sending n u how ps)
sent-else q n u (Refused r) ps is = refl
sent-else q n u (Answered put None) ps is = refl
sent-else q n u (Answered put (Some l)) ps is = sym (ap (λ b. if b then l ∷ letters_of q ps else letters_of q ps) is)

pub called-else : {V : Type 0} (is_long : Record V → Bool) (home : ℕ) (q : Uid) (n : ℕ) (u : Uid) (c : Call V) (how : Ended V)
    (x : Node V) (w : World V) → (uid_eq q u) ≡ false
    → Holding home (view q w) → Carried is_long u c (w.node n) how x → Holding home (view q (behind n u c how x w))
called-else {V} is_long home q n u c how x w other h carried = refit home (λ m. site_of q (at_one n x w.node m))
    (letters_of q w.posted) (letters_of q (sending n u how w.posted)) (w.last q) (changed u (last_by (value_in c) how (w.last u)) w.last q)
    (w.cut q) (changed u (cut_by (value_in c) how (w.cut u)) w.cut q) (sent-else q n u how w.posted other)
    (sym (ap (λ b. if b then last_by (value_in c) how (w.last u) else w.last q) other))
    (sym (ap (λ b. if b then cut_by (value_in c) how (w.cut u) else w.cut q) other))
    (carried-else is_long home q n u c how x w other h carried)

-- 2. The Eject itself

-- the world in which a value was asked for
abbrev asked : {V : Type 0} → Uid → V → World V → World V
asked u v w = record { node = w.node; posted = w.posted; last = w.last; cut = changed u (v ∷ w.cut u) w.cut }

-- the world in which a letter was sent
abbrev posting : {V : Type 0} → Post V → World V → World V
posting p w = record { node = w.node; posted = p ∷ w.posted; last = w.last; cut = w.cut }

-- the world in which a value was acknowledged
abbrev acknowledged : {V : Type 0} → Uid → V → World V → World V
acknowledged u v w = record { node = w.node; posted = w.posted; last = changed u (Some v) w.last; cut = changed u [] w.cut }

asks : {V : Type 0} (home : ℕ) (u : Uid) (n : ℕ) (s : Node V) (v : V) (w : World V) → Holding home (view u (at_node n s w))
    → Holding home (view u (at_node n s (asked u v w)))
asks home u n s v w h = keeps home (view u (at_node n s w)) (view u (at_node n s (asked u v w))) h (Ask v (record {
  sites = λ m. refl;
  sent = refl;
  last = refl;
  cut = changed-own u (v ∷ w.cut u) w.cut;
}))

-- a record of u is put: its site as a site of that kind
pub put-site : {V : Type 0} (u : Uid) (r : Record V) (s : Node V)
    → site_of u (minding u false None (doubting (Some (u, r)) s)) ≡ putting (site_of u s) r
put-site u r s i = record {
  kept = flat (s.kept u);
  doubt = if own-uid u i then Some r else None;
  active = if own-uid u i then false else s.active u;
  memory = if own-uid u i then None else s.memory u;
}

fallen-site : {V : Type 0} (u : Uid) (r : Record V) (s : Node V) → site_of u (fallen (doubting (Some (u, r)) s)) ≡ putting (site_of u s) r
fallen-site u r s i = record {
  kept = flat (s.kept u);
  doubt = if own-uid u i then Some r else None;
  active = false;
  memory = None;
}

-- the put of it is done, and its memory has gone
done-site : {V : Type 0} (u : Uid) (r : Record V) (s : Node V) → s.doubt ≡ None
    → site_of u (minding u false None (keeping u r s)) ≡ settled_new (putting (site_of u s) r) r
done-site u r s none i = record {
  kept = flat (if own-uid u i then Some (Some r) else s.kept u);
  doubt = doubt_of u (none i);
  active = if own-uid u i then false else s.active u;
  memory = if own-uid u i then None else s.memory u;
}

learnt-site : {V : Type 0} (u : Uid) (r : Record V) (a : Bool) (g : ℕ) (v : V) (s : Node V) → s.doubt ≡ None
    → site_of u (minding u a (Some (g, v)) (keeping u r s)) ≡ known_here (site_of u (minding u false None (keeping u r s))) a g v
learnt-site u r a g v s none i = record {
  kept = flat (changed u (Some (Some r)) s.kept u);
  doubt = doubt_of u (none i);
  active = if own-uid u i then a else s.active u;
  memory = if own-uid u i then Some (g, v) else s.memory u;
}

-- a letter about u is among the letters about u
sent-in : {V : Type 0} (u : Uid) (from : ℕ) (l : Letter V) (ps : List (Post V)) → Contains ps (record { uid = u; from = from; letter = l })
    → Contains (letters_of u ps) l
sent-in u from l [] c = absurd c
sent-in {V} u from l (p ∷ ps) c = go (uid_eq u p.uid) refl (sent-in u from l ps)
  where
    go : (b : Bool) → (uid_eq u p.uid) ≡ b → (Contains ps (record { uid = u; from = from; letter = l }) → Contains (letters_of u ps) l)
        → Contains (if b then p.letter ∷ letters_of u ps else letters_of u ps) l
    go true is later = elim c [ inl e ↦ inl (ap (λ (z : Post V). z.letter) e) | inr more ↦ inr (later more) ]
    go false is later = elim c [
      | inl e ↦ absurd (cc (sym (own-uid u) ∙ sym (ap (λ (z : Post V). uid_eq u z.uid) e) ∙ is))
      | inr more ↦ later more
    ]

module _ {V : Type 0} (home : ℕ) (u : Uid) (n : ℕ) (s : Node V) (w : World V) (h : Holding home (view u (at_node n s w)))
    (none : s.doubt ≡ None) where
  abbrev now : View V
  now = view u (at_node n s w)

  is-settled : (now.site n).doubt ≡ None
  is-settled = ap (λ (z : Site V). z.doubt) (own-site u n s w) ∙ ap (doubt_of u) none

  is-kept : (r : Option (Record V)) → flat (s.kept u) ≡ r → (now.site n).kept ≡ r
  is-kept r e = ap (λ (z : Site V). z.kept) (own-site u n s w) ∙ e

  is-here : (g : ℕ) (v : V) → FoundHere (s.kept u) (s.memory u) g v → (now.site n).kept ≡ Some (Here g v)
  is-here g v (inl e) = (OneHolder.memory (says home now h) n g v (ap (λ (z : Site V). z.memory) (own-site u n s w) ∙ e)).0
  is-here g v (inr e) = is-kept (Some (Here g v)) (ap flat e)

  -- the node with this record in doubt
  abbrev begun : Record V → Node V
  begun r = minding u false None (doubting (Some (u, r)) s)

  turns : (r : Record V) → Turns n (putting (now.site n) r) now (view u (at_node n (begun r) w))
  turns r = hop u n s (begun r) w (λ z. putting z r) (put-site u r s)

  -- 3. A put is begun

  made : (v : V) → home ≡ n → Contains (w.cut u) v → flat (s.kept u) ≡ None → Holding home (view u (at_node n (begun (Here 1 v)) w))
  made v at before unknown = keeps home now (view u (at_node n (begun (Here 1 v)) w)) h (Make v (record {
    unknown = subst (λ k. (now.site k).kept ≡ None) (sym at) (is-kept None unknown);
    settled = subst (λ k. (now.site k).doubt ≡ None) (sym at) is-settled;
    asked = before;
    turns = subst (λ k. Turns k (putting (now.site k) (Here 1 v)) now (view u (at_node n (begun (Here 1 v)) w))) (sym at) (turns
        (Here 1 v));
  }))

  saved : (g : ℕ) (old v : V) → Contains (w.cut u) v → FoundHere (s.kept u) (s.memory u) g old
      → Holding home (view u (at_node n (begun (Here g v)) w))
  saved g old v before found = keeps home now (view u (at_node n (begun (Here g v)) w)) h (Save n g old v (record {
    here = is-here g old found;
    settled = is-settled;
    asked = before;
    turns = turns (Here g v);
  }))

  lent : (to g : ℕ) (v : V) → to ≢ n → FoundHere (s.kept u) (s.memory u) g v
      → Holding home (view u (at_node n (begun (Lent (suc g) to v)) w))
  lent to g v apart found = keeps home now (view u (at_node n (begun (Lent (suc g) to v)) w)) h (Lend n to g v (record {
    here = is-here g v found;
    settled = is-settled;
    other = apart;
    turns = turns (Lent (suc g) to v);
  }))

  received : (from g : ℕ) (v : V) → Contains w.posted (record { uid = u; from = from; letter = Take n g v })
      → generation (flat (s.kept u)) < g → Holding home (view u (at_node n (begun (Here g v)) w))
  received from g v letter older = keeps home now (view u (at_node n (begun (Here g v)) w)) h (Receive n g v (record {
    letter = sent-in u from (Take n g v) w.posted letter;
    older = subst (λ r. generation r < g) (sym (is-kept (flat (s.kept u)) refl)) older;
    settled = is-settled;
    turns = turns (Here g v);
  }))

  closed : (from to g : ℕ) (v : V) → Contains w.posted (record { uid = u; from = from; letter = Known n g })
      → s.kept u ≡ Some (Some (Lent g to v)) → Holding home (view u (at_node n (begun (Gone g to)) w))
  closed from to g v letter is = keeps home now (view u (at_node n (begun (Gone g to)) w)) h (Close n to g v (record {
    letter = sent-in u from (Known n g) w.posted letter;
    lent = is-kept (Some (Lent g to v)) (ap flat is);
    settled = is-settled;
    turns = turns (Gone g to);
  }))

  -- 4. A put is done

  abbrev done : (r : Record V) → Node V
  done r = minding u false None (keeping u r s)

  is-done : (r : Record V) → Holding home (view u (at_node n (begun r) w)) → Holding home (view u (at_node n (done r) w))
  is-done r k = keeps home (view u (at_node n (begun r) w)) (view u (at_node n (done r) w)) k (Settle n (inr (
    r,
    ap (λ (z : Site V). z.doubt) (own-site u n (begun r) w ∙ put-site u r s),
    hop u n (begun r) (done r) w (λ z. settled_new z r) (done-site u r s none ∙ ap (λ z. settled_new z r) (sym (put-site u r s))),
  )))

  done-kept : (r : Record V) → ((view u (at_node n (done r) w)).site n).kept ≡ Some r
  done-kept r = ap (λ (z : Site V). z.kept) (own-site u n (done r) w ∙ done-site u r s none)

  done-settled : (r : Record V) → ((view u (at_node n (done r) w)).site n).doubt ≡ None
  done-settled r = ap (λ (z : Site V). z.doubt) (own-site u n (done r) w ∙ done-site u r s none)

  abbrev known : (a : Bool) (g : ℕ) (v : V) → Node V
  known a g v = minding u a (Some (g, v)) (keeping u (Here g v) s)

  is-known : (a : Bool) (g : ℕ) (v : V) → Holding home (view u (at_node n (done (Here g v)) w))
      → Holding home (view u (at_node n (known a g v) w))
  is-known a g v k = keeps home (view u (at_node n (done (Here g v)) w)) (view u (at_node n (known a g v) w)) k (Learn n a g v (record {
    here = done-kept (Here g v);
    settled = done-settled (Here g v);
    turns = hop u n (done (Here g v)) (known a g v) w (λ z. known_here z a g v) (learnt-site u (Here g v) a g v s none);
  }))

  known-kept : (a : Bool) (g : ℕ) (v : V) → ((view u (at_node n (known a g v) w)).site n).kept ≡ Some (Here g v)
  known-kept a g v = ap (λ (z : Site V). z.kept) (own-site u n (known a g v) w ∙ learnt-site u (Here g v) a g v s none)
      ∙ ap (λ (z : Site V). z.kept) (done-site u (Here g v) s none)

  known-settled : (a : Bool) (g : ℕ) (v : V) → ((view u (at_node n (known a g v) w)).site n).doubt ≡ None
  known-settled a g v = ap (λ (z : Site V). z.doubt) (own-site u n (known a g v) w ∙ learnt-site u (Here g v) a g v s none)

  -- what is read of a record that is here is known
  woken : (g : ℕ) (v : V) → s.kept u ≡ Some (Some (Here g v)) → Holding home (view u (at_node n (minding u true (Some (g, v)) s) w))
  woken g v is = keeps home now (view u (at_node n (minding u true (Some (g, v)) s) w)) h (Learn n true g v (record {
    here = is-kept (Some (Here g v)) (ap flat is);
    settled = is-settled;
    turns = hop u n s (minding u true (Some (g, v)) s) w (λ z. known_here z true g v) (λ i. record {
      kept = flat (s.kept u);
      doubt = doubt_of u (none i);
      active = if own-uid u i then true else s.active u;
      memory = if own-uid u i then Some (g, v) else s.memory u;
    });
  }))

-- 5. How a call ends

-- it is refused
refused : {V : Type 0} (home : ℕ) (u : Uid) (n : ℕ) (x : Node V) (w : World V) (o : Option V) (r : Refusal)
    → Holding home (view u (at_node n x w))
    → Holding home (record {
      site = λ m. site_of u (at_one n x w.node m);
      sent = letters_of u w.posted;
      last = changed u (last_by o (Refused r) (w.last u)) w.last u;
      cut = changed u (cut_by o (Refused r) (w.cut u)) w.cut u;
    })
refused {V} home u n x w o r h = go o r
  where
    same : (l : Option V) (c : List V) → l ≡ w.last u → c ≡ w.cut u → Holding home (record {
      site = λ m. site_of u (at_one n x w.node m);
      sent = letters_of u w.posted;
      last = changed u l w.last u;
      cut = changed u c w.cut u;
    })
    same l c el ec = refit home (λ m. site_of u (at_one n x w.node m)) (letters_of u w.posted) (letters_of u w.posted) (w.last u)
        (changed u l w.last u) (w.cut u) (changed u c w.cut u) refl (sym (changed-own u l w.last ∙ el)) (sym (changed-own u c w.cut ∙ ec)) h

    more : (v : V) → Holding home (record {
      site = λ m. site_of u (at_one n x w.node m);
      sent = letters_of u w.posted;
      last = changed u (w.last u) w.last u;
      cut = changed u (v ∷ w.cut u) w.cut u;
    })
    more v = keeps home (view u (at_node n x w)) (record {
      site = λ m. site_of u (at_one n x w.node m);
      sent = letters_of u w.posted;
      last = changed u (w.last u) w.last u;
      cut = changed u (v ∷ w.cut u) w.cut u;
    }) h (Ask v (record {
      sites = λ m. refl;
      sent = refl;
      last = changed-own u (w.last u) w.last;
      cut = changed-own u (v ∷ w.cut u) w.cut;
    }))

    go : (o : Option V) (r : Refusal) → Holding home (record {
      site = λ m. site_of u (at_one n x w.node m);
      sent = letters_of u w.posted;
      last = changed u (last_by o (Refused r) (w.last u)) w.last u;
      cut = changed u (cut_by o (Refused r) (w.cut u)) w.cut u;
    })
    go None r = same (w.last u) (w.cut u) refl refl
    go (Some v) Fault = more v
    go (Some v) Stopped = more v
    go (Some v) There = same (w.last u) (w.cut u) refl refl
    go (Some v) (IsLent to) = same (w.last u) (w.cut u) refl refl
    go (Some v) (IsGone to) = same (w.last u) (w.cut u) refl refl
    go (Some v) Unknown = same (w.last u) (w.cut u) refl refl
    go (Some v) Asleep = same (w.last u) (w.cut u) refl refl
    go (Some v) TooLarge = same (w.last u) (w.cut u) refl refl
    go (Some v) GenerationsSpent = same (w.last u) (w.cut u) refl refl
    go (Some v) Damaged = same (w.last u) (w.cut u) refl refl
    go (Some v) Full = same (w.last u) (w.cut u) refl refl
    go (Some v) OutOfMemory = same (w.last u) (w.cut u) refl refl

-- its put was cut short, behind the asking of its value
cut-short : {V : Type 0} (home : ℕ) (u : Uid) (n : ℕ) (x : Node V) (w : World V) (v : V) (e : Harm)
    → Holding home (view u (at_node n x (asked u v w)))
    → Holding home (record {
      site = λ m. site_of u (at_one n x w.node m);
      sent = letters_of u w.posted;
      last = changed u (last_by (Some v) (Refused (refusal_of e)) (w.last u)) w.last u;
      cut = changed u (cut_by (Some v) (Refused (refusal_of e)) (w.cut u)) w.cut u;
    })
cut-short {V} home u n x w v e h = go e
  where
    same : Holding home (record {
      site = λ m. site_of u (at_one n x w.node m);
      sent = letters_of u w.posted;
      last = changed u (w.last u) w.last u;
      cut = changed u (v ∷ w.cut u) w.cut u;
    })
    same = refit home (λ m. site_of u (at_one n x w.node m)) (letters_of u w.posted) (letters_of u w.posted) (w.last u)
        (changed u (w.last u) w.last u) (changed u (v ∷ w.cut u) w.cut u) (changed u (v ∷ w.cut u) w.cut u) refl
        (sym (changed-own u (w.last u) w.last)) refl h

    go : (e : Harm) → Holding home (record {
      site = λ m. site_of u (at_one n x w.node m);
      sent = letters_of u w.posted;
      last = changed u (last_by (Some v) (Refused (refusal_of e)) (w.last u)) w.last u;
      cut = changed u (cut_by (Some v) (Refused (refusal_of e)) (w.cut u)) w.cut u;
    })
    go Fails = same
    go Stops = same

-- it answered with no letter, and keeps no value
quiet : {V : Type 0} (home : ℕ) (u : Uid) (n : ℕ) (x : Node V) (w : World V) (b : Bool) → Holding home (view u (at_node n x w))
    → Holding home (record {
      site = λ m. site_of u (at_one n x w.node m);
      sent = letters_of u w.posted;
      last = changed u (w.last u) w.last u;
      cut = changed u (w.cut u) w.cut u;
    })
quiet {V} home u n x w b h = refit home (λ m. site_of u (at_one n x w.node m)) (letters_of u w.posted) (letters_of u w.posted) (w.last u)
    (changed u (w.last u) w.last u) (w.cut u) (changed u (w.cut u) w.cut u) refl (sym (changed-own u (w.last u) w.last))
    (sym (changed-own u (w.cut u) w.cut)) h

-- the letters about u behind one more
sent-more : {V : Type 0} (u : Uid) (n : ℕ) (l : Letter V) (ps : List (Post V))
    → letters_of u (record { uid = u; from = n; letter = l } ∷ ps) ≡ l ∷ letters_of u ps
sent-more u n l ps = ap (λ b. if b then l ∷ letters_of u ps else letters_of u ps) (own-uid u)

-- it was acknowledged, with its value
acknowledges : {V : Type 0} (home : ℕ) (u : Uid) (n g : ℕ) (v : V) (x : Node V) (w : World V)
    → Holding home (view u (at_node n x (asked u v w)))
    → ((view u (at_node n x (asked u v w))).site n).kept ≡ Some (Here g v) → ((view u (at_node n x (asked u v w))).site n).doubt ≡ None
    → Holding home (record {
      site = λ m. site_of u (at_one n x w.node m);
      sent = letters_of u w.posted;
      last = changed u (Some v) w.last u;
      cut = changed u [] w.cut u;
    })
acknowledges {V} home u n g v x w h here settled = keeps home (view u (at_node n x (asked u v w))) (record {
  site = λ m. site_of u (at_one n x w.node m);
  sent = letters_of u w.posted;
  last = changed u (Some v) w.last u;
  cut = changed u [] w.cut u;
}) h (Acknowledge n g v (record {
  here = here;
  settled = settled;
  sites = λ m. refl;
  sent = refl;
  last = changed-own u (Some v) w.last;
  cut = changed-own u [] w.cut;
}))

-- the letter of what is lent was sent
sends : {V : Type 0} (home : ℕ) (u : Uid) (n to g : ℕ) (v : V) (x : Node V) (w : World V) → Holding home (view u (at_node n x w))
    → ((view u (at_node n x w)).site n).kept ≡ Some (Lent g to v) → ((view u (at_node n x w)).site n).doubt ≡ None
    → Holding home (record {
      site = λ m. site_of u (at_one n x w.node m);
      sent = letters_of u (record { uid = u; from = n; letter = Take to g v } ∷ w.posted);
      last = changed u (w.last u) w.last u;
      cut = changed u (w.cut u) w.cut u;
    })
sends {V} home u n to g v x w h lent settled = keeps home (view u (at_node n x w)) (record {
  site = λ m. site_of u (at_one n x w.node m);
  sent = letters_of u (record { uid = u; from = n; letter = Take to g v } ∷ w.posted);
  last = changed u (w.last u) w.last u;
  cut = changed u (w.cut u) w.cut u;
}) h (Send n to g v (record {
  lent = lent;
  settled = settled;
  sites = λ m. refl;
  sent = sent-more u n (Take to g v) w.posted;
  last = changed-own u (w.last u) w.last;
  cut = changed-own u (w.cut u) w.cut;
}))

-- a letter that was taken is answered
answers : {V : Type 0} (home : ℕ) (u : Uid) (n from g : ℕ) (v : V) (x : Node V) (w : World V) → Holding home (view u (at_node n x w))
    → Contains w.posted (record { uid = u; from = from; letter = Take n g v })
    → g ≤ generation ((view u (at_node n x w)).site n).kept → ((view u (at_node n x w)).site n).doubt ≡ None
    → Holding home (record {
      site = λ m. site_of u (at_one n x w.node m);
      sent = letters_of u (record { uid = u; from = n; letter = Known from g } ∷ w.posted);
      last = changed u (w.last u) w.last u;
      cut = changed u (w.cut u) w.cut u;
    })
answers {V} home u n from g v x w h letter taken settled = keeps home (view u (at_node n x w)) (record {
  site = λ m. site_of u (at_one n x w.node m);
  sent = letters_of u (record { uid = u; from = n; letter = Known from g } ∷ w.posted);
  last = changed u (w.last u) w.last u;
  cut = changed u (w.cut u) w.cut u;
}) h (Answer n from g v (record {
  letter = sent-in u from (Take n g v) w.posted letter;
  taken = taken;
  settled = settled;
  sites = λ m. refl;
  sent = sent-more u n (Known from g) w.posted;
  last = changed-own u (w.last u) w.last;
  cut = changed-own u (w.cut u) w.cut;
}))

-- 6. A call on the Eject itself

-- a put that is due was begun
begins : {V : Type 0} (u : Uid) (n : ℕ) (c : Call V) (s : Node V) (w : World V) → Holding u.node (view u (at_node n s w))
    → s.doubt ≡ None → IsMeant n u c w → ((v : V) → value_in c ≡ Some v → Contains (w.cut u) v)
    → (r : Record V) (m : Mind V) (l : Option (Letter V)) → due u c s ≡ Puts r m l
    → Holding u.node (view u (at_node n (minding u false None (doubting (Some (u, r)) s)) w))
begins {V} u n c s w h none meant before r m l e = go c meant before e
  where
    to : (z : Record V) → r ≡ z → Holding u.node (view u (at_node n (minding u false None (doubting (Some (u, z)) s)) w))
        → Holding u.node (view u (at_node n (minding u false None (doubting (Some (u, r)) s)) w))
    to z is k = subst (λ z. Holding u.node (view u (at_node n (minding u false None (doubting (Some (u, z)) s)) w))) (sym is) k

    go : (c : Call V) → IsMeant n u c w → ((v : V) → value_in c ≡ Some v → Contains (w.cut u) v) → due u c s ≡ Puts r m l
        → Holding u.node (view u (at_node n (minding u false None (doubting (Some (u, r)) s)) w))
    go (world.Make v) meant before e = let f = make-puts v (s.kept u) r m l e in
        to (Here 1 v) f.1 (made u.node u n s w h none v meant (before v refl) (ap flat f.0))
    go Wake meant before e = wake-puts (s.kept u) r m l e
    go (world.Save v) meant before e = let f = save-puts v (s.active u) (s.kept u) (s.memory u) r m l e in
        to (Here f.0 v) f.3 (saved u.node u n s w h none f.0 f.1 v (before v refl) f.2)
    go (world.Lend b) meant before e = let f = lend-puts b (s.kept u) (s.memory u) r m l e in
        to (Lent (suc f.0) b f.1) f.3 (lent u.node u n s w h none b f.0 f.1 meant f.2)
    go Again meant before e = again-puts (s.kept u) r m l e
    go (TakeIt from g v) meant before e = let f = take-puts from g v (s.kept u) r m l meant.0 e in
        to (Here g v) f.1 (received u.node u n s w h none from g v meant.1 f.0)
    go (CloseIt from g) meant before e = let f = close-puts g (s.kept u) r m l e in
        to (Gone g f.0) f.3 (closed u.node u n s w h none from f.0 g f.1 meant f.2)

pub called-own : {V : Type 0} (is_long : Record V → Bool) (u : Uid) (n : ℕ) (c : Call V) (how : Ended V) (x : Node V) (w : World V)
    → Holding u.node (view u w) → IsMeant n u c w → Carried is_long u c (w.node n) how x → Holding u.node (view u (behind n u c how x w))
called-own {V} is_long u n c how x w h meant carried = go carried
  where
    at : (b : Ended V) (y : Node V) → how ≡ b → x ≡ y → Holding u.node (view u (behind n u c b y w))
        → Holding u.node (view u (behind n u c how x w))
    at b y e f k = subst (λ b. Holding u.node (view u (behind n u c b x w))) (sym e)
        (subst (λ y. Holding u.node (view u (behind n u c b y w))) (sym f) k)

    now : Holding u.node (view u (at_node n (w.node n) w))
    now = as-it-is u.node u n w h

    later : (p : Option Pick) → SettlesAs p (w.node n) → Holding u.node (view u (at_node n (settled_by p (w.node n)) w))
    later p fits = settles u.node u n (w.node n) p w fits now

    answered : (s : Node V) (m : Mind V) (l : Option (Letter V)) → s.doubt ≡ None → Holding u.node (view u (at_node n s w))
        → (c : Call V) → IsMeant n u c w → due u c s ≡ Gives m l
        → Holding u.node (view u (behind n u c (Answered false l) (minded m u s) w))
    answered s m l none k (world.Make v) meant e = make-gives v (s.kept u) m l e
    answered s m l none k Wake meant e = let f = wake-gives (s.kept u) m l e in
        subst (λ l. Holding u.node (view u (behind n u Wake (Answered false l) (minded m u s) w))) (sym f.4)
        (subst (λ m. Holding u.node (view u (behind n u Wake (Answered false None) (minded m u s) w))) (sym f.3)
        (quiet u.node u n (minding u true (Some (f.0, f.1)) s) w false (woken u.node u n s w k none f.0 f.1 f.2)))
    answered s m l none k (world.Save v) meant e = save-gives v (s.active u) (s.kept u) (s.memory u) m l e
    answered s m l none k (world.Lend b) meant e = lend-gives b (s.kept u) (s.memory u) m l e
    answered s m l none k Again meant e = let f = again-gives (s.kept u) m l e in
        subst (λ l. Holding u.node (view u (behind n u Again (Answered false l) (minded m u s) w))) (sym f.5)
        (subst (λ m. Holding u.node (view u (behind n u Again (Answered false (Some (Take f.1 f.0 f.2))) (minded m u s) w))) (sym f.4)
        (sends u.node u n f.1 f.0 f.2 s w k (is-kept u.node u n s w k none (Some (Lent f.0 f.1 f.2)) (ap flat f.3))
        (is-settled u.node u n s w k none)))
    answered s m l none k (TakeIt from g v) meant e = let f = take-gives from g v (s.kept u) m l e in
        subst (λ l. Holding u.node (view u (behind n u (TakeIt from g v) (Answered false l) (minded m u s) w))) (sym f.2)
        (subst (λ m. Holding u.node (view u (behind n u (TakeIt from g v) (Answered false (Some (Known from g))) (minded m u s) w)))
        (sym f.1)
        (answers u.node u n from g v s w k meant.1
        (subst (λ r. g ≤ generation r) (sym (is-kept u.node u n s w k none (flat (s.kept u)) refl)) f.0)
        (is-settled u.node u n s w k none)))
    answered s m l none k (CloseIt from g) meant e = let f = close-gives g (s.kept u) m l e in
        subst (λ l. Holding u.node (view u (behind n u (CloseIt from g) (Answered false l) (minded m u s) w))) (sym f.1)
        (subst (λ m. Holding u.node (view u (behind n u (CloseIt from g) (Answered false None) (minded m u s) w))) (sym f.0)
        (quiet u.node u n s w false k))

    -- a put that was begun, in the world in which its value was asked for
    in-asked : (v : V) → Contains (changed u (v ∷ w.cut u) w.cut u) v
    in-asked v = subst (λ l. Contains l v) (sym (changed-own u (v ∷ w.cut u) w.cut)) (inl refl)

    harm : (e : Harm) (s : Node V) (r : Record V) (y : World V)
        → Holding u.node (view u (at_node n (minding u false None (doubting (Some (u, r)) s)) y))
        → Holding u.node (view u (at_node n (harmed e u (doubting (Some (u, r)) s)) y))
    harm Fails s r y k = k
    harm Stops s r y k = stay u.node u n (minding u false None (doubting (Some (u, r)) s)) (fallen (doubting (Some (u, r)) s)) y
        (fallen-site u r s ∙ sym (put-site u r s)) k

    plain : {v : V} → None ≡ Some v → {A : Type 0} → A
    plain e = absurd (cc e)

    cut-one : (e : Harm) (s : Node V) (r : Record V) (m : Mind V) (l : Option (Letter V)) → s.doubt ≡ None
        → Holding u.node (view u (at_node n s w)) → (c : Call V) → IsMeant n u c w → due u c s ≡ Puts r m l
        → Holding u.node (view u (behind n u c (Refused (refusal_of e)) (harmed e u (doubting (Some (u, r)) s)) w))
    cut-one e s r m l none k (world.Make v) meant is = cut-short u.node u n (harmed e u (doubting (Some (u, r)) s)) w v e
        (harm e s r (asked u v w) (begins u n (world.Make v) s (asked u v w) (asks u.node u n s v w k) none meant
        (λ z f. subst (Contains (changed u (v ∷ w.cut u) w.cut u)) (cc f) (in-asked v)) r m l is))
    cut-one e s r m l none k (world.Save v) meant is = cut-short u.node u n (harmed e u (doubting (Some (u, r)) s)) w v e
        (harm e s r (asked u v w) (begins u n (world.Save v) s (asked u v w) (asks u.node u n s v w k) none meant
        (λ z f. subst (Contains (changed u (v ∷ w.cut u) w.cut u)) (cc f) (in-asked v)) r m l is))
    cut-one e s r m l none k Wake meant is = wake-puts (s.kept u) r m l is
    cut-one e s r m l none k Again meant is = again-puts (s.kept u) r m l is
    cut-one e s r m l none k (world.Lend b) meant is = refused u.node u n (harmed e u (doubting (Some (u, r)) s)) w None (refusal_of e)
        (harm e s r w (begins u n (world.Lend b) s w k none meant (λ z f. plain f) r m l is))
    cut-one e s r m l none k (TakeIt from g v) meant is = refused u.node u n (harmed e u (doubting (Some (u, r)) s)) w None (refusal_of e)
        (harm e s r w (begins u n (TakeIt from g v) s w k none meant (λ z f. plain f) r m l is))
    cut-one e s r m l none k (CloseIt from g) meant is = refused u.node u n (harmed e u (doubting (Some (u, r)) s)) w None (refusal_of e)
        (harm e s r w (begins u n (CloseIt from g) s w k none meant (λ z f. plain f) r m l is))

    -- a put that was done
    three : (s : Node V) (c : Call V) (l k : Option (Letter V)) (m i : Mind V) (r z : Record V) → l ≡ k → m ≡ i → r ≡ z
        → Holding u.node (view u (behind n u c (Answered true k) (minded i u (keeping u z s)) w))
        → Holding u.node (view u (behind n u c (Answered true l) (minded m u (keeping u r s)) w))
    three s c l k m i r z le me re h = subst (λ l. Holding u.node (view u (behind n u c (Answered true l) (minded m u
        (keeping u r s)) w))) (sym le)
        (subst (λ m. Holding u.node (view u (behind n u c (Answered true k) (minded m u (keeping u r s)) w))) (sym me)
        (subst (λ r. Holding u.node (view u (behind n u c (Answered true k) (minded i u (keeping u r s)) w))) (sym re) h))

    done-one : (s : Node V) (r : Record V) (m : Mind V) (l : Option (Letter V)) → s.doubt ≡ None
        → Holding u.node (view u (at_node n s w)) → (c : Call V) → IsMeant n u c w → due u c s ≡ Puts r m l
        → Holding u.node (view u (behind n u c (Answered true l) (minded m u (keeping u r s)) w))
    done-one s r m l none k (world.Make v) meant is = let f = make-puts v (s.kept u) r m l is in
        let a = asks u.node u n s v w k in let y = asked u v w in
        let b = made u.node u n s y a none v meant (in-asked v) (ap flat f.0) in
        let d = is-known u.node u n s y a none false 1 v (is-done u.node u n s y a none (Here 1 v) b) in
        three s (world.Make v) l None m (Learnt false 1 v) r (Here 1 v) f.3 f.2 f.1
        (acknowledges u.node u n 1 v (known u.node u n s y a none false 1 v) w d
        (known-kept u.node u n s y a none false 1 v) (known-settled u.node u n s y a none false 1 v))
    done-one s r m l none k (world.Save v) meant is = let f = save-puts v (s.active u) (s.kept u) (s.memory u) r m l is in
        let a = asks u.node u n s v w k in let y = asked u v w in
        let b = saved u.node u n s y a none f.0 f.1 v (in-asked v) f.2 in
        let d = is-known u.node u n s y a none true f.0 v (is-done u.node u n s y a none (Here f.0 v) b) in
        three s (world.Save v) l None m (Learnt true f.0 v) r (Here f.0 v) f.5 f.4 f.3
        (acknowledges u.node u n f.0 v (known u.node u n s y a none true f.0 v) w d
        (known-kept u.node u n s y a none true f.0 v) (known-settled u.node u n s y a none true f.0 v))
    done-one s r m l none k Wake meant is = wake-puts (s.kept u) r m l is
    done-one s r m l none k Again meant is = again-puts (s.kept u) r m l is
    done-one s r m l none k (world.Lend b) meant is = let f = lend-puts b (s.kept u) (s.memory u) r m l is in
        let z = Lent (suc f.0) b f.1 in
        let d = is-done u.node u n s w k none z (lent u.node u n s w k none b f.0 f.1 meant f.2) in
        three s (world.Lend b) l (Some (Take b (suc f.0) f.1)) m Forgotten r z f.5 f.4 f.3
        (sends u.node u n b (suc f.0) f.1 (done u.node u n s w k none z) w d
        (done-kept u.node u n s w k none z) (done-settled u.node u n s w k none z))
    done-one s r m l none k (TakeIt from g v) meant is = let f = take-puts from g v (s.kept u) r m l meant.0 is in
        let d = is-done u.node u n s w k none (Here g v) (received u.node u n s w k none from g v meant.1 f.0) in
        three s (TakeIt from g v) l (Some (Known from g)) m Forgotten r (Here g v) f.3 f.2 f.1
        (answers u.node u n from g v (done u.node u n s w k none (Here g v)) w d meant.1
        (subst (λ r. g ≤ generation r) (sym (done-kept u.node u n s w k none (Here g v))) (le_refl g))
        (done-settled u.node u n s w k none (Here g v)))
    done-one s r m l none k (CloseIt from g) meant is = let f = close-puts g (s.kept u) r m l is in
        let d = is-done u.node u n s w k none (Gone g f.0) (closed u.node u n s w k none from f.0 g f.1 meant f.2) in
        three s (CloseIt from g) l None m Forgotten r (Gone g f.0) f.5 f.4 f.3
        (quiet u.node u n (done u.node u n s w k none (Gone g f.0)) w true d)

    go : Carried is_long u c (w.node n) how x → Holding u.node (view u (behind n u c how x w))
    go (Starved is same) = at (Refused OutOfMemory) (w.node n) is same (refused u.node u n (w.node n) w (value_in c) OutOfMemory now)
    go (Unsettled e some is same) = at (Refused (refusal_of e)) (harmed e u (w.node n)) is same
        (refused u.node u n (harmed e u (w.node n)) w (value_in c) (refusal_of e) (harm-else u.node u n u e (w.node n) w now))
    go (Unread p fits e some reads is same) = at (Refused (refusal_of e)) (harmed e u (settled_by p (w.node n))) is same
        (refused u.node u n (harmed e u (settled_by p (w.node n))) w (value_in c) (refusal_of e)
        (harm-else u.node u n u e (settled_by p (w.node n)) w (later p fits)))
    go (Behind p fits (Declined r due is same)) = at (Refused r) (settled_by p (w.node n)) is same
        (refused u.node u n (settled_by p (w.node n)) w (value_in c) r (later p fits))
    go (Behind p fits (TooLong r m post due long is same)) = at (Refused TooLarge) (settled_by p (w.node n)) is same
        (refused u.node u n (settled_by p (w.node n)) w (value_in c) TooLarge (later p fits))
    go (Behind p fits (NoRoom r m post due short is same)) = at (Refused Full) (settled_by p (w.node n)) is same
        (refused u.node u n (settled_by p (w.node n)) w (value_in c) Full (later p fits))
    go (Behind p fits (NoMemory is same)) = at (Refused OutOfMemory) (settled_by p (w.node n)) is same
        (refused u.node u n (settled_by p (w.node n)) w (value_in c) OutOfMemory (later p fits))
    go (Behind p fits (Given m post due is same)) = at (Answered false post) (minded m u (settled_by p (w.node n))) is same
        (answered (settled_by p (w.node n)) m post (settled-none (w.node n) p fits) (later p fits) c meant due)
    go (Behind p fits (Cut e r m post due short is same)) = at (Refused (refusal_of e)) (harmed e u (doubting (Some (u, r))
        (settled_by p (w.node n)))) is same
        (cut-one e (settled_by p (w.node n)) r m post (settled-none (w.node n) p fits) (later p fits) c meant due)
    go (Behind p fits (Done r m post due short is same)) = at (Answered true post) (minded m u (keeping u r (settled_by p
        (w.node n)))) is same
        (done-one (settled_by p (w.node n)) r m post (settled-none (w.node n) p fits) (later p fits) c meant due)

-- 7. Each event

pub keeps-event : {V : Type 0} (is_long : Record V → Bool) (q : Uid) (w x : World V) → Holding q.node (view q w) → Happens is_long w x
    → Holding q.node (view q x)
keeps-event {V} is_long q w x h (Called n u c how s up meant carried is) = subst (λ y. Holding q.node (view q y)) (sym is) (go (uids? q u))
  where
    go : (q ≡ u) ⊎ (uid_eq q u ≡ false) → Holding q.node (view q (behind n u c how s w))
    go (inl e) = subst (λ k. Holding k.node (view k (behind n u c how s w))) (sym e)
        (called-own is_long u n c how s w (subst (λ k. Holding k.node (view k w)) e h) meant carried)
    go (inr d) = called-else is_long q.node q n u c how s w d h carried
keeps-event is_long q w x h (Crashed n is) = subst (λ y. Holding q.node (view q y)) (sym is)
    (falls q.node q n (w.node n) w (as-it-is q.node q n w h))
keeps-event {V} is_long q w x h (Restarted n p fits is) = subst (λ y. Holding q.node (view q y)) (sym is)
    (stay q.node q n (fallen (settled_by p (w.node n))) (record (fallen (settled_by p (w.node n))) { up = true }) w refl
    (falls q.node q n (settled_by p (w.node n)) w (settles q.node q n (w.node n) p w fits (as-it-is q.node q n w h))))
keeps-event is_long q w x h (Nothing is) = subst (λ y. Holding q.node (view q y)) (sym is) h

pub keeps-run : {V : Type 0} (is_long : Record V → Bool) (q : Uid) (w : World V) (xs : List (World V)) → Holding q.node (view q w)
    → world.Run is_long w xs → Holding q.node (view q (world.end_of w xs))
keeps-run is_long q w [] h run = h
keeps-run is_long q w (x ∷ xs) h run = keeps-run is_long q x xs (keeps-event is_long q w x h run.0) run.1
