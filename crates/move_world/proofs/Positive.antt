-- Generations are at least 1, in what is kept, in doubt, in memory and in letters.
use Rattle.std.proofs.Common.{◌≡◌, inl, inr, ℕ, suc, ◌≤◌, Bool, true, false, List, [], ◌∷◌, Option, None, Some, sym}
use Rattle.std.proofs.Common.{subst, arith}
use Rattle.std.specs.Prelude.{if◌then◌else◌, nat_lt, ◌==◌}
use Rattle.capability.specs.declared.Uid.{Uid}
use Rattle.capability.specs.Uids.{uid_eq}
use Rattle.move_laws.specs.Wander.{Record, Here, Lent, Gone, generation, Letter, Take, Known, Contains}
use Rattle.move_laws.specs.World as world
use Rattle.move_laws.specs.World.{at_one, changed, Node, Pick, Old, New, keeping, doubting, minding, made_of, settled_by, SettlesAs}
use Rattle.move_laws.specs.World.{fallen, World, at_node, Call, TakeIt, CloseIt, Make, Wake, Save, Lend, Again, due, due_by, Due, Refuses}
use Rattle.move_laws.specs.World.{Gives, Puts, needing_here, make_by, save_by, lend_by, again_by, take_by, close_by, wake_by}
use Rattle.move_laws.specs.World.{GenerationsSpent}
use Rattle.move_laws.specs.World.{Mind, Forgotten, Same, Learnt, minded, Harm, Fails, Stops, harmed, Ended, Refused, Answered, Post}
use Rattle.move_laws.specs.World.{sending}
use Rattle.move_laws.specs.World.{Carried, Starved, Unsettled, Unread, Behind, Acted, Declined, TooLong, NoRoom, NoMemory, Given, Cut, Done}
use Rattle.move_laws.specs.World.{behind}

-- 1. What is positive

abbrev pub IsPositive : {V : Type 0} → Option (Option (Record V)) → Type 0
IsPositive None = Unit {0}
IsPositive (Some None) = Unit {0}
IsPositive (Some (Some r)) = 1 ≤ generation (Some r)

abbrev pub IsPositiveDoubt : {V : Type 0} → Option (Uid × Record V) → Type 0
IsPositiveDoubt None = Unit {0}
IsPositiveDoubt (Some d) = 1 ≤ generation (Some d.1)

abbrev pub IsPositiveMemory : {V : Type 0} → Option (ℕ × V) → Type 0
IsPositiveMemory None = Unit {0}
IsPositiveMemory (Some m) = 1 ≤ m.0

pub record IsPositiveNode {V : Type 0} (n : Node V) : Type 0 where
  pub kept : (u : Uid) → IsPositive (n.kept u)
  pub doubt : IsPositiveDoubt n.doubt
  pub memory : (u : Uid) → IsPositiveMemory (n.memory u)

abbrev pub IsPositiveLetter : {V : Type 0} → Letter V → Type 0
IsPositiveLetter (Take to g v) = 1 ≤ g
IsPositiveLetter (Known to g) = Unit {0}

abbrev IsPositivePost : {V : Type 0} → Option (Letter V) → Type 0
IsPositivePost None = Unit {0}
IsPositivePost (Some l) = IsPositiveLetter l

abbrev pub ArePositive : {V : Type 0} → List (Post V) → Type 0
ArePositive [] = Unit {0}
ArePositive (p ∷ ps) = IsPositiveLetter p.letter × ArePositive ps

pub record IsPositiveWorld {V : Type 0} (w : World V) : Type 0 where
  pub node : (n : ℕ) → IsPositiveNode (w.node n)
  pub posted : ArePositive w.posted

-- a letter of which a call is made
abbrev pub IsPositiveCall : {V : Type 0} → Call V → Type 0
IsPositiveCall (TakeIt from g v) = 1 ≤ g
IsPositiveCall _ = Unit {0}

abbrev IsPositiveMind : {V : Type 0} → Mind V → Type 0
IsPositiveMind Forgotten = Unit {0}
IsPositiveMind Same = Unit {0}
IsPositiveMind (Learnt active g v) = 1 ≤ g

abbrev IsPositiveDue : {V : Type 0} → Due V → Type 0
IsPositiveDue (Refuses r) = Unit {0}
IsPositiveDue (Gives m post) = IsPositiveMind m × IsPositivePost post
IsPositiveDue (Puts r m post) = (1 ≤ generation (Some r)) × IsPositiveMind m × IsPositivePost post

abbrev pub IsPositiveEnded : {V : Type 0} → Ended V → Type 0
IsPositiveEnded (Refused r) = Unit {0}
IsPositiveEnded (Answered put post) = IsPositivePost post

-- 2. What is due

needed : {V : Type 0} (k : Option (Option (Record V))) (m : Option (ℕ × V)) (f : ℕ → V → Due V) → IsPositive k → IsPositiveMemory m
    → ((g : ℕ) (v : V) → 1 ≤ g → IsPositiveDue (f g v)) → IsPositiveDue (needing_here k m f)
needed None m f kept known each = tt
needed (Some k) (Some m) f kept known each = each m.0 m.1 known
needed (Some None) None f kept known each = tt
needed (Some (Some (Here g v))) None f kept known each = each g v kept
needed (Some (Some (Lent g to v))) None f kept known each = tt
needed (Some (Some (Gone g to))) None f kept known each = tt

making : {V : Type 0} (v : V) (k : Option (Option (Record V))) → IsPositiveDue (make_by v k)
making v None = (omega arith, omega arith, tt)
making v (Some r) = tt

saving : {V : Type 0} (v : V) (a : Bool) (g : ℕ) (w : V) → 1 ≤ g → IsPositiveDue (save_by v a g w)
saving v true g w h = (h, h, tt)
saving v false g w h = tt

lending : {V : Type 0} (to g : ℕ) (v : V) → IsPositiveDue (lend_by to g v)
lending {V} to g v = go (g == 4294967295)
  where
    go : (b : Bool) → IsPositiveDue (if b then Refuses GenerationsSpent else Puts (Lent (suc g) to v) Forgotten (Some (Take to (suc g) v)))
    go true = tt
    go false = (omega arith, tt, omega arith)

giving : {V : Type 0} (k : Option (Option (Record V))) → IsPositive k → IsPositiveDue (again_by k)
giving None kept = tt
giving (Some None) kept = tt
giving (Some (Some (Here g v))) kept = tt
giving (Some (Some (Lent g to v))) kept = (tt, kept)
giving (Some (Some (Gone g to))) kept = tt

taking : {V : Type 0} (from g : ℕ) (v : V) (k : Option (Option (Record V))) → 1 ≤ g → IsPositiveDue (take_by from g v k)
taking from g v None h = (h, tt, tt)
taking from g v (Some None) h = tt
taking {V} from g v (Some (Some r)) h = go (nat_lt (generation (Some r)) g)
  where
    go : (b : Bool) → IsPositiveDue (if b then Puts (Here g v) Forgotten (Some (Known from g)) else Gives Same (Some (Known from g)))
    go true = (h, tt, tt)
    go false = (tt, tt)

closing : {V : Type 0} (g : ℕ) (k : Option (Option (Record V))) → IsPositive k → IsPositiveDue (close_by g k)
closing g None kept = (tt, tt)
closing g (Some None) kept = tt
closing g (Some (Some (Here h v))) kept = (tt, tt)
closing {V} g (Some (Some (Lent h to v))) kept = go (h == g)
  where
    go : (b : Bool) → IsPositiveDue {V = V} (if b then Puts (Gone h to) Forgotten None else Gives Same None)
    go true = (kept, tt, tt)
    go false = (tt, tt)
closing g (Some (Some (Gone h to))) kept = (tt, tt)

is-due : {V : Type 0} (u : Uid) (c : Call V) (n : Node V) → IsPositiveCall c → IsPositiveNode n → IsPositiveDue (due u c n)
is-due u (Make v) n call p = making v (n.kept u)
is-due u Wake n call p = needed (n.kept u) None wake_by (p.kept u) tt (λ g v h. (h, tt))
is-due u (Save v) n call p = needed (n.kept u) (n.memory u) (save_by v (n.active u)) (p.kept u) (p.memory u) (saving v (n.active u))
is-due u (Lend to) n call p = needed (n.kept u) (n.memory u) (lend_by to) (p.kept u) (p.memory u) (λ g v h. lending to g v)
is-due u Again n call p = giving (n.kept u) (p.kept u)
is-due u (TakeIt from g v) n call p = taking from g v (n.kept u) call
is-due u (CloseIt from g) n call p = closing g (n.kept u) (p.kept u)

-- 3. What a call leaves

keeps-record : {V : Type 0} (u : Uid) (r : Record V) (n : Node V) → 1 ≤ generation (Some r) → IsPositiveNode n
    → IsPositiveNode (keeping u r n)
keeps-record {V} u r n h p = record { kept = λ v. go v (uid_eq v u); doubt = p.doubt; memory = p.memory }
  where
    go : (v : Uid) (b : Bool) → IsPositive (if b then Some (Some r) else n.kept v)
    go v true = h
    go v false = p.kept v

minds-it : {V : Type 0} (u : Uid) (a : Bool) (m : Option (ℕ × V)) (n : Node V) → IsPositiveMemory m → IsPositiveNode n
    → IsPositiveNode (minding u a m n)
minds-it {V} u a m n h p = record { kept = p.kept; doubt = p.doubt; memory = λ v. go v (uid_eq v u) }
  where
    go : (v : Uid) (b : Bool) → IsPositiveMemory (if b then m else n.memory v)
    go v true = h
    go v false = p.memory v

pub falls : {V : Type 0} (n : Node V) → IsPositiveNode n → IsPositiveNode (fallen n)
falls n p = record { kept = p.kept; doubt = p.doubt; memory = λ u. tt }

makes-it : {V : Type 0} (d : Option (Uid × Record V)) (n : Node V) → IsPositiveDoubt d → IsPositiveNode n → IsPositiveNode (made_of d n)
makes-it None n h p = p
makes-it (Some d) n h p = let q = keeps-record d.0 d.1 n h p in record { kept = q.kept; doubt = tt; memory = q.memory }

pub settles : {V : Type 0} (pick : Option Pick) (n : Node V) → IsPositiveNode n → IsPositiveNode (settled_by pick n)
settles None n p = p
settles (Some Old) n p = record { kept = p.kept; doubt = tt; memory = p.memory }
settles (Some New) n p = makes-it n.doubt n p.doubt p

harms : {V : Type 0} (e : Harm) (u : Uid) (n : Node V) → IsPositiveNode n → IsPositiveNode (harmed e u n)
harms Fails u n p = minds-it u false None n tt p
harms Stops u n p = falls n p

minds : {V : Type 0} (m : Mind V) (u : Uid) (n : Node V) → IsPositiveMind m → IsPositiveNode n → IsPositiveNode (minded m u n)
minds Forgotten u n h p = minds-it u false None n tt p
minds Same u n h p = p
minds (Learnt a g v) u n h p = minds-it u a (Some (g, v)) n h p

leaves : {V : Type 0} (how how2 : Ended V) (x x2 : Node V) → how ≡ how2 → x ≡ x2 → IsPositiveNode x2 → IsPositiveEnded how2
    → IsPositiveNode x × IsPositiveEnded how
leaves how how2 x x2 e f p q = (subst IsPositiveNode (sym f) p, subst IsPositiveEnded (sym e) q)

acted : {V : Type 0} (is_long : Record V → Bool) (u : Uid) (d : Due V) (s : Node V) (how : Ended V) (x : Node V) → IsPositiveDue d
    → IsPositiveNode s → Acted is_long u d s how x → IsPositiveNode x × IsPositiveEnded how
acted is_long u d s how x h p (Declined r is e f) = leaves how (Refused r) x s e f p tt
acted is_long u d s how x h p (TooLong r m post is long e f) = leaves how (Refused world.TooLarge) x s e f p tt
acted is_long u d s how x h p (NoRoom r m post is short e f) = leaves how (Refused world.Full) x s e f p tt
acted is_long u d s how x h p (NoMemory e f) = leaves how (Refused world.OutOfMemory) x s e f p tt
acted is_long u d s how x h p (Given m post is e f) =
    let q = subst IsPositiveDue is h in leaves how (Answered false post) x (minded m u s) e f (minds m u s q.0 p) q.1
acted is_long u d s how x h p (Cut b r m post is short e f) =
    let q = subst IsPositiveDue is h in
    leaves how (Refused (world.refusal_of b)) x (harmed b u (doubting (Some (u, r)) s)) e f
    (harms b u (doubting (Some (u, r)) s) (record { kept = p.kept; doubt = q.0; memory = p.memory })) tt
acted is_long u d s how x h p (Done r m post is short e f) =
    let q = subst IsPositiveDue is h in
    leaves how (Answered true post) x (minded m u (keeping u r s)) e f (minds m u (keeping u r s) q.1 (keeps-record u r s q.0 p)) q.2

pub carried : {V : Type 0} (is_long : Record V → Bool) (u : Uid) (c : Call V) (n : Node V) (how : Ended V) (x : Node V)
    → IsPositiveCall c → IsPositiveNode n → Carried is_long u c n how x → IsPositiveNode x × IsPositiveEnded how
carried is_long u c n how x call p (Starved e f) = leaves how (Refused world.OutOfMemory) x n e f p tt
carried is_long u c n how x call p (Unsettled b some e f) =
    leaves how (Refused (world.refusal_of b)) x (harmed b u n) e f (harms b u n p) tt
carried is_long u c n how x call p (Unread pick fits b some reads e f) =
    leaves how (Refused (world.refusal_of b)) x (harmed b u (settled_by pick n)) e f
    (harms b u (settled_by pick n) (settles pick n p)) tt
carried is_long u c n how x call p (Behind pick fits acts) =
    acted is_long u (due u c (settled_by pick n)) (settled_by pick n) how x
    (is-due u c (settled_by pick n) call (settles pick n p)) (settles pick n p) acts

-- 4. Worlds

at-node : {V : Type 0} (n : ℕ) (s : Node V) (f : ℕ → Node V) → IsPositiveNode s → ((m : ℕ) → IsPositiveNode (f m))
    → (m : ℕ) → IsPositiveNode (at_one n s f m)
at-node {V} n s f p each m = go (m == n)
  where
    go : (b : Bool) → IsPositiveNode (if b then s else f m)
    go true = p
    go false = each m

pub turned : {V : Type 0} (n : ℕ) (s : Node V) (w : World V) → IsPositiveNode s → IsPositiveWorld w → IsPositiveWorld (at_node n s w)
turned n s w p q = record { node = at-node n s w.node p q.node; posted = q.posted }

posts : {V : Type 0} (n : ℕ) (u : Uid) (how : Ended V) (ps : List (Post V)) → IsPositiveEnded how → ArePositive ps
    → ArePositive (sending n u how ps)
posts n u (Refused r) ps h p = p
posts n u (Answered put None) ps h p = p
posts n u (Answered put (Some l)) ps h p = (h, p)

pub called : {V : Type 0} (n : ℕ) (u : Uid) (c : Call V) (how : Ended V) (s : Node V) (w : World V) → IsPositiveNode s
    → IsPositiveEnded how → IsPositiveWorld w → IsPositiveWorld (behind n u c how s w)
called n u c how s w p h q = record { node = at-node n s w.node p q.node; posted = posts n u how w.posted h q.posted }

-- a letter that was sent is so
pub of-sent : {V : Type 0} (ps : List (Post V)) (p : Post V) → Contains ps p → ArePositive ps → IsPositiveLetter p.letter
of-sent [] p c h = absurd c
of-sent {V} (q ∷ ps) p c h = elim c [
  | inl e ↦ subst (λ (z : Post V). IsPositiveLetter z.letter) e h.0
  | inr more ↦ of-sent ps p more h.1
]
