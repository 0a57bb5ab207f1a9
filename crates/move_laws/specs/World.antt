-- The world in which Ejects wander: nodes with their records and doubts, letters, and what each call does and answers.
use Rattle.std.specs.Prelude.{◌≡◌, ◌≢◌, ℕ, suc, ◌≤◌, ◌==◌, Bool, true, false, IsTrue, is_some, nat_lt}
use Rattle.std.specs.Prelude.{List, [], ◌∷◌, Option, None, Some, if◌then◌else◌}
use Rattle.capability.specs.declared.Uid.{Uid}
use Rattle.capability.specs.Uids.{uid_eq}
use Rattle.eden_value.specs.Datum.{Datum}
use Rattle.move_laws.specs.Wander.{Record, Here, Lent, Gone, generation, Letter, Take, Known, Contains, Site, View, IsFresh}
use Rattle.move_laws.specs.OneHolder.{OneHolder, NotLost}

-- 1. Nodes

-- a function of nodes with another value at one of them
abbrev pub at_one : {X : Type 0} → ℕ → X → (ℕ → X) → ℕ → X
at_one n x f m = if m == n then x else f m

-- a function of uids with another value at one of them
abbrev pub changed : {X : Type 0} → Uid → X → (Uid → X) → Uid → X
changed u x f v = if uid_eq v u then x else f v

-- A node: whether it is up; what its disk keeps under each uid, where Some None is what spells no record; the one change in doubt;
-- which Ejects are active; and what is in memory of those that are here: generation and value.
pub record Node (V : Type 0) : Type 0 where
  pub up : Bool
  pub kept : Uid → Option (Option (Record V))
  pub doubt : Option (Uid × Record V)
  pub active : Uid → Bool
  pub memory : Uid → Option (ℕ × V)

-- what a settling found
pub data Pick : Type 0 where
  Old : Pick
  New : Pick

-- the record is kept under its uid
abbrev pub keeping : {V : Type 0} → Uid → Record V → Node V → Node V
keeping u r n = record { up = n.up; kept = changed u (Some (Some r)) n.kept; doubt = n.doubt; active = n.active; memory = n.memory }

-- this is in doubt, or nothing
abbrev pub doubting : {V : Type 0} → Option (Uid × Record V) → Node V → Node V
doubting d n = record { up = n.up; kept = n.kept; doubt = d; active = n.active; memory = n.memory }

-- what is in memory of an Eject
abbrev pub minding : {V : Type 0} → Uid → Bool → Option (ℕ × V) → Node V → Node V
minding u active m n = record {
  up = n.up;
  kept = n.kept;
  doubt = n.doubt;
  active = changed u active n.active;
  memory = changed u m
      n.memory;
}

-- the change in doubt was made
abbrev pub made_of : {V : Type 0} → Option (Uid × Record V) → Node V → Node V
made_of None n = n
made_of (Some c) n = doubting None (keeping c.0 c.1 n)

-- the node behind a settling that found this; without one it is as it was
abbrev pub settled_by : {V : Type 0} → Option Pick → Node V → Node V
settled_by None n = n
settled_by (Some Old) n = doubting None n
settled_by (Some New) n = made_of n.doubt n

-- a settling finds something exactly where a change is in doubt
abbrev pub SettlesAs : {V : Type 0} → Option Pick → Node V → Type 0
SettlesAs p n = is_some p ≡ is_some n.doubt

-- the node went down
abbrev pub fallen : {V : Type 0} → Node V → Node V
fallen n = record { up = false; kept = n.kept; doubt = n.doubt; active = λ u. false; memory = λ u. None }

-- 2. What a call is to do

pub data Refusal : Type 0 where
  There : Refusal
  IsLent : ℕ → Refusal
  IsGone : ℕ → Refusal
  Unknown : Refusal
  Asleep : Refusal
  TooLarge : Refusal
  GenerationsSpent : Refusal
  Damaged : Refusal
  Fault : Refusal
  Stopped : Refusal
  Full : Refusal
  OutOfMemory : Refusal

-- what becomes of the memory of the Eject: it goes, it stays, or this is known, and it may be active
pub data Mind (V : Type 0) : Type 0 where
  Forgotten : Mind V
  Same : Mind V
  Learnt : Bool → ℕ → V → Mind V

-- what a call is to do by what it finds: it is refused; or answers without a put; or puts a record, and then answers
pub data Due (V : Type 0) : Type 0 where
  Refuses : Refusal → Due V
  Gives : Mind V → Option (Letter V) → Due V
  Puts : Record V → Mind V → Option (Letter V) → Due V

-- what needs the Eject here: by memory, or else by the record
abbrev pub needing_here : {V : Type 0} → Option (Option (Record V)) → Option (ℕ × V) → (ℕ → V → Due V) → Due V
needing_here None m f = Refuses Unknown
needing_here (Some r) (Some m) f = f m.0 m.1
needing_here (Some None) None f = Refuses Damaged
needing_here (Some (Some (Here g v))) None f = f g v
needing_here (Some (Some (Lent g to v))) None f = Refuses (IsLent to)
needing_here (Some (Some (Gone g to))) None f = Refuses (IsGone to)

-- a make puts the first record where there is none
abbrev pub make_by : {V : Type 0} → V → Option (Option (Record V)) → Due V
make_by v None = Puts (Here 1 v) (Learnt false 1 v) None
make_by v (Some r) = Refuses There

-- a save puts a value where the Eject is active
abbrev pub save_by : {V : Type 0} → V → Bool → ℕ → V → Due V
save_by v true g old = Puts (Here g v) (Learnt true g v) None
save_by v false g old = Refuses Asleep

-- a lending puts it as lent in the next generation, and gives the letter
abbrev pub lend_by : {V : Type 0} → ℕ → ℕ → V → Due V
lend_by to g v =
    if g == 4294967295 then Refuses GenerationsSpent else Puts (Lent (suc g) to v) Forgotten (Some (Take to (suc g) v))

-- the letter is given anew of what is lent
abbrev pub again_by : {V : Type 0} → Option (Option (Record V)) → Due V
again_by None = Refuses Unknown
again_by (Some None) = Refuses Damaged
again_by (Some (Some (Here g v))) = Refuses Unknown
again_by (Some (Some (Lent g to v))) = Gives Same (Some (Take to g v))
again_by (Some (Some (Gone g to))) = Refuses (IsGone to)

-- what came is put where no record of its generation or a later one is, and is answered in any case
abbrev pub take_by : {V : Type 0} → ℕ → ℕ → V → Option (Option (Record V)) → Due V
take_by from g v None = Puts (Here g v) Forgotten (Some (Known from g))
take_by from g v (Some None) = Refuses Damaged
take_by from g v (Some (Some r)) =
    if nat_lt (generation (Some r)) g then Puts (Here g v) Forgotten (Some (Known from g)) else Gives Same (Some (Known from g))

-- what is lent in this generation is closed
abbrev pub close_by : {V : Type 0} → ℕ → Option (Option (Record V)) → Due V
close_by g None = Gives Same None
close_by g (Some None) = Refuses Damaged
close_by g (Some (Some (Here h v))) = Gives Same None
close_by g (Some (Some (Lent h to v))) = if h == g then Puts (Gone h to) Forgotten None else Gives Same None
close_by g (Some (Some (Gone h to))) = Gives Same None

-- a waking reads the record, and makes the Eject active
abbrev pub wake_by : {V : Type 0} → ℕ → V → Due V
wake_by g v = Gives (Learnt true g v) None

-- a call on an Eject at a node
pub data Call (V : Type 0) : Type 0 where
  Make : V → Call V
  Wake : Call V
  Save : V → Call V
  Lend : ℕ → Call V
  Again : Call V
  TakeIt : ℕ → ℕ → V → Call V
  CloseIt : ℕ → ℕ → Call V

-- what it is to do, by what the node has once its doubt is settled
abbrev pub due_by : {V : Type 0} → Call V → Option (Option (Record V)) → Option (ℕ × V) → Bool → Due V
due_by (Make v) kept memory active = make_by v kept
due_by Wake kept memory active = needing_here kept None wake_by
due_by (Save v) kept memory active = needing_here kept memory (save_by v active)
due_by (Lend to) kept memory active = needing_here kept memory (lend_by to)
due_by Again kept memory active = again_by kept
due_by (TakeIt from g v) kept memory active = take_by from g v kept
due_by (CloseIt from g) kept memory active = close_by g kept

abbrev pub due : {V : Type 0} → Uid → Call V → Node V → Due V
due u c n = due_by c (n.kept u) (n.memory u) (n.active u)

-- whether it reads a record that is there
abbrev pub reads : {V : Type 0} → Call V → Option (ℕ × V) → Bool
reads (Make v) m = false
reads (Save v) (Some m) = false
reads (Lend to) (Some m) = false
reads _ m = true

-- 3. What a call does

-- a device call failed, or the disk stopped
pub data Harm : Type 0 where
  Fails : Harm
  Stops : Harm

abbrev pub refusal_of : Harm → Refusal
refusal_of Fails = Fault
refusal_of Stops = Stopped

-- a failure takes the memory of the Eject, and a stop takes the node down
abbrev pub harmed : {V : Type 0} → Harm → Uid → Node V → Node V
harmed Fails u n = minding u false None n
harmed Stops u n = fallen n

abbrev pub minded : {V : Type 0} → Mind V → Uid → Node V → Node V
minded Forgotten u n = minding u false None n
minded Same u n = n
minded (Learnt active g v) u n = minding u active (Some (g, v)) n

-- how a call ended: refused; or it answered, and put a record or not
pub data Ended (V : Type 0) : Type 0 where
  Refused : Refusal → Ended V
  Answered : Bool → Option (Letter V) → Ended V

-- What a call leaves of a node with no doubt, by what is due, and how it ended. A test says which records are too long. The call was
-- refused by what it found; or its record is too long; or has no room; or memory was wanting; or it answered without a put; or the put
-- failed, and its record is in doubt; or it was done.
pub data Acted {V : Type 0} (is_long : Record V → Bool) (u : Uid) (d : Due V) (s : Node V) (how : Ended V) (x : Node V) : Type 0 where
  Declined : (r : Refusal) → d ≡ Refuses r → how ≡ Refused r → x ≡ s → Acted is_long u d s how x
  TooLong : (r : Record V) (m : Mind V) (post : Option (Letter V)) → d ≡ Puts r m post → is_long r ≡ true
      → how ≡ Refused TooLarge → x ≡ s → Acted is_long u d s how x
  NoRoom : (r : Record V) (m : Mind V) (post : Option (Letter V)) → d ≡ Puts r m post → is_long r ≡ false
      → how ≡ Refused Full → x ≡ s → Acted is_long u d s how x
  NoMemory : how ≡ Refused OutOfMemory → x ≡ s → Acted is_long u d s how x
  Given : (m : Mind V) (post : Option (Letter V)) → d ≡ Gives m post → how ≡ Answered false post → x ≡ minded m u s
      → Acted is_long u d s how x
  Cut : (e : Harm) (r : Record V) (m : Mind V) (post : Option (Letter V)) → d ≡ Puts r m post → is_long r ≡ false
      → how ≡ Refused (refusal_of e) → x ≡ harmed e u (doubting (Some (u, r)) s) → Acted is_long u d s how x
  Done : (r : Record V) (m : Mind V) (post : Option (Letter V)) → d ≡ Puts r m post → is_long r ≡ false
      → how ≡ Answered true post → x ≡ minded m u (keeping u r s) → Acted is_long u d s how x

-- What a call leaves of its node, and how it ended: memory was wanting before anything was done; or the settling failed; or it was
-- settled, and the read failed; or what was due was done, or refused.
pub data Carried {V : Type 0} (is_long : Record V → Bool) (u : Uid) (c : Call V) (n : Node V) (how : Ended V) (x : Node V) : Type 0 where
  Starved : how ≡ Refused OutOfMemory → x ≡ n → Carried is_long u c n how x
  Unsettled : (e : Harm) → IsTrue (is_some n.doubt) → how ≡ Refused (refusal_of e) → x ≡ harmed e u n → Carried is_long u c n how x
  Unread : (p : Option Pick) → SettlesAs p n → (e : Harm) → IsTrue (is_some ((settled_by p n).kept u)) → IsTrue (reads c (n.memory u))
      → how ≡ Refused (refusal_of e) → x ≡ harmed e u (settled_by p n) → Carried is_long u c n how x
  Behind : (p : Option Pick) → SettlesAs p n → Acted is_long u (due u c (settled_by p n)) (settled_by p n) how x
      → Carried is_long u c n how x

-- 4. The world

-- a letter that was sent: about which Eject, from which node, and what
pub record Post (V : Type 0) : Type 0 where
  pub uid : Uid
  pub from : ℕ
  pub letter : Letter V

-- all nodes, all letters ever sent, and of each Eject the value that was acknowledged last and those cut short since
pub record World (V : Type 0) : Type 0 where
  pub node : ℕ → Node V
  pub posted : List (Post V)
  pub last : Uid → Option V
  pub cut : Uid → List V

-- the value that a call keeps, if it keeps one
abbrev pub value_in : {V : Type 0} → Call V → Option V
value_in (Make v) = Some v
value_in (Save v) = Some v
value_in _ = None

-- a letter that was given is on its way
abbrev pub sending : {V : Type 0} → ℕ → Uid → Ended V → List (Post V) → List (Post V)
sending n u (Refused r) ps = ps
sending n u (Answered put None) ps = ps
sending n u (Answered put (Some l)) ps = record { uid = u; from = n; letter = l } ∷ ps

-- the value that was acknowledged last
abbrev pub last_by : {V : Type 0} → Option V → Ended V → Option V → Option V
last_by (Some v) (Answered put post) l = Some v
last_by _ how l = l

-- those that were cut short since: by a fault or a stop
abbrev pub cut_by : {V : Type 0} → Option V → Ended V → List V → List V
cut_by (Some v) (Answered put post) vs = []
cut_by (Some v) (Refused Fault) vs = v ∷ vs
cut_by (Some v) (Refused Stopped) vs = v ∷ vs
cut_by _ how vs = vs

-- node n is now so
abbrev pub at_node : {V : Type 0} → ℕ → Node V → World V → World V
at_node n s w = record { node = at_one n s w.node; posted = w.posted; last = w.last; cut = w.cut }

-- the world behind a call that left its node so and ended so
abbrev pub behind : {V : Type 0} → ℕ → Uid → Call V → Ended V → Node V → World V → World V
behind n u c how s w = record {
  node = at_one n s w.node;
  posted = sending n u how w.posted;
  last = changed u (last_by (value_in c) how (w.last u)) w.last;
  cut = changed u (cut_by (value_in c) how (w.cut u)) w.cut;
}

-- an Eject is made at its home; lent to another node; and a letter is one that was sent to this node
abbrev pub IsMeant : {V : Type 0} → ℕ → Uid → Call V → World V → Type 0
IsMeant n u (Make v) w = u.node ≡ n
IsMeant n u (Lend to) w = to ≢ n
IsMeant n u (TakeIt from g v) w = (1 ≤ g) × Contains w.posted (record { uid = u; from = from; letter = Take n g v })
IsMeant n u (CloseIt from g) w = Contains w.posted (record { uid = u; from = from; letter = Known n g })
IsMeant n u _ w = Unit {0}

-- one event: a call at a node that is up; a crash; a restart, which settles the doubt, or fails; or one that changes nothing of this
pub data Happens {V : Type 0} (is_long : Record V → Bool) (w x : World V) : Type 0 where
  Called : (n : ℕ) (u : Uid) (c : Call V) (how : Ended V) (s : Node V) → (w.node n).up ≡ true → IsMeant n u c w
      → Carried is_long u c (w.node n) how s → x ≡ behind n u c how s w → Happens is_long w x
  Crashed : (n : ℕ) → x ≡ at_node n (fallen (w.node n)) w → Happens is_long w x
  Restarted : (n : ℕ) (p : Option Pick) → SettlesAs p (w.node n)
      → x ≡ at_node n (record (fallen (settled_by p (w.node n))) { up = true }) w → Happens is_long w x
  Nothing : x ≡ w → Happens is_long w x

-- worlds of which each comes from the one before by an event
abbrev pub Run : {V : Type 0} → (Record V → Bool) → World V → List (World V) → Type 0
Run is_long w [] = Unit {0}
Run is_long w (x ∷ xs) = Happens is_long w x × Run is_long x xs

abbrev pub end_of : {V : Type 0} → World V → List (World V) → World V
end_of w [] = w
end_of w (x ∷ xs) = end_of x xs

-- 5. What is seen of one Eject

-- what spells no record is none
abbrev pub flat : {V : Type 0} → Option (Option (Record V)) → Option (Record V)
flat None = None
flat (Some r) = r

-- the record of an Eject that is in doubt
abbrev pub doubt_of : {V : Type 0} → Uid → Option (Uid × Record V) → Option (Record V)
doubt_of q None = None
doubt_of q (Some c) = if uid_eq q c.0 then Some c.1 else None

abbrev pub site_of : {V : Type 0} → Uid → Node V → Site V
site_of q n = record { kept = flat (n.kept q); doubt = doubt_of q n.doubt; active = n.active q; memory = n.memory q }

-- the letters about it
abbrev pub letters_of : {V : Type 0} → Uid → List (Post V) → List (Letter V)
letters_of q [] = []
letters_of q (p ∷ ps) = if uid_eq q p.uid then p.letter ∷ letters_of q ps else letters_of q ps

abbrev pub view : {V : Type 0} → Uid → World V → View V
view q w = record { site = λ m. site_of q (w.node m); sent = letters_of q w.posted; last = w.last q; cut = w.cut q }

-- nothing is kept, in doubt or in memory, sent or acknowledged
pub record IsBlankWorld {V : Type 0} (w : World V) : Type 0 where
  pub kept : (n : ℕ) (u : Uid) → (w.node n).kept u ≡ None
  pub doubt : (n : ℕ) → (w.node n).doubt ≡ None
  pub active : (n : ℕ) (u : Uid) → (w.node n).active u ≡ false
  pub memory : (n : ℕ) (u : Uid) → (w.node n).memory u ≡ None
  pub posted : w.posted ≡ []
  pub last : (u : Uid) → w.last u ≡ None
  pub cut : (u : Uid) → w.cut u ≡ []

-- over every list of events each Eject has at most one holder
abbrev pub OneHolderOfEach : Type 0
OneHolderOfEach = (is_long : Record Datum → Bool) (w : World Datum) (xs : List (World Datum)) → IsBlankWorld w → Run is_long w xs
    → (u : Uid) → OneHolder (view u (end_of w xs))

-- and what a waking finds, once it has settled, is a value that was acknowledged last, or cut short since
abbrev pub EachShowsFresh : Type 0
EachShowsFresh = (is_long : Record Datum → Bool) (w : World Datum) (xs : List (World Datum)) → IsBlankWorld w → Run is_long w xs
    → (n : ℕ) (u : Uid) (g : ℕ) (v : Datum) (p : Option Pick) (post : Option (Letter Datum)) → SettlesAs p ((end_of w xs).node n)
    → due u Wake (settled_by p ((end_of w xs).node n)) ≡ Gives (Learnt true g v) post → IsFresh (view u (end_of w xs)) v

-- nor is any lost: where a node keeps a record of it, one keeps its value
abbrev pub NoneIsLost : Type 0
NoneIsLost = (is_long : Record Datum → Bool) (w : World Datum) (xs : List (World Datum)) → IsBlankWorld w → Run is_long w xs
    → (n : ℕ) (u : Uid) → ((view u (end_of w xs)).site n).kept ≢ None → NotLost (view u (end_of w xs))
